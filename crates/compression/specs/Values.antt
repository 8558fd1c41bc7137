-- The words of the code as those of the standard's definitions.
use Rattle.standard.specs.Hash.{Eight}
use Rattle.compression.specs.declared.rounds.Eight as Words

abbrev pub eight_of : Words.Eight → Eight
eight_of s = record { a = s.a; b = s.b; c = s.c; d = s.d; e = s.e; f = s.f; g = s.g; h = s.h }
