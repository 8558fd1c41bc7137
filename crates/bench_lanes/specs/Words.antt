-- The first words of hash values, each of a message that is one block of a text.
use Rattle.std.specs.Prelude.{ℕ, zero, suc, List}
use Rattle.std.specs.Int.Bits.{bit_xor}
use Rattle.standard.specs.Hash.{compressed, block_at}
use Rattle.standard.specs.Sha256.{sha256}

-- of block i
abbrev pub first_word : (text : List ℕ) (i : ℕ) → ℕ
first_word text i = (compressed sha256 sha256.initial (block_at sha256 text i)).a

-- of the first n blocks, as one
unfoldable pub first_words : (text : List ℕ) (n : ℕ) → ℕ
first_words text zero = 0
first_words text (suc i) = bit_xor (first_words text i) (first_word text i)
