-- Four lanes of sixteen words, one behind the other, and the hash value of each.
use Rattle.std.specs.Prelude.{ℕ, ◌*◌, ◌≡◌, List, get_or, take, drop}
use Rattle.standard.specs.Hash.{schedule, compressed}
use Rattle.standard.specs.Sha256.{sha256}
use Rattle.compression.specs.Values.{eight_of}
use Rattle.compression.specs.declared.rounds.Eight as Words

-- lane l's words
abbrev pub lane_of : (words : List ℕ) (l : ℕ) → List ℕ
lane_of words l = take 16 (drop (16 * l) words)

-- what stands past the last lane
abbrev pub no_eight : Words.Eight
no_eight = record { a = 0; b = 0; c = 0; d = 0; e = 0; f = 0; g = 0; h = 0 }

-- place l of r is the hash value of the message whose only block, padded, has the words of lane l
abbrev pub Hashed : (words : List ℕ) (r : List Words.Eight) (l : ℕ) → Type 0
Hashed words r l =
    (block : List ℕ) → lane_of words l ≡ schedule sha256 block 16 → eight_of (get_or r l no_eight) ≡ compressed sha256 sha256.initial block
