-- What a running hash has read. `Fed` composes (proofs/Feeding.antt), so callers and loops need no reasoning on lists.
use Rattle.std.specs.Prelude.{ℕ, ◌+◌, ◌*◌, ◌^◌, ◌<◌, ◌≡◌, List, ◌++◌, length, take, drop}
use Rattle.standard.specs.Hash.{absorbed, compressed}
use Rattle.standard.specs.Sha256.{sha256}
use Rattle.compression.specs.Values.{eight_of}
use Rattle.sha256.specs.declared.running.Running.{Running}

-- the bytes read so far
abbrev pub bytes_read : Running → ℕ
bytes_read h = 64 * h.blocks + h.waiting

-- h has read m: its words are those of m's whole blocks, and the rest of m, less than a block, waits in scratch
pub record HasRead (m : List ℕ) (h : Running) : Type 0 where
  pub length_is : length m ≡ bytes_read h
  pub words_are : eight_of h.words ≡ (absorbed sha256 m h.blocks sha256.initial).value
  pub few : h.waiting < 64
  pub rest_waits : take h.waiting h.scratch ≡ drop (64 * h.blocks) m

-- r is h after reading x
pub record Fed (h : Running) (x : List ℕ) (r : Running) : Type 0 where
  pub after : (m : List ℕ) → HasRead m h → HasRead (m ++ x) r
  pub grown : bytes_read r ≡ bytes_read h + length x
  pub few : r.waiting < 64

-- r is h with one whole block absorbed
pub record Absorbed (h : Running) (block : List ℕ) (r : Running) : Type 0 where
  pub words_are : eight_of r.words ≡ compressed sha256 (eight_of h.words) block
  pub blocks_are : r.blocks ≡ h.blocks + 1
  pub none_waits : r.waiting ≡ 0

-- h can read n bytes more
pub record Room (h : Running) (n : ℕ) : Type 0 where
  pub few : h.waiting < 64
  pub room : bytes_read h + n < 2 ^ 64
