-- HMAC's pad blocks and its keys. Assumes nothing.
use mathlib.Core.Path.{◌≡◌, sym, ap, ◌∙◌}
use mathlib.Core.List.{List, [], ◌∷◌, ◌++◌, map, map-append}
use Prim.Native.Nat.{ℕ, ◌+◌, ◌<◌}
use native.Mathlib.Nat.{le_of_eq}
use native.Mathlib.Omega.{arith}
use lib.Bits.{bit_xor}
use lib.ListN.{length, get_or, take, replicate}
use lib.Seq.{take_all}
use borrow.Author.Tests.{le-leb}
use Rattle.standard.specs.Metered.{return}
use Rattle.standard.specs.Hash.{hash}
use Rattle.standard.specs.Hmac.{xored, filled, key, hmac}
use Rattle.standard.specs.Sha256.{sha256}
use Rattle.compression.proofs.Stores.{take_more}
use Rattle.drbg_shared.specs.Costs.{costing}
use Rattle.drbg_hmac.specs.Keys.{ready}

pub xored-more : (pad : ℕ) (s : List ℕ) (i : ℕ) → i < length s
    → xored pad (take i s) ++ (bit_xor (get_or s i 0) pad ∷ []) ≡ xored pad (take (i + 1) s)
unfolding xored
xored-more pad s i h = sym (ap (map (λ b. bit_xor b pad)) (take_more s i h) ∙
    map-append (λ b. bit_xor b pad) (take i s) (get_or s i 0 ∷ []))

-- a key of 32 bytes and the zeros behind it
pub xored-filled : (pad : ℕ) (K : List ℕ) → length K ≡ 32 → xored pad (take 32 K) ++ replicate 32 pad ≡ xored pad (filled sha256 K)
unfolding xored filled
xored-filled pad K size =
    rw (take_all 32 K (le_of_eq size), size)
    (sym (map-append (λ b. bit_xor b pad) K (replicate 32 0)))

-- table 1, steps 1 and 3: such a key costs nothing
pub key-ready : (K : List ℕ) → length K ≡ 32 → key sha256 K ≡ return (ready K)
unfolding key
key-ready K size = rw (le-leb (length K) 64 (omega arith))

-- steps 5 to 9: the hash behind the inner pad, then the hash of that behind the outer one
pub hmac-is : (K text inner outer : List ℕ) (n : ℕ) → costing n inner ≡ hash sha256 (xored 0x36 (filled sha256 K) ++ text)
    → costing 2 outer ≡ hash sha256 (xored 0x5c (filled sha256 K) ++ inner) → costing (n + 2) outer ≡ hmac sha256 (ready K) text
unfolding hmac
hmac-is K text inner outer n inside outside = sym (rw (← inside, ← outside))
