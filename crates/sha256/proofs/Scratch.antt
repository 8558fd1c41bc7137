-- What is stored in the scratch block: the length, and the block that is picked from it or from the lent string. Assumes nothing.
use mathlib.Core.Path.{◌≡◌, refl, sym, ap, ap₂, ◌∙◌}
use mathlib.Core.List.{List, ◌∷◌, ◌++◌}
use Prim.Native.Nat.{ℕ, zero, suc, ◌^◌, ◌+◌, ◌/◌, ◌%◌, ◌≤◌, ◌<◌}
use mathlib.Core.Bool.{cond}
use native.Mathlib.Nat.{le_of_eq, le_refl, mod-eq_of_lt, div-one}
use native.Mathlib.Decide.{dec_lt}
use native.Mathlib.Omega.{arith}
use borrow.Author.Tests.{lt-ltb, le-ltb}
use lib.Dec.{ltb}
use lib.ListN.{length-append, length, take}
use lib.Seq.{take_all, length-take-le}
use Rattle.std.specs.Int.{byte_at, bytes_high_first}
use Rattle.standard.specs.Strings.{bytes_of}
use Rattle.standard.proofs.Strings.{bytes_of-cons}

-- a number's bytes, the highest first, as the library writes them and as the standard does
pub high_first : (k n : ℕ) → bytes_high_first k n ≡ bytes_of k n
unfolding bytes_of
high_first zero n = refl
high_first (suc k) n = ap₂ ◌∷◌ (byte_is k) (high_first k n) ∙ sym (bytes_of-cons k n)
  where
    byte_is : (k : ℕ) → byte_at k n ≡ n / 256 ^ k % 256
    byte_is zero = sym (ap (λ x. x % 256) (rw div-one))
    byte_is (suc k) = refl

-- the next block, from the lent string or from scratch, is what waited and the part that fills it up
pub picked_block : (scratch old part : List ℕ) (fill : ℕ) → fill + length part ≡ 64 → length scratch ≡ 64
    → take (fill + length (take (length part % 64) part)) scratch ≡ take fill old ++ take (length part % 64) part
    → cond (ltb (length part) 64) scratch part ≡ take fill old ++ part
picked_block scratch old part fill fills size so_far = go (dec_lt (length part) 64)
  where
    go : Dec (length part < 64) → cond (ltb (length part) 64) scratch part ≡ take fill old ++ part
    go (yes few) =
        let all : take (length part % 64) part ≡ part = rw (mod-eq_of_lt few) (take_all (length part) part (le_refl _)) in
        rw (lt-ltb (length part) 64 few)
        (sym (take_all 64 scratch (le_of_eq size)) ∙ rw (all, fills) at so_far)
    go (no many) =
        let whole : 64 ≤ length part = omega (arith, many) in
        let fill_is : fill ≡ 0 = omega arith in
        rw (le-ltb (length part) 64 whole, fill_is)

pub block_size : (old part block : List ℕ) (fill : ℕ) → fill ≤ length old → fill + length part ≡ 64 → block ≡ take fill old ++ part
    → length block ≡ 64
block_size old part block fill room fills is =
    ap length is ∙ length-append (take fill old) part ∙ omega (arith, length-take-le fill old room)
