-- An output that is filled one hash after the other. Assumes nothing.
use mathlib.Core.Path.{◌≡◌, sym, ap, ap₂, ◌∙◌}
use mathlib.Core.List.{List, ◌++◌, append-nil}
use Prim.Native.Nat.{ℕ, ◌+◌, ◌-◌, ◌/◌, ◌%◌, ◌≤◌, ◌<◌, min}
use native.Mathlib.Nat.{le_of_eq}
use native.Mathlib.Decide.{dec_le}
use native.Mathlib.Omega.{arith}
use lib.ListN.{length, take, drop_of_length-le}
use lib.Seq.{paste, take-paste, take-append-add, take_all, length-paste}
use Rattle.standard.specs.Strings.{ceiling}
use Rattle.standard.proofs.Strings.{ceiling_unique}

-- as much of w as there is room for behind the first bytes: the output then holds what fits of all the hashes so far
pub stored_more : (out temp w : List ℕ) (at : ℕ) → at < length out → length temp ≡ at → length w ≡ 32 → take at out ≡ take (length out) temp
    → take (at + 32) (paste out at w (min 32 (length out - at))) ≡ take (length out) (temp ++ w)
stored_more out temp w at inside size whole so_far = go (dec_le (at + 32) (length out))
  where
    front : take at out ≡ temp
    front = so_far ∙ take_all (length out) temp (omega arith)

    n_is : length out ≡ length temp + (length out - at)
    n_is = omega arith

    all : take (length out) (temp ++ w) ≡ temp ++ take (length out - at) w
    all = ap (λ n. take n (temp ++ w)) n_is ∙ take-append-add temp w (length out - at)

    go : Dec (at + 32 ≤ length out) → take (at + 32) (paste out at w (min 32 (length out - at))) ≡ take (length out) (temp ++ w)
    go (yes fits) =
        let least : min 32 (length out - at) ≡ 32 = omega arith in
        rw least (take-paste out at w 32 (omega arith) (omega arith)) ∙
        ap₂ ◌++◌ front (take_all 32 w (le_of_eq whole) ∙ sym (take_all (length out - at) w (omega arith))) ∙
        sym all
    go (no short) =
        let least : min 32 (length out - at) ≡ length out - at = omega (arith, short) in
        let nothing : length out ≤ at + (length out - at) = omega arith in
        let long : length (paste out at w (length out - at)) ≤ at + 32 =
        rw (length-paste out at w (length out - at) (omega arith) (omega arith)) (omega (arith, short)) in
        rw least (take_all (at + 32) (paste out at w (length out - at)) long) ∙
        ap₂ ◌++◌ (ap (λ p. p ++ take (length out - at) w) front) (drop_of_length-le out nothing) ∙
        append-nil _ ∙
        sym all

-- the same, from what one turn made to what the next made
pub turn-stored : {next : List ℕ × List ℕ} {last : List ℕ} (temp w out new : List ℕ) (at n : ℕ)
    → next ≡ (temp ++ w, last) → length out ≡ n → at < n → length temp ≡ at → length w ≡ 32
    → take at out ≡ take n temp → new ≡ paste out at w (min 32 (length out - at)) → take (at + 32) new ≡ take n next.0
turn-stored temp w out new at n next-is out-size inside size whole so_far New-is =
    ap (take (at + 32)) New-is ∙
    stored_more out temp w at (omega arith) size whole (so_far ∙ ap (λ k. take k temp) (sym out-size)) ∙
    ap₂ take out-size (sym (ap (λ t. t.0) next-is))

-- the number of turns is ⌈ n / 32 ⌉
pub turns-are : (n at : ℕ) → at % 32 ≡ 0 → n ≤ at → at < n + 32 → ceiling n 32 ≡ at / 32
turns-are n at whole enough few =
    ceiling_unique n 32 (at / 32) (omega arith) (omega arith)
