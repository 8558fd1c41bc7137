-- A field that goes where its line leads. Assumes nothing.
use Prim.Native.Nat.{ℕ, suc, ◌+◌, ◌/◌, ◌%◌, ◌<◌, ◌≤◌}
use mathlib.Core.Path.{◌≡◌, refl, ap, subst, ◌∙◌}
use mathlib.Core.Bool.{Bool, true, false, ◌&&◌, cond}
use mathlib.Core.List.{List, [], ◌∷◌, ◌++◌, append_assoc}
use native.Mathlib.Omega.{arith}
use lib.Dec.{eqb}
use lib.ListN.{length, take, set, length-set}
use lib.Seq.{take-suc-set}
use borrow.Rule.Slice.PartMut.{put_mid}
use Rattle.std.proofs.lemmas.Slice.{take-put_mid}
use Rattle.text.specs.Writing.{Appends}
use Rattle.rsp_line.specs.Hex.{bytes_of}
use Rattle.rsp_line.specs.Names.{count}
use Rattle.rsp_line.proofs.Digits.{length-bytes}
use Rattle.rsp_case.specs.Cases.{Field}
use Rattle.rsp_case.specs.Kept.{Kept}
use Rattle.rsp_case.specs.Points.{Next, Goes, Unread, headed, counted}
use Rattle.rsp_case.specs.declared.heads.Heads.{Heads}
use Rattle.rsp_case.specs.declared.point.Point.{Point}

-- a value that a line holds is short
pub value-short : (digits : List ℕ) → length digits < 4096 → length (bytes_of digits) < 2048
value-short digits few = let is = length-bytes digits in omega (arith, is, few)

-- a field's name, and its length in two bytes
pub head_written : (store : List ℕ) (at name n k : ℕ) {two : List ℕ} → two ≡ n / 256 ∷ n % 256 ∷ [] → at + 3 ≤ length store
    → Appends store at (name ∷ n / 256 ∷ n % 256 ∷ []) (at + 3) (put_mid (at + 1) k (set store at name) two)
head_written store at name n k {two} are room =
    let named = set store at name in
    let next : at + 1 ≡ suc at = omega arith in
    let long : length two ≡ 2 = ap length are in
    record {
      ends = refl;
      is = take-put_mid (at + 1) k named two (at + 3) (omega (arith, long)) (omega (arith, length-set store at name)) ∙
          ap (λ l. l ++ two) (ap (λ i. take i named) next ∙ take-suc-set store at name (omega arith)) ∙
          append_assoc (take at store) (name ∷ []) two ∙ ap (λ l. take at store ++ (name ∷ l)) are;
    }

-- where it leads is as it was
pub kept_as : {n m : Next} (f : Field) (old : List ℕ) (used : ℕ) (new : List ℕ) (used' stop : ℕ) → n ≡ m → Kept n f old used new used' stop
    → Kept m f old used new used' stop
kept_as f old used new used' stop is k = subst (λ x. Kept x f old used new used' stop) is k

-- a line that gives no field leaves the store as it was
module _ (f : Field) (store : List ℕ) (used stop : ℕ) where
  still : (b : Bool) (p : Point) → Kept (cond b (Goes p) Unread) f store used store used stop
  still true p = (refl, refl)
  still false p = (refl, refl)

  pub headed_still : (p : Point) (heads : Heads) → Kept (headed p heads) f store used store used stop
  unfolding headed
  headed_still p heads = still (eqb p.last 0) (record { heads = heads; last = 0; number = p.number })

  pub counted_still : (p : Point) (number : ℕ) → Kept (counted p number) f store used store used stop
  unfolding counted
  counted_still p number = still (eqb p.last 0 && p.heads.known) (record { heads = p.heads; last = count; number = number })
