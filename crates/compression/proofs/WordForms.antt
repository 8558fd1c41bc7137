-- Other forms of the functions on words, for words of any width: fewer operations, or fewer copies, than the document's. Assumes nothing.
use Rattle.std.proofs.Common.{◌≡◌, ℕ, zero, suc, ◌+◌, ◌-◌, ◌*◌, ◌/◌, ◌%◌, ◌^◌, ◌<◌, ◌≤◌, sym, refl, ap, ◌∙◌, subst, ap₂, le_of_suc-le-suc}
use Rattle.std.proofs.Common.{not-suc-le-zero, add-zero, add_assoc, mod-lt, mod-eq_of_lt, mul_assoc, mul_comm, add-mul, div-add-mod'}
use Rattle.std.proofs.Common.{add-one, arith, lit<, pow_pos, pow-add, shr-shr, shr_lt}
use native.Mathlib.Nat.{mul-mod_left}
use native.Mathlib.Nat.{mul-add-mod_self_right, mul-add-div_right}
use lib.Arith.{lt-one}
use lib.Bits.{bit_and, bit_or, bit_xor, and_shr, xor_shr, and_mod, xor_mod, xor_lt, xor_block, and_comm, xor_add_and, and_mask}
use lib.Bits.{or_shifted_r}
use lib.Pow.{ones_lt, mod-pow-add, shl-shr}
use Rattle.standard.specs.Words.{ROTR, complement, Ch, Maj}
use Rattle.standard.proofs.Words.{ROTR-lt}

-- ---- functions of three words that work on each digit apart

pub record Digitwise (F : ℕ → ℕ → ℕ → ℕ) : Type 0 where
  pub halves : (x y z : ℕ) → F x y z / 2 ≡ F (x / 2) (y / 2) (z / 2)
  pub odds : (x y z : ℕ) → F x y z % 2 ≡ F (x % 2) (y % 2) (z % 2)

first : Digitwise (λ x y z. x)
first = record { halves = λ x y z. refl; odds = λ x y z. refl }

second : Digitwise (λ x y z. y)
second = record { halves = λ x y z. refl; odds = λ x y z. refl }

third : Digitwise (λ x y z. z)
third = record { halves = λ x y z. refl; odds = λ x y z. refl }

module _ {F G : ℕ → ℕ → ℕ → ℕ} (f : Digitwise F) (g : Digitwise G) where
  both : Digitwise (λ x y z. bit_and (F x y z) (G x y z))
  both =
      record {
        halves = λ x y z. and_shr (F x y z) (G x y z) 1 ∙ ap₂ bit_and (f.halves x y z) (g.halves x y z);
        odds = λ x y z. and_mod (F x y z) (G x y z) 1 ∙ ap₂ bit_and (f.odds x y z) (g.odds x y z);
      }

  one : Digitwise (λ x y z. bit_xor (F x y z) (G x y z))
  one =
      record {
        halves = λ x y z. xor_shr (F x y z) (G x y z) 1 ∙ ap₂ bit_xor (f.halves x y z) (g.halves x y z);
        odds = λ x y z. xor_mod (F x y z) (G x y z) 1 ∙ ap₂ bit_xor (f.odds x y z) (g.odds x y z);
      }

by_digit : (P : ℕ → Type 0) → P 0 → P 1 → (d : ℕ) → d < 2 → P d
by_digit P p q zero h = p
by_digit P p q (suc zero) h = q
by_digit P p q (suc (suc d)) h = absurd (not-suc-le-zero (le_of_suc-le-suc (le_of_suc-le-suc h)))

half_lt : {x : ℕ} (w : ℕ) → x < 2 ^ suc w → x / 2 < 2 ^ w
half_lt {x} w h = shr_lt w 1 (subst (λ e. x < 2 ^ e) (sym (add-one w)) h)

-- equal on digits, so equal on words
module _ {F G : ℕ → ℕ → ℕ → ℕ} (f : Digitwise F) (g : Digitwise G)
    (e₀ : F 0 0 0 ≡ G 0 0 0) (e₁ : F 0 0 1 ≡ G 0 0 1) (e₂ : F 0 1 0 ≡ G 0 1 0) (e₃ : F 0 1 1 ≡ G 0 1 1)
    (e₄ : F 1 0 0 ≡ G 1 0 0) (e₅ : F 1 0 1 ≡ G 1 0 1) (e₆ : F 1 1 0 ≡ G 1 1 0) (e₇ : F 1 1 1 ≡ G 1 1 1) where
  on_digits : (x y z : ℕ) → x < 2 → y < 2 → z < 2 → F x y z ≡ G x y z
  on_digits x y z hx hy hz =
      by_digit (λ x. F x y z ≡ G x y z)
      (by_digit (λ y. F 0 y z ≡ G 0 y z) (by_digit (λ z. F 0 0 z ≡ G 0 0 z) e₀ e₁ z hz) (by_digit (λ z. F 0 1 z ≡ G 0 1 z) e₂ e₃ z hz) y hy)
      (by_digit (λ y. F 1 y z ≡ G 1 y z) (by_digit (λ z. F 1 0 z ≡ G 1 0 z) e₄ e₅ z hz) (by_digit (λ z. F 1 1 z ≡ G 1 1 z) e₆ e₇ z hz) y hy)
      x
      hx

  on_words : (w x y z : ℕ) → x < 2 ^ w → y < 2 ^ w → z < 2 ^ w → F x y z ≡ G x y z
  on_words zero x y z hx hy hz =
      ap (λ x. F x y z) (lt-one hx) ∙ ap₂ (λ y z. F 0 y z) (lt-one hy) (lt-one hz) ∙ e₀ ∙
      sym (ap (λ x. G x y z) (lt-one hx) ∙ ap₂ (λ y z. G 0 y z) (lt-one hy) (lt-one hz))
  on_words (suc w) x y z hx hy hz =
      sym (div-add-mod' (F x y z) 2) ∙
      ap₂ (λ h o. h * 2 + o)
      (f.halves x y z ∙ on_words w (x / 2) (y / 2) (z / 2) (half_lt w hx) (half_lt w hy) (half_lt w hz) ∙ sym (g.halves x y z))
      (f.odds x y z ∙
      on_digits (x % 2) (y % 2) (z % 2) (mod-lt x (lit< tt)) (mod-lt y (lit< tt)) (mod-lt z (lit< tt)) ∙
      sym (g.odds x y z)) ∙
      div-add-mod' (G x y z) 2

-- ---- Maj and Ch

-- y, but where x and y differ and y and z do: the second difference is the next turn's first
pub maj_form : (w x y z : ℕ) → x < 2 ^ w → y < 2 ^ w → z < 2 ^ w → bit_xor y (bit_and (bit_xor x y) (bit_xor y z)) ≡ Maj x y z
maj_form =
    on_words (one second (both (one first second) (one second third)))
    (one (one (both first second) (both first third)) (both second third)) refl refl refl refl refl refl refl refl

xor-and : (w x y z : ℕ) → x < 2 ^ w → y < 2 ^ w → z < 2 ^ w → bit_and (bit_xor x y) z ≡ bit_xor (bit_and x z) (bit_and y z)
xor-and = on_words (both (one first second) third) (one (both first third) (both second third)) refl refl refl refl refl refl refl refl

chosen : (w x y z : ℕ) → x < 2 ^ w → y < 2 ^ w → z < 2 ^ w
    → bit_xor z (bit_and x (bit_xor y z)) ≡ bit_xor (bit_and x y) (bit_xor z (bit_and x z))
chosen =
    on_words (one third (both first (one second third))) (one (both first second) (one third (both first third)))
    refl refl refl refl refl refl refl refl

masked : (w x : ℕ) → x < 2 ^ w → bit_and (2 ^ w - 1) x ≡ x
masked w x h = and_comm (2 ^ w - 1) x ∙ and_mask x w ∙ mod-eq_of_lt h

complement-xor : (w x : ℕ) → x < 2 ^ w → complement w x ≡ bit_xor (2 ^ w - 1) x
complement-xor w x h = omega (arith, xor_add_and (2 ^ w - 1) x, masked w x h)

complement-and : (w x z : ℕ) → x < 2 ^ w → z < 2 ^ w → bit_and (complement w x) z ≡ bit_xor z (bit_and x z)
complement-and w x z hx hz =
    ap (λ n. bit_and n z) (complement-xor w x hx) ∙
    xor-and w (2 ^ w - 1) x z (ones_lt w) hx hz ∙
    ap (λ n. bit_xor n (bit_and x z)) (masked w z hz)

-- z, but where x is set and y differs from z
pub ch_form : (w x y z : ℕ) → x < 2 ^ w → y < 2 ^ w → z < 2 ^ w → bit_xor z (bit_and x (bit_xor y z)) ≡ Ch w x y z
ch_form w x y z hx hy hz = chosen w x y z hx hy hz ∙ ap (bit_xor (bit_and x y)) (sym (complement-and w x z hx hz))

-- ---- rotations

scaled : (p n x : ℕ) → x * 2 ^ p % 2 ^ (n + p) ≡ x % 2 ^ n * 2 ^ p
scaled p n x =
    mod-pow-add (x * 2 ^ p) n p ∙ ap₂ (λ q r. q % 2 ^ n * 2 ^ p + r) (shl-shr x p) (mul-mod_left x (2 ^ p)) ∙ add-zero (x % 2 ^ n * 2 ^ p)

-- the n low digits before the others
rotation : (w n x : ℕ) → n ≤ w → x < 2 ^ w → ROTR w n x ≡ x % 2 ^ n * 2 ^ (w - n) + x / 2 ^ n
rotation w n x inside h =
    let whole : w ≡ n + (w - n) = omega arith in
    let whole' : w ≡ w - n + n = omega arith in
    ap (bit_or (x / 2 ^ n)) (ap (λ k. x * 2 ^ (w - n) % 2 ^ k) whole ∙ scaled (w - n) n x) ∙
    or_shifted_r (x % 2 ^ n) (w - n) (x / 2 ^ n) (shr_lt (w - n) n (subst (λ k. x < 2 ^ k) whole' h))

ROTR-xor : (w n x y : ℕ) → n ≤ w → x < 2 ^ w → y < 2 ^ w → ROTR w n (bit_xor x y) ≡ bit_xor (ROTR w n x) (ROTR w n y)
ROTR-xor w n x y inside hx hy =
    let whole : w ≡ w - n + n = omega arith in
    rotation w n (bit_xor x y) inside (xor_lt w x y hx hy) ∙
    ap₂ (λ l h. l * 2 ^ (w - n) + h) (xor_mod x y n) (xor_shr x y n) ∙
    sym
    (xor_block (w - n) (x % 2 ^ n) (y % 2 ^ n) (x / 2 ^ n) (y / 2 ^ n) (shr_lt (w - n) n (subst (λ k. x < 2 ^ k) whole hx))
    (shr_lt (w - n) n (subst (λ k. y < 2 ^ k) whole hy))) ∙
    sym (ap₂ bit_xor (rotation w n x inside hx) (rotation w n y inside hy))

three_parts : (u l v R C : ℕ) → u * (R * C) + (l * R + v) ≡ (u * C + l) * R + v
three_parts u l v R C =
    ap (λ k. k + (l * R + v)) (ap (λ k. u * k) (mul_comm R C) ∙ sym (mul_assoc u C R)) ∙
    sym (add_assoc (u * C * R) (l * R) v) ∙
    ap (λ k. k + v) (sym (add-mul (u * C) l R))

-- the digits in three parts: c low ones, a above them, and the rest
ROTR_twice : (w a c x : ℕ) → a + c ≤ w → x < 2 ^ w → ROTR w a (ROTR w c x) ≡ ROTR w (a + c) x
ROTR_twice w a c x inside h =
    let r = w - (a + c) in
    let l = x % 2 ^ c in
    let m = x / 2 ^ c in
    let top : w - c ≡ r + a = omega arith in
    let low : w - a ≡ r + c = omega arith in
    let shifted = ap (λ k. l * 2 ^ k) top ∙ ap (λ k. l * k) (pow-add 2 r a) ∙ sym (mul_assoc l (2 ^ r) (2 ^ a)) in
    let once : ROTR w c x ≡ l * 2 ^ r * 2 ^ a + m = rotation w c x (omega arith) h ∙ ap (λ k. k + m) shifted in
    rotation w a (ROTR w c x) (omega arith) (ROTR-lt w c x h) ∙
    ap₂ (λ y k. y % 2 ^ a * 2 ^ k + y / 2 ^ a) once low ∙
    ap₂ (λ p q. p * 2 ^ (r + c) + q) (mul-add-mod_self_right (l * 2 ^ r) (2 ^ a) m)
    (mul-add-div_right (pow_pos a) (l * 2 ^ r) m) ∙
    ap (λ k. m % 2 ^ a * k + (l * 2 ^ r + m / 2 ^ a)) (pow-add 2 r c) ∙
    three_parts (m % 2 ^ a) l (m / 2 ^ a) (2 ^ r) (2 ^ c) ∙
    ap₂ (λ p q. p * 2 ^ r + q) (sym (mod-pow-add x a c)) (shr-shr x c a ∙ ap (λ k. x / 2 ^ k) (omega arith)) ∙
    sym (rotation w (a + c) x inside h)

-- two rotations with one outside both
pub rotations : (w a c x : ℕ) → a + c ≤ w → x < 2 ^ w → ROTR w a (bit_xor x (ROTR w c x)) ≡ bit_xor (ROTR w a x) (ROTR w (a + c) x)
rotations w a c x inside h =
    ROTR-xor w a x (ROTR w c x) (omega arith) h (ROTR-lt w c x h) ∙ ap (bit_xor (ROTR w a x)) (ROTR_twice w a c x inside h)
