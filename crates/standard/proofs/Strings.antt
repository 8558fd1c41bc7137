-- Laws of strings of bytes: their lengths, bytes below 256, the number that a string is and back, ceilings, and the case of the
-- empty string. Assumes nothing.
use mathlib.Core.Path.{◌≡◌, refl, sym, ap, ap₂, ◌∙◌}
use mathlib.Core.Bool.{Bool, true, false, cond}
use mathlib.Core.List.{List, [], ◌∷◌, ◌++◌, map, append_assoc, append-nil}
use Prim.Native.Nat.{ℕ, zero, suc, ◌+◌, ◌-◌, ◌*◌, ◌/◌, ◌%◌, ◌^◌, ◌≤◌, ◌<◌, suc-le-suc}
use native.Mathlib.Nat.{add_assoc, add-mul, add_right_comm, add-suc, add-zero, mul_assoc, mul-suc, mul-one, not-suc-le-zero, one-mul}
use native.Mathlib.Nat.{sub-zero, zero-add, zero-lt-suc, zero-mul, add-div_right, div-add-mod', div-div-eq-div-mul, div-eq_of_lt-le}
use native.Mathlib.Nat.{div-mul-le_self, div-one, le-div_iff_mul-le, lt-div-mul-add, mod-eq_of_lt, mod-lt, mod-one, mod_self}
use native.Mathlib.Nat.{mul-add-div_right, mul-add-mod_self_right, one-le-pow, pow-suc, pow-succ', pow-zero}
use native.Mathlib.Numerals.{add-one, one-add}
use native.Mathlib.Omega.{arith}
use lib.Arith.{digits_lt, digits_div, mod-mul}
use lib.Dec.{lit<}
use lib.ListN.{length, get_or, take, drop, replicate, length-append}
use lib.Pow.{pow-add}
use Rattle.standard.specs.Strings.{Bytes, number_of, bytes_of, ceiling, if_null}

pub bytes-nil : Bytes []
bytes-nil = record { at = λ i. lit< tt }

pub bytes-cons : {b : ℕ} {s : List ℕ} → b < 256 → Bytes s → Bytes (b ∷ s)
bytes-cons {b} {s} h t = record { at = go }
  where
    go : (i : ℕ) → get_or (b ∷ s) i 0 < 256
    go zero = h
    go (suc i) = t.at i

pub bytes_head : {b : ℕ} {s : List ℕ} → Bytes (b ∷ s) → b < 256
bytes_head h = h.at 0

pub bytes_tail : {b : ℕ} {s : List ℕ} → Bytes (b ∷ s) → Bytes s
bytes_tail h = record { at = λ i. h.at (suc i) }

-- within the string is enough
pub bytes_within : (s : List ℕ) → ((i : ℕ) → i < length s → get_or s i 0 < 256) → Bytes s
bytes_within [] h = bytes-nil
bytes_within (b ∷ s) h = bytes-cons (h 0 (zero-lt-suc (length s))) (bytes_within s (λ i l. h (suc i) (suc-le-suc l)))

pub bytes-append : {s t : List ℕ} → Bytes s → Bytes t → Bytes (s ++ t)
bytes-append {s = []} hs ht = ht
bytes-append {s = b ∷ s} hs ht = bytes-cons (bytes_head hs) (bytes-append (bytes_tail hs) ht)

pub bytes_take : (n : ℕ) {s : List ℕ} → Bytes s → Bytes (take n s)
bytes_take zero h = bytes-nil
bytes_take (suc n) {s = []} h = bytes-nil
bytes_take (suc n) {s = b ∷ s} h = bytes-cons (bytes_head h) (bytes_take n (bytes_tail h))

pub bytes_drop : (n : ℕ) {s : List ℕ} → Bytes s → Bytes (drop n s)
bytes_drop zero h = h
bytes_drop (suc n) {s = []} h = h
bytes_drop (suc n) {s = b ∷ s} h = bytes_drop n (bytes_tail h)

pub bytes-replicate : (n b : ℕ) → b < 256 → Bytes (replicate n b)
bytes-replicate zero b h = bytes-nil
bytes-replicate (suc n) b h = bytes-cons h (bytes-replicate n b h)

pub bytes-map : {f : ℕ → ℕ} → ((b : ℕ) → b < 256 → f b < 256) → {s : List ℕ} → Bytes s → Bytes (map f s)
bytes-map hf {s = []} h = bytes-nil
bytes-map hf {s = b ∷ s} h = bytes-cons (hf b (bytes_head h)) (bytes-map hf (bytes_tail h))

-- a byte is eight bits
pub pow-256 : (k : ℕ) → 256 ^ k ≡ 2 ^ (8 * k)
pow-256 zero = refl
pow-256 (suc k) =
    pow-suc 256 k ∙ ap (λ (x : ℕ). x * 256) (pow-256 k) ∙ sym (pow-add 2 (8 * k) 8) ∙ ap (λ (x : ℕ). 2 ^ x) (sym (mul-suc 8 k))

-- a string as a number
shifted_digits : (b k l x y : ℕ) → b * 256 ^ (k + l) + (x * 256 ^ l + y) ≡ (b * 256 ^ k + x) * 256 ^ l + y
shifted_digits b k l x y = simp (pow-add, add-mul, mul_assoc, add_assoc)

pub number_of-append : (s t : List ℕ) → number_of (s ++ t) ≡ number_of s * 256 ^ length t + number_of t
unfolding number_of
number_of-append [] t = sym (rw (zero-mul, zero-add))
number_of-append (b ∷ s) t =
    ap₂ (λ (k n : ℕ). b * 256 ^ k + n) (length-append s t) (number_of-append s t)
    ∙ shifted_digits b (length s) (length t) (number_of s) (number_of t)

pub number_of-lt : {s : List ℕ} → Bytes s → number_of s < 256 ^ length s
unfolding number_of
number_of-lt {s = []} h = rw pow-zero (lit< tt)
number_of-lt {s = b ∷ s} h = rw pow-succ' (digits_lt (bytes_head h) (number_of-lt (bytes_tail h)))

-- a number as a string
pub length-bytes_of : (k n : ℕ) → length (bytes_of k n) ≡ k
unfolding bytes_of
length-bytes_of zero n = refl
length-bytes_of (suc k) n = length-append (bytes_of k (n / 256)) (n % 256 ∷ []) ∙ add-one _ ∙ ap suc (length-bytes_of k (n / 256))

pub bytes-bytes_of : (k n : ℕ) → Bytes (bytes_of k n)
unfolding bytes_of
bytes-bytes_of zero n = bytes-nil
bytes-bytes_of (suc k) n = bytes-append (bytes-bytes_of k (n / 256)) (bytes-cons (mod-lt n (lit< tt)) bytes-nil)

-- the last k bytes and those before them
div-pow-suc : (n k : ℕ) → n / 256 / 256 ^ k ≡ n / 256 ^ suc k
div-pow-suc n k = div-div-eq-div-mul n 256 (256 ^ k) ∙ ap (λ (x : ℕ). n / x) (sym (pow-succ' 256 k))

bytes_of-add-zero : (j n : ℕ) → bytes_of (j + 0) n ≡ bytes_of j (n / 1) ++ []
bytes_of-add-zero j n = rw (add-zero, div-one, append-nil)

pub bytes_of-add : (j k n : ℕ) → bytes_of (j + k) n ≡ bytes_of j (n / 256 ^ k) ++ bytes_of k n
unfolding bytes_of
bytes_of-add j zero n = bytes_of-add-zero j n
bytes_of-add j (suc k) n =
    ap (λ (x : ℕ). bytes_of x n) (add-suc j k)
    ∙ ap (λ (x : List ℕ). x ++ (n % 256 ∷ [])) (bytes_of-add j k (n / 256))
    ∙ append_assoc (bytes_of j (n / 256 / 256 ^ k)) (bytes_of k (n / 256)) (n % 256 ∷ [])
    ∙ ap (λ (x : ℕ). bytes_of j x ++ bytes_of (suc k) n) (div-pow-suc n k)

pub bytes_of-cons : (k n : ℕ) → bytes_of (suc k) n ≡ n / 256 ^ k % 256 ∷ bytes_of k n
unfolding bytes_of
bytes_of-cons k n = ap (λ (x : ℕ). bytes_of x n) (sym (one-add k)) ∙ bytes_of-add 1 k n

-- what lies above k bytes is lost
low_digit : (a k n : ℕ) → (a * 256 ^ suc k + n) % 256 ≡ n % 256
low_digit a k n = rw (pow-suc, ← mul_assoc, mul-add-mod_self_right)

high_digits : (a k n : ℕ) → (a * 256 ^ suc k + n) / 256 ≡ a * 256 ^ k + n / 256
high_digits a k n = rw (pow-suc, ← mul_assoc) (mul-add-div_right (lit< tt) (a * 256 ^ k) n)

pub bytes_of_above : (a k n : ℕ) → bytes_of k (a * 256 ^ k + n) ≡ bytes_of k n
unfolding bytes_of
bytes_of_above a zero n = refl
bytes_of_above a (suc k) n =
    ap₂ (λ (x y : ℕ). bytes_of k x ++ (y ∷ [])) (high_digits a k n) (low_digit a k n)
    ∙ ap (λ (x : List ℕ). x ++ (n % 256 ∷ [])) (bytes_of_above a k (n / 256))

pub bytes_of_mod : (k n : ℕ) → bytes_of k (n % 256 ^ k) ≡ bytes_of k n
bytes_of_mod k n = sym (bytes_of_above (n / 256 ^ k) k (n % 256 ^ k)) ∙ ap (bytes_of k) (div-add-mod' n (256 ^ k))

-- there and back
mod-pow-suc : (k n : ℕ) → n / 256 % 256 ^ k * 256 + (n % 256 * 1 + 0) ≡ n % 256 ^ suc k
mod-pow-suc k n = rw (pow-suc, mul-one, add-zero) (sym (mod-mul n (one-le-pow k 256 (lit< tt)) (lit< tt)))

pub number_of-bytes_of : (k n : ℕ) → number_of (bytes_of k n) ≡ n % 256 ^ k
unfolding number_of bytes_of
number_of-bytes_of zero n = sym (mod-one n)
number_of-bytes_of (suc k) n =
    number_of-append (bytes_of k (n / 256)) (n % 256 ∷ [])
    ∙ ap (λ (x : ℕ). x * 256 + (n % 256 * 1 + 0)) (number_of-bytes_of k (n / 256))
    ∙ mod-pow-suc k n

pub bytes_of-number_of : {s : List ℕ} → Bytes s → bytes_of (length s) (number_of s) ≡ s
unfolding number_of bytes_of
bytes_of-number_of {s = []} h = refl
bytes_of-number_of {s = b ∷ s} h =
    bytes_of-cons (length s) (number_of (b ∷ s))
    ∙ ap₂ {C = List ℕ} ◌∷◌ (ap (λ (x : ℕ). x % 256) (digits_div b (number_of-lt (bytes_tail h))) ∙ mod-eq_of_lt (bytes_head h))
    (bytes_of_above b (length s) (number_of s) ∙ bytes_of-number_of (bytes_tail h))

-- ⌈ n / d ⌉ is the q with n ≤ q * d < n + d
pub le-ceiling : (n : ℕ) {d : ℕ} → 0 < d → n ≤ ceiling n d * d
unfolding ceiling
le-ceiling n {d} h = omega (arith, lt-div-mul-add {a = n + (d - 1)} h)

pub ceiling-lt : (n : ℕ) {d : ℕ} → 0 < d → ceiling n d * d < n + d
unfolding ceiling
ceiling-lt n {d} h = omega (arith, div-mul-le_self (n + (d - 1)) d)

pub ceiling_unique : (n d q : ℕ) → n ≤ q * d → q * d < n + d → ceiling n d ≡ q
unfolding ceiling
ceiling_unique n d q h l = div-eq_of_lt-le d (omega arith) (rw add-mul (omega arith))

pub ceiling-zero : {d : ℕ} → 0 < d → ceiling 0 d ≡ 0
ceiling-zero {d} h = ceiling_unique 0 d 0 (omega arith) (rw zero-mul (omega arith))

pub ceiling-add : (n : ℕ) {d : ℕ} → 0 < d → ceiling (n + d) d ≡ ceiling n d + 1
unfolding ceiling
ceiling-add n {d} h = rw (add_right_comm n d (d - 1), add-div_right)

pub ceiling-add-one : (n : ℕ) {d : ℕ} → 0 < d → ceiling (n + 1) d ≡ n / d + 1
unfolding ceiling
ceiling-add-one n {d} h = let e : n + 1 + (d - 1) ≡ n + d = omega arith in rw (e, add-div_right)

-- the next multiple of d
pub add-mod-ceiling : (n : ℕ) {d : ℕ} → 0 < d → n + (d - n % d) % d ≡ ceiling n d * d
add-mod-ceiling n {d} h = go (n % d) refl (mod-lt n h) (div-add-mod' n d)
  where
    go : (r : ℕ) → n % d ≡ r → r < d → n / d * d + n % d ≡ n → n + (d - n % d) % d ≡ ceiling n d * d
    go zero e l s = rw (e, sub-zero, mod_self, add-zero, ceiling_unique n d (n / d) (omega arith) (omega arith)) (omega arith)
    go (suc r) e l s =
        let more : (n / d + 1) * d ≡ n / d * d + d = rw (add-mul, one-mul) in
        let small : d - suc r < d = omega arith in
        rw (e, mod-eq_of_lt small, ceiling_unique n d (n / d + 1) (omega arith) (omega arith)) (omega arith)

pub ceiling_mono : {m n d : ℕ} → 0 < d → m ≤ n → ceiling m d ≤ ceiling n d
unfolding ceiling
ceiling_mono {m} {n} {d} p h = (le-div_iff_mul-le p).1 (omega (arith, div-mul-le_self (m + (d - 1)) d))

-- the empty string and any other
pub if_null-nil : {A : Type 0} (a b : A) → if_null [] a b ≡ a
unfolding if_null
if_null-nil a b = refl

pub if_null-some : {A : Type 0} (s : List ℕ) (a b : A) → 0 < length s → if_null s a b ≡ b
unfolding if_null
if_null-some [] a b h = absurd (not-suc-le-zero h)
if_null-some (x ∷ s) a b h = refl

pub if_null-map : {A B : Type 0} (f : A → B) (s : List ℕ) (a b : A) → f (if_null s a b) ≡ if_null s (f a) (f b)
unfolding if_null
if_null-map f [] a b = refl
if_null-map f (x ∷ s) a b = refl

-- what holds either way, here and for any test
pub cond_both : {A : Type 0} (P : A → Type 0) (b : Bool) {x y : A} → (b ≡ true → P x) → P y → P (cond b x y)
cond_both P true p q = p refl
cond_both P false p q = q

pub if_null_both : {A : Type 0} (P : A → Type 0) (s : List ℕ) {a b : A} → P a → P b → P (if_null s a b)
unfolding if_null
if_null_both P [] p q = p
if_null_both P (x ∷ s) p q = q
