-- The hash of a message whose length is known: one block for 55 bytes, two for 56 and for a block and 32. Assumes nothing.
use mathlib.Core.Path.{◌≡◌, refl, sym, ap, ap₂, ◌∙◌}
use mathlib.Core.List.{List, [], ◌∷◌, ◌++◌, append_assoc}
use Prim.Native.Nat.{ℕ, ◌+◌, ◌/◌}
use native.Mathlib.Nat.{le_of_eq, add-zero}
use native.Mathlib.Omega.{arith}
use lib.Dec.{lit<}
use lib.ListN.{length, take, drop, replicate, length-append}
use lib.Seq.{take_at, drop_at, take_all}
use Rattle.standard.specs.Strings.{bytes_of}
use Rattle.standard.specs.Hash.{absorbed, block_at, compressed, digest, hash, padded, padding, zeros}
use Rattle.standard.specs.Sha256.{sha256}
use Rattle.standard.proofs.Lengths.{length-padded}
use Rattle.standard.proofs.Counts.{absorbed-blocks}
use Rattle.drbg_shared.specs.Costs.{costing}

-- the padding is known, and the number of blocks
hash_sized : (m : List ℕ) (n k : ℕ) → length m ≡ n → (n + 8) / 64 + 1 ≡ k
    → hash sha256 m ≡ costing k (digest sha256 (absorbed sha256 (m ++ padding sha256 n) k sha256.initial).value)
unfolding hash padded
hash_sized m n k size count =
    let whole : length (padded sha256 m) / 64 ≡ k = omega (arith, length-padded sha256 (lit< tt) m) in
    rw (whole, absorbed-blocks sha256, add-zero, size)

length-padding-55 : length (padding sha256 55) ≡ 9
unfolding padding zeros bytes_of
length-padding-55 = refl

length-padding-96 : length (padding sha256 96) ≡ 32
unfolding padding zeros bytes_of
length-padding-96 = refl

-- what stands behind 55 bytes and a bit 1
padding-55 : padding sha256 55 ≡ 128 ∷ 0 ∷ 0 ∷ 0 ∷ 0 ∷ 0 ∷ 0 ∷ 1 ∷ 184 ∷ []
unfolding padding zeros bytes_of
padding-55 = refl

pub padded-55 : (m s : List ℕ) → s ≡ m ++ (128 ∷ []) → s ++ (0 ∷ 0 ∷ 0 ∷ 0 ∷ 0 ∷ 0 ∷ 1 ∷ 184 ∷ []) ≡ m ++ padding sha256 55
padded-55 m s s-is =
    ap (λ t. t ++ (0 ∷ 0 ∷ 0 ∷ 0 ∷ 0 ∷ 0 ∷ 1 ∷ 184 ∷ [])) s-is ∙
    append_assoc m (128 ∷ []) (0 ∷ 0 ∷ 0 ∷ 0 ∷ 0 ∷ 0 ∷ 1 ∷ 184 ∷ []) ∙
    ap (λ p. m ++ p) (sym padding-55)

-- the last block of a message of 55 bytes
pub hash_of_one : (m : List ℕ) → length m ≡ 55
    → hash sha256 m ≡ costing 1 (digest sha256 (compressed sha256 sha256.initial (m ++ padding sha256 55)))
unfolding absorbed block_at
hash_of_one m size =
    let long : length (m ++ padding sha256 55) ≡ 64 = length-append m (padding sha256 55) ∙ omega (arith, length-padding-55) in
    hash_sized m 55 1 size refl ∙
    ap (λ b. costing 1 (digest sha256 (compressed sha256 sha256.initial b))) (take_all 64 (m ++ padding sha256 55) (le_of_eq long))

-- a message whose padding makes two blocks of it
two_blocks : (m b₀ b₁ : List ℕ) (n : ℕ) → length m ≡ n → (n + 8) / 64 + 1 ≡ 2 → m ++ padding sha256 n ≡ b₀ ++ b₁
    → length b₀ ≡ 64 → length b₁ ≡ 64
    → hash sha256 m ≡ costing 2 (digest sha256 (compressed sha256 (compressed sha256 sha256.initial b₀) b₁))
unfolding absorbed block_at
two_blocks m b₀ b₁ n size count whole first-size last-size =
    hash_sized m n 2 size count ∙
    ap₂ (λ x y. costing 2 (digest sha256 (compressed sha256 (compressed sha256 sha256.initial x) y)))
    (ap (take 64) whole ∙ take_at b₀ b₁ 64 first-size)
    (ap (λ p. take 64 (drop 64 p)) whole ∙ ap (take 64) (drop_at b₀ b₁ 64 first-size) ∙ take_all 64 b₁ (le_of_eq last-size))

pub hash_of_two : (pad v : List ℕ) → length pad ≡ 64 → length v ≡ 32
    → hash sha256 (pad ++ v)
    ≡ costing 2 (digest sha256 (compressed sha256 (compressed sha256 sha256.initial pad) (v ++ padding sha256 96)))
hash_of_two pad v pad-size v-size =
    let long : length (v ++ padding sha256 96) ≡ 64 = length-append v (padding sha256 96) ∙ omega (arith, length-padding-96) in
    let both : length (pad ++ v) ≡ 96 = length-append pad v ∙ omega arith in
    two_blocks (pad ++ v) pad (v ++ padding sha256 96) 96 both refl (append_assoc pad v (padding sha256 96)) pad-size long

-- 56 bytes leave no room for their length
abbrev pub filling : List ℕ
filling = 128 ∷ replicate 7 0

abbrev pub ending : List ℕ
ending = replicate 62 0 ++ (1 ∷ 192 ∷ [])

padding-56 : padding sha256 56 ≡ filling ++ ending
unfolding padding zeros bytes_of
padding-56 = refl

pub hash-of-led : (m : List ℕ) → length m ≡ 56
    → hash sha256 m ≡ costing 2 (digest sha256 (compressed sha256 (compressed sha256 sha256.initial (m ++ filling)) ending))
hash-of-led m size =
    let long : length (m ++ filling) ≡ 64 = length-append m filling ∙ omega arith in
    two_blocks m (m ++ filling) ending 56 size refl (ap (λ p. m ++ p) padding-56 ∙ sym (append_assoc m filling ending)) long refl
