-- A message's last blocks as the code makes them: one where the length still fits behind the marked byte, else two. Assumes nothing.
use mathlib.Core.Path.{◌≡◌, sym, ap, ap₂, subst, ◌∙◌}
use mathlib.Core.List.{List, ◌∷◌, ◌++◌, append_assoc}
use Prim.Native.Nat.{ℕ, ◌+◌, ◌-◌, ◌*◌, ◌%◌, ◌^◌, ◌≤◌, ◌<◌}
use native.Mathlib.Omega.{arith}
use lib.ListN.{length, take, replicate, length-append, length-replicate, replicate-append-replicate}
use lib.Seq.{take_at}
use Rattle.standard.specs.Strings.{bytes_of}
use Rattle.standard.specs.Hash.{zeros, padding}
use Rattle.standard.specs.Sha256.{sha256}
use Rattle.sha256.specs.Fed.{Fed, Absorbed, bytes_read}
use Rattle.sha256.specs.declared.running.Running.{Running}
use Rattle.sha256.proofs.Feeding.{fed-whole, fed_then}
use Rattle.standard.proofs.Strings.{length-bytes_of, bytes_of_mod}

length-field : (n : ℕ) → bytes_of 8 (n * 8 % 2 ^ 64) ≡ bytes_of 8 (8 * n)
length-field n =
    let same : n * 8 ≡ 8 * n = omega arith in
    bytes_of_mod 8 (n * 8) ∙ ap (bytes_of 8) same

module _ (p : List ℕ) (blocks fill : ℕ) (filled : length p ≡ fill) where
  length-padding-one : fill < 56 → length (padding sha256 (64 * blocks + fill)) ≡ 64 - fill
  unfolding padding zeros
  length-padding-one few = simp (length-append, length-replicate, length-bytes_of) (omega arith)

  last_of_one :
      fill < 56 → take 56 (p ++ (0x80 ∷ replicate (63 - fill) 0)) ++ bytes_of 8 ((64 * blocks + fill) * 8 % 2 ^ 64)
      ≡ p ++ padding sha256 (64 * blocks + fill)
  unfolding padding zeros
  last_of_one few =
      let split : 63 - fill ≡ 55 - fill + 8 = omega arith in
      let count : (64 - (64 * blocks + fill + 1 + 8) % 64) % 64 ≡ 55 - fill = omega arith in
      let front : List ℕ = p ++ (0x80 ∷ replicate (55 - fill) 0) in
      let whole : length front ≡ 56 = simp (length-append, length-replicate) (omega arith) in
      let apart : p ++ (0x80 ∷ replicate (63 - fill) 0) ≡ front ++ replicate 8 0 =
      rw split
      (ap (λ q. p ++ (0x80 ∷ q)) (sym (replicate-append-replicate (55 - fill) 8 0)) ∙
      sym (append_assoc p (0x80 ∷ replicate (55 - fill) 0) (replicate 8 0))) in
      ap₂ ◌++◌ (ap (take 56) apart ∙ take_at front (replicate 8 0) 56 whole) (length-field (64 * blocks + fill)) ∙
      append_assoc p (0x80 ∷ replicate (55 - fill) 0) (bytes_of 8 (8 * (64 * blocks + fill))) ∙
      sym (rw count)

  last_of_two :
      56 ≤ fill → fill < 64
      → (0x80 ∷ replicate (63 - fill) 0) ++ (replicate 56 0 ++ bytes_of 8 ((64 * blocks + fill) * 8 % 2 ^ 64))
      ≡ padding sha256 (64 * blocks + fill)
  unfolding padding zeros
  last_of_two many few =
      let count : (64 - (64 * blocks + fill + 1 + 8) % 64) % 64 ≡ 63 - fill + 56 = omega arith in
      ap (λ q. 0x80 ∷ q)
      (sym (append_assoc (replicate (63 - fill) 0) (replicate 56 0) _) ∙
      ap₂ ◌++◌ (replicate-append-replicate (63 - fill) 56 0 ∙ ap (λ k. replicate k 0) (sym count)) (length-field (64 * blocks + fill)))

-- the block in which the padding begins, and the one with the length at its end
module _ (h : Running) (first : List ℕ) (size : length first ≡ 64) (few : h.waiting < 64)
    (first-is : first ≡ take h.waiting h.scratch ++ (0x80 ∷ replicate (63 - h.waiting) 0)) where
  -- what waits, the mark behind it, and the length field
  abbrev waits : List ℕ
  waits = take h.waiting h.scratch

  abbrev mark : List ℕ
  mark = 0x80 ∷ replicate (63 - h.waiting) 0

  abbrev field : List ℕ
  field = bytes_of 8 (bytes_read h * 8 % 2 ^ 64)

  length_waits : length waits ≡ h.waiting
  length_waits =
      let parts = length-append waits mark in
      let marks = length-replicate {A = ℕ} (63 - h.waiting) 0 in
      omega (arith, ap length first-is)

  pub fed-one_block : (r : Running) (last : List ℕ) → h.waiting < 56 → last ≡ take 56 first ++ field → length last ≡ 64 → Absorbed h last r
      → Fed h (padding sha256 (bytes_read h)) r
  fed-one_block r last small last-is last-size done =
      let long = length-padding-one waits h.blocks h.waiting length_waits small in
      let is = last-is ∙ ap (λ b. take 56 b ++ field) first-is ∙ last_of_one waits h.blocks h.waiting length_waits small in
      fed-whole h r (padding sha256 (bytes_read h)) last done (omega arith) is last-size

  pub fed_two_blocks : (q r : Running) (last : List ℕ) → 56 ≤ h.waiting → last ≡ replicate 56 0 ++ field → length last ≡ 64
      → Absorbed h first q → Absorbed q last r → Fed h (padding sha256 (bytes_read h)) r
  fed_two_blocks q r last many last-is last-size begun done =
      let marks = length-replicate {A = ℕ} (63 - h.waiting) 0 in
      let marked = fed-whole h q mark first begun (omega arith) first-is size in
      let none = sym (ap (λ n. take n q.scratch ++ last) begun.none_waits) in
      let ended = fed-whole q r last last done (omega (arith, begun.none_waits)) none last-size in
      let is = ap (λ l. mark ++ l) last-is ∙ last_of_two waits h.blocks h.waiting length_waits many few in
      subst (λ x. Fed h x r) is (fed_then marked ended)
