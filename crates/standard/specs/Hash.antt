-- FIPS 180-4 §5 and 6 over a record of parameters, of which `Sha256.sha256` is one: §6.2 and 6.4 are one text.
-- Differs from the document: the message is whole bytes; a message of 2^(2w) bits or more, which the document does not take,
-- has its length modulo 2^(2w) in the last field; the intermediate hash value H⁽ⁱ⁾ and the working variables are one record.
use Rattle.std.specs.Prelude.{ℕ, zero, suc, ◌+◌, ◌-◌, ◌*◌, ◌/◌, ◌%◌, ◌^◌, List, [], ◌∷◌, ◌++◌, cond, ltb, length, get_or, take, drop}
use Rattle.std.specs.Prelude.{replicate}
use Rattle.standard.specs.Metered.{Metered, return, ◌>>=◌}
use Rattle.standard.specs.Strings.{number_of, bytes_of}
use Rattle.standard.specs.Words.{Amounts, Ch, Maj, Σ, σ}

-- the eight words of a hash value, or the eight working variables
pub record Eight : Type 0 where
  pub a : ℕ
  pub b : ℕ
  pub c : ℕ
  pub d : ℕ
  pub e : ℕ
  pub f : ℕ
  pub g : ℕ
  pub h : ℕ

-- figure 1, §4.1.2 (4.4) to (4.7), 4.2.2, 5.3.3, 6.2.2
pub record Hash : Type 0 where
  pub word_bytes : ℕ
  pub rounds : ℕ
  pub Σ₀ : Amounts
  pub Σ₁ : Amounts
  pub σ₀ : Amounts
  pub σ₁ : Amounts
  pub K : List ℕ
  pub initial : Eight

-- figure 1: sizes, in bits for a word and else in bytes
abbrev pub word_bits : Hash → ℕ
word_bits H = 8 * H.word_bytes

abbrev pub block_bytes : Hash → ℕ
block_bytes H = 16 * H.word_bytes

abbrev pub out_bytes : Hash → ℕ
out_bytes H = 8 * H.word_bytes

abbrev pub length_bytes : Hash → ℕ
length_bytes H = 2 * H.word_bytes

-- §3.2, 1: addition of words is modulo 2^w
abbrev pub plus : Hash → ℕ → ℕ → ℕ
plus H x y = (x + y) % 2 ^ word_bits H

-- §5.1: a bit 1, the least number of zeros, the length in bits; after a message of n bytes
unfoldable pub zeros : Hash → ℕ → ℕ
zeros H n = (block_bytes H - (n + 1 + length_bytes H) % block_bytes H) % block_bytes H

unfoldable pub padding : Hash → ℕ → List ℕ
padding H n = 0x80 ∷ (replicate (zeros H n) 0x00 ++ bytes_of (length_bytes H) (8 * n))

unfoldable pub padded : Hash → List ℕ → List ℕ
padded H m = m ++ padding H (length m)

-- §5.2: block i of a padded message, and word t of a block
unfoldable pub block_at : Hash → List ℕ → ℕ → List ℕ
block_at H m i = take (block_bytes H) (drop (block_bytes H * i) m)

unfoldable pub word_at : Hash → List ℕ → ℕ → ℕ
word_at H block t = number_of (take H.word_bytes (drop (H.word_bytes * t) block))

module _ (H : Hash) where
  infixl 65 ◌⊞◌
  abbrev ◌⊞◌ : ℕ → ℕ → ℕ
  x ⊞ y = plus H x y

  -- §6.2.2, 1: word t of the schedule from the words W before it
  unfoldable pub schedule_word : (block W : List ℕ) (t : ℕ) → ℕ
  schedule_word block W t =
      cond (ltb t 16) (word_at H block t)
      (σ (word_bits H) H.σ₁ (get_or W (t - 2) 0) ⊞ get_or W (t - 7) 0 ⊞ σ (word_bits H) H.σ₀ (get_or W (t - 15) 0) ⊞ get_or W (t - 16) 0)

  -- the first n words of the schedule
  unfoldable pub schedule : (block : List ℕ) (n : ℕ) → List ℕ
  schedule block zero = []
  schedule block (suc t) = schedule block t ++ (schedule_word block (schedule block t) t ∷ [])

  -- §6.2.2, 3: one turn, and the first n turns
  unfoldable pub T₁ : (s : Eight) (Kₜ Wₜ : ℕ) → ℕ
  T₁ s Kₜ Wₜ = s.h ⊞ Σ (word_bits H) H.Σ₁ s.e ⊞ Ch (word_bits H) s.e s.f s.g ⊞ Kₜ ⊞ Wₜ

  unfoldable pub T₂ : Eight → ℕ
  T₂ s = Σ (word_bits H) H.Σ₀ s.a ⊞ Maj s.a s.b s.c

  unfoldable pub turn : (s : Eight) (Kₜ Wₜ : ℕ) → Eight
  turn s Kₜ Wₜ =
      record {
        a = T₁ s Kₜ Wₜ ⊞ T₂ s;
        b = s.a;
        c = s.b;
        d = s.c;
        e = s.d ⊞ T₁ s Kₜ Wₜ;
        f = s.e;
        g = s.f;
        h = s.g;
      }

  unfoldable pub turns : (W : List ℕ) (n : ℕ) → Eight → Eight
  turns W zero s = s
  turns W (suc t) s = turn (turns W t s) (get_or H.K t 0) (get_or W t 0)

  -- §6.2.2, 4
  unfoldable pub added : Eight → Eight → Eight
  added s v =
      record {
        a = v.a ⊞ s.a;
        b = v.b ⊞ s.b;
        c = v.c ⊞ s.c;
        d = v.d ⊞ s.d;
        e = v.e ⊞ s.e;
        f = v.f ⊞ s.f;
        g = v.g ⊞ s.g;
        h = v.h ⊞ s.h;
      }

  -- §6.2.2, 1 to 4: H⁽ⁱ⁾ from H⁽ⁱ⁻¹⁾ and block i. The one step that costs a block
  unfoldable pub compressed : Eight → List ℕ → Eight
  compressed s block = added s (turns (schedule block H.rounds) H.rounds s)

  abbrev pub absorb : Eight → List ℕ → Metered Eight
  absorb s block = record { value = compressed s block; blocks = 1 }

  -- §6.2.2: the first n blocks of a padded message
  unfoldable pub absorbed : (m : List ℕ) (n : ℕ) → Eight → Metered Eight
  absorbed m zero s = return s
  absorbed m (suc i) s = do
    s ← absorbed m i s
    absorb s (block_at H m i)

  -- §6.2.2, last: H₀ ‖ .. ‖ H₇
  unfoldable pub digest : Eight → List ℕ
  digest s =
      bytes_of H.word_bytes s.a ++
      (bytes_of H.word_bytes s.b ++
      (bytes_of H.word_bytes s.c ++
      (bytes_of H.word_bytes s.d ++
      (bytes_of H.word_bytes s.e ++
      (bytes_of H.word_bytes s.f ++ (bytes_of H.word_bytes s.g ++ bytes_of H.word_bytes s.h))))))

  -- §6.2: the hash of a message
  unfoldable pub hash : List ℕ → Metered (List ℕ)
  hash m = do
    s ← absorbed (padded H m) (length (padded H m) / block_bytes H) H.initial
    return (digest s)
