-- The message schedule in sixteen places, over any hash: what stands in them at first, what one word and one turn more need, and how words
-- and turns follow each other. Assumes nothing.
use mathlib.Core.Path.{◌≡◌, refl, sym, subst, ap, ◌∙◌}
use mathlib.Core.List.{List, []}
use Prim.Native.Nat.{ℕ, zero, suc, ◌+◌, ◌-◌, ◌%◌, ◌≤◌, ◌<◌}
use native.Mathlib.Omega.{arith}
use native.Mathlib.Decide.{dec_lt}
use native.Mathlib.Nat.{add-zero, add-suc, le-add_right}
use borrow.Author.Tests.{le-ltb}
use lib.ListN.{length, get_or, set, get_or-append}
use lib.Seq.{get_or-append_seam, get_or-set_same, get_or-set_other}
use Rattle.standard.specs.Words.{σ}
use Rattle.standard.specs.Hash.{Hash, Eight, word_bits, plus, schedule, schedule_word, turn, turns}
use Rattle.standard.specs.Ring.{Latest, Extended, Reached, Turned}
use Rattle.standard.proofs.Lengths.{length-schedule}
use Rattle.standard.proofs.Hash.{turns_more}

module _ (H : Hash) where
  -- §6.2.2, 1, for t from 16 on: the sum of four of the words `at` their numbers
  abbrev pub word_from : (at : ℕ → ℕ) (t : ℕ) → ℕ
  word_from at t =
      plus H (plus H (plus H (σ (word_bits H) H.σ₁ (at (t - 2))) (at (t - 7))) (σ (word_bits H) H.σ₀ (at (t - 15)))) (at (t - 16))

  -- it takes nothing but the sixteen words before it
  word_from_same : (f g : ℕ → ℕ) (t : ℕ) → 16 ≤ t → ((i : ℕ) → i < t → t ≤ i + 16 → f i ≡ g i) → word_from f t ≡ word_from g t
  word_from_same f g t many same =
      rw (
        same (t - 2) (omega arith) (omega arith),
        same (t - 7) (omega arith) (omega arith),
        same (t - 15) (omega arith) (omega arith),
        same (t - 16) (omega arith) (omega arith),
      )

  module _ (block : List ℕ) where
    abbrev first : ℕ → List ℕ
    first n = schedule H block n

    abbrev word : ℕ → ℕ
    word t = get_or (first H.rounds) t 0

    -- the word worked out last, and one worked out before
    newest : (t : ℕ) → get_or (first (suc t)) t 0 ≡ schedule_word H block (first t) t
    unfolding schedule
    newest t =
        ap (λ i. get_or (first (suc t)) i 0) (sym (length-schedule H block t)) ∙
        get_or-append_seam (first t) (schedule_word H block (first t) t) [] 0

    kept : (n t : ℕ) → t < n → get_or (first (suc n)) t 0 ≡ get_or (first n) t 0
    unfolding schedule
    kept n t h = get_or-append (first n) _ 0 t (rw (length-schedule H block n) (h))

    -- so a word stays in the schedule as it was worked out
    stays : (t k : ℕ) → get_or (first (suc t + k)) t 0 ≡ schedule_word H block (first t) t
    stays t zero = ap (λ n. get_or (first n) t 0) (add-zero (suc t)) ∙ newest t
    stays t (suc k) = ap (λ n. get_or (first n) t 0) (add-suc (suc t) k) ∙ kept (suc t + k) t (le-add_right (suc t) k) ∙ stays t k

    word_of : (n t : ℕ) → t < n → get_or (first n) t 0 ≡ schedule_word H block (first t) t
    word_of n t h =
        let all : suc t + (n - suc t) ≡ n = omega arith in
        rw all at (stays t (n - suc t))

    settled : (m n t : ℕ) → t < m → t < n → get_or (first m) t 0 ≡ get_or (first n) t 0
    settled m n t h k = word_of m t h ∙ sym (word_of n t k)

    later : (t : ℕ) → 16 ≤ t → t < H.rounds → word t ≡ word_from word t
    unfolding schedule_word
    later t many inside =
        word_of H.rounds t inside ∙
        rw (le-ltb t 16 many)
        (word_from_same (λ i. get_or (first t) i 0) word t many (λ i few near. settled t H.rounds i few (omega arith)))

    -- the block's own words
    latest-first : 16 ≤ H.rounds → Latest H block 16 (first 16)
    latest-first enough =
        record {
          there = λ t few near.
              let place : t % 16 ≡ t = omega arith in
              rw place (settled 16 H.rounds t few (omega arith));
        }

  -- word t, in the place of word t - 16
  module _ (w : List ℕ) (t v : ℕ) (long : length w ≡ 16) (many : 16 ≤ t) (inside : t < H.rounds) where
    stored : (block : List ℕ) → Latest H block t w → v ≡ word block t → Latest H block (t + 1) (set w (t % 16) v)
    stored block latest is = record { there = λ j few near. go j few near (dec_lt j t) }
      where
        go : (j : ℕ) → j < t + 1 → t + 1 ≤ j + 16 → Dec (j < t) → get_or (set w (t % 16) v) (j % 16) 0 ≡ word block j
        go j few near (yes p) =
            let other : ¬ (j % 16 ≡ t % 16) = omega arith in
            get_or-set_other w (t % 16) (j % 16) v 0 other ∙ latest.there j p (omega arith)
        go j few near (no p) =
            let newest : j ≡ t = omega (arith, p) in
            let place : t % 16 < length w = omega arith in
            rw newest (get_or-set_same w (t % 16) v 0 place ∙ is)

    pub extended_once : v ≡ word_from (λ i. get_or w (i % 16) 0) t → Extended H 1 t w (set w (t % 16) v)
    extended_once e =
        record {
          latest = λ block latest.
              stored block latest
              (e ∙ word_from_same (λ i. get_or w (i % 16) 0) (word block) t many latest.there ∙ sym (later block t many inside));
        }

module _ {H : Hash} where
  -- turn t, with word t from its place
  pub turned_once : {t : ℕ} {K w : List ℕ} {s r : Eight} → r ≡ turn H s (get_or K t 0) (get_or w (t % 16) 0) → Turned H 1 t K w s r
  turned_once {t} e =
      record {
        after = λ block from n is-K latest few near so_far.
            e ∙ rw (is-K, latest.there t (omega arith) near, so_far) (sym (turns_more H (schedule H block H.rounds) t from));
      }

  -- some words more, and then some more
  pub extended_then : {m k : ℕ} (n : ℕ) {w v r : List ℕ} → Extended H m n w v → Extended H k (n + m) v r → Extended H (m + k) n w r
  extended_then {m} {k} n {r = r} one two =
      let all : n + m + k ≡ n + (m + k) = omega arith in
      record { latest = λ block latest. subst (λ x. Latest H block x r) all (two.latest block (one.latest block latest)) }

  -- some turns more, and then some more
  pub turned_then : {m k : ℕ} (t : ℕ) {K w : List ℕ} {s u r : Eight}
      → Turned H m t K w s u → Turned H k (t + m) K w u r → Turned H (m + k) t K w s r
  turned_then {m} {k} t {r = r} one two =
      let all : t + m + k ≡ t + (m + k) = omega arith in
      record {
        after = λ block from n is-K latest few near so_far.
            subst (λ x. Reached H block from x r) all
            (two.after block from n is-K latest (omega arith) (omega arith)
            (one.after block from n is-K latest (omega arith) near so_far));
      }

-- midway through a block: s after t turns, and in w the latest sixteen of the first n words
pub record Midway (H : Hash) (block : List ℕ) (from : Eight) (K : List ℕ) (t n : ℕ) (s : Eight) (w : List ℕ) : Type 0 where
  pub constants : K ≡ H.K
  pub reached : Reached H block from t s
  pub latest : Latest H block n w

module _ {H : Hash} {block : List ℕ} {from : Eight} {K : List ℕ} where
  pub midway_first : {w : List ℕ} → 16 ≤ H.rounds → K ≡ H.K → w ≡ schedule H block 16 → Midway H block from K 0 16 from w
  unfolding turns
  midway_first enough is-K e =
      record { constants = is-K; reached = refl; latest = subst (Latest H block 16) (sym e) (latest-first H block enough) }

  turned_on : {m n : ℕ} (t : ℕ) {w : List ℕ} {s r : Eight} → m ≤ 16 → Turned H m t K w s r → n ≡ t + 16 → Midway H block from K t n s w
      → Reached H block from (t + m) r
  turned_on {m} {n} t few turned next at =
      let here : t + m ≤ n = omega arith in
      turned.after block from n at.constants at.latest here (omega arith) at.reached

  -- two turns, then the two words that take the places of theirs
  pub midway_two : (t : ℕ) {n : ℕ} {w v : List ℕ} {s r : Eight}
      → Turned H 2 t K w s r → Extended H 2 n w v → n ≡ t + 16 → Midway H block from K t n s w → Midway H block from K (t + 2) (n + 2) r v
  midway_two t turned extended next at =
      record {
        constants = at.constants;
        reached = turned_on t (omega arith) turned next at;
        latest = extended.latest block at.latest;
      }

  -- the last sixteen turns
  pub midway_last : (t : ℕ) {n : ℕ} {w : List ℕ} {s r : Eight} → Turned H 16 t K w s r → n ≡ t + 16 → Midway H block from K t n s w
      → Reached H block from (t + 16) r
  midway_last t = turned_on t (omega arith)
