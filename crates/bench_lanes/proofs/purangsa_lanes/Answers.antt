-- The sum goes on by the four blocks of a group, one after the other. Assumes nothing.
use Rattle.std.proofs.Common.{◌≡◌, ◌≤◌, ◌<◌, List, ◌++◌, ◌*◌, ◌+◌, ℕ, length, take, drop, refl, sym, ap, ap₂, ◌∙◌}
use Rattle.std.proofs.Common.{add-one, add-zero, arith, rules, lit<, bit_xor}
use Rattle.std.proofs.lemmas.List.{drop-drop, drop_at, length-drop, length-append}
use Rattle.standard.specs.Hash.{schedule, block_at}
use Rattle.standard.specs.Sha256.{sha256}
use Rattle.standard.proofs.Hash.{block_at-append}
use Rattle.lanes.specs.Lanes.{lane_of}
use Rattle.bench_lanes.specs.Words.{first_word, first_words}
use Rattle.bench_lanes.proofs.purangsa_lanes.Goals as goal

-- one block more, and four
module _ (text : List ℕ) where
  last : (n : ℕ) → first_words text (n + 1) ≡ bit_xor (first_words text n) (first_word text n)
  unfolding first_words
  last n = rw add-one

  one_more : (n m sum x : ℕ) → m ≡ n + 1 → sum ≡ first_words text n → x ≡ first_word text n → bit_xor sum x ≡ first_words text m
  one_more n m sum x m-is sum-is x-is = ap₂ bit_xor sum-is x-is ∙ sym (ap (first_words text) m-is ∙ last n)

  four_more : (n sum a b c d : ℕ) → sum ≡ first_words text n → a ≡ first_word text (n + 0) → b ≡ first_word text (n + 1)
      → c ≡ first_word text (n + 2) → d ≡ first_word text (n + 3)
      → bit_xor (bit_xor (bit_xor (bit_xor sum a) b) c) d ≡ first_words text (n + 4)
  four_more n sum a b c d sum-is a-is b-is c-is d-is =
      one_more (n + 3) (n + 4) _ d (omega arith)
      (one_more (n + 2) (n + 3) _ c (omega arith)
      (one_more (n + 1) (n + 2) _ b (omega arith)
      (one_more n (n + 1) sum a refl sum-is (a-is ∙ ap (first_word text) (add-zero n))) b-is) c-is) d-is

-- what is left behind n groups is a group and a rest
module _ (text group rest : List ℕ) (n : ℕ) (size : length group ≡ 256) (left : group ++ rest ≡ drop (256 * n) text) where
  is_block : (l : ℕ) → l < 4 → block_at sha256 group l ≡ block_at sha256 text (4 * n + l)
  unfolding block_at
  is_block l h =
      let place : 256 * n + 64 * l ≡ 64 * (4 * n + l) = omega arith in
      sym (block_at-append sha256 group rest l (omega arith)) ∙ ap (λ w. take 64 (drop (64 * l) w)) left ∙
      ap (take 64) (drop-drop (64 * l) (256 * n) text ∙ ap (λ k. drop k text) place)

  lanes_of : (words : List ℕ) → ((l : ℕ) → l < 4 → lane_of words l ≡ schedule sha256 (block_at sha256 group l) 16)
      → (l : ℕ) → l < 4 → lane_of words l ≡ schedule sha256 (block_at sha256 text (4 * n + l)) 16
  lanes_of words laid l h = laid l h ∙ ap (λ b. schedule sha256 b 16) (is_block l h)

  left_behind : rest ≡ drop (256 * (n + 1)) text
  left_behind =
      let next : 256 * n + 256 ≡ 256 * (n + 1) = omega arith in
      sym (drop_at group rest 256 size) ∙ ap (drop 256) left ∙ drop-drop 256 (256 * n) text ∙ ap (λ k. drop k text) next

  within : 256 * n ≤ length text → 256 * (n + 1) ≤ length text
  within h =
      let all = sym (length-append group rest) ∙ ap length left ∙ length-drop (256 * n) text in
      omega arith

pub loop-group-init : goal.loop-group-init
unfolding first_words
loop-group-init c = (search rules, search rules, 0, search rules, search rules, refl)

pub loop-group-preserved : goal.loop-group-preserved
loop-group-preserved c =
    let text : List ℕ = c.args.text.now in
    let so_far = c.loop-group.invariant in
    let n : ℕ = so_far.2 in
    let group : List ℕ = c.in-Some.group.now in
    let cut = c.in-Some.ensures.steps.1 in
    let size : length group ≡ 256 = cut.1 ∙ so_far.1 in
    let left = sym cut.0 ∙ so_far.4 in
    let laid = lanes_of text group _ n size left c.put_group.new.words c.put_group.ensures in
    let next : 4 * n + 4 ≡ 4 * (n + 1) = omega arith in
    let hashed = c.four-r.ensures in (
      omega arith,
      c.in-Some.ensures.steps.0 ∙ so_far.1,
      n + 1,
      within text group _ n size left so_far.3,
      left_behind text group _ n size left,
      four_more text (4 * n) c.loop-group.sum _ _ _ _ so_far.5 (ap (λ e. e.a) (hashed 0 (lit< tt) _ (laid 0 (lit< tt))))
          (ap (λ e. e.a) (hashed 1 (lit< tt) _ (laid 1 (lit< tt)))) (ap (λ e. e.a) (hashed 2 (lit< tt) _ (laid 2 (lit< tt))))
          (ap (λ e. e.a) (hashed 3 (lit< tt) _ (laid 3 (lit< tt)))) ∙
          ap (first_words text) next,
    )
