-- The words go on by one block, the first of those that are left. Assumes nothing.
use Rattle.std.proofs.Common.{◌≡◌, ◌≤◌, ◌+◌, ◌*◌, ◌++◌, ℕ, List, length, take, drop, sym, ap, ap₂, ◌∙◌, arith, rules}
use Rattle.std.proofs.lemmas.List.{drop-drop, drop_at, take_at, length-drop, length-append}
use Rattle.standard.specs.Hash.{compressed, absorbed, block_at}
use Rattle.standard.specs.Sha256.{sha256}
use Rattle.standard.proofs.Hash.{absorbed-more}
use Rattle.bench_bare.proofs.purangsa_bare.Goals as goal

-- what is left behind n blocks is a block and a rest
module _ (text block rest : List ℕ) (n : ℕ) (size : length block ≡ 64) (left : block ++ rest ≡ drop (64 * n) text) where
  is_block : block ≡ block_at sha256 text n
  unfolding block_at
  is_block = sym (take_at block rest 64 size) ∙ ap (take 64) left

  left_behind : rest ≡ drop (64 * (n + 1)) text
  left_behind =
      let next : 64 * n + 64 ≡ 64 * (n + 1) = omega arith in
      sym (drop_at block rest 64 size) ∙ ap (drop 64) left ∙ drop-drop 64 (64 * n) text ∙ ap (λ k. drop k text) next

  within : 64 * n ≤ length text → 64 * (n + 1) ≤ length text
  within h =
      let all = sym (length-append block rest) ∙ ap length left ∙ length-drop (64 * n) text in
      omega arith

pub loop-block-init : goal.loop-block-init
unfolding absorbed
loop-block-init c = (search rules, 0, search rules, search rules, c.initial-s.ensures)

pub loop-block-preserved : goal.loop-block-preserved
loop-block-preserved c =
    let text : List ℕ = c.args.text.now in
    let so_far = c.loop-block.invariant in
    let n = so_far.1 in
    let block : List ℕ = c.in-Some.block.now in
    let cut = c.in-Some.ensures.steps.1 in
    let size : length block ≡ 64 = cut.1 ∙ so_far.0 in
    let left = sym cut.0 ∙ so_far.3 in (
      c.in-Some.ensures.steps.0 ∙ so_far.0,
      n + 1,
      within text block _ n size left so_far.2,
      left_behind text block _ n size left,
      c.compress-s.ensures ∙
          ap₂ (compressed sha256) so_far.4 (is_block text block _ n size left) ∙
          sym (absorbed-more sha256 text n sha256.initial),
    )
