-- The piece up to the line's end, or the window's, goes behind the line that is held.
use Rattle.std.proofs.Common.{◌≡◌, ◌+◌, ◌-◌, ◌++◌, eqb, length, take, drop, unwrap_or, ap, ◌∙◌, arith, rules, tests}
use Rattle.std.specs.Prelude.{position, MatchOption, Some, None}
use Rattle.std.proofs.lemmas.List.{take_all, length-drop}
use Rattle.std.proofs.lemmas.Iterator.{YieldsList-from_slice}
use Rattle.std.proofs.lemmas.Iterator.Search.{position_from_yields_List}
use borrow.Rule.Slice.PartMut.{put_mid}
use Rattle.file_lines.proofs.Lines.{holds_piece, went_on}
use Rattle.file_lines.proofs.hold.Goals as goal

pub returns-clause-went : goal.returns-clause-went
returns-clause-went c = λ l so.
    let window = c.args.window.now in
    let from = c.args.from in
    let s = drop from window in
    let o = c.position-end.result in
    let lent : take (length window - from) s ≡ s = take_all (length window - from) s (omega (arith, length-drop from window)) in
    let found : o ≡ position (λ x. eqb x 10) s =
    position_from_yields_List (λ x. eqb x 10) _ _ o c.position-end.ensures.ran (YieldsList-from_slice s (c.iter.ensures.rest ∙ lent))
    (λ x b q k. search (rules, tests))
    in
    let piece = take (unwrap_or o (length s)) s in
    let end : c.unwrap_or.result ≡ unwrap_or o (length s) = c.unwrap_or.ensures ∙ ap (λ x. unwrap_or o (length x)) lent in
    let cut : take c.unwrap_or.result (take (length window - from) s) ≡ piece = rw (lent, end) in
    let n = rw cut at c.min-n.ensures in
    let put = rw cut at c.copy_from_slice.ensures.after in
    let behind : MatchOption o (c.map.result ≡ None) (λ n. c.map.result ≡ Some (from + n + 1)) = search rules in
    record {
      now = l ++ piece;
      holds =
          holds_piece c.args.line.now piece _ c.args.held _ c.min-n.result l c.requires.0 c.requires.1 n
          (ap (put_mid c.args.held (c.args.held + c.min-n.result - c.args.held) c.args.line.now) put) so;
      onward = went_on window from l o c.map.result found behind;
    }
