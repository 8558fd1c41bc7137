-- Three fields are read one behind the other, and the opening takes their values.
use Rattle.std.proofs.Common.{drop, ap, ◌∙◌}
use Rattle.std.proofs.Math.Seq.{drop-drop}
use Rattle.rsp_case.specs.Store.{stored}
use Rattle.rsp_run.proofs.Passing.{three-read}
use Rattle.rsp_run.proofs.open_case.Goals as goal

pub returns : goal.returns
returns c = λ fields are.
    let entropy = c.value_first.ensures fields are in
    let nonce = c.value_first-2.ensures (drop 1 fields) entropy.1 in
    let last = c.value_first-3.ensures (drop 1 (drop 1 fields)) nonce.1 in
    record {
      is =
          c.open-outcome.ensures ∙
          three-read c.args.mechanism c.args.fresh c.args.table.now fields entropy.0 nonce.0 last.0;
      stand = last.1 ∙ ap (λ l. stored (drop 1 l)) (drop-drop 1 1 fields) ∙ ap stored (drop-drop 1 2 fields);
    }
