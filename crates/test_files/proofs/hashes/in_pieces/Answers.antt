-- A piece is read behind those before it; at the end all of the message is, and then the padding.
use Rattle.std.proofs.Common.{◌≡◌, ◌∙◌, ◌++◌, sym, ap, subst, append_assoc, append-nil, rules}
use Rattle.std.proofs.lemmas.List.{nil_from_length}
use Rattle.sha256.specs.Fed.{HasRead}
use Rattle.sha256.proofs.Feeding.{read-padded}
use Rattle.test_files.proofs.hashes.in_pieces.Goals as goal

pub loop-piece-preserved : goal.loop-piece-preserved
loop-piece-preserved c =
    let so_far = c.loop-piece.invariant in
    let done = so_far.2 in (
      search rules,
      tt,
      done ++ c.in-Some.piece.now,
      c.update-h.ensures.after done so_far.3,
      append_assoc done _ _ ∙ ap (λ l. done ++ l) (sym c.in-Some.ensures.steps.1.0) ∙ so_far.4,
    )

pub returns : goal.returns
returns c =
    let so_far = c.loop-piece.invariant in
    let none = nil_from_length _ c.in-None.ensures.steps.1.0 in
    let all : so_far.2 ≡ c.args.s.now = sym (append-nil so_far.2) ∙ ap (λ l. so_far.2 ++ l) (sym none) ∙ so_far.4 in
    c.digest.ensures _ (read-padded (subst (λ m. HasRead m c.loop-piece.h) all so_far.3) c.finish.ensures)
