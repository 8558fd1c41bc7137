-- Each piece goes on where the one before it ended, and each window where the one before it did. Assumes nothing.
use Rattle.std.proofs.Common.{ℕ, ◌≡◌, List, [], ◌++◌, take, refl, sym, ap, ap₂, subst, ◌∙◌, append_assoc, arith, Result, Ok, Err}
use Rattle.std.proofs.lemmas.Bool.{false≢true}
use Rattle.std.specs.Result.{IsOk}
use Rattle.file_lines.specs.Lines.{lines_from}
use Rattle.file_lines.specs.Held.{Holds}
use Rattle.rsp_case.specs.Store.{stored}
use Rattle.rsp_case.specs.Reading.{beginning}
use Rattle.responses.specs.Report.{Now, reading, report, report_of}
use Rattle.responses.specs.Pieces.{started, all_read, NowIn, left, Reports}
use Rattle.responses.specs.declared.Reader.{Reader}
use Rattle.responses.specs.declared.Piece.{Piece}
use Rattle.responses.specs.declared.Unread.{Unread}
use Rattle.respond.specs.Reading.{GoesOn}

module _ (first : Result (Unit {0}) Unread) {was : Reader} {window : List ℕ} where
  pub goes_first : GoesOn first was window window first was
  goes_first before line state held =
      record { written = []; now = before; begun = line; state = state; held = held; is = λ rest. refl }

  pub goes-next : {more text : List ℕ} {read : Result (Unit {0}) Unread} {mid r : Reader} {p : Piece}
      → GoesOn first was window more read mid → Reports read mid more [] p r text → GoesOn first was window p.rest.now p.read r
  goes-next {text = text} {r = r} {p = p} goes reports before line state held =
      let so_far = goes before line state held in
      let piece = reports so_far.now so_far.begun so_far.state so_far.held in
      record {
        written = so_far.written ++ text;
        now = piece.now;
        begun = piece.begun;
        state = piece.state;
        held = piece.held;
        is = λ rest.
            so_far.is rest ∙
            ap (λ l. so_far.written ++ l) (piece.is rest) ∙
            sym (append_assoc so_far.written text (left r piece.now piece.begun p.rest.now rest));
      }

  -- each line could be read
  pub goes_on : {more : List ℕ} (read : Result (Unit {0}) Unread) {r : Reader} → IsOk read → GoesOn first was window more read r
      → GoesOn first was window more all_read r
  goes_on (Ok x) could goes = goes
  goes_on (Err e) could goes = absurd (false≢true could)

-- behind the bytes that were read of a file
pub record Handed (mechanism : ℕ) (read : Result (Unit {0}) Unread) (r : Reader) : Type 0 where
  pub bytes : List ℕ
  pub written : List ℕ
  pub now : Now
  pub begun : List ℕ
  pub state : NowIn read r now
  pub held : Holds r.line r.progress.held begun
  pub is : (rest : List ℕ) → report_of mechanism (bytes ++ rest) ≡ written ++ left r now begun [] rest

pub handed_first : {mechanism : ℕ} (r : Reader) → r.mechanism ≡ mechanism → r.progress ≡ started → Handed mechanism all_read r
unfolding stored report_of
handed_first {mechanism} r with-it begins =
    record {
      bytes = [];
      written = [];
      now = reading beginning;
      begun = [];
      state = record { point = ap (λ p. p.point) begins; fields = ap (λ p. take p.used r.store) begins };
      held = subst (λ n. Holds r.line n []) (sym (ap (λ p. p.held) begins)) (record {
        short = λ _. refl;
        long = λ h. absurd (omega (arith, h));
      });
      is = λ rest.
          ap₂ (λ m n. report m n (lines_from [] rest) (reading beginning)) (sym with-it) (sym (ap (λ p. p.lines) begins));
    }

pub handed_next : {mechanism : ℕ} {first read : Result (Unit {0}) Unread} {was r : Reader} {bytes : List ℕ} → Handed mechanism first was
    → GoesOn first was bytes [] read r → Handed mechanism read r
handed_next {mechanism} {r = r} {bytes = bytes} past on =
    let next = on past.now past.begun past.state past.held in
    record {
      bytes = past.bytes ++ bytes;
      written = past.written ++ next.written;
      now = next.now;
      begun = next.begun;
      state = next.state;
      held = next.held;
      is = λ rest.
          ap (report_of mechanism) (append_assoc past.bytes bytes rest) ∙
          past.is (bytes ++ rest) ∙
          ap (λ l. past.written ++ l) (next.is rest) ∙
          sym (append_assoc past.written next.written (left r next.now next.begun [] rest));
    }
