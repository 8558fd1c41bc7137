-- A line that the window ends in, and one that ends in it: nothing of the report is lost, whatever the rest of the file is.
-- Assumes nothing.
use Rattle.std.proofs.Common.{ℕ, ◌+◌, ◌-◌, ◌≤◌, ◌<◌, ◌≡◌, Bool, true, false, cond, List, [], ◌++◌, length, take, drop, get_or}
use Rattle.std.proofs.Common.{refl, sym, ap, ap₂, subst, ◌∙◌, append_assoc, arith, Bor, Result, Ok, Err, length-drop}
use Rattle.std.proofs.Math.Seq.{take-take, length-take-le, drop-drop}
use Rattle.std.proofs.lemmas.Bool.{false≢true}
use Rattle.std.proofs.Math.Dec.{eqb}
use Rattle.std.specs.Result.{is_ok}
use native.Mathlib.Decide.{dec_lt}
use borrow.Author.Tests.{lt-ltb}
use Rattle.text.specs.Writing.{Written}
use Rattle.file_lines.specs.Lines.{text_end, ended, lines_from}
use Rattle.file_lines.specs.Held.{line_size, Holds, Went}
use Rattle.rsp_line.specs.Lines.{says, unread}
use Rattle.rsp_case.specs.Reading.{State, takes}
use Rattle.responses.specs.Sizes.{store_size}
use Rattle.responses.specs.Report.{reading, stopped, after, line_for, report}
use Rattle.responses.specs.Pieces.{InStore, Told, all_read, Behind, Reports, IsLeft}
use Rattle.responses.specs.declared.Reader.{Reader}
use Rattle.responses.specs.declared.Piece.{Piece}
use Rattle.responses.specs.declared.Unread.{Unread}

pub not_less : (a b : ℕ) → (a < b → ⊥) → b ≤ a
not_less a b h = omega (arith, h)

says-long : (s : List ℕ) → 4096 < length s → says s ≡ unread
unfolding says
says-long s h = rw (lt-ltb 4096 (length s) h)

-- at most one character is of a line's end
ended-long : (s : List ℕ) → line_size ≤ length s → 4096 < length (ended s)
unfolding text_end
ended-long s h = go (eqb (get_or s (length s - 1) 0) 13)
  where
    go : (b : Bool) → 4096 < length (take (cond b (length s - 1) (length s)) s)
    go true = let l = length-take-le (length s - 1) s (omega arith) in omega (arith, l, h)
    go false = let l = length-take-le (length s) s (omega arith) in omega (arith, l, h)

end_within : (s : List ℕ) → text_end s ≤ length s
unfolding text_end
end_within s = go (eqb (get_or s (length s - 1) 0) 13)
  where
    go : (b : Bool) → cond b (length s - 1) (length s) ≤ length s
    go true = omega arith
    go false = omega arith

-- a line that is held says what it says; a longer one can't be read, nor can its front
module _ (buffer : List ℕ) (held : ℕ) (l : List ℕ) (size : length buffer ≡ line_size) (few : held ≤ line_size)
    (holds : Holds buffer held l) where
  held-size : length (take held buffer) ≡ held
  held-size = length-take-le held buffer (omega (arith, few, size))

  pub says-ended : says (ended (take held buffer)) ≡ says (ended l)
  says-ended = go (dec_lt held line_size)
    where
      go : Dec (held < line_size) → says (ended (take held buffer)) ≡ says (ended l)
      go (yes short) = ap (λ s. says (ended s)) (holds.short short)
      go (no long) =
          let full = not_less held line_size long in
          says-long (ended (take held buffer)) (ended-long (take held buffer) (omega (arith, held-size, full))) ∙
          sym (says-long (ended l) (ended-long l (holds.long full)))

  pub says-whole : says (take held buffer) ≡ says l
  says-whole = go (dec_lt held line_size)
    where
      go : Dec (held < line_size) → says (take held buffer) ≡ says l
      go (yes short) = ap says (holds.short short)
      go (no long) =
          let full = not_less held line_size long in
          let most = holds.long full in
          says-long (take held buffer) (omega (arith, held-size, full)) ∙ sym (says-long l (omega (arith, most)))

  -- the part of the buffer that is not of its end
  pub part_says : (n : ℕ) → n ≡ text_end (take held buffer) → says (take n buffer) ≡ says (ended l)
  part_says n is =
      let inside : n ≤ held = let most = end_within (take held buffer) in omega (arith, is, most, held-size) in
      ap says (sym (take-take n held buffer inside) ∙ ap (λ k. take k (take held buffer)) is) ∙ says-ended

none-held : (buffer : List ℕ) {n : ℕ} → n ≡ 0 → Holds buffer n []
none-held buffer none =
    subst (λ k. Holds buffer k []) (sym none) (record { short = λ h. refl; long = λ h. absurd (omega (arith, h)) })

module _ (was : Reader) (window : List ℕ) where
  -- nothing more is reported once a line can't be read
  from_state : (old : List ℕ) (p : Piece) (r : Reader) (text : List ℕ)
      → ((s : State) (line : List ℕ) → InStore was.progress was.store s → Holds was.line was.progress.held line
      → Behind was (reading s) line window old p r text)
      → Reports all_read was window old p r text
  from_state old p r text f (reading s) line here begun = f s line here begun
  from_state old p r text f stopped line here begun = absurd here

  -- the window ends: the reading is where it was
  pub behind_window : (old buffer : List ℕ) (held next : ℕ) (inside : (was.progress.used ≤ store_size) × (held ≤ line_size))
      (rest : Bor (List ℕ)) → rest.now ≡ drop next window
      → ((l : List ℕ) → Holds was.line was.progress.held l → Went window 0 l next false buffer held)
      → Reports all_read was window old (record { rest = rest; read = Ok tt })
      (record {
        mechanism = was.mechanism;
        progress = record { point = was.progress.point; used = was.progress.used; lines = was.progress.lines; held = held };
        line = buffer;
        store = was.store;
        inside = inside;
      })
      old
  behind_window old buffer held next inside rest rest-is went = from_state _ _ _ _ (λ s line here begun.
      let w = went line begun in
      record {
        now = reading s;
        begun = w.now;
        state = record { point = here.point; fields = here.fields };
        held = w.holds;
        is =
            λ more.
            ap (λ l. old ++ report was.mechanism was.progress.lines l (reading s))
            (w.onward more ∙ ap (λ x. lines_from w.now (x ++ more)) (sym rest-is));
      })

  -- the line ends
  pub behind-line : (old text : Written) (buffer : List ℕ) (held next : ℕ) (r : Reader) (read : Result (Unit {0}) Unread) (l' : List ℕ)
      (rest : Bor (List ℕ)) → rest.now ≡ drop next window
      → ((l : List ℕ) → Holds was.line was.progress.held l → Went window 0 l next true buffer held)
      → ((l : List ℕ) → Holds buffer held l → says l' ≡ says (ended l))
      → r.mechanism ≡ was.mechanism → r.progress.lines ≡ was.progress.lines + 1 → r.progress.held ≡ 0
      → ((s : State) → InStore was.progress was.store s → Told was.mechanism (was.progress.lines + 1) s l' old read r text)
      → Reports all_read was window old.text (record { rest = rest; read = read }) r text.text
  unfolding report
  behind-line old text buffer held next r read l' rest rest-is went same mechanism lines none tells =
      from_state _ _ _ _ (λ s line here begun.
      let w = went line begun in
      let told = tells s here in
      let n = was.progress.lines + 1 in
      let t = takes s (says l') in
      let said : says (ended w.now) ≡ says l' = sym (same w.now w.holds) in
      record {
        now = after t;
        begun = [];
        state = told.now;
        held = none-held r.line none;
        is =
            λ more.
            let left = lines_from [] (drop next window ++ more) in
            ap (λ x. old.text ++ report was.mechanism was.progress.lines x (reading s)) (w.onward more) ∙
            ap (λ x. old.text ++ (line_for was.mechanism n (takes s x) ++ report was.mechanism n left (after (takes s x)))) said ∙
            sym (append_assoc old.text (line_for was.mechanism n t) (report was.mechanism n left (after t))) ∙
            ap₂ (λ x m. x ++ report m n left (after t)) (sym (ap (λ x. x.text) told.wrote)) (sym mechanism) ∙
            ap₂ (λ k x. text.text ++ report r.mechanism k (lines_from [] (x ++ more)) (after t)) (sym lines) (sym rest-is);
      })

-- pieces compose
pub reports_none : (was : Reader) (window : Bor (List ℕ))
    → Reports all_read was window.now [] (record { rest = window; read = Ok tt }) was []
reports_none was window before line here begun =
    record { now = before; begun = line; state = here; held = begun; is = λ rest. refl }

pub reports_then : (read : Result (Unit {0}) Unread) {was mid r : Reader} {window old text text' : List ℕ} {p q : Piece}
    → Reports read was window old p mid text → Reports p.read mid p.rest.now text q r text' → Reports read was window old q r text'
reports_then read first second before line here begun =
    let a = first before line here begun in
    let b = second a.now a.begun a.state a.held in
    record { now = b.now; begun = b.begun; state = b.state; held = b.held; is = λ more. a.is more ∙ b.is more }

-- where each line could be read
pub reports_on : (read : Result (Unit {0}) Unread) {mid r : Reader} {window old text : List ℕ} {p : Piece} → is_ok read ≡ true
    → Reports all_read mid window old p r text → Reports read mid window old p r text
reports_on (Ok x) could reports = reports
reports_on (Err e) could reports = absurd (false≢true could)

-- what is left of what is left
pub left_then : {window rest last : List ℕ} → IsLeft window rest → IsLeft rest last → IsLeft window last
left_then {window} {rest} {last} first second = (
  first.0 + second.0,
  omega (arith, second.1, ap length first.2, length-drop first.0 window, first.1),
  second.2 ∙ ap (drop second.0) first.2 ∙ drop-drop second.0 first.0 window,
)
