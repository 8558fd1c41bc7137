-- The end of a file, behind a line's end or inside a line. Assumes nothing.
use Rattle.std.proofs.Common.{ℕ, ◌+◌, ◌≤◌, ◌<◌, ◌≡◌, List, [], ◌∷◌, ◌++◌, length, take, refl, sym, ap, ap₂, subst, ◌∙◌}
use Rattle.std.proofs.Common.{append-nil, arith, Result, Ok, Err}
use Rattle.std.proofs.Math.Seq.{length-take-le}
use native.Mathlib.Decide.{dec_lt}
use Rattle.text.specs.Writing.{Written, ◌then◌}
use Rattle.file_lines.specs.Lines.{unended, lines_from}
use Rattle.file_lines.specs.Held.{line_size, Holds}
use Rattle.rsp_line.specs.Lines.{says}
use Rattle.rsp_case.specs.Reading.{State, takes}
use Rattle.responses.specs.Report.{Now, reading, stopped, after, lacking, end_on, line_for, report}
use Rattle.responses.specs.Pieces.{InStore, NowIn, Told, Ends}
use Rattle.responses.specs.declared.Reader.{Reader}
use Rattle.responses.proofs.Windows.{not_less, says-whole}

-- nothing was held, so no line has begun
none-begun : (buffer line : List ℕ) {held : ℕ} → held ≡ 0 → Holds buffer held line → [] ≡ line
none-begun buffer line {held} none holds = (subst (λ k. Holds buffer k line) none holds).short (omega arith)

begun-some : (buffer line : List ℕ) (held : ℕ) → length buffer ≡ line_size → held ≤ line_size → (held ≡ 0 → ⊥) → Holds buffer held line
    → 0 < length line
begun-some buffer line held size few some holds = go (dec_lt held line_size)
  where
    go : Dec (held < line_size) → 0 < length line
    go (yes short) =
        let is : length (take held buffer) ≡ length line = ap length (holds.short short) in
        let long : length (take held buffer) ≡ held = length-take-le held buffer (omega (arith, few, size)) in
        omega (arith, is, long, some)
    go (no long) = let most = holds.long (not_less held line_size long) in omega (arith, most)

one_line : (line : List ℕ) → 0 < length line → unended line ≡ line ∷ []
one_line [] h = absurd (omega (arith, h))
one_line (c ∷ line) h = refl

-- behind the line that is held
abbrev behind : Reader → State → Now
behind was s = after (takes s (says (take was.progress.held was.line)))

module _ (was : Reader) (old : Written) (clear : old.text ≡ []) where
  -- behind a line's end
  pub ends-none : {text : Written} → was.progress.held ≡ 0
      → text ≡ old then lacking was.progress.lines was.progress.point → Ends was text.text
  unfolding lines_from report
  ends-none none wrote s line here begun =
      ap (λ l. report was.mechanism was.progress.lines (unended l) (reading s)) (sym (none-begun was.line line none begun)) ∙
      ap (lacking was.progress.lines) (sym here.point) ∙
      sym (ap (λ t. t.text) wrote ∙ ap (λ l. l ++ lacking was.progress.lines was.progress.point) clear)

  module _ (size : length was.line ≡ line_size) (few : was.progress.held ≤ line_size) (some : was.progress.held ≡ 0 → ⊥)
      (T E : Type 0) (text : Written) (r : Reader) where
    abbrev pub Took : Result T E → Type 0
    Took read = (s : State) → InStore was.progress was.store s
        → Told was.mechanism (was.progress.lines + 1) s (take was.progress.held was.line) old read r text

    -- inside a line: what it reports, and what the file's end does then
    last_line : (read : Result T E) → Took read → (s : State) (line : List ℕ) → InStore was.progress was.store s
        → Holds was.line was.progress.held line
        → report was.mechanism was.progress.lines (lines_from line []) (reading s)
        ≡ text.text ++ end_on (was.progress.lines + 1) (behind was s)
    unfolding lines_from report
    last_line read tells s line here begun =
        let said = line_for was.mechanism (was.progress.lines + 1) (takes s (says (take was.progress.held was.line))) in
        ap (λ l. report was.mechanism was.progress.lines l (reading s))
        (one_line line (begun-some was.line line was.progress.held size few some begun)) ∙
        ap
        (λ x. line_for was.mechanism (was.progress.lines + 1) (takes s x) ++ end_on (was.progress.lines + 1) (after (takes s x)))
        (sym (says-whole was.line was.progress.held line size few begun)) ∙
        ap (λ x. x ++ end_on (was.progress.lines + 1) (behind was s))
        (sym (ap (λ t. t.text) (tells s here).wrote ∙ ap (λ l. l ++ said) clear))

    -- it can't be read
    nothing-more : (e : E) (now : Now) → NowIn {T = T} (Err e) r now → end_on (was.progress.lines + 1) now ≡ []
    nothing-more e stopped h = refl
    nothing-more e (reading s) h = absurd h

    pub ends-unread : (e : E) → Took (Err e) → Ends was text.text
    ends-unread e tells s line here begun =
        last_line (Err e) tells s line here begun ∙
        ap (λ l. text.text ++ l) (nothing-more e (behind was s) (tells s here).now) ∙
        append-nil text.text

    -- it can
    going-on : (x : T) → r.progress.lines ≡ was.progress.lines + 1 → (now : Now) → NowIn {E = E} (Ok x) r now
        → end_on (was.progress.lines + 1) now ≡ lacking r.progress.lines r.progress.point
    going-on x lines stopped h = absurd h
    going-on x lines (reading s) h = ap₂ lacking (sym lines) (sym h.point)

    pub ends_read : (x : T) {text' : Written} → Took (Ok x) → r.progress.lines ≡ was.progress.lines + 1
        → text' ≡ text then lacking r.progress.lines r.progress.point → Ends was text'.text
    ends_read x tells lines wrote s line here begun =
        last_line (Ok x) tells s line here begun ∙
        ap (λ l. text.text ++ l) (going-on x lines (behind was s) (tells s here).now) ∙
        sym (ap (λ t. t.text) wrote)
