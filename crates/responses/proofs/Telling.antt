-- What a line reports and what is read next, for each way that it leads. Assumes nothing.
use Rattle.std.proofs.Common.{ℕ, ◌+◌, ◌-◌, ◌≤◌, ◌≡◌, Bool, cond, List, [], ◌∷◌, ◌++◌, length, take, drop, refl, sym, ap, ap₂, subst, ◌∙◌}
use Rattle.std.proofs.Common.{append_assoc, append-nil, Result, Ok, Err, arith, length-take}
use Rattle.text.specs.Ascii.{ascii}
use Rattle.text.specs.Writing.{Written, ◌then◌}
use Rattle.text.proofs.Writing.{appends_before, appends_part}
use Rattle.rsp_line.specs.Lines.{says}
use Rattle.rsp_case.specs.Cases.{Field, case_of}
use Rattle.rsp_case.specs.Store.{field_bytes, stored}
use Rattle.rsp_case.specs.Points.{Next, Goes, Keeps, Whole, PassedOver, Unread}
use Rattle.rsp_case.specs.declared.point.Point.{Point}
use Rattle.rsp_case.specs.Reading.{State, next, field_in, takes, taken_as}
use Rattle.rsp_case.specs.Kept.{Kept}
use Rattle.rsp_run.specs.Run.{passes}
use Rattle.responses.specs.Report.{after, verdict, unread_line, line_for}
use Rattle.responses.specs.Pieces.{InStore, NowIn, Told, Tells}
use Rattle.responses.specs.declared.Reader.{Reader}

stored_more : (fields : List Field) (f : Field) → stored (fields ++ (f ∷ [])) ≡ stored fields ++ field_bytes f
unfolding stored
stored_more [] f = append-nil (field_bytes f)
stored_more (g ∷ fields) f =
    ap (λ l. field_bytes g ++ l) (stored_more fields f) ∙ sym (append_assoc (field_bytes g) (stored fields) (field_bytes f))

none-stored : [] ≡ stored []
unfolding stored
none-stored = refl

-- as many bytes are held as the fields take
held-is : (store : List ℕ) (used : ℕ) (fields : List Field) → used ≤ length store → take used store ≡ stored fields
    → length (stored fields) ≡ used
held-is store used fields inside are =
    let taken : length (take used store) ≡ length (stored fields) = ap length are in
    let counted = length-take used store in
    omega (arith, taken, counted, inside)

module _ (was : Reader) (line : List ℕ) (old : Written) (inside : was.progress.used ≤ length was.store) (r : Reader) where
  abbrev f : Field
  f = field_in (says line)

  module _ {m : Next} (leads : m ≡ next was.progress.point was.progress.used (says line)) where
    taken_so : (s : State) → InStore was.progress was.store s → takes s (says line) ≡ taken_as s.fields f m
    unfolding takes
    taken_so s here =
        ap (taken_as s.fields f)
        (ap₂ (λ p n. next p n (says line)) (sym here.point) (held-is was.store was.progress.used s.fields inside here.fields) ∙ sym leads)

    tells_as : {T E : Type 0} {read : Result T E} (s : State) → InStore was.progress was.store s → (text : Written)
        → text ≡ old then line_for was.mechanism (was.progress.lines + 1) (taken_as s.fields f m)
        → NowIn read r (after (taken_as s.fields f m)) → Told was.mechanism (was.progress.lines + 1) s line old read r text
    tells_as {read = read} s here text wrote now =
        let so = sym (taken_so s here) in
        record {
          wrote = subst (λ t. text ≡ old then line_for was.mechanism (was.progress.lines + 1) t) so wrote;
          now = subst (λ t. NowIn read r (after t)) so now;
        }

  -- the store as it was
  same-fields : (s : State) → r.progress.used ≡ was.progress.used → r.store ≡ was.store → InStore was.progress was.store s
      → take r.progress.used r.store ≡ stored s.fields
  same-fields s kept same here = ap₂ take kept same ∙ here.fields

  module _ {T E : Type 0} (x : T) (p : Point) (used' stop : ℕ) (point : r.progress.point ≡ p) (used : r.progress.used ≡ used') where
    pub tells_goes : Goes p ≡ next was.progress.point was.progress.used (says line)
        → Kept (Goes p) f was.store was.progress.used r.store used' stop → Tells {T = T} {E = E} was line old (Ok x) r old
    tells_goes leads kept s here =
        tells_as leads s here old (ap (λ l. record old { text = l }) (sym (append-nil old.text)))
        (record { point = point; fields = same-fields s (used ∙ kept.0) kept.1 here })

    pub tells_keeps : Keeps p ≡ next was.progress.point was.progress.used (says line)
        → Kept (Keeps p) f was.store was.progress.used r.store used' stop → Tells {T = T} {E = E} was line old (Ok x) r old
    tells_keeps leads kept s here =
        tells_as leads s here old (ap (λ l. record old { text = l }) (sym (append-nil old.text)))
        (record {
          point = point;
          fields =
              ap (λ n. take n r.store) used ∙ kept.is ∙ ap (λ l. l ++ field_bytes f) here.fields ∙ sym (stored_more s.fields f);
        })

    pub tells_passed_over : (text : Written) → PassedOver p ≡ next was.progress.point was.progress.used (says line)
        → Kept (PassedOver p) f was.store was.progress.used r.store used' stop
        → text ≡ old then verdict p.number (ascii " passed over\n") → Tells {T = T} {E = E} was line old (Ok x) r text
    tells_passed_over text leads kept wrote s here =
        tells_as leads s here text wrote (record { point = point; fields = same-fields s (used ∙ kept.0) kept.1 here })

  pub tells_whole : {T E : Type 0} (x : T) (p : Point) (used' returned : ℕ) → r.progress.point ≡ p → r.progress.used ≡ 0
      → (good : Bool) (text : Written) → Whole p ≡ next was.progress.point was.progress.used (says line)
      → Kept (Whole p) f was.store was.progress.used r.store used' (used' + returned)
      → ((number : ℕ) (fields : List Field) → take used' r.store ≡ stored fields
      → good ≡ passes was.mechanism p.heads.fresh (case_of number fields (take returned (drop used' r.store))))
      → text ≡ old then verdict p.number (cond good (ascii " pass\n") (ascii " fail\n"))
      → Tells {T = T} {E = E} was line old (Ok x) r text
  tells_whole x p used' returned point none good text leads kept runs wrote s here =
      let front : take used' r.store ≡ stored s.fields =
      ap (λ n. take n r.store) kept.0 ∙ appends_before kept.1 inside ∙ here.fields
      in
      let size : returned ≡ used' + returned - was.progress.used = omega (arith, kept.0) in
      let value-is : take returned (drop used' r.store) ≡ f.value =
      ap₂ (λ n m. take n (drop m r.store)) size kept.0 ∙ appends_part kept.1 inside
      in
      let good-is : good ≡ passes was.mechanism p.heads.fresh (case_of p.number s.fields f.value) =
      runs p.number s.fields front ∙ ap (λ v. passes was.mechanism p.heads.fresh (case_of p.number s.fields v)) value-is
      in
      tells_as leads s here text
      (subst (λ b. text ≡ old then verdict p.number (cond b (ascii " pass\n") (ascii " fail\n"))) good-is wrote)
      (record { point = point; fields = ap (λ n. take n r.store) none ∙ none-stored })

  pub tells_unread : {T E : Type 0} (e : E) (text : Written) → Unread ≡ next was.progress.point was.progress.used (says line)
      → text ≡ old then unread_line (was.progress.lines + 1) → Tells {T = T} {E = E} was line old (Err e) r text
  tells_unread e text leads wrote s here = tells_as leads s here text wrote tt
