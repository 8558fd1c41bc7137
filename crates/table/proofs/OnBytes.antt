-- How a call on bytes comes out, by what it found: bytes that are no sound table, a reason, or none. Assumes nothing.
use Rattle.std.specs.Prelude.{Option, None, Some, Result, Err, IsErrAnd}
use Rattle.std.proofs.lemmas.Result.{err_from_is_err_and}
use Rattle.slots.specs.Sizes.{table_size}
use mathlib.Core.Path.{◌≡◌, refl, sym, ap, ◌∙◌}
use mathlib.Core.Bool.{Bool, true, false, ◌&&◌, cond}
use mathlib.Core.List.{List, []}
use Prim.Native.Nat.{ℕ}
use borrow.Author.Tests.{eqb-true, eq-eqb}
use lib.Dec.{eqb}
use lib.ListN.{length, get_or}
use mir.Val.{Fits}
use mir.Syntax.{w8}
use Rattle.standard.specs.Strings.{Bytes}
use Rattle.drbg_shared.specs.Generator.{Filled}
use Rattle.slots.specs.Layout.{Table}
use Rattle.slots.specs.Sound.{sound}
use Rattle.slots.specs.Bytes.{table_of, sound_bytes}
use Rattle.slots.specs.Handle.{look_up, named}
use Rattle.slots.proofs.Flags.{both}
use Rattle.slots.proofs.TableBytes.{bytes-table_of}
use Rattle.reasons.specs.Reasons.{first_of}
use Rattle.table.specs.Answers.{Reply, stepped, stepped_draw}
use Rattle.table.specs.Calls.{Call, Under, lent, reasons_of, service, reply}
use Rattle.table.specs.OnBytes.{Told, Done, leaving, told_refused, told_of, done, in_bytes}
use Rattle.reasons.specs.declared.Reason.{Reason}
use Rattle.reasons.specs.declared.Reason.TheVariants.{UnsoundTable, NoSuchGenerator}
use Rattle.reasons.specs.Numbers.{number_of}
use Rattle.reasons.proofs.Numbers.{number-some}
use Rattle.table.specs.declared.answers.Served.{Served}
use Rattle.table.proofs.Outcomes.{Named, names-slot, below_by}
use Rattle.table.proofs.Exits.{refused_call, served_call, first_unsound, first_unnamed}

-- what the scan told
pub record Whole (s : List ℕ) : Type 0 where
  pub sized : length s ≡ table_size
  pub sound : sound (table_of s) ≡ true

pub whole : {s : List ℕ} {is : Bool} → is ≡ sound_bytes s → is ≡ true → Whole s
whole {s} {is} said true_so =
    let parts = both (eqb (length s) table_size) (sound (table_of s)) (sym said ∙ true_so) in
    record { sized = eqb-true (length s) table_size parts.0; sound = parts.1 }

pub sized_by : (s : List ℕ) (is : Bool) → is ≡ sound_bytes s → is ≡ true → length s ≡ table_size
sized_by s is said true_so = (whole said true_so).sized

-- and the look-up behind it: the generator's slot
pub record Found (s : List ℕ) (handle i : ℕ) : Type 0 where
  pub sized : length s ≡ table_size
  pub named : Named (table_of s) handle i

pub found : {s : List ℕ} {handle i : ℕ} {is : Bool} → is ≡ sound_bytes s → is ≡ true → Some i ≡ look_up (table_of s) handle
    → Found s handle i
found said true_so at =
    let w = whole said true_so in
    record { sized = w.sized; named = names-slot _ _ _ w.sound at }

-- the bytes of a lent slice
pub bytes-known : {s : List ℕ} → ((i : ℕ) → Fits w8 (get_or s i 0)) → Bytes s
bytes-known known = record { at = λ i. (known i).fits }

-- a generator's step in its table, and beside it the output that was drawn, if any
pub with_output : (t : Table) (i : ℕ) (r : Filled) {told : Told} {table : List ℕ}
    → leaving told table [] ≡ done (record { answer = stepped t i r.served; output = [] })
    → leaving told table r.output ≡ done (stepped_draw t i r)
with_output t i r given = ap (λ (d : Done). leaving d.told d.table r.output) given

module _ (c : Call) (s : List ℕ) where
  pub replied_on : length s ≡ table_size → {r : Reply} → r ≡ reply (table_of s) c → done r ≡ in_bytes c s
  unfolding in_bytes
  replied_on sized given =
      ap done given ∙
      ap (λ b. cond b (done (reply (table_of s) c)) (record { told = told_refused 1; table = s; output = lent c }))
      (sym (eq-eqb (length s) table_size sized))

  pub served_on : length s ≡ table_size → 0 ≡ first_of (reasons_of (table_of s) c) → {r : Reply} → r ≡ service (table_of s) c
      → done r ≡ in_bytes c s
  served_on sized none given = replied_on sized (given ∙ served_call (table_of s) c none refl)

  module _ (b : Bytes s) where
    pub refused_on : length s ≡ table_size → (reason : Reason) → number_of reason ≡ first_of (reasons_of (table_of s) c)
        → leaving (told_of (Err reason)) s (lent c) ≡ in_bytes c s
    refused_on sized reason first =
        ap (λ t. leaving (told_of (Err reason)) t (lent c)) (sym (bytes-table_of s b sized)) ∙
        replied_on sized (refused_call (table_of s) c first (number-some reason))

    pub unsound_on : {is : Bool} → is ≡ sound_bytes s → is ≡ false → leaving (told_of (Err UnsoundTable)) s (lent c) ≡ in_bytes c s
    unfolding in_bytes
    unsound_on said false_so = go (eqb (length s) table_size) refl
      where
        go : (long : Bool) → eqb (length s) table_size ≡ long → leaving (told_of (Err UnsoundTable)) s (lent c) ≡ in_bytes c s
        go true long =
            let broken : sound (table_of s) ≡ false = ap (λ b. b && sound (table_of s)) (sym long) ∙ sym said ∙ false_so in
            refused_on (eqb-true (length s) table_size long) UnsoundTable (first_unsound (table_of s) c broken)
        go false long =
            ap (λ b. cond b (done (reply (table_of s) c)) (record { told = told_refused 1; table = s; output = lent c })) (sym long)

-- A call whose exits name a generator's slot, as the goals of its proof have them.
module _ {s : List ℕ} (c : Call) (known : (i : ℕ) → Fits w8 (get_or s i 0)) {is : Bool} (said : is ≡ sound_bytes s) where
  pub unsound_told : is ≡ false → leaving (told_of (Err UnsoundTable)) s (lent c) ≡ in_bytes c s
  unsound_told = unsound_on c s (bytes-known known) said

  pub unnamed_told : {handle : ℕ} → Under handle c → is ≡ true → {at : Option ℕ} → at ≡ look_up (table_of s) handle → at ≡ None
      → leaving (told_of (Err NoSuchGenerator)) s (lent c) ≡ in_bytes c s
  unnamed_told {handle} under true_so at none =
      let w = whole said true_so in
      refused_on c s (bytes-known known) w.sized NoSuchGenerator
      (first_unnamed (table_of s) c handle under w.sound (ap named (sym at ∙ none)))

-- what a `?` hands on: the reason that was found
pub refused_told : (c : Call) {s : List ℕ} → ((i : ℕ) → Fits w8 (get_or s i 0)) → length s ≡ table_size → (reason : Reason)
    → number_of reason ≡ first_of (reasons_of (table_of s) c) → (r : Result Served Reason) → IsErrAnd r (λ e. e ≡ reason)
    → leaving (told_of r) s (lent c) ≡ in_bytes c s
refused_told c {s} known sized reason first r passed =
    let p = err_from_is_err_and r passed in
    rw (p.1, p.2) (refused_on c s (bytes-known known) sized reason first)

-- what the check finds at the exits of a call by itself
pub ruleset at_exits = (sized_by, below_by, unsound_told)
