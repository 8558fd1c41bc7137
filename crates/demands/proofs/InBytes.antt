-- The table in the caller's bytes: a refusal changes no byte of it or of the output, and a served call leaves the bytes of its table, which
-- are read back as that table. So what is proved of sequences of calls on tables holds of the bytes, demand 3 too. Assumes nothing.
use mathlib.Core.Path.{◌≡◌, refl, sym, ap, ap₂, subst, ◌∙◌}
use mathlib.Core.Bool.{Bool, true, false, not, ◌||◌, cond}
use mathlib.Core.Logic.{◌⊎◌, inl, inr, ⊎_elim}
use mathlib.Core.List.{List, [], ◌∷◌, map}
use Prim.Native.Nat.{ℕ, suc, ◌+◌, ◌%◌, ◌^◌, ◌<◌}
use native.Mathlib.Omega.{arith}
use borrow.Author.Tests.{eqb-true, eqb-false, ne_eqb}
use lib.Dec.{eqb, lit<}
use lib.ListN.{length, replicate, length-set}
use Rattle.standard.specs.Strings.{Bytes}
use Rattle.standard.proofs.Strings.{bytes-replicate}
use Rattle.slots.specs.Sizes.{table_size}
use Rattle.slots.specs.Layout.{free_slot, slot_at, with_slot, last_serial, with_last_serial, fresh_table, Table}
use Rattle.slots.specs.Handle.{lowest_free}
use Rattle.slots.specs.declared.slot.Slot.{Slot}
use Rattle.slots.proofs.Flags.{either}
use Rattle.slots.proofs.Slots.{slot_at-cases, last_serial-with_slot, last_serial-with_last_serial}
use Rattle.slots.proofs.Soundness.{Used}
use Rattle.slots.specs.Bytes.{table_bytes, table_of}
use Rattle.slots.specs.Machine.{Fits, Machine}
use Rattle.slots.proofs.TableBytes.{length-table_bytes, bytes-table_of, table_of-bytes, machine_table_of, fresh-bytes}
use Rattle.reasons.specs.Reasons.{◌when◌else◌, First, this, later}
use Rattle.table.specs.Answers.{Reply, stepped, installed}
use Rattle.reasons.proofs.Decisions.{refusing, serving}
use Rattle.reasons.proofs.Allowed.{may_open}
use Rattle.table.specs.OnBytes.{Done, done, in_bytes}
use Rattle.table.proofs.OnBytes.{replied_on}
use Rattle.table.specs.Calls.{Call, opens, reseeds, draws, fresh_draws, closes, inquires, reasons_of, reply}
use Rattle.demands.specs.Calls.{number, after, run}
use Rattle.demands.specs.Alike.{AllAlike, told_of, told, told_by, told_in_bytes}
use Rattle.demands.specs.InBytes.{in_bytes_all, reasons_in, refusal_in, replied_with}
use Rattle.demands.proofs.Outcome.{Outcome, outcome}
use Rattle.demands.proofs.Answered.{refusal_keeps, answer-first}
use Rattle.demands.proofs.Moves.{Moves, stays, adds, steps, ends, moved}
use Rattle.demands.proofs.Alike.{told_is, runs_from_fresh_alike}

module _ (c : Call) (s : List ℕ) where
  -- bytes of any other length are answered 1, and nothing is changed
  pub other_length : (length s ≡ table_size → ⊥) → in_bytes c s ≡ refusal_in s c 1
  unfolding in_bytes
  other_length h =
      ap (λ b. cond b (done (reply (table_of s) c)) (refusal_in s c 1)) (ne_eqb (length s) table_size h)

  -- refused by a reason: no byte of the table or of the output is changed, and 0 blocks and value 0 are told
  pub refusal_keeps_bytes : {n : ℕ} → Bytes s → First n (reasons_in s c) → in_bytes c s ≡ refusal_in s c n
  refusal_keeps_bytes b = go (eqb (length s) table_size) refl
    where
      go : {n : ℕ} (long : Bool) → eqb (length s) table_size ≡ long → First n (1 when not long else reasons_of (table_of s) c)
          → in_bytes c s ≡ refusal_in s c n
      go {n} true long (later f) =
          let sized = eqb-true (length s) table_size long in
          sym (replied_on c s sized refl)
          ∙ ap done (refusal_keeps (table_of s) c f)
          ∙ ap (λ u. refusal_in u c n) (bytes-table_of s b sized)
      go false long this = other_length (eqb-false (length s) table_size long)

  -- any number but 0 is that of the first reason that holds
  pub told-first : (n : ℕ) → (in_bytes c s).told.number ≡ suc n → First (suc n) (reasons_in s c)
  told-first n told = go (eqb (length s) table_size) refl
    where
      go : (long : Bool) → eqb (length s) table_size ≡ long → First (suc n) (1 when not long else reasons_of (table_of s) c)
      go true long =
          later
          (answer-first (table_of s) c n
          (ap (λ (d : Done). d.told.number) (replied_on c s (eqb-true (length s) table_size long) refl) ∙ told))
      go false long =
          let one : 1 ≡ suc n = ap (λ (d : Done). d.told.number) (sym (other_length (eqb-false (length s) table_size long))) ∙ told in
          subst (λ k. First k (1 when true else reasons_of (table_of s) c)) one this

-- every call leaves a table of machine values, so that its bytes are read back as it
four_most : (n : ℕ) → (eqb n 112 || eqb n 128 || eqb n 192 || eqb n 256) ≡ true → n < 2 ^ 16
four_most n h = go (either _ (eqb n 256) h)
  where
    two : (eqb n 112 || eqb n 128) ≡ true → n < 2 ^ 16
    two g = ⊎_elim (λ e. omega (arith, eqb-true n 112 e)) (λ e. omega (arith, eqb-true n 128 e)) (either (eqb n 112) (eqb n 128) g)

    three : (eqb n 112 || eqb n 128 || eqb n 192) ≡ true → n < 2 ^ 16
    three g = ⊎_elim two (λ e. omega (arith, eqb-true n 192 e)) (either _ (eqb n 192) g)

    go : ((eqb n 112 || eqb n 128 || eqb n 192) ≡ true) ⊎ (eqb n 256 ≡ true) → n < 2 ^ 16
    go (inl g) = three g
    go (inr e) = omega (arith, eqb-true n 256 e)

used-fits : (last : ℕ) (s : Slot) → last < 2 ^ 32 → Used last s → Fits s
used-fits last s small u =
    record {
      strength = four_most s.strength u.strength;
      interval = omega (arith, u.interval_most);
      counter = omega (arith, u.counter_most, u.interval_most);
      serial = omega (arith, u.serial_most);
      first = u.first.bytes;
      second = u.second.bytes;
    }

free_fits : Fits free_slot
free_fits = record { strength = lit< tt; interval = lit< tt; counter = lit< tt; serial = lit< tt; first = refl; second = refl }

machine_with_slot : (t : Table) (i : ℕ) (s : Slot) → Machine t → Fits s → Machine (with_slot t i s)
unfolding with_slot
machine_with_slot t i s m new =
    record {
      sixteen = length-set t.slots i s ∙ m.sixteen;
      fit = λ j below. ⊎_elim (λ is. subst Fits (sym is) new) (λ is. subst Fits (sym is) (m.fit j below)) (slot_at-cases t i s j);
      last = m.last;
    }

machine_with_last : (t : Table) (serial : ℕ) → Machine t → serial < 2 ^ 32 → Machine (with_last_serial t serial)
unfolding with_last_serial slot_at
machine_with_last t serial m small = record { sixteen = m.sixteen; fit = m.fit; last = small }

last_small : (t : Table) → Machine t → last_serial t < 2 ^ 32
unfolding last_serial
last_small t m = m.last

machine_moved : {t u : Table} {hs : List ℕ} → Moves t hs u → Machine t → last_serial u < 2 ^ 32 → Machine u
machine_moved stays m small = m
machine_moved {t} (adds s whole room used serial) m small =
    machine_with_last (with_slot t (lowest_free t 0 16) s) (last_serial t + 1)
    (machine_with_slot t (lowest_free t 0 16) s m (used-fits (last_serial t + 1) s (rw last_serial-with_last_serial at small) used))
    (rw last_serial-with_last_serial at small)
machine_moved {t} (steps handle s whole is used serial) m small =
    machine_with_slot t (handle % 16) s m (used-fits (last_serial t) s (last_small t m) used)
machine_moved {t} (ends handle whole is) m small = machine_with_slot t (handle % 16) free_slot m free_fits

last-after : (t : Table) (c : Call) → last_serial t < 2 ^ 32 → last_serial (after t c) < 2 ^ 32
unfolding stepped installed
last-after t c small = go c (outcome t c)
  where
    go : (c : Call) {r : Reply} → Outcome t c r → last_serial r.answer.table < 2 ^ 32
    go c (refusing n f) = small
    go (opens m s i f e n p) (serving none) =
        rw last_serial-with_last_serial (omega (arith, (may_open none).serials_left))
    go (reseeds handle e a) (serving none) = rw last_serial-with_slot small
    go (draws handle s o a) (serving none) = rw last_serial-with_slot small
    go (fresh_draws handle s o e a) (serving none) = rw last_serial-with_slot small
    go (closes handle) (serving none) = rw last_serial-with_slot small
    go (inquires handle) (serving none) = small

pub machine_after : (t : Table) (c : Call) → Machine t → Machine (after t c)
machine_after t c m = machine_moved (moved t c) m (last-after t c (last_small t m))

-- after a call the bytes are the table that follows
pub after_in_bytes : (c : Call) (s : List ℕ) → Bytes s → length s ≡ table_size → table_of (in_bytes c s).table ≡ after (table_of s) c
after_in_bytes c s b sized =
    ap (λ (d : Done). table_of d.table) (sym (replied_on c s sized refl)) ∙
    table_of-bytes (after (table_of s) c) (machine_after (table_of s) c (machine_table_of s b sized))

-- a call by value: its answer is the reply to the table that went in
pub by_value : (c : Call) (s : List ℕ) (d : Done) → Bytes s → length s ≡ table_size → d ≡ in_bytes c s
    → replied_with d ≡ reply (table_of s) c
by_value c s d b sized is =
    let t = table_of s in
    ap replied_with (is ∙ sym (replied_on c s sized refl)) ∙
    ap (λ u. record {
      answer = record { number = number t c; table = u; blocks = (reply t c).answer.blocks; value = (reply t c).answer.value };
      output = (reply t c).output;
    })
    (table_of-bytes (after t c) (machine_after t c (machine_table_of s b sized)))

-- sequences: every theorem here on sequences from a fresh table speaks of the caller's own bytes, zeros at first
all_in_bytes : (t : Table) (cs : List Call) → Machine t → in_bytes_all (table_bytes t) cs ≡ map done (run t cs)
all_in_bytes t [] m = refl
all_in_bytes t (c ∷ cs) m =
    let first : in_bytes c (table_bytes t) ≡ done (reply t c) =
    sym (replied_on c (table_bytes t) (length-table_bytes t m) refl) ∙
    ap (λ u. done (reply u c)) (table_of-bytes t m) in
    ap₂ ◌∷◌ first (ap (λ (d : Done). in_bytes_all d.table cs) first ∙ all_in_bytes (after t c) cs (machine_after t c m))

pub from_zeros : (cs : List Call) → in_bytes_all (replicate table_size 0) cs ≡ map done (run fresh_table cs)
from_zeros cs =
    let zeros = bytes-replicate table_size 0 (lit< tt) in
    ap (λ s. in_bytes_all s cs) (sym (bytes-table_of (replicate table_size 0) zeros refl) ∙ ap table_bytes fresh-bytes) ∙
    all_in_bytes fresh_table cs (subst Machine fresh-bytes (machine_table_of (replicate table_size 0) zeros refl))

-- demand 3 of the caller's bytes: two sequences alike, on bytes that are zero at first, tell the same
told_there : (r : Reply) → told_by (done r) ≡ told_of r.answer
told_there r = told_is (omega arith) (omega arith) (omega arith)

tells : (rs : List Reply) → map told_by (map done rs) ≡ map (λ (r : Reply). told_of r.answer) rs
tells [] = refl
tells (r ∷ rs) = ap₂ ◌∷◌ (told_there r) (tells rs)

told_from_zeros : (cs : List Call) → told_in_bytes (replicate table_size 0) cs ≡ told fresh_table cs
told_from_zeros cs = ap (map told_by) (from_zeros cs) ∙ tells (run fresh_table cs)

pub bytes_from_zeros_alike : {cs ds : List Call} → AllAlike cs ds
    → told_in_bytes (replicate table_size 0) cs ≡ told_in_bytes (replicate table_size 0) ds
bytes_from_zeros_alike {cs} {ds} alike = told_from_zeros cs ∙ runs_from_fresh_alike alike ∙ sym (told_from_zeros ds)
