-- Of the caller's bytes a call changes only those in its own slot's place, and an opening the last serial's besides: a byte of the table is
-- a byte of the slot in whose place it stands, and the call keeps that slot. Assumes only that bytes are bytes.
use mathlib.Core.Path.{◌≡◌, refl, sym, ap, subst, ◌∙◌}
use mathlib.Core.List.{List}
use Prim.Native.Nat.{ℕ, ◌/◌}
use native.Mathlib.Decide.{ℕ_discrete}
use native.Mathlib.Omega.{arith}
use lib.ListN.{length, get_or}
use Rattle.standard.specs.Strings.{Bytes}
use Rattle.slots.specs.Sizes.{slot_size, table_size}
use Rattle.slots.specs.Machine.{Machine}
use Rattle.slots.specs.Bytes.{table_bytes, table_of}
use Rattle.slots.proofs.TableBytes.{length-table_bytes, bytes-table_of, machine_table_of, same-slot, same-last}
use Rattle.table.specs.Calls.{Call, inquires}
use Rattle.table.specs.OnBytes.{Done, in_bytes}
use Rattle.table.proofs.OnBytes.{replied_on}
use Rattle.demands.specs.Calls.{after}
use Rattle.demands.specs.InBytes.{LeftAlone, another_slot, last-serial}
use Rattle.demands.proofs.Kept.{others_kept, last-kept, inquire_keeps}
use Rattle.demands.proofs.InBytes.{other_length, machine_after}

-- what a call leaves: the bytes as they were where they are no table, else those of the table that follows
by_length : (c : Call) (s : List ℕ) (P : List ℕ → Type 0) → P s → (length s ≡ table_size → P (table_bytes (after (table_of s) c)))
    → P (in_bytes c s).table
by_length c s P none some = go (ℕ_discrete (length s) table_size)
  where
    go : Dec (length s ≡ table_size) → P (in_bytes c s).table
    go (no other) = subst (λ (d : Done). P d.table) (sym (other_length c s other)) none
    go (yes sized) = subst (λ (d : Done). P d.table) (replied_on c s sized refl) (some sized)

module _ (c : Call) (s : List ℕ) (b : Bytes s) where
  -- a byte outside the call's own slot is as it was, and so is one of the last serial unless the call is an opening
  pub bytes-kept : (at : ℕ) → LeftAlone (table_of s) c at → get_or (in_bytes c s).table at 0 ≡ get_or s at 0
  bytes-kept at alone =
      by_length c s (λ l. get_or l at 0 ≡ get_or s at 0) refl
      (λ sized. go (machine_table_of s b sized) alone ∙ ap (λ l. get_or l at 0) (bytes-table_of s b sized))
    where
      go : Machine (table_of s) → LeftAlone (table_of s) c at
          → get_or (table_bytes (after (table_of s) c)) at 0 ≡ get_or (table_bytes (table_of s)) at 0
      go m (another_slot before other) =
          same-slot (table_of s) (after (table_of s) c) m (machine_after (table_of s) c m) at before
          (others_kept (table_of s) c (at / slot_size) (λ is. other (omega arith)))
      go m (last-serial past under) =
          same-last (table_of s) (after (table_of s) c) m (machine_after (table_of s) c m) at past (last-kept (table_of s) c under)

  -- and there are as many bytes as before
  pub length-kept : length (in_bytes c s).table ≡ length s
  length-kept =
      by_length c s (λ l. length l ≡ length s) refl
      (λ sized.
      length-table_bytes (after (table_of s) c) (machine_after (table_of s) c (machine_table_of s b sized)) ∙ sym sized)

-- inquire changes no byte at all
pub inquire_keeps_bytes : (h : ℕ) (s : List ℕ) → Bytes s → (in_bytes (inquires h) s).table ≡ s
inquire_keeps_bytes h s b =
    by_length (inquires h) s (λ l. l ≡ s) refl (λ sized. ap table_bytes (inquire_keeps (table_of s) h) ∙ bytes-table_of s b sized)
