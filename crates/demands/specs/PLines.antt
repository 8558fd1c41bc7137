-- Document 01, 'Both sides of each edge', lines 1 to 8 (P): one table of examples, and what each row says. A row of lines 1 to 6 is about
-- every string of its length and every state whose fields have their lengths, a row of 7 and 8 about calls on every table or on the
-- fresh one.
use Rattle.std.specs.Prelude.{◌≡◌, Bool, true, false, ◌⊎◌, List, [], ◌∷◌, ◌++◌, ℕ, ◌+◌, ◌/◌, length, replicate}
use Rattle.standard.specs.Hash.{hash}
use Rattle.standard.specs.Sha256.{sha256}
use Rattle.standard.specs.State.{State}
use Rattle.standard.specs.HashDrbg.{stepped}
use Rattle.standard.specs.HmacDrbg.{Keyed, update}
use Rattle.standard.specs.Functions.{Mechanism, HMAC_DRBG, Hash_DRBG, opening, draw}
use Rattle.standard.specs.Lengths.{Ready, Sized, state_bytes}
use Rattle.slots.specs.Layout.{Table, fresh_table}
use Rattle.slots.specs.Sound.{sound}
use Rattle.slots.specs.Handle.{slot_of}
use Rattle.table.specs.Calls.{Call, opens, Under}
use Rattle.demands.specs.Calls.{answer, number, after}

infix 70 hash_of◌takes◌
infix 70 update_with◌takes◌
infix 70 ◌draw_of◌takes◌
infix 70 ◌open_with◌takes◌
infix 70 V_of◌plus◌is◌
infix 70 strength◌gives◌
infix 70 strength◌refused
infix 70 on_a_fresh_table◌is_answered◌
infix 70 the_first_handle_is◌
pub data Row : Type 0 where
  hash_of◌takes◌ update_with◌takes◌ : (bytes blocks : ℕ) → Row
  ◌draw_of◌takes◌ ◌open_with◌takes◌ : Mechanism → (bytes blocks : ℕ) → Row
  V_of◌plus◌is◌ : (v : List ℕ) (n : ℕ) (sum : List ℕ) → Row
  strength◌gives◌ : (asked given : ℕ) → Row
  strength◌refused : (asked : ℕ) → Row
  on_a_fresh_table◌is_answered◌ : (handle number : ℕ) → Row
  the_first_handle_is◌ : (handle : ℕ) → Row

-- a draw has no additional input; a strength is given to every served opening, and on the fresh table the least entropy and the least nonce
-- of that strength serve, with either mechanism, and a nonce one byte shorter is answered 9 (§1)
abbrev pub Holds : Row → Type 0
Holds (hash_of n takes k) = (m : List ℕ) → length m ≡ n → (hash sha256 m).blocks ≡ k
Holds (update_with n takes k) = (d : List ℕ) (u : Keyed) → length d ≡ n → Ready sha256 u → (update sha256 d u).blocks ≡ k
Holds (mechanism draw_of n takes k) = (s : State) → Sized (state_bytes sha256 mechanism) s → (draw sha256 mechanism s n []).blocks ≡ k
Holds (mechanism open_with n takes k) = (entropy nonce personalization : List ℕ) → length (entropy ++ (nonce ++ personalization)) ≡ n
    → (opening sha256 mechanism entropy nonce personalization).blocks ≡ k
Holds (V_of v plus n is sum) = stepped sha256 v n ≡ sum
Holds (strength asked gives given) =
    ((t : Table) (m i : ℕ) (f : Bool) (e n p : List ℕ) →
    let c = opens m asked i f e n p in
    number t c ≡ 0 → (slot_of (after t c) (answer t c).value).strength ≡ given)
    × ((m : ℕ) → (m ≡ 1) ⊎ (m ≡ 2) → (e n : List ℕ) → length e ≡ given / 8 →
    let c = opens m asked 1 false e n [] in
    (length n ≡ given / 16 → number fresh_table c ≡ 0) × (length n + 1 ≡ given / 16 → number fresh_table c ≡ 9))
Holds (strength asked refused) =
    (t : Table) (m i : ℕ) (f : Bool) (e n p : List ℕ) → sound t ≡ true → (m ≡ 1) ⊎ (m ≡ 2) → number t (opens m asked i f e n p) ≡ 4
Holds (on_a_fresh_table h is_answered k) = (c : Call) → Under h c → number fresh_table c ≡ k
Holds (the_first_handle_is h) = (m s i : ℕ) (f : Bool) (e n p : List ℕ) →
    let c = opens m s i f e n p in
    number fresh_table c ≡ 0 → (answer fresh_table c).value ≡ h

unfoldable pub table : List Row
table =
    hash_of 0 takes 1 ∷ hash_of 55 takes 1 ∷ hash_of 56 takes 2 ∷  -- 1
    update_with 22 takes 16 ∷ update_with 23 takes 18 ∷ update_with 0 takes 8 ∷  -- 2
    HMAC_DRBG draw_of 0 takes 8 ∷ HMAC_DRBG draw_of 1 takes 12 ∷ HMAC_DRBG draw_of 32 takes 12 ∷ HMAC_DRBG draw_of 33 takes 16 ∷  -- 3
    Hash_DRBG draw_of 32 takes 3 ∷ Hash_DRBG draw_of 33 takes 4 ∷  -- 4
    Hash_DRBG open_with 50 takes 6 ∷ Hash_DRBG open_with 51 takes 8 ∷  -- 5
    V_of replicate 55 0xff plus 1 is replicate 55 0x00 ∷  -- 6
    strength 112 gives 112 ∷ strength 113 gives 128 ∷ strength 129 gives 192 ∷ strength 193 gives 256 ∷ strength 257 refused ∷  -- 7
    on_a_fresh_table 15 is_answered 2 ∷ the_first_handle_is 16 ∷ []  -- 8

-- what holds of each element of a list
pub data All {A : Type 0} (P : A → Type 0) : List A → Type 0 where
  none : All P []
  more : {a : A} {l : List A} → P a → All P l → All P (a ∷ l)
