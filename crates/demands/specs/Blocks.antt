-- Document 01, 'Blocks', of the calls: the closed form at the lengths that a call was lent, and at the mechanism of its generator.
use Rattle.std.specs.Prelude.{false, List, [], ◌++◌, ℕ, length}
use Rattle.standard.specs.Sha256.{sha256}
use Rattle.standard.specs.Blocks.{open_count, reseed_count, draw_count, fresh_draw_count}
use Rattle.drbg.specs.Mechanism.{mechanism_of}
use Rattle.slots.specs.Layout.{Table}
use Rattle.slots.specs.Handle.{slot_of}
use Rattle.table.specs.Served.{mechanism_in}
use Rattle.table.specs.Calls.{Call, opens, reseeds, draws, fresh_draws, closes, inquires}

-- the blocks that a served call reports
abbrev pub count_of : Table → Call → ℕ
count_of t (opens mechanism strength interval fresh entropy nonce personalization) =
    open_count sha256 (mechanism_of mechanism) (length (entropy ++ (nonce ++ personalization)))
count_of t (reseeds handle entropy additional) = reseed_count sha256 (mechanism_in (slot_of t handle)) (length (entropy ++ additional))
count_of t (draws handle strength out additional) = draw_count sha256 (mechanism_in (slot_of t handle)) (length out) (length additional)
count_of t (fresh_draws handle strength out entropy additional) =
    fresh_draw_count sha256 (mechanism_in (slot_of t handle)) (length out) (length (entropy ++ additional))
count_of t (closes handle) = 0
count_of t (inquires handle) = 0

-- two calls that reach the bound of 8,288 where entropy has 32 bytes, the nonce 16, the output 65,536 and the additional input 1,024:
-- an HMAC_DRBG generator is opened on the fresh table, and the longest draw is made under its handle, 16
abbrev pub first_opening : (entropy nonce : List ℕ) → Call
first_opening entropy nonce = opens 1 256 1 false entropy nonce []

abbrev pub longest_draw : (out additional : List ℕ) → Call
longest_draw out additional = draws 16 256 out additional
