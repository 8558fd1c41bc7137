-- Document 01, 'Order of checks': the reasons of each call, in its order, on plain numbers. A name of a string stands for its length.
use Rattle.std.specs.Prelude.{ℕ, ◌/◌, ◌^◌, Bool, not, ◌&&◌, ◌||◌, cond, eqb, leb, ltb}
use Rattle.reasons.specs.Reasons.{Reasons, served, ◌when◌else◌}

abbrev pub outside : (least x most : ℕ) → Bool
outside least x most = ltb x least || ltb most x

-- the opening strength, rounded up to 112, 128, 192 or 256
unfoldable pub rounded : (strength : ℕ) → ℕ
rounded strength = cond (leb strength 112) 112 (cond (leb strength 128) 128 (cond (leb strength 192) 192 256))

-- slot is the lowest free one, 16 where there is none, and last the last serial. The least entropy has the strength in bits, and the least
-- nonce half as many (SP 800-90A §8.6.3, §8.6.7)
unfoldable pub open_reasons : (sound : Bool) (mechanism strength interval entropy nonce personalization slot last : ℕ) → Reasons
open_reasons sound mechanism strength interval entropy nonce personalization slot last =
    1 when not sound else
    3 when not (eqb mechanism 1) && not (eqb mechanism 2) else
    4 when ltb 256 strength else
    5 when outside 1 interval (2 ^ 48) else
    6 when ltb 512 personalization else
    8 when outside (rounded strength / 8) entropy 1024 else
    9 when outside (rounded strength / 16) nonce 64 else
    13 when eqb slot 16 else
    14 when eqb last 4294967295 else
    served

-- own is the generator's own strength
unfoldable pub reseed_reasons : (sound named : Bool) (own entropy additional : ℕ) → Reasons
reseed_reasons sound named own entropy additional =
    1 when not sound else
    2 when not named else
    7 when ltb 1024 additional else
    8 when outside (own / 8) entropy 1024 else
    served

-- own is the generator's own strength
unfoldable pub draw_reasons : (sound named : Bool) (own interval counter strength request additional : ℕ) → Reasons
draw_reasons sound named own interval counter strength request additional =
    1 when not sound else
    2 when not named else
    10 when ltb 65536 request else
    4 when ltb own strength else
    7 when ltb 1024 additional else
    12 when ltb interval counter else
    served

-- own is the generator's own strength, and fresh its right to fresh draws
unfoldable pub fresh_draw_reasons : (sound named : Bool) (own fresh strength request entropy additional : ℕ) → Reasons
fresh_draw_reasons sound named own fresh strength request entropy additional =
    1 when not sound else
    2 when not named else
    10 when ltb 65536 request else
    4 when ltb own strength else
    7 when ltb 1024 additional else
    11 when eqb fresh 0 else
    8 when outside (own / 8) entropy 1024 else
    served

unfoldable pub close_reasons : (sound named : Bool) → Reasons
close_reasons sound named =
    1 when not sound else
    2 when not named else
    served

unfoldable pub inquire_reasons : (sound named : Bool) → Reasons
inquire_reasons sound named =
    1 when not sound else
    2 when not named else
    served
