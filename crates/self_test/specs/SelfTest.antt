-- The cases that the library tests itself with, and what the test answers.
use Rattle.std.specs.Prelude.{ℕ, List, [], ◌∷◌, get_or}
use Rattle.self_test.specs.Cases.{Case, reseeded, fresh, refused, first_from}
use Rattle.self_test.specs.Published.{hmac_reseeded, hash_reseeded, hmac_fresh, hash_fresh}

-- a refused draw on a table with one generator, a Hash_DRBG
abbrev pub hash_refused : Case
hash_refused =
    let p = hash_reseeded in
    refused 2 p.entropy1 p.nonce p.personalization p.additional2

abbrev pub cases : List Case
cases = reseeded 1 hmac_reseeded ∷ reseeded 2 hash_reseeded ∷ fresh 1 hmac_fresh ∷ fresh 2 hash_fresh ∷ hash_refused ∷ []

-- by its place in the list
abbrev pub case_at : (n : ℕ) → Case
case_at n = get_or cases n hash_refused

-- 0 where each case holds, else the number of the first that does not
unfoldable pub first_differing : ℕ
first_differing = first_from 1 cases
