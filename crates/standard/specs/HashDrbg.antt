-- SP 800-90A §10.1.1: Hash_DRBG over any `Hash`.
-- Differs from the document: lengths are in bytes; step 1 of generate (reseed required) is the caller's.
use Rattle.std.specs.Prelude.{ℕ, zero, suc, ◌+◌, ◌-◌, ◌*◌, List, [], ◌∷◌, ◌++◌, take}
use Rattle.standard.specs.Metered.{Metered, return, ◌>>=◌}
use Rattle.standard.specs.Strings.{number_of, bytes_of, ceiling, if_null}
use Rattle.standard.specs.Hash.{Hash, out_bytes, hash}
use Rattle.standard.specs.HashDf.{hash_df}
use Rattle.standard.specs.State.{State, Drawn}

-- table 2: seedlen, in bytes: 55 (440 bits) for words of 4 bytes, 111 (888 bits) for words of 8
abbrev pub seed_bytes : Hash → ℕ
seed_bytes H = 14 * H.word_bytes - 1

module _ (H : Hash) where
  -- (a + n) mod 2^seedlen
  unfoldable pub stepped : (a : List ℕ) (n : ℕ) → List ℕ
  stepped a n = bytes_of (seed_bytes H) (number_of a + n)

  -- 10.1.1.2, steps 2 to 6, and 10.1.1.3, steps 2 to 6
  unfoldable pub seeded : (material : List ℕ) → Metered State
  seeded material = do
    v ← hash_df H material (seed_bytes H)  -- 2, 3
    c ← hash_df H (0x00 ∷ v) (seed_bytes H)  -- 4
    return (record { first = v; second = c; counter = 1 })  -- 5, 6

  -- 10.1.1.2
  unfoldable pub instantiate : (entropy nonce personalization : List ℕ) → Metered State
  instantiate entropy nonce personalization = seeded (entropy ++ (nonce ++ personalization))  -- 1

  -- 10.1.1.3
  unfoldable pub reseed : State → (entropy additional : List ℕ) → Metered State
  reseed s entropy additional = seeded (0x01 ∷ (s.first ++ (entropy ++ additional)))  -- 1

  -- 10.1.1.4, Hashgen: the first i turns, W and data
  unfoldable pub hashgen_turns : (v : List ℕ) (i : ℕ) → Metered (List ℕ × List ℕ)
  hashgen_turns v zero = return ([], v)  -- 2, 3
  hashgen_turns v (suc i) = do
    turn ← hashgen_turns v i
    w ← hash H turn.1  -- 4.1
    return (turn.0 ++ w, stepped turn.1 1)  -- 4.2, 4.3

  unfoldable pub hashgen : (n : ℕ) (v : List ℕ) → Metered (List ℕ)
  hashgen n v = do
    turn ← hashgen_turns v (ceiling n (out_bytes H))  -- 1, 4
    return (take n turn.0)  -- 5, 6

  -- 10.1.1.4, step 2
  unfoldable pub refreshed : (additional v : List ℕ) → Metered (List ℕ)
  refreshed additional v =
      if_null additional (return v)
      (do
        w ← hash H (0x02 ∷ (v ++ additional))  -- 2.1
        return (stepped v (number_of w)))  -- 2.2

  -- 10.1.1.4: n bytes
  unfoldable pub generate : State → (n : ℕ) (additional : List ℕ) → Metered Drawn
  generate s n additional = do
    v ← refreshed additional s.first  -- 2
    returned ← hashgen n v  -- 3
    h ← hash H (0x03 ∷ v)  -- 4
    return
        (record {
          bytes = returned;
          state =
              record {
                first = stepped v (number_of h + number_of s.second + s.counter);  -- 5
                second = s.second;
                counter = s.counter + 1;  -- 6
              };
        })
