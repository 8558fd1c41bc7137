-- SP 800-90A §10.1.2: HMAC_DRBG over any `Hash`.
-- Differs from the document: lengths are in bytes; step 1 of generate (reseed required) is the caller's.
use Rattle.std.specs.Prelude.{ℕ, zero, suc, ◌+◌, List, [], ◌∷◌, ◌++◌, take, replicate}
use Rattle.standard.specs.Metered.{Metered, return, ◌>>=◌}
use Rattle.standard.specs.Strings.{ceiling, if_null}
use Rattle.standard.specs.Hash.{Hash, out_bytes}
use Rattle.standard.specs.Hmac.{Key, key, hmac, rekey}
use Rattle.standard.specs.State.{State, Drawn}

-- Key, made ready, and V
pub record Keyed : Type 0 where
  pub K : Key
  pub v : List ℕ

-- what is kept of them between calls
abbrev pub kept : Keyed → ℕ → State
kept u counter = record { first = u.K.bytes; second = u.v; counter = counter }

module _ (H : Hash) where
  -- 10.1.2.2
  unfoldable pub update : (provided : List ℕ) → Keyed → Metered Keyed
  update provided u = do
    K ← rekey H u.K (u.v ++ (0x00 ∷ provided))  -- 1
    v ← hmac H K u.v  -- 2
    if_null provided (return (record { K = K; v = v }))  -- 3
        (do
          K ← rekey H K (v ++ (0x01 ∷ provided))  -- 4
          v ← hmac H K v  -- 5
          return (record { K = K; v = v }))  -- 6

  -- the state of the last call, its key made ready for this one
  unfoldable pub taken : State → Metered Keyed
  taken s = do
    K ← key H s.first
    return (record { K = K; v = s.second })

  -- 10.1.2.3
  unfoldable pub instantiate : (entropy nonce personalization : List ℕ) → Metered State
  instantiate entropy nonce personalization = do
    K ← key H (replicate (out_bytes H) 0x00)  -- 2
    u ← update (entropy ++ (nonce ++ personalization))  -- 1, 4
        (record { K = K; v = replicate (out_bytes H) 0x01 })  -- 3
    return (kept u 1)  -- 5, 6

  -- 10.1.2.4
  unfoldable pub reseed : State → (entropy additional : List ℕ) → Metered State
  reseed s entropy additional = do
    u ← taken s
    u ← update (entropy ++ additional) u  -- 1, 2
    return (kept u 1)  -- 3, 4

  -- 10.1.2.5, steps 3 and 4: temp and V after i turns of the loop
  unfoldable pub output_turns : Key → (v : List ℕ) (i : ℕ) → Metered (List ℕ × List ℕ)
  output_turns K v zero = return ([], v)
  output_turns K v (suc i) = do
    turn ← output_turns K v i
    v ← hmac H K turn.1  -- 4.1
    return (turn.0 ++ v, v)  -- 4.2

  -- 10.1.2.5: n bytes
  unfoldable pub generate : State → (n : ℕ) (additional : List ℕ) → Metered Drawn
  generate s n additional = do
    u ← taken s
    u ← if_null additional (return u) (update additional u)  -- 2
    turn ← output_turns u.K u.v (ceiling n (out_bytes H))  -- 3, 4
    u ← update additional (record { K = u.K; v = turn.1 })  -- 6
    return (record { bytes = take n turn.0; state = kept u (s.counter + 1) })  -- 5, 7, 8
