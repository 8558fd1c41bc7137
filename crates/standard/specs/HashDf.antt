-- SP 800-90A §10.3.1: the derivation function using a hash function, Hash_df.
-- Differs from the document: lengths are in bytes; the number of turns is the ceiling, as in the published text.
use Rattle.std.specs.Prelude.{ℕ, zero, suc, ◌+◌, ◌*◌, List, [], ◌++◌, take}
use Rattle.standard.specs.Metered.{Metered, return, ◌>>=◌}
use Rattle.standard.specs.Strings.{bytes_of, ceiling}
use Rattle.standard.specs.Hash.{Hash, out_bytes, hash}

module _ (H : Hash) where
  -- 4: the first i turns; the counter of turn i (from 0) is i + 1, and n the number of bytes to return
  unfoldable pub hash_df_turns : (n : ℕ) (input : List ℕ) (i : ℕ) → Metered (List ℕ)
  hash_df_turns n input zero = return []
  hash_df_turns n input (suc i) = do
    temp ← hash_df_turns n input i
    h ← hash H (bytes_of 1 (i + 1) ++ (bytes_of 4 (8 * n) ++ input))
    return (temp ++ h)

  unfoldable pub hash_df : (input : List ℕ) (n : ℕ) → Metered (List ℕ)
  hash_df input n = do
    temp ← hash_df_turns n input (ceiling n (out_bytes H))
    return (take n temp)
