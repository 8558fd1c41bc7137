-- A running hash that reads: a part of a block, the rest of a block, and one string after another. Assumes nothing.
use mathlib.Core.Path.{◌≡◌, sym, ap, ap₂, ◌∙◌, subst}
use mathlib.Core.List.{List, [], ◌++◌, append_assoc, append-nil}
use Prim.Native.Nat.{ℕ, ◌+◌, ◌*◌, ◌/◌, ◌≤◌, ◌<◌}
use native.Mathlib.Nat.{le_of_eq, add-zero}
use lib.Dec.{lit<}
use native.Mathlib.Omega.{arith}
use lib.ListN.{length, take, drop, length-append, drop_of_length-le}
use lib.Seq.{drop-append-le, take_all}
use Rattle.standard.specs.Hash.{block_at, compressed, absorbed, padding, padded, digest, hash}
use Rattle.standard.specs.Sha256.{sha256}
use Rattle.standard.proofs.Hash.{absorbed-append, absorbed-more}
use Rattle.standard.proofs.Counts.{absorbed-blocks}
use Rattle.standard.proofs.Lengths.{length-padded}
use Rattle.compression.specs.Values.{eight_of}
use Rattle.sha256.specs.Fed.{HasRead, Fed, Absorbed, bytes_read}
use Rattle.sha256.specs.declared.running.Running.{Running}

module _ (h r : Running) (x : List ℕ) where
  -- what of m ++ x does not stand in m's whole blocks
  rest_then : (m : List ℕ) → HasRead m h → drop (64 * h.blocks) (m ++ x) ≡ take h.waiting h.scratch ++ x
  rest_then m has =
      let whole : 64 * h.blocks ≤ length m = omega (arith, has.length_is) in
      drop-append-le (64 * h.blocks) m x whole ∙ ap (λ l. l ++ x) (sym has.rest_waits)

  words_then : (m : List ℕ) → HasRead m h → eight_of h.words ≡ (absorbed sha256 (m ++ x) h.blocks sha256.initial).value
  words_then m has =
      let whole : 64 * h.blocks ≤ length m = omega (arith, has.length_is) in
      has.words_are ∙ ap (λ t. t.value) (sym (absorbed-append sha256 m x h.blocks sha256.initial whole))

  pub fed-part :
      r.words ≡ h.words → r.blocks ≡ h.blocks → r.waiting ≡ h.waiting + length x → r.waiting < 64
      → take r.waiting r.scratch ≡ take h.waiting h.scratch ++ x → Fed h x r
  fed-part words blocks waiting few scratch =
      record {
        after = λ m has.
            record {
              length_is = length-append m x ∙ omega (arith, has.length_is);
              words_are = ap eight_of words ∙ words_then m has ∙ ap (λ n. (absorbed sha256 (m ++ x) n sha256.initial).value) (sym blocks);
              few = few;
              rest_waits = scratch ∙ sym (rest_then m has) ∙ ap (λ n. drop (64 * n) (m ++ x)) (sym blocks);
            };
        grown = omega arith;
        few = few;
      }

  pub fed-whole :
      (block : List ℕ) → Absorbed h block r → h.waiting + length x ≡ 64 → block ≡ take h.waiting h.scratch ++ x → length block ≡ 64
      → Fed h x r
  unfolding block_at
  fed-whole block done fills is_Block size =
      record {
        after = λ m has. after m has;
        grown = omega (arith, done.blocks_are, done.none_waits);
        few = omega (arith, done.none_waits);
      }
    where
      long : (m : List ℕ) → HasRead m h → length (m ++ x) ≡ bytes_read r
      long m has = length-append m x ∙ omega (arith, has.length_is, done.blocks_are, done.none_waits)

      the_block : (m : List ℕ) → HasRead m h → block_at sha256 (m ++ x) h.blocks ≡ block
      the_block m has =
          ap (take 64) (rest_then m has ∙ sym is_Block) ∙ take_all 64 block (le_of_eq size)

      nothing_left : (m : List ℕ) → HasRead m h → drop (64 * r.blocks) (m ++ x) ≡ []
      nothing_left m has =
          let all : length (m ++ x) ≤ 64 * r.blocks = omega (arith, long m has, done.none_waits) in
          drop_of_length-le (m ++ x) all

      after : (m : List ℕ) → HasRead m h → HasRead (m ++ x) r
      after m has =
          record {
            length_is = long m has;
            words_are =
                done.words_are ∙
                ap₂ (compressed sha256) (words_then m has) (sym (the_block m has)) ∙
                sym (absorbed-more sha256 (m ++ x) h.blocks sha256.initial) ∙
                ap (λ n. (absorbed sha256 (m ++ x) n sha256.initial).value) (sym done.blocks_are);
            few = omega (arith, done.none_waits);
            rest_waits = ap (λ n. take n r.scratch) done.none_waits ∙ sym (nothing_left m has);
          }

pub fed_then : {h q r : Running} {x y : List ℕ} → Fed h x q → Fed q y r → Fed h (x ++ y) r
fed_then {h} {q} {r} {x} {y} first second =
    record {
      after = λ m has. subst (λ l. HasRead l r) (append_assoc m x y) (second.after (m ++ x) (first.after m has));
      grown = second.grown ∙ ap (λ n. n + length y) first.grown ∙ omega (arith, length-append x y);
      few = second.few;
    }

pub fed-none : (h : Running) → h.waiting < 64 → Fed h [] h
fed-none h few =
    record {
      after = λ m has. subst (λ l. HasRead l h) (sym (append-nil m)) has;
      grown = omega arith;
      few = few;
    }

-- a hash that has read a padded message has the message's hash
pub hash_of_read : (m : List ℕ) (h : Running) → HasRead (padded sha256 m) h
    → hash sha256 m ≡ record { value = digest sha256 (eight_of h.words); blocks = h.blocks }
unfolding hash
hash_of_read m h has =
    let all : length (padded sha256 m) / 64 ≡ h.blocks = omega (arith, length-padded sha256 (lit< tt) m, has.length_is, has.few) in
    rw (all, absorbed-blocks sha256, add-zero, has.words_are)

-- the padding of what was read, read too
pub read-padded : {m : List ℕ} {h r : Running} → HasRead m h → Fed h (padding sha256 (bytes_read h)) r → HasRead (padded sha256 m) r
unfolding padded
read-padded {m} {h} {r} has fed = subst (λ n. HasRead (m ++ padding sha256 n) r) (sym has.length_is) (fed.after m has)
