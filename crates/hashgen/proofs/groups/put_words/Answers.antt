-- A turn lays the two words of a limb; the two behind the limbs are laid last.
use Rattle.std.proofs.Common.{◌≡◌, ◌+◌, ◌*◌, ◌/◌, ◌<◌, ◌++◌, refl, sym, ap, ◌∙◌, append-nil, length, get_or, take, set, length-set, arith}
use Rattle.std.specs.Int.Bits.{bit_and}
use lib.Bits.{and_mask}
use Rattle.standard.specs.Hash.{schedule}
use Rattle.standard.specs.Sha256.{sha256}
use Rattle.sums.specs.Limbs.{string_of}
use Rattle.sums.proofs.Limbs.{length-string_of}
use Rattle.hashgen.specs.Turns.{block_of, block_end}
use Rattle.hashgen.proofs.Words.{word_put, high_word, low_word, zero_word, length_word}
use Rattle.hashgen.proofs.groups.put_words.Goals as goal

pub loop-i-init : goal.loop-i-init
unfolding schedule
loop-i-init c =
    let words = c.args.words.now in
    let from = 16 * c.args.l in
    let none : from + 2 * 0 ≡ from = omega arith in
    (omega arith, ap (λ n. take n words) none ∙ sym (append-nil (take from words)))

pub loop-i-preserved : goal.loop-i-preserved
loop-i-preserved c =
    let l = c.loop-i in
    let from = 16 * c.args.l in
    let p = take from c.args.words.now in
    let limbs = c.args.limbs in
    let x = get_or limbs l.i 0 in
    let block = block_of limbs in
    let inside : l.i < length limbs = omega arith in
    let small : x / 4294967296 < 4294967296 = omega arith in
    let room : from + 2 * l.i < length l.words = omega arith in
    let room₂ : from + (2 * l.i + 1) < length (set l.words (from + 2 * l.i) (x / 4294967296)) = simp length-set (omega arith) in
    let at₂ : from + 2 * l.i + 1 ≡ from + (2 * l.i + 1) = omega arith in
    let next : 2 * (l.i + 1) ≡ 2 * l.i + 1 + 1 = omega arith in
    let first =
    word_put l.words p block from (2 * l.i) (from + 2 * l.i) (x / 4294967296) refl room (omega arith)
    (sym (high_word limbs l.i inside block_end small)) l.invariant.1 in
    let second =
    word_put _ p block from (2 * l.i + 1) (from + 2 * l.i + 1) (bit_and x 4294967295) at₂ room₂ (omega arith)
    (and_mask x 32 ∙ sym (low_word limbs l.i inside block_end)) first in
    (simp length-set (omega arith), rw next second)

pub returns : goal.returns
returns c =
    let l = c.loop-i in
    let from = 16 * c.args.l in
    let p = take from c.args.words.now in
    let block = block_of c.args.limbs in
    let done : l.i ≡ 7 = omega arith in
    let string = string_of c.args.limbs in
    let size : length string ≡ 56 = omega (arith, length-string_of c.args.limbs) in
    let so_far : take (from + 14) l.words ≡ p ++ schedule sha256 block 14 = rw done at l.invariant.1 in
    let room : from + 14 < length l.words = omega arith in
    let room₂ : from + 15 < length (set l.words (from + 14) 0) = simp length-set (omega arith) in
    let first = word_put l.words p block from 14 (from + 14) 0 refl room (omega arith) (sym (zero_word string size)) so_far in
    word_put (set l.words (from + 14) 0) p block from 15 (from + 15) 440 refl room₂ (omega arith) (sym (length_word string size)) first
