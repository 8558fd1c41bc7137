-- What waits grows, or fills a block that is absorbed.
use Rattle.std.proofs.Common.{◌≡◌, ◌%◌, ◌<◌, length, take, refl, ◌∙◌, mod-eq_of_lt, take_all}
use Rattle.std.proofs.Common.{arith}
use Rattle.sha256.proofs.Feeding.{fed-part, fed-whole}
use Rattle.sha256.proofs.Scratch.{picked_block, block_size}
use Rattle.sha256.proofs.running.Running.step.Goals as goal

-- a part that is less than a block is copied whole
pub returns-then-fill-n-lt64 : goal.returns-then-fill-n-lt64
returns-then-fill-n-lt64 c =
    let part = c.args.part.now in
    let small : length part < 64 = omega arith in
    let all : take (length part % 64) part ≡ part = rw (mod-eq_of_lt small) (take_all (length part) part (omega arith)) in
    fed-part c.args.self _ part refl refl refl c.if-fill-n-lt64.true (rw all at c.gathered-scratch.ensures)

-- what waited and the part are the block that is picked
pub absorb-requires : goal.absorb-requires
absorb-requires c =
    let h = c.args.self in
    let part = c.args.part.now in
    let is = picked_block c.gathered-scratch.result h.scratch part h.waiting (omega arith) (omega arith) c.gathered-scratch.ensures in
    (block_size h.scratch part c.pick.result.now h.waiting (omega arith) (omega arith) (c.pick.ensures ∙ is), c.requires.1)

pub returns : goal.returns
returns c =
    let h = c.args.self in
    let part = c.args.part.now in
    let is = picked_block c.gathered-scratch.result h.scratch part h.waiting (omega arith) (omega arith) c.gathered-scratch.ensures in
    let block-is = c.pick.ensures ∙ is in
    fed-whole h c.absorb.result part c.pick.result.now c.absorb.ensures (omega arith) block-is
    (block_size h.scratch part c.pick.result.now h.waiting (omega arith) (omega arith) block-is)
