-- The turns in groups, and those behind them, are all turns.
use Rattle.std.proofs.Common.{length, arith}
use Rattle.sums.specs.Limbs.{value_in}
use Rattle.hashgen.proofs.Turns.{after_none, hashgen-is, data_is}
use Rattle.hashgen.proofs.filled.Goals as goal

pub returns-clause-is : goal.returns-clause-is
returns-clause-is c =
    let next = c.args.next.now in
    let out = c.args.out.now in
    let v = value_in next in
    let all = c.filled-turns in
    let after = all.ensures.is v (c.filled-grouped.ensures.is v (after_none next out c.requires.0 c.requires.2)) in
    hashgen-is v all.new.next all.new.out (length out) all.result (omega arith) (omega arith) (omega arith) after

pub returns-clause-moved : goal.returns-clause-moved
returns-clause-moved c =
    let next = c.args.next.now in
    let out = c.args.out.now in
    let v = value_in next in
    let all = c.filled-turns in
    let after = all.ensures.is v (c.filled-grouped.ensures.is v (after_none next out c.requires.0 c.requires.2)) in
    data_is v all.new.next all.new.out (length out) all.result (omega arith) (omega arith) (omega arith) after (omega arith)
