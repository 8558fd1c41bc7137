-- The one view of how a call comes out: refused by its first reason, or served. Assumes nothing.
use Rattle.slots.specs.Layout.{Table}
use Rattle.reasons.proofs.Decisions.{Decision}
use Rattle.table.specs.Answers.{Reply}
use Rattle.table.specs.Calls.{Call, reply, reasons_of, refusal, service}
use Rattle.table.proofs.Exits.{comes_out}

abbrev pub Outcome : Table → Call → Reply → Type 0
Outcome t c = Decision (reasons_of t c) (refusal t c) (service t c)

pub outcome : (t : Table) (c : Call) → Outcome t c (reply t c)
outcome = comes_out
