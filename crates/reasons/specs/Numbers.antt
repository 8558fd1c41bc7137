-- Document 01, 'What the station hears back': the number of each reason, and of what is decided by it: 0 where nothing is refused.
use Rattle.std.specs.Prelude.{ℕ, Result, Ok, Err}
use Rattle.reasons.specs.declared.Reason.{Reason}
use Rattle.reasons.specs.declared.Reason.TheVariants.{
  UnsoundTable,
  NoSuchGenerator,
  UnknownMechanism,
  StrengthTooHigh,
  IntervalOutOfRange,
  PersonalizationTooLong,
  AdditionalInputTooLong,
  EntropyOutOfRange,
  NonceOutOfRange,
  RequestTooLong,
  NoFreshRight,
  ReseedDue,
  NoFreeSlot,
  SerialsUsedUp,
}

abbrev pub number_of : Reason → ℕ
number_of UnsoundTable = 1
number_of NoSuchGenerator = 2
number_of UnknownMechanism = 3
number_of StrengthTooHigh = 4
number_of IntervalOutOfRange = 5
number_of PersonalizationTooLong = 6
number_of AdditionalInputTooLong = 7
number_of EntropyOutOfRange = 8
number_of NonceOutOfRange = 9
number_of RequestTooLong = 10
number_of NoFreshRight = 11
number_of ReseedDue = 12
number_of NoFreeSlot = 13
number_of SerialsUsedUp = 14

abbrev pub refused_by : {T : Type 0} → Result T Reason → ℕ
refused_by (Ok x) = 0
refused_by (Err reason) = number_of reason
