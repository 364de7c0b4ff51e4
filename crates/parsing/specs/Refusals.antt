-- The numbers of refusals (document 01, 'What is turned down, by who can cause it'; from 18 on document 02): the texts stand at the reasons.
use Rattle.std.specs.Prelude.{ℕ}
use Rattle.parsing.specs.declared.reason.Reason.{Reason}
use Rattle.parsing.specs.declared.reason.Reason.TheVariants.{WrongMark, WrongVersion, EndsEarly, LeftOver, OutOfRange, Unknown, MissingVariable, MissingLabel, MissingFunction, CalleeArity, UnboundSlot, WrongLength, WrongSlot, StartArity, FileTooLong, NoRoom, TranslationTooLong, NoCharge, NotWhole, NotContinuation, NotHandler, MergedTooLarge, Other}

abbrev pub number_of : Reason → ℕ
number_of WrongMark = 1
number_of WrongVersion = 2
number_of EndsEarly = 3
number_of LeftOver = 4
number_of OutOfRange = 5
number_of Unknown = 6
number_of MissingVariable = 7
number_of MissingLabel = 8
number_of MissingFunction = 9
number_of CalleeArity = 10
number_of UnboundSlot = 11
number_of WrongLength = 12
number_of WrongSlot = 13
number_of StartArity = 14
number_of FileTooLong = 15
number_of NoRoom = 16
number_of TranslationTooLong = 17
number_of NoCharge = 18
number_of NotWhole = 19
number_of NotContinuation = 20
number_of NotHandler = 21
number_of MergedTooLarge = 22
number_of (Other n) = n
