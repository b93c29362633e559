-- What an operator answers, what a journal keeps of it, and why a conversation breaks off.
use Rattle.std.specs.Prelude.{◌≡◌, ◌≢◌, ◌++◌, ◌⊎◌, ℕ, List, [], Option, Some, Result, Ok, Err}
use Rattle.std.specs.declared.io.ErrorKind.{ErrorKind}
use Rattle.std.specs.declared.io.ErrorKind.TheVariants.{OutOfMemory}
use Rattle.file_access.specs.Holding.{Rose}
use Rattle.line_journal.specs.Kept.{ended_by_lf}
use Rattle.operating.specs.declared.operator.Answer.{Answer}
use Rattle.operating.specs.declared.operator.Answer.TheVariants.{Line, End}
use Rattle.operating.specs.declared.operator.Broken.{Broken}
use Rattle.operating.specs.declared.operator.Broken.TheVariants as broken
use Rattle.operating.specs.declared.operator.OperatorFailed.{OperatorFailed}
use Rattle.operating.specs.declared.operator.OperatorFailed.TheVariants as failed

-- what an answer adds to a journal: a line with LF behind it, and nothing where the input ends
abbrev pub answer_bytes : Answer → List ℕ
answer_bytes (Line line) = ended_by_lf line.items
answer_bytes End = []

-- all lines that were answered meanwhile, and nothing else, stand behind what the journal held
pub record AnswersKept (told_before told_after held_before held_after : List ℕ) : Type 0 where
  pub typed : List ℕ
  pub told : told_after ≡ told_before ++ typed
  pub held : held_after ≡ held_before ++ typed

-- the same, but the last line that was answered may be missing
pub record LastUnkept (told_before told_after held_before held_after : List ℕ) : Type 0 where
  pub typed : List ℕ
  pub last : List ℕ
  pub told : told_after ≡ (told_before ++ typed) ++ last
  pub held : held_after ≡ held_before ++ typed
  pub one : (last ≡ []) ⊎ ((line : List ℕ) × (last ≡ ended_by_lf line))

-- the count of the journal's failures before and after a conversation broke off: it rose, or is at its greatest, where
-- the journal is why, and else it stays
abbrev pub BrokeOff : ℕ → ℕ → Broken → Type 0
BrokeOff before after broken.Operator = after ≡ before
BrokeOff before after broken.Journal = Rose before after
BrokeOff before after broken.Line = after ≡ before
BrokeOff before after broken.Memory = after ≡ before

-- ---- why the operator failed

-- why the operator failed last, before and after a call: the call's failure is noted, and else all stays
abbrev pub NotesFailure : {A : Type 0} → Result A OperatorFailed → Option OperatorFailed → Option OperatorFailed
    → Type 0
NotesFailure (Ok answer) before after = after ≡ before
NotesFailure (Err why) before after = after ≡ Some why

-- an error of a stream or a file as a failure of the operator
abbrev pub failed_by : ErrorKind → OperatorFailed
failed_by OutOfMemory = failed.Memory
failed_by _ = failed.Other

-- why a conversation breaks off if the operator failed so
abbrev pub broken_by : OperatorFailed → Broken
broken_by failed.Memory = broken.Memory
broken_by failed.Other = broken.Operator

-- the conversation broke off because the operator failed, for the reason that is noted
pub record BrokenFor (after : Option OperatorFailed) (why : Broken) : Type 0 where
  pub cause : OperatorFailed
  pub noted : after ≡ Some cause
  pub is : why ≡ broken_by cause

-- the same before and after a part of a conversation that only the operator can break off
abbrev pub OperatorBreaks : {A : Type 0} → Result A Broken → Option OperatorFailed → Option OperatorFailed → Type 0
OperatorBreaks (Ok done) before after = after ≡ before
OperatorBreaks (Err why) before after = BrokenFor after why

-- the operator failed, which is why the conversation broke off; or he didn't, and there is another reason
abbrev pub FailedOrNot : Option OperatorFailed → Option OperatorFailed → Broken → Type 0
FailedOrNot before after why = BrokenFor after why ⊎ ((after ≡ before) × (why ≢ broken.Operator))

-- the same before and after any part of a conversation: where it goes on the operator didn't fail
abbrev pub AnythingBreaks : {A : Type 0} → Result A Broken → Option OperatorFailed → Option OperatorFailed → Type 0
AnythingBreaks (Ok done) before after = after ≡ before
AnythingBreaks (Err why) before after = FailedOrNot before after why
