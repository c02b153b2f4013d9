-- The status of each answer, and the step of a run at which it is given.
use Rattle.std.specs.Prelude.{ℕ, ◌≤◌}
use Rattle.sb_run.specs.declared.answer.Answer.{Answer}
use Rattle.sb_run.specs.declared.answer.Answer.TheVariants.{Done, Usage, ReadFault, TooLong}
use Rattle.sb_run.specs.declared.answer.Answer.TheVariants.{Syntax, Refused, WriteFault, NoMemory}

-- the status that the program ends with
abbrev pub status : Answer → ℕ
status (Done list) = 0
status Usage = 2
status ReadFault = 3
status TooLong = 4
status (Syntax place) = 5
status (Refused n code) = 6
status WriteFault = 10
status NoMemory = 11

-- The step at which an answer is given: the words, reading, the length, the text, what it holds,
-- and what is created and written. Want of memory stands before all of them, since it may come at
-- any step.
abbrev pub step_of : Answer → ℕ
step_of NoMemory = 0
step_of Usage = 1
step_of ReadFault = 2
step_of TooLong = 3
step_of (Syntax place) = 4
step_of (Refused n code) = 5
step_of WriteFault = 6
step_of (Done list) = 7

-- the answer is neither want of memory nor one of a step before this one's
abbrev pub HasReached : Answer → Answer → Type 0
HasReached at answer = step_of at ≤ step_of answer

-- the answer comes before anything is created
abbrev pub IsEarly : Answer → Type 0
IsEarly answer = step_of answer ≤ 5
