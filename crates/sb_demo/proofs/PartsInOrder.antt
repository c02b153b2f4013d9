-- Three texts that are appended in turn stand behind one another.
use Rattle.std.proofs.Common.{◌≡◌, ℕ, List, ◌++◌, append_assoc, Result, Ok, Err, OnOk}

-- the last of the three may have met want of memory
pub three_parts : {E : Type 0} (r : Result (Unit {0}) E) (start first second last a b c : List ℕ)
    → first ≡ start ++ a → second ≡ first ++ b → OnOk r (last ≡ second ++ c)
    → OnOk r (last ≡ start ++ (a ++ b ++ c))
three_parts (Ok u) start first second last a b c one two three =
    rw (← append_assoc, ← append_assoc) (cc (one, two, three))
three_parts (Err e) start first second last a b c one two three = tt
