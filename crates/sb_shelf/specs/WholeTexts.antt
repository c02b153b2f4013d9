-- What reading a whole text and writing one promise beyond single calls.
use Rattle.std.specs.Prelude.{◌≡◌, ℕ, ◌-◌, List, ◌++◌, length, take, Option, Result, IsErrOf}
use Rattle.std.specs.Option.{option_map}
use Rattle.sb_shelf.specs.declared.whole_input.ReadError.{ReadError}
use Rattle.sb_shelf.specs.declared.whole_input.ReadError.TheVariants.{ReadFault, NoMemory}
use Rattle.sb_shelf.specs.World.{World}

-- the longest input that is read, in bytes: 64 MiB
abbrev pub longest_input : ℕ
longest_input = 67108864

-- the answer is neither want of memory nor a fault of reading
abbrev pub IsUndisturbed : {T : Type 0} → Result T ReadError → Type 0
IsUndisturbed result = (¬ IsErrOf result NoMemory) × (¬ IsErrOf result ReadFault)

-- what was taken so far and what is left, as one text
abbrev pub taken_and_left : List ℕ → World → Option (List ℕ)
taken_and_left taken s = option_map (λ left. taken ++ left) s.left

-- What stands there now is what stood there before, and then a first part of the text: "abc" is
-- "ab" and a first part of "cd", and "abd" is not.
abbrev pub AppendsFirstOf : List ℕ → List ℕ → List ℕ → Type 0
AppendsFirstOf text before now = now ≡ before ++ take (length now - length before) text
