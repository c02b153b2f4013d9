-- What a shelf in memory stands for, and what its calls do beyond those of any shelf.
use Rattle.std.specs.Prelude.{◌≡◌, ◌≢◌, ℕ, min, Bool, true, List, [], Some, None}
use Rattle.sb_shelf.specs.declared.shelf.Out.{Out}
use Rattle.sb_shelf.specs.declared.shelf.Out.TheVariants.{Ifc, Idf, Report, Said}
use Rattle.sb_shelf.specs.declared.page.Page.{Page}
use Rattle.sb_shelf.specs.declared.memory.MemoryShelf.{MemoryShelf}
use Rattle.sb_shelf.specs.World.{World, IsUntouched, one_more}
use Rattle.sb_shelf.specs.Counting.{is_among}
use Rattle.sb_shelf.specs.Input.{left_of, told_under}

-- the page of an output
abbrev pub page_of : MemoryShelf → Out → Page
page_of m Ifc = m.ifc
page_of m Idf = m.idf
page_of m Report = m.report
page_of m Said = m.said

-- how many more bytes may be written to the output
abbrev pub room_of : MemoryShelf → Out → ℕ
room_of m out = (page_of m out).room

-- a shelf in memory tells all but what was asked for, which would take memory; a path that it does
-- not hold has no bytes
abbrev pub memory_state : MemoryShelf → World
memory_state m = record {
  under = λ path. Some (told_under m.input path);
  left = Some (left_of m.input);
  is_created = λ out. (page_of m out).is_created;
  bytes = λ out. Some (page_of m out).bytes.items;
  asked_inputs = None;
  asked_outputs = None;
  read_faults = m.read_faults;
  file_faults = m.file_faults;
  said_faults = m.said_faults;
}

-- whether the next call is one of those that are to fail; `calls` were made before it
abbrev pub is_listed : MemoryShelf → Bool
is_listed m = is_among m.failing (one_more m.calls)

-- the most bytes that the next write or read moves of so many
abbrev pub at_most_a_piece : MemoryShelf → ℕ → ℕ
at_most_a_piece m bytes = min m.piece bytes

-- What a shelf holds, which of its calls fail and how much they move is given once and for all; so
-- many calls were made now.
pub record IsCalled (calls : ℕ) (old new : MemoryShelf) : Type 0 where
  pub path : new.input.path ≡ old.input.path
  pub bytes : new.input.bytes ≡ old.input.bytes
  pub failing : new.failing ≡ old.failing
  pub piece : new.piece ≡ old.piece
  pub made : new.calls ≡ calls

-- one more call was made
abbrev pub IsCall : MemoryShelf → MemoryShelf → Type 0
IsCall old new = IsCalled (one_more old.calls) old new

-- the room on each output is as it was
abbrev pub SameRooms : MemoryShelf → MemoryShelf → Type 0
SameRooms old new = (out : Out) → room_of new out ≡ room_of old out

-- the room on each output but this one is as it was
abbrev pub SameOtherRooms : Out → MemoryShelf → MemoryShelf → Type 0
SameOtherRooms out old new = (other : Out) → other ≢ out → room_of new other ≡ room_of old other

-- no call was made, and nothing but the room on the outputs has changed
pub record SameButRooms (old new : MemoryShelf) : Type 0 where
  pub called : IsCalled old.calls old new
  pub left : (memory_state new).left ≡ (memory_state old).left
  pub is_created : (out : Out)
      → (memory_state new).is_created out ≡ (memory_state old).is_created out
  pub written : (out : Out) → (memory_state new).bytes out ≡ (memory_state old).bytes out
  pub read_faults : new.read_faults ≡ old.read_faults
  pub file_faults : new.file_faults ≡ old.file_faults
  pub said_faults : new.said_faults ≡ old.said_faults

-- A new shelf: no call was made and none has failed, nothing is left to read, only the message is
-- created, and there is no room on any output.
pub record IsNew (path bytes failing : List ℕ) (piece : ℕ) (m : MemoryShelf) : Type 0 where
  pub path_is : m.input.path ≡ path
  pub bytes_are : m.input.bytes ≡ bytes
  pub failing_are : m.failing ≡ failing
  pub piece_is : m.piece ≡ piece
  pub calls : m.calls ≡ 0
  pub left : (memory_state m).left ≡ Some []
  pub message : (memory_state m).is_created Said ≡ true
  pub files : IsUntouched (memory_state m)
  pub empty : (out : Out) → (memory_state m).bytes out ≡ Some []
  pub rooms : (out : Out) → room_of m out ≡ 0
  pub read_faults : m.read_faults ≡ 0
  pub file_faults : m.file_faults ≡ 0
  pub said_faults : m.said_faults ≡ 0
