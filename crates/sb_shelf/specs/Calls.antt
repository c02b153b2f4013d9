-- What the four calls of a shelf do, each as a relation of the world before and after it. What was
-- asked for is told of failed calls too: it and the count are all that such a call changes.
use Rattle.std.specs.Prelude.{◌≡◌, ◌↔◌, ℕ, ◌<◌, ◌≤◌, true, Some, Result, IfOk, OnOk, OnErr}
use Rattle.std.specs.Prelude.{List, [], ◌∷◌, ◌++◌, length, take, drop}
use Rattle.std.specs.Option.{ForSome}
use Rattle.sb_shelf.specs.declared.shelf.Out.{Out}
use Rattle.sb_shelf.specs.declared.shelf.Failed.{Failed}
use Rattle.sb_shelf.specs.World.{World, Rose, faults_of, OnlyReads, OnlyOutput, OnlyWrites}
use Rattle.sb_shelf.specs.World.{also_asked}

-- `open`: the bytes under the path, where they are told, are what is left to read.
pub record Opens
    (path : List ℕ) (result : Result (Unit {0}) Failed) (old new : World) : Type 0 where
  pub keeps : OnlyReads old new
  pub asked : new.asked_inputs ≡ also_asked old.asked_inputs (path ∷ [])
  pub ok : OnOk result (ForSome (old.under path) (λ bytes. new.left ≡ Some bytes))
  pub failed : OnErr result (Rose old.read_faults new.read_faults)
  pub as_before : OnErr result (new.left ≡ old.left)

-- The first n of the bytes that were left have come into the piece, and the rest is left. None of
-- them comes into a piece that is not empty exactly at the end.
pub record Moves (n : ℕ) (before after left : List ℕ) (new : World) : Type 0 where
  pub there : n ≤ length left
  pub moved : take n after ≡ take n left
  pub untouched : drop n after ≡ drop n before
  pub remaining : new.left ≡ Some (drop n left)
  pub at_end : 0 < length after → ((n ≡ 0) ↔ (left ≡ []))

-- `read` into a piece: `before` and `after` are the bytes of the piece. After a failed call they
-- are the same where it is told what is left; a host does not say what a failed read leaves there.
pub record ReadsInto
    (before after : List ℕ) (result : Result ℕ Failed) (old new : World) : Type 0 where
  pub keeps : OnlyReads old new
  pub asked : new.asked_inputs ≡ old.asked_inputs
  pub within : IfOk result (λ n. n ≤ length after)
  pub ok : IfOk result (λ n. ForSome old.left (λ left. Moves n before after left new))
  pub failed : OnErr result (Rose old.read_faults new.read_faults)
  pub as_before : OnErr result (new.left ≡ old.left)
  pub untouched : OnErr result (ForSome old.left (λ _. after ≡ before))

-- `create`: the output is created and, where its bytes are told, empty.
pub record Creates
    (out : Out) (path : List ℕ) (result : Result (Unit {0}) Failed) (old new : World)
    : Type 0 where
  pub keeps : OnlyOutput out old new
  pub asked : new.asked_outputs
      ≡ also_asked old.asked_outputs (record { out = out; path = path } ∷ [])
  pub file_faults : old.file_faults ≤ new.file_faults
  pub said_faults : new.said_faults ≡ old.said_faults
  pub created : OnOk result (new.is_created out ≡ true)
  pub empty : OnOk result (ForSome (old.bytes out) (λ _. new.bytes out ≡ Some []))
  pub failed : OnErr result (Rose old.file_faults new.file_faults)
  pub not_created : OnErr result (new.is_created out ≡ old.is_created out)
  pub as_before : OnErr result (new.bytes out ≡ old.bytes out)

-- `write`: the first n bytes of the piece stand behind what stood on the output; at least one of a
-- piece that is not empty.
pub record Writes
    (out : Out) (piece : List ℕ) (result : Result ℕ Failed) (old new : World) : Type 0 where
  pub keeps : OnlyWrites out old new
  pub within : IfOk result (λ n. n ≤ length piece)
  pub some : IfOk result (λ n. 0 < length piece → 0 < n)
  pub ok : IfOk result (λ n. ForSome (old.bytes out)
      (λ bytes. new.bytes out ≡ Some (bytes ++ take n piece)))
  pub failed : OnErr result (Rose (faults_of out old) (faults_of out new))
  pub as_before : OnErr result (new.bytes out ≡ old.bytes out)
