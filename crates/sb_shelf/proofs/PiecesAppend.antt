-- Writing piece by piece loses nothing: the parts of a text that were written follow one another.
use Rattle.std.proofs.Common.{◌≡◌, ℕ, ◌+◌, List, ◌++◌, take, drop, Option, Some}
use Rattle.std.proofs.Common.{sym, ◌∙◌, ap, append_assoc}
use Rattle.std.specs.Option.{ForSome}
use Rattle.std.proofs.Math.Seq.{take-add}
use Rattle.sb_shelf.specs.declared.shelf.Out.{Out}
use Rattle.sb_shelf.proofs.CallsCompose.{only_writes_twice}
use Rattle.sb_shelf.specs.World.{World, OnlyWrites}

-- so far nothing but writing to this output was done, and the first bytes of the text stand there
pub record IsWriting (out : Out) (text : List ℕ) (done : ℕ) (start now : World) : Type 0 where
  pub keeps : OnlyWrites out start now
  pub bytes : ForSome (start.bytes out) (λ before. now.bytes out ≡ Some (before ++ take done text))

appended_where_told : (was between now : Option (List ℕ)) (text : List ℕ) (done n : ℕ)
    → ForSome was (λ before. between ≡ Some (before ++ take done text))
    → ForSome between (λ before. now ≡ Some (before ++ take n (drop done text)))
    → ForSome was (λ before. now ≡ Some (before ++ take (done + n) text))
appended_where_told was between now text done n first second before is_before =
    second (before ++ take done text) (first before is_before)
    ∙ ap Some (append_assoc before (take done text) (take n (drop done text))
    ∙ ap (λ written. before ++ written) (sym (take-add done n text)))

-- a write of the rest of the text goes on where the parts before it end
pub pieces_append : (out : Out) (start between now : World)
    (text : List ℕ) (done n : ℕ) (rest : List ℕ)
    → rest ≡ drop done text
    → IsWriting out text done start between
    → OnlyWrites out between now
    → ForSome (between.bytes out) (λ before. now.bytes out ≡ Some (before ++ take n rest))
    → IsWriting out text (done + n) start now
pieces_append out start between now text done n rest is_rest first keeps appended =
    let part : ForSome (between.bytes out)
    (λ before. now.bytes out ≡ Some (before ++ take n (drop done text)))
    = λ before is_before. appended before is_before
    ∙ ap (λ piece. Some (before ++ take n piece)) is_rest in
    let was = start.bytes out in
    let middle = between.bytes out in
    record {
      keeps = only_writes_twice first.keeps keeps;
      bytes = appended_where_told was middle (now.bytes out) text done n first.bytes part;
    }
