-- The list has the patches so far, without keys.
use Rattle.std.proofs.Common.{◌≡◌, None}
use Rattle.std.specs.List.{AllByRecursion}
use Rattle.sb_model.specs.declared.boundary.Cell.{Cell}
use Rattle.theory_faces.specs.Strips.{strips_of}
use Rattle.sb_join.proofs.runs.listed.Given as goal

abbrev pub invariant-patches : goal.invariant-patches
invariant-patches l =
    (strips_of l.list ≡ strips_of l.yielded)
    × AllByRecursion (λ (c : Cell). c.key ≡ None) l.list
