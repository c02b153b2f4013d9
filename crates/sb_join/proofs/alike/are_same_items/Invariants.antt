-- The lists are the same where they are the same from the place on.
use Rattle.std.proofs.Common.{◌≡◌, drop}
use Rattle.theory_faces.specs.Strips.{are_same_items as are_one_list}
use Rattle.sb_join.proofs.alike.are_same_items.Given as goal

abbrev pub invariant-items : goal.invariant-items
invariant-items l = are_one_list l.a l.b ≡ are_one_list (drop l.at l.a) (drop l.at l.b)
