use Rattle.std.proofs.Common.{◌≡◌, List, take}
use Rattle.sb_place.specs.declared.sight.Seen.{Seen}
use Rattle.sb_prism.specs.Shapes.{Representation, AreEach, IsRepresentation}
use Rattle.sb_prism.specs.Kept.{body_of}
use Rattle.sb_prism.proofs.items.bodies.body_among.Given as goal

abbrev pub invariant-numbers : goal.invariant-numbers
invariant-numbers l =
    (rs : List (Seen Representation)) × AreEach (IsRepresentation l.file) (take l.number-index l.numbers) rs
    × (l.body ≡ body_of rs)
