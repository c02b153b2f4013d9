use Rattle.std.proofs.Common.{rules, ◌≡◌, ◌∙◌, ap, sym, length}
use Rattle.sb_solid.specs.Boxes.{first_rectangle}
use Rattle.sb_solid.proofs.Rectangles.OnlyRectangles.{only_is, only_none}
use Rattle.sb_solid.proofs.boxes.only_rectangle.Goals as goal

pub returns-in-Some : goal.returns-in-Some
returns-in-Some c =
    let one : length c.args.points ≡ 1 = search rules in
    only_is c.args.points c.in-Some.loops c.rectangle_of.result one c.requires.in_range
    (sym c.in_ok-loops.ensures ∙ c.in-Some.is)
    (c.rectangle_of.ensures ∙ ap first_rectangle c.points-in-Some.ensures.value)

pub returns-in-None : goal.returns-in-None
returns-in-None c =
    let one : length c.args.points ≡ 1 = search rules in (
      only_none c.args.points one c.requires.in_range (sym c.in_ok-loops.ensures ∙ c.in-None.is),
      tt,
    )
