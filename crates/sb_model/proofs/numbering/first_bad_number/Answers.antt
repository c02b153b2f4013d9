use Rattle.std.proofs.Common.{◌∙◌, ap}
use Rattle.sb_model.specs.Building.{or_else}
use Rattle.sb_model.proofs.NumbersInOrder.{first_bad-found}
use Rattle.sb_model.proofs.numbering.first_bad_number.Goals as goal

pub returns : goal.returns
returns c unit ground_height reach =
    c.first_there-2.ensures
    ∙ ap (or_else c.first_bad_space.result)
    (c.first_there.ensures ∙ ap (or_else c.first_bad_element.result) c.first_there-below.ensures)
    ∙ first_bad-found c.args.spaces.now c.args.elements.now c.args.openings.now c.args.fillings.now
    unit ground_height reach c.in_ok-all.all.spaces c.in_ok-all.all.elements c.in_ok-all.all.openings c.in_ok-all.all.fillings
    c.in_ok-all.ensures.spaces_are c.in_ok-all.ensures.elements_are c.in_ok-all.ensures.openings_are
    c.in_ok-all.ensures.fillings_are c.first_bad_space.result c.first_bad_element.result
    c.first_bad_opening.result c.first_bad_filling.result c.first_bad_space.ensures
    c.first_bad_element.ensures c.first_bad_opening.ensures c.first_bad_filling.ensures
