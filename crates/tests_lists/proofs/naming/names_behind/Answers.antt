use Rattle.std.proofs.Common.{◌&&◌, ◌∙◌, ap}
use Rattle.std.specs.List.{list_all}
use Rattle.sb_model.specs.Building.{is_element}
use Rattle.tests_lists.proofs.naming.names_behind.Goals as goal

pub returns : goal.returns
returns c =
    c.both.ensures
    ∙ (λ i. (c.are_elements.ensures
    ∙ ap (list_all (λ x. is_element c.args.model.now x.element)) c.as_slice.ensures) i
    && c.names_at_end.ensures i)
