-- Without a construction nothing is added, else the materials and the construction.
use Rattle.std.proofs.Common.{◌∙◌, sym, ap, reverse}
use Rattle.std.proofs.lemmas.Result.{IfOk-weaker}
use Rattle.sb_idf_out.specs.Materials.{is_same_material, materials_of}
use Rattle.sb_idf_out.proofs.NumbersStay.{used_are_numbers}
use Rattle.sb_idf_out.proofs.MaterialsGrow.{same_materials}
use Rattle.sb_idf_out.proofs.BoundariesGrow.{one_more}
use Rattle.sb_idf_out.proofs.uses.number_of_boundary.Goals as goal

pub returns : goal.returns
returns c =
    let m = c.args.model.now in
    let b = c.args.boundary.now in
    IfOk-weaker c.number_of_construction.result _ _ (λ n made ms cs (materials, constructions).
    one_more m ms b cs c.numbers_of_items.new.materials (λ k. k.items)
    c.number_of_construction.new.constructions c.number_of_construction.new.objects
    c.reverse.new.self n (sym c.has_construction.ensures ∙ c.if-not-has_construction.false)
    (c.in_ok-numbers.ensures.materials ms materials)
    (c.reverse.ensures.items
    ∙ ap reverse (c.in_ok-numbers.ensures.numbers ms materials
    ∙ used_are_numbers is_same_material same_materials ms (materials_of m b)))
    (made cs constructions)) c.number_of_construction.ensures
