-- The boundaries stand behind the front.
use Rattle.std.proofs.Common.{◌∙◌, ◌++◌, [], length, ap}
use Rattle.sb_idf_out.specs.FirstUse.{in_order}
use Rattle.sb_idf_out.specs.Objects.{object_of, construction_object, boundary_object}
use Rattle.sb_idf_out.specs.IdfText.{head, zones}
use Rattle.sb_idf_out.specs.Steps.Surfaces.{objects_by}
use Rattle.sb_idf_out.specs.Steps.Uses.{materials_after, constructions_after, front_text}
use Rattle.sb_idf_out.proofs.ListsAreSurveyed.{numbers_length, numbers_are, objects_are, objects_of_list}
use Rattle.sb_idf_out.proofs.ListsAreSurveyed.{text_is}
use Rattle.sb_idf_out.proofs.PartsOfObjects.{in_five}
use Rattle.sb_idf_out.proofs.text.idf_text.Goals as goal

pub append_boundaries-requires-clause-each : goal.append_boundaries-requires-clause-each
append_boundaries-requires-clause-each c =
    ap length (c.as_slice.ensures.value ∙ c.in_ok-front.ensures.numbers)
    ∙ numbers_length c.args.model.now [] [] c.args.bounds.now

pub returns : goal.returns
returns c =
    let m = c.args.model.now in
    let bs = c.args.bounds.now in
    let ms = materials_after m [] bs in
    let cs = constructions_after m [] [] bs in
    let objects =
    ap (λ l. objects_by m 1 l bs)
    (c.as_slice.ensures.value ∙ (c.in_ok-front.ensures.numbers ∙ numbers_are m [] [] bs))
    ∙ objects_are m ms cs 1 bs in
    let begun = c.in_ok-text.ensures ∙ c.in_ok-front.ensures.text in
    c.in_ok-append_boundaries.ensures
    ∙ (ap (λ l. l ++ objects_by m 1 c.as_slice.result.now bs) begun
    ∙ (ap (λ l. front_text m bs ++ l) objects
    ∙ (in_five head (zones m) (in_order object_of 1 ms) (in_order construction_object 1 cs)
    (in_order (boundary_object m ms cs) 1 bs)
    ∙ (ap (λ l. (head ++ zones m) ++ l) (objects_of_list m bs) ∙ text_is m bs))))
