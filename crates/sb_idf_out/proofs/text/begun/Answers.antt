-- The parts before the boundaries stand behind one another.
use Rattle.std.proofs.Common.{◌∙◌, ◌++◌, [], ap}
use Rattle.std.specs.List.{flat_map}
use Rattle.sb_idf_out.specs.FirstUse.{in_order}
use Rattle.sb_idf_out.specs.Objects.{zone_object, object_of, construction_object}
use Rattle.sb_idf_out.specs.IdfText.{head, zones}
use Rattle.sb_idf_out.specs.Steps.Uses.{materials_after, constructions_after}
use Rattle.sb_idf_out.proofs.PartsOfObjects.{in_four}
use Rattle.sb_idf_out.proofs.text.begun.Goals as goal

pub returns-clause-text : goal.returns-clause-text
returns-clause-text c =
    let m = c.args.model.now in
    let bs = c.args.bounds.now in
    let ms = materials_after m [] bs in
    let cs = constructions_after m [] [] bs in
    let (materials, (known, made)) = c.in_ok-survey.ensures.uses in
    let (ns, names, all, numbered, written) = materials in
    in_four c.in_ok-text.text c.append_zones.new.text c.append.new.text c.append-2.new.text head (zones m)
    (in_order object_of 1 ms) (in_order construction_object 1 cs) (c.in_ok-text.ensures ∙ c.head.ensures)
    (c.in_ok-append_zones.ensures
    ∙ ap (λ ss. c.in_ok-text.text ++ flat_map (λ s. zone_object s.number) ss) c.spaces.ensures.value)
    (c.in_ok-append.ensures.ok ∙ ap (λ l. c.append_zones.new.text ++ l) (c.bytes.ensures ∙ written))
    (c.in_ok-append-2.ensures.ok ∙ ap (λ l. c.append.new.text ++ l) (c.bytes-2.ensures ∙ made))
