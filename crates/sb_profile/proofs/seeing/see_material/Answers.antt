use Rattle.std.proofs.Common.{ap, sym, ◌∙◌, [], ◌∷◌}
use Rattle.std.specs.Prelude.{codes}
use Rattle.std.specs.Ordering.{nat_cmp}
use Rattle.std.specs.BTreeSet.{contains}
use Rattle.sb_schema.specs.Table.{is_one_of}
use Rattle.sb_profile.specs.declared.following.places.Place.TheVariants as place
use Rattle.sb_profile.specs.Entities.Entity.{material, material_layer_set, material_layer_set_usage}
use Rattle.sb_profile.specs.Following.{to_each}
use Rattle.sb_profile.proofs.Followed.FoundTogether.{found_by_keyword}
use Rattle.sb_profile.proofs.TablesOfFiles.OneByKeyword.{usage_alone, set_alone, material_alone}
use Rattle.sb_profile.proofs.seeing.see_material.Goals as goal

pub returns-then-is_one_of : goal.returns-then-is_one_of
returns-then-is_one_of c =
    let n = c.args.number in
    found_by_keyword (contains nat_cmp c.args.bodies.now) c.args.file.now place.Material material_layer_set_usage n
    (λ v. (place.LayerSet, v.0) ∷ []) c.args.found.now c.see.new.found c.see.result
    (λ said says. usage_alone (contains nat_cmp c.args.bodies.now) c.args.file.now said n says
    (ap (is_one_of (codes "IFCMATERIALLAYERSETUSAGE" ∷ []))
    (says.keyword_is n ∙ sym c.keyword-keyword.ensures) ∙ (sym c.is_one_of.ensures ∙ c.if-is_one_of.true)))
    c.see.ensures

pub returns-then-is_one_of-2 : goal.returns-then-is_one_of-2
returns-then-is_one_of-2 c =
    let n = c.args.number in
    found_by_keyword (contains nat_cmp c.args.bodies.now) c.args.file.now place.Material material_layer_set n
    (λ v. to_each place.Layer v.0) c.args.found.now c.see-then-is_one_of-2.new.found c.see-then-is_one_of-2.result
    (λ said says. set_alone (contains nat_cmp c.args.bodies.now) c.args.file.now said n says
    (ap (is_one_of (codes "IFCMATERIALLAYERSET" ∷ []))
    (says.keyword_is n ∙ sym c.keyword-keyword.ensures) ∙ (sym c.is_one_of-else-is_one_of.ensures ∙ c.if-is_one_of-2.true)))
    c.see-then-is_one_of-2.ensures

pub returns-else-is_one_of-2 : goal.returns-else-is_one_of-2
returns-else-is_one_of-2 c =
    let n = c.args.number in
    found_by_keyword (contains nat_cmp c.args.bodies.now) c.args.file.now place.Material material n
    (λ _. []) c.args.found.now c.see-else-is_one_of-2.new.found c.see-else-is_one_of-2.result
    (λ said says. material_alone (contains nat_cmp c.args.bodies.now) c.args.file.now said n says
    (ap (is_one_of (codes "IFCMATERIALLAYERSETUSAGE" ∷ []))
    (says.keyword_is n ∙ sym c.keyword-keyword.ensures) ∙ (sym c.is_one_of.ensures ∙ c.if-is_one_of.false))
    (ap (is_one_of (codes "IFCMATERIALLAYERSET" ∷ []))
    (says.keyword_is n ∙ sym c.keyword-keyword.ensures) ∙ (sym c.is_one_of-else-is_one_of.ensures ∙ c.if-is_one_of-2.false)))
    c.see-else-is_one_of-2.ensures
