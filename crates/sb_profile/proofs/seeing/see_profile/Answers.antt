use Rattle.std.proofs.Common.{ap, sym, ◌∙◌, [], ◌∷◌}
use Rattle.std.specs.Prelude.{codes}
use Rattle.std.specs.Ordering.{nat_cmp}
use Rattle.std.specs.BTreeSet.{contains}
use Rattle.sb_schema.specs.Table.{is_one_of}
use Rattle.sb_profile.specs.declared.following.places.Place.TheVariants as place
use Rattle.sb_profile.specs.Entities.Entity.{rectangle_profile_def, arbitrary_closed_profile_def, arbitrary_profile_def_with_voids}
use Rattle.sb_profile.specs.Following.{to, to_each}
use Rattle.sb_profile.proofs.Followed.FoundTogether.{found_by_keyword}
use Rattle.sb_profile.proofs.TablesOfFiles.OneByKeyword.{closed_alone, voids_alone, rectangle_alone}
use Rattle.sb_profile.proofs.seeing.see_profile.Goals as goal

pub returns-then-is_one_of : goal.returns-then-is_one_of
returns-then-is_one_of c =
    let n = c.args.number in
    found_by_keyword (contains nat_cmp c.args.bodies.now) c.args.file.now place.Profile arbitrary_closed_profile_def n
    (λ v. (place.Curve, v.0) ∷ []) c.args.found.now c.see.new.found c.see.result
    (λ said says. closed_alone (contains nat_cmp c.args.bodies.now) c.args.file.now said n says
    (ap (is_one_of (codes "IFCARBITRARYCLOSEDPROFILEDEF" ∷ []))
    (says.keyword_is n ∙ sym c.keyword-keyword.ensures) ∙ (sym c.is_one_of.ensures ∙ c.if-is_one_of.true)))
    c.see.ensures

pub returns-then-is_one_of-2 : goal.returns-then-is_one_of-2
returns-then-is_one_of-2 c =
    let n = c.args.number in
    found_by_keyword (contains nat_cmp c.args.bodies.now) c.args.file.now place.Profile arbitrary_profile_def_with_voids n
    (λ v. (place.Curve, v.0) ∷ to_each place.Curve v.1.0) c.args.found.now c.see-then-is_one_of-2.new.found c.see-then-is_one_of-2.result
    (λ said says. voids_alone (contains nat_cmp c.args.bodies.now) c.args.file.now said n says
    (ap (is_one_of (codes "IFCARBITRARYPROFILEDEFWITHVOIDS" ∷ []))
    (says.keyword_is n ∙ sym c.keyword-keyword.ensures) ∙ (sym c.is_one_of-else-is_one_of.ensures ∙ c.if-is_one_of-2.true)))
    c.see-then-is_one_of-2.ensures

pub returns-else-is_one_of-2 : goal.returns-else-is_one_of-2
returns-else-is_one_of-2 c =
    let n = c.args.number in
    found_by_keyword (contains nat_cmp c.args.bodies.now) c.args.file.now place.Profile rectangle_profile_def n
    (λ v. to place.Position2d v.0) c.args.found.now c.see-else-is_one_of-2.new.found c.see-else-is_one_of-2.result
    (λ said says. rectangle_alone (contains nat_cmp c.args.bodies.now) c.args.file.now said n says
    (ap (is_one_of (codes "IFCARBITRARYCLOSEDPROFILEDEF" ∷ []))
    (says.keyword_is n ∙ sym c.keyword-keyword.ensures) ∙ (sym c.is_one_of.ensures ∙ c.if-is_one_of.false))
    (ap (is_one_of (codes "IFCARBITRARYPROFILEDEFWITHVOIDS" ∷ []))
    (says.keyword_is n ∙ sym c.keyword-keyword.ensures) ∙ (sym c.is_one_of-else-is_one_of.ensures ∙ c.if-is_one_of-2.false)))
    c.see-else-is_one_of-2.ensures
