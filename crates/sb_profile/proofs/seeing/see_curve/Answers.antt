use Rattle.std.proofs.Common.{ap, sym, ◌∙◌, [], ◌∷◌}
use Rattle.std.specs.Prelude.{codes}
use Rattle.std.specs.Ordering.{nat_cmp}
use Rattle.std.specs.BTreeSet.{contains}
use Rattle.sb_schema.specs.Table.{is_one_of}
use Rattle.sb_profile.specs.declared.following.places.Place.TheVariants as place
use Rattle.sb_profile.specs.Entities.Entity.{polyline, indexed_poly_curve}
use Rattle.sb_profile.specs.Following.{to_each}
use Rattle.sb_profile.proofs.Followed.FoundTogether.{found_by_keyword}
use Rattle.sb_profile.proofs.TablesOfFiles.OneByKeyword.{indexed_alone, polyline_alone}
use Rattle.sb_profile.proofs.seeing.see_curve.Goals as goal

pub returns-then-is_one_of : goal.returns-then-is_one_of
returns-then-is_one_of c =
    let n = c.args.number in
    found_by_keyword (contains nat_cmp c.args.bodies.now) c.args.file.now place.Curve indexed_poly_curve n
    (λ v. (place.PointList, v.0) ∷ []) c.args.found.now c.see.new.found c.see.result
    (λ said says. indexed_alone (contains nat_cmp c.args.bodies.now) c.args.file.now said n says
    (ap (is_one_of (codes "IFCINDEXEDPOLYCURVE" ∷ []))
    (says.keyword_is n ∙ sym c.keyword-keyword.ensures) ∙ (sym c.is_one_of.ensures ∙ c.if-is_one_of.true)))
    c.see.ensures

pub returns-else-is_one_of : goal.returns-else-is_one_of
returns-else-is_one_of c =
    let n = c.args.number in
    found_by_keyword (contains nat_cmp c.args.bodies.now) c.args.file.now place.Curve polyline n
    (λ v. to_each place.Point v.0) c.args.found.now c.see-else-is_one_of.new.found c.see-else-is_one_of.result
    (λ said says. polyline_alone (contains nat_cmp c.args.bodies.now) c.args.file.now said n says
    (ap (is_one_of (codes "IFCINDEXEDPOLYCURVE" ∷ []))
    (says.keyword_is n ∙ sym c.keyword-keyword.ensures) ∙ (sym c.is_one_of.ensures ∙ c.if-is_one_of.false)))
    c.see-else-is_one_of.ensures
