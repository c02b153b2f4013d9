use Rattle.std.proofs.Common.{refl}
use Rattle.std.specs.Ordering.{nat_cmp}
use Rattle.std.specs.BTreeSet.{contains}
use Rattle.sb_profile.specs.declared.following.places.Place.TheVariants as place
use Rattle.sb_profile.specs.Entities.Entity.{shape_representation, cartesian_point_list_2d, cartesian_point, direction, material}
use Rattle.sb_profile.proofs.Followed.FoundTogether.{found_last}
use Rattle.sb_profile.proofs.seeing.see_at.Goals as goal

pub returns-in-Representation : goal.returns-in-Representation
returns-in-Representation c =
    found_last (contains nat_cmp c.args.bodies.now) c.args.file.now c.args.at place.Representation shape_representation
    c.args.number c.args.found.now c.see_only.new.found c.see_only.result c.in-Representation.is
    (λ said. refl) (λ said. refl) c.see_only.ensures

pub returns-in-PointList : goal.returns-in-PointList
returns-in-PointList c =
    found_last (contains nat_cmp c.args.bodies.now) c.args.file.now c.args.at place.PointList cartesian_point_list_2d
    c.args.number c.args.found.now c.see_only-in-PointList.new.found c.see_only-in-PointList.result c.in-PointList.is
    (λ said. refl) (λ said. refl) c.see_only-in-PointList.ensures

pub returns-in-Point : goal.returns-in-Point
returns-in-Point c =
    found_last (contains nat_cmp c.args.bodies.now) c.args.file.now c.args.at place.Point cartesian_point
    c.args.number c.args.found.now c.see_only-in-Point.new.found c.see_only-in-Point.result c.in-Point.is
    (λ said. refl) (λ said. refl) c.see_only-in-Point.ensures

pub returns-in-Direction : goal.returns-in-Direction
returns-in-Direction c =
    found_last (contains nat_cmp c.args.bodies.now) c.args.file.now c.args.at place.Direction direction
    c.args.number c.args.found.now c.see_only-in-Direction.new.found c.see_only-in-Direction.result c.in-Direction.is
    (λ said. refl) (λ said. refl) c.see_only-in-Direction.ensures

pub returns-in-LayerMaterial : goal.returns-in-LayerMaterial
returns-in-LayerMaterial c =
    found_last (contains nat_cmp c.args.bodies.now) c.args.file.now c.args.at place.LayerMaterial material
    c.args.number c.args.found.now c.see_only-in-LayerMaterial.new.found c.see_only-in-LayerMaterial.result c.in-LayerMaterial.is
    (λ said. refl) (λ said. refl) c.see_only-in-LayerMaterial.ensures
