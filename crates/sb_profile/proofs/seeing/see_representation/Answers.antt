use Rattle.std.proofs.Common.{refl, sym, ◌∙◌}
use Rattle.std.specs.Ordering.{nat_cmp}
use Rattle.std.specs.BTreeSet.{contains}
use Rattle.sb_profile.specs.declared.following.places.Place.TheVariants as place
use Rattle.sb_profile.specs.Entities.Entity.{shape_representation}
use Rattle.sb_profile.proofs.Followed.FoundTogether.{found_last, whatever_bodies, body_is_found}
use Rattle.sb_profile.proofs.seeing.see_representation.Goals as goal

pub returns-then-contains : goal.returns-then-contains
returns-then-contains c = λ said says are.
    body_is_found (contains nat_cmp c.args.bodies.now) c.args.file.now said c.args.number
    c.args.found.now says are (sym c.contains.ensures ∙ c.if-contains.true)

pub returns : goal.returns
returns c =
    whatever_bodies (contains nat_cmp c.args.bodies.now) c.args.file.now place.Representation
    c.args.number c.args.found.now c.see_only.new.found c.see_only.result
    (found_last (contains nat_cmp c.args.bodies.now) c.args.file.now place.Representation
    place.Representation shape_representation c.args.number c.args.found.now c.see_only.new.found
    c.see_only.result refl (λ said. refl) (λ said. refl) c.see_only.ensures)
