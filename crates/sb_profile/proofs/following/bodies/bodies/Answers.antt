use Rattle.std.proofs.Common.{◌↔◌, ap, sym, subst, ◌∙◌, ◌&&◌, nat_eq}
use Rattle.std.specs.List.{list_any, flat_map}
use Rattle.std.specs.Ordering.{nat_cmp}
use Rattle.std.specs.BTreeSet.{contains}
use Rattle.theory_lists.specs.Members.{Stands}
use Rattle.sb_profile.specs.declared.following.places.Place.TheVariants as place
use Rattle.sb_profile.specs.Following.{is_body}
use Rattle.sb_profile.specs.Steps.Read.{representations_of}
use Rattle.sb_profile.proofs.Followed.BodiesAgree.{bodies_agree, both_right}
use Rattle.sb_profile.proofs.Followed.PlacesAreFollowed.{stands_wanted}
use Rattle.sb_profile.proofs.following.bodies.bodies.Goals as goal

pub returns-clause-leads : goal.returns-clause-leads
returns-clause-leads c = λ said says n stands.
    let shapes = c.in_ok-shapes.shapes.items in
    let representations = c.in_ok-representations.representations.items in
    bodies_agree said (contains nat_cmp c.in_ok-bodies.bodies) shapes representations n
    ((c.in_ok-shapes.ensures n).1 (stands_wanted place.Shape n c.args.leads.now stands))
    (λ m. subst
    (λ ns. Stands m representations ↔ Stands m (flat_map (representations_of said) ns))
    c.as_slice.ensures.value (c.in_ok-representations.ensures said says m))
    (λ q. c.in_ok-bodies.ensures said says q
    ∙ ap (λ ns. list_any (nat_eq q) ns && is_body said q) c.as_slice-2.ensures.value)

pub returns-clause-bodies : goal.returns-clause-bodies
returns-clause-bodies c = λ said says n body.
    both_right (list_any (nat_eq n) c.as_slice-2.result.now) (is_body said n)
    (sym (c.in_ok-bodies.ensures said says n) ∙ body)
