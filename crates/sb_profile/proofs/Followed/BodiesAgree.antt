-- The bodies that were found of the representations of some shapes lead on from these as the file says.
use Rattle.std.proofs.Common.{◌≡◌, ◌↔◌, ℕ, nat_eq, Bool, true, false, ◌&&◌, List, [], ◌++◌, Option, Some, None, refl, sym, ap, ◌∙◌, subst}
use Rattle.std.specs.Option.{option_map_or}
use Rattle.std.specs.List.{list_any, flat_map}
use Rattle.std.proofs.lemmas.Bool.{false≢true}
use Rattle.theory_lists.specs.Members.{Stands}
use Rattle.sb_schema.specs.Table.{Values}
use Rattle.sb_profile.specs.declared.following.places.Place.TheVariants as place
use Rattle.sb_profile.specs.Entities.{row_of}
use Rattle.sb_profile.specs.Entities.Entity.{product_definition_shape}
use Rattle.sb_profile.specs.Contents.{Contents}
use Rattle.sb_profile.specs.Following.{to, to_each, from, is_body, leads}
use Rattle.sb_profile.specs.Steps.Found.{leads_with, shape_leads}
use Rattle.sb_profile.specs.Steps.Read.{representations_of}
use Rattle.sb_profile.proofs.ListsOfNumbers.{stands_any, find_same}
use Rattle.sb_profile.proofs.Followed.PlacesAreFollowed.{flat_map_stands}

pub both_right : (a b : Bool) → (a && b) ≡ true → b ≡ true
both_right true b both = both
both_right false b both = absurd (false≢true both)

pub bodies_agree : (c : Contents) (bodies : ℕ → Bool) (shapes representations : List ℕ) (n : ℕ)
    → Stands n shapes
    → ((m : ℕ) → Stands m representations ↔ Stands m (flat_map (representations_of c) shapes))
    → ((q : ℕ) → bodies q ≡ (list_any (nat_eq q) representations && is_body c q))
    → leads_with bodies c place.Shape n ≡ leads c place.Shape n
bodies_agree c bodies shapes representations n stands all are =
    by_given (c.given product_definition_shape n) refl
  where
    of_one : (m : ℕ) → Stands m (representations_of c n) → bodies m ≡ is_body c m
    of_one m there =
        are m
        ∙ ap (λ b. b && is_body c m)
        (stands_any m representations
        ((all m).1 (flat_map_stands (representations_of c) n m shapes stands there)))

    by_given : (o : Option (Values (row_of product_definition_shape).read))
        → c.given product_definition_shape n ≡ o
        → from o (shape_leads bodies) ≡ from o (shape_leads (is_body c))
    by_given None is = refl
    by_given (Some v) is =
        ap (λ f. to_each place.Representation v.0 ++ to place.Body f)
        (find_same bodies (is_body c) v.0
        (λ m there. of_one m
        (subst (Stands m) (sym (ap (λ o. option_map_or (λ w. w.0) o []) is)) there)))
