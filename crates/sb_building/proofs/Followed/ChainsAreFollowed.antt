-- What is at fault in the chain of a taken product is a defect of the file.
use Rattle.std.proofs.Common.{◌≡◌, ℕ, suc, ◌+◌, ◌-◌, nat_eq, Bool, true, false, List, [], ◌∷◌, Option, Some, None, arith, refl, sym, ap, ◌∙◌, subst, inl}
use Rattle.std.specs.Prelude.{option_and_then, if◌then◌else◌}
use Rattle.std.proofs.lemmas.Bool.Decides.{Decides-eqb}
use Rattle.theory_lists.proofs.Blocks.{all-append}
use Rattle.sb_step.specs.Indexed.{Indexed}
use Rattle.sb_step.specs.Params.Parameters.{ParametersAreUnique}
use Rattle.sb_place.specs.declared.sight.Seen.{Seen}
use Rattle.sb_place.specs.declared.sight.Seen.TheVariants as seen
use Rattle.sb_place.specs.declared.position.Position.{Position}
use Rattle.sb_place.specs.Chains.{Link, IsChain, IsLost, ShowsNext, is_at, broken_of, absent_of, numbers_in, most_placements}
use Rattle.sb_prism.specs.Faults.{Fault, named, in_position}
use Rattle.sb_prism.specs.Faults.Fault.{not_of_row, not_there}
use Rattle.sb_profile.specs.declared.following.places.Place.TheVariants as place
use Rattle.sb_profile.specs.Entities.Entity.{local_placement}
use Rattle.sb_profile.specs.Contents.{Contents, Says}
use Rattle.sb_profile.specs.Products.{is_taken, placement_of}
use Rattle.sb_profile.specs.Following.{building_placement, below, below_building, parent_of, IsInChain, IsFollowed}
use Rattle.sb_profile.specs.Following.IsFollowed.{chain}
use Rattle.sb_building.proofs.Followed.SeenWhereFollowed.{IsDefect, AreDefects, named_at, same_tests, space_position_at, leads_to, lead_from, given_is}

-- what is named of a placement
abbrev pub in_link : Fault → (Link → List ℕ)
in_link not_of_row = broken_of
in_link not_there = absent_of

-- and of a chain
abbrev pub in_chain : Fault → List Link → List ℕ
in_chain fault links = numbers_in (in_link fault) links

eq_turned : (m n : ℕ) → nat_eq m n ≡ nat_eq n m
eq_turned m n =
    same_tests (nat_eq m n) (nat_eq n m)
    (λ e. (Decides-eqb n m).1 (sym ((Decides-eqb m n).0 e)))
    (λ e. (Decides-eqb m n).1 (sym ((Decides-eqb n m).0 e)))

module _ (unique : ParametersAreUnique) (indexed : Indexed) (c : Contents) (says : Says indexed c) where
  of_position : (fault : Fault) (s : Seen Position)
      → in_link fault (seen.Shown s) ≡ in_position fault (Some s)
  of_position not_of_row s = refl
  of_position not_there s = refl

  of_unshown : (fault : Fault) (l : Link) → ((s : Seen Position) → l ≡ seen.Shown s → ⊥)
      → in_link fault l ≡ named fault l
  of_unshown not_of_row (seen.Absent m) unshown = refl
  of_unshown not_of_row (seen.Broken m) unshown = refl
  of_unshown not_of_row seen.Other unshown = refl
  of_unshown not_of_row (seen.Shown s) unshown = absurd (unshown s refl)
  of_unshown not_there (seen.Absent m) unshown = refl
  of_unshown not_there (seen.Broken m) unshown = refl
  of_unshown not_there seen.Other unshown = refl
  of_unshown not_there (seen.Shown s) unshown = absurd (unshown s refl)

  -- a placement that is not the building's goes on
  goes_on : (top : Option ℕ) (n : ℕ) → is_at top n ≡ false → below top (Some n) ≡ Some n
  goes_on None n apart = refl
  goes_on (Some b) n apart = ap (λ t. if t then None else Some n) (eq_turned n b ∙ apart)

  -- the position of a placement of the chain
  position_follows : (n : ℕ) (relative_to : Option ℕ) (axes : ℕ) → IsFollowed c place.Placement n
      → c.given local_placement n ≡ Some (relative_to, (axes, tt)) → IsFollowed c place.Position3d axes
  position_follows n relative_to axes follows given =
      leads_to unique indexed c says place.Placement n place.Position3d axes follows
      (lead_from (c.given local_placement n) (relative_to, (axes, tt))
      (λ v. (place.Position3d, v.1.0) ∷ []) (place.Position3d, axes) given (inl refl))

  -- from each placement of the chain on: k placements stand before it
  from_here : (fault : Fault) (left k : ℕ) (from : Option ℕ) (links : List Link) (reached : Bool)
      → left + k ≡ most_placements
      → ((n : ℕ) → below_building c from ≡ Some n → IsInChain c k n)
      → IsChain indexed (building_placement c) left from links reached
      → AreDefects c fault (in_chain fault links)
  from_here fault left k from [] reached all starts chains = tt
  from_here fault left k from (l ∷ links) reached all starts (n, from_is, apart, some, shows) =
      all-append (IsDefect c fault) (in_link fault l) (in_chain fault links)
      (of_link l shows)
      (of_rest (λ relative_to inner chains.
      from_here fault (left - 1) (suc k) relative_to links reached (omega arith) inner chains) l shows)
    where
      inside : IsInChain c k n
      inside =
          starts n (ap (below_building c) from_is ∙ goes_on (building_placement c) n apart)

      follows : IsFollowed c place.Placement n
      follows = chain k n (omega arith) inside

      of_link : (m : Link)
          → ShowsNext indexed n
          (λ above. IsChain indexed (building_placement c) (left - 1) above links reached) m
          (IsLost links reached)
          → AreDefects c fault (in_link fault m)
      of_link (seen.Absent m) (sees, lost) =
          subst (AreDefects c fault) (sym (of_unshown fault (seen.Absent m) (λ s is. cc is)))
          (named_at unique indexed c says fault place.Placement local_placement n (λ _. ⊥) (seen.Absent m)
          follows (inl refl) sees)
      of_link (seen.Broken m) (sees, lost) =
          subst (AreDefects c fault) (sym (of_unshown fault (seen.Broken m) (λ s is. cc is)))
          (named_at unique indexed c says fault place.Placement local_placement n (λ _. ⊥) (seen.Broken m)
          follows (inl refl) sees)
      of_link seen.Other (sees, lost) =
          subst (AreDefects c fault) (sym (of_unshown fault seen.Other (λ s is. cc is)))
          (named_at unique indexed c says fault place.Placement local_placement n (λ _. ⊥) seen.Other
          follows (inl refl) sees)
      of_link (seen.Shown s) placement =
          subst (AreDefects c fault) (sym (of_position fault s))
          (space_position_at unique indexed c says fault placement.axes s
          (position_follows n placement.relative_to placement.axes follows
          (given_is unique indexed c says local_placement n (placement.relative_to, (placement.axes, tt))
          placement.gives))
          placement.position)

      no_more : links ≡ [] → AreDefects c fault (in_chain fault links)
      no_more none = subst (λ ls. AreDefects c fault (in_chain fault ls)) (sym none) tt

      parent_is : (relative_to : Option ℕ) (axes : ℕ)
          → c.given local_placement n ≡ Some (relative_to, (axes, tt)) → parent_of c n ≡ relative_to
      parent_is relative_to axes given = ap (option_and_then (λ v. v.0)) given

      of_rest : ((relative_to : Option ℕ)
          → ((m : ℕ) → below_building c relative_to ≡ Some m → IsInChain c (suc k) m)
          → IsChain indexed (building_placement c) (left - 1) relative_to links reached
          → AreDefects c fault (in_chain fault links))
          → (m : Link)
          → ShowsNext indexed n
          (λ above. IsChain indexed (building_placement c) (left - 1) above links reached) m
          (IsLost links reached)
          → AreDefects c fault (in_chain fault links)
      of_rest again (seen.Absent m) (sees, lost) = no_more lost.0
      of_rest again (seen.Broken m) (sees, lost) = no_more lost.0
      of_rest again seen.Other (sees, lost) = no_more lost.0
      of_rest again (seen.Shown s) placement =
          again placement.relative_to
          (λ m is. (
            n,
            (
              inside,
              ap (below_building c)
                  (parent_is placement.relative_to placement.axes
                  (given_is unique indexed c says local_placement n (placement.relative_to, (placement.axes, tt))
                  placement.gives))
                  ∙ is,
            ),
          ))
          placement.above

  -- the chain of a taken product
  pub chain_of_product : (fault : Fault) (p : ℕ) (links : List Link) (reached : Bool)
      → is_taken c p ≡ true
      → IsChain indexed (building_placement c) most_placements (placement_of c p) links reached
      → AreDefects c fault (in_chain fault links)
  chain_of_product fault p links reached taken chains =
      from_here fault most_placements 0 (placement_of c p) links reached refl
      (λ n is. (p, (taken, is))) chains
