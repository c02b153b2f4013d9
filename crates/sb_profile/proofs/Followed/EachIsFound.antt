-- Instances at one place are found one after another, and then all of them are.
use Rattle.std.proofs.Common.{◌≡◌, ℕ, ◌+◌, ◌<◌, ◌≤◌, Bool, false, List, [], ◌∷◌, ◌++◌, length, get_or, take, refl, sym, ap, ◌∙◌, subst, append_assoc, append-nil}
use Rattle.std.specs.List.{flat_map}
use Rattle.std.proofs.lemmas.List.{take_all}
use Rattle.sb_profile.specs.declared.following.found.Found.{Found}
use Rattle.sb_profile.specs.declared.following.places.Place.{Place}
use Rattle.sb_profile.specs.declared.following.places.Place.TheVariants as place
use Rattle.sb_profile.specs.Entities.Entity.{local_placement}
use Rattle.sb_profile.specs.Contents.{Contents, is_absent}
use Rattle.sb_profile.specs.Lowest.{lower_if}
use Rattle.sb_profile.specs.Following.{leads}
use Rattle.sb_profile.specs.Steps.Found.{leads_with, is_unfit_at, FindsAs, Finds, FindsEach}
use Rattle.sb_profile.proofs.TablesOfFiles.LinksAreNoted.{lowered_more}
use Rattle.sb_profile.proofs.ListsOfNumbers.{flat_map_more}

pub each_of_none : (bodies : ℕ → Bool) (c : Contents) (at : Place) (found : Found)
    → FindsEach bodies c at [] found found
each_of_none bodies c at found = record {
  leads_are = sym (append-nil found.leads.items);
  unfit_is = refl;
  absent_is = refl;
}

pub each_more : (bodies : ℕ → Bool) (c : Contents) (at : Place) (xs : List ℕ) (i : ℕ)
    (base old new : Found) → i < length xs → FindsEach bodies c at (take i xs) base old
    → Finds bodies c at (get_or xs i 0) old new → FindsEach bodies c at (take (i + 1) xs) base new
each_more bodies c at xs i base old new within each finds = record {
  leads_are =
      finds.leads_are
      ∙ (ap (λ ls. ls ++ leads_with bodies c at (get_or xs i 0)) each.leads_are
      ∙ (append_assoc base.leads.items (flat_map (leads_with bodies c at) (take i xs)) (leads_with bodies c at (get_or xs i 0))
      ∙ ap (λ ls. base.leads.items ++ ls) (flat_map_more (leads_with bodies c at) xs i within)));
  unfit_is =
      finds.unfit_is
      ∙ (ap (lower_if (is_unfit_at c at (get_or xs i 0)) (get_or xs i 0)) each.unfit_is
      ∙ lowered_more (is_unfit_at c at) base.unfit xs i within);
  absent_is =
      finds.absent_is
      ∙ (ap (lower_if (is_absent c (get_or xs i 0)) (get_or xs i 0)) each.absent_is
      ∙ lowered_more (is_absent c) base.absent xs i within);
}

pub each_all : (bodies : ℕ → Bool) (c : Contents) (at : Place) (xs : List ℕ) (i : ℕ)
    (base new : Found) → length xs ≤ i → FindsEach bodies c at (take i xs) base new
    → FindsEach bodies c at xs base new
each_all bodies c at xs i base new past each =
    subst (λ ns. FindsEach bodies c at ns base new) (take_all i xs past) each

-- a placement is found as it is at its place, whatever the bodies
pub placement_found : (c : Contents) (n : ℕ) (old new : Found)
    → FindsAs local_placement (λ v. (place.Position3d, v.1.0) ∷ []) c n old new
    → Finds (λ _. false) c place.Placement n old new
placement_found c n old new found = record {
  leads_are = found.leads_are;
  unfit_is = found.unfit_is;
  absent_is = found.absent_is;
}

pub alike_for_placements : (one other : ℕ → Bool) (c : Contents) (ns : List ℕ)
    → flat_map (leads_with one c place.Placement) ns
    ≡ flat_map (leads_with other c place.Placement) ns
alike_for_placements one other c [] = refl
alike_for_placements one other c (n ∷ ns) =
    ap (λ ls. leads c place.Placement n ++ ls) (alike_for_placements one other c ns)
