-- A step of the program is a step of the line: as it passes a corner the edges that stand become
-- those
-- over which the line stands then; and neighbours that may not be so show that the loops are not
-- apart.

use Rattle.std.proofs.Common.{◌≡◌, ◌⊎◌, inl, inr, refl, sym, ap, ap₂, ◌∙◌, ℕ, suc, ◌≤◌}
use Rattle.std.proofs.Common.{Bool, true, false, List, [], ◌∷◌, ◌++◌, length, take, drop, map}
use Rattle.std.proofs.Common.{subst, Some}
use Rattle.std.specs.List.{slice_get}
use Rattle.std.proofs.lemmas.List.{map-append, take-append-drop}
use Rattle.theory_lists.specs.Members.{Stands}
use Rattle.theory_lists.specs.Parted.{IsPartedAt}
use Rattle.theory_lists.proofs.Members.{all_follow, all_images, two_of_images}
use Rattle.theory_lists.proofs.Blocks.{stands_before, stands_behind}
use Rattle.sb_fraction.specs.declared.point.Point.{Point}
use Rattle.sb_fraction.specs.Edges.{Edge}
use Rattle.theory_plans.specs.Plans.{are_apart}
use Rattle.theory_plans.proofs.Edges.EdgesOfPlans.{same_point}
use Rattle.theory_sweep.specs.Corners.{Corner, ArePassedApart}
use Rattle.theory_sweep.specs.Open.{AreOpen, IsNext, IsSplitAt, AreBegun, MayBeNeighbours}
use Rattle.theory_sweep.specs.Open.{FirstGoesOn, is_under, may_be_neighbours, AllNeighbours}
use Rattle.theory_sweep.specs.Open.{last_item, first_item}
use Rattle.theory_sweep.specs.Passing.{pass_of, sweep_way}
use Rattle.theory_sweep.proofs.EdgesAtACorner.{refused_are_knotted, same_as_itself}
use Rattle.theory_sweep.proofs.NeighboursInOrder.{stands_in_either}
use Rattle.theory_sweep.proofs.OverACorner.{below_first, open_then, there_then}
use Rattle.theory_sweep.proofs.PassedInOrder.{sweep_is_way}
use Rattle.sb_knots.specs.Listing.{IsListing, passed_by}
use Rattle.sb_knots.specs.Steps.{edge_at, ids_of, begun_at, lies_under, ends_at, drop_first}
use Rattle.sb_knots.specs.Steps.{closed_at}
use Rattle.sb_knots.specs.Steps.{joint_at, HaveBegun, are_linked, may_follow}
use Rattle.sb_knots.proofs.BegunInOrder.{begun_are}
use Rattle.sb_knots.proofs.CornersInOrder.{is_next, passed_next, passed_apart, range_at}
use Rattle.sb_knots.proofs.EditsOfIds.{take_put, drop_put}
use Rattle.sb_knots.proofs.JointsOfLists.{last_before, first_behind, last-map, first-map}
use Rattle.sb_knots.proofs.JointsOfLists.{linked_neighbours}
use Rattle.sb_knots.proofs.JointsOfLists.{not_linked, last_stands, first_stands, take_first}
use Rattle.sb_knots.proofs.JointsOfLists.{first_and_rest, first_pass, rest_keeps, rest_fails}
use Rattle.sb_knots.proofs.JointsOfLists.{parted_within}

module _ (loops : List (List Point)) (corners : List Corner) (listing : IsListing loops corners)
    (k : ℕ) (c : Corner) (at : slice_get corners k ≡ Some c) (ids : List ℕ)
    (now : AreOpen sweep_way loops (passed_by corners k) (map (edge_at corners) ids)) where
  next : IsNext sweep_way loops (passed_by corners k) c
  next = is_next loops corners listing k c at

  apart : ArePassedApart sweep_way loops
  apart = passed_apart loops corners listing

  -- the edges that lie below the corner come first
  pub parted_there : (n : ℕ) × ((n ≤ length ids) × IsPartedAt (lies_under corners c.at) n ids)
  parted_there =
      parted_within (lies_under corners c.at) ids
      (two_of_images (λ e f. is_under c.at f ≡ true → is_under c.at e ≡ true) (edge_at corners) ids
      (below_first sweep_way sweep_is_way loops apart listing.bent (passed_by corners k)
      (map (edge_at corners) ids) now c next))

  module _ (n : ℕ) (within : n ≤ length ids) (parted : IsPartedAt
      (lies_under corners c.at) n ids) where
    abbrev front : List ℕ
    front = take n ids

    abbrev ending : List ℕ
    ending = take_first (ends_at corners c.at) (drop n ids)

    abbrev back : List ℕ
    back = drop_first (ends_at corners c.at) (drop n ids)

    abbrev new : List ℕ
    new = ids_of (begun_at c k)

    goes_on : (gs : List ℕ) → ((x : ℕ) (xs : List ℕ) → gs ≡ x ∷ xs → ends_at corners c.at x ≡ false)
        → FirstGoesOn c.at (map (edge_at corners) gs)
    goes_on [] fails = tt
    goes_on (x ∷ xs) fails = λ ends.
        clash (fails x xs refl) (same_as_itself (edge_at corners x).b c.at ends)
      where
        clash : {b : Bool} → b ≡ false → b ≡ true → ⊥
        clash none some = cc

    parts : IsSplitAt c.at (map (edge_at corners) ids) (map (edge_at corners) (take n ids))
        (map (edge_at corners) (take_first (ends_at corners c.at) (drop n ids)))
        (map (edge_at corners) (drop_first (ends_at corners c.at) (drop n ids)))
    parts = record {
      split = ap (map (edge_at corners)) (sym (take-append-drop n ids)
          ∙ ap (λ t. take n ids ++ t) (sym (first_and_rest (ends_at corners c.at) (drop n ids))))
          ∙ map-append (edge_at corners) front (ending ++ back)
          ∙ ap (λ t. map (edge_at corners) (take n ids) ++ t) (map-append
          (edge_at corners) ending back);
      under = all_images (λ e. is_under c.at e ≡ true) (edge_at corners) front parted.first;
      ends = all_images (λ e. e.b ≡ c.at) (edge_at corners) ending
          (all_follow (λ x ends. same_point (edge_at corners x).b c.at ends) ending
          (first_pass (ends_at corners c.at) (drop n ids)));
      over = all_images (λ e. is_under c.at e ≡ false) (edge_at corners) back
          (rest_keeps (λ x. lies_under corners c.at x ≡ false) (ends_at corners c.at) (drop n ids)
          parted.rest);
      goes_on = goes_on back (λ x xs is. rest_fails (ends_at corners c.at) (drop n ids) x xs is);
    }

    begun : AreBegun sweep_way loops c.at (map (edge_at corners) (ids_of (begun_at c k)))
    begun =
        begun_are loops apart listing.bent c next.stands (range_at corners listing.in_range k c at)
        corners k at

    -- what is joined, as edges
    joint_is : joint_at n (begun_at c k) (closed_at corners c.at n ids)
        ≡ last_item front ++ (new ++ first_item back)
    joint_is =
        ap₂ (λ s t. s ++ (ids_of (begun_at c k) ++ t)) (last_before ids back n within)
        (first_behind ids back n within)

    joint_edges : map (edge_at corners) (last_item front ++ (new ++ first_item back))
        ≡ last_item (map (edge_at corners) front)
        ++ (map (edge_at corners) new ++ first_item (map (edge_at corners) back))
    joint_edges =
        map-append (edge_at corners) (last_item front) (new ++ first_item back)
        ∙ ap₂ (λ s t. s ++ t) (sym (last-map (edge_at corners) front))
        (map-append (edge_at corners) new (first_item back)
        ∙ ap (λ t. map (edge_at corners) (ids_of (begun_at c k)) ++ t)
        (sym (first-map (edge_at corners) back)))

    -- each of them stands once the line has passed
    joint_stands : (e : Edge)
        → Stands e (map (edge_at corners) (last_item front ++ (new ++ first_item back)))
        → Stands e (map (edge_at corners) front
        ++ (map (edge_at corners) new ++ map (edge_at corners) back))
    joint_stands e e_in =
        by (stands_in_either e (last_item (map (edge_at corners) front))
        (map (edge_at corners) new ++ first_item (map (edge_at corners) back))
        (subst (Stands e) joint_edges e_in))
      where
        second : Stands e (map (edge_at corners) new)
            ⊎ Stands e (first_item (map (edge_at corners) back))
            → Stands e (map (edge_at corners) front
            ++ (map (edge_at corners) new ++ map (edge_at corners) back))
        second (inl there) =
            stands_behind e (map (edge_at corners) front)
            (map (edge_at corners) new ++ map (edge_at corners) back)
            (stands_before e (map (edge_at corners) new) (map (edge_at corners) back) there)
        second (inr there) =
            stands_behind e (map (edge_at corners) front)
            (map (edge_at corners) new ++ map (edge_at corners) back)
            (stands_behind e (map (edge_at corners) new) (map (edge_at corners) back)
            (first_stands e (map (edge_at corners) back) there))

        by : Stands e (last_item (map (edge_at corners) front))
            ⊎ Stands e (map (edge_at corners) new ++ first_item (map (edge_at corners) back))
            → Stands e (map (edge_at corners) front
            ++ (map (edge_at corners) new ++ map (edge_at corners) back))
        by (inl there) =
            stands_before e (map (edge_at corners) front)
            (map (edge_at corners) new ++ map (edge_at corners) back)
            (last_stands e (map (edge_at corners) front) there)
        by (inr more) =
            second (stands_in_either e (map (edge_at corners) new) (first_item (map
            (edge_at corners) back)) more)

    -- where they are not linked the loops are not apart
    pub refused : are_linked (may_follow corners)
        (joint_at n (begun_at c k) (closed_at corners c.at n ids)) ≡ false → are_apart loops ≡ false
    refused fails =
        from (not_linked (edge_at corners) may_be_neighbours (last_item front ++
        (new ++ first_item back))
        (subst (λ l. are_linked (may_follow corners) l ≡ false) joint_is fails))
      where
        from : (e : Edge) × ((g : Edge)
            × (Stands e (map (edge_at corners) (last_item front ++ (new ++ first_item back)))
            × (Stands g (map (edge_at corners) (last_item front ++ (new ++ first_item back)))
            × (may_be_neighbours e g ≡ false))))
            → are_apart loops ≡ false
        from (e, (g, known)) =
            refused_are_knotted sweep_way loops (pass_of sweep_way c.at) e g
            (there_then sweep_way sweep_is_way loops apart listing.bent (passed_by corners k)
            (map (edge_at corners) ids) now c next (map (edge_at corners) front)
            (map (edge_at corners) ending) (map (edge_at corners) back) parts
            (map (edge_at corners) new) begun e (joint_stands e known.0))
            (there_then sweep_way sweep_is_way loops apart listing.bent (passed_by corners k)
            (map (edge_at corners) ids) now c next (map (edge_at corners) front)
            (map (edge_at corners) ending) (map (edge_at corners) back) parts
            (map (edge_at corners) new) begun g (joint_stands g known.1.0))
            known.1.1

    -- where they are, these edges stand once the line has passed
    pub passed : (left : Bool) (later : List ℕ)
        → HaveBegun corners (begun_at c k) n (closed_at corners c.at n ids) later left
        → AreOpen sweep_way loops (passed_by corners (suc k))
        (map (edge_at corners) front ++ (map (edge_at corners) new ++ map (edge_at corners) back))
    passed left later have =
        subst
        (λ m. AreOpen sweep_way loops m
        (map (edge_at corners) front ++ (map (edge_at corners) new ++ map (edge_at corners) back)))
        (sym (passed_next loops corners listing k c at))
        (open_then sweep_way sweep_is_way loops apart listing.bent (passed_by corners k)
        (map (edge_at corners) ids) now c next (map (edge_at corners) front)
        (map (edge_at corners) ending) (map (edge_at corners) back) parts
        (map (edge_at corners) new) begun
        (subst (AllNeighbours MayBeNeighbours) joint_edges
        (linked_neighbours (edge_at corners) may_be_neighbours
        (last_item front ++ (new ++ first_item back))
        (subst (λ l. are_linked (may_follow corners) l ≡ true) joint_is have.linked))))

    -- the list that was made
    pub later_is : (left : Bool) (later : List ℕ)
        → HaveBegun corners (begun_at c k) n (closed_at corners c.at n ids) later left
        → later ≡ front ++ (new ++ back)
    later_is left later have =
        have.list
        ∙ ap₂ (λ s t. s ++ (ids_of (begun_at c k) ++ t)) (take_put ids back n within)
        (drop_put ids back n within)
