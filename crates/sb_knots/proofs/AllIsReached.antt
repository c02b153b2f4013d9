-- As the line passes corner after corner, what is kept stays right; so in the end the loops are
-- apart,
-- and the answers are the senses.

use Rattle.std.proofs.Common.{◌≡◌, ◌⊎◌, inl, inr, refl, sym, ap, ◌∙◌, ℕ, zero, suc, ◌≤◌}
use Rattle.std.proofs.Common.{Bool, false, List, [], ◌∷◌, ◌++◌, length, take, drop, map, subst}
use Rattle.std.proofs.Common.{Some, ◌≤ℤ◌}
use Rattle.std.specs.List.{slice_get}
use Rattle.std.proofs.lemmas.List.{map-append}
use Rattle.theory_lists.specs.Parted.{IsPartedAt}
use Rattle.sb_fraction.specs.declared.point.Point.{Point}
use Rattle.theory_plans.specs.Plans.{are_apart}
use Rattle.theory_sweep.specs.Corners.{Corner}
use Rattle.theory_sweep.specs.Open.{AreOpen}
use Rattle.theory_sweep.specs.Passing.{sweep_way, pass_of}
use Rattle.theory_sweep.proofs.ApartWhenPassed.{none_at_first, apart_when_passed}
use Rattle.theory_sweep.proofs.PassedInOrder.{sweep_is_way}
use Rattle.sb_knots.specs.Listing.{IsListing, IsReached, IsSenseAt, IsSwept, passed_by}
use Rattle.sb_knots.specs.Steps.{edge_at, ids_of, begun_at, lies_under, ends_at, drop_first}
use Rattle.sb_knots.specs.Steps.{closed_at}
use Rattle.sb_knots.specs.Steps.{HaveBegun, are_linked, may_follow, joint_at}
use Rattle.sb_knots.proofs.CornersInOrder.{first_late, last_passed, passed_apart}
use Rattle.sb_knots.proofs.SenseIsRight.{sense}
use Rattle.sb_knots.proofs.StepIsRight.{parted_there, passed, later_is, refused}

-- what a list has with one item behind
get_pushed : {X : Type 0} (xs : List X) (x : X) (j : ℕ) (y : X) → slice_get (xs ++ x ∷ []) j
    ≡ Some y
    → (slice_get xs j ≡ Some y) ⊎ ((j ≡ length xs) × (y ≡ x))
get_pushed [] x zero y at = let same : y ≡ x = cc in inr (refl, same)
get_pushed [] x (suc zero) y at = absurd cc
get_pushed [] x (suc (suc j)) y at = absurd cc
get_pushed (z ∷ xs) x zero y at = inl at
get_pushed (z ∷ xs) x (suc j) y at = from (get_pushed xs x j y at)
  where
    from : (slice_get xs j ≡ Some y) ⊎ ((j ≡ length xs) × (y ≡ x))
        → (slice_get (z ∷ xs) (suc j) ≡ Some y) ⊎ ((suc j ≡ length (z ∷ xs)) × (y ≡ x))
    from (inl there) = inl there
    from (inr last) = inr (ap suc last.0, last.1)

module _ (loops : List (List Point)) (corners : List Corner)
    (listing : IsListing loops corners) where
  -- before the first corner
  pub reached_first : IsReached loops corners 0 [] []
  reached_first = record {
    standing =
        none_at_first sweep_way sweep_is_way loops (passed_by corners 0)
        (first_late loops corners listing);
    senses = λ k c left at none. absurd (nothing k left none);
  }
    where
      nothing : (k : ℕ) (left : Bool) → slice_get [] k ≡ Some left → ⊥
      nothing zero left at = cc
      nothing (suc k) left at = cc

  module _ (k : ℕ) (c : Corner) (at : slice_get corners k ≡ Some c) (ids : List ℕ)
      (lefts : List Bool)
      (reached : IsReached loops corners k ids lefts) where
    -- over the next one
    pub reached_next : (left : Bool) (later : List ℕ) → length lefts ≡ k
        → ((n : ℕ) → n ≤ length ids → IsPartedAt (lies_under corners c.at) n ids
        → HaveBegun corners (begun_at c k) n (closed_at corners c.at n ids) later left)
        → IsReached loops corners (suc k) later (lefts ++ left ∷ [])
    reached_next left later count begun =
        let p = parted_there loops corners listing k c at ids reached.standing in
        let have = begun p.0 p.1.0 p.1.1 in
        record {
          standing = subst (AreOpen sweep_way loops (passed_by corners (suc k)))
              (sym (ap (map (edge_at corners))
              (later_is loops corners listing k c at ids reached.standing p.0 p.1.0 p.1.1 left later have)
              ∙ map-append (edge_at corners) (take p.0 ids)
              (ids_of (begun_at c k) ++ drop_first (ends_at corners c.at) (drop p.0 ids))
              ∙ ap (λ t. map (edge_at corners) (take p.0 ids) ++ t)
              (map-append (edge_at corners) (ids_of (begun_at c k))
              (drop_first (ends_at corners c.at) (drop p.0 ids)))))
              (passed loops corners listing k c at ids reached.standing p.0 p.1.0 p.1.1 left later have);
          senses = λ j other answer other_at answer_at.
              from
              (sense loops corners listing k c at ids reached.standing p.0 p.1.0 p.1.1 left later have)
              j other answer other_at (get_pushed lefts left j answer answer_at);
        }
      where
        from : IsSenseAt loops c left → (j : ℕ) (other : Corner) (answer : Bool)
            → slice_get corners j ≡ Some other
            → (slice_get lefts j ≡ Some answer) ⊎ ((j ≡ length lefts) × (answer ≡ left))
            → IsSenseAt loops other answer
        from new j other answer other_at (inl old) = reached.senses j other answer other_at old
        from new j other answer other_at (inr last) =
            let there : slice_get corners k ≡ Some other =
            ap (slice_get corners) (sym (last.0 ∙ count)) ∙ other_at in
            let same : c ≡ other = cc in
            subst (λ b. IsSenseAt loops other b) (sym last.1)
            (subst (λ t. IsSenseAt loops t left) same new)

    -- neighbours that may not be so
    pub knotted_there : ((n : ℕ) → n ≤ length ids → IsPartedAt (lies_under corners c.at) n ids
        → are_linked (may_follow corners) (joint_at n (begun_at c k) (closed_at corners c.at n ids))
        ≡ false)
        → are_apart loops ≡ false
    knotted_there fails =
        let p = parted_there loops corners listing k c at ids reached.standing in
        refused loops corners listing k c at ids reached.standing p.0 p.1.0 p.1.1
        (fails p.0 p.1.0 p.1.1)

  -- behind the last one
  pub swept : (n : ℕ) → n ≡ length corners → (ids : List ℕ) (lefts : List Bool) → length lefts ≡ n
      → IsReached loops corners n ids lefts → IsSwept loops corners lefts
  swept n all ids lefts count reached = record {
    apart =
        apart_when_passed sweep_way loops
        (passed_apart loops corners listing) listing.bent sweep_is_way
        (passed_by corners n) reached.standing.met
        (λ c c_in.
        subst (λ m. pass_of sweep_way c.at ≤ℤ passed_by corners m) (sym all)
        (last_passed loops corners listing c c_in));
    senses = record { count = count ∙ all; senses = reached.senses };
  }
