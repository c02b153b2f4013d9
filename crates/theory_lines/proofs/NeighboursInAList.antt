-- Of a rising list of all abscissae of a direction each two that follow each other are neighbours.

use Rattle.std.proofs.Common.{◌≡◌, ◌⊎◌, inl, inr, refl, sym, subst, arith, true, false, List}
use Rattle.std.proofs.Common.{[], ◌∷◌, ◌++◌}
use Rattle.std.proofs.lemmas.Int.{ints}
use Rattle.std.proofs.lemmas.Bool.{false_from_ne_true}
use Rattle.theory_lists.specs.Members.{Stands, AllOfTwo}
use Rattle.theory_lists.proofs.Members.{all_stands}
use Rattle.theory_numbers.specs.Arrows.{Arrow}
use Rattle.theory_numbers.specs.Rationals.{IsRational, IsBelow, IsAtMost, IsSame}
use Rattle.theory_numbers.proofs.Vectors.Arrows.{cross-turn}
use Rattle.theory_numbers.proofs.Fractions.Rationals.{at_most_trans, at_most_refl, at_most_from_below}
use Rattle.theory_numbers.proofs.Fractions.Rationals.{below_clash}
use Rattle.sb_fraction.specs.Lines.{flat}
use Rattle.sb_model.specs.Building.{Building}
use Rattle.sb_model.specs.PlanEdges.{is_abscissa}
use Rattle.theory_lines.specs.Slabs.{AreNeighbours, AreAbscissae}

-- what stands in a rising list that has low and high side by side is at most low, or at least high
outside : (low high a : Arrow) (front back : List Arrow)
    → AllOfTwo IsBelow (front ++ low ∷ high ∷ back) → Stands a (front ++ low ∷ high ∷ back)
    → IsAtMost a low ⊎ IsAtMost high a
outside low high a [] back rising (inl same) =
    inl (subst (λ r. IsAtMost r low) (sym same) (at_most_refl low))
outside low high a [] back rising (inr (inl same)) =
    inr (subst (IsAtMost high) (sym same) (at_most_refl high))
outside low high a [] back rising (inr (inr later)) =
    inr (at_most_from_below high a (all_stands (IsBelow high) a back rising.1.0 later))
outside low high a (b ∷ front) back rising (inr later) =
    outside low high a front back rising.1 later
outside low high a (b ∷ front) back rising (inl same) =
    inl (at_most_from_below a low
    (subst (λ r. IsBelow r low) (sym same)
    (all_stands (IsBelow b) low (front ++ low ∷ high ∷ back) rising.0 (low_stands front))))
  where
    low_stands : (xs : List Arrow) → Stands low (xs ++ low ∷ high ∷ back)
    low_stands [] = inl refl
    low_stands (x ∷ xs) = inr (low_stands xs)

both_stand : (low high : Arrow) (front back : List Arrow)
    → Stands low (front ++ low ∷ high ∷ back) × Stands high (front ++ low ∷ high ∷ back)
both_stand low high [] back = (inl refl, inr (inl refl))
both_stand low high (x ∷ xs) back =
    let rest = both_stand low high xs back in (inr rest.0, inr rest.1)

rises_there : (low high : Arrow) (front back : List Arrow)
    → AllOfTwo IsBelow (front ++ low ∷ high ∷ back) → IsBelow low high
rises_there low high [] back rising = rising.0.0
rises_there low high (x ∷ xs) back rising = rises_there low high xs back rising.1

-- of the rising list of all abscissae each two that follow each other are neighbours
pub neighbours_in_list : (m : Building) (d low high : Arrow) (front back : List Arrow)
    → AreAbscissae m d (front ++ low ∷ high ∷ back) → AreNeighbours m d low high
neighbours_in_list m d low high front back are =
    record {
      slab =
          record {
            low_in = low_in;
            high_in = high_in;
            wide = rises_there low high front back are.rising;
            none = none;
          };
      first =
          all_stands (λ a. is_abscissa m (flat d) a ≡ true) low (front ++ low ∷ high ∷ back) are.each
          at.0;
      last =
          all_stands (λ a. is_abscissa m (flat d) a ≡ true) high (front ++ low ∷ high ∷ back)
          are.each at.1;
    }
  where
    at : Stands low (front ++ low ∷ high ∷ back) × Stands high (front ++ low ∷ high ∷ back)
    at = both_stand low high front back

    low_in : IsRational low
    low_in = all_stands IsRational low (front ++ low ∷ high ∷ back) are.rational at.0

    high_in : IsRational high
    high_in = all_stands IsRational high (front ++ low ∷ high ∷ back) are.rational at.1

    none : (u : Arrow) → IsRational u → IsBelow low u → IsBelow u high
        → is_abscissa m (flat d) u ≡ false
    none u u_in after before =
        false_from_ne_true (is_abscissa m (flat d) u) (λ is.
        from (are.all u u_in is))
      where
        from : (a : Arrow)
            × (Stands a (front ++ low ∷ high ∷ back) × IsSame u a) → ⊥
        from (a, known) = clash (outside low high a front back are.rising known.0)
          where
            same : IsSame u a
            same = known.1

            a_in : IsRational a
            a_in = all_stands IsRational a (front ++ low ∷ high ∷ back) are.rational known.0

            clash : IsAtMost a low ⊎ IsAtMost high a → ⊥
            clash (inl least) =
                let is_same = same in
                below_clash low u after
                (at_most_trans u a low u_in a_in low_in (omega (arith, ints)) least)
            clash (inr most) =
                let is_same = same in
                let turn = cross-turn u a in
                below_clash u high before
                (at_most_trans high a u high_in a_in u_in most (omega (arith, ints)))
