-- A cutting seen from another whole number: all breaks lie so much further on, and they stay reduced
-- fractions.
use Rattle.std.proofs.Common.{◌≡◌, sym, arith, Option, Some, None, ℤ, neg_ℤ, List, [], ◌∷◌}
use Rattle.theory_numbers.specs.Arrows.{Arrow, cross}
use Rattle.theory_numbers.proofs.Shapes.{var, plus, times, negated, equal, cross_by, cross_is}
use Rattle.theory_numbers.proofs.Fractions.LowestTerms.{moved_is_reduced}
use Rattle.theory_cuttings.specs.Ends.{IsOpen, IsAfter, IsBefore}
use Rattle.theory_cuttings.specs.Cuttings.{Break, IsFraction, HasLabel, IsCutting}
use Rattle.theory_cuttings.specs.Cuttings.{IsReducedCutting, AreDifferent}
use Rattle.theory_cuttings.specs.Changes.{moved_by, moved_end, moved_breaks}

-- the order of two numbers that are moved alike stays
pub cross-moved : (x : ℤ) (r s : Arrow) → cross (moved_by x r) (moved_by x s) ≡ cross r s
cross-moved x r s =
    equal
    (cross_by (moved_by x r) (moved_by x s) (var r.x) (plus (var r.y) (times (var x) (var r.x)))
    (var s.x) (plus (var s.y) (times (var x) (var s.x))))
    (cross_is r s) (omega arith)

-- a number lies to a moved one as the number moved back lies to it
pub moved-cross : (x : ℤ) (r s : Arrow) → cross (moved_by x r) s ≡ cross r (moved_by (neg_ℤ x) s)
moved-cross x r s =
    equal
    (cross_by (moved_by x r) s (var r.x) (plus (var r.y) (times (var x) (var r.x))) (var s.x)
    (var s.y))
    (cross_by r (moved_by (neg_ℤ x) s) (var r.x) (var r.y) (var s.x)
    (plus (var s.y) (times (negated (var x)) (var s.x)))) (omega arith)

-- and the other way round
pub cross-moved_back : (x : ℤ) (r s : Arrow)
    → cross r (moved_by x s) ≡ cross (moved_by (neg_ℤ x) r) s
cross-moved_back x r s =
    equal
    (cross_by r (moved_by x s) (var r.x) (var r.y) (var s.x)
    (plus (var s.y) (times (var x) (var s.x))))
    (cross_by (moved_by (neg_ℤ x) r) s (var r.x)
    (plus (var r.y) (times (negated (var x)) (var r.x))) (var s.x) (var s.y)) (omega arith)

moved_open : (x : ℤ) (low high : Option Arrow) → IsOpen low high
    → IsOpen (moved_end x low) (moved_end x high)
moved_open x None None wide = tt
moved_open x None (Some t) wide = tt
moved_open x (Some r) None wide = tt
moved_open x (Some r) (Some t) wide = rw (cross-moved x r t) wide

moved_after : (x : ℤ) (low : Option Arrow) (u : Arrow) → IsAfter (moved_end x low) u
    → IsAfter low (moved_by (neg_ℤ x) u)
moved_after x None u after = tt
moved_after x (Some r) u after = rw (sym (moved-cross x r u)) after

moved_before : (x : ℤ) (u : Arrow) (high : Option Arrow) → IsBefore u (moved_end x high)
    → IsBefore (moved_by (neg_ℤ x) u) high
moved_before x u None before = tt
moved_before x u (Some t) before = rw (sym (cross-moved_back x u t)) before

-- a reduced fraction stays one
pub moved-IsFraction : (x : ℤ) (r : Arrow) → IsFraction r → IsFraction (moved_by x r)
moved-IsFraction x r r_in = moved_is_reduced x r.y r.x r_in

module _ {L : Type 0} (f : Arrow → L) (x : ℤ) where
  has_label_moved : (low high : Option Arrow) (label : L) → HasLabel f low high label
      → HasLabel (λ u. f (moved_by (neg_ℤ x) u)) (moved_end x low) (moved_end x high) label
  has_label_moved low high label has u u_in after before =
      has (moved_by (neg_ℤ x) u) u_in (moved_after x low u after) (moved_before x u high before)

  -- the moved breaks cut the moved function
  pub moved_is : (low high : Option Arrow) (first : L) (bs : List (Break L))
      → IsCutting f low high first bs
      → IsCutting (λ u. f (moved_by (neg_ℤ x) u)) (moved_end x low) (moved_end x high) first
      (moved_breaks x bs)
  moved_is low high first [] cut =
      (moved_open x low high cut.0, has_label_moved low high first cut.1)
  moved_is low high first (b ∷ bs) cut = (
    moved-IsFraction x b.start cut.0,
    moved_open x low (Some b.start) cut.1,
    has_label_moved low (Some b.start) first cut.2,
    moved_is (Some b.start) high b.label bs cut.3,
  )

different_moved : {L : Type 0} (x : ℤ) (first : L) (bs : List (Break L)) → AreDifferent first bs
    → AreDifferent first (moved_breaks x bs)
different_moved x first [] differ = tt
different_moved x first (b ∷ bs) differ = (differ.0, different_moved x b.label bs differ.1)

-- and reduced stays reduced
pub moved_cutting_is_reduced : {L : Type 0} (f : Arrow → L) (x : ℤ) (low high : Option Arrow)
    (first : L) (bs : List (Break L)) → IsReducedCutting f low high first bs
    → IsReducedCutting (λ u. f (moved_by (neg_ℤ x) u)) (moved_end x low) (moved_end x high) first
    (moved_breaks x bs)
moved_cutting_is_reduced f x low high first bs reduced = record {
  cutting = moved_is f x low high first bs reduced.cutting;
  different = different_moved x first bs reduced.different;
}
