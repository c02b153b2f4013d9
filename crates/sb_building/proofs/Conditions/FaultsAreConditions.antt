-- A taken product without a frame has the condition that its placement gives, and one that stands in a frame
-- stands there as the file has it.
use Rattle.std.proofs.Common.{◌≡◌, ◌⊎◌, ℕ, Bool, true, List, Option, Some, Ok, Err, sym, ◌∙◌, subst, inl, inr}
use Rattle.std.proofs.lemmas.Option.{same_Some}
use Rattle.theory_lists.specs.Members.{Stands}
use Rattle.sb_fraction.specs.declared.unit.Unit as units
use Rattle.sb_step.specs.Indexed.{Indexed}
use Rattle.sb_place.specs.declared.error.PlaceError.{PlaceError}
use Rattle.sb_place.specs.declared.error.PlaceError.TheVariants as place_error
use Rattle.sb_place.specs.Judgement.{IsFrameOf}
use Rattle.sb_profile.specs.declared.defects.Code.{Code}
use Rattle.sb_profile.specs.declared.defects.Code.TheVariants as code
use Rattle.sb_profile.specs.declared.defects.Defect.{Defect}
use Rattle.sb_profile.specs.declared.reading.products.Shaped.{Shaped}
use Rattle.sb_profile.specs.Contents.{Contents}
use Rattle.sb_profile.specs.Products.{is_taken}
use Rattle.sb_profile.specs.Following.{building_placement}
use Rattle.sb_profile.specs.Steps.Read.{AreTaken}
use Rattle.sb_building.specs.declared.judging.standing.Standing.{Standing}
use Rattle.sb_building.specs.Placings.{IsFrameIn}
use Rattle.sb_building.specs.Conditions.{HasCondition}
use Rattle.sb_building.specs.Steps.Order.{AreInOrder}
use Rattle.sb_building.specs.Steps.Standing.{code_of, standing, StandsAs, HasFault, IsJudgedAmong, AreStanding, AreJudged, IsTakenStanding, AreTakenStanding, TakenAreJudged}

-- products in order are taken as they were
pub taken_in_order : (c : Contents) (test : ℕ → Bool) (ps qs : List Shaped) → AreTaken c test ps
    → AreInOrder (λ (p : Shaped). p.number) ps qs → AreTaken c test qs
taken_in_order c test ps qs taken order = record {
  sound = λ p at. taken.sound p (order.sound p at);
  complete = λ n passes.
      let (p, (at, is)) = taken.complete n passes in
      let (q, there, same) = order.complete p at in
      (q, (there, same ∙ is));
}

module _ (i : Indexed) (c : Contents) (u : units.Unit) where
  condition_of : (e : PlaceError) (k : Code) (n : ℕ) → code_of e ≡ Some k → IsFrameIn i c u n (Err e)
      → HasCondition i c u k n
  condition_of place_error.Chain k n is frame =
      subst (λ j. HasCondition i c u j n) (same_Some code.Chain k is) frame
  condition_of place_error.Turned k n is frame =
      subst (λ j. HasCondition i c u j n) (same_Some code.Turned k is) (inl frame)
  condition_of place_error.Range k n is frame =
      subst (λ j. HasCondition i c u j n) (same_Some code.Range k is) (inl frame)
  condition_of (place_error.Fields m) k n is frame = absurd (cc is)
  condition_of (place_error.Missing m) k n is frame = absurd (cc is)
  condition_of place_error.NoMemory k n is frame = absurd (cc is)

  module _ (test : ℕ → Bool) (ps : List Shaped) (taken : AreTaken c test ps) (b : Option ℕ)
      (below : b ≡ building_placement c) where
    fault_has : (n : ℕ) (k : Code) → HasFault i b u ps n k → (is_taken c n ≡ true) × HasCondition i c u k n
    fault_has n k fault =
        let is = (taken.sound fault.product fault.among).0 in
        let frame : IsFrameIn i c u fault.product.number (Err fault.fault) =
        subst (λ at. IsFrameOf i at (building_placement c) u (Err fault.fault)) (sym is.placement)
        (subst (λ d. IsFrameOf i fault.product.placement d u (Err fault.fault)) below fault.frame) in (
          subst (λ m. is_taken c m ≡ true) fault.number is.taken,
          subst (HasCondition i c u k) fault.number
              (condition_of fault.fault k fault.product.number fault.code frame),
        )

    stands_taken : (s : Standing) → StandsAs i b u ps s → IsTakenStanding i c u test s
    stands_taken s stands =
        let both = taken.sound stands.product stands.among in
        let is = both.0 in
        subst (IsTakenStanding i c u test) (sym stands.is) (record {
          taken = is.taken;
          passes = both.1;
          frame_is =
              subst (λ at. IsFrameOf i at (building_placement c) u (Ok stands.f)) (sym is.placement)
              (subst (λ d. IsFrameOf i stands.product.placement d u (Ok stands.f)) below stands.frame);
          shape_is = is.shape;
        })

    -- what was judged of taken products
    pub judged_taken : (all : List Standing) (seen : List (ℕ × Code)) → AreStanding i b u ps all seen
        → AreTakenStanding i c u test all seen
    judged_taken all seen are = record {
      standing_are = λ s at. stands_taken s (are.standing_are s at);
      seen_are = λ n k at. fault_has n k (are.seen_are n k at);
      each = λ n passes.
          let (p, (at, is)) = taken.complete n passes in by n p is (are.each p at);
    }
      where
        by : (n : ℕ) (p : Shaped) → p.number ≡ n → IsJudgedAmong all seen p
            → ((s : Standing) × Stands s all × (s.number ≡ n)) ⊎ ((k : Code) × Stands (n, k) seen)
        by n p is (inl (f, at)) = inl (standing p f, at, is)
        by n p is (inr (k, at)) = inr (k, subst (λ m. Stands (m, k) seen) is at)

-- taken products that were judged in order
pub taken_are_judged : (i : Indexed) (b : Option ℕ) (u : units.Unit) (ps qs : List Shaped)
    (all : List Standing) (found then_found : Option Defect)
    → AreInOrder (λ (p : Shaped). p.number) ps qs → AreJudged i b u qs all found then_found
    → TakenAreJudged i b u ps all found then_found
taken_are_judged i b u ps qs all found then_found order judged before least =
    let (seen, are, now_least) = judged before least in (
      seen,
      are.rise order.rise,
      now_least,
      λ c test taken below.
          judged_taken i c u test qs (taken_in_order c test ps qs taken order) b below all seen are,
    )
