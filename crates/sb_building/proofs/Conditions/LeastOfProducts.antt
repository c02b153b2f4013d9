-- Where it was found of each taken product which condition it has, the least of these is the first of products.
use Rattle.std.proofs.Common.{◌≡◌, ℕ, ◌<◌, List, [], ◌∷◌, Option, Some, refl, sym, ◌∙◌, subst, inl, inr, arith}
use Rattle.std.proofs.lemmas.Option.{same_Some}
use Rattle.theory_lists.specs.Members.{Stands, AllOfTwo}
use Rattle.sb_fraction.specs.declared.unit.Unit as units
use Rattle.sb_step.specs.Indexed.{Indexed}
use Rattle.sb_step.specs.Params.Parameters.{ParametersAreUnique}
use Rattle.sb_place.specs.Laws.{ChainsAreUnique}
use Rattle.sb_profile.specs.declared.defects.Code.{Code}
use Rattle.sb_profile.specs.declared.defects.Code.TheVariants as code
use Rattle.sb_profile.specs.declared.defects.Defect.{Defect}
use Rattle.sb_profile.specs.First.{IsFirst}
use Rattle.sb_profile.specs.Contents.{Contents, Says}
use Rattle.sb_profile.specs.Units.{unit_in}
use Rattle.sb_building.specs.Conditions.{HasCondition, OccursAt, product_codes}
use Rattle.sb_building.specs.Steps.Least.{rank, IsLeastOf}
use Rattle.sb_building.specs.Steps.Given.{IsGiven, AreGiven}
use Rattle.sb_building.proofs.Conditions.LeastIsFirst.{first_of_least}
use Rattle.sb_building.proofs.Conditions.OneCondition.{one_condition}

-- two that say the same have the same first
first_alike : (P Q : Code → ℕ → Type 0) (codes : List Code) (found : Option Defect)
    → ((k : Code) (n : ℕ) → P k n → Q k n) → ((k : Code) (n : ℕ) → Q k n → P k n)
    → IsFirst P codes found → IsFirst Q codes found
first_alike P Q [] found there back none = none
first_alike P Q (k ∷ codes) found there back (inl (n, (low, is))) =
    inl (
      n,
      (
        record {
          holds = there k n low.holds;
          lowest = λ m has. low.lowest m (back k m has);
        },
        is,
      ),
    )
first_alike P Q (k ∷ codes) found there back (inr (none, first)) =
    inr ((λ n has. none n (back k n has)), first_alike P Q codes found there back first)

-- the codes of products rise
codes_rise : AllOfTwo (λ j k. rank j < rank k) product_codes
codes_rise = (
  (omega arith, (omega arith, (omega arith, (omega arith, (omega arith, (omega arith, tt)))))),
  (
    (omega arith, (omega arith, (omega arith, (omega arith, (omega arith, tt))))),
    (
      (omega arith, (omega arith, (omega arith, (omega arith, tt)))),
      (
        (omega arith, (omega arith, (omega arith, tt))),
        (
          (omega arith, (omega arith, tt)),
          (
            (omega arith, tt),
            (
              tt,
              tt,
            ),
          ),
        ),
      ),
    ),
  ),
)

module _ (i : Indexed) (c : Contents) (u : units.Unit) where
  -- a condition is of one of them
  code_stands : (k : Code) (n : ℕ) → HasCondition i c u k n → Stands k product_codes
  code_stands code.Chain n has = inl refl
  code_stands code.Turned n has = inr (inl refl)
  code_stands code.Shape n has = inr (inr (inl refl))
  code_stands code.Range n has = inr (inr (inr (inl refl)))
  code_stands code.OffGrid n has = inr (inr (inr (inr (inl refl))))
  code_stands code.Loops n has = inr (inr (inr (inr (inr (inl refl)))))
  code_stands code.Layers n has = inr (inr (inr (inr (inr (inr (inl refl))))))
  code_stands code.Schema n none = absurd none
  code_stands code.Units n none = absurd none
  code_stands code.Building n none = absurd none
  code_stands code.Class n none = absurd none
  code_stands code.Fields n none = absurd none
  code_stands code.Missing n none = absurd none

  module _ (unique : ParametersAreUnique) (one_chain : ChainsAreUnique) (says : Says i c)
      (known : unit_in c ≡ Some u) (seen : List (ℕ × Code)) (given : AreGiven i c u seen) where
    there : (k : Code) (n : ℕ) → Stands (n, k) seen → OccursAt i c k n
    there k n at = let (taken, has) = given.sound n k at in (u, known, taken, has)

    back : (k : Code) (n : ℕ) → OccursAt i c k n → Stands (n, k) seen
    back k n (v, unit, taken, has) =
        by (given.each n taken)
        (subst (λ w. HasCondition i c w k n) (same_Some v u (sym unit ∙ known)) has)
      where
        by : IsGiven i c u seen n → HasCondition i c u k n → Stands (n, k) seen
        by (inl (j, at)) is =
            subst (λ l. Stands (n, l) seen)
            (one_condition unique one_chain i c says u n j k (given.sound n j at).1 is) at
        by (inr none) is = absurd (none k is)

    pub least_is_first : (found : Option Defect) → IsLeastOf seen found
        → IsFirst (OccursAt i c) product_codes found
    least_is_first found least =
        first_alike (λ k n. Stands (n, k) seen) (OccursAt i c) product_codes found there back
        (first_of_least seen product_codes found codes_rise
        (λ n k at. code_stands k n (given.sound n k at).1) least)
