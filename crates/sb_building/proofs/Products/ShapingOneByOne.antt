-- Products whose shapes were judged, and one more.
use Rattle.std.proofs.Common.{◌≡◌, ◌⊎◌, ℕ, List, [], ◌∷◌, ◌++◌, Option, Some, Ok, Err, append_assoc, refl, sym, subst, inl, inr}
use Rattle.std.proofs.lemmas.List.{append-nil}
use Rattle.theory_lists.specs.Members.{Stands}
use Rattle.theory_lists.proofs.Blocks.{stands_before, stands_behind}
use Rattle.sb_fraction.specs.declared.unit.Unit as units
use Rattle.sb_step.specs.Indexed.{Indexed}
use Rattle.sb_model.specs.Solids.{Upright}
use Rattle.sb_prism.specs.declared.error.PrismError.{PrismError}
use Rattle.sb_prism.specs.Prisms.{IsPrismOf}
use Rattle.sb_profile.specs.declared.defects.Code.{Code}
use Rattle.sb_profile.specs.declared.defects.Defect.{Defect}
use Rattle.sb_building.specs.declared.judging.standing.Standing.{Standing}
use Rattle.sb_building.specs.Steps.Least.{IsLeastOf}
use Rattle.sb_building.specs.Steps.Shaping.{code_of, FillsPrism, HasShapeFault, AreShaped, IsOneMoreShaped, ShapesAreJudged}
use Rattle.sb_building.proofs.Conditions.OneMore.{either, rises_with, first_rise}

module _ (i : Indexed) (u : units.Unit) where
  -- before any product
  pub shaped_none : (found : Option Defect) → ShapesAreJudged i u [] [] found found
  shaped_none found before least = (
    [],
    record {
      rise = λ _. tt;
      filling_are = λ s none. absurd none;
      seen_are = λ n k none. absurd none;
      each = λ s none. absurd none;
    },
    subst (λ xs. IsLeastOf xs found) (sym (append-nil before)) least,
  )

  fills_more : (ss more : List Standing) (s : Standing) → FillsPrism i u ss s → FillsPrism i u (ss ++ more) s
  fills_more ss more s fills = record {
    among = stands_before s ss more fills.among;
    prism = fills.prism;
    is = fills.is;
  }

  fault_more : (ss more : List Standing) (n : ℕ) (k : Code) → HasShapeFault i u ss n k
      → HasShapeFault i u (ss ++ more) n k
  fault_more ss more n k fault = record {
    product = fault.product;
    fault = fault.fault;
    among = stands_before fault.product ss more fault.among;
    number = fault.number;
    code = fault.code;
    is = fault.is;
  }

  module _ (ss : List Standing) (p : Standing) (all : List Standing) (seen : List (ℕ × Code))
      (are : AreShaped i u ss all seen) where
    -- it fills a prism
    with_prism : (prism : Upright) → IsPrismOf i p.shape p.frame u (Ok prism)
        → AreShaped i u (ss ++ p ∷ []) (all ++ p ∷ []) seen
    with_prism prism is = record {
      rise = λ rising.
          rises_with (λ (s : Standing). s.number) (λ (s : Standing). s.number) ss p all p rising
          (are.rise (first_rise (λ (s : Standing). s.number) ss p rising))
          (λ s at. (s, (are.filling_are s at).among, refl)) refl;
      filling_are = λ s at. of_filling s (either s p all at);
      seen_are = λ n k at. fault_more ss (p ∷ []) n k (are.seen_are n k at);
      each = λ s at. of_product s (either s p ss at);
    }
      where
        here : FillsPrism i u (ss ++ p ∷ []) p
        here = record { among = stands_behind p ss (p ∷ []) (inl refl); prism = prism; is = is }

        of_filling : (s : Standing) → Stands s all ⊎ (s ≡ p) → FillsPrism i u (ss ++ p ∷ []) s
        of_filling s (inl at) = fills_more ss (p ∷ []) s (are.filling_are s at)
        of_filling s (inr same) = subst (FillsPrism i u (ss ++ p ∷ [])) (sym same) here

        on : (s : Standing) → Stands s all ⊎ ((k : Code) × Stands (s.number, k) seen)
            → Stands s (all ++ p ∷ []) ⊎ ((k : Code) × Stands (s.number, k) seen)
        on s (inl at) = inl (stands_before s all (p ∷ []) at)
        on s (inr at) = inr at

        of_product : (s : Standing) → Stands s ss ⊎ (s ≡ p)
            → Stands s (all ++ p ∷ []) ⊎ ((k : Code) × Stands (s.number, k) seen)
        of_product s (inl at) = on s (are.each s at)
        of_product s (inr same) =
            inl (subst (λ r. Stands r (all ++ p ∷ [])) (sym same) (stands_behind p all (p ∷ []) (inl refl)))

    -- or its condition was seen
    with_fault : (e : PrismError) (k : Code) → IsPrismOf i p.shape p.frame u (Err e) → code_of e ≡ Some k
        → AreShaped i u (ss ++ p ∷ []) all (seen ++ (p.number, k) ∷ [])
    with_fault e k is code = record {
      rise = λ rising. are.rise (first_rise (λ (s : Standing). s.number) ss p rising);
      filling_are = λ s at. fills_more ss (p ∷ []) s (are.filling_are s at);
      seen_are = λ n j at. of_seen n j (either (n, j) (p.number, k) seen at);
      each = λ s at. of_product s (either s p ss at);
    }
      where
        here : HasShapeFault i u (ss ++ p ∷ []) p.number k
        here = record {
          product = p;
          fault = e;
          among = stands_behind p ss (p ∷ []) (inl refl);
          number = refl;
          code = code;
          is = is;
        }

        of_seen : (n : ℕ) (j : Code) → Stands (n, j) seen ⊎ ◌≡◌ {A = ℕ × Code} (n, j) (p.number, k)
            → HasShapeFault i u (ss ++ p ∷ []) n j
        of_seen n j (inl at) = fault_more ss (p ∷ []) n j (are.seen_are n j at)
        of_seen n j (inr same) =
            subst (λ x. HasShapeFault i u (ss ++ p ∷ []) x.0 x.1) (sym same) here

        on : (s : Standing) → Stands s all ⊎ ((j : Code) × Stands (s.number, j) seen)
            → Stands s all ⊎ ((j : Code) × Stands (s.number, j) (seen ++ (p.number, k) ∷ []))
        on s (inl at) = inl at
        on s (inr (j, at)) = inr (j, stands_before (s.number, j) seen ((p.number, k) ∷ []) at)

        of_product : (s : Standing) → Stands s ss ⊎ (s ≡ p)
            → Stands s all ⊎ ((j : Code) × Stands (s.number, j) (seen ++ (p.number, k) ∷ []))
        of_product s (inl at) = on s (are.each s at)
        of_product s (inr same) =
            inr (
              k,
              subst (λ r. Stands (r.number, k) (seen ++ (p.number, k) ∷ [])) (sym same)
                  (stands_behind (p.number, k) seen ((p.number, k) ∷ []) (inl refl)),
            )

  pub shaped_more : (ss : List Standing) (p : Standing) (old new : List Standing)
      (start found then_found : Option Defect) → ShapesAreJudged i u ss old start found
      → IsOneMoreShaped i u p old new found then_found
      → ShapesAreJudged i u (ss ++ p ∷ []) new start then_found
  shaped_more ss p old new start found then_found judged (inl (prism, is, now, same)) before least =
      let (seen, are, now_least) = judged before least in (
        seen,
        subst (λ all. AreShaped i u (ss ++ p ∷ []) all seen) (sym now) (with_prism ss p old seen are prism is),
        subst (IsLeastOf (before ++ seen)) (sym same) now_least,
      )
  shaped_more ss p old new start found then_found judged (inr (e, k, is, code, now, more)) before least =
      let (seen, are, now_least) = judged before least in (
        seen ++ (p.number, k) ∷ [],
        subst (λ all. AreShaped i u (ss ++ p ∷ []) all (seen ++ (p.number, k) ∷ [])) (sym now)
            (with_fault ss p old seen are e k is code),
        subst (λ xs. IsLeastOf xs then_found) (append_assoc before seen ((p.number, k) ∷ []))
            (more (before ++ seen) now_least),
      )
