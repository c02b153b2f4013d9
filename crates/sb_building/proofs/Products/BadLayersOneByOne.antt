-- Elements whose layers are at fault, and one more.
use Rattle.std.proofs.Common.{◌≡◌, ℕ, List, [], ◌∷◌, ◌++◌, Option, Some, None, is_none, append_assoc, sym, ap, ◌∙◌, subst}
use Rattle.std.proofs.lemmas.List.{append-nil}
use Rattle.sb_fraction.specs.declared.unit.Unit as units
use Rattle.sb_step.specs.Indexed.{Indexed}
use Rattle.sb_profile.specs.declared.defects.Code.{Code}
use Rattle.sb_profile.specs.declared.defects.Defect.{Defect}
use Rattle.sb_profile.specs.Contents.{Contents, Says}
use Rattle.sb_building.specs.declared.made.Made.{Made}
use Rattle.sb_building.specs.declared.judging.standing.Standing.{Standing}
use Rattle.sb_building.specs.Layerings.{has_bad_layers, IsMadeOf}
use Rattle.sb_building.specs.Steps.Least.{IsLeastOf}
use Rattle.sb_building.specs.Steps.Layers.{bad_if, bad_among, LayersAreJudged}

module _ (c : Contents) (u : units.Unit) (instance : ℕ → Option ℕ) where
  bad_more : (ss : List Standing) (s : Standing)
      → bad_among c u instance (ss ++ s ∷ [])
      ≡ bad_among c u instance ss ++ bad_if (has_bad_layers c u (instance s.number)) s.number
  bad_more [] s = append-nil (bad_if (has_bad_layers c u (instance s.number)) s.number)
  bad_more (t ∷ ss) s =
      ap (λ xs. bad_if (has_bad_layers c u (instance t.number)) t.number ++ xs) (bad_more ss s)
      ∙ sym (append_assoc (bad_if (has_bad_layers c u (instance t.number)) t.number) (bad_among c u instance ss)
      (bad_if (has_bad_layers c u (instance s.number)) s.number))

module _ (i : Indexed) (u : units.Unit) (instance : ℕ → Option ℕ) where
  -- before any element
  pub layers_judged_none : (found : Option Defect) → LayersAreJudged i u instance [] found found
  layers_judged_none found c says before least =
      subst (λ xs. IsLeastOf xs found) (sym (append-nil before)) least

  -- one element more
  pub layers_judged_more : (ss : List Standing) (s : Standing) (m : Option ℕ) (start found then_found : Option Defect)
      → LayersAreJudged i u instance ss start found → m ≡ instance s.number
      → ((c : Contents) → Says i c → (before : List (ℕ × Code)) → IsLeastOf before found
      → IsLeastOf (before ++ bad_if (has_bad_layers c u m) s.number) then_found)
      → LayersAreJudged i u instance (ss ++ s ∷ []) start then_found
  layers_judged_more ss s m start found then_found judged is more c says before least =
      subst (λ xs. IsLeastOf xs then_found)
      (append_assoc before (bad_among c u instance ss) (bad_if (has_bad_layers c u (instance s.number)) s.number)
      ∙ ap (λ xs. before ++ xs) (sym (bad_more c u instance ss s)))
      (subst (λ k. IsLeastOf ((before ++ bad_among c u instance ss) ++ bad_if (has_bad_layers c u k) s.number)
      then_found) is
      (more c says (before ++ bad_among c u instance ss) (judged c says before least)))

-- what is known of a material instance tells whether it can be read
pub made_tells : (c : Contents) (u : units.Unit) (m : Option ℕ) (what : Option Made) → IsMadeOf c u m what
    → is_none what ≡ has_bad_layers c u m
made_tells c u m None bad = sym bad
made_tells c u m (Some what) (good, gives) = sym good
