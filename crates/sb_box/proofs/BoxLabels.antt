-- What lies round a box: outside it is the earth below the ground, and the open air above.
use Rattle.std.proofs.Common.{◌≡◌, refl, ap, ◌∙◌, arith, ℕ, pos, ◌*ℤ◌, ◌<ℤ◌, ◌≤ℤ◌, false, List, []}
use Rattle.std.proofs.Common.{◌∷◌}
use Rattle.std.proofs.lemmas.Int.{ints}
use Rattle.std.proofs.lemmas.Bool.{and_left}
use Rattle.sb_fraction.specs.declared.unit.Unit as unit
use Rattle.theory_numbers.proofs.Signs.{test_less, test_not_less}
use Rattle.sb_model.specs.declared.frame.Frame.{Frame}
use Rattle.sb_model.specs.declared.labels.label.Label.TheVariants as label
use Rattle.sb_model.specs.declared.products.Space.{Space}
use Rattle.sb_fraction.specs.Spots.{Spot}
use Rattle.theory_plans.specs.Inside.{is_in_plan}
use Rattle.sb_model.specs.Solids.{is_in_solid}
use Rattle.theory_models.proofs.SpacesByFields.{same_space}
use Rattle.sb_model.specs.Building.{Building, building}
use Rattle.sb_model.specs.Labels.{label_at, open_label}
use Rattle.theory_plans.specs.Rectangles.{rectangle}
use Rattle.sb_box.specs.declared.extent.Extent.{Extent}
use Rattle.sb_box.specs.BoxModel.{prism_of, prism_is_solid, IsBoxModel}

-- what a model of a box has beside the box
pub record Besides : Type 0 where
  pub unit : unit.Unit
  pub reach : ℕ
  pub global_id : List ℕ
  pub frame : Frame

-- the one space
abbrev pub box_space : Besides → ℕ → Extent → Space
box_space k n e = record {
  number = n;
  global_id = k.global_id;
  prism = prism_of e;
  frame = k.frame;
  is_solid = prism_is_solid e;
}

-- and the model
abbrev pub box_model : Besides → ℕ → Extent → Building
box_model k n e = building k.unit (pos 0) k.reach (box_space k n e ∷ []) [] [] []

-- each model of a box is one of these
abbrev pub besides_of : Building → Space → Besides
besides_of m s = record { unit = m.unit; reach = m.reach; global_id = s.global_id; frame = s.frame }

-- what a model of a box is, written out
pub is_box_model : (n : ℕ) (e : Extent) (m : Building) (is : IsBoxModel n e m)
    → m ≡ box_model (besides_of m is.space) n e
is_box_model n e m is =
    ap (λ z. building m.unit z m.reach m.spaces m.elements m.openings m.fillings)
    is.ground_height
    ∙ ap (λ spaces. building m.unit (pos 0) m.reach spaces m.elements m.openings m.fillings)
    (is.spaces ∙ ap (λ s. s ∷ []) (whole is.space is.number is.prism))
    ∙ ap (λ es. building m.unit (pos 0) m.reach
    (box_space (besides_of m is.space) n e ∷ []) es m.openings m.fillings) is.elements
    ∙ ap (λ os. building m.unit (pos 0) m.reach
    (box_space (besides_of m is.space) n e ∷ []) [] os m.fillings) is.openings
    ∙ ap (λ fs. building m.unit (pos 0) m.reach
    (box_space (besides_of m is.space) n e ∷ []) [] [] fs) is.fillings
  where
    whole : (s : Space) → s.number ≡ n → s.prism ≡ prism_of e → s ≡ box_space (besides_of m s) n e
    whole s number_is prism_is =
        same_space s (box_space (besides_of m s) n e) number_is refl prism_is refl

-- a point outside the box has the label of the open
pub label_outside : (k : Besides) (n : ℕ) (e : Extent) (q : Spot)
    → is_in_solid (prism_of e) q ≡ false
    → label_at (box_model k n e) q ≡ open_label (pos 0) q
label_outside k n e q out = rw out refl

-- beside its plan
pub beside : (e : Extent) (q : Spot) → is_in_plan (rectangle e.x0 e.x1 e.y0 e.y1 ∷ []) q ≡ false
    → is_in_solid (prism_of e) q ≡ false
beside e q out = and_left _ _ out

-- below the ground
pub below_is_earth : (q : Spot) → q.z <ℤ pos 0 → open_label (pos 0) q ≡ label.Earth
below_is_earth q under = rw (test_less q.z (pos 0 *ℤ q.w) (omega (arith, ints))) refl

-- at the ground or above
pub above_is_void : (q : Spot) → pos 0 ≤ℤ q.z → open_label (pos 0) q ≡ label.Void
above_is_void q over = rw (test_not_less q.z (pos 0 *ℤ q.w) (omega (arith, ints))) refl
