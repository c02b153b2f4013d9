-- Where what is read ends at a space, elements were passed up to it.
use Rattle.std.proofs.Common.{◌≡◌, refl, sym, ap, ap₂, ◌∙◌, ℕ, ℤ, Bool, true, false, cond, List, [], ◌∷◌}
use Rattle.std.proofs.Common.{Option, Some, None}
use Rattle.std.specs.List.{AllByRecursion}
use Rattle.sb_fraction.specs.Spots.{Vector}
use Rattle.sb_model.specs.declared.labels.label.Label.{Label}
use Rattle.sb_model.specs.declared.labels.label.Label.TheVariants as label
use Rattle.sb_model.specs.declared.products.Element.{Element}
use Rattle.sb_model.specs.declared.walk.End.TheVariants as end
use Rattle.sb_model.specs.Building.{Building}
use Rattle.sb_model.specs.Walks.{element_numbered}
use Rattle.theory_sight.specs.Bands.{items_between}
use Rattle.theory_sight.specs.Coarse.{coarse}
use Rattle.theory_sight.specs.Reading.{FarEnd, square, slanted, never, Stretch, stretch, is_passed_over}
use Rattle.theory_sight.specs.Reading.{ends_at, behind, read_element, read_stretch, read, Crossing, AllPassed}
use Rattle.theory_sight.specs.Reading.{there}

-- a crossing of the element with this number, up to this position
abbrev pub crossing : ℕ → ℤ → Crossing
crossing element to = record { element = element; to = to }

-- the labels have no layers
abbrev pub AreCoarse : List Stretch → Type 0
AreCoarse ss = AllByRecursion (λ s. coarse s.label ≡ s.label) ss

-- over these stretches elements are passed up to the space with this number
pub record PassesTo (m : Building) (n : Vector) (at : ℤ) (ss : List Stretch) (to : ℕ) : Type 0 where
  pub crossings : List Crossing
  pub far : FarEnd
  pub beyond : List Stretch
  pub stretches_are : ss ≡ there crossings (stretch (label.Space to) far ∷ beyond)
  pub passed : AllPassed m n at crossings

same_stretch : (s : Stretch) (l : Label) → s.label ≡ l → s ≡ stretch l s.far
same_stretch s l same =
    let whole : stretch s.label s.far ≡ stretch l s.far = ap (λ k. stretch k s.far) same in whole

-- ends that differ
solid_is_no_space : (k n : ℕ) → end.Solid k ≡ end.Space n → ⊥
solid_is_no_space k n same = cc

outside_is_no_space : (n : ℕ) → end.Outside ≡ end.Space n → ⊥
outside_is_no_space n same = cc

earth_is_no_space : (n : ℕ) → end.Earth ≡ end.Space n → ⊥
earth_is_no_space n same = cc

same_space : (k n : ℕ) → end.Space k ≡ end.Space n → k ≡ n
same_space k n same = cc

layer_is_none : (k layer : ℕ) → label.Element k 0 ≡ label.Element k layer → layer ≡ 0
layer_is_none k layer same = cc

module _ (m : Building) (n : Vector) (x0 : ℤ) (to : ℕ) where
  of_element : (at : ℤ) (s : Stretch) (ss : List Stretch) (k layer : ℕ)
      → s.label ≡ label.Element k layer → coarse s.label ≡ s.label
      → ((y : ℤ) → (read m n x0 y ss).end ≡ end.Space to → PassesTo m n y ss to)
      → (o : Option Element) → element_numbered m k ≡ o → (far : FarEnd) → s.far ≡ far
      → (read_element m n x0 at k o far (λ y. read m n x0 y ss)).end ≡ end.Space to
      → PassesTo m n at (s ∷ ss) to
  of_element at s ss k layer named no_layer later None found far far_is ends =
      absurd (solid_is_no_space k to ends)
  of_element at s ss k layer named no_layer later (Some e) found slanted far_is ends =
      absurd (solid_is_no_space e.number to ends)
  of_element at s ss k layer named no_layer later (Some e) found never far_is ends =
      absurd (solid_is_no_space e.number to ends)
  of_element at s ss k layer named no_layer later (Some e) found (square y) far_is ends =
      by (is_passed_over m n e at y) refl ends
    where
      plain : s.label ≡ label.Element k 0
      plain = sym no_layer ∙ ap coarse named

      joined : PassesTo m n y ss to → is_passed_over m n e at y ≡ true → PassesTo m n at (s ∷ ss) to
      joined rest passes = record {
        crossings = crossing k y ∷ rest.crossings;
        far = rest.far;
        beyond = rest.beyond;
        stretches_are =
            ap₂ (λ (t : Stretch) ts. t ∷ ts)
            (same_stretch s (label.Element k 0) plain ∙ ap (stretch (label.Element k 0)) far_is)
            rest.stretches_are;
        passed = (e, found, passes, rest.passed);
      }

      by : (t : Bool) → is_passed_over m n e at y ≡ t
          → (cond t (behind (items_between e n at y) (read m n x0 y ss))
          (ends_at x0 at (end.Solid e.number))).end
          ≡ end.Space to
          → PassesTo m n at (s ∷ ss) to
      by true passes ends = joined (later y ends) passes
      by false fails ends = absurd (solid_is_no_space e.number to ends)

  of_label : (at : ℤ) (s : Stretch) (ss : List Stretch) → coarse s.label ≡ s.label
      → ((y : ℤ) → (read m n x0 y ss).end ≡ end.Space to → PassesTo m n y ss to)
      → (l : Label) → s.label ≡ l
      → (read_stretch m n x0 at l s.far (λ y. read m n x0 y ss)).end ≡ end.Space to
      → PassesTo m n at (s ∷ ss) to
  of_label at s ss no_layer later (label.Space k) named ends = record {
    crossings = [];
    far = s.far;
    beyond = ss;
    stretches_are =
        ap (λ (t : Stretch). t ∷ ss)
        (same_stretch s (label.Space to) (named ∙ ap label.Space (same_space k to ends)));
    passed = tt;
  }
  of_label at s ss no_layer later label.Void named ends = absurd (outside_is_no_space to ends)
  of_label at s ss no_layer later label.Earth named ends = absurd (earth_is_no_space to ends)
  of_label at s ss no_layer later (label.Element k layer) named ends =
      of_element at s ss k layer named no_layer later (element_numbered m k) refl s.far refl ends

  -- where what is read ends at a space it has passed elements up to it
  pub passes_to_space : (at : ℤ) (ss : List Stretch) → AreCoarse ss
      → (read m n x0 at ss).end ≡ end.Space to → PassesTo m n at ss to
  passes_to_space at [] plain ends = absurd (outside_is_no_space to ends)
  passes_to_space at (s ∷ ss) plain ends =
      of_label at s ss plain.0 (λ y. passes_to_space y ss plain.1) s.label refl ends
