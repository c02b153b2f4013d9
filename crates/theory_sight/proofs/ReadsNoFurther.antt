-- Where a walk ends within some stretches, those behind them are not looked at.
use Rattle.std.proofs.Common.{◌≡◌, refl, ap, ℕ, ℤ, Bool, true, false, cond, List, [], ◌∷◌, ◌++◌}
use Rattle.std.proofs.Common.{Option, Some, None}
use Rattle.std.proofs.lemmas.Bool.{false≢true}
use Rattle.sb_fraction.specs.Spots.{Vector}
use Rattle.sb_model.specs.declared.labels.label.Label.{Label}
use Rattle.sb_model.specs.declared.labels.label.Label.TheVariants as label
use Rattle.sb_model.specs.declared.products.Element.{Element}
use Rattle.sb_model.specs.declared.walk.End.TheVariants as end
use Rattle.sb_model.specs.Building.{Building}
use Rattle.sb_model.specs.Walks.{Course, element_numbered}
use Rattle.theory_sight.specs.Bands.{items_between}
use Rattle.theory_sight.specs.Reading.{FarEnd, square, slanted, never, Stretch, is_passed_over, ends_at}
use Rattle.theory_sight.specs.Reading.{behind, read_element, read_stretch, read, ends_in}
use Rattle.theory_sight.specs.Reading.{ends_in_element, ends_in_stretch}

module _ (m : Building) (n : Vector) (x0 : ℤ) where
  by_element : (at : ℤ) (k : ℕ) (o : Option Element) (far : FarEnd) (goes_on goes_further : ℤ → Course)
      (ends : ℤ → Bool) → ((y : ℤ) → ends y ≡ true → goes_further y ≡ goes_on y)
      → ends_in_element m n at o far ends ≡ true
      → read_element m n x0 at k o far goes_further ≡ read_element m n x0 at k o far goes_on
  by_element at k None far goes_on goes_further ends later ended = refl
  by_element at k (Some e) slanted goes_on goes_further ends later ended = refl
  by_element at k (Some e) never goes_on goes_further ends later ended = refl
  by_element at k (Some e) (square y) goes_on goes_further ends later ended =
      by (is_passed_over m n e at y) ended
    where
      by : (t : Bool) → cond t (ends y) true ≡ true
          → cond t (behind (items_between e n at y) (goes_further y))
          (ends_at x0 at (end.Solid e.number))
          ≡ cond t (behind (items_between e n at y) (goes_on y)) (ends_at x0 at (end.Solid e.number))
      by true ended = ap (behind (items_between e n at y)) (later y ended)
      by false ended = refl

  by_stretch : (at : ℤ) (l : Label) (far : FarEnd) (goes_on goes_further : ℤ → Course)
      (ends : ℤ → Bool) → ((y : ℤ) → ends y ≡ true → goes_further y ≡ goes_on y)
      → ends_in_stretch m n at l far ends ≡ true
      → read_stretch m n x0 at l far goes_further ≡ read_stretch m n x0 at l far goes_on
  by_stretch at (label.Space k) far goes_on goes_further ends later ended = refl
  by_stretch at label.Earth far goes_on goes_further ends later ended = refl
  by_stretch at label.Void far goes_on goes_further ends later ended = refl
  by_stretch at (label.Element k layer) far goes_on goes_further ends later ended =
      by_element at k (element_numbered m k) far goes_on goes_further ends later ended

  -- the walk is that of the stretches in which it ends
  pub reads_no_further : (at : ℤ) (ss more : List Stretch) → ends_in m n at ss ≡ true
      → read m n x0 at (ss ++ more) ≡ read m n x0 at ss
  reads_no_further at [] more ended = absurd (false≢true ended)
  reads_no_further at (s ∷ ss) more ended =
      by_stretch at s.label s.far (λ y. read m n x0 y ss) (λ y. read m n x0 y (ss ++ more))
      (λ y. ends_in m n y ss) (λ y. reads_no_further y ss more) ended
