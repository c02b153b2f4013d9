-- Crossings along a ray: the piece of a ray from one depth to another, and a ray that crosses an
-- element between two whole positions.
use Rattle.std.specs.Prelude.{◌≡◌, ℕ, ℤ, pos, true, ◌-ℤ◌, ◌*ℤ◌, List, [], ◌∷◌, Option, Some}
use Rattle.theory_lists.specs.Members.{Stands}
use Rattle.theory_numbers.specs.Arrows.{Arrow}
use Rattle.theory_numbers.specs.Rationals.{rational}
use Rattle.theory_cuttings.specs.Cuttings.{Break, IsReducedCutting, HasLabel}
use Rattle.sb_fraction.specs.Spots.{times_w}
use Rattle.sb_model.specs.declared.labels.label.Label.{Label}
use Rattle.sb_model.specs.declared.labels.label.Label.TheVariants as label
use Rattle.sb_model.specs.declared.products.Element.{Element}
use Rattle.sb_model.specs.Building.{Building}
use Rattle.sb_model.specs.Labels.{label_at}
use Rattle.sb_model.specs.Passages.{Ray, at_depth, Passage, passage, Piece, piece}
use Rattle.sb_model.specs.Walks.{lies_along, element_numbered}
use Rattle.theory_sight.specs.Coarse.{coarse}

-- the ray's start stands at this whole position
abbrev pub StartsAt : Ray → ℤ → Type 0
StartsAt r x0 = times_w r.start r.normal ≡ x0 *ℤ r.start.w

-- where the first passage ends
abbrev pub first_end : List (Break Label) → Option Arrow → Option Arrow
first_end [] end = end
first_end (c ∷ bs) end = Some c.start

-- the passages that begin at these breaks, the last of which has this end
abbrev pub passages_to : List (Break Label) → Option Arrow → List Passage
passages_to [] end = []
passages_to (b ∷ bs) end = passage b.label b.start (first_end bs end) ∷ passages_to bs end

-- the piece from a break on, with further breaks inside, up to its end
abbrev pub piece_to : Break Label → List (Break Label) → Option Arrow → Piece
piece_to b bs end = piece (passage b.label b.start (first_end bs end)) (passages_to bs end)

-- the label at each depth of a ray
abbrev pub label_along : Building → Ray → Arrow → Label
label_along m r u = label_at m (at_depth r u)

-- a crossing of an element from one whole position to another
pub record IsCrossing (m : Building) (r : Ray) (x0 x y : ℤ) (k : ℕ) (e : Element) (b : Break Label)
    (before : List (Break Label)) : Type 0 where
  pub from : b.start ≡ rational (x -ℤ x0) (pos 1)
  pub cut : IsReducedCutting (label_along m r) (Some b.start) (Some (rational (y -ℤ x0) (pos 1)))
      b.label before
  pub coarse_is : HasLabel (λ u. coarse (label_along m r u)) (Some b.start)
      (Some (rational (y -ℤ x0) (pos 1))) (label.Element k 0)
  pub numbered : element_numbered m k ≡ Some e
  pub stands : Stands e m.elements
  pub passed : lies_along e.layering r.normal ≡ true
