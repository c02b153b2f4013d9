-- Opened points: openings go through all that the walk crosses. The key of an opened point.

use Rattle.std.specs.Prelude.{◌≡◌, ◌↔◌, ℕ, List, [], ◌∷◌, ◌++◌, Option, Some, None, IsTrue}
use Rattle.std.specs.List.{AllByRecursion}
use Rattle.theory_numbers.specs.Arrows.{Arrow}
use Rattle.theory_numbers.specs.Rationals.{IsRational, IsBelow}
use Rattle.theory_cuttings.specs.Cuttings.{Break}
use Rattle.sb_model.specs.declared.labels.label.Label.{Label}
use Rattle.sb_model.specs.declared.labels.label.Label.TheVariants as label
use Rattle.sb_model.specs.declared.products.Filling.{Filling}
use Rattle.sb_model.specs.declared.products.Opening.{Opening}
use Rattle.sb_model.specs.declared.walk.End.{End}
use Rattle.sb_model.specs.declared.walk.End.TheVariants as end
use Rattle.sb_fraction.specs.Spots.{Spot}
use Rattle.sb_model.specs.Solids.{is_in_solid}
use Rattle.sb_model.specs.Building.{Building, has_number}
use Rattle.sb_model.specs.Labels.{lowest}
use Rattle.sb_model.specs.Surfaces.Faces.{Surface}
use Rattle.sb_model.specs.Passages.{Ray, ray_from, at_depth, ArePassages, passages_of, Piece}
use Rattle.sb_model.specs.Passages.{pieces_of, start_of, end_of}
use Rattle.sb_model.specs.Walks.{Course, Goes, stop_at}
use Rattle.theory_lists.specs.Members.{Stands}

-- a crossing of an element in a walk, between two depths
pub record Crossing : Type 0 where
  pub element : ℕ
  pub from : Arrow
  pub to : Arrow

-- the crossing that a piece of an element is
abbrev pub crossing_of : Label → Arrow → Option Arrow → List Crossing
crossing_of (label.Element e layer) from (Some to) =
    record { element = e; from = from; to = to } ∷ []
crossing_of _ from to = []

abbrev pub crossings_before : Option End → Piece → List Crossing → List Crossing
crossings_before (Some found) c rest = []
crossings_before None c rest = crossing_of c.first.label (start_of c) (end_of c) ++ rest

-- the crossings of a walk through these pieces, up to its end
abbrev pub crossings_of : Building → Ray → List Piece → List Crossing
crossings_of m r [] = []
crossings_of m r (c ∷ cs) = crossings_before (stop_at m r c) c (crossings_of m r cs)

abbrev pub crossings_in : Building → Ray → List (Break Label) → List Crossing
crossings_in m r breaks = crossings_of m r (pieces_of (passages_of breaks))

-- the opening is one of the crossing's element and contains all points of the ray at rational
-- depths strictly inside the crossing
pub record GoesThrough (m : Building) (r : Ray) (c : Crossing) (o : Opening) : Type 0 where
  pub there : Stands o m.openings
  pub own : o.element ≡ c.element
  pub contains : (depth : Arrow) → IsRational depth → IsBelow c.from depth → IsBelow depth c.to
      → IsTrue (is_in_solid o.prism (at_depth r depth))

-- the end is no solid
abbrev pub IsNoSolid : End → Type 0
IsNoSolid (end.Solid e) = ⊥
IsNoSolid _ = Unit {0}

-- a point is opened: its walk has items, its end is no solid, and through each crossing goes one
-- opening
pub record IsOpened (m : Building) (f : Surface) (p : Spot) : Type 0 where
  pub breaks : List (Break Label)
  pub passages : ArePassages m (ray_from p f.normal) breaks
  pub walk : Course
  pub goes : Goes m (ray_from p f.normal) (pieces_of (passages_of breaks)) walk
  pub has_items : walk.items ≡ [] → ⊥
  pub no_solid : IsNoSolid walk.end
  pub opened : AllByRecursion (λ c. (o : Opening) × GoesThrough m (ray_from p f.normal) c o)
      (crossings_in m (ray_from p f.normal) breaks)

-- the openings that go through at least one of these crossings of their own element
abbrev pub ArePointsOpenings : Building → Ray → List Crossing → List Opening → Type 0
ArePointsOpenings m r crossings openings =
    (o : Opening)
    → Stands o openings ↔ ((c : Crossing) × (Stands c crossings × GoesThrough m r c o))

abbrev pub number_of_filling : Option Filling → Option ℕ
number_of_filling None = None
number_of_filling (Some f) = Some f.number

abbrev pub number_of_opening : Option Opening → Option ℕ
number_of_opening None = None
number_of_opening (Some o) = Some o.number

abbrev pub first_there : Option ℕ → Option ℕ → Option ℕ
first_there None other = other
first_there (Some n) other = Some n

-- the key of openings: the lowest-numbered filling of all of them; where they have no filling, the
-- lowest-numbered opening
abbrev pub key_of : List Opening → List Filling → Option ℕ
key_of openings fillings =
    first_there
    (number_of_filling (lowest (λ f. f.number)
    (λ f. has_number (λ o. o.number) openings f.opening) fillings))
    (number_of_opening (lowest (λ o. o.number)
    (λ o. has_number (λ q. q.number) openings o.number) openings))

-- the key of an opened point
pub record IsKey (m : Building) (f : Surface) (p : Spot) (key : ℕ) : Type 0 where
  pub breaks : List (Break Label)
  pub passages : ArePassages m (ray_from p f.normal) breaks
  pub openings : List Opening
  pub are : ArePointsOpenings m (ray_from p f.normal)
      (crossings_in m (ray_from p f.normal) breaks) openings
  pub key_is : key_of openings m.fillings ≡ Some key
