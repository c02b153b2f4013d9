-- Passages: the ray from a point, cut into pieces of one label.

use Rattle.std.specs.Prelude.{◌==◌, Bool, false, if◌then◌else◌, List, [], ◌∷◌, Option, Some, None}
use Rattle.theory_numbers.specs.Arrows.{Arrow}
use Rattle.theory_cuttings.specs.Cuttings.{Break}
use Rattle.theory_cuttings.specs.Passages as cut
use Rattle.sb_model.specs.declared.labels.label.Label.{Label}
use Rattle.sb_model.specs.declared.labels.label.Label.TheVariants as label
use Rattle.sb_fraction.specs.Spots.{Spot, Vector, along}
use Rattle.sb_model.specs.Building.{Building}
use Rattle.sb_model.specs.Labels.{label_at}

-- a ray: it runs from a point along a normal
pub record Ray : Type 0 where
  pub start : Spot
  pub normal : Vector

abbrev pub ray_from : Spot → Vector → Ray
ray_from p n = record { start = p; normal = n }

-- the point of the ray at this depth
abbrev pub at_depth : Ray → Arrow → Spot
at_depth r depth = along r.start r.normal depth

-- the passages of a ray: breaks 0 = t0 < t1 < .. with labels, such that all rational depths
-- strictly between two neighbouring breaks have the one label between them, all depths after the
-- last break have the last label, and neighbouring labels differ
abbrev pub ArePassages : Building → Ray → List (Break Label) → Type 0
ArePassages m r breaks = cut.ArePassages (λ depth. label_at m (at_depth r depth)) breaks

-- a passage with both its ends; the last one has none
pub record Passage : Type 0 where
  pub label : Label
  pub from : Arrow
  pub to : Option Arrow

abbrev pub passage : Label → Arrow → Option Arrow → Passage
passage l from to = record { label = l; from = from; to = to }

-- each break as a passage that ends where the next one starts
abbrev pub passages_of : List (Break Label) → List Passage
passages_of [] = []
passages_of (b ∷ []) = passage b.label b.start None ∷ []
passages_of (b ∷ c ∷ bs) = passage b.label b.start (Some c.start) ∷ passages_of (c ∷ bs)

-- both are passages of one element, of the same layer or of different ones
abbrev pub are_of_one_element : Label → Label → Bool
are_of_one_element (label.Element e i) (label.Element f j) = e == f
are_of_one_element (label.Element e i) _ = false
are_of_one_element (label.Space n) _ = false
are_of_one_element label.Earth _ = false
are_of_one_element label.Void _ = false

-- one passage, or consecutive passages of one element: a crossing
pub record Piece : Type 0 where
  pub first : Passage
  pub more : List Passage

abbrev pub piece : Passage → List Passage → Piece
piece first more = record { first = first; more = more }

-- a passage before pieces: it begins the first piece where both are of one element
abbrev pub before_pieces : Passage → List Piece → List Piece
before_pieces q [] = piece q [] ∷ []
before_pieces q (c ∷ cs) =
    if are_of_one_element q.label c.first.label
    then piece q (c.first ∷ c.more) ∷ cs
    else piece q [] ∷ c ∷ cs

-- passages with consecutive ones of one element as one crossing
abbrev pub pieces_of : List Passage → List Piece
pieces_of [] = []
pieces_of (q ∷ qs) = before_pieces q (pieces_of qs)

abbrev pub last_end : Option Arrow → List Passage → Option Arrow
last_end to [] = to
last_end to (q ∷ qs) = last_end q.to qs

-- where a piece begins
abbrev pub start_of : Piece → Arrow
start_of c = c.first.from

-- where it ends; the last piece of a ray has no end
abbrev pub end_of : Piece → Option Arrow
end_of c = last_end c.first.to c.more
