-- Edges in order just after an abscissa.

use Rattle.std.specs.Prelude.{◌≡◌, ℕ, zero, suc, false, List, [], ◌∷◌, ◌++◌, length, IsPermutation}
use Rattle.std.specs.Ordering.{is_lt}
use Rattle.theory_lists.specs.Members.{AllOfTwo}
use Rattle.theory_numbers.specs.Arrows.{Arrow}
use Rattle.sb_fraction.specs.Lines.{reaches_past}
use Rattle.sb_model.specs.PlanEdges.{PlanEdge}
use Rattle.theory_lines.specs.Slabs.{places_from, LeadsAt}
use Rattle.sb_slab.specs.Table.{Lines, order_of_two, places_of}

-- the places of the edges that reach past u, of each two that first of which the line is the lower one
-- just after u, or which has the lesser place
pub record IsSortedAt (edges : List PlanEdge) (d u : Arrow) (order : List ℕ) : Type 0 where
  pub places : IsPermutation order (places_from (λ e. reaches_past d u e.edge) 0 edges)
  pub sorted : AllOfTwo (LeadsAt edges d u) order

-- the numbers below n
abbrev pub numbers_to : ℕ → List ℕ
numbers_to zero = []
numbers_to (suc n) = numbers_to n ++ n ∷ []

-- the numbers of the edges of a table, sorted
pub record AreSorted (t : Lines) (list : List ℕ) : Type 0 where
  pub permuted : IsPermutation (numbers_to (length t.edges)) list
  pub sorted : AllOfTwo (λ i j. is_lt (order_of_two t j i) ≡ false) list

-- the places of the edges of a table, sorted
abbrev pub IsSortedTable : Lines → List ℕ → Type 0
IsSortedTable t order = (list : List ℕ) × (AreSorted t list × (order ≡ places_of t list))
