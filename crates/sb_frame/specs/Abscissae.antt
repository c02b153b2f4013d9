-- The abscissae of ends and crossings, one by one.

use Rattle.std.specs.Prelude.{ℕ, ◌*◌, ◌+ℤ◌, ◌*ℤ◌, List, [], ◌∷◌, ◌++◌, map}
use Rattle.std.specs.declared.cmp.Ordering.{Ordering}
use Rattle.std.specs.Ordering.{on}
use Rattle.theory_numbers.specs.Arrows.{Arrow}
use Rattle.theory_numbers.specs.Fractions.{Ratio, whole, reduced}
use Rattle.sb_fraction.specs.Bounds.{greatest_crossing}
use Rattle.sb_fraction.specs.Crossings.{abscissa_at}
use Rattle.sb_fraction.specs.Lines.{flat}
use Rattle.sb_fraction.specs.Numbers.{number, order_of}
use Rattle.sb_fraction.specs.Plane.{longest_step}
use Rattle.sb_fraction.specs.Spots.{Spot}
use Rattle.sb_model.specs.PlanEdges.{PlanEdge}
use Rattle.sb_frame.specs.declared.abscissa.Abscissa.{Abscissa}
use Rattle.sb_frame.specs.Network.{Network}

-- the greatest size of a coordinate of a crossing times a number of a direction
abbrev pub greatest_part : ℕ
greatest_part = greatest_crossing * longest_step

abbrev pub ratios_of : List Abscissa → List Ratio
ratios_of = map (λ a. a.number)

abbrev pub order_of_abscissae : Abscissa → Abscissa → Ordering
order_of_abscissae = on (λ a. number a.number) order_of

-- the abscissa of a point in lowest terms
abbrev pub of_point : Arrow → Spot → Ratio
of_point d p = reduced ((p.x *ℤ d.x) +ℤ (p.y *ℤ d.y)) p.w

-- of both ends of each edge
abbrev pub of_edges : Arrow → List PlanEdge → List Ratio
of_edges d [] = []
of_edges d (e ∷ es) =
    whole (abscissa_at e.edge.a (flat d)) ∷ whole (abscissa_at e.edge.b (flat d)) ∷ of_edges d es

abbrev pub of_crossings : Arrow → List Spot → List Ratio
of_crossings d = map (of_point d)

-- of all ends and of all crossings
abbrev pub all_along : Arrow → Network → List Ratio
all_along d n = of_edges d n.edges ++ of_crossings d n.crossings
