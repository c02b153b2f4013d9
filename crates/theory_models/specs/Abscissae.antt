-- The abscissae of a direction as a list.

use Rattle.std.specs.Prelude.{pos, List, [], ◌∷◌, ◌++◌, if◌then◌else◌}
use Rattle.theory_numbers.specs.Arrows.{Arrow}
use Rattle.theory_numbers.specs.Rationals.{rational}
use Rattle.sb_fraction.specs.Spots.{Vector, reading}
use Rattle.sb_fraction.specs.Edges.{Edge}
use Rattle.sb_fraction.specs.Crossings.{cross_at, meeting_of, abscissa_at}
use Rattle.sb_model.specs.Building.{Building}
use Rattle.sb_model.specs.PlanEdges.{plan_edges}

-- what is given for each item, one list after another
abbrev pub gathered : {X Y : Type 0} → (X → List Y) → List X → List Y
gathered f [] = []
gathered f (x ∷ xs) = f x ++ gathered f xs

-- the abscissae of the two ends of an edge
abbrev pub end_abscissae : Vector → Edge → List Arrow
end_abscissae d e =
    rational (abscissa_at e.a d) (pos 1) ∷ rational (abscissa_at e.b d) (pos 1) ∷ []

-- the abscissa of the crossing of two edges, where they cross
abbrev pub crossing_abscissa : Vector → Edge → Edge → List Arrow
crossing_abscissa d e f =
    if cross_at (meeting_of e f) e f then reading (meeting_of e f) d ∷ [] else []

-- the abscissae of a direction: those of all ends of plan edges and of all crossings
abbrev pub abscissae_of : Building → Vector → List Arrow
abscissae_of m d =
    gathered (λ e. end_abscissae d e.edge) (plan_edges m)
    ++ gathered (λ e. gathered (λ f. crossing_abscissa d e.edge f.edge) (plan_edges m))
    (plan_edges m)
