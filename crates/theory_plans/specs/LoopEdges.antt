-- The edges of the closed loops of a plan.

use Rattle.std.specs.Prelude.{ℕ, ◌+◌, nat_lt, List, [], ◌∷◌, ◌++◌, if◌then◌else◌}
use Rattle.sb_fraction.specs.declared.point.Point.{Point}
use Rattle.sb_fraction.specs.Edges.{Edge, edge}

-- the edges from a on over the further points, and back to the first
abbrev pub edges_back : Point → List Point → Point → List Edge
edges_back a [] first = edge a first ∷ []
edges_back a (b ∷ points) first = edge a b ∷ edges_back b points first

-- the edges of a closed loop: edge k runs from point k to the next, the last one to point 0
abbrev pub edges_of_loop : List Point → List Edge
edges_of_loop [] = []
edges_of_loop (a ∷ points) = edges_back a points a

-- the place after k in a closed loop of so many points
abbrev pub next_in_loop : ℕ → ℕ → ℕ
next_in_loop k len = if nat_lt (k + 1) len then k + 1 else 0

-- the edges of a plan, loop after loop
abbrev pub edges_of : List (List Point) → List Edge
edges_of [] = []
edges_of (points ∷ loops) = edges_of_loop points ++ edges_of loops
