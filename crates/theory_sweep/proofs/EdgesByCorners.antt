-- The edges of loops are those that come to their corners, and those that go on from there.

use Rattle.std.proofs.Common.{◌≡◌, refl, ap, ap₂, ◌∙◌, inl, inr, true}
use Rattle.std.proofs.Common.{List, [], ◌∷◌, ◌++◌, map}
use Rattle.std.specs.List.{list_all, AllByRecursion}
use Rattle.std.proofs.lemmas.Bool.{and_parts, false≢true}
use Rattle.std.proofs.lemmas.List.{map-append}
use Rattle.theory_lists.specs.Members.{Stands}
use Rattle.theory_lists.proofs.Members.{all_stands}
use Rattle.theory_lists.proofs.Blocks.{stands_before, stands_behind, all-append}
use Rattle.sb_fraction.specs.declared.point.Point.{Point}
use Rattle.sb_fraction.specs.Edges.{Edge, edge}
use Rattle.theory_plans.specs.LoopEdges.{edges_back, edges_of_loop, edges_of}
use Rattle.theory_plans.specs.Loops.{is_bent, are_bent, is_bent_loop}
use Rattle.theory_plans.specs.Plans.{corners_in}
use Rattle.theory_loops.specs.Normal.{last_of}
use Rattle.theory_sweep.specs.Corners.{Corner, corner_at, corners_on, corners_of_loop, corners_of}

-- ---- the points

at_of : Corner → Point
at_of c = c.at

points_on : (before a : Point) (points : List Point) (first : Point)
    → map (λ c. c.at) (corners_on before a points first) ≡ a ∷ points
points_on before a [] first = refl
points_on before a (b ∷ points) first = ap (λ t. a ∷ t) (points_on a b points first)

points_of_loop : (points : List Point) → map (λ c. c.at) (corners_of_loop points) ≡ points
points_of_loop [] = refl
points_of_loop (a ∷ points) = points_on (last_of a points) a points a

-- the corners are at the points, in their order
pub corners-at : (loops : List (List Point)) → map (λ c. c.at) (corners_of loops) ≡ corners_in loops
corners-at [] = refl
corners-at (points ∷ loops) =
    map-append (λ c. c.at) (corners_of_loop points) (corners_of loops)
    ∙ ap₂ (λ s t. s ++ t) (points_of_loop points) (corners-at loops)

-- ---- the edges at a corner

-- both edges at the corner are of these
pub record HasEdges (es : List Edge) (c : Corner) : Type 0 where
  pub comes : Stands (edge c.before c.at) es
  pub goes : Stands (edge c.at c.after) es

edges_on : (es : List Edge) (before a : Point) (points : List Point) (first : Point)
    → Stands (edge before a) es → ((e : Edge) → Stands e (edges_back a points first) → Stands e es)
    → AllByRecursion (HasEdges es) (corners_on before a points first)
edges_on es before a [] first comes there =
    (record { comes = comes; goes = there (edge a first) (inl refl) }, tt)
edges_on es before a (b ∷ points) first comes there = (
  record { comes = comes; goes = there (edge a b) (inl refl) },
  edges_on es a b points first (there (edge a b) (inl refl)) (λ e at. there e (inr at)),
)

last_edge : (a : Point) (points : List Point) (first : Point)
    → Stands (edge (last_of a points) first) (edges_back a points first)
last_edge a [] first = inl refl
last_edge a (b ∷ points) first = inr (last_edge b points first)

loop_has : (es : List Edge) (points : List Point)
    → ((e : Edge) → Stands e (edges_of_loop points) → Stands e es)
    → AllByRecursion (HasEdges es) (corners_of_loop points)
loop_has es [] there = tt
loop_has es (a ∷ points) there =
    edges_on es (last_of a points) a points a
    (there (edge (last_of a points) a) (last_edge a points a)) there

loops_have : (es : List Edge) (loops : List (List Point))
    → ((e : Edge) → Stands e (edges_of loops) → Stands e es)
    → AllByRecursion (HasEdges es) (corners_of loops)
loops_have es [] there = tt
loops_have es (points ∷ loops) there =
    all-append (HasEdges es) (corners_of_loop points) (corners_of loops)
    (loop_has es points (λ e at. there e (stands_before e (edges_of_loop points)
    (edges_of loops) at)))
    (loops_have es loops
    (λ e at. there e (stands_behind e (edges_of_loop points) (edges_of loops) at)))

-- of each corner
pub corner_has : (loops : List (List Point)) (c : Corner) → Stands c (corners_of loops)
    → HasEdges (edges_of loops) c
corner_has loops c c_in =
    all_stands (HasEdges (edges_of loops)) c (corners_of loops)
    (loops_have (edges_of loops) loops (λ e at. at)) c_in

-- ---- the corners of an edge

-- one of the corners is where the edge begins, and goes on by it
pub record HasStart (cs : List Corner) (e : Edge) : Type 0 where
  pub corner : Corner
  pub stands : Stands corner cs
  pub at : corner.at ≡ e.a
  pub after : corner.after ≡ e.b

-- one is where it ends, and comes by it
pub record HasFinish (cs : List Corner) (e : Edge) : Type 0 where
  pub corner : Corner
  pub stands : Stands corner cs
  pub at : corner.at ≡ e.b
  pub before : corner.before ≡ e.a

starts_on : (cs : List Corner) (before a : Point) (points : List Point) (first : Point)
    → ((c : Corner) → Stands c (corners_on before a points first) → Stands c cs)
    → AllByRecursion (HasStart cs) (edges_back a points first)
starts_on cs before a [] first there = (
  record {
    corner = corner_at before a first;
    stands = there (corner_at before a first) (inl refl);
    at = refl;
    after = refl;
  },
  tt,
)
starts_on cs before a (b ∷ points) first there = (
  record {
    corner = corner_at before a b;
    stands = there (corner_at before a b) (inl refl);
    at = refl;
    after = refl;
  },
  starts_on cs a b points first (λ c at. there c (inr at)),
)

-- the corner at which a way begins
first_corner : (cs : List Corner) (before a : Point) (points : List Point) (first : Point)
    → ((c : Corner) → Stands c (corners_on before a points first) → Stands c cs)
    → HasFinish cs (edge before a)
first_corner cs before a [] first there = record {
  corner = corner_at before a first;
  stands = there (corner_at before a first) (inl refl);
  at = refl;
  before = refl;
}
first_corner cs before a (b ∷ points) first there = record {
  corner = corner_at before a b;
  stands = there (corner_at before a b) (inl refl);
  at = refl;
  before = refl;
}

finishes_on : (cs : List Corner) (before a : Point) (points : List Point) (first : Point)
    → ((c : Corner) → Stands c (corners_on before a points first) → Stands c cs)
    → HasFinish cs (edge (last_of a points) first)
    → AllByRecursion (HasFinish cs) (edges_back a points first)
finishes_on cs before a [] first there closes = (closes, tt)
finishes_on cs before a (b ∷ points) first there closes = (
  first_corner cs a b points first (λ c at. there c (inr at)),
  finishes_on cs a b points first (λ c at. there c (inr at)) closes,
)

loop_starts : (cs : List Corner) (points : List Point)
    → ((c : Corner) → Stands c (corners_of_loop points) → Stands c cs)
    → AllByRecursion (HasStart cs) (edges_of_loop points)
loop_starts cs [] there = tt
loop_starts cs (a ∷ points) there = starts_on cs (last_of a points) a points a there

loop_finishes : (cs : List Corner) (points : List Point)
    → ((c : Corner) → Stands c (corners_of_loop points) → Stands c cs)
    → AllByRecursion (HasFinish cs) (edges_of_loop points)
loop_finishes cs [] there = tt
loop_finishes cs (a ∷ points) there =
    finishes_on cs (last_of a points) a points a there
    (first_corner cs (last_of a points) a points a there)

loops_by : (P : List Corner → Edge → Type 0)
    → ((cs : List Corner) (points : List Point)
    → ((c : Corner) → Stands c (corners_of_loop points) → Stands c cs)
    → AllByRecursion (P cs) (edges_of_loop points))
    → (cs : List Corner) (loops : List (List Point))
    → ((c : Corner) → Stands c (corners_of loops) → Stands c cs)
    → AllByRecursion (P cs) (edges_of loops)
loops_by P each cs [] there = tt
loops_by P each cs (points ∷ loops) there =
    all-append (P cs) (edges_of_loop points) (edges_of loops)
    (each cs points
    (λ c at. there c (stands_before c (corners_of_loop points) (corners_of loops) at)))
    (loops_by P each cs loops
    (λ c at. there c (stands_behind c (corners_of_loop points) (corners_of loops) at)))

-- each edge has one where it begins
pub edge_starts : (loops : List (List Point)) (e : Edge) → Stands e (edges_of loops)
    → HasStart (corners_of loops) e
edge_starts loops e e_in =
    all_stands (HasStart (corners_of loops)) e (edges_of loops)
    (loops_by HasStart loop_starts (corners_of loops) loops (λ c at. at)) e_in

-- and one where it ends
pub edge_finishes : (loops : List (List Point)) (e : Edge) → Stands e (edges_of loops)
    → HasFinish (corners_of loops) e
edge_finishes loops e e_in =
    all_stands (HasFinish (corners_of loops)) e (edges_of loops)
    (loops_by HasFinish loop_finishes (corners_of loops) loops (λ c at. at)) e_in

-- ---- bent corners

-- the way over the corner is bent
abbrev pub IsBentAt : Corner → Type 0
IsBentAt c = is_bent c.before c.at c.after ≡ true

bent_on : (a b : Point) (points : List Point) (first second : Point)
    → are_bent a b points first second ≡ true
    → AllByRecursion IsBentAt (corners_on a b points first)
    × (is_bent (last_of b points) first second ≡ true)
bent_on a b [] first second bent =
    let parts = and_parts (is_bent a b first) (is_bent b first second) bent in
    ((parts.0, tt), parts.1)
bent_on a b (c ∷ cs) first second bent =
    let parts = and_parts (is_bent a b c) (are_bent b c cs first second) bent in
    let rest = bent_on b c cs first second parts.1 in
    ((parts.0, rest.0), rest.1)

loop_is_bent : (points : List Point) → is_bent_loop points ≡ true
    → AllByRecursion IsBentAt (corners_of_loop points)
loop_is_bent [] bent = tt
loop_is_bent (a ∷ []) bent = absurd (false≢true bent)
loop_is_bent (a ∷ b ∷ rest) bent =
    let parts = bent_on a b rest a b bent in (parts.1, parts.0)

-- of bent loops
pub corners_are_bent : (loops : List (List Point)) → list_all is_bent_loop loops ≡ true
    → AllByRecursion IsBentAt (corners_of loops)
corners_are_bent [] bent = tt
corners_are_bent (points ∷ loops) bent =
    let parts = and_parts (is_bent_loop points) (list_all is_bent_loop loops) bent in
    all-append IsBentAt (corners_of_loop points) (corners_of loops) (loop_is_bent points parts.0)
    (corners_are_bent loops parts.1)
