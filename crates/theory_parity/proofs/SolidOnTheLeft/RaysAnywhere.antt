-- From any point, also from one on edges, two rays strike an odd number of edges both or an even
-- number both, but for the edges on which the point lies: such an edge counts where the wedge
-- between the rays holds one of its ends alone.

use Rattle.std.proofs.Common.{◌≡◌, refl, sym, ap, ap₂, ◌∙◌, pos, ◌<ℤ◌, Bool, true, false}
use Rattle.std.proofs.Common.{◌&&◌, int_lt, int_le, List, [], ◌∷◌}
use Rattle.std.specs.Ordering.{int_eq}
use Rattle.std.specs.List.{list_any}
use Rattle.std.proofs.lemmas.Bool.{and_parts}
use Rattle.std.proofs.lemmas.Bool.Decides.{Decides-int_eq}
use Rattle.theory_lists.specs.Parity.{differ, is_odd_number}
use Rattle.theory_lists.proofs.Parity.{differ-false, is_odd_number-differ}
use Rattle.theory_numbers.specs.Arrows.{Arrow, cross}
use Rattle.theory_numbers.proofs.SignTables.{hit_of}
use Rattle.sb_fraction.specs.declared.point.Point.{Point}
use Rattle.sb_fraction.specs.Spots.{Spot}
use Rattle.sb_fraction.specs.Edges.{Edge, edge, turn_at, reach_at, is_on}
use Rattle.theory_plans.specs.LoopEdges.{edges_of}
use Rattle.theory_plans.specs.Rays.{is_left_of, is_struck}
use Rattle.theory_parity.proofs.Rays.ClosedChains.{Telescopes, closed_chains}
use Rattle.theory_parity.proofs.Rays.AnyRay.{is_in_wedge, turns}

no_hit : (a b : Bool) → hit_of a b false false ≡ false
no_hit true true = refl
no_hit true false = refl
no_hit false true = refl
no_hit false false = refl

-- from a point of its line no ray strikes an edge
pub none_from_line : (r : Arrow) (p : Spot) (e : Edge) → turn_at e p ≡ pos 0
    → is_struck r p e ≡ false
none_from_line r p e level =
    ap (λ n. hit_of (is_left_of r p e.a) (is_left_of r p e.b) (int_lt (pos 0) n) (int_lt n (pos 0)))
    level
    ∙ no_hit (is_left_of r p e.a) (is_left_of r p e.b)

-- an edge on which the point lies lies on a line through it
pub level_on : (p : Spot) (e : Edge) → is_on p e ≡ true → turn_at e p ≡ pos 0
level_on p e on =
    (Decides-int_eq (turn_at e p) (pos 0)).0
    (and_parts (int_eq (turn_at e p) (pos 0)) (int_le (reach_at e p) (pos 0)) on).0

-- the point lies on the edge, and the wedge between the rays holds one of its ends alone
abbrev pub is_swept : Arrow → Arrow → Spot → Edge → Bool
is_swept r s p e = is_on p e && differ (is_in_wedge r s p e.a) (is_in_wedge r s p e.b)

one_edge : (r s : Arrow) (p : Spot) → pos 0 <ℤ cross r s → (a b : Point) (on : Bool)
    → is_on p (edge a b) ≡ on
    → differ (differ (is_struck r p (edge a b)) (is_struck s p (edge a b)))
    (is_swept r s p (edge a b))
    ≡ differ (is_in_wedge r s p a) (is_in_wedge r s p b)
one_edge r s p left a b true on =
    let level = level_on p (edge a b) on in
    ap₂ (λ t u. differ (differ t u) (is_swept r s p (edge a b)))
    (none_from_line r p (edge a b) level) (none_from_line s p (edge a b) level)
    ∙ ap (λ t. t && differ (is_in_wedge r s p a) (is_in_wedge r s p b)) on
one_edge r s p left a b false off =
    ap
    (λ t. differ (differ (is_struck r p (edge a b)) (is_struck s p (edge a b)))
    (t && differ (is_in_wedge r s p a) (is_in_wedge r s p b)))
    off
    ∙ differ-false (differ (is_struck r p (edge a b)) (is_struck s p (edge a b)))
    ∙ (turns r s p left).at a b off

sweeps : (r s : Arrow) (p : Spot) → pos 0 <ℤ cross r s
    → Telescopes (λ e. false) (λ e. differ (is_struck r p e) (is_struck s p e)) (is_swept r s p)
    (is_in_wedge r s p)
sweeps r s p left = record {
  at = λ a b none. one_edge r s p left a b (is_on p (edge a b)) refl;
}

none_barred : (es : List Edge) → list_any (λ e. false) es ≡ false
none_barred [] = refl
none_barred (e ∷ es) = none_barred es

-- a ray turned to the left strikes an edge more or less, by parity, for each edge that is swept
pub turned_anywhere : (r s : Arrow) (p : Spot) → pos 0 <ℤ cross r s → (loops : List (List Point))
    → differ (is_odd_number (is_struck r p) (edges_of loops))
    (is_odd_number (is_struck s p) (edges_of loops))
    ≡ is_odd_number (is_swept r s p) (edges_of loops)
turned_anywhere r s p left loops =
    sym (is_odd_number-differ (is_struck r p) (is_struck s p) (edges_of loops))
    ∙ closed_chains (sweeps r s p left) loops (none_barred (edges_of loops))
