-- What is made for a face of a space in a gap is its cell there: a fine cell, all of it in the face, with
-- the walk of its plain points.

use Rattle.std.proofs.Common.{◌≡◌, refl, sym, ap, ◌∙◌, subst, arith, ℕ, ℤ, pos, ◌*ℤ◌, true, ◌&&◌, ◌==◌}
use Rattle.std.proofs.Common.{List, ◌∷◌, Some, IsTrue}
use Rattle.std.specs.Ordering.{int_eq, int_cmp}
use Rattle.std.proofs.lemmas.Int.{ints}
use Rattle.std.proofs.lemmas.Bool.{and_from, and_parts, false_from_ne_true, eq-eqb}
use Rattle.theory_lists.specs.Members.{Stands}
use Rattle.theory_lists.proofs.Members.{any_stands}
use Rattle.theory_numbers.specs.Arrows.{Arrow, cross}
use Rattle.theory_numbers.specs.Rationals.{IsRational, IsBelow, IsSame, is_below}
use Rattle.theory_numbers.proofs.Vectors.Arrows.{cross-turn}
use Rattle.theory_numbers.proofs.Fractions.Rationals.{at_most_below_trans, below_at_most_trans}
use Rattle.theory_numbers.proofs.Signs.{less_from}
use Rattle.theory_plane.specs.Points.{FacePoint, IsFacePoint, abscissa_of, ordinate_of, is_on_side, is_above_side, is_under_side}
use Rattle.theory_plane.specs.Regions.{Region, is_inside, is_spanned}
use Rattle.theory_plane.specs.Sides.{IsLineSide, value_on}
use Rattle.theory_plane.proofs.Clearance.{value_on-IsRational}
use Rattle.theory_plane.proofs.Points.{above_is, under_is, on_is}
use Rattle.sb_fraction.specs.Directions.{axis_x}
use Rattle.sb_fraction.specs.Lines.{arrow_along, flat, in_frame, line_over}
use Rattle.sb_fraction.specs.Numbers.{number}
use Rattle.sb_fraction.specs.Spots.{Spot, IsSpot, spot}
use Rattle.theory_plans.specs.Inside.{is_in_plan}
use Rattle.sb_model.specs.declared.boundary.Cell.{Cell}
use Rattle.sb_model.specs.declared.faces.face.Side.TheVariants.{OnLine}
use Rattle.sb_model.specs.declared.products.Space.{Space}
use Rattle.sb_model.specs.Building.{Building, is_building}
use Rattle.sb_model.specs.Surfaces.Faces.{surface_of, bottom_of, top_of, on_face, is_in_plane, is_of_face, space_numbered}
use Rattle.sb_model.specs.Surfaces.FineCells.{AreNeighbours, IsLineOf, IsLevelPiece, IsPieceOf}
use Rattle.sb_model.specs.Surfaces.Patches.{region_of, is_in_patch}
use Rattle.sb_model.specs.PlanEdges.{PlanEdge, plan_edges, is_abscissa}
use Rattle.sb_model.specs.Surfaces.Sides.{line_of, region_between}
use Rattle.theory_faces.proofs.JoinedCells.{bottom_height, top_height}
use Rattle.theory_faces.proofs.Points.PlainOffSides.{plan_point, frame_point, level_point}
use Rattle.theory_faces.proofs.Slabs.CellsRise.{value_of_line}
use Rattle.theory_parity.specs.Below.{abscissa_in, value_of}
use Rattle.theory_lines.specs.Slabs.{IsSlab, IsSlabOrder}
use Rattle.theory_gaps.specs.Borders.{ground_along}
use Rattle.theory_gaps.specs.Gaps.{edges_at, edges_before, is_present, IsStrictlyIn, IsGapOf}
use Rattle.theory_gaps.proofs.RowsOfSlabs.{spanning_stands}
use Rattle.sb_frame.specs.Directions.{along_x}
use Rattle.sb_frame.specs.Rising.{IsRisingOf}
use Rattle.sb_frame.specs.declared.slab.Slab.{Slab}
use Rattle.sb_walk.specs.declared.strip.Strip.{Strip}
use Rattle.sb_walk.specs.declared.way.Way.{Way}
use Rattle.sb_walk.specs.declared.way.Way.TheVariants as way
use Rattle.sb_walk.specs.Behind.{ends_of}
use Rattle.sb_walk.specs.CellsOfGaps.{IsCellIn, AreForEach}
use Rattle.sb_walk.specs.GapsBetween.{IsBetween}
use Rattle.sb_walk.specs.Overlaps.{IsSlabOf}
use Rattle.sb_walk.specs.Present.{ArePresent}
use Rattle.sb_walk.specs.Strips.{HasStrip, IsMade, are_made}
use Rattle.sb_walk.specs.WalksInGaps.{face_of, surface_on}
use Rattle.sb_walk.specs.Ways.{normal_of}
use Rattle.sb_walk.proofs.CellsOfGaps.CellsListed.{each_follows}
use Rattle.sb_walk.proofs.EdgesBeside.{IsSpanning, of_order, first_stands, second_stands}
use Rattle.sb_walk.proofs.Ranges.LinesOfEdges.{line_is_of, line_runs_forward}
use Rattle.sb_walk.proofs.Ranges.PointsBetween.{strictly, in_gap, off_line, inside_present}
use Rattle.sb_walk.proofs.CellsOfGaps.StripsOfGaps.{slab_of, order_of}
use Rattle.sb_walk.proofs.WalksRead.WalksAreRead.{walk_in_gap}
use Rattle.sb_walk.proofs.SpacesFound.{found_stands, found_number}

-- ---- equal numbers

below_same : (a b v : Arrow) → IsRational a → IsRational b → IsRational v → IsSame a b → IsBelow a v
    → IsBelow b v
below_same a b v a_in b_in v_in same less =
    let turn = cross-turn a b in
    at_most_below_trans b a v b_in a_in v_in (omega (arith, ints, same)) less

above_same : (a b v : Arrow) → IsRational a → IsRational b → IsRational v → IsSame a b → IsBelow v a
    → IsBelow v b
above_same a b v a_in b_in v_in same more =
    below_at_most_trans v a b v_in a_in b_in more (omega (arith, ints, same))

-- ---- the parts of a test

-- a point inside a region
record IsAmid (r : Region) (q : FacePoint) : Type 0 where
  after : IsBelow r.low (abscissa_of q)
  before : IsBelow (abscissa_of q) r.high
  above : IsBelow (value_on r.lower (abscissa_of q)) (ordinate_of q)
  under : IsBelow (ordinate_of q) (value_on r.upper (abscissa_of q))

amid_if_inside : (r : Region) (q : FacePoint) → IsFacePoint q → is_inside r q ≡ true → IsAmid r q
amid_if_inside r q q_is inside = record {
  after = less_from (pos 0) (cross r.low (abscissa_of q)) ends.0;
  before = less_from (pos 0) (cross (abscissa_of q) r.high) ends.1;
  above = (above_is r.lower q q_is).0 sides.0;
  under = (under_is r.upper q q_is).0 sides.1;
}
  where
    parts : (is_spanned r (abscissa_of q) ≡ true)
        × ((is_above_side r.lower q && is_under_side r.upper q) ≡ true)
    parts =
        and_parts (is_spanned r (abscissa_of q)) (is_above_side r.lower q && is_under_side r.upper q)
        inside

    ends : (is_below r.low (abscissa_of q) ≡ true) × (is_below (abscissa_of q) r.high ≡ true)
    ends = and_parts (is_below r.low (abscissa_of q)) (is_below (abscissa_of q) r.high) parts.0

    sides : (is_above_side r.lower q ≡ true) × (is_under_side r.upper q ≡ true)
    sides = and_parts (is_above_side r.lower q) (is_under_side r.upper q) parts.1

-- ---- in a gap

module _ (m : Building) (valid : IsTrue (is_building m)) (slab : Slab) (of_model : IsSlabOf m slab)
    (direction : arrow_along slab.direction ≡ along_x) (j : ℕ) (e f : PlanEdge)
    (between : IsBetween (edges_at (plan_edges m) slab.order) j e f) (strip : Strip)
    (has : HasStrip slab e f strip) where
  is : IsSlab m along_x (number slab.low) (number slab.high)
  is = slab_of m slab of_model direction

  order_is : IsSlabOrder (plan_edges m) along_x (number slab.low) (number slab.high) slab.order
  order_is = order_of m slab of_model direction

  own_e : IsSpanning m (number slab.low) (number slab.high) e
  own_e =
      of_order m valid (number slab.low) (number slab.high) is slab.order order_is e
      (first_stands (edges_at (plan_edges m) slab.order) j e f between)

  own_f : IsSpanning m (number slab.low) (number slab.high) f
  own_f =
      of_order m valid (number slab.low) (number slab.high) is slab.order order_is f
      (second_stands (edges_at (plan_edges m) slab.order) j e f between)

  lower_is : IsLineOf (line_of (OnLine strip.lower)) e.edge
  lower_is = line_is_of strip.lower e.edge own_e.proper has.lower_dir has.lower_off

  upper_is : IsLineOf (line_of (OnLine strip.upper)) f.edge
  upper_is = line_is_of strip.upper f.edge own_f.proper has.upper_dir has.upper_off

  lower_in : IsLineSide (line_of (OnLine strip.lower))
  lower_in = line_runs_forward strip.lower e.edge own_e.proper has.lower_dir own_e.over

  upper_in : IsLineSide (line_of (OnLine strip.upper))
  upper_in = line_runs_forward strip.upper f.edge own_f.proper has.upper_dir own_f.over

  -- the strip as a region
  abbrev region : Region
  region = region_between slab.low slab.high (OnLine strip.lower) (OnLine strip.upper)

  near : AreNeighbours m axis_x (number slab.low) (number slab.high)
  near = record {
    first =
        subst (λ d. is_abscissa m (flat d) (number slab.low) ≡ true) direction
        of_model.neighbours.first;
    last =
        subst (λ d. is_abscissa m (flat d) (number slab.high) ≡ true) direction
        of_model.neighbours.last;
    none = is.none;
  }

  module _ (p : Spot) (p_is : IsSpot p)
      (inside : is_inside (region_between slab.low slab.high (OnLine strip.lower) (OnLine strip.upper))
      (plan_point p) ≡ true) where
    amid : IsAmid (region_between slab.low slab.high (OnLine strip.lower) (OnLine strip.upper))
        (in_frame along_x p)
    amid =
        amid_if_inside region (in_frame along_x p) p_is
        (subst (λ q. is_inside region q ≡ true) (sym (frame_point p)) inside)

    -- its points lie strictly in the gap
    there : IsStrictlyIn along_x (edges_at (plan_edges m) slab.order) j (abscissa_in along_x p)
        (ordinate_of (in_frame along_x p))
    there =
        strictly m valid (number slab.low) (number slab.high) is slab.order order_is p p_is amid.after
        amid.before j e f between
        (below_same (value_on (line_of (OnLine strip.lower)) (abscissa_in along_x p))
        (value_of along_x (abscissa_in along_x p) e.edge) (ordinate_of (in_frame along_x p))
        (value_on-IsRational (line_of (OnLine strip.lower)) (abscissa_in along_x p) lower_in p_is)
        (value_on-IsRational (line_over along_x e.edge) (abscissa_in along_x p) own_e.over p_is) p_is
        (value_of_line (line_of (OnLine strip.lower)) e.edge lower_is (abscissa_in along_x p) p_is)
        amid.above)
        (above_same (value_on (line_of (OnLine strip.upper)) (abscissa_in along_x p))
        (value_of along_x (abscissa_in along_x p) f.edge) (ordinate_of (in_frame along_x p))
        (value_on-IsRational (line_of (OnLine strip.upper)) (abscissa_in along_x p) upper_in p_is)
        (value_on-IsRational (line_over along_x f.edge) (abscissa_in along_x p) own_f.over p_is) p_is
        (value_of_line (line_of (OnLine strip.upper)) f.edge upper_is (abscissa_in along_x p) p_is)
        amid.under)

    gap_there : IsGapOf m along_x (number slab.low) (number slab.high) slab.order p j
    gap_there =
        in_gap m valid (number slab.low) (number slab.high) is slab.order order_is p p_is amid.after
        amid.before j there

  -- no edge of the slab parts it, and a space that is present there contains it
  piece : (s : Space) → Stands s m.spaces
      → is_present (edges_before (plan_edges m) slab.order j) s.number ≡ true
      → IsLevelPiece m s.prism.loops
      (region_between slab.low slab.high (OnLine strip.lower) (OnLine strip.upper))
  piece s s_in present = record {
    lower = (e, (own_e.stands, (own_e.spans, lower_is)));
    upper = (f, (own_f.stands, (own_f.spans, upper_is)));
    undivided =
        λ g g_in spans point point_is inside.
        let p = spot point.u point.v (pos 0) point.w in
        false_from_ne_true (is_on_side (line_over along_x g.edge) point)
        (λ on.
        off_line m valid (number slab.low) (number slab.high) is slab.order order_is p point_is
        ((amid p point_is inside).after) ((amid p point_is inside).before) j (there p point_is inside) g
        (spanning_stands (plan_edges m) along_x (number slab.low) (number slab.high) slab.order order_is
        g g_in spans)
        ((on_is (line_over along_x g.edge) (in_frame along_x p) point_is).0
        (subst (λ q. is_on_side (line_over along_x g.edge) q ≡ true) (sym (frame_point p)) on)));
    inside =
        λ p p_is inside.
        inside_present m valid (number slab.low) (number slab.high) is slab.order order_is p p_is
        ((amid p p_is inside).after) ((amid p p_is inside).before) j (there p p_is inside) s s_in
        present;
  }

  -- ---- of a space that is present there

  module _ (present : List ℕ) (are : ArePresent (edges_before (plan_edges m) slab.order j) present)
      (n : ℕ) (n_in : Stands n present) (s : Space) (found : space_numbered m n ≡ Some s) where
    own_piece : IsLevelPiece m s.prism.loops
        (region_between slab.low slab.high (OnLine strip.lower) (OnLine strip.upper))
    own_piece =
        piece s (found_stands m n s found)
        (ap (is_present (edges_before (plan_edges m) slab.order j)) (found_number m n s found)
        ∙ sym (are.each n)
        ∙ any_stands (λ k. k == n) n present n_in (eq-eqb n n refl))

    piece_of : (w : Way)
        → IsPieceOf m s.prism (face_of w)
        (region_between slab.low slab.high (OnLine strip.lower) (OnLine strip.upper))
    piece_of way.Down = own_piece
    piece_of way.Up = own_piece

    surface_is : (w : Way) → surface_of s.prism (face_of w) ≡ Some (surface_on w s.prism)
    surface_is way.Down = refl
    surface_is way.Up = refl

    across_is : (w : Way) → (surface_on w s.prism).across ≡ axis_x
    across_is way.Down = refl
    across_is way.Up = refl

    point_is : (w : Way) (p : Spot) → on_face (surface_on w s.prism) p ≡ plan_point p
    point_is way.Down p = level_point (bottom_of s.prism) p refl refl
    point_is way.Up p = level_point (top_of s.prism) p refl refl

    of_face : (w : Way) (p : Spot) → IsSpot p → is_in_plane (surface_on w s.prism) p ≡ true
        → is_inside (region_between slab.low slab.high (OnLine strip.lower) (OnLine strip.upper))
        (plan_point p) ≡ true
        → is_of_face s.prism (face_of w) p ≡ true
    of_face way.Down p p_is plane inside =
        and_from (is_in_plan s.prism.loops p) (int_eq p.z (s.prism.z0 *ℤ p.w))
        (own_piece.inside p p_is inside) (bottom_height s.prism (bottom_of s.prism) refl p plane)
    of_face way.Up p p_is plane inside =
        and_from (is_in_plan s.prism.loops p) (int_eq p.z (s.prism.z1 *ℤ p.w))
        (own_piece.inside p p_is inside) (top_height s.prism (top_of s.prism) refl p plane)

    pub cell_is_in : (w : Way) (list : List ℤ)
        → IsRisingOf int_cmp
        (ground_along (normal_of w) m.ground_height ∷ ends_of m (normal_of w) present) list
        → (c : Cell) → IsMade m strip present list s w c → IsCellIn m slab e f s w c
    cell_is_in w list rising c made = record {
      space = made.patch.space_is;
      kind = made.patch.kind_is;
      low = made.patch.low ∙ has.low;
      high = made.patch.high ∙ has.high;
      lower = subst (λ side. IsLineOf (line_of side) e.edge) (sym made.patch.lower) lower_is;
      upper = subst (λ side. IsLineOf (line_of side) f.edge) (sym made.patch.upper) upper_is;
      fine = (
        s,
        (
          ap (space_numbered m) (made.patch.space_is ∙ found_number m n s found) ∙ found,
          record {
            surface = surface_on w s.prism;
            is_surface =
                ap (surface_of s.prism) made.patch.kind_is ∙ surface_is w;
            along = across_is w;
            neighbours =
                subst (λ (r : Region). AreNeighbours m axis_x r.low r.high) (sym region_is) near;
            piece =
                subst (λ k. IsPieceOf m s.prism k (region_of c.patch)) (sym made.patch.kind_is)
                (subst (IsPieceOf m s.prism (face_of w)) (sym region_is) (piece_of w));
          },
        ),
      );
      inside =
          λ p p_is plane at. of_face w p p_is plane (inside_strip p at);
      walk =
          λ p p_is plain at.
          walk_in_gap m valid slab of_model direction j s present are w list rising c.walk made.walk p
          p_is plain (gap_there p p_is (inside_strip p at));
      key = made.key;
    }
      where
        region_is : region_of c.patch
            ≡ region_between slab.low slab.high (OnLine strip.lower) (OnLine strip.upper)
        region_is =
            ap (λ x. region_between x c.patch.high c.patch.lower c.patch.upper)
            (made.patch.low ∙ has.low)
            ∙ ap (λ x. region_between slab.low x c.patch.lower c.patch.upper)
            (made.patch.high ∙ has.high)
            ∙ ap (λ x. region_between slab.low slab.high x c.patch.upper) made.patch.lower
            ∙ ap (λ x. region_between slab.low slab.high (OnLine strip.lower) x) made.patch.upper

        inside_strip : (p : Spot) → is_in_patch (surface_on w s.prism) c.patch p ≡ true
            → is_inside (region_between slab.low slab.high (OnLine strip.lower) (OnLine strip.upper))
            (plan_point p) ≡ true
        inside_strip p at =
            subst (λ (r : Region). is_inside r (plan_point p) ≡ true) region_is
            (subst (λ q. is_inside (region_of c.patch) q ≡ true) (point_is w p) at)

  -- so are those of all numbers that are present
  pub cells_are_in : (present : List ℕ)
      → ArePresent (edges_before (plan_edges m) slab.order j) present → (ground_down : ℤ)
      → ground_down ≡ ground_along (normal_of way.Down) m.ground_height → (list_down down : List ℤ)
      → IsRisingOf int_cmp (ground_down ∷ ends_of m (normal_of way.Down) present) list_down
      → down ≡ list_down → (ground_up : ℤ)
      → ground_up ≡ ground_along (normal_of way.Up) m.ground_height → (list_up up : List ℤ)
      → IsRisingOf int_cmp (ground_up ∷ ends_of m (normal_of way.Up) present) list_up → up ≡ list_up
      → (cells : List Cell) → AreForEach m (are_made m strip present down up) present cells
      → AreForEach m (IsCellIn m slab e f) present cells
  cells_are_in present are ground_down ground_down_is list_down down rising_down down_is ground_up
      ground_up_is list_up up rising_up up_is cells made =
      each_follows m (are_made m strip present down up) (IsCellIn m slab e f) present step cells made
    where
      step : (n : ℕ) → Stands n present → (s : Space) → space_numbered m n ≡ Some s → (w : Way)
          → (c : Cell) → are_made m strip present down up s w c → IsCellIn m slab e f s w c
      step n n_in s found way.Down c is =
          cell_is_in present are n n_in s found way.Down down
          (subst (λ g. IsRisingOf int_cmp (g ∷ ends_of m (normal_of way.Down) present) down)
          ground_down_is
          (subst (IsRisingOf int_cmp (ground_down ∷ ends_of m (normal_of way.Down) present))
          (sym down_is) rising_down))
          c is
      step n n_in s found way.Up c is =
          cell_is_in present are n n_in s found way.Up up
          (subst (λ g. IsRisingOf int_cmp (g ∷ ends_of m (normal_of way.Up) present) up) ground_up_is
          (subst (IsRisingOf int_cmp (ground_up ∷ ends_of m (normal_of way.Up) present)) (sym up_is)
          rising_up))
          c is
