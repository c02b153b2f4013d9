-- A plain point of a face lies on no side of a fine cell over whose slab it lies.
use Rattle.std.proofs.Common.{◌≡◌, refl, sym, ◌∙◌, ap, ap₂, subst, inl, inr, ◌⊎◌, ⊎_elim, arith, ℤ, pos}
use Rattle.std.proofs.Common.{◌+ℤ◌, ◌-ℤ◌, ◌*ℤ◌, Bool, true, false, not, ◌&&◌, ◌||◌}
use Rattle.std.proofs.Common.{Option, Some, None, int_le}
use Rattle.std.specs.List.{list_any}
use Rattle.std.specs.Ordering.{int_eq}
use Rattle.std.proofs.lemmas.Int.{ints}
use Rattle.std.proofs.lemmas.Bool.{and_parts, and_from, or_left, or_right, or_cases, false≢true}
use Rattle.std.proofs.lemmas.Bool.{false_from_ne_true}
use Rattle.std.proofs.lemmas.Bool.Decides.{Decides-int_eq}
use Rattle.std.proofs.lemmas.Option.{same_Some, none-some}
use Rattle.theory_lists.specs.Members.{Stands}
use Rattle.theory_lists.specs.Parity.{differ}
use Rattle.theory_lists.proofs.Members.{any_stands, one_of_any}
use Rattle.theory_lists.proofs.Parity.{opposite_from_differ}
use Rattle.theory_numbers.specs.Arrows.{Arrow, cross, dot}
use Rattle.theory_numbers.specs.Rationals.{IsRational, IsBelow}
use Rattle.theory_numbers.proofs.Vectors.Lengths.{opposed}
use Rattle.theory_numbers.proofs.Fractions.Rationals.{same_sym, same_trans, at_most_from_below}
use Rattle.theory_numbers.proofs.Signs.{test_at_most}
use Rattle.theory_plane.specs.Sides.{LineSide, IsLineSide, level, value_on}
use Rattle.theory_plane.specs.Points.{FacePoint, face_point, abscissa_of, is_on_side}
use Rattle.theory_plane.specs.Points.{ordinate_of}
use Rattle.theory_plane.specs.Regions.{Region}
use Rattle.theory_patches.specs.Marked.{IsPatch}
use Rattle.theory_plane.proofs.Points.{on_is}
use Rattle.theory_plane.proofs.Clearance.{value_on-IsRational}
use Rattle.sb_fraction.specs.Spots.{Spot, IsSpot, times_w, reading}
use Rattle.sb_fraction.specs.Edges.{Edge, turn_at, reach_at, is_on, seen_from}
use Rattle.sb_fraction.specs.Directions.{axis_x, axis_y, axis_z, direction_of}
use Rattle.sb_fraction.specs.Lines.{in_frame, line_over, reaches_past}
use Rattle.theory_plans.specs.Rays.{is_left_of}
use Rattle.sb_model.specs.declared.faces.face.FaceKind.{FaceKind}
use Rattle.sb_model.specs.declared.faces.face.FaceKind.TheVariants as kind
use Rattle.sb_model.specs.Solids.{Upright}
use Rattle.sb_model.specs.Building.{Building}
use Rattle.sb_model.specs.PlanEdges.{Product, plan_edges, products_of}
use Rattle.sb_model.specs.PlanEdges.{is_abscissa}
use Rattle.sb_model.specs.Surfaces.Faces.{Surface, surface_of, edge_numbered, on_face, is_of_face, side_of}
use Rattle.sb_model.specs.Surfaces.PlainPoints.{is_plain, is_on_plan_edge, is_off_cuts, is_at_height}
use Rattle.sb_model.specs.Surfaces.PlainPoints.{is_at_ground, is_off_side_cuts, is_off_level_cuts}
use Rattle.sb_model.specs.Surfaces.FineCells.{way_x, IsOfSpanning, is_cut_height, IsPieceOf}
use Rattle.sb_model.specs.Surfaces.FineCells.{IsPieceOver}
use Rattle.theory_parity.specs.Below.{down_from, abscissa_in}
use Rattle.theory_parity.proofs.Rays.InsideByBelow.{beyond_is_left}
use Rattle.theory_parity.proofs.OnLineOver.{on_line_over}
use Rattle.theory_lines.proofs.EdgesOverASlab.{spanning_reaches}
use Rattle.theory_lines.proofs.OneLiesBelow.{spanning_is_line}
use Rattle.theory_faces.proofs.Slabs.CellsRise.{way_x_is, value_of_line}

-- ---- a point on the line of an edge

-- a point on the line of an edge that reaches past its abscissa lies on the edge
pub on_if_reached : (d : Arrow) (p : Spot) (e : Edge) → turn_at e p ≡ pos 0
    → reaches_past d (abscissa_in d p) e ≡ true → is_on p e ≡ true
on_if_reached d p e turn reaches =
    let parted : differ (is_left_of (down_from d) p e.a) (is_left_of (down_from d) p e.b) ≡ true =
    sym (ap₂ differ (beyond_is_left d p e.a) (beyond_is_left d p e.b)) ∙ reaches in
    and_from (int_eq (turn_at e p) (pos 0)) (int_le (reach_at e p) (pos 0))
    ((Decides-int_eq (turn_at e p) (pos 0)).1 turn)
    (test_at_most (reach_at e p) (pos 0)
    (opposed (down_from d) (seen_from p e.a) (seen_from p e.b) (is_left_of (down_from d) p e.a)
    (is_left_of (down_from d) p e.b) refl refl
    (opposite_from_differ (is_left_of (down_from d) p e.a) (is_left_of (down_from d) p e.b) parted)
    turn))

-- ---- points of level faces

-- the plan point of a point
abbrev pub plan_point : Spot → FacePoint
plan_point p = face_point p.x p.y p.w

reads_x : (x y z : ℤ) → ((x *ℤ pos 1) +ℤ (y *ℤ pos 0)) +ℤ (z *ℤ pos 0) ≡ x
reads_x x y z = omega (arith, ints)

reads_y : (x y z : ℤ) → ((x *ℤ pos 0) +ℤ (y *ℤ pos 1)) +ℤ (z *ℤ pos 0) ≡ y
reads_y x y z = omega (arith, ints)

reads_z : (x y z : ℤ) → ((x *ℤ pos 0) +ℤ (y *ℤ pos 0)) +ℤ (z *ℤ pos 1) ≡ z
reads_z x y z = omega (arith, ints)

-- on Bottom and Top u is x and v is y
pub level_point : (f : Surface) (p : Spot) → f.across ≡ axis_x → f.up ≡ axis_y
    → on_face f p ≡ plan_point p
level_point f p across up =
    ap₂ (λ u v. face_point u v p.w) (ap (times_w p) across ∙ reads_x p.x p.y p.z)
    (ap (times_w p) up ∙ reads_y p.x p.y p.z)

-- in the frame of (1, 0) too
pub frame_point : (p : Spot) → in_frame way_x p ≡ plan_point p
unfolding dot cross
frame_point p = ap₂ (λ u v. face_point u v p.w) (first p.x p.y) (second p.x p.y)
  where
    first : (x y : ℤ) → (pos 1 *ℤ x) +ℤ (pos 0 *ℤ y) ≡ x
    first x y = omega (arith, ints)

    second : (x y : ℤ) → (pos 1 *ℤ y) -ℤ (pos 0 *ℤ x) ≡ y
    second x y = omega (arith, ints)

-- the coordinates of Bottom and Top
pub record IsLevel (f : Surface) : Type 0 where
  pub across : f.across ≡ axis_x
  pub up : f.up ≡ axis_y

pub bottom_is_level : (s : Upright) (f : Surface) → surface_of s kind.Bottom ≡ Some f → IsLevel f
bottom_is_level s f is =
    record {
      across = sym (ap (λ (g : Surface). g.across) (same_Some _ f is));
      up = sym (ap (λ (g : Surface). g.up) (same_Some _ f is));
    }

pub top_is_level : (s : Upright) (f : Surface) → surface_of s kind.Top ≡ Some f → IsLevel f
top_is_level s f is =
    record {
      across = sym (ap (λ (g : Surface). g.across) (same_Some _ f is));
      up = sym (ap (λ (g : Surface). g.up) (same_Some _ f is));
    }

-- the coordinates of the side over an edge
pub record IsSideOver (e : Edge) (f : Surface) : Type 0 where
  pub across : f.across ≡ direction_of e
  pub up : f.up ≡ axis_z

pub side_is_over : (e : Edge) (f : Surface) → side_of (Some e) ≡ Some f → IsSideOver e f
side_is_over e f is =
    record {
      across = sym (ap (λ (g : Surface). g.across) (same_Some _ f is));
      up = sym (ap (λ (g : Surface). g.up) (same_Some _ f is));
    }

-- on a side v is z
pub side_height : (e : Edge) (f : Surface) (p : Spot) → IsSideOver e f → (on_face f p).v ≡ p.z
side_height e f p is = ap (times_w p) is.up ∙ reads_z p.x p.y p.z

-- ---- what a plain point is

not_true : (b : Bool) → not b ≡ true → b ≡ false
not_true true answer = absurd (false≢true answer)
not_true false answer = refl

-- its abscissa is none of the direction
pub plain_is_no_abscissa : (m : Building) (s : Upright) (k : FaceKind) (f : Surface) (p : Spot)
    → surface_of s k ≡ Some f → is_plain m s k p ≡ true
    → is_abscissa m f.across (reading p f.across) ≡ false
plain_is_no_abscissa m s kind.Bottom f p is plain =
    let parts = and_parts (is_of_face s kind.Bottom p) (is_off_cuts m s kind.Bottom p) plain in
    let off =
    and_parts (not (is_on_plan_edge m p)) (not (is_abscissa m axis_x (reading p axis_x))) parts.1
    in
    subst (λ d. is_abscissa m d (reading p d) ≡ false) (sym (bottom_is_level s f is).across)
    (not_true (is_abscissa m axis_x (reading p axis_x)) off.1)
plain_is_no_abscissa m s kind.Top f p is plain =
    let parts = and_parts (is_of_face s kind.Top p) (is_off_cuts m s kind.Top p) plain in
    let off =
    and_parts (not (is_on_plan_edge m p)) (not (is_abscissa m axis_x (reading p axis_x))) parts.1
    in
    subst (λ d. is_abscissa m d (reading p d) ≡ false) (sym (top_is_level s f is).across)
    (not_true (is_abscissa m axis_x (reading p axis_x)) off.1)
plain_is_no_abscissa m s (kind.Side k) f p is plain =
    from (edge_numbered s k) is
    (and_parts (is_of_face s (kind.Side k) p) (is_off_cuts m s (kind.Side k) p) plain).1
  where
    from : (e : Option Edge) → side_of e ≡ Some f → is_off_side_cuts m e p ≡ true
        → is_abscissa m f.across (reading p f.across) ≡ false
    from None none off = absurd (none-some f none)
    from (Some e) side off =
        subst (λ d. is_abscissa m d (reading p d) ≡ false) (sym (side_is_over e f side).across)
        (not_true (is_abscissa m (direction_of e) (reading p (direction_of e)))
        (and_parts (not (is_abscissa m (direction_of e) (reading p (direction_of e))))
        (not (is_at_height m p) && not (is_at_ground m p)) off).0)

-- ---- Bottom and Top

-- a point over the slab on the line of an edge that spans it lies on a plan edge
pub on_spanning : (m : Building) (low high : Arrow) → IsRational low → IsRational high
    → IsBelow low high → (side : LineSide) → IsLineSide side
    → IsOfSpanning m low high side → (p : Spot) → IsSpot p
    → IsBelow low (abscissa_of (plan_point p)) → IsBelow (abscissa_of (plan_point p)) high
    → is_on_side side (plan_point p) ≡ true → is_on_plan_edge m p ≡ true
on_spanning m low high low_in high_in wide side side_in (e, (e_in, (spans, is))) p p_is after before on =
    let u = abscissa_of (plan_point p) in
    let line_in = spanning_is_line way_x low high low_in high_in wide e.edge spans in
    let on_line : is_on_side (line_over way_x e.edge) (plan_point p) ≡ true =
    (on_is (line_over way_x e.edge) (plan_point p) p_is).1
    (same_trans (value_on (line_over way_x e.edge) u) (value_on side u) (ordinate_of (plan_point p))
    (value_on-IsRational side u side_in p_is)
    (same_sym (value_on side u) (value_on (line_over way_x e.edge) u)
    (value_of_line side e.edge is u p_is))
    ((on_is side (plan_point p) p_is).0 on))
    in
    let framed : is_on_side (line_over way_x e.edge) (in_frame way_x p) ≡ true =
    subst (λ q. is_on_side (line_over way_x e.edge) q ≡ true) (sym (frame_point p)) on_line in
    let turn =
    (Decides-int_eq (turn_at e.edge p) (pos 0)).0
    (sym (on_line_over way_x p e.edge way_x_is p_is) ∙ framed)
    in
    let reaches =
    spanning_reaches way_x low high u low_in high_in p_is e.edge spans
    (at_most_from_below low u after) before
    in
    any_stands (λ g. is_on p g.edge) e (plan_edges m) e_in
    (on_if_reached way_x p e.edge turn
    (subst (λ q. reaches_past way_x (abscissa_of q) e.edge ≡ true) (sym (frame_point p)) reaches))

-- a plain point over the slab lies on no line of a spanning edge
level_off : (m : Building) (f : Surface) (p : Spot) → IsSpot p → IsLevel f
    → is_off_level_cuts m p ≡ true → (r : Region) → IsPatch r → IsOfSpanning m r.low r.high r.upper
    → IsBelow r.low (abscissa_of (on_face f p)) → IsBelow (abscissa_of (on_face f p)) r.high
    → is_on_side r.upper (on_face f p) ≡ false
level_off m f p p_is level off r r_in upper after before =
    let point = level_point f p level.across level.up in
    false_from_ne_true (is_on_side r.upper (on_face f p))
    (λ on.
    false≢true
    (sym
    (not_true (is_on_plan_edge m p)
    (and_parts (not (is_on_plan_edge m p)) (not (is_abscissa m axis_x (reading p axis_x))) off).0)
    ∙ on_spanning m r.low r.high r_in.region.low_in r_in.region.high_in r_in.region.wide r.upper
    r_in.region.upper_in upper p p_is
    (subst (λ q. IsBelow r.low (abscissa_of q)) point after)
    (subst (λ q. IsBelow (abscissa_of q) r.high) point before)
    (subst (λ q. is_on_side r.upper q ≡ true) point on)))

-- ---- sides

-- a point at a height that cuts is at a height of a prism or of the ground
at_cut_height : (m : Building) (z : ℤ) (p : Spot) → is_cut_height m z ≡ true → p.z ≡ z *ℤ p.w
    → (is_at_height m p ≡ true) ⊎ (is_at_ground m p ≡ true)
at_cut_height m z p cut at =
    ⊎_elim (λ prisms. inl (of_prisms (one_of_any _ (products_of m) prisms)))
    (λ ground_level.
    inr
    ((Decides-int_eq p.z (m.ground_height *ℤ p.w)).1
    (at ∙ ap (λ n. n *ℤ p.w) ((Decides-int_eq z m.ground_height).0 ground_level))))
    (or_cases (list_any (λ q. int_eq z q.prism.z0 || int_eq z q.prism.z1) (products_of m))
    (int_eq z m.ground_height) cut)
  where
    of_one : (q : Product)
        → (int_eq z q.prism.z0 ≡ true) ⊎ (int_eq z q.prism.z1 ≡ true)
        → (int_eq p.z (q.prism.z0 *ℤ p.w) || int_eq p.z (q.prism.z1 *ℤ p.w)) ≡ true
    of_one q (inl low) =
        or_left (int_eq p.z (q.prism.z0 *ℤ p.w)) (int_eq p.z (q.prism.z1 *ℤ p.w))
        ((Decides-int_eq p.z (q.prism.z0 *ℤ p.w)).1
        (at ∙ ap (λ n. n *ℤ p.w) ((Decides-int_eq z q.prism.z0).0 low)))
    of_one q (inr high) =
        or_right (int_eq p.z (q.prism.z0 *ℤ p.w)) (int_eq p.z (q.prism.z1 *ℤ p.w))
        ((Decides-int_eq p.z (q.prism.z1 *ℤ p.w)).1
        (at ∙ ap (λ n. n *ℤ p.w) ((Decides-int_eq z q.prism.z1).0 high)))

    of_prisms : (q : Product) × (Stands q (products_of m)
        × ((int_eq z q.prism.z0 || int_eq z q.prism.z1) ≡ true))
        → is_at_height m p ≡ true
    of_prisms (q, (stands, passes)) =
        any_stands
        (λ x. int_eq p.z (x.prism.z0 *ℤ p.w) || int_eq p.z (x.prism.z1 *ℤ p.w)) q (products_of m)
        stands (of_one q (or_cases (int_eq z q.prism.z0) (int_eq z q.prism.z1) passes))

on_level : (z u v w : ℤ) → is_on_side (level z) (face_point u v w) ≡ true → v ≡ z *ℤ w
on_level z u v w on =
    let same = (Decides-int_eq ((pos 1 *ℤ v) -ℤ (pos 0 *ℤ u)) (z *ℤ w)).0 on in
    omega (arith, ints)

-- a plain point of a side lies on no height that cuts it
pub upright_off : (m : Building) (e : Edge) (f : Surface) (p : Spot) → IsSideOver e f
    → is_off_side_cuts m (Some e) p ≡ true → (z : ℤ) → is_cut_height m z ≡ true
    → is_on_side (level z) (on_face f p) ≡ false
upright_off m e f p over off z cut =
    false_from_ne_true (is_on_side (level z) (on_face f p))
    (λ on.
    let rest =
    (and_parts (not (is_abscissa m (direction_of e) (reading p (direction_of e))))
    (not (is_at_height m p) && not (is_at_ground m p)) off).1
    in
    let both = and_parts (not (is_at_height m p)) (not (is_at_ground m p)) rest in
    let height : p.z ≡ z *ℤ p.w =
    sym (side_height e f p over)
    ∙ on_level z (times_w p f.across) (times_w p f.up) p.w on
    in
    ⊎_elim
    (λ at. false≢true (sym (not_true (is_at_height m p) both.0) ∙ at))
    (λ at. false≢true (sym (not_true (is_at_ground m p) both.1) ∙ at))
    (at_cut_height m z p cut height))

-- ---- so a plain point lies on no upper side of a piece over it

-- a plain point lies on no upper side of a fine cell over whose slab it lies
pub plain_off_uppers : (m : Building) (s t : Upright) (k : FaceKind) (f : Surface) (p : Spot)
    → IsSpot p → surface_of s k ≡ Some f → is_plain m s k p ≡ true → (r : Region) → IsPatch r
    → IsPieceOf m t k r → IsBelow r.low (abscissa_of (on_face f p))
    → IsBelow (abscissa_of (on_face f p)) r.high → is_on_side r.upper (on_face f p) ≡ false
plain_off_uppers m s t kind.Bottom f p p_is is plain r r_in piece after before =
    level_off m f p p_is (bottom_is_level s f is)
    (and_parts (is_of_face s kind.Bottom p) (is_off_cuts m s kind.Bottom p) plain).1 r r_in
    piece.upper after before
plain_off_uppers m s t kind.Top f p p_is is plain r r_in piece after before =
    level_off m f p p_is (top_is_level s f is)
    (and_parts (is_of_face s kind.Top p) (is_off_cuts m s kind.Top p) plain).1 r r_in piece.upper
    after before
plain_off_uppers m s t (kind.Side k) f p p_is is plain r r_in piece after before =
    from (edge_numbered s k) (edge_numbered t k) is
    (and_parts (is_of_face s (kind.Side k) p) (is_off_cuts m s (kind.Side k) p) plain).1 piece
  where
    from : (e g : Option Edge) → side_of e ≡ Some f → is_off_side_cuts m e p ≡ true
        → IsPieceOver m t g r → is_on_side r.upper (on_face f p) ≡ false
    from None g side off over = absurd (none-some f side)
    from (Some e) None side off over = absurd over
    from (Some e) (Some g) side off over =
        subst (λ l. is_on_side l (on_face f p) ≡ false) (sym over.upper)
        (upright_off m e f p (side_is_over e f side) off over.to over.last)
