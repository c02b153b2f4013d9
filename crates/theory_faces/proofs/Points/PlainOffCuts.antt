-- Over a slab a point of a face is plain exactly where it is off the cuts of the face there.
use Rattle.std.proofs.Common.{◌≡◌, refl, sym, ◌∙◌, ap, ap₂, subst, inl, inr, ◌⊎◌, ⊎_elim, arith, ℤ, pos}
use Rattle.std.proofs.Common.{◌-ℤ◌, ◌*ℤ◌, Bool, true, false, not, ◌&&◌, ◌||◌, if◌then◌else◌}
use Rattle.std.proofs.Common.{List, [], ◌∷◌, Option, Some, None, int_le}
use Rattle.std.specs.List.{AllByRecursion, list_any}
use Rattle.std.specs.Ordering.{int_eq}
use Rattle.std.proofs.lemmas.Int.{ints}
use Rattle.std.proofs.lemmas.Bool.{and_parts, and_from, or_left, or_right, or_cases, or_parts}
use Rattle.std.proofs.lemmas.Bool.{false≢true, false_from_ne_true, not_from_false}
use Rattle.std.proofs.lemmas.Bool.Decides.{Decides-int_eq}
use Rattle.std.proofs.lemmas.Option.{none-some}
use Rattle.theory_lists.specs.Members.{Stands}
use Rattle.theory_lists.specs.Parity.{differ}
use Rattle.theory_lists.proofs.Members.{all_stands, any_stands, one_of_any}
use Rattle.theory_lists.proofs.Parity.{differ-opposite}
use Rattle.theory_numbers.specs.Arrows.{Arrow, cross}
use Rattle.theory_numbers.specs.Rationals.{IsRational, IsBelow, IsZeroForm, rational}
use Rattle.theory_numbers.proofs.Vectors.Lengths.{parted}
use Rattle.theory_numbers.proofs.Fractions.Rationals.{at_most_from_below}
use Rattle.theory_numbers.proofs.Signs.{at_most_from}
use Rattle.theory_plane.specs.Sides.{LineSide, level, clearance}
use Rattle.theory_plane.specs.Points.{FacePoint, face_point, abscissa_of, is_on_side}
use Rattle.sb_fraction.specs.Spots.{Spot, IsSpot, Vector, reading, times_w}
use Rattle.sb_fraction.specs.Edges.{Edge, turn_at, reach_at, is_on, seen_from}
use Rattle.sb_fraction.specs.Crossings.{abscissa_at, ends_over, cross_over}
use Rattle.sb_fraction.specs.Directions.{axis_x, direction_of}
use Rattle.sb_fraction.specs.Lines.{line_over, reaches_past, flat}
use Rattle.theory_plans.specs.Rays.{is_left_of}
use Rattle.sb_model.specs.declared.faces.face.FaceKind.{FaceKind}
use Rattle.sb_model.specs.declared.faces.face.FaceKind.TheVariants as kind
use Rattle.sb_model.specs.Solids.{Upright}
use Rattle.sb_model.specs.Building.{Building}
use Rattle.sb_model.specs.PlanEdges.{Product, PlanEdge, plan_edges, products_of, is_abscissa}
use Rattle.sb_model.specs.Surfaces.Faces.{Surface, edge_numbered, side_of, on_face, is_of_face}
use Rattle.sb_model.specs.Surfaces.PlainPoints.{is_off_cuts, is_off_side_cuts, is_off_level_cuts}
use Rattle.sb_model.specs.Surfaces.PlainPoints.{is_on_plan_edge, is_at_height, is_at_ground}
use Rattle.sb_model.specs.Surfaces.FineCells.{AreNeighbours, way_x, is_across_slab, is_cut_height}
use Rattle.theory_parity.specs.Below.{down_from, abscissa_in}
use Rattle.theory_parity.proofs.Rays.InsideByBelow.{beyond_is_left, beyond_by_turn}
use Rattle.theory_parity.proofs.OnLineOver.{on_line_over}
use Rattle.theory_models.proofs.AbscissaeListed.{no_abscissa_is_none, none_is_no_abscissa}
use Rattle.theory_lines.specs.Slabs.{IsSlab}
use Rattle.theory_lines.proofs.EdgesOverASlab.{reaching_spans}
use Rattle.theory_lines.proofs.OneLiesBelow.{spanning_is_line}
use Rattle.theory_faces.specs.Sheets.{lines_across, heights_of, IsOverSlab}
use Rattle.theory_faces.specs.Laws.{HasPlainOffCuts}
use Rattle.theory_faces.proofs.Slabs.CellsRise.{way_x_is}
use Rattle.theory_faces.proofs.Points.PlainOffSides.{IsLevel, bottom_is_level, top_is_level, level_point}
use Rattle.theory_faces.proofs.Points.PlainOffSides.{frame_point, plan_point, on_spanning, upright_off}
use Rattle.theory_faces.proofs.Points.PlainOffSides.{IsSideOver, side_is_over, side_height}
use Rattle.theory_faces.proofs.Points.PlainOffSides.{plain_is_no_abscissa}

not_true : (b : Bool) → not b ≡ true → b ≡ false
not_true true answer = absurd (false≢true answer)
not_true false answer = refl

-- ---- the lists of cuts

module _ (low high : Arrow) (point : FacePoint) where
  -- off the line of each edge that spans is off all of them
  off_lines : (es : List PlanEdge)
      → ((e : PlanEdge) → Stands e es → is_across_slab axis_x low high e.edge ≡ true
      → is_on_side (line_over way_x e.edge) point ≡ false)
      → AllByRecursion (λ l. is_on_side l point ≡ false) (lines_across low high es)
  off_lines [] each = tt
  off_lines (e ∷ es) each =
      from (is_across_slab axis_x low high e.edge) (each e (inl refl))
      (off_lines es (λ g at. each g (inr at)))
    where
      from : (b : Bool) → (b ≡ true → is_on_side (line_over way_x e.edge) point ≡ false)
          → AllByRecursion (λ l. is_on_side l point ≡ false) (lines_across low high es)
          → AllByRecursion (λ l. is_on_side l point ≡ false)
          (if b then line_over way_x e.edge ∷ lines_across low high es
          else lines_across low high es)
      from true off rest = (off refl, rest)
      from false off rest = rest

-- the line of an edge that spans is one of them
line_stands : (low high : Arrow) (e : PlanEdge) (es : List PlanEdge) → Stands e es
    → is_across_slab axis_x low high e.edge ≡ true
    → Stands (line_over way_x e.edge) (lines_across low high es)
line_stands low high e [] at spans = at
line_stands low high e (g ∷ es) at spans =
    from (is_across_slab axis_x low high g.edge) refl at
    (λ later. line_stands low high e es later spans)
  where
    from : (b : Bool) → is_across_slab axis_x low high g.edge ≡ b → (e ≡ g) ⊎ Stands e es
        → (Stands e es → Stands (line_over way_x e.edge) (lines_across low high es))
        → Stands (line_over way_x e.edge)
        (if b then line_over way_x g.edge ∷ lines_across low high es else lines_across low high es)
    from true is (inl same) rest = inl (ap (λ (x : PlanEdge). line_over way_x x.edge) same)
    from true is (inr later) rest = inr (rest later)
    from false is (inl same) rest =
        absurd
        (false≢true
        (sym is ∙ ap (λ (x : PlanEdge). is_across_slab axis_x low high x.edge) (sym same) ∙ spans))
    from false is (inr later) rest = rest later

off_heights : (point : FacePoint) (qs : List Product)
    → ((q : Product) → Stands q qs → (is_on_side (level q.prism.z0) point ≡ false)
    × (is_on_side (level q.prism.z1) point ≡ false))
    → AllByRecursion (λ l. is_on_side l point ≡ false) (heights_of qs)
off_heights point [] each = tt
off_heights point (q ∷ qs) each =
    let here = each q (inl refl) in
    (here.0, (here.1, off_heights point qs (λ r at. each r (inr at))))

low_height_stands : (q : Product) (qs : List Product) → Stands q qs
    → Stands (level q.prism.z0) (heights_of qs)
low_height_stands q [] at = at
low_height_stands q (r ∷ qs) (inl same) = inl (ap (λ (x : Product). level x.prism.z0) same)
low_height_stands q (r ∷ qs) (inr later) = inr (inr (low_height_stands q qs later))

high_height_stands : (q : Product) (qs : List Product) → Stands q qs
    → Stands (level q.prism.z1) (heights_of qs)
high_height_stands q [] at = at
high_height_stands q (r ∷ qs) (inl same) = inr (inl (ap (λ (x : Product). level x.prism.z1) same))
high_height_stands q (r ∷ qs) (inr later) = inr (inr (high_height_stands q qs later))

-- ---- Bottom and Top

own_line : (l : LineSide) → IsZeroForm (clearance l l)
unfolding clearance
own_line l = (omega (arith, ints), omega (arith, ints))

-- a point of an edge that ends at no point over it is reached past by the edge
on_reaches : (d : Arrow) (p : Spot) (e : Edge) → ends_over (flat d) (abscissa_in d p) e ≡ false
    → is_on p e ≡ true → reaches_past d (abscissa_in d p) e ≡ true
on_reaches d p e no_end on =
    let u = abscissa_in d p in
    let ends =
    or_parts (int_eq (cross u (rational (abscissa_at e.a (flat d)) (pos 1))) (pos 0))
    (int_eq (cross u (rational (abscissa_at e.b (flat d)) (pos 1))) (pos 0)) no_end
    in
    let parts = and_parts (int_eq (turn_at e p) (pos 0)) (int_le (reach_at e p) (pos 0)) on in
    ap₂ differ (beyond_is_left d p e.a) (beyond_is_left d p e.b)
    ∙ differ-opposite (is_left_of (down_from d) p e.a) (is_left_of (down_from d) p e.b)
    (parted (down_from d) (seen_from p e.a) (seen_from p e.b)
    ((Decides-int_eq (turn_at e p) (pos 0)).0 parts.0) (at_most_from (reach_at e p) (pos 0) parts.1)
    (λ none.
    false≢true
    (sym ends.0
    ∙ (Decides-int_eq (cross u (rational (abscissa_at e.a (flat d)) (pos 1))) (pos 0)).1
    (beyond_by_turn d p e.a ∙ none)))
    (λ none.
    false≢true
    (sym ends.1
    ∙ (Decides-int_eq (cross u (rational (abscissa_at e.b (flat d)) (pos 1))) (pos 0)).1
    (beyond_by_turn d p e.b ∙ none))))

module _ (m : Building) (f : Surface) (low high : Arrow) (p : Spot) (low_in : IsRational low)
    (high_in : IsRational high) (wide : IsBelow low high) (level : IsLevel f)
    (near : AreNeighbours m axis_x low high) (p_is : IsSpot p) (over : IsOverSlab f low high p) where
  point : on_face f p ≡ plan_point p
  point = level_point f p level.across level.up

  after : IsBelow low (abscissa_of (plan_point p))
  after = subst (λ q. IsBelow low (abscissa_of q)) (level_point f p level.across level.up) over.after

  before : IsBelow (abscissa_of (plan_point p)) high
  before =
      subst (λ q. IsBelow (abscissa_of q) high) (level_point f p level.across level.up) over.before

  off_when_plain : is_off_level_cuts m p ≡ true
      → AllByRecursion (λ l. is_on_side l (on_face f p) ≡ false)
      (lines_across low high (plan_edges m))
  off_when_plain plain =
      off_lines low high (on_face f p) (plan_edges m)
      (λ e e_in spans.
      false_from_ne_true (is_on_side (line_over way_x e.edge) (on_face f p))
      (λ on.
      false≢true
      (sym
      (not_true (is_on_plan_edge m p)
      (and_parts (not (is_on_plan_edge m p)) (not (is_abscissa m axis_x (reading p axis_x))) plain).0)
      ∙ on_spanning m low high low_in high_in wide (line_over way_x e.edge)
      (spanning_is_line way_x low high low_in high_in wide e.edge spans)
      (e, (e_in, (spans, own_line (line_over way_x e.edge)))) p p_is after before
      (subst (λ q. is_on_side (line_over way_x e.edge) q ≡ true)
      (level_point f p level.across level.up) on))))

  slab : IsSlab m way_x low high
  slab = record { low_in = low_in; high_in = high_in; wide = wide; none = near.none }

  plain_when_off : is_abscissa m axis_x (abscissa_of (plan_point p)) ≡ false
      → AllByRecursion (λ l. is_on_side l (on_face f p) ≡ false)
      (lines_across low high (plan_edges m))
      → is_on_plan_edge m p ≡ false
  plain_when_off no_abscissa off =
      false_from_ne_true (is_on_plan_edge m p)
      (λ some. from (one_of_any (λ e. is_on p e.edge) (plan_edges m) some))
    where
      from : (e : PlanEdge) × (Stands e (plan_edges m) × (is_on p e.edge ≡ true)) → ⊥
      from (e, (e_in, on)) =
          let u = abscissa_of (plan_point p) in
          let none =
          or_parts (list_any (λ g. ends_over axis_x u g.edge) (plan_edges m))
          (list_any (λ g. list_any (λ h. cross_over axis_x u g.edge h.edge) (plan_edges m))
          (plan_edges m)) no_abscissa
          in
          let no_end : ends_over axis_x u e.edge ≡ false =
          false_from_ne_true (ends_over axis_x u e.edge)
          (λ ends.
          false≢true
          (sym none.0
          ∙ any_stands (λ g. ends_over axis_x u g.edge) e (plan_edges m) e_in ends)) in
          let reaches : reaches_past way_x u e.edge ≡ true =
          subst (λ q. reaches_past way_x (abscissa_of q) e.edge ≡ true) (frame_point p)
          (on_reaches way_x p e.edge
          (subst (λ q. ends_over axis_x (abscissa_of q) e.edge ≡ false) (sym (frame_point p)) no_end)
          on) in
          let spans =
          reaching_spans m way_x low high slab u p_is (at_most_from_below low u after) before e e_in
          reaches
          in
          let turn =
          (and_parts (int_eq (turn_at e.edge p) (pos 0)) (int_le (reach_at e.edge p) (pos 0)) on).0
          in
          let on_line : is_on_side (line_over way_x e.edge) (on_face f p) ≡ true =
          subst (λ q. is_on_side (line_over way_x e.edge) q ≡ true)
          (frame_point p ∙ sym (level_point f p level.across level.up))
          (on_line_over way_x p e.edge way_x_is p_is ∙ turn) in
          false≢true
          (sym
          (all_stands (λ l. is_on_side l (on_face f p) ≡ false) (line_over way_x e.edge)
          (lines_across low high (plan_edges m)) off
          (line_stands low high e (plan_edges m) e_in spans))
          ∙ on_line)

-- ---- sides

on_height : (z u v w : ℤ) → v ≡ z *ℤ w → is_on_side (level z) (face_point u v w) ≡ true
on_height z u v w same =
    (Decides-int_eq ((pos 1 *ℤ v) -ℤ (pos 0 *ℤ u)) (z *ℤ w)).1 (omega (arith, ints))

module _ (m : Building) (e : Edge) (f : Surface) (p : Spot) (is : IsSideOver e f) where
  upright_off_cuts : is_off_side_cuts m (Some e) p ≡ true
      → AllByRecursion (λ l. is_on_side l (on_face f p) ≡ false)
      (level m.ground_height ∷ heights_of (products_of m))
  upright_off_cuts plain = (
    upright_off m e f p is plain m.ground_height
        (or_right
        (list_any
        (λ q. int_eq m.ground_height q.prism.z0 || int_eq m.ground_height q.prism.z1)
        (products_of m))
        (int_eq m.ground_height m.ground_height)
        ((Decides-int_eq m.ground_height m.ground_height).1 refl)),
    off_heights (on_face f p) (products_of m)
        (λ q at. (
          upright_off m e f p is plain q.prism.z0
              (cut q.prism.z0 q at
              (or_left (int_eq q.prism.z0 q.prism.z0) (int_eq q.prism.z0 q.prism.z1)
              ((Decides-int_eq q.prism.z0 q.prism.z0).1 refl))),
          upright_off m e f p is plain q.prism.z1
              (cut q.prism.z1 q at
              (or_right (int_eq q.prism.z1 q.prism.z0) (int_eq q.prism.z1 q.prism.z1)
              ((Decides-int_eq q.prism.z1 q.prism.z1).1 refl))),
        )),
  )
    where
      cut : (z : ℤ) (q : Product) → Stands q (products_of m)
          → (int_eq z q.prism.z0 || int_eq z q.prism.z1) ≡ true → is_cut_height m z ≡ true
      cut z q at passes =
          or_left (list_any (λ r. int_eq z r.prism.z0 || int_eq z r.prism.z1) (products_of m))
          (int_eq z m.ground_height)
          (any_stands (λ r. int_eq z r.prism.z0 || int_eq z r.prism.z1) q (products_of m) at passes)

  on_cut : (z : ℤ) → p.z ≡ z *ℤ p.w → is_on_side (level z) (on_face f p) ≡ true
  on_cut z at =
      on_height z (times_w p f.across) (times_w p f.up) p.w (side_height e f p is ∙ at)

  upright_plain : is_abscissa m (direction_of e) (reading p (direction_of e)) ≡ false
      → AllByRecursion (λ l. is_on_side l (on_face f p) ≡ false)
      (level m.ground_height ∷ heights_of (products_of m))
      → is_off_side_cuts m (Some e) p ≡ true
  upright_plain no_abscissa off =
      and_from (not (is_abscissa m (direction_of e) (reading p (direction_of e))))
      (not (is_at_height m p) && not (is_at_ground m p))
      (not_from_false (is_abscissa m (direction_of e) (reading p (direction_of e))) no_abscissa)
      (and_from (not (is_at_height m p)) (not (is_at_ground m p))
      (not_from_false (is_at_height m p)
      (false_from_ne_true (is_at_height m p)
      (λ some.
      at_one
      (one_of_any
      (λ q. int_eq p.z (q.prism.z0 *ℤ p.w) || int_eq p.z (q.prism.z1 *ℤ p.w)) (products_of m)
      some))))
      (not_from_false (is_at_ground m p)
      (false_from_ne_true (is_at_ground m p)
      (λ at.
      false≢true
      (sym off.0
      ∙ on_cut m.ground_height ((Decides-int_eq p.z (m.ground_height *ℤ p.w)).0 at))))))
    where
      at_one : (q : Product) × (Stands q (products_of m)
          × ((int_eq p.z (q.prism.z0 *ℤ p.w) || int_eq p.z (q.prism.z1 *ℤ p.w)) ≡ true)) → ⊥
      at_one (q, (at, passes)) =
          ⊎_elim
          (λ low.
          false≢true
          (sym
          (all_stands (λ l. is_on_side l (on_face f p) ≡ false) (level q.prism.z0)
          (heights_of (products_of m)) off.1 (low_height_stands q (products_of m) at))
          ∙ on_cut q.prism.z0 ((Decides-int_eq p.z (q.prism.z0 *ℤ p.w)).0 low)))
          (λ high.
          false≢true
          (sym
          (all_stands (λ l. is_on_side l (on_face f p) ≡ false) (level q.prism.z1)
          (heights_of (products_of m)) off.1 (high_height_stands q (products_of m) at))
          ∙ on_cut q.prism.z1 ((Decides-int_eq p.z (q.prism.z1 *ℤ p.w)).0 high)))
          (or_cases (int_eq p.z (q.prism.z0 *ℤ p.w)) (int_eq p.z (q.prism.z1 *ℤ p.w)) passes)

-- ---- each face

-- the answer about the abscissae does not depend on how the direction is written
no_abscissa_of : (m : Building) (f : Surface) (p : Spot) → (d : Vector) → f.across ≡ d
    → is_abscissa m f.across (reading p f.across) ≡ false → is_abscissa m d (reading p d) ≡ false
no_abscissa_of m f p d same none =
    subst (λ e. is_abscissa m e (reading p e) ≡ false) same none

level_plain : (m : Building) (s : Upright) (k : FaceKind) (f : Surface) (low high : Arrow)
    (p : Spot) → IsRational low → IsRational high → IsBelow low high → IsLevel f
    → AreNeighbours m f.across low high → IsSpot p → IsOverSlab f low high p
    → is_of_face s k p ≡ true
    → (is_abscissa m f.across (reading p f.across) ≡ false
    → AllByRecursion (λ l. is_on_side l (on_face f p) ≡ false) (lines_across low high (plan_edges m))
    → is_off_level_cuts m p ≡ true)
level_plain m s k f low high p low_in high_in wide level near p_is over of_face no_abscissa off =
    let none = no_abscissa_of m f p axis_x level.across no_abscissa in
    and_from (not (is_on_plan_edge m p)) (not (is_abscissa m axis_x (reading p axis_x)))
    (not_from_false (is_on_plan_edge m p)
    (plain_when_off m f low high p low_in high_in wide level
    (subst (λ d. AreNeighbours m d low high) level.across near) p_is over
    (subst (λ q. is_abscissa m axis_x (abscissa_of q) ≡ false)
    (level_point f p level.across level.up)
    (subst (λ d. is_abscissa m axis_x (reading p d) ≡ false) (sym level.across) none)) off))
    (not_from_false (is_abscissa m axis_x (reading p axis_x)) none)

-- a point of a face over a slab is plain exactly where it is off the cuts
pub has_plain_off_cuts : HasPlainOffCuts
has_plain_off_cuts m s kind.Bottom f low high p f_is low_in high_in wide near p_is over of_face =
    let level = bottom_is_level s f f_is in (
      λ plain.
          record {
            no_abscissa =
                no_abscissa_is_none m f.across (abscissa_of (on_face f p))
                (plain_is_no_abscissa m s kind.Bottom f p f_is plain);
            no_cut =
                off_when_plain m f low high p low_in high_in wide level
                (subst (λ d. AreNeighbours m d low high) level.across near) p_is over
                (and_parts (is_of_face s kind.Bottom p) (is_off_cuts m s kind.Bottom p) plain).1;
          },
      λ off.
          and_from (is_of_face s kind.Bottom p) (is_off_cuts m s kind.Bottom p) of_face
          (level_plain m s kind.Bottom f low high p low_in high_in wide level near p_is over of_face
          (none_is_no_abscissa m f.across (abscissa_of (on_face f p)) off.no_abscissa) off.no_cut),
    )
has_plain_off_cuts m s kind.Top f low high p f_is low_in high_in wide near p_is over of_face =
    let level = top_is_level s f f_is in (
      λ plain.
          record {
            no_abscissa =
                no_abscissa_is_none m f.across (abscissa_of (on_face f p))
                (plain_is_no_abscissa m s kind.Top f p f_is plain);
            no_cut =
                off_when_plain m f low high p low_in high_in wide level
                (subst (λ d. AreNeighbours m d low high) level.across near) p_is over
                (and_parts (is_of_face s kind.Top p) (is_off_cuts m s kind.Top p) plain).1;
          },
      λ off.
          and_from (is_of_face s kind.Top p) (is_off_cuts m s kind.Top p) of_face
          (level_plain m s kind.Top f low high p low_in high_in wide level near p_is over of_face
          (none_is_no_abscissa m f.across (abscissa_of (on_face f p)) off.no_abscissa) off.no_cut),
    )
has_plain_off_cuts m s (kind.Side k) f low high p f_is low_in high_in wide near p_is over of_face = (
  λ plain.
      record {
        no_abscissa =
            no_abscissa_is_none m f.across (abscissa_of (on_face f p))
            (plain_is_no_abscissa m s (kind.Side k) f p f_is plain);
        no_cut =
            to_off (edge_numbered s k) f_is
            (and_parts (is_of_face s (kind.Side k) p) (is_off_cuts m s (kind.Side k) p) plain).1;
      },
  λ off.
      and_from (is_of_face s (kind.Side k) p) (is_off_cuts m s (kind.Side k) p) of_face
      (to_plain (edge_numbered s k) f_is
      (none_is_no_abscissa m f.across (abscissa_of (on_face f p)) off.no_abscissa) off.no_cut),
)
  where
    to_off : (o : Option Edge) → side_of o ≡ Some f → is_off_side_cuts m o p ≡ true
        → AllByRecursion (λ l. is_on_side l (on_face f p) ≡ false)
        (level m.ground_height ∷ heights_of (products_of m))
    to_off None side plain = absurd (none-some f side)
    to_off (Some e) side plain = upright_off_cuts m e f p (side_is_over e f side) plain

    to_plain : (o : Option Edge) → side_of o ≡ Some f
        → is_abscissa m f.across (reading p f.across) ≡ false
        → AllByRecursion (λ l. is_on_side l (on_face f p) ≡ false)
        (level m.ground_height ∷ heights_of (products_of m))
        → is_off_side_cuts m o p ≡ true
    to_plain None side none off = absurd (none-some f side)
    to_plain (Some e) side none off =
        let is = side_is_over e f side in
        upright_plain m e f p is (no_abscissa_of m f p (direction_of e) is.across none) off
