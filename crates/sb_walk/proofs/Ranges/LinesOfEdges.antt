-- The line through an edge that spans a slab is its side, and between two of which the one lies below the
-- other stands a patch.

use Rattle.std.proofs.Common.{◌≡◌, ◌⊎◌, inl, inr, refl, sym, ap, ◌∙◌, subst, arith, ℤ, pos, neg_ℤ, ◌<ℤ◌}
use Rattle.std.proofs.Common.{◌-ℤ◌, ◌*ℤ◌, ◌≤◌, Bool, true, false, ◌&&◌, int_lt, unsigned_abs, IsTrue}
use Rattle.std.proofs.Common.{if◌then◌else◌}
use Rattle.std.specs.Ordering.{int_eq}
use Rattle.std.specs.Prelude.{nat_le}
use Rattle.std.proofs.lemmas.Int.{ints}
use Rattle.std.proofs.lemmas.Bool.{and_from, and_parts, or_cases, le-leb}
use Rattle.std.proofs.lemmas.Bool.Decides.{Decides-int_eq}
use Rattle.theory_numbers.specs.Arrows.{Arrow, cross, dot, opposite}
use Rattle.theory_numbers.specs.Divisors.{are_coprime}
use Rattle.theory_numbers.specs.Fractions.{Ratio}
use Rattle.theory_numbers.specs.Rationals.{IsRational, IsBelow}
use Rattle.theory_numbers.specs.Tests.{is_positive}
use Rattle.theory_numbers.proofs.Ring.{mul-zero}
use Rattle.theory_numbers.proofs.Shapes.{var, num, plus, minus, times, negated, equal, cross_by, dot_by, dot_eq}
use Rattle.theory_numbers.proofs.Signs.{less_from, test_less}
use Rattle.theory_plane.specs.Regions.{is_region}
use Rattle.theory_plane.specs.Sides.{LineSide, line, IsLineSide, clearance, clearance_at}
use Rattle.theory_plane.proofs.Clearance.{clearance-turn, at_most_below_trans, below_at_most_trans as under_at_most}
use Rattle.theory_plane.proofs.LeadsUntilMeeting.{value-zero_form}
use Rattle.theory_plane.proofs.Regions.{region_if_open, region_passes}
use Rattle.theory_plans.proofs.Edges.EdgesOfPlans.{is_proper_edge}
use Rattle.theory_plans.proofs.Edges.StepsOfEdges.{IsStep, step_is, direction_along, direction_against}
use Rattle.sb_fraction.specs.declared.direction.Direction.{Direction}
use Rattle.sb_fraction.specs.declared.direction.Line.{Line}
use Rattle.sb_fraction.specs.Directions.{step, runs_along, direction_of, offset_of}
use Rattle.sb_fraction.specs.Edges.{Edge, span_of}
use Rattle.sb_fraction.specs.Lines.{arrow_along, flat, line_over, span_along, place}
use Rattle.sb_fraction.specs.Numbers.{number}
use Rattle.sb_fraction.specs.Plane.{is_forward, longest_step}
use Rattle.sb_fraction.specs.Spots.{Vector}
use Rattle.sb_model.specs.declared.faces.face.FaceKind.{FaceKind}
use Rattle.sb_model.specs.declared.faces.face.FaceKind.TheVariants as kind
use Rattle.sb_model.specs.declared.faces.face.Side.TheVariants.{OnLine}
use Rattle.sb_model.specs.Surfaces.FineCells.{way_x, IsLineOf}
use Rattle.sb_model.specs.Surfaces.Sides.{line_of, is_abscissa_size, is_side_of, is_patch, region_between, greatest_offset}
use Rattle.theory_lines.specs.Slabs.{IsUnder}
use Rattle.sb_walk.specs.PointsOfCells.{is_level}

-- ---- the direction of an edge

-- it is parallel to the way from end to end
along_way : (e : Edge) → IsStep e
    → (span_of e).x *ℤ (direction_of e).y ≡ (span_of e).y *ℤ (direction_of e).x
along_way e s = from (runs_along e) refl
  where
    from : (b : Bool) → runs_along e ≡ b
        → (span_of e).x *ℤ (direction_of e).y ≡ (span_of e).y *ℤ (direction_of e).x
    from true runs =
        subst (λ (d : Vector). (span_of e).x *ℤ d.y ≡ (span_of e).y *ℤ d.x)
        (sym (direction_along e runs))
        (ap (λ k. k *ℤ (step e).y) s.x
        ∙ equal (times (times (var (pos s.times)) (var (step e).x)) (var (step e).y))
        (times (times (var (pos s.times)) (var (step e).y)) (var (step e).x)) (omega arith)
        ∙ ap (λ k. k *ℤ (step e).x) (sym s.y))
    from false runs =
        subst (λ (d : Vector). (span_of e).x *ℤ d.y ≡ (span_of e).y *ℤ d.x)
        (sym (direction_against e runs))
        (ap (λ k. k *ℤ neg_ℤ (step e).y) s.x
        ∙ equal (times (times (var (pos s.times)) (var (step e).x)) (negated (var (step e).y)))
        (times (times (var (pos s.times)) (var (step e).y)) (negated (var (step e).x))) (omega arith)
        ∙ ap (λ k. k *ℤ neg_ℤ (step e).x) (sym s.y))

-- turned along (1, 0) or not
along_turned : (e : Edge) → IsStep e
    → (span_along way_x e).x *ℤ (direction_of e).y ≡ (span_along way_x e).y *ℤ (direction_of e).x
unfolding span_along
along_turned e s = from (is_positive (dot way_x (span_of e)))
  where
    from : (b : Bool)
        → (if b then span_of e else opposite (span_of e)).x *ℤ (direction_of e).y
        ≡ (if b then span_of e else opposite (span_of e)).y *ℤ (direction_of e).x
    from true = along_way e s
    from false =
        equal (times (negated (var (span_of e).x)) (var (direction_of e).y))
        (negated (times (var (span_of e).x) (var (direction_of e).y))) (omega arith)
        ∙ ap neg_ℤ (along_way e s)
        ∙ equal (negated (times (var (span_of e).y) (var (direction_of e).x)))
        (times (negated (var (span_of e).y)) (var (direction_of e).x)) (omega arith)

-- ---- its line

zero_less : (a b : ℤ) → a ≡ b → a -ℤ b ≡ pos 0
zero_less a b same = omega (arith, ints)

-- a line of this direction through the edge's beginning
through : (s a d : Arrow) → s.x *ℤ d.y ≡ s.y *ℤ d.x
    → ((clearance (line d.x d.y ((a.y *ℤ d.x) -ℤ (a.x *ℤ d.y)))
    (line (dot way_x s) (cross way_x s) (dot way_x way_x *ℤ cross s a))).x ≡ pos 0)
    × ((clearance (line d.x d.y ((a.y *ℤ d.x) -ℤ (a.x *ℤ d.y)))
    (line (dot way_x s) (cross way_x s) (dot way_x way_x *ℤ cross s a))).y ≡ pos 0)
unfolding clearance
through s a d same = (
  equal
      (minus
      (times
      (times (dot_by way_x way_x (num 1) (num 0) (num 1) (num 0))
      (cross_by s a (var s.x) (var s.y) (var a.x) (var a.y))) (var d.x))
      (times (minus (times (var a.y) (var d.x)) (times (var a.x) (var d.y)))
      (dot_by way_x s (num 1) (num 0) (var s.x) (var s.y))))
      (times (var a.x) (minus (times (var s.x) (var d.y)) (times (var s.y) (var d.x)))) (omega arith)
      ∙ ap (λ k. a.x *ℤ k) (zero_less (s.x *ℤ d.y) (s.y *ℤ d.x) same) ∙ mul-zero a.x,
  equal
      (minus (times (cross_by way_x s (num 1) (num 0) (var s.x) (var s.y)) (var d.x))
      (times (var d.y) (dot_by way_x s (num 1) (num 0) (var s.x) (var s.y))))
      (minus (times (var s.y) (var d.x)) (times (var s.x) (var d.y))) (omega arith)
      ∙ zero_less (s.y *ℤ d.x) (s.x *ℤ d.y) (sym same),
)

-- the line through an edge is its side
pub line_is_of : (l : Line) (e : Edge) → is_proper_edge e ≡ true
    → flat (arrow_along l.dir) ≡ direction_of e → l.off ≡ offset_of e
    → IsLineOf (line_of (OnLine l)) e
unfolding offset_of
line_is_of l e proper dir_is off_is =
    subst (λ k. IsLineOf (line l.dir.x l.dir.y k) e)
    (sym
    (off_is ∙ ap (λ (v : Vector). (e.a.y *ℤ v.x) -ℤ (e.a.x *ℤ v.y)) (sym dir_is)))
    (through (span_along way_x e) (place e.a) (arrow_along l.dir)
    (subst (λ (v : Vector). (span_along way_x e).x *ℤ v.y ≡ (span_along way_x e).y *ℤ v.x) (sym dir_is)
    (along_turned e (step_is e proper))))

-- ---- it runs forward in x

no_way : (s d : Arrow) → s.x *ℤ d.y ≡ s.y *ℤ d.x → d.x ≡ pos 0 → d.y ≡ pos 1 → s.x ≡ pos 0
no_way s d same none up =
    equal (var s.x) (times (var s.x) (num 1)) (omega arith)
    ∙ ap (λ k. s.x *ℤ k) (sym up) ∙ same ∙ ap (λ k. s.y *ℤ k) none ∙ mul-zero s.y

forward_if : (s d : Arrow) → s.x *ℤ d.y ≡ s.y *ℤ d.x → pos 0 <ℤ s.x → is_forward d.x d.y ≡ true
    → pos 0 <ℤ d.x
forward_if s d same right forward =
    from (or_cases (int_lt (pos 0) d.x) (int_eq d.x (pos 0) && int_eq d.y (pos 1)) forward)
  where
    from : (int_lt (pos 0) d.x ≡ true) ⊎ ((int_eq d.x (pos 0) && int_eq d.y (pos 1)) ≡ true)
        → pos 0 <ℤ d.x
    from (inl less) = less_from (pos 0) d.x less
    from (inr up) =
        let parts = and_parts (int_eq d.x (pos 0)) (int_eq d.y (pos 1)) up in
        let none =
        no_way s d same ((Decides-int_eq d.x (pos 0)).0 parts.0) ((Decides-int_eq d.y (pos 1)).0 parts.1)
        in
        absurd (omega (arith, ints))

direction_forward : (d : Direction) → is_forward d.x d.y ≡ true
direction_forward d =
    (and_parts (are_coprime (unsigned_abs d.x) (unsigned_abs d.y)) (is_forward d.x d.y)
    (and_parts (are_coprime (unsigned_abs d.x) (unsigned_abs d.y) && is_forward d.x d.y)
    (nat_le (unsigned_abs d.x) longest_step)
    (and_parts (are_coprime (unsigned_abs d.x) (unsigned_abs d.y) && is_forward d.x d.y
    && nat_le (unsigned_abs d.x) longest_step) (nat_le (unsigned_abs d.y) longest_step)
    d.is_direction).0).0).1

-- where the edge does
pub line_runs_forward : (l : Line) (e : Edge) → is_proper_edge e ≡ true
    → flat (arrow_along l.dir) ≡ direction_of e → IsLineSide (line_over way_x e) → pos 0 <ℤ l.dir.x
line_runs_forward l e proper dir_is over =
    forward_if (span_along way_x e) (arrow_along l.dir)
    (subst (λ (v : Vector). (span_along way_x e).x *ℤ v.y ≡ (span_along way_x e).y *ℤ v.x) (sym dir_is)
    (along_turned e (step_is e proper)))
    (subst (λ k. pos 0 <ℤ k)
    (dot_eq way_x (span_along way_x e)
    ∙ equal
    (plus (times (num 1) (var (span_along way_x e).x)) (times (num 0) (var (span_along way_x e).y)))
    (var (span_along way_x e).x) (omega arith))
    over)
    (direction_forward l.dir)

pub line_is_side : (l : Line) → pos 0 <ℤ l.dir.x → unsigned_abs l.off ≤ greatest_offset
    → (k : FaceKind) → is_level k ≡ true → is_side_of k (OnLine l) ≡ true
line_is_side l right size kind.Bottom level =
    and_from (int_lt (pos 0) l.dir.x) (nat_le (unsigned_abs l.off) greatest_offset)
    (test_less (pos 0) l.dir.x right) (le-leb (unsigned_abs l.off) greatest_offset size)
line_is_side l right size kind.Top level =
    and_from (int_lt (pos 0) l.dir.x) (nat_le (unsigned_abs l.off) greatest_offset)
    (test_less (pos 0) l.dir.x right) (le-leb (unsigned_abs l.off) greatest_offset size)
line_is_side l right size (kind.Side k) level = absurd cc

-- ---- between two lines

-- the sides of two edges lie as the edges do
sides_clear : (l k : LineSide) (e f : Edge) → IsLineSide l → IsLineSide k
    → IsLineSide (line_over way_x e) → IsLineSide (line_over way_x f) → IsLineOf l e → IsLineOf k f
    → (u : Arrow) → pos 0 <ℤ clearance_at (line_over way_x e) (line_over way_x f) u
    → pos 0 <ℤ clearance_at l k u
sides_clear l k e f l_in k_in e_in f_in l_is k_is u above =
    let first = value-zero_form (clearance l (line_over way_x e)) u l_is in
    let last = value-zero_form (clearance k (line_over way_x f)) u k_is in
    let turn = clearance-turn k (line_over way_x f) u in
    under_at_most l (line_over way_x f) k u l_in f_in k_in
    (at_most_below_trans l (line_over way_x e) (line_over way_x f) u l_in e_in f_in
    (omega (arith, ints)) above)
    (omega (arith, ints))

-- a patch stands between them
pub patch_between : (low high : Ratio) (l k : Line) (e f : Edge)
    → (is_abscissa_size low && is_abscissa_size high) ≡ true → IsRational (number low)
    → IsRational (number high) → IsBelow (number low) (number high) → is_proper_edge e ≡ true
    → is_proper_edge f ≡ true → flat (arrow_along l.dir) ≡ direction_of e → l.off ≡ offset_of e
    → unsigned_abs l.off ≤ greatest_offset → flat (arrow_along k.dir) ≡ direction_of f
    → k.off ≡ offset_of f → unsigned_abs k.off ≤ greatest_offset → IsLineSide (line_over way_x e)
    → IsLineSide (line_over way_x f) → IsUnder way_x (number low) (number high) e f
    → (face : FaceKind) → is_level face ≡ true
    → IsTrue (is_patch face low high (OnLine l) (OnLine k))
patch_between low high l k e f sizes low_in high_in wide proper_e proper_f l_dir l_off l_size k_dir k_off
    k_size e_in f_in under face level =
    and_from (is_abscissa_size low && is_abscissa_size high)
    ((is_side_of face (OnLine l) && is_side_of face (OnLine k))
    && is_region (region_between low high (OnLine l) (OnLine k)))
    sizes
    (and_from (is_side_of face (OnLine l) && is_side_of face (OnLine k))
    (is_region (region_between low high (OnLine l) (OnLine k)))
    (and_from (is_side_of face (OnLine l)) (is_side_of face (OnLine k))
    (line_is_side l l_right l_size face level) (line_is_side k k_right k_size face level))
    (region_passes (region_between low high (OnLine l) (OnLine k))
    (region_if_open (region_between low high (OnLine l) (OnLine k)) low_in high_in l_right k_right wide
    (λ u u_in after before.
    sides_clear (line_of (OnLine l)) (line_of (OnLine k)) e f l_right k_right e_in f_in
    (line_is_of l e proper_e l_dir l_off) (line_is_of k f proper_f k_dir k_off) u
    (under u u_in after before)))))
  where
    l_right : pos 0 <ℤ l.dir.x
    l_right = line_runs_forward l e proper_e l_dir e_in

    k_right : pos 0 <ℤ k.dir.x
    k_right = line_runs_forward k f proper_f k_dir f_in
