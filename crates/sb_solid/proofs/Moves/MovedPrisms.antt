-- A prism that is kept, moved to where its solid lies on the grid.
use Rattle.std.proofs.Common.{◌≡◌, ℤ, ◌+ℤ◌, ◌<ℤ◌, Bool, true, false, not, ◌&&◌, List, [], ◌∷◌, Some, None, Ok, Err, refl, sym, ap, ap₂, ◌∙◌, arith}
use Rattle.std.specs.Prelude.{Result, int_lt, if◌then◌else◌}
use Rattle.std.specs.List.{list_all}
use Rattle.std.proofs.lemmas.Int.{ints}
use Rattle.std.proofs.lemmas.Bool.{and_parts, and_from, or_from, false≢true}
use Rattle.theory_numbers.specs.Arrows.{Arrow}
use Rattle.theory_numbers.proofs.Signs.{less_from}
use Rattle.sb_fraction.specs.declared.point.Point.{Point}
use Rattle.sb_fraction.specs.Spots.{Vector}
use Rattle.sb_fraction.specs.Plane.{is_plan_point, is_coordinate}
use Rattle.theory_plans.specs.Plans.{is_plan}
use Rattle.theory_loops.specs.Answers.{are_flat, are_knotted, plan_of}
use Rattle.theory_loops.proofs.PlansStay.{plan_stays}
use Rattle.theory_shifts.specs.Shifts.{moved, moved_loops}
use Rattle.theory_shifts.proofs.PlansMove.{still_plan}
use Rattle.sb_model.specs.Frames.{sum_of}
use Rattle.sb_model.specs.Solids.{Upright, upright, is_upright, is_height}
use Rattle.sb_solid.specs.declared.placing.Placing.{Placing}
use Rattle.sb_solid.specs.declared.moving.Displacement.{Displacement}
use Rattle.sb_solid.specs.declared.error.SolidError.{SolidError}
use Rattle.sb_solid.specs.declared.error.SolidError.TheVariants as solid_error
use Rattle.sb_solid.specs.Grid.{is_in_world, nearest_millimetre}
use Rattle.sb_solid.specs.Solids.{Extruded, is_beyond, is_off_grid, in_millimetres, near_loops, far_loops, first_in, prism_at, JudgesAt}
use Rattle.sb_solid.specs.Judged.{IsPlacingOf, anchor_at, steps_of, PlacedAt}
use Rattle.sb_solid.specs.Boxes.{plan_where}
use Rattle.sb_solid.specs.Moving.{steps_at, in_plan, moved_upright, is_in_range, IsMoved}
use Rattle.sb_solid.proofs.Coordinates.EveryPoint.{every, every-map, every-from, world-every, at_both, at_ends}
use Rattle.sb_solid.proofs.PrismsInRange.{are_coordinates, millimetre_in_range, prism_in_range}
use Rattle.sb_solid.proofs.Moves.JudgedAnswers.{kept_some}

-- ---- a plan that is moved into range comes out as it is

pub moved_stays : (d : Arrow) (loops : List (List Point)) → is_plan loops ≡ true
    → list_all (list_all is_plan_point) (moved_loops d loops) ≡ true
    → plan_where (moved_loops d loops) ≡ Some (moved_loops d loops)
moved_stays d loops is all =
    let stays = plan_stays (moved_loops d loops) (still_plan d loops is all) in
    ap (λ t. if t then None else Some (plan_of (moved_loops d loops)))
    (or_from (are_flat (moved_loops d loops)) (are_knotted (moved_loops d loops)) stays.0 stays.1.0)
    ∙ ap Some stays.1.1

-- so the plan of what is moved is this, and there is one
pub plan_is_moved : (d : Arrow) (loops points plan : List (List Point)) → is_plan loops ≡ true
    → points ≡ moved_loops d loops → list_all (list_all is_plan_point) points ≡ true → Some plan ≡ plan_where points
    → plan ≡ moved_loops d loops
plan_is_moved d loops points plan is same all some =
    let e : Some plan ≡ Some (moved_loops d loops) =
    some ∙ ap plan_where same
    ∙ moved_stays d loops is (ap (list_all (list_all is_plan_point)) (sym same) ∙ all) in
    cc

pub plan_is_some : (d : Arrow) (loops points : List (List Point)) → is_plan loops ≡ true
    → points ≡ moved_loops d loops → list_all (list_all is_plan_point) points ≡ true → None ≡ plan_where points → ⊥
plan_is_some d loops points is same all none =
    let e : None ≡ Some (moved_loops d loops) =
    none ∙ ap plan_where same
    ∙ moved_stays d loops is (ap (list_all (list_all is_plan_point)) (sym same) ∙ all) in
    absurd (cc)

pub prism_made : (v : Vector) (p : Upright) (loops : List (List Point)) (z0 z1 : ℤ)
    → loops ≡ moved_loops (in_plan v) p.loops → z0 ≡ p.z0 +ℤ v.z → z1 ≡ p.z1 +ℤ v.z
    → upright loops z0 z1 ≡ moved_upright v p
prism_made v p loops z0 z1 plan low high =
    ap (λ l. upright l z0 z1) plan ∙ ap₂ (λ s t. upright (moved_loops (in_plan v) p.loops) s t) low high

-- ---- a prism that is moved out of range

second_fails : (a b : Bool) → b ≡ false → (a && b) ≡ false
second_fails true b fails = fails
second_fails false b fails = refl

pub plan_beyond : (v : Vector) (p : Upright)
    → list_all (list_all (λ q. is_plan_point (moved (in_plan v) q))) p.loops ≡ false
    → is_in_range (moved_upright v p) ≡ false
plan_beyond v p fails =
    ap (λ t. t && (is_coordinate (p.z0 +ℤ v.z) && is_coordinate (p.z1 +ℤ v.z)))
    (every-map is_plan_point (moved (in_plan v)) p.loops ∙ fails)

pub low_beyond : (v : Vector) (p : Upright) → is_coordinate (p.z0 +ℤ v.z) ≡ false
    → is_in_range (moved_upright v p) ≡ false
low_beyond v p fails =
    second_fails (list_all (list_all is_plan_point) (moved_loops (in_plan v) p.loops)) _
    (ap (λ t. t && is_coordinate (p.z1 +ℤ v.z)) fails)

pub high_beyond : (v : Vector) (p : Upright) → is_coordinate (p.z1 +ℤ v.z) ≡ false
    → is_in_range (moved_upright v p) ≡ false
high_beyond v p fails =
    second_fails (list_all (list_all is_plan_point) (moved_loops (in_plan v) p.loops)) _
    (second_fails (is_coordinate (p.z0 +ℤ v.z)) (is_coordinate (p.z1 +ℤ v.z)) fails)

still_less : (a b d m n : ℤ) → a <ℤ b → m ≡ a +ℤ d → n ≡ b +ℤ d → m <ℤ n
still_less a b d m n less first second = omega (arith, ints, less, first, second)

order_of : (s : Upright) → is_upright s ≡ true → s.z0 <ℤ s.z1
order_of s is =
    less_from s.z0 s.z1
    (and_parts (is_plan s.loops) (int_lt s.z0 s.z1)
    (and_parts (is_plan s.loops && int_lt s.z0 s.z1) (is_height s.z0)
    (and_parts (is_plan s.loops && int_lt s.z0 s.z1 && is_height s.z0) (is_height s.z1) is).0).0).1

pub plan_in : (s : Upright) → is_upright s ≡ true → is_plan s.loops ≡ true
plan_in s is =
    (and_parts (is_plan s.loops) (int_lt s.z0 s.z1)
    (and_parts (is_plan s.loops && int_lt s.z0 s.z1) (is_height s.z0)
    (and_parts (is_plan s.loops && int_lt s.z0 s.z1 && is_height s.z0) (is_height s.z1) is).0).0).0

-- heights that are moved keep their order
pub still_below : (p : Upright) (d m n : ℤ) → is_upright p ≡ true → m ≡ p.z0 +ℤ d → n ≡ p.z1 +ℤ d → m <ℤ n
still_below p d m n is low high = still_less p.z0 p.z1 d m n (order_of p is) low high

-- ---- a solid in range has a prism in range

was_true : (b : Bool) → not b ≡ false → b ≡ true
was_true true e = refl
was_true false e = sym e

three : (v : Vector) → is_in_world v.x ≡ true → is_in_world v.y ≡ true → is_in_world v.z ≡ true
    → are_coordinates (in_millimetres v) ≡ true
three v x y z =
    and_from (is_coordinate (nearest_millimetre v.x)) _ (millimetre_in_range v.x x)
    (and_from (is_coordinate (nearest_millimetre v.y)) (is_coordinate (nearest_millimetre v.z))
    (millimetre_in_range v.y y) (millimetre_in_range v.z z))

same_sum : (n w s : ℤ) → n +ℤ (w +ℤ s) ≡ (n +ℤ w) +ℤ s
same_sum n w s = omega (arith, ints)

further_in : (n w s : ℤ) → is_in_world (n +ℤ (w +ℤ s)) ≡ true → is_in_world ((n +ℤ w) +ℤ s) ≡ true
further_in n w s is = ap is_in_world (sym (same_sum n w s)) ∙ is

both_in : (shift way p : Vector) → at_ends is_in_world shift way p ≡ true
    → (are_coordinates (in_millimetres (sum_of p shift)) ≡ true)
    × (are_coordinates (in_millimetres (sum_of (sum_of p way) shift)) ≡ true)
both_in shift way p all =
    let one = and_parts (at_both is_in_world shift.x way.x p.x)
    (at_both is_in_world shift.y way.y p.y && at_both is_in_world shift.z way.z p.z) all in
    let two = and_parts (at_both is_in_world shift.y way.y p.y) (at_both is_in_world shift.z way.z p.z) one.1 in
    let x = and_parts (is_in_world (p.x +ℤ shift.x)) (is_in_world (p.x +ℤ (way.x +ℤ shift.x))) one.0 in
    let y = and_parts (is_in_world (p.y +ℤ shift.y)) (is_in_world (p.y +ℤ (way.y +ℤ shift.y))) two.0 in
    let z = and_parts (is_in_world (p.z +ℤ shift.z)) (is_in_world (p.z +ℤ (way.z +ℤ shift.z))) two.1 in (
      three (sum_of p shift) x.0 y.0 z.0,
      three (sum_of (sum_of p way) shift) (further_in p.x way.x shift.x x.1) (further_in p.y way.y shift.y y.1)
          (further_in p.z way.z shift.z z.1),
    )

first_is : (loops : List (List Vector)) → every are_coordinates loops ≡ true → are_coordinates (first_in loops) ≡ true
first_is [] all = refl
first_is ([] ∷ loops) all = refl
first_is ((p ∷ l) ∷ loops) all =
    (and_parts (are_coordinates p) (list_all are_coordinates l)
    (and_parts (list_all are_coordinates (p ∷ l)) (every are_coordinates loops) all).0).0

pub solid_in_range : (e : Extruded) (shift : Vector) (q : Upright) → is_beyond e shift ≡ false
    → prism_at e shift ≡ Some q → is_in_range q ≡ true
solid_in_range e shift q inside is =
    prism_in_range e.along (near_loops e shift) (first_in (near_loops e shift)) (first_in (far_loops e shift)) q near
    (first_is (near_loops e shift) near) (first_is (far_loops e shift) far) is
  where
    each : every (at_ends is_in_world shift e.way) e.loops ≡ true
    each = sym (world-every is_in_world e shift) ∙ was_true _ inside

    near : every are_coordinates (near_loops e shift) ≡ true
    near =
        every-map are_coordinates (λ p. in_millimetres (sum_of p shift)) e.loops
        ∙ every-from (at_ends is_in_world shift e.way) (λ p. are_coordinates (in_millimetres (sum_of p shift)))
        (λ p at. (both_in shift e.way p at).0) e.loops each

    far : every are_coordinates (far_loops e shift) ≡ true
    far =
        every-map are_coordinates (λ p. in_millimetres (sum_of (sum_of p e.way) shift)) e.loops
        ∙ every-from (at_ends is_in_world shift e.way) (λ p. are_coordinates (in_millimetres (sum_of (sum_of p e.way) shift)))
        (λ p at. (both_in shift e.way p at).1) e.loops each

-- ---- the answer

never_beyond : (e : Extruded) (p : Placing) (shift : Vector) → IsPlacingOf e p → is_beyond e shift ≡ false
    → is_off_grid e shift ≡ false → (q : Upright) → p.prism ≡ Some q → (s : Displacement)
    → steps_at s ≡ steps_of (anchor_at p e.way) shift → is_in_range (moved_upright (steps_at s) q) ≡ false → ⊥
never_beyond e p shift is inside on_grid q some s steps beyond =
    false≢true
    (sym beyond
    ∙ solid_in_range e shift (moved_upright (steps_at s) q) inside
    (kept_some e p shift is inside on_grid q some ∙ ap Some (ap (λ w. moved_upright w q) (sym steps))))

pub moved_answers : (e : Extruded) (p : Placing) (shift : Vector) → IsPlacingOf e p → is_beyond e shift ≡ false
    → is_off_grid e shift ≡ false → (q : Upright) → p.prism ≡ Some q → (s : Displacement)
    → steps_at s ≡ steps_of (anchor_at p e.way) shift → (result : Result Upright SolidError) → IsMoved s q result
    → JudgesAt e shift result
moved_answers e p shift is inside on_grid q some s steps (Ok r) made = (
  inside,
  on_grid,
  kept_some e p shift is inside on_grid q some ∙ ap Some (ap (λ w. moved_upright w q) (sym steps) ∙ sym made),
)
moved_answers e p shift is inside on_grid q some s steps (Err solid_error.NoMemory) made = tt
moved_answers e p shift is inside on_grid q some s steps (Err solid_error.Range) made =
    absurd (never_beyond e p shift is inside on_grid q some s steps made)
moved_answers e p shift is inside on_grid q some s steps (Err solid_error.OffGrid) made =
    absurd (never_beyond e p shift is inside on_grid q some s steps made)
moved_answers e p shift is inside on_grid q some s steps (Err solid_error.Loops) made =
    absurd (never_beyond e p shift is inside on_grid q some s steps made)

-- why a solid has no prism is the same for the count of its points
pub placed_is : (e : Extruded) (shift : Vector) (error : SolidError) → PlacedAt e shift (Err error)
    → JudgesAt e shift (Err error)
placed_is e shift solid_error.Range is = is
placed_is e shift solid_error.OffGrid is = is
placed_is e shift solid_error.Loops is = is
placed_is e shift solid_error.NoMemory is = tt
