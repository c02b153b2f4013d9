-- What is kept of a solid answers for each shift.
use Rattle.std.proofs.Common.{◌≡◌, ℤ, ◌≤◌, ◌+ℤ◌, Bool, true, false, not, ◌&&◌, List, [], ◌∷◌, ◌++◌, map, length, Some, None, refl, sym, ap, ap₂, ◌∙◌, arith, ◌^◌}
use Rattle.std.specs.Prelude.{unsigned_abs}
use Rattle.std.specs.List.{list_all}
use Rattle.std.specs.Option.{option_map}
use Rattle.std.proofs.lemmas.Int.{ints}
use Rattle.std.proofs.lemmas.Bool.{and_parts, and_from, leb-true, le-leb, false≢true}
use Rattle.std.proofs.lemmas.List.{length-map}
use Rattle.theory_plans.specs.Plans.{corners_in}
use Rattle.theory_shifts.proofs.EdgesMove.{corners-moved}
use Rattle.sb_fraction.specs.Spots.{Vector}
use Rattle.sb_model.specs.Frames.{sum_of}
use Rattle.sb_model.specs.Solids.{Upright}
use Rattle.sb_solid.specs.declared.points.axes.Coordinate.{Coordinate}
use Rattle.sb_solid.specs.declared.points.axes.Coordinate.TheVariants as coordinate
use Rattle.sb_solid.specs.declared.placing.Placing.{Placing}
use Rattle.sb_solid.specs.Grid.{is_near, is_in_world}
use Rattle.sb_solid.specs.Sizes.{is_small, is_wide}
use Rattle.sb_solid.specs.Solids.{Extruded, each_coordinate, world_points, is_beyond, is_off_grid, in_millimetres, prism_at, first_in}
use Rattle.sb_solid.specs.Steps.{coordinate_of, are_wide}
use Rattle.sb_solid.specs.Spans.{Reaches}
use Rattle.sb_solid.specs.Judged.{numbers_in, AreSpansOf, IsPlacingOf, IsEmpty, anchor_at, steps_of, points_in, points_where, counted}
use Rattle.sb_solid.specs.Moving.{moved_upright, in_plan}
use Rattle.sb_solid.proofs.Coordinates.EveryPoint.{every, world-every, world-along, along_passes, at_ends}
use Rattle.sb_solid.proofs.Coordinates.SpansTellAll.{all_of, world_of}
use Rattle.sb_solid.proofs.Moves.SolidsMove.{solid_is_close, solid_moves, empty_gives_none, no_loops_give_none}

-- ---- by axes

-- the answers of the three axes are that of the solid
pub told : (test : ℤ → Bool) (e : Extruded) (shift way : Vector) (x y z : Bool) → way ≡ e.way
    → x ≡ along_passes test coordinate.X shift.x way.x e.loops
    → y ≡ along_passes test coordinate.Y shift.y way.y e.loops
    → z ≡ along_passes test coordinate.Z shift.z way.z e.loops
    → not (list_all (each_coordinate test) (world_points e shift)) ≡ not (x && (y && z))
told test e shift way x y z same at_x at_y at_z =
    ap not
    (world-along test e shift
    ∙ ap (λ w. along_passes test coordinate.X shift.x w.x e.loops
    && (along_passes test coordinate.Y shift.y w.y e.loops && along_passes test coordinate.Z shift.z w.z e.loops)) (sym same)
    ∙ ap₂ (λ s t. s && t) (sym at_x) (ap₂ (λ s t. s && t) (sym at_y) (sym at_z)))

-- ---- no points

every_of_none : (test : Vector → Bool) (loops : List (List Vector)) → IsEmpty loops → every test loops ≡ true
every_of_none test [] none = refl
every_of_none test ([] ∷ loops) none = every_of_none test loops none
every_of_none test ((p ∷ l) ∷ loops) none = absurd (never none)
  where
    never : (coordinate_of coordinate.X p ∷ (map (coordinate_of coordinate.X) l ++ numbers_in coordinate.X loops)) ≡ [] → ⊥
    never e = absurd (cc)

pub empty_in_world : (e : Extruded) (shift : Vector) → IsEmpty e.loops → is_beyond e shift ≡ false
empty_in_world e shift none =
    ap not (world-every is_in_world e shift ∙ every_of_none (at_ends is_in_world shift e.way) e.loops none)

pub empty_on_grid : (e : Extruded) (shift : Vector) → IsEmpty e.loops → is_off_grid e shift ≡ false
empty_on_grid e shift none =
    ap not (world-every is_near e shift ∙ every_of_none (at_ends is_near shift e.way) e.loops none)

pub empty_has_none : (e : Extruded) (shift : Vector) → IsEmpty e.loops → prism_at e shift ≡ None
empty_has_none e shift none = by e.loops none
  where
    by : (loops : List (List Vector)) → IsEmpty loops
        → prism_at (record { loops = loops; way = e.way; along = e.along }) shift ≡ None
    by [] empty = no_loops_give_none e.along (first_in []) (first_in [])
    by ([] ∷ loops) empty =
        empty_gives_none e.along (map (map (λ p. in_millimetres (sum_of p shift))) loops)
        (first_in (map (map (λ p. in_millimetres (sum_of p shift))) ([] ∷ loops)))
        (first_in (map (map (λ p. in_millimetres (sum_of (sum_of p e.way) shift))) ([] ∷ loops)))
    by ((p ∷ l) ∷ loops) empty = absurd (never empty)
      where
        never : (coordinate_of coordinate.X p ∷ (map (coordinate_of coordinate.X) l ++ numbers_in coordinate.X loops)) ≡ [] → ⊥
        never e = absurd (cc)

-- ---- a shift that is too great

near_zero : (low s : ℤ) → unsigned_abs low ≤ 10 ^ 18 → unsigned_abs (low +ℤ s) ≤ 500000010000 → unsigned_abs s ≤ 2 ^ 61
near_zero low s small near = omega (arith, ints, small, near)

axis_wide : (c : Coordinate) (loops : List (List Vector)) (low high way shift : ℤ)
    → Reaches (numbers_in c loops) low high → is_small low ≡ true → along_passes is_in_world c shift way loops ≡ true
    → is_wide shift ≡ true
axis_wide c loops low high way shift reach small world =
    let ns = numbers_in c loops in
    let worlds = and_parts (list_all (λ n. is_in_world (n +ℤ shift)) ns) (list_all (λ n. is_in_world (n +ℤ (way +ℤ shift))) ns) world in
    le-leb (unsigned_abs shift) (2 ^ 61)
    (near_zero low shift (leb-true (unsigned_abs low) (10 ^ 18) small)
    (world_of (low +ℤ shift) (all_of (λ n. is_in_world (n +ℤ shift)) ns low worlds.0 reach.low_in)))

was_true : (b : Bool) → not b ≡ false → b ≡ true
was_true true e = refl
was_true false e = sym e

-- in range, the shift is not
pub in_world_is_wide : (e : Extruded) (p : Placing) (shift : Vector) → AreSpansOf e.loops p
    → is_small p.x.reach.low ≡ true → is_small p.y.reach.low ≡ true → is_small p.z.reach.low ≡ true
    → is_beyond e shift ≡ false → are_wide shift ≡ true
in_world_is_wide e p shift spans x_small y_small z_small inside =
    let all = sym (world-along is_in_world e shift) ∙ was_true _ inside in
    let one = and_parts (along_passes is_in_world coordinate.X shift.x e.way.x e.loops)
    (along_passes is_in_world coordinate.Y shift.y e.way.y e.loops && along_passes is_in_world coordinate.Z shift.z e.way.z e.loops) all in
    let two = and_parts (along_passes is_in_world coordinate.Y shift.y e.way.y e.loops) (along_passes is_in_world coordinate.Z shift.z e.way.z e.loops) one.1 in
    and_from (is_wide shift.x) (is_wide shift.y && is_wide shift.z)
    (axis_wide coordinate.X e.loops p.x.reach.low p.x.reach.high e.way.x shift.x spans.x.reach x_small one.0)
    (and_from (is_wide shift.y) (is_wide shift.z)
    (axis_wide coordinate.Y e.loops p.y.reach.low p.y.reach.high e.way.y shift.y spans.y.reach y_small two.0)
    (axis_wide coordinate.Z e.loops p.z.reach.low p.z.reach.high e.way.z shift.z spans.z.reach z_small two.1))

-- so a shift that is too great takes the solid out of range
pub beyond_by : (e : Extruded) (p : Placing) (shift : Vector) → AreSpansOf e.loops p
    → is_small p.x.reach.low ≡ true → is_small p.y.reach.low ≡ true → is_small p.z.reach.low ≡ true
    → are_wide shift ≡ false → is_beyond e shift ≡ true
beyond_by e p shift spans x_small y_small z_small great = by (is_beyond e shift) refl
  where
    by : (b : Bool) → is_beyond e shift ≡ b → is_beyond e shift ≡ true
    by true is = is
    by false is = absurd (false≢true (sym great ∙ in_world_is_wide e p shift spans x_small y_small z_small is))

-- ---- how many points

pub points-moved : (v : Vector) (p : Upright) → points_in (moved_upright v p) ≡ points_in p
points-moved v p = ap length (corners-moved (in_plan v) p.loops) ∙ length-map (corners_in p.loops) _

-- ---- a solid with points

module _ (e : Extruded) (p : Placing) (shift : Vector) (is : IsPlacingOf e p)
    (inside : is_beyond e shift ≡ false) (on_grid : is_off_grid e shift ≡ false)
  where
    -- its prism is the one that is kept, moved
    pub kept_moves : prism_at e shift ≡ option_map (moved_upright (steps_of (anchor_at p e.way) shift)) p.prism
    kept_moves =
        solid_moves e p shift is.spans inside on_grid
        ∙ ap (option_map (moved_upright (steps_of (anchor_at p e.way) shift)))
        (sym (is.prism (solid_is_close e p shift is.spans inside on_grid)))

    pub kept_none : p.prism ≡ None → prism_at e shift ≡ None
    kept_none none = kept_moves ∙ ap (option_map (moved_upright (steps_of (anchor_at p e.way) shift))) none

    pub kept_some : (q : Upright) → p.prism ≡ Some q
        → prism_at e shift ≡ Some (moved_upright (steps_of (anchor_at p e.way) shift) q)
    kept_some q some = kept_moves ∙ ap (option_map (moved_upright (steps_of (anchor_at p e.way) shift))) some

    pub kept_count : (q : Upright) → p.prism ≡ Some q
        → p.points ≡ counted (points_in (moved_upright (steps_of (anchor_at p e.way) shift) q))
    kept_count q some =
        is.points ∙ ap points_where some
        ∙ ap counted (sym (points-moved (steps_of (anchor_at p e.way) shift) q))
