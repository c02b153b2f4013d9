-- A solid that lies on the grid where it is moved has the prism that was judged, moved by whole millimetres.
use Rattle.std.proofs.Common.{◌≡◌, ℤ, pos, ◌≤◌, ◌≤ℤ◌, ◌+ℤ◌, ◌-ℤ◌, Bool, true, false, not, ◌&&◌, ◌||◌, List, [], ◌∷◌, map, length, nat_lt, Some, None, refl, sym, ap, ap₂, ◌∙◌, arith}
use Rattle.std.specs.Prelude.{int_lt, int_le, unsigned_abs, if◌then◌else◌}
use Rattle.std.specs.List.{list_all}
use Rattle.std.specs.Option.{option_map}
use Rattle.std.specs.Ordering.{int_eq}
use Rattle.std.proofs.lemmas.Int.{ints}
use Rattle.std.proofs.lemmas.Bool.{and_parts, and_from, or_right}
use Rattle.theory_lists.specs.Members.{Stands}
use Rattle.theory_numbers.proofs.Signs.{less_from, not_less_from, test_not_less, test_at_most, at_most_from}
use Rattle.sb_fraction.specs.declared.point.Point.{Point}
use Rattle.sb_fraction.specs.Spots.{Vector}
use Rattle.theory_loops.specs.Answers.{are_flat, are_knotted}
use Rattle.theory_turns.proofs.UprightTriples.{same_vector}
use Rattle.sb_model.specs.Frames.{sum_of}
use Rattle.sb_model.specs.Solids.{Upright}
use Rattle.sb_solid.specs.declared.points.axes.Coordinate.{Coordinate}
use Rattle.sb_solid.specs.declared.points.axes.Coordinate.TheVariants as coordinate
use Rattle.sb_solid.specs.declared.placing.Placing.{Placing}
use Rattle.sb_solid.specs.Grid.{is_near, is_in_world, nearest_millimetre}
use Rattle.sb_solid.specs.Solids.{Extruded, is_beyond, is_off_grid, in_millimetres, in_the_plan, beside_x, beside_y, standing, box_along_x, box_along_y, only_rectangle, first_in, prism_between, prism_at}
use Rattle.sb_solid.specs.Spans.{Reaches}
use Rattle.sb_solid.specs.Steps.{coordinate_of}
use Rattle.sb_solid.specs.Judged.{anchor_of, is_close, base_of, step_of, steps_of, base_at, is_close_point, are_close_ends, are_close, base_prism, numbers_in, AreSpansOf, anchor_at}
use Rattle.sb_solid.specs.Moving.{moved_upright}
use Rattle.sb_solid.proofs.Coordinates.SpansTellAll.{all_of, all_from, world_of, millimetres_apart}
use Rattle.sb_solid.proofs.Coordinates.EveryPoint.{every, every-and, every-from, maps-where, at_both, world-along, along_passes, numbers-every}
use Rattle.sb_solid.proofs.Moves.PrismsMove.{shifted, shifted_loops, prism-moved}

-- ---- one axis

-- the anchor is one of two numbers, and no greater than either
anchor_is : (P : ℤ → Type 0) (low way : ℤ) → P low → P (low +ℤ way) → P (anchor_of low way)
anchor_is P low way first second = by (int_lt (low +ℤ way) low)
  where
    by : (t : Bool) → P (if t then low +ℤ way else low)
    by true = second
    by false = first

anchor_at_most : (low way : ℤ) → (anchor_of low way ≤ℤ low) × (anchor_of low way ≤ℤ (low +ℤ way))
anchor_at_most low way = by (int_lt (low +ℤ way) low) refl
  where
    by : (t : Bool) → int_lt (low +ℤ way) low ≡ t
        → ((if t then low +ℤ way else low) ≤ℤ low) × ((if t then low +ℤ way else low) ≤ℤ (low +ℤ way))
    by true is = let less = less_from (low +ℤ way) low is in (omega (arith, ints, less), omega (arith, ints))
    by false is = let least = not_less_from (low +ℤ way) low is in (omega (arith, ints), omega (arith, ints, least))

-- what holds of an axis: its anchor and its numbers at both ends are in range and near, and none is below
-- the anchor
record Lies (anchor way shift : ℤ) : Type 0 where
  in_world : is_in_world (anchor +ℤ shift) ≡ true
  near : is_near (anchor +ℤ shift) ≡ true

same_shift : (low way shift : ℤ) → low +ℤ (way +ℤ shift) ≡ (low +ℤ way) +ℤ shift
same_shift low way shift = omega (arith, ints)

axis_lies : (c : Coordinate) (loops : List (List Vector)) (low high way shift : ℤ)
    → Reaches (numbers_in c loops) low high
    → along_passes is_in_world c shift way loops ≡ true → along_passes is_near c shift way loops ≡ true
    → Lies (anchor_of low way) way shift
axis_lies c loops low high way shift reach world near =
    let ns = numbers_in c loops in
    let worlds = and_parts (list_all (λ n. is_in_world (n +ℤ shift)) ns) (list_all (λ n. is_in_world (n +ℤ (way +ℤ shift))) ns) world in
    let nears = and_parts (list_all (λ n. is_near (n +ℤ shift)) ns) (list_all (λ n. is_near (n +ℤ (way +ℤ shift))) ns) near in
    record {
      in_world = anchor_is (λ a. is_in_world (a +ℤ shift) ≡ true) low way
          (all_of (λ n. is_in_world (n +ℤ shift)) ns low worlds.0 reach.low_in)
          (ap is_in_world (sym (same_shift low way shift))
          ∙ all_of (λ n. is_in_world (n +ℤ (way +ℤ shift))) ns low worlds.1 reach.low_in);
      near = anchor_is (λ a. is_near (a +ℤ shift) ≡ true) low way
          (all_of (λ n. is_near (n +ℤ shift)) ns low nears.0 reach.low_in)
          (ap is_near (sym (same_shift low way shift))
          ∙ all_of (λ n. is_near (n +ℤ (way +ℤ shift))) ns low nears.1 reach.low_in);
    }

close_by : (a n s : ℤ) → unsigned_abs (a +ℤ s) ≤ 500000010000 → unsigned_abs (n +ℤ s) ≤ 500000010000
    → (n -ℤ a) ≤ℤ pos 1000000020000
close_by a n s first second = omega (arith, ints, first, second)

is_close_from : (a n s : ℤ) → is_in_world (a +ℤ s) ≡ true → is_in_world (n +ℤ s) ≡ true → a ≤ℤ n → is_close a n ≡ true
is_close_from a n s first second above =
    and_from (not (int_lt (n -ℤ a) (pos 0))) (int_le (n -ℤ a) (pos 1000000020000))
    (ap not (test_not_less (n -ℤ a) (pos 0) (omega (arith, ints, above))))
    (test_at_most (n -ℤ a) (pos 1000000020000) (close_by a n s (world_of (a +ℤ s) first) (world_of (n +ℤ s) second)))

counted_from : (k m : ℤ) → k +ℤ m ≡ (k -ℤ pos 500000) +ℤ (m +ℤ pos 500000)
counted_from k m = omega (arith, ints)

less_both : (n a s : ℤ) → (n +ℤ s) -ℤ (a +ℤ s) ≡ n -ℤ a
less_both n a s = omega (arith, ints)

-- the millimetre of a number that is moved is that counted from the anchor, and so many more
millimetre_is : (a n s : ℤ) → is_near (a +ℤ s) ≡ true → is_near (n +ℤ s) ≡ true
    → nearest_millimetre (n +ℤ s) ≡ base_of a n +ℤ step_of a s
millimetre_is a n s first second =
    millimetres_apart (n +ℤ s) (a +ℤ s) second first
    ∙ ap (λ d. nearest_millimetre d +ℤ nearest_millimetre (a +ℤ s)) (less_both n a s)
    ∙ counted_from (nearest_millimetre (n -ℤ a)) (nearest_millimetre (a +ℤ s))

-- ---- a number of a solid

-- a number is in range and near at both ends, and lies no lower than the anchor at either
abbrev pub passes : ℤ → ℤ → ℤ → ℤ → Bool
passes anchor way shift n =
    at_both is_in_world shift way n
    && (at_both is_near shift way n && (int_le anchor n && int_le anchor (n +ℤ way)))

pub axis_passes : (c : Coordinate) (loops : List (List Vector)) (low high way shift : ℤ)
    → Reaches (numbers_in c loops) low high
    → along_passes is_in_world c shift way loops ≡ true → along_passes is_near c shift way loops ≡ true
    → every (λ p. passes (anchor_of low way) way shift (coordinate_of c p)) loops ≡ true
axis_passes c loops low high way shift reach world near =
    sym (numbers-every c (passes (anchor_of low way) way shift) loops)
    ∙ all_from (passes (anchor_of low way) way shift) (numbers_in c loops) each
  where
    each : (n : ℤ) → Stands n (numbers_in c loops) → passes (anchor_of low way) way shift n ≡ true
    each n there =
        let ns = numbers_in c loops in
        let worlds = and_parts (list_all (λ n. is_in_world (n +ℤ shift)) ns) (list_all (λ n. is_in_world (n +ℤ (way +ℤ shift))) ns) world in
        let nears = and_parts (list_all (λ n. is_near (n +ℤ shift)) ns) (list_all (λ n. is_near (n +ℤ (way +ℤ shift))) ns) near in
        let least = (reach.within n there).0 in
        let at = anchor_at_most low way in
        and_from (at_both is_in_world shift way n)
        (at_both is_near shift way n && (int_le (anchor_of low way) n && int_le (anchor_of low way) (n +ℤ way)))
        (and_from (is_in_world (n +ℤ shift)) (is_in_world (n +ℤ (way +ℤ shift)))
        (all_of (λ n. is_in_world (n +ℤ shift)) ns n worlds.0 there)
        (all_of (λ n. is_in_world (n +ℤ (way +ℤ shift))) ns n worlds.1 there))
        (and_from (at_both is_near shift way n) (int_le (anchor_of low way) n && int_le (anchor_of low way) (n +ℤ way))
        (and_from (is_near (n +ℤ shift)) (is_near (n +ℤ (way +ℤ shift)))
        (all_of (λ n. is_near (n +ℤ shift)) ns n nears.0 there)
        (all_of (λ n. is_near (n +ℤ (way +ℤ shift))) ns n nears.1 there))
        (and_from (int_le (anchor_of low way) n) (int_le (anchor_of low way) (n +ℤ way))
        (test_at_most (anchor_of low way) n (low_enough (anchor_of low way) low n at.0 least))
        (test_at_most (anchor_of low way) (n +ℤ way) (low_further (anchor_of low way) low n way at.1 least))))
      where
        low_enough : (a l m : ℤ) → a ≤ℤ l → l ≤ℤ m → a ≤ℤ m
        low_enough a l m one other = omega (arith, ints, one, other)

        low_further : (a l m w : ℤ) → a ≤ℤ (l +ℤ w) → l ≤ℤ m → a ≤ℤ (m +ℤ w)
        low_further a l m w one other = omega (arith, ints, one, other)

-- what that says of the number at both ends
record IsNumber (anchor way shift n : ℤ) : Type 0 where
  close : is_close anchor n ≡ true
  close_far : is_close anchor (n +ℤ way) ≡ true
  millimetre : nearest_millimetre (n +ℤ shift) ≡ base_of anchor n +ℤ step_of anchor shift
  millimetre_far : nearest_millimetre ((n +ℤ way) +ℤ shift) ≡ base_of anchor (n +ℤ way) +ℤ step_of anchor shift

number_is : (anchor way shift n : ℤ) → Lies anchor way shift → passes anchor way shift n ≡ true
    → IsNumber anchor way shift n
number_is anchor way shift n lies all =
    let one = and_parts (at_both is_in_world shift way n) (at_both is_near shift way n && (int_le anchor n && int_le anchor (n +ℤ way))) all in
    let two = and_parts (at_both is_near shift way n) (int_le anchor n && int_le anchor (n +ℤ way)) one.1 in
    let world = and_parts (is_in_world (n +ℤ shift)) (is_in_world (n +ℤ (way +ℤ shift))) one.0 in
    let near = and_parts (is_near (n +ℤ shift)) (is_near (n +ℤ (way +ℤ shift))) two.0 in
    let above = and_parts (int_le anchor n) (int_le anchor (n +ℤ way)) two.1 in
    let world_far : is_in_world ((n +ℤ way) +ℤ shift) ≡ true = ap is_in_world (sym (same_shift n way shift)) ∙ world.1 in
    let near_far : is_near ((n +ℤ way) +ℤ shift) ≡ true = ap is_near (sym (same_shift n way shift)) ∙ near.1 in
    record {
      close = is_close_from anchor n shift lies.in_world world.0 (at_most_from anchor n above.0);
      close_far = is_close_from anchor (n +ℤ way) shift lies.in_world world_far (at_most_from anchor (n +ℤ way) above.1);
      millimetre = millimetre_is anchor n shift lies.near near.0;
      millimetre_far = millimetre_is anchor (n +ℤ way) shift lies.near near_far;
    }

-- ---- a point of a solid

abbrev passes_at : Vector → Vector → Vector → Vector → Bool
passes_at anchor way shift p =
    passes anchor.x way.x shift.x p.x && (passes anchor.y way.y shift.y p.y && passes anchor.z way.z shift.z p.z)

record LieAll (anchor way shift : Vector) : Type 0 where
  of_x : Lies anchor.x way.x shift.x
  of_y : Lies anchor.y way.y shift.y
  of_z : Lies anchor.z way.z shift.z

record IsPoint (anchor way shift p : Vector) : Type 0 where
  close : are_close_ends anchor way p ≡ true
  millimetre : in_millimetres (sum_of p shift) ≡ sum_of (base_at anchor p) (steps_of anchor shift)
  millimetre_far : in_millimetres (sum_of (sum_of p way) shift)
      ≡ sum_of (base_at anchor (sum_of p way)) (steps_of anchor shift)

point_is : (anchor way shift p : Vector) → LieAll anchor way shift → passes_at anchor way shift p ≡ true
    → IsPoint anchor way shift p
point_is anchor way shift p lie all =
    let one = and_parts (passes anchor.x way.x shift.x p.x) (passes anchor.y way.y shift.y p.y && passes anchor.z way.z shift.z p.z) all in
    let two = and_parts (passes anchor.y way.y shift.y p.y) (passes anchor.z way.z shift.z p.z) one.1 in
    let x = number_is anchor.x way.x shift.x p.x lie.of_x one.0 in
    let y = number_is anchor.y way.y shift.y p.y lie.of_y two.0 in
    let z = number_is anchor.z way.z shift.z p.z lie.of_z two.1 in
    record {
      close =
          and_from (is_close_point anchor p) (is_close_point anchor (sum_of p way))
          (and_from (is_close anchor.x p.x) (is_close anchor.y p.y && is_close anchor.z p.z) x.close
          (and_from (is_close anchor.y p.y) (is_close anchor.z p.z) y.close z.close))
          (and_from (is_close anchor.x (p.x +ℤ way.x)) (is_close anchor.y (p.y +ℤ way.y) && is_close anchor.z (p.z +ℤ way.z)) x.close_far
          (and_from (is_close anchor.y (p.y +ℤ way.y)) (is_close anchor.z (p.z +ℤ way.z)) y.close_far z.close_far));
      millimetre = same_vector x.millimetre y.millimetre z.millimetre;
      millimetre_far = same_vector x.millimetre_far y.millimetre_far z.millimetre_far;
    }

-- ---- loops

pub map-once : {X Y Z : Type 0} (f : Y → Z) (g : X → Y) (xs : List X) → map (λ x. f (g x)) xs ≡ map f (map g xs)
map-once f g [] = refl
map-once f g (x ∷ xs) = ap (λ t. f (g x) ∷ t) (map-once f g xs)

pub map-twice : {X Y Z : Type 0} (f : Y → Z) (g : X → Y) (loops : List (List X))
    → map (map (λ x. f (g x))) loops ≡ map (map f) (map (map g) loops)
map-twice f g [] = refl
map-twice f g (l ∷ loops) = ap₂ (λ s t. s ∷ t) (map-once f g l) (map-twice f g loops)

-- loops of which the first has no point give no prism
flat_first : (loops : List (List Point)) → are_flat ([] ∷ loops) ≡ true
flat_first loops = or_right (nat_lt (length ([] ∷ loops)) 1) true refl

none_standing : (flat other : Bool) (x : Upright) → flat ≡ true → (if flat || other then None else Some x) ≡ None
none_standing flat other x is = ap (λ t. if t || other then None else Some x) is

pub empty_gives_none : (along : Vector) (loops : List (List Vector)) (near far : Vector)
    → prism_between along ([] ∷ loops) near far ≡ None
empty_gives_none along loops near far = by (int_eq along.z (pos 0)) (int_eq along.x (pos 0)) loops
  where
    by : (level side : Bool) (rest : List (List Vector))
        → (if level
        then
        (if side
        then box_along_y (only_rectangle (map (map beside_y) ([] ∷ rest))) near.y far.y
        else box_along_x (only_rectangle (map (map beside_x) ([] ∷ rest))) near.x far.x)
        else standing (map (map in_the_plan) ([] ∷ rest)) near.z far.z) ≡ None
    by true true [] = refl
    by true true (l ∷ rest) = refl
    by true false [] = refl
    by true false (l ∷ rest) = refl
    by false side rest =
        none_standing (are_flat ([] ∷ map (map in_the_plan) rest))
        (are_knotted ([] ∷ map (map in_the_plan) rest) || int_eq near.z far.z) _
        (flat_first (map (map in_the_plan) rest))

pub no_loops_give_none : (along near far : Vector) → prism_between along [] near far ≡ None
no_loops_give_none along near far = by (int_eq along.z (pos 0)) (int_eq along.x (pos 0))
  where
    by : (level side : Bool)
        → (if level
        then
        (if side
        then box_along_y (only_rectangle (map (map beside_y) [])) near.y far.y
        else box_along_x (only_rectangle (map (map beside_x) [])) near.x far.x)
        else standing (map (map in_the_plan) []) near.z far.z) ≡ None
    by true true = refl
    by true false = refl
    by false side = refl

prisms_agree : (along anchor way shift : Vector) → LieAll anchor way shift → (loops : List (List Vector))
    → every (passes_at anchor way shift) loops ≡ true
    → prism_between along (map (map (λ p. in_millimetres (sum_of p shift))) loops)
    (first_in (map (map (λ p. in_millimetres (sum_of p shift))) loops))
    (first_in (map (map (λ p. in_millimetres (sum_of (sum_of p way) shift))) loops))
    ≡ option_map (moved_upright (steps_of anchor shift))
    (prism_between along (map (map (base_at anchor)) loops) (base_at anchor (first_in loops))
    (base_at anchor (sum_of (first_in loops) way)))
prisms_agree along anchor way shift lie [] all =
    no_loops_give_none along (first_in (map (map (λ p. in_millimetres (sum_of p shift))) []))
    (first_in (map (map (λ p. in_millimetres (sum_of (sum_of p way) shift))) []))
    ∙ ap (option_map (moved_upright (steps_of anchor shift)))
    (sym (no_loops_give_none along (base_at anchor (first_in [])) (base_at anchor (sum_of (first_in []) way))))
prisms_agree along anchor way shift lie ([] ∷ loops) all =
    empty_gives_none along (map (map (λ p. in_millimetres (sum_of p shift))) loops) (first_in (map (map (λ p. in_millimetres (sum_of p shift))) ([] ∷ loops)))
    (first_in (map (map (λ p. in_millimetres (sum_of (sum_of p way) shift))) ([] ∷ loops)))
    ∙ ap (option_map (moved_upright (steps_of anchor shift)))
    (sym (empty_gives_none along (map (map (base_at anchor)) loops) (base_at anchor (first_in ([] ∷ loops)))
    (base_at anchor (sum_of (first_in ([] ∷ loops)) way))))
prisms_agree along anchor way shift lie ((p ∷ l) ∷ loops) all =
    let here = and_parts (list_all (passes_at anchor way shift) (p ∷ l)) (every (passes_at anchor way shift) loops) all in
    let first = point_is anchor way shift p lie (and_parts (passes_at anchor way shift p) (list_all (passes_at anchor way shift) l) here.0).0 in
    let steps = steps_of anchor shift in
    ap (λ ls. prism_between along ls (in_millimetres (sum_of p shift)) (in_millimetres (sum_of (sum_of p way) shift)))
    (maps-where (passes_at anchor way shift) (λ q. in_millimetres (sum_of q shift)) (λ q. shifted steps (base_at anchor q))
    (λ q passing. (point_is anchor way shift q lie passing).millimetre) ((p ∷ l) ∷ loops) all
    ∙ map-twice (shifted steps) (base_at anchor) ((p ∷ l) ∷ loops))
    ∙ ap₂ (prism_between along (shifted_loops steps (map (map (base_at anchor)) ((p ∷ l) ∷ loops)))) first.millimetre first.millimetre_far
    ∙ prism-moved along steps (map (map (base_at anchor)) ((p ∷ l) ∷ loops)) (base_at anchor p) (base_at anchor (sum_of p way))

-- ---- a solid

was_true : (b : Bool) → not b ≡ false → b ≡ true
was_true true e = refl
was_true false e = sym e

module _ (e : Extruded) (p : Placing) (shift : Vector) (spans : AreSpansOf e.loops p)
    (inside : is_beyond e shift ≡ false) (on_grid : is_off_grid e shift ≡ false)
  where
    abbrev anchor : Vector
    anchor = anchor_at p e.way

    abbrev along_all : (ℤ → Bool) → Bool
    along_all test =
        along_passes test coordinate.X shift.x e.way.x e.loops
        && (along_passes test coordinate.Y shift.y e.way.y e.loops
        && along_passes test coordinate.Z shift.z e.way.z e.loops)

    world_all : along_all is_in_world ≡ true
    world_all = sym (world-along is_in_world e shift) ∙ was_true _ inside

    near_all : along_all is_near ≡ true
    near_all = sym (world-along is_near e shift) ∙ was_true _ on_grid

    three : (test : ℤ → Bool) → along_all test ≡ true
        → (along_passes test coordinate.X shift.x e.way.x e.loops ≡ true)
        × ((along_passes test coordinate.Y shift.y e.way.y e.loops ≡ true)
        × (along_passes test coordinate.Z shift.z e.way.z e.loops ≡ true))
    three test all =
        let one = and_parts (along_passes test coordinate.X shift.x e.way.x e.loops)
        (along_passes test coordinate.Y shift.y e.way.y e.loops && along_passes test coordinate.Z shift.z e.way.z e.loops) all in
        (one.0, and_parts (along_passes test coordinate.Y shift.y e.way.y e.loops) (along_passes test coordinate.Z shift.z e.way.z e.loops) one.1)

    lie_all : LieAll anchor e.way shift
    lie_all =
        let world = three is_in_world world_all in
        let near = three is_near near_all in
        record {
          of_x = axis_lies coordinate.X e.loops p.x.reach.low p.x.reach.high e.way.x shift.x spans.x.reach world.0 near.0;
          of_y = axis_lies coordinate.Y e.loops p.y.reach.low p.y.reach.high e.way.y shift.y spans.y.reach world.1.0 near.1.0;
          of_z = axis_lies coordinate.Z e.loops p.z.reach.low p.z.reach.high e.way.z shift.z spans.z.reach world.1.1 near.1.1;
        }

    all_pass : every (passes_at anchor e.way shift) e.loops ≡ true
    all_pass =
        let world = three is_in_world world_all in
        let near = three is_near near_all in
        every-and (λ q. passes anchor.x e.way.x shift.x q.x)
        (λ q. passes anchor.y e.way.y shift.y q.y && passes anchor.z e.way.z shift.z q.z) e.loops
        ∙ and_from (every (λ q. passes anchor.x e.way.x shift.x q.x) e.loops)
        (every (λ q. passes anchor.y e.way.y shift.y q.y && passes anchor.z e.way.z shift.z q.z) e.loops)
        (axis_passes coordinate.X e.loops p.x.reach.low p.x.reach.high e.way.x shift.x spans.x.reach world.0 near.0)
        (every-and (λ q. passes anchor.y e.way.y shift.y q.y) (λ q. passes anchor.z e.way.z shift.z q.z) e.loops
        ∙ and_from (every (λ q. passes anchor.y e.way.y shift.y q.y) e.loops) (every (λ q. passes anchor.z e.way.z shift.z q.z) e.loops)
        (axis_passes coordinate.Y e.loops p.y.reach.low p.y.reach.high e.way.y shift.y spans.y.reach world.1.0 near.1.0)
        (axis_passes coordinate.Z e.loops p.z.reach.low p.z.reach.high e.way.z shift.z spans.z.reach world.1.1 near.1.1))

    -- its numbers lie close together
    pub solid_is_close : are_close e (anchor_at p e.way) ≡ true
    solid_is_close =
        every-from (passes_at anchor e.way shift) (are_close_ends anchor e.way)
        (λ q passing. (point_is anchor e.way shift q lie_all passing).close) e.loops all_pass

    -- and its prism is the one that was judged, moved
    pub solid_moves : prism_at e shift
        ≡ option_map (moved_upright (steps_of (anchor_at p e.way) shift)) (base_prism e (anchor_at p e.way))
    solid_moves = prisms_agree e.along anchor e.way shift lie_all e.loops all_pass
