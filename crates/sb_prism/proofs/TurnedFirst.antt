-- A solid may be turned first and moved afterwards, and any point of its profile tells where its ends lie.
use Rattle.std.proofs.Common.{◌≡◌, pos, Bool, true, false, not, ◌||◌, List, [], ◌∷◌, ◌++◌, map, length, Option, Some, None, IsTrue, refl, sym, ap, ap₂, ◌∙◌}
use Rattle.std.specs.Prelude.{nat_lt, if◌then◌else◌}
use Rattle.std.specs.List.{list_all, flat_map, AllByRecursion}
use Rattle.std.specs.Ordering.{int_eq}
use Rattle.std.proofs.lemmas.Bool.{or_right}
use Rattle.sb_fraction.specs.declared.point.Point.{Point}
use Rattle.sb_fraction.specs.declared.unit.Unit as units
use Rattle.sb_fraction.specs.Spots.{Vector, vector}
use Rattle.theory_turns.specs.Turns.{is_quarter, turned_by}
use Rattle.theory_turns.proofs.UprightTriples.{IsUpright}
use Rattle.theory_turns.proofs.SignedAxes.{upright_of_quarter}
use Rattle.theory_loops.specs.Answers.{are_flat, are_knotted}
use Rattle.sb_model.specs.Frames.{vector_of, sum_of}
use Rattle.sb_model.specs.Solids.{Upright}
use Rattle.sb_model.specs.declared.frame.Frame.{Frame}
use Rattle.sb_solid.specs.Grid.{nearest_millimetre, is_near, is_in_world}
use Rattle.sb_solid.specs.Solids.{each_coordinate, ends_of, in_millimetres, in_the_plan, beside_x, beside_y, only_rectangle, standing, box_along_x, box_along_y, prism_between, first_in, prism_at}
use Rattle.sb_solid.specs.Solids as solids
use Rattle.sb_solid.specs.Turned.{turned_point, turned_vector}
use Rattle.sb_place.specs.declared.sight.Seen.{Seen}
use Rattle.sb_place.specs.declared.sight.Seen.TheVariants as seen
use Rattle.sb_place.specs.declared.position.Position.{Position}
use Rattle.sb_place.specs.Positions.{x_in, z_in, turn_to, turn_or_none}
use Rattle.sb_prism.specs.Shapes.{Solid}
use Rattle.sb_prism.specs.Outlines.{carried, frame_where, loops_in, way_of, near_end, far_end, world_points}
use Rattle.sb_prism.specs.Prisms.{has_far_length, near_loops, near_origin, far_origin, along_of, prism_of}
use Rattle.sb_prism.specs.Moved.{extruded_by, depth_on, origin, IsAcross, PointsLieAcross, IsMoved, SolidsMove}
use Rattle.sb_prism.proofs.TurnedAcross.{sum-none, sum-swapped, twice, farther-is, near_depth, far_depth}
use Rattle.sb_prism.proofs.Outlines.ProfilesAreFlat.{IsFlat, AreFlat, profile_is_flat}

-- ---- the frame of a position is turned by quarters

turned_upright : (x z : Option Vector) → IsUpright (turn_or_none (turn_to x z))
turned_upright None z = record { xx = refl; zz = refl; xz = refl }
turned_upright (Some x) None = record { xx = refl; zz = refl; xz = refl }
turned_upright (Some x) (Some z) = by (is_quarter x z) refl
  where
    by : (t : Bool) → is_quarter x z ≡ t
        → IsUpright (turn_or_none (if t then Some (record { x = x; z = z }) else None))
    by true is = upright_of_quarter (record { x = x; z = z }) is
    by false is = record { xx = refl; zz = refl; xz = refl }

pub position_upright : (u : units.Unit) (p : Option (Seen Position)) → IsUpright (frame_where u p).turn
position_upright u None = record { xx = refl; zz = refl; xz = refl }
position_upright u (Some (seen.Absent n)) = record { xx = refl; zz = refl; xz = refl }
position_upright u (Some (seen.Broken n)) = record { xx = refl; zz = refl; xz = refl }
position_upright u (Some seen.Other) = record { xx = refl; zz = refl; xz = refl }
position_upright u (Some (seen.Shown p)) = turned_upright (x_in p) (z_in p)

-- ---- lists

each_of : {X : Type 0} (P Q : X → Type 0) → ((x : X) → P x → Q x) → (xs : List X) → AllByRecursion P xs
    → AllByRecursion Q xs
each_of P Q step [] all = tt
each_of P Q step (x ∷ xs) all = (step x all.0, each_of P Q step xs all.1)

pub map-once : {X Y Z : Type 0} (f : X → Z) (g : Y → Z) (h : X → Y) → ((x : X) → f x ≡ g (h x)) → (xs : List X)
    → map f xs ≡ map g (map h xs)
map-once f g h each_one [] = refl
map-once f g h each_one (x ∷ xs) = ap₂ (λ s t. s ∷ t) (each_one x) (map-once f g h each_one xs)

flat-once : {X Y Z : Type 0} (f : X → List Z) (g : Y → List Z) (h : X → Y) → ((x : X) → f x ≡ g (h x)) → (xs : List X)
    → flat_map f xs ≡ flat_map g (map h xs)
flat-once f g h each_one [] = refl
flat-once f g h each_one (x ∷ xs) = ap₂ (λ s t. s ++ t) (each_one x) (flat-once f g h each_one xs)

-- ---- an end of the extrusion tells by how far it lies along it

between_by_depth : (along : Vector) (ls : List (List Vector)) (n m n2 m2 : Vector) → depth_on along n ≡ depth_on along n2
    → depth_on along m ≡ depth_on along m2 → prism_between along ls n m ≡ prism_between along ls n2 m2
between_by_depth along ls n m n2 m2 = by (int_eq along.z (pos 0)) (int_eq along.x (pos 0))
  where
    by : (level side : Bool) → (if level then (if side then n.y else n.x) else n.z) ≡ (if level then (if side then n2.y else n2.x) else n2.z)
        → (if level then (if side then m.y else m.x) else m.z) ≡ (if level then (if side then m2.y else m2.x) else m2.z)
        → (if level
        then
        (if side
        then box_along_y (only_rectangle (map (map beside_y) ls)) n.y m.y
        else box_along_x (only_rectangle (map (map beside_x) ls)) n.x m.x)
        else standing (map (map in_the_plan) ls) n.z m.z)
        ≡ (if level
        then
        (if side
        then box_along_y (only_rectangle (map (map beside_y) ls)) n2.y m2.y
        else box_along_x (only_rectangle (map (map beside_x) ls)) n2.x m2.x)
        else standing (map (map in_the_plan) ls) n2.z m2.z)
    by true true near far = ap₂ (box_along_y (only_rectangle (map (map beside_y) ls))) near far
    by true false near far = ap₂ (box_along_x (only_rectangle (map (map beside_x) ls))) near far
    by false side near far = ap₂ (standing (map (map in_the_plan) ls)) near far

depth-millimetres : (along v : Vector) → depth_on along (in_millimetres v) ≡ nearest_millimetre (depth_on along v)
depth-millimetres along v = by (int_eq along.z (pos 0)) (int_eq along.x (pos 0))
  where
    by : (level side : Bool)
        → (if level then (if side then nearest_millimetre v.y else nearest_millimetre v.x) else nearest_millimetre v.z)
        ≡ nearest_millimetre (if level then (if side then v.y else v.x) else v.z)
    by true true = refl
    by true false = refl
    by false side = refl

same_millimetre : (along v w : Vector) → depth_on along v ≡ depth_on along w
    → depth_on along (in_millimetres v) ≡ depth_on along (in_millimetres w)
same_millimetre along v w same =
    depth-millimetres along v ∙ ap nearest_millimetre same ∙ sym (depth-millimetres along w)

-- ---- without a first point there is no prism

flat_first : (loops : List (List Point)) → are_flat ([] ∷ loops) ≡ true
flat_first loops = or_right (nat_lt (length ([] ∷ loops)) 1) true refl

none_standing : (flat other : Bool) (x : Upright) → flat ≡ true → (if flat || other then None else Some x) ≡ None
none_standing flat other x is = ap (λ t. if t || other then None else Some x) is

empty_gives_none : (along : Vector) (loops : List (List Vector)) (near far : Vector)
    → prism_between along ([] ∷ loops) near far ≡ None
empty_gives_none along loops near far = by (int_eq along.z (pos 0)) (int_eq along.x (pos 0)) loops
  where
    by : (level side : Bool) (rest : List (List Vector))
        → (if level
        then
        (if side
        then box_along_y (only_rectangle (map (map beside_y) ([] ∷ rest))) near.y far.y
        else box_along_x (only_rectangle (map (map beside_x) ([] ∷ rest))) near.x far.x)
        else standing (map (map in_the_plan) ([] ∷ rest)) near.z far.z) ≡ None
    by true true [] = refl
    by true true (l ∷ rest) = refl
    by true false [] = refl
    by true false (l ∷ rest) = refl
    by false side rest =
        none_standing (are_flat ([] ∷ map (map in_the_plan) rest))
        (are_knotted ([] ∷ map (map in_the_plan) rest) || int_eq near.z far.z) _
        (flat_first (map (map in_the_plan) rest))

no_loops_give_none : (along near far : Vector) → prism_between along [] near far ≡ None
no_loops_give_none along near far = by (int_eq along.z (pos 0)) (int_eq along.x (pos 0))
  where
    by : (level side : Bool)
        → (if level
        then
        (if side
        then box_along_y (only_rectangle (map (map beside_y) [])) near.y far.y
        else box_along_x (only_rectangle (map (map beside_x) [])) near.x far.x)
        else standing (map (map in_the_plan) []) near.z far.z) ≡ None
    by true true = refl
    by true false = refl
    by false side = refl

-- ---- a solid in a frame

module _ (u : units.Unit) (f : Frame) (s : Solid) (quarter : IsTrue (is_quarter f.turn.x f.turn.z))
  where
    f_up : IsUpright f.turn
    f_up = upright_of_quarter f.turn quarter

    s_up : IsUpright (frame_where u s.position).turn
    s_up = position_upright u s.position

    is_across : (p : Vector) → IsFlat p → IsAcross u f s p
    is_across p flat = record {
      near = near_depth f.turn (frame_where u s.position).turn f_up s_up (vector_of (frame_where u s.position).shift)
          (vector_of f.shift) p origin flat refl;
      far = far_depth f.turn (frame_where u s.position).turn f_up s_up (vector_of (frame_where u s.position).shift)
          (vector_of f.shift) (way_of u s) p origin flat refl;
    }

    way-turned : (w : Vector) → turned_vector f.turn (frame_where u s.position).turn w
        ≡ twice f.turn (frame_where u s.position).turn w
    way-turned w =
        sum-none (turned_by f.turn (sum_of (turned_by (frame_where u s.position).turn w) origin))
        ∙ ap (turned_by f.turn) (sum-none (turned_by (frame_where u s.position).turn w))

    near-turned : (p : Vector) → near_end u f s p
        ≡ sum_of (turned_point f.turn (frame_where u s.position) p) (vector_of f.shift)
    near-turned p =
        ap (λ v. sum_of v (vector_of f.shift)) (sym (sum-none (turned_by f.turn (carried (frame_where u s.position) p))))

    far-turned : (p : Vector) → far_end u f s p
        ≡ sum_of (sum_of (turned_point f.turn (frame_where u s.position) p)
        (turned_vector f.turn (frame_where u s.position).turn (way_of u s))) (vector_of f.shift)
    far-turned p =
        farther-is f.turn (frame_where u s.position).turn (vector_of (frame_where u s.position).shift) (vector_of f.shift) p
        (way_of u s)
        ∙ sum-swapped (turned_by f.turn (carried (frame_where u s.position) p)) (vector_of f.shift)
        (twice f.turn (frame_where u s.position).turn (way_of u s))
        ∙ ap₂ (λ v w. sum_of (sum_of v w) (vector_of f.shift))
        (sym (sum-none (turned_by f.turn (carried (frame_where u s.position) p)))) (sym (way-turned (way_of u s)))

    world-turned : world_points u f s ≡ solids.world_points (extruded_by u f.turn s) (vector_of f.shift)
    world-turned =
        flat-once (λ loop. flat_map (λ p. near_end u f s p ∷ far_end u f s p ∷ []) loop)
        (λ loop. flat_map (ends_of (extruded_by u f.turn s).way (vector_of f.shift)) loop)
        (map (turned_point f.turn (frame_where u s.position)))
        (flat-once (λ p. near_end u f s p ∷ far_end u f s p ∷ [])
        (ends_of (extruded_by u f.turn s).way (vector_of f.shift)) (turned_point f.turn (frame_where u s.position))
        (λ p. ap₂ (λ a b. a ∷ b ∷ []) (near-turned p) (far-turned p)))
        (loops_in u s.profile)

    near-loops : near_loops u f s ≡ solids.near_loops (extruded_by u f.turn s) (vector_of f.shift)
    near-loops =
        map-once (λ loop. map (λ p. in_millimetres (near_end u f s p)) loop)
        (map (λ p. in_millimetres (sum_of p (vector_of f.shift)))) (map (turned_point f.turn (frame_where u s.position)))
        (map-once (λ p. in_millimetres (near_end u f s p)) (λ p. in_millimetres (sum_of p (vector_of f.shift)))
        (turned_point f.turn (frame_where u s.position)) (λ p. ap in_millimetres (near-turned p)))
        (loops_in u s.profile)

    abbrev far_loops : List (List Vector) → List (List Vector)
    far_loops loops = map (map (λ p. in_millimetres (far_end u f s p))) loops

    far-loops : far_loops (loops_in u s.profile) ≡ solids.far_loops (extruded_by u f.turn s) (vector_of f.shift)
    far-loops =
        map-once (map (λ p. in_millimetres (far_end u f s p)))
        (map (λ p. in_millimetres (sum_of (sum_of p (extruded_by u f.turn s).way) (vector_of f.shift))))
        (map (turned_point f.turn (frame_where u s.position)))
        (map-once (λ p. in_millimetres (far_end u f s p))
        (λ p. in_millimetres (sum_of (sum_of p (extruded_by u f.turn s).way) (vector_of f.shift)))
        (turned_point f.turn (frame_where u s.position)) (λ p. ap in_millimetres (far-turned p)))
        (loops_in u s.profile)

    -- the first point tells the heights as well as the origin does
    by_first : (loops : List (List Vector)) → AreFlat loops
        → prism_between (along_of u f s) (map (map (λ p. in_millimetres (near_end u f s p))) loops) (near_origin u f s)
        (far_origin u f s)
        ≡ prism_between (along_of u f s) (map (map (λ p. in_millimetres (near_end u f s p))) loops)
        (first_in (map (map (λ p. in_millimetres (near_end u f s p))) loops)) (first_in (far_loops loops))
    by_first [] flat =
        no_loops_give_none (along_of u f s) (near_origin u f s) (far_origin u f s)
        ∙ sym (no_loops_give_none (along_of u f s) origin origin)
    by_first ([] ∷ loops) flat =
        empty_gives_none (along_of u f s) (map (map (λ p. in_millimetres (near_end u f s p))) loops) (near_origin u f s)
        (far_origin u f s)
        ∙ sym
        (empty_gives_none (along_of u f s) (map (map (λ p. in_millimetres (near_end u f s p))) loops) origin origin)
    by_first ((p ∷ l) ∷ loops) flat =
        between_by_depth (along_of u f s) (map (map (λ p. in_millimetres (near_end u f s p))) ((p ∷ l) ∷ loops))
        (near_origin u f s) (far_origin u f s) (in_millimetres (near_end u f s p)) (in_millimetres (far_end u f s p))
        (same_millimetre (along_of u f s) (near_end u f s origin) (near_end u f s p) (sym (is_across p flat.0.0).near))
        (same_millimetre (along_of u f s) (far_end u f s origin) (far_end u f s p) (sym (is_across p flat.0.0).far))

    prism-turned : AreFlat (loops_in u s.profile)
        → prism_of u f s ≡ prism_at (extruded_by u f.turn s) (vector_of f.shift)
    prism-turned flat =
        by_first (loops_in u s.profile) flat
        ∙ ap (λ a. prism_between a (near_loops u f s) (first_in (near_loops u f s)) (first_in (far_loops (loops_in u s.profile))))
        (sym (way-turned (vector (pos 0) (pos 0) (pos 1))))
        ∙ ap₂ (λ n m. prism_between (extruded_by u f.turn s).along n (first_in n) (first_in m)) near-loops far-loops

    pub turned_first : AreFlat (loops_in u s.profile) → IsMoved u f s
    turned_first flat = record {
      out_of_range = ap (λ ps. has_far_length u s || not (list_all (each_coordinate is_in_world) ps)) world-turned;
      off_grid = ap (λ ps. not (list_all (each_coordinate is_near) ps)) world-turned;
      prism = prism-turned flat;
    }

    pub all_across : AreFlat (loops_in u s.profile)
        → AllByRecursion (AllByRecursion (IsAcross u f s)) (loops_in u s.profile)
    all_across flat =
        each_of (AllByRecursion IsFlat) (AllByRecursion (IsAcross u f s)) (each_of IsFlat (IsAcross u f s) is_across)
        (loops_in u s.profile) flat

pub solids_move : SolidsMove
solids_move i n s solid has_it u f quarter = turned_first u f solid quarter (profile_is_flat i n s solid has_it u)

pub points_lie_across : PointsLieAcross
points_lie_across i n s solid has_it u f quarter = all_across u f solid quarter (profile_is_flat i n s solid has_it u)
