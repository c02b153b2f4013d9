-- The prism counted from the anchors is that of the loops as they are seen.
use Rattle.std.proofs.Common.{◌≡◌, ℤ, pos, Bool, true, false, ◌&&◌, List, [], ◌∷◌, ◌++◌, map, Some, None, refl, sym, ap, ap₂, ◌∙◌}
use Rattle.std.specs.Prelude.{if◌then◌else◌}
use Rattle.std.specs.List.{list_all}
use Rattle.std.specs.Ordering.{int_eq}
use Rattle.std.proofs.lemmas.Bool.{and_parts, and_from, false≢true}
use Rattle.sb_fraction.specs.declared.point.Point.{Point}
use Rattle.sb_fraction.specs.Spots.{Vector}
use Rattle.sb_model.specs.Frames.{sum_of}
use Rattle.sb_solid.specs.declared.points.axes.View.{View}
use Rattle.sb_solid.specs.declared.points.axes.View.TheVariants as view
use Rattle.sb_solid.specs.declared.points.axes.Coordinate.{Coordinate}
use Rattle.sb_solid.specs.declared.points.sizes.Wide.{Wide}
use Rattle.sb_solid.specs.declared.points.sizes.Lying.{Lying}
use Rattle.sb_solid.specs.Steps.{vector_at, wide_at, coordinate_of, numbers_along}
use Rattle.sb_solid.specs.Solids.{in_the_plan, beside_x, beside_y, first_in, only_rectangle, standing, box_along_x, box_along_y, prism_between}
use Rattle.sb_solid.specs.Boxes.{prism_seen}
use Rattle.sb_solid.specs.Judged.{is_close, base_of, base_at, is_close_point, are_close_ends, are_close, base_prism, lying_solid, view_along, in_view, is_close_in, depth_in, seen_at, AreSeen, AreEnds, numbers_in}
use Rattle.sb_solid.proofs.Coordinates.EveryPoint.{every, every-from, every-map}
use Rattle.sb_solid.proofs.Moves.SolidsMove.{map-once, map-twice, empty_gives_none, no_loops_give_none}

-- ---- the coordinates of points that the code keeps

pub numbers-lying : (c : Coordinate) (loops : List (List Lying))
    → numbers_along c loops ≡ numbers_in c (map (map vector_at) loops)
numbers-lying c [] = refl
numbers-lying c (l ∷ loops) = ap₂ (λ s t. s ++ t) (map-once (coordinate_of c) vector_at l) (numbers-lying c loops)

pub empty_from : (c d : Coordinate) (loops : List (List Vector)) → numbers_in c loops ≡ [] → numbers_in d loops ≡ []
empty_from c d [] none = refl
empty_from c d ([] ∷ loops) none = empty_from c d loops none
empty_from c d ((p ∷ l) ∷ loops) none = absurd (never none)
  where
    never : (coordinate_of c p ∷ (map (coordinate_of c) l ++ numbers_in c loops)) ≡ [] → ⊥
    never e = absurd (cc)

-- ---- seen from one side

in_view_maps : (v : View) (a : Wide) (loops : List (List Lying))
    → map (map (seen_at v a)) loops
    ≡ map (map (in_view v)) (map (map (base_at (wide_at a))) (map (map vector_at) loops))
in_view_maps v a loops =
    map-twice (in_view v) (λ l. base_at (wide_at a) (vector_at l)) loops
    ∙ ap (map (map (in_view v))) (map-twice (base_at (wide_at a)) vector_at loops)

between_by : (level side : Bool) (ls : List (List Vector)) (near far : Vector)
    → (if level
    then
    (if side
    then box_along_y (only_rectangle (map (map beside_y) ls)) near.y far.y
    else box_along_x (only_rectangle (map (map beside_x) ls)) near.x far.x)
    else standing (map (map in_the_plan) ls) near.z far.z)
    ≡ prism_seen (if level then (if side then view.AlongY else view.AlongX) else view.Above)
    (map (map (in_view (if level then (if side then view.AlongY else view.AlongX) else view.Above))) ls)
    (depth_in (if level then (if side then view.AlongY else view.AlongX) else view.Above) near)
    (depth_in (if level then (if side then view.AlongY else view.AlongX) else view.Above) far)
between_by true true ls near far = refl
between_by true false ls near far = refl
between_by false side ls near far = refl

between_seen : (v : View) (along : Vector) (ls : List (List Vector)) (near far : Vector) → v ≡ view_along along
    → prism_between along ls near far ≡ prism_seen v (map (map (in_view v)) ls) (depth_in v near) (depth_in v far)
between_seen v along ls near far is =
    between_by (int_eq along.z (pos 0)) (int_eq along.x (pos 0)) ls near far
    ∙ ap (λ w. prism_seen w (map (map (in_view w)) ls) (depth_in w near) (depth_in w far)) (sym is)

depth-base : (v : View) (a p : Vector) → base_of (depth_in v a) (depth_in v p) ≡ depth_in v (base_at a p)
depth-base view.Above a p = refl
depth-base view.AlongX a p = refl
depth-base view.AlongY a p = refl

pub base_seen : (v : View) (a : Wide) (way : Lying) (along : Vector) (loops : List (List Lying)) (points : List (List Point))
    (m n : ℤ) → v ≡ view_along along → AreSeen v a loops (Some points) → AreEnds v a way loops (Some (m, n))
    → prism_seen v points m n ≡ base_prism (lying_solid loops way along) (wide_at a)
base_seen v a way along [] points m n is seen ends = absurd (cc)
base_seen v a way along ([] ∷ loops) points m n is seen ends = absurd (cc)
base_seen v a way along ((l ∷ ls) ∷ loops) points m n is seen ends =
    ap (λ p. prism_seen v p m n) (seen.0 ∙ in_view_maps v a ((l ∷ ls) ∷ loops))
    ∙ ap₂ (prism_seen v (map (map (in_view v)) (map (map (base_at (wide_at a))) (map (map vector_at) ((l ∷ ls) ∷ loops)))))
    (ends.0 ∙ depth-base v (wide_at a) (vector_at l))
    (ends.1 ∙ depth-base v (wide_at a) (sum_of (vector_at l) (vector_at way)))
    ∙ sym
    (between_seen v along (map (map (base_at (wide_at a))) (map (map vector_at) ((l ∷ ls) ∷ loops)))
    (base_at (wide_at a) (vector_at l)) (base_at (wide_at a) (sum_of (vector_at l) (vector_at way))) is)

-- ---- numbers that lie too far from their anchors

close_in : (v : View) (a p : Vector) → is_close_point a p ≡ true → is_close_in v a p ≡ true
close_in view.Above a p all =
    let one = and_parts (is_close a.x p.x) (is_close a.y p.y && is_close a.z p.z) all in
    and_from (is_close a.x p.x) (is_close a.y p.y) one.0 (and_parts (is_close a.y p.y) (is_close a.z p.z) one.1).0
close_in view.AlongX a p all = (and_parts (is_close a.x p.x) (is_close a.y p.y && is_close a.z p.z) all).1
close_in view.AlongY a p all =
    let one = and_parts (is_close a.x p.x) (is_close a.y p.y && is_close a.z p.z) all in
    and_from (is_close a.x p.x) (is_close a.z p.z) one.0 (and_parts (is_close a.y p.y) (is_close a.z p.z) one.1).1

close_depth : (v : View) (a p : Vector) → is_close_point a p ≡ true → is_close (depth_in v a) (depth_in v p) ≡ true
close_depth view.Above a p all =
    let one = and_parts (is_close a.x p.x) (is_close a.y p.y && is_close a.z p.z) all in
    (and_parts (is_close a.y p.y) (is_close a.z p.z) one.1).1
close_depth view.AlongX a p all = (and_parts (is_close a.x p.x) (is_close a.y p.y && is_close a.z p.z) all).0
close_depth view.AlongY a p all =
    let one = and_parts (is_close a.x p.x) (is_close a.y p.y && is_close a.z p.z) all in
    (and_parts (is_close a.y p.y) (is_close a.z p.z) one.1).0

each_close : (a : Wide) (way : Lying) (along : Vector) (loops : List (List Lying))
    → are_close (lying_solid loops way along) (wide_at a) ≡ true
    → every (λ l. are_close_ends (wide_at a) (vector_at way) (vector_at l)) loops ≡ true
each_close a way along loops close =
    sym (every-map (are_close_ends (wide_at a) (vector_at way)) vector_at loops) ∙ close

pub seen_where_close : (v : View) (a : Wide) (way : Lying) (along : Vector) (loops : List (List Lying))
    → are_close (lying_solid loops way along) (wide_at a) ≡ true → AreSeen v a loops None → ⊥
seen_where_close v a way along loops close none =
    false≢true
    (sym none
    ∙ every-from (λ l. are_close_ends (wide_at a) (vector_at way) (vector_at l))
    (λ l. is_close_in v (wide_at a) (vector_at l))
    (λ l ends. close_in v (wide_at a) (vector_at l)
    (and_parts (is_close_point (wide_at a) (vector_at l)) (is_close_point (wide_at a) (sum_of (vector_at l) (vector_at way))) ends).0)
    loops (each_close a way along loops close))

pub no_ends : (v : View) (a : Wide) (way : Lying) (along : Vector) (loops : List (List Lying))
    → are_close (lying_solid loops way along) (wide_at a) ≡ true → AreEnds v a way loops None
    → base_prism (lying_solid loops way along) (wide_at a) ≡ None
no_ends v a way along [] close none =
    no_loops_give_none along (base_at (wide_at a) (first_in []))
    (base_at (wide_at a) (sum_of (first_in []) (vector_at way)))
no_ends v a way along ([] ∷ loops) close none =
    empty_gives_none along (map (map (base_at (wide_at a))) (map (map vector_at) loops))
    (base_at (wide_at a) (first_in ([] ∷ map (map vector_at) loops)))
    (base_at (wide_at a) (sum_of (first_in ([] ∷ map (map vector_at) loops)) (vector_at way)))
no_ends v a way along ((l ∷ ls) ∷ loops) close none =
    absurd (false≢true (sym none ∙ and_from (is_close (depth_in v (wide_at a)) (depth_in v (vector_at l))) _
    (close_depth v (wide_at a) (vector_at l) here.0)
    (close_depth v (wide_at a) (sum_of (vector_at l) (vector_at way)) here.1)))
  where
    first : list_all (λ q. are_close_ends (wide_at a) (vector_at way) (vector_at q)) (l ∷ ls) ≡ true
    first =
        (and_parts (list_all (λ q. are_close_ends (wide_at a) (vector_at way) (vector_at q)) (l ∷ ls))
        (every (λ q. are_close_ends (wide_at a) (vector_at way) (vector_at q)) loops)
        (each_close a way along ((l ∷ ls) ∷ loops) close)).0

    here : (is_close_point (wide_at a) (vector_at l) ≡ true)
        × (is_close_point (wide_at a) (sum_of (vector_at l) (vector_at way)) ≡ true)
    here =
        and_parts (is_close_point (wide_at a) (vector_at l)) (is_close_point (wide_at a) (sum_of (vector_at l) (vector_at way)))
        (and_parts (are_close_ends (wide_at a) (vector_at way) (vector_at l))
        (list_all (λ q. are_close_ends (wide_at a) (vector_at way) (vector_at q)) ls) first).0
