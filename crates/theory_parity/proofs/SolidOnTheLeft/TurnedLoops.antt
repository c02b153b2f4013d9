-- Loops turned round have the same edges, each run through the other way; and loops of which each
-- is turned where the solid is not on the left of its first edge keep the solid on the left.

use Rattle.std.proofs.Common.{◌≡◌, refl, sym, ap, ap₂, ◌∙◌, inl, arith, pos, neg_ℤ}
use Rattle.std.proofs.Common.{Bool, true, false, not, int_lt, List, [], ◌∷◌, ◌++◌, map}
use Rattle.std.proofs.Common.{reverse, subst, if◌then◌else◌, ◌↔◌}
use Rattle.std.specs.List.{list_all, AllByRecursion}
use Rattle.std.proofs.lemmas.Int.{ints}
use Rattle.std.proofs.lemmas.Bool.{and_parts, and_from, false≢true}
use Rattle.std.proofs.lemmas.List.{reverse-append, reverse-reverse}
use Rattle.std.proofs.lemmas.List.Folds.{list_all-append}
use Rattle.theory_lists.proofs.Passing.{all_pass}
use Rattle.theory_lists.specs.Members.{Stands}
use Rattle.theory_lists.specs.Parity.{differ, is_odd_number}
use Rattle.theory_lists.proofs.Blocks.{all-append}
use Rattle.theory_lists.proofs.Members.{all_stands, all_follow, all_both}
use Rattle.theory_lists.proofs.Parity.{differ-false, differ_comm, is_odd_number-append}
use Rattle.theory_numbers.specs.Arrows.{Arrow}
use Rattle.theory_numbers.proofs.Vectors.Arrows.{cross-turn}
use Rattle.theory_numbers.proofs.Signs.{same_less, same_tests}
use Rattle.theory_numbers.proofs.SignTables.{hit_of, hit_of-exchanged}
use Rattle.theory_lists.proofs.Members.{all_that_stand}
use Rattle.theory_lists.proofs.Blocks.{all_in_parts}
use Rattle.theory_lists.proofs.Blocks.{stands_before, stands_behind}
use Rattle.sb_fraction.specs.declared.point.Point.{Point}
use Rattle.sb_fraction.specs.Spots.{Spot}
use Rattle.sb_fraction.specs.Edges.{Edge, edge, seen_from, turn_at}
use Rattle.theory_plans.specs.LoopEdges.{edges_back, edges_of_loop, edges_of}
use Rattle.theory_plans.specs.Loops.{is_bent_loop}
use Rattle.theory_plans.specs.Plans.{is_solid_left_of, right_of, middle_of, keep_left}
use Rattle.theory_plans.specs.Rays.{is_left_of, is_struck}
use Rattle.theory_parity.specs.Sides.{AreBentApart, turned_edge, turned_loop, is_left_at_first}
use Rattle.theory_parity.specs.Sides.{put_left}
use Rattle.theory_parity.proofs.SolidOnTheLeft.OneSideALoop.{turned_answer, one_side_a_loop}

-- ---- a ray does not see which way an edge runs

pub struck-turned : (r : Arrow) (p : Spot) (e : Edge)
    → is_struck r p (turned_edge e) ≡ is_struck r p e
struck-turned r p e =
    hit_of-exchanged (is_left_of r p e.b) (is_left_of r p e.a)
    (int_lt (pos 0) (turn_at (turned_edge e) p)) (int_lt (turn_at (turned_edge e) p) (pos 0))
    ∙ ap₂ (hit_of (is_left_of r p e.a) (is_left_of r p e.b))
    (same_less (turn_at (turned_edge e) p) (pos 0) (pos 0) (turn_at e p)
    (λ less. omega (arith, ints, turn)) (λ less. omega (arith, ints, turn)))
    (same_less (pos 0) (turn_at (turned_edge e) p) (turn_at e p) (pos 0)
    (λ less. omega (arith, ints, turn)) (λ less. omega (arith, ints, turn)))
  where
    turn : turn_at (turned_edge e) p ≡ neg_ℤ (turn_at e p)
    turn = cross-turn (seen_from p e.a) (seen_from p e.b)

-- ---- the edges of a loop turned round

-- a way with one point more
pub way-more : (a : Point) (points : List Point) (b last : Point)
    → edges_back a (points ++ (b ∷ [])) last ≡ edges_back a points b ++ (edge b last ∷ [])
way-more a [] b last = refl
way-more a (c ∷ points) b last = ap (λ t. edge a c ∷ t) (way-more c points b last)

-- what holds of each edge of a way turned round holds of the edges of the way back
turned_way : (P : Edge → Type 0) (a : Point) (points : List Point) (last : Point)
    → AllByRecursion (λ e. P (turned_edge e)) (edges_back a points last)
    → AllByRecursion P (edges_back last (reverse points) a)
turned_way P a [] last all = all
turned_way P a (b ∷ points) last all =
    subst (AllByRecursion P)
    (sym (ap (λ t. edges_back last t a) (reverse-append (b ∷ []) points)
    ∙ way-more last (reverse points) b a))
    (all-append P (edges_back last (reverse points) b) (edge b a ∷ [])
    (turned_way P b points last all.1) (all.0, tt))

-- and of a loop
pub turned_edges : (P : Edge → Type 0) (points : List Point)
    → AllByRecursion (λ e. P (turned_edge e)) (edges_of_loop points)
    → AllByRecursion P (edges_of_loop (turned_loop points))
turned_edges P [] all = tt
turned_edges P (a ∷ points) all = turned_way P a points a all

module _ (test : Edge → Bool) (sees_none : (e : Edge) → test (turned_edge e) ≡ test e) where
  odd_turned_way : (a : Point) (points : List Point) (last : Point)
      → is_odd_number test (edges_back last (reverse points) a)
      ≡ is_odd_number test (edges_back a points last)
  odd_turned_way a [] last = ap (λ t. differ t false) (sees_none (edge a last))
  odd_turned_way a (b ∷ points) last =
      ap (is_odd_number test)
      (ap (λ t. edges_back last t a) (reverse-append (b ∷ []) points)
      ∙ way-more last (reverse points) b a)
      ∙ is_odd_number-append test (edges_back last (reverse points) b) (edge b a ∷ [])
      ∙ ap₂ differ (odd_turned_way b points last)
      (differ-false (test (edge b a)) ∙ sees_none (edge a b))
      ∙ differ_comm (is_odd_number test (edges_back b points last)) (test (edge a b))

  -- a test that does not see which way an edge runs answers true as often, by parity
  pub odd_turned : (points : List Point)
      → is_odd_number test (edges_of_loop (turned_loop points))
      ≡ is_odd_number test (edges_of_loop points)
  odd_turned [] = refl
  odd_turned (a ∷ points) = odd_turned_way a points a

  odd_put_left : (edges : List Edge) (points : List Point)
      → is_odd_number test (edges_of_loop (put_left edges points))
      ≡ is_odd_number test (edges_of_loop points)
  odd_put_left edges points = by (is_left_at_first edges points)
    where
      by : (b : Bool)
          → is_odd_number test (edges_of_loop (if b then points else turned_loop points))
          ≡ is_odd_number test (edges_of_loop points)
      by true = refl
      by false = odd_turned points

  -- so it is where some of the loops are turned
  pub odd_where_put : (edges : List Edge) (loops : List (List Point))
      → is_odd_number test (edges_of (map (put_left edges) loops))
      ≡ is_odd_number test (edges_of loops)
  odd_where_put edges [] = refl
  odd_where_put edges (points ∷ loops) =
      is_odd_number-append test (edges_of_loop (put_left edges points))
      (edges_of (map (put_left edges) loops))
      ∙ ap₂ differ (odd_put_left edges points) (odd_where_put edges loops)
      ∙ sym (is_odd_number-append test (edges_of_loop points) (edges_of loops))

-- the side of the solid at an edge is the same
pub same_answer : (edges : List Edge) (loops : List (List Point)) (e : Edge)
    → is_solid_left_of e (edges_of (map (put_left edges) loops))
    ≡ is_solid_left_of e (edges_of loops)
same_answer edges loops e =
    ap not
    (odd_where_put (is_struck (right_of e) (middle_of e))
    (struck-turned (right_of e) (middle_of e)) edges loops)

-- ---- put on the left

module _ (loops : List (List Point)) (are : AreBentApart loops) where
  abbrev IsLeft : Edge → Type 0
  IsLeft e = is_solid_left_of e (edges_of loops) ≡ true

  -- the answer at the first edge is that of each
  by_first : (points : List Point) → Stands points loops → is_bent_loop points ≡ true
      → AllByRecursion
      (λ e. is_solid_left_of e (edges_of loops) ≡ is_left_at_first (edges_of loops) points)
      (edges_of_loop points)
  by_first [] stands bent = absurd (false≢true bent)
  by_first (a ∷ []) stands bent = absurd (false≢true bent)
  by_first (a ∷ b ∷ points) stands bent =
      all_that_stand
      (λ e. is_solid_left_of e (edges_of loops) ≡ is_solid_left_of (edge a b) (edges_of loops))
      (edges_of_loop (a ∷ b ∷ points))
      (λ e e_in. one_side_a_loop loops are (a ∷ b ∷ points) stands e (edge a b) e_in (inl refl))

  put_one : (points : List Point) → Stands points loops → is_bent_loop points ≡ true
      → AllByRecursion (λ e. Stands e (edges_of loops)) (edges_of_loop points)
      → AllByRecursion IsLeft (edges_of_loop (put_left (edges_of loops) points))
  put_one points stands bent there = by (is_left_at_first (edges_of loops) points) refl
    where
      by : (b : Bool) → is_left_at_first (edges_of loops) points ≡ b
          → AllByRecursion IsLeft (edges_of_loop (if b then points else turned_loop points))
      by true left =
          all_follow (λ e same. same ∙ left) (edges_of_loop points) (by_first points stands bent)
      by false right =
          turned_edges IsLeft points
          (all_follow
          (λ e known.
          turned_answer loops are e known.1 ∙ ap not (known.0 ∙ right))
          (edges_of_loop points)
          (all_both
          (λ e. is_solid_left_of e (edges_of loops) ≡ is_left_at_first (edges_of loops) points)
          (λ e. Stands e (edges_of loops)) (edges_of_loop points) (by_first points stands bent)
          there))

  put_all : (some : List (List Point)) → AllByRecursion (λ points. Stands points loops) some
      → list_all is_bent_loop some ≡ true
      → AllByRecursion (λ e. Stands e (edges_of loops)) (edges_of some)
      → AllByRecursion IsLeft (edges_of (map (put_left (edges_of loops)) some))
  put_all [] stand bent there = tt
  put_all (points ∷ rest) stand bent there =
      let parts = and_parts (is_bent_loop points) (list_all is_bent_loop rest) bent in
      let blocks = all_in_parts (λ e. Stands e (edges_of loops)) (edges_of_loop points)
      (edges_of rest) there in
      all-append IsLeft (edges_of_loop (put_left (edges_of loops) points))
      (edges_of (map (put_left (edges_of loops)) rest))
      (put_one points stand.0 parts.0 blocks.0) (put_all rest stand.1 parts.1 blocks.1)

  -- turned where their first edge asks for it, the loops keep the solid on the left
  pub put_left_keeps_left : keep_left (map (put_left (edges_of loops)) loops) ≡ true
  put_left_keeps_left =
      let put = edges_of (map (put_left (edges_of loops)) loops) in
      all_pass (λ e. is_solid_left_of e put) put
      (all_follow (λ e left. same_answer (edges_of loops) loops e ∙ left) put
      (put_all loops (all_that_stand (λ l. Stands l loops) loops (λ l stands. stands)) are.bent
      (all_that_stand (λ e. Stands e (edges_of loops)) (edges_of loops) (λ e stands. stands))))

-- ---- one edge a loop tells

left_at_first : (edges : List Edge) (points : List Point)
    → list_all (λ e. is_solid_left_of e edges) (edges_of_loop points) ≡ true
    → is_left_at_first edges points ≡ true
left_at_first edges [] all = refl
left_at_first edges (a ∷ []) all = refl
left_at_first edges (a ∷ b ∷ points) all =
    (and_parts (is_solid_left_of (edge a b) edges)
    (list_all (λ e. is_solid_left_of e edges) (edges_back b points a)) all).0

put_none_where_left : (edges : List Edge) (loops : List (List Point))
    → list_all (is_left_at_first edges) loops ≡ true → map (put_left edges) loops ≡ loops
put_none_where_left edges [] all = refl
put_none_where_left edges (points ∷ loops) all =
    let parts = and_parts (is_left_at_first edges points) (list_all (is_left_at_first edges) loops)
    all in
    ap₂ (λ s t. s ∷ t) (ap (λ b. if b then points else turned_loop points) parts.0)
    (put_none_where_left edges loops parts.1)

firsts_left : (edges : List Edge) (loops : List (List Point))
    → list_all (λ e. is_solid_left_of e edges) (edges_of loops) ≡ true
    → list_all (is_left_at_first edges) loops ≡ true
firsts_left edges [] all = refl
firsts_left edges (points ∷ loops) all =
    let parts = and_parts (list_all (λ e. is_solid_left_of e edges) (edges_of_loop points))
    (list_all (λ e. is_solid_left_of e edges) (edges_of loops))
    (sym (list_all-append (λ e. is_solid_left_of e edges) (edges_of_loop points) (edges_of loops))
    ∙ all) in
    and_from (is_left_at_first edges points) (list_all (is_left_at_first edges) loops)
    (left_at_first edges points parts.0) (firsts_left edges loops parts.1)

-- loops that keep it on the left already are left as they are
pub put_left_once : (loops : List (List Point)) → keep_left loops ≡ true
    → map (put_left (edges_of loops)) loops ≡ loops
put_left_once loops left =
    put_none_where_left (edges_of loops) loops (firsts_left (edges_of loops) loops left)

-- the loops keep the solid on the left exactly where the first edge of each has it there
pub kept_by_first : (loops : List (List Point)) → AreBentApart loops
    → keep_left loops ≡ list_all (is_left_at_first (edges_of loops)) loops
kept_by_first loops are =
    same_tests (keep_left loops) (list_all (is_left_at_first (edges_of loops)) loops)
    (λ left. firsts_left (edges_of loops) loops left)
    (λ all.
    sym (ap keep_left (put_none_where_left (edges_of loops) loops all))
    ∙ put_left_keeps_left loops are)

-- ---- one loop turned round

turned_twice : (points : List Point) → turned_loop (turned_loop points) ≡ points
turned_twice [] = refl
turned_twice (a ∷ points) = ap (λ t. a ∷ t) (reverse-reverse points)

stand_turned : (points : List Point) (e : Edge) → Stands e (edges_of_loop (turned_loop points))
    → Stands (turned_edge e) (edges_of_loop points)
stand_turned points e stands =
    all_stands (λ f. Stands (turned_edge f) (edges_of_loop points)) e
    (edges_of_loop (turned_loop points))
    (turned_edges (λ f. Stands (turned_edge f) (edges_of_loop points)) points
    (all_that_stand (λ f. Stands f (edges_of_loop points)) (edges_of_loop points)
    (λ f there. there)))
    stands

-- its edges are the edges of the loop, each turned round
pub edges_of_turned : (points : List Point) (e : Edge)
    → Stands e (edges_of_loop (turned_loop points)) ↔ Stands (turned_edge e) (edges_of_loop points)
edges_of_turned points e = (
  λ stands. stand_turned points e stands,
  λ stands.
      stand_turned (turned_loop points) (turned_edge e)
      (subst (λ l. Stands (turned_edge e) (edges_of_loop l)) (sym (turned_twice points)) stands),
)

odd_among : (test : Edge → Bool) → ((e : Edge) → test (turned_edge e) ≡ test e)
    → (before : List (List Point)) (points : List Point) (after : List (List Point))
    → is_odd_number test (edges_of (before ++ turned_loop points ∷ after))
    ≡ is_odd_number test (edges_of (before ++ points ∷ after))
odd_among test sees_none [] points after =
    is_odd_number-append test (edges_of_loop (turned_loop points)) (edges_of after)
    ∙ ap (λ b. differ b (is_odd_number test (edges_of after))) (odd_turned test sees_none points)
    ∙ sym (is_odd_number-append test (edges_of_loop points) (edges_of after))
odd_among test sees_none (first ∷ before) points after =
    is_odd_number-append test (edges_of_loop first)
    (edges_of (before ++ turned_loop points ∷ after))
    ∙ ap (differ (is_odd_number test (edges_of_loop first)))
    (odd_among test sees_none before points after)
    ∙ sym
    (is_odd_number-append test (edges_of_loop first) (edges_of (before ++ points ∷ after)))

-- the side of the solid at each edge is as before
pub others_as_before : (before : List (List Point)) (points : List Point)
    (after : List (List Point)) (e : Edge)
    → is_solid_left_of e (edges_of (before ++ turned_loop points ∷ after))
    ≡ is_solid_left_of e (edges_of (before ++ points ∷ after))
others_as_before before points after e =
    ap not
    (odd_among (is_struck (right_of e) (middle_of e)) (struck-turned (right_of e) (middle_of e))
    before points after)

stands_among : (e : Edge) (before : List (List Point)) (points : List Point)
    (after : List (List Point)) → Stands e (edges_of_loop points)
    → Stands e (edges_of (before ++ points ∷ after))
stands_among e [] points after stands =
    stands_before e (edges_of_loop points) (edges_of after) stands
stands_among e (first ∷ before) points after stands =
    stands_behind e (edges_of_loop first) (edges_of (before ++ points ∷ after))
    (stands_among e before points after stands)

-- that at each edge of the loop, turned round, is the opposite of what it was
pub turned_among : (before : List (List Point)) (points : List Point) (after : List (List Point))
    → AreBentApart (before ++ points ∷ after) → (e : Edge) → Stands e (edges_of_loop points)
    → is_solid_left_of (turned_edge e) (edges_of (before ++ turned_loop points ∷ after))
    ≡ not (is_solid_left_of e (edges_of (before ++ points ∷ after)))
turned_among before points after are e stands =
    others_as_before before points after (turned_edge e)
    ∙ turned_answer (before ++ points ∷ after) are e
    (stands_among e before points after stands)
