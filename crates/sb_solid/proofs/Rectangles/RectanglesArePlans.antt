-- A loop that is a rectangle is no knot, and the plan of one loop is a rectangle where its normal form is.
use Rattle.std.proofs.Common.{◌≡◌, ℤ, pos, ◌<ℤ◌, ◌≤ℤ◌, ◌-ℤ◌, ◌*ℤ◌, Bool, true, false, not, ◌&&◌, ◌||◌, ◌⊎◌, inl, inr, List, [], ◌∷◌, length, reverse, nat_lt, ◌≤◌, ◌<◌, Option, Some, None, refl, sym, ap, ap₂, ◌∙◌, subst, arith}
use Rattle.std.specs.Prelude.{int_lt, if◌then◌else◌}
use Rattle.std.specs.List.{list_all, AllByRecursion}
use Rattle.std.specs.Ordering.{int_eq}
use Rattle.std.proofs.lemmas.Int.{ints}
use Rattle.std.proofs.lemmas.Bool.{and_parts, or_parts, ltb-true, false≢true}
use Rattle.std.proofs.lemmas.Bool.Decides.{Decides-int_eq}
use Rattle.std.proofs.lemmas.List.{length-reverse}
use Rattle.theory_numbers.proofs.Shapes.{var, num, minus, times, equal}
use Rattle.theory_numbers.proofs.Signs.{less_from, not_less_from, test_less}
use Rattle.sb_fraction.specs.declared.point.Point.{Point}
use Rattle.sb_fraction.specs.Edges.{Edge}
use Rattle.sb_fraction.specs.Plane.{is_plan_point, is_coordinate}
use Rattle.theory_plans.specs.LoopEdges.{edges_of}
use Rattle.theory_plans.specs.Loops.{bend, is_bent, are_bent, is_bent_loop, comes_before}
use Rattle.theory_plans.specs.Rectangles.{corner, rectangle}
use Rattle.theory_plans.specs.Plans.{is_same_point, are_apart, is_plan}
use Rattle.theory_plans.proofs.Edges.EdgesOfPlans.{same_point, bent_is_not_0, plan_is}
use Rattle.theory_plans.proofs.RectangleIsPlan.{sides_make_rectangle, rectangle_is_plan}
use Rattle.theory_parity.specs.Sides.{turned_loop, is_left_at_first, put_left}
use Rattle.theory_loops.specs.Normal.{normal_loop, dropped}
use Rattle.theory_loops.specs.Answers.{normal_loops, keeps_few, are_flat, are_knotted}
use Rattle.theory_loops.proofs.NormalIsLoop.{normal_is_bent, all_left}
use Rattle.theory_loops.proofs.LeastFirst.{none_before_head, IsNotBefore}
use Rattle.sb_solid.specs.Solids.{are_same_points, rectangle_in}
use Rattle.sb_solid.proofs.Rectangles.Mirrored.{apart-mirrored}

-- ---- the corners

-- lists that the test finds the same are equal
same_lists : (as_ bs : List Point) → are_same_points as_ bs ≡ true → as_ ≡ bs
same_lists [] [] all = refl
same_lists [] (b ∷ bs) all = absurd (false≢true all)
same_lists (a ∷ as_) [] all = absurd (false≢true all)
same_lists (a ∷ as_) (b ∷ bs) all =
    let parts = and_parts (is_same_point a b) (are_same_points as_ bs) all in
    ap₂ (λ s t. s ∷ t) (same_point a b parts.0) (same_lists as_ bs parts.1)

-- the corners lie apart along both axes
pub record IsWide (a c : Point) : Type 0 where
  pub along_x : a.x <ℤ c.x
  pub along_y : a.y <ℤ c.y

wide_by : (m n : ℤ) → m ≤ℤ n → (n ≡ m → ⊥) → m <ℤ n
wide_by m n least apart = by (int_lt m n) refl
  where
    by : (t : Bool) → int_lt m n ≡ t → m <ℤ n
    by true is = less_from m n is
    by false is = let other = not_less_from m n is in absurd (apart (omega (arith, ints, other, least)))

-- a corner beside the first, and one above it, that do not come before it
not_before_x : (a c : Point) → comes_before (corner c.x a.y) a ≡ false → a.x ≤ℤ c.x
not_before_x a c late = not_less_from c.x a.x (or_parts (int_lt c.x a.x) (int_eq c.x a.x && int_lt a.y a.y) late).0

not_before_y : (a c : Point) → comes_before (corner a.x c.y) a ≡ false → a.y ≤ℤ c.y
not_before_y a c late =
    let parts = or_parts (int_lt a.x a.x) (int_eq a.x a.x && int_lt c.y a.y) late in
    not_less_from c.y a.y
    (ap (λ t. t && int_lt c.y a.y) (sym ((Decides-int_eq a.x a.x).1 refl)) ∙ parts.1)

-- over two sides of a rectangle, of which one has no length, the way is not bent
level_x : (x y q : ℤ) → ((x -ℤ x) *ℤ (q -ℤ y)) -ℤ ((y -ℤ y) *ℤ (x -ℤ x)) ≡ pos 0
level_x x y q =
    equal
    (minus (times (minus (var x) (var x)) (minus (var q) (var y))) (times (minus (var y) (var y)) (minus (var x) (var x))))
    (num 0) (omega arith)

level_y : (x y p : ℤ) → ((p -ℤ x) *ℤ (y -ℤ y)) -ℤ ((y -ℤ y) *ℤ (p -ℤ p)) ≡ pos 0
level_y x y p =
    equal
    (minus (times (minus (var p) (var x)) (minus (var y) (var y))) (times (minus (var y) (var y)) (minus (var p) (var p))))
    (num 0) (omega arith)

bent_wide : (a c : Point) → is_bent a (corner c.x a.y) c ≡ true → (c.x ≡ a.x → ⊥) × (c.y ≡ a.y → ⊥)
bent_wide a c bent = (
  λ same.
      bent_is_not_0 (bend a (corner c.x a.y) c) bent
      (subst (λ m. ((m -ℤ a.x) *ℤ (c.y -ℤ a.y)) -ℤ ((a.y -ℤ a.y) *ℤ (m -ℤ m)) ≡ pos 0) (sym same)
      (level_x a.x a.y c.y)),
  λ same.
      bent_is_not_0 (bend a (corner c.x a.y) c) bent
      (subst (λ m. ((c.x -ℤ a.x) *ℤ (m -ℤ a.y)) -ℤ ((a.y -ℤ a.y) *ℤ (c.x -ℤ c.x)) ≡ pos 0) (sym same)
      (level_y a.x a.y c.x)),
)

steep_x : (x y q : ℤ) → ((x -ℤ x) *ℤ (q -ℤ q)) -ℤ ((q -ℤ y) *ℤ (x -ℤ x)) ≡ pos 0
steep_x x y q =
    equal
    (minus (times (minus (var x) (var x)) (minus (var q) (var q))) (times (minus (var q) (var y)) (minus (var x) (var x))))
    (num 0) (omega arith)

steep_y : (x y p : ℤ) → ((x -ℤ x) *ℤ (y -ℤ y)) -ℤ ((y -ℤ y) *ℤ (p -ℤ x)) ≡ pos 0
steep_y x y p =
    equal
    (minus (times (minus (var x) (var x)) (minus (var y) (var y))) (times (minus (var y) (var y)) (minus (var p) (var x))))
    (num 0) (omega arith)

steep_wide : (a c : Point) → is_bent a (corner a.x c.y) c ≡ true → (c.x ≡ a.x → ⊥) × (c.y ≡ a.y → ⊥)
steep_wide a c bent = (
  λ same.
      bent_is_not_0 (bend a (corner a.x c.y) c) bent
      (subst (λ m. ((a.x -ℤ a.x) *ℤ (c.y -ℤ c.y)) -ℤ ((c.y -ℤ a.y) *ℤ (m -ℤ a.x)) ≡ pos 0) (sym same)
      (steep_x a.x a.y c.y)),
  λ same.
      bent_is_not_0 (bend a (corner a.x c.y) c) bent
      (subst (λ m. ((a.x -ℤ a.x) *ℤ (m -ℤ m)) -ℤ ((m -ℤ a.y) *ℤ (c.x -ℤ a.x)) ≡ pos 0) (sym same)
      (steep_y a.x a.y c.x)),
)

-- ---- a bent loop that begins at no later point, and is a rectangle

-- its corners, in one sense or in the other
abbrev pub IsRead : Point → Point → Point → Point → Type 0
IsRead a b c d =
    ((b ≡ corner c.x a.y) × (d ≡ corner a.x c.y)) ⊎ ((b ≡ corner a.x c.y) × (d ≡ corner c.x a.y))

read_by : (a b c d : Point) (r : Point × Point) → rectangle_in (a ∷ b ∷ c ∷ d ∷ []) ≡ Some r → IsRead a b c d
read_by a b c d r is =
    by (are_same_points (a ∷ b ∷ c ∷ d ∷ []) (rectangle a.x c.x a.y c.y)) refl
    (are_same_points (a ∷ d ∷ c ∷ b ∷ []) (rectangle a.x c.x a.y c.y)) refl is
  where
    second : (p q r s : Point) → are_same_points (p ∷ q ∷ r ∷ s ∷ []) (rectangle p.x r.x p.y r.y) ≡ true
        → (q ≡ corner r.x p.y) × (s ≡ corner p.x r.y)
    second p q r s all =
        let one = and_parts (is_same_point p (corner p.x p.y)) (are_same_points (q ∷ r ∷ s ∷ []) (corner r.x p.y ∷ corner r.x r.y ∷ corner p.x r.y ∷ [])) all in
        let two = and_parts (is_same_point q (corner r.x p.y)) (are_same_points (r ∷ s ∷ []) (corner r.x r.y ∷ corner p.x r.y ∷ [])) one.1 in
        let three = and_parts (is_same_point r (corner r.x r.y)) (are_same_points (s ∷ []) (corner p.x r.y ∷ [])) two.1 in
        let last = and_parts (is_same_point s (corner p.x r.y)) true three.1 in
        (same_point q (corner r.x p.y) two.0, same_point s (corner p.x r.y) last.0)

    by : (t : Bool) → are_same_points (a ∷ b ∷ c ∷ d ∷ []) (rectangle a.x c.x a.y c.y) ≡ t
        → (u : Bool) → are_same_points (a ∷ d ∷ c ∷ b ∷ []) (rectangle a.x c.x a.y c.y) ≡ u
        → (if t || u then Some (a, c) else None) ≡ Some r → IsRead a b c d
    by true first u other some = inl (second a b c d first)
    by false first true other some = let at = second a d c b other in inr (at.1, at.0)
    by false first false other none = absurd (is_some_none none)
      where
        is_some_none : None ≡ Some r → ⊥
        is_some_none e = absurd (cc)

wide_read : (a b c d : Point) → IsRead a b c d → is_bent a b c ≡ true → comes_before b a ≡ false
    → comes_before d a ≡ false → IsWide a c
wide_read a b c d (inl (b_is, d_is)) bent b_late d_late =
    let apart = bent_wide a c (ap (λ p. is_bent a p c) (sym b_is) ∙ bent) in
    record {
      along_x = wide_by a.x c.x (not_before_x a c (ap (λ p. comes_before p a) (sym b_is) ∙ b_late)) apart.0;
      along_y = wide_by a.y c.y (not_before_y a c (ap (λ p. comes_before p a) (sym d_is) ∙ d_late)) apart.1;
    }
wide_read a b c d (inr (b_is, d_is)) bent b_late d_late =
    let apart = steep_wide a c (ap (λ p. is_bent a p c) (sym b_is) ∙ bent) in
    record {
      along_x = wide_by a.x c.x (not_before_x a c (ap (λ p. comes_before p a) (sym d_is) ∙ d_late)) apart.0;
      along_y = wide_by a.y c.y (not_before_y a c (ap (λ p. comes_before p a) (sym b_is) ∙ b_late)) apart.1;
    }

-- ---- a rectangle is no knot

pub sides_apart : (x0 x1 y0 y1 : ℤ) → x0 <ℤ x1 → y0 <ℤ y1 → is_coordinate x0 ≡ true → is_coordinate x1 ≡ true
    → is_coordinate y0 ≡ true → is_coordinate y1 ≡ true → is_plan (rectangle x0 x1 y0 y1 ∷ []) ≡ true
sides_apart x0 x1 y0 y1 along_x along_y low_x high_x low_y high_y =
    rectangle_is_plan (rectangle x0 x1 y0 y1 ∷ [])
    (sides_make_rectangle x0 x1 y0 y1 (test_less x0 x1 along_x) (test_less y0 y1 along_y) low_x high_x low_y high_y)

read_apart : (a b c d : Point) → IsRead a b c d → IsWide a c → is_plan_point a ≡ true → is_plan_point c ≡ true
    → are_apart ((a ∷ b ∷ c ∷ d ∷ []) ∷ []) ≡ true
read_apart a b c d (inl (b_is, d_is)) wide a_in c_in =
    let at = and_parts (is_coordinate a.x) (is_coordinate a.y) a_in in
    let to = and_parts (is_coordinate c.x) (is_coordinate c.y) c_in in
    ap₂ (λ p q. are_apart ((a ∷ p ∷ c ∷ q ∷ []) ∷ [])) b_is d_is
    ∙ (plan_is (rectangle a.x c.x a.y c.y ∷ []) (sides_apart a.x c.x a.y c.y wide.along_x wide.along_y at.0 to.0 at.1 to.1)).apart
read_apart a b c d (inr (b_is, d_is)) wide a_in c_in =
    let at = and_parts (is_coordinate a.x) (is_coordinate a.y) a_in in
    let to = and_parts (is_coordinate c.x) (is_coordinate c.y) c_in in
    ap₂ (λ p q. are_apart ((a ∷ p ∷ c ∷ q ∷ []) ∷ [])) b_is d_is
    ∙ sym (apart-mirrored (a ∷ corner a.x c.y ∷ c ∷ corner c.x a.y ∷ []))
    ∙ (plan_is (rectangle a.y c.y a.x c.x ∷ []) (sides_apart a.y c.y a.x c.x wide.along_y wide.along_x at.1 to.1 at.0 to.0)).apart

-- what is asked of a loop
pub record IsSeen (n : List Point) : Type 0 where
  pub bent : is_bent_loop n ≡ true
  pub late : (a : Point) (rest : List Point) → n ≡ a ∷ rest → AllByRecursion (IsNotBefore a) n
  pub in_range : list_all is_plan_point n ≡ true

pub record IsBox (a c : Point) (n : List Point) : Type 0 where
  pub wide : IsWide a c
  pub low_in : is_plan_point a ≡ true
  pub high_in : is_plan_point c ≡ true
  pub apart : are_apart (n ∷ []) ≡ true

pub is_box : (n : List Point) → IsSeen n → (r : Point × Point) → rectangle_in n ≡ Some r → IsBox r.0 r.1 n
is_box [] seen r is = absurd (false≢true seen.bent)
is_box (a ∷ []) seen r is = absurd (false≢true seen.bent)
is_box (a ∷ b ∷ []) seen r is = absurd (never is)
  where
    never : None ≡ Some r → ⊥
    never e = absurd (cc)
is_box (a ∷ b ∷ c ∷ []) seen r is = absurd (never is)
  where
    never : None ≡ Some r → ⊥
    never e = absurd (cc)
is_box (a ∷ b ∷ c ∷ d ∷ []) seen r is =
    let read = read_by a b c d r is in
    let late = seen.late a (b ∷ c ∷ d ∷ []) refl in
    let bent = and_parts (is_bent a b c) (are_bent b c (d ∷ []) a b) seen.bent in
    let one = and_parts (is_plan_point a) (list_all is_plan_point (b ∷ c ∷ d ∷ [])) seen.in_range in
    let two = and_parts (is_plan_point b) (list_all is_plan_point (c ∷ d ∷ [])) one.1 in
    let three = and_parts (is_plan_point c) (list_all is_plan_point (d ∷ [])) two.1 in
    let wide = wide_read a b c d read bent.0 late.1.0 late.1.1.1.0 in
    subst (λ p. IsBox p.0 p.1 (a ∷ b ∷ c ∷ d ∷ [])) (corners is)
    (record { wide = wide; low_in = one.0; high_in = three.0; apart = read_apart a b c d read wide one.0 three.0 })
  where
    corners : rectangle_in (a ∷ b ∷ c ∷ d ∷ []) ≡ Some r → (a, c) ≡ r
    corners same =
        by (are_same_points (a ∷ b ∷ c ∷ d ∷ []) (rectangle a.x c.x a.y c.y)
        || are_same_points (a ∷ d ∷ c ∷ b ∷ []) (rectangle a.x c.x a.y c.y)) same
      where
        by : (t : Bool) → (if t then Some (a, c) else None) ≡ Some r → (a, c) ≡ r
        by true e = cc
        by false e = absurd (cc)
is_box (a ∷ b ∷ c ∷ d ∷ f ∷ points) seen r is = absurd (never is)
  where
    never : None ≡ Some r → ⊥
    never e = absurd (cc)

-- ---- the normal form of a loop

pub normal_is_seen : (points : List Point) → list_all is_plan_point points ≡ true → keeps_few points ≡ false
    → IsSeen (normal_loop points)
normal_is_seen points in_range many = record {
  bent = normal_is_bent points many;
  late = λ a rest is. subst (AllByRecursion (IsNotBefore a)) (sym is) (none_before_head (dropped points) a rest is);
  in_range = all_left is_plan_point points in_range;
}

-- turned round it is the same rectangle
or_comm : (s t : Bool) → (s || t) ≡ (t || s)
or_comm true true = refl
or_comm true false = refl
or_comm false true = refl
or_comm false false = refl

turned_same : (n : List Point) → rectangle_in (turned_loop n) ≡ rectangle_in n
turned_same [] = refl
turned_same (a ∷ []) = refl
turned_same (a ∷ b ∷ []) = refl
turned_same (a ∷ b ∷ c ∷ []) = refl
turned_same (a ∷ b ∷ c ∷ d ∷ []) =
    ap (λ t. if t then Some (a, c) else None)
    (or_comm (are_same_points (a ∷ d ∷ c ∷ b ∷ []) (rectangle a.x c.x a.y c.y))
    (are_same_points (a ∷ b ∷ c ∷ d ∷ []) (rectangle a.x c.x a.y c.y)))
turned_same (a ∷ b ∷ c ∷ d ∷ e ∷ points) = many (reverse (b ∷ c ∷ d ∷ e ∷ points)) (five points)
  where
    five : (ps : List Point) → 4 ≤ length (reverse (b ∷ c ∷ d ∷ e ∷ ps))
    five ps = ap_le (length-reverse (b ∷ c ∷ d ∷ e ∷ ps))
      where
        ap_le : length (reverse (b ∷ c ∷ d ∷ e ∷ ps)) ≡ length (b ∷ c ∷ d ∷ e ∷ ps)
            → 4 ≤ length (reverse (b ∷ c ∷ d ∷ e ∷ ps))
        ap_le same = omega (arith, same)

    many : (l : List Point) → 4 ≤ length l → rectangle_in (a ∷ l) ≡ None
    many [] few = absurd (omega (arith, few))
    many (p ∷ []) few = absurd (omega (arith, few))
    many (p ∷ q ∷ []) few = absurd (omega (arith, few))
    many (p ∷ q ∷ r ∷ []) few = absurd (omega (arith, few))
    many (p ∷ q ∷ r ∷ s ∷ l) few = refl

put_same : (edges : List Edge) (n : List Point) → rectangle_in (put_left edges n) ≡ rectangle_in n
put_same edges n = by (is_left_at_first edges n)
  where
    by : (t : Bool) → rectangle_in (if t then n else turned_loop n) ≡ rectangle_in n
    by true = refl
    by false = turned_same n

pub few_give_none : (n : List Point) → nat_lt (length n) 3 ≡ true → rectangle_in n ≡ None
few_give_none [] few = refl
few_give_none (a ∷ []) few = refl
few_give_none (a ∷ b ∷ []) few = refl
few_give_none (a ∷ b ∷ c ∷ n) few = absurd (never (ltb-true (length (a ∷ b ∷ c ∷ n)) 3 few))
  where
    never : length (a ∷ b ∷ c ∷ n) < 3 → ⊥
    never less = absurd (omega (arith, less))

-- a loop without a plan is no rectangle, and else its plan is one where its normal form is
pub none_without_plan : (points : List Point) → list_all is_plan_point points ≡ true
    → (are_flat (points ∷ []) || are_knotted (points ∷ [])) ≡ true → rectangle_in (normal_loop points) ≡ None
none_without_plan points in_range none = by (keeps_few points) refl
  where
    knot : keeps_few points ≡ false → are_apart (normal_loop points ∷ []) ≡ true → ⊥
    knot many apart =
        false≢true
        (sym (ap (λ t. (t || false) || (not (t || false) && not (are_apart (normal_loop points ∷ [])))) many
        ∙ ap not apart) ∙ none)

    by_answer : (r : Option (Point × Point)) → rectangle_in (normal_loop points) ≡ r → keeps_few points ≡ false
        → rectangle_in (normal_loop points) ≡ None
    by_answer None is many = is
    by_answer (Some r) is many =
        absurd (knot many (is_box (normal_loop points) (normal_is_seen points in_range many) r is).apart)

    by : (t : Bool) → keeps_few points ≡ t → rectangle_in (normal_loop points) ≡ None
    by true few = few_give_none (normal_loop points) few
    by false many = by_answer (rectangle_in (normal_loop points)) refl many

pub same_as_plan : (points : List Point)
    → rectangle_in (put_left (edges_of (normal_loops (points ∷ []))) (normal_loop points))
    ≡ rectangle_in (normal_loop points)
same_as_plan points = put_same (edges_of (normal_loops (points ∷ []))) (normal_loop points)
