-- Whatever points are dropped first, one closed loop is left: its normal form.

use Rattle.std.proofs.Common.{◌≡◌, refl, sym, ap, ap₂, ◌∙◌, subst, ◌⊎◌, inl, inr, arith, pos, ℕ}
use Rattle.std.proofs.Common.{zero, suc, ◌≤◌, Bool, true, false, List, [], ◌∷◌, ◌++◌, length}
use Rattle.std.proofs.Common.{if◌then◌else◌}
use Rattle.std.proofs.lemmas.Bool.{false≢true}
use Rattle.std.proofs.lemmas.List.{length-append, append-nil}
use Rattle.sb_fraction.specs.declared.point.Point.{Point}
use Rattle.theory_plans.specs.Loops.{bend, is_bent}
use Rattle.theory_plans.proofs.Edges.EdgesOfPlans.{bent_is_not_0}
use Rattle.theory_loops.specs.Normal.{first_of, last_of, drop_between, drop_first, normal_loop}
use Rattle.theory_loops.specs.Orders.{IsLevelAt, Becomes, IsSameLoop}
use Rattle.theory_loops.specs.Orders.Becomes.{stays, begins_next, loses_first}
use Rattle.theory_loops.proofs.DropsKeep.{straight, read_on, normal_keeps}
use Rattle.theory_loops.proofs.NothingLeftToDrop.{IsDone}
use Rattle.theory_loops.proofs.NormalIsLoop.{done_from_next, normal_is_done}
use Rattle.theory_loops.proofs.PlansStay.{between_from}
use Rattle.theory_loops.proofs.Orders.SameLoop.{same_head, same_rest, parted_so, same_loop, same_back}
use Rattle.theory_loops.proofs.Orders.SameLoop.{same_through, becomes_through, becomes_turned}
use Rattle.theory_loops.proofs.Orders.SameLoop.{last_of-append, first_of-append}
use Rattle.theory_loops.proofs.Orders.TwoDropsMeet.{two_drops_meet}

-- ---- the first that may be dropped is one that may be dropped

record IsFound (before : Point) (points : List Point) (beyond : Point) : Type 0 where
  front : List Point
  here : Point
  back : List Point
  points_are : points ≡ front ++ (here ∷ back)
  left_are : drop_between before points beyond ≡ front ++ back
  level : bend (last_of before front) here (first_of back beyond) ≡ pos 0

found : (before : Point) (points : List Point) (beyond : Point)
    → (drop_between before points beyond ≡ points) ⊎ IsFound before points beyond
found before [] beyond = inl refl
found before (b ∷ points) beyond =
    by (is_bent before b (first_of points beyond)) refl (found b points beyond)
  where
    by : (t : Bool) → is_bent before b (first_of points beyond) ≡ t
        → (drop_between b points beyond ≡ points) ⊎ IsFound b points beyond
        → (drop_between before (b ∷ points) beyond ≡ b ∷ points)
        ⊎ IsFound before (b ∷ points) beyond
    by true bent (inl same) =
        inl
        (ap (λ t. if t then b ∷ drop_between b points beyond else points) bent
        ∙ ap (λ l. b ∷ l) same)
    by true bent (inr at) =
        inr
        (record {
          front = b ∷ at.front;
          here = at.here;
          back = at.back;
          points_are = ap (λ l. b ∷ l) at.points_are;
          left_are = ap (λ t. if t then b ∷ drop_between b points beyond else points) bent
              ∙ ap (λ l. b ∷ l) at.left_are;
          level = at.level;
        })
    by false not_bent later =
        inr
        (record {
          front = [];
          here = b;
          back = points;
          points_are = refl;
          left_are = ap (λ t. if t then b ∷ drop_between b points beyond else points) not_bent;
          level = straight before b (first_of points beyond) not_bent;
        })

becomes_without : (u : List Point) (b : Point) (v : List Point) → IsLevelAt b (v ++ u)
    → Becomes (u ++ (b ∷ v)) (u ++ v)
becomes_without u b v level =
    becomes_through (becomes_turned u (b ∷ v)) (loses_first level (becomes_turned v u))

becomes_dropped : (points : List Point) → Becomes points (drop_first points)
becomes_dropped [] = stays
becomes_dropped (a ∷ points) = from (found (last_of a points) (a ∷ points) a)
  where
    level_at : (u : List Point) (b : Point) (v : List Point) → a ∷ points ≡ u ++ (b ∷ v)
        → bend (last_of (last_of a points) u) b (first_of v a) ≡ pos 0 → IsLevelAt b (v ++ u)
    level_at [] b v same level =
        subst (IsLevelAt b) (sym (append-nil v))
        (sym (ap₂ (λ h l. bend (last_of h l) b (first_of v h)) (same_head a b points v same)
        (same_rest a b points v same)) ∙ level)
    level_at (c ∷ u) b v same level =
        ap₂ (λ s t. bend s b t) (last_of-append b v c u)
        (first_of-append v c u b ∙ ap (first_of v) (sym (same_head a c points (u ++ (b ∷ v)) same)))
        ∙ level

    from : (drop_first (a ∷ points) ≡ a ∷ points) ⊎ IsFound (last_of a points) (a ∷ points) a
        → Becomes (a ∷ points) (drop_first (a ∷ points))
    from (inl same) = subst (Becomes (a ∷ points)) (sym same) stays
    from (inr at) =
        subst (Becomes (a ∷ points)) (sym at.left_are)
        (subst (λ l. Becomes l (at.front ++ at.back)) (sym at.points_are)
        (becomes_without at.front at.here at.back
        (level_at at.front at.here at.back at.points_are at.level)))

-- so the normal form comes of the loop
pub becomes_normal : (points : List Point) → Becomes points (normal_loop points)
becomes_normal points =
    normal_keeps (Becomes points)
    (record {
      dropping = λ l b. becomes_through b (becomes_dropped l);
      reading_on = λ a l b. becomes_through b (begins_next stays);
    }) points stays

-- ---- the first drop on a way

record Drops (points left : List Point) : Type 0 where
  here : Point
  rest : List Point
  turned : IsSameLoop points (here ∷ rest)
  level : IsLevelAt here rest
  after : Becomes rest left

first_drop : {points left : List Point} → Becomes points left
    → IsSameLoop points left ⊎ Drops points left
first_drop {points} {left} stays = inl (same_loop points)
first_drop {points} {left} (begins_next {a = a} {points = rest} b) = from (first_drop b)
  where
    step : IsSameLoop (a ∷ rest) (rest ++ (a ∷ []))
    step = parted_so (a ∷ []) rest

    from : IsSameLoop (rest ++ (a ∷ [])) left ⊎ Drops (rest ++ (a ∷ [])) left
        → IsSameLoop (a ∷ rest) left ⊎ Drops (a ∷ rest) left
    from (inl same) = inl (same_through (a ∷ rest) (rest ++ (a ∷ [])) left step same)
    from (inr d) =
        inr
        (record {
          here = d.here;
          rest = d.rest;
          turned = same_through (a ∷ rest) (rest ++ (a ∷ [])) (d.here ∷ d.rest) step d.turned;
          level = d.level;
          after = d.after;
        })
first_drop {points} {left} (loses_first {a = a} {points = rest} level b) =
    inr
    (record { here = a; rest = rest; turned = same_loop (a ∷ rest); level = level; after = b })

-- ---- one loop is left

done_turned : (xs ys : List Point) → IsSameLoop xs ys → IsDone xs → IsDone ys
done_turned xs ys t done =
    subst IsDone (sym t.other)
    (read_on IsDone done_from_next t.front t.back (subst IsDone t.one done))

-- of a loop with nothing left to drop the first point may not be dropped
done_is_not_level : (a : Point) (points : List Point) → IsDone (a ∷ points) → IsLevelAt a points → ⊥
done_is_not_level a points (inl none) level = absurd (some (ap length none))
  where
    some : length (a ∷ points) ≡ 0 → ⊥
    some same = absurd (omega (arith, same))
done_is_not_level a [] (inr bent) level = absurd (false≢true bent)
done_is_not_level a (b ∷ points) (inr bent) level =
    bent_is_not_0 (bend (last_of b points) a b) (between_from a b points a b bent).1 level

-- it has as many points from whichever it is read
pub length-turned : (xs ys : List Point) → IsSameLoop xs ys → length xs ≡ length ys
length-turned xs ys t =
    let one = length-append t.front t.back in
    let other = length-append t.back t.front in
    ap length t.one ∙ omega (arith, one, other) ∙ sym (ap length t.other)

abbrev LeavesOne : ℕ → Type 0
LeavesOne n =
    (points ys zs : List Point) → length points ≤ n → IsDone ys → IsDone zs
    → Becomes points ys → Becomes points zs → IsSameLoop ys zs

no_drop_left : (points ys : List Point) → IsDone ys → IsSameLoop points ys
    → (zs : List Point) → Drops points zs → ⊥
no_drop_left points ys done same zs d =
    done_is_not_level d.here d.rest
    (done_turned ys (d.here ∷ d.rest)
    (same_through ys points (d.here ∷ d.rest) (same_back points ys same) d.turned) done)
    d.level

one_more : (n : ℕ) → LeavesOne n → (points ys zs : List Point) → length points ≤ suc n
    → IsDone ys → IsDone zs → IsSameLoop points ys ⊎ Drops points ys
    → IsSameLoop points zs ⊎ Drops points zs → IsSameLoop ys zs
one_more n leaves points ys zs few ys_done zs_done (inl s) (inl t) =
    same_through ys points zs (same_back points ys s) t
one_more n leaves points ys zs few ys_done zs_done (inl s) (inr d) =
    absurd (no_drop_left points ys ys_done s zs d)
one_more n leaves points ys zs few ys_done zs_done (inr d) (inl t) =
    absurd (no_drop_left points zs zs_done t ys d)
one_more n leaves points ys zs few ys_done zs_done (inr d) (inr e) =
    let m = two_drops_meet d.here d.rest e.here e.rest
    (same_through (d.here ∷ d.rest) points (e.here ∷ e.rest)
    (same_back points (d.here ∷ d.rest) d.turned) e.turned) d.level e.level in
    let d_size = length-turned points (d.here ∷ d.rest) d.turned in
    let e_size = length-turned points (e.here ∷ e.rest) e.turned in
    let end = normal_loop m.common in
    same_through ys end zs
    (leaves d.rest ys end (omega (arith, d_size, few)) ys_done (normal_is_done m.common) d.after
    (becomes_through m.left (becomes_normal m.common)))
    (same_back zs end
    (leaves e.rest zs end (omega (arith, e_size, few)) zs_done (normal_is_done m.common) e.after
    (becomes_through m.right (becomes_normal m.common))))

none_to_drop : (points zs : List Point) → length points ≤ 0 → Drops points zs → ⊥
none_to_drop points zs few d =
    let size = length-turned points (d.here ∷ d.rest) d.turned in
    absurd (omega (arith, size, few))

leaves_one : (n : ℕ) → LeavesOne n
leaves_one zero points ys zs few ys_done zs_done to_ys to_zs =
    from (first_drop to_ys) (first_drop to_zs)
  where
    from : IsSameLoop points ys ⊎ Drops points ys → IsSameLoop points zs ⊎ Drops points zs
        → IsSameLoop ys zs
    from (inl s) (inl t) = same_through ys points zs (same_back points ys s) t
    from (inl s) (inr d) = absurd (none_to_drop points zs few d)
    from (inr d) t = absurd (none_to_drop points ys few d)
leaves_one (suc n) points ys zs few ys_done zs_done to_ys to_zs =
    one_more n (leaves_one n) points ys zs few ys_done zs_done (first_drop to_ys) (first_drop to_zs)

-- what is left with nothing to drop is the normal form, read from some point
pub any_order : (points left : List Point) → Becomes points left → IsDone left
    → IsSameLoop left (normal_loop points)
any_order points left to_left done =
    leaves_one (length points) points left (normal_loop points) (omega arith) done
    (normal_is_done points) to_left (becomes_normal points)
