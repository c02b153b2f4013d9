-- A pass with a stack: the last point is taken away where it is not needed, and the way stays bent.

use Rattle.std.proofs.Common.{◌≡◌, refl, sym, ap, ◌∙◌, subst, arith, pos, ℕ, zero, suc, ◌-◌}
use Rattle.std.proofs.Common.{◌≤◌}
use Rattle.std.proofs.Common.{Bool, true, false, not, List, [], ◌∷◌, ◌++◌, length, get_or, take}
use Rattle.std.proofs.Common.{drop}
use Rattle.std.proofs.lemmas.Bool.{and_parts, and_from}
use Rattle.std.proofs.lemmas.List.{append_assoc, length-append, take_at}
use Rattle.sb_fraction.specs.declared.point.Point.{Point}
use Rattle.theory_plans.specs.Loops.{bend, is_bent, are_bent, is_bent_loop}
use Rattle.theory_loops.specs.Normal.{last_of}
use Rattle.theory_loops.specs.Orders.{IsLevelAt, Becomes}
use Rattle.theory_loops.specs.Orders.Becomes.{stays, begins_next, loses_first}
use Rattle.theory_loops.proofs.DropsKeep.{straight}
use Rattle.theory_loops.proofs.Orders.SameLoop.{becomes_through, becomes_turned, last_of-append}
use Rattle.sb_loops.specs.Ways.{is_bent_after, is_bent_way, is_last_straight_after}
use Rattle.sb_loops.specs.Ways.{is_last_straight}
use Rattle.sb_loops.specs.Ways.{is_first_straight}

not_true : (b : Bool) → not b ≡ true → b ≡ false
not_true true is = sym is
not_true false is = refl

not_false : (b : Bool) → not b ≡ false → b ≡ true
not_false true is = refl
not_false false is = sym is

-- ---- a point dropped within a loop

becomes_without : (u : List Point) (b : Point) (v : List Point) → IsLevelAt b (v ++ u)
    → Becomes (u ++ (b ∷ v)) (u ++ v)
becomes_without u b v level =
    becomes_through (becomes_turned u (b ∷ v)) (loses_first level (becomes_turned v u))

record IsStraightAtEnd (kept : List Point) (next : Point) : Type 0 where
  front : List Point
  before : Point
  last : Point
  kept_are : kept ≡ front ++ (before ∷ last ∷ [])
  level : bend before last next ≡ pos 0

at_end_after : (a b : Point) (points : List Point) (next : Point)
    → is_last_straight_after a b points next ≡ true → IsStraightAtEnd (a ∷ b ∷ points) next
at_end_after a b [] next is =
    record {
      front = [];
      before = a;
      last = b;
      kept_are = refl;
      level = straight a b next (not_true (is_bent a b next) is);
    }
at_end_after a b (c ∷ points) next is =
    let later = at_end_after b c points next is in
    record {
      front = a ∷ later.front;
      before = later.before;
      last = later.last;
      kept_are = ap (λ l. a ∷ l) later.kept_are;
      level = later.level;
    }

at_end : (kept : List Point) (next : Point) → is_last_straight kept next ≡ true
    → IsStraightAtEnd kept next
at_end [] next is = absurd (none is)
  where
    none : false ≡ true → ⊥
    none same = cc
at_end (a ∷ []) next is = absurd (none is)
  where
    none : false ≡ true → ⊥
    none same = cc
at_end (a ∷ b ∷ points) next is = at_end_after a b points next is

-- the last point of the stack may be dropped before the next one
pub last_goes : (kept : List Point) (next : Point) (rest : List Point)
    → is_last_straight kept next ≡ true
    → Becomes (kept ++ (next ∷ rest)) (take (length kept - 1) kept ++ (next ∷ rest))
last_goes kept next rest is = from (at_end kept next is)
  where
    from : IsStraightAtEnd kept next
        → Becomes (kept ++ (next ∷ rest)) (take (length kept - 1) kept ++ (next ∷ rest))
    from e =
        let u = e.front ++ (e.before ∷ []) in
        let whole : kept ≡ u ++ (e.last ∷ []) =
        e.kept_are ∙ sym (append_assoc e.front (e.before ∷ []) (e.last ∷ [])) in
        let size = ap length whole in
        let parts = length-append u (e.last ∷ []) in
        let left : take (length kept - 1) kept ≡ u =
        ap (take (length kept - 1)) whole
        ∙ take_at u (e.last ∷ []) (length kept - 1) (omega (arith, size, parts)) in
        let neighbour : last_of next (rest ++ u) ≡ e.before =
        ap (last_of next) (sym (append_assoc rest e.front (e.before ∷ [])))
        ∙ last_of-append next (rest ++ e.front) e.before [] in
        let level : IsLevelAt e.last ((next ∷ rest) ++ u) =
        ap (λ p. bend p e.last next) neighbour ∙ e.level in
        subst (λ l. Becomes l (take (length kept - 1) kept ++ (next ∷ rest)))
        (sym (append_assoc u (e.last ∷ []) (next ∷ rest))
        ∙ ap (λ l. l ++ (next ∷ rest)) (sym whole))
        (subst (λ l. Becomes (u ++ (e.last ∷ next ∷ rest)) (l ++ (next ∷ rest))) (sym left)
        (becomes_without u e.last (next ∷ rest) level))

-- ---- the way stays bent

bent_after_with : (a b : Point) (points : List Point) (next : Point)
    → is_bent_after a b points ≡ true → is_last_straight_after a b points next ≡ false
    → is_bent_after a b (points ++ (next ∷ [])) ≡ true
bent_after_with a b [] next bent not_straight =
    and_from (is_bent a b next) true (not_false (is_bent a b next) not_straight) refl
bent_after_with a b (c ∷ points) next bent not_straight =
    let parts = and_parts (is_bent a b c) (is_bent_after b c points) bent in
    and_from (is_bent a b c) (is_bent_after b c (points ++ (next ∷ []))) parts.0
    (bent_after_with b c points next parts.1 not_straight)

-- with one point more, where the last one is needed
pub bent_with : (kept : List Point) (next : Point) → is_bent_way kept ≡ true
    → is_last_straight kept next ≡ false → is_bent_way (kept ++ (next ∷ [])) ≡ true
bent_with [] next bent not_straight = refl
bent_with (a ∷ []) next bent not_straight = refl
bent_with (a ∷ b ∷ points) next bent not_straight =
    bent_after_with a b points next bent not_straight

bent_after_take : (a b : Point) (points : List Point) (n : ℕ) → is_bent_after a b points ≡ true
    → is_bent_after a b (take n points) ≡ true
bent_after_take a b [] zero bent = refl
bent_after_take a b [] (suc n) bent = refl
bent_after_take a b (c ∷ points) zero bent = refl
bent_after_take a b (c ∷ points) (suc n) bent =
    let parts = and_parts (is_bent a b c) (is_bent_after b c points) bent in
    and_from (is_bent a b c) (is_bent_after b c (take n points)) parts.0
    (bent_after_take b c points n parts.1)

-- without its last points
pub bent_take : (points : List Point) (n : ℕ) → is_bent_way points ≡ true
    → is_bent_way (take n points) ≡ true
bent_take [] zero bent = refl
bent_take [] (suc n) bent = refl
bent_take (a ∷ []) zero bent = refl
bent_take (a ∷ []) (suc zero) bent = refl
bent_take (a ∷ []) (suc (suc n)) bent = refl
bent_take (a ∷ b ∷ points) zero bent = refl
bent_take (a ∷ b ∷ points) (suc zero) bent = refl
bent_take (a ∷ b ∷ points) (suc (suc n)) bent = bent_after_take a b points n bent

-- without its first
pub bent_rest : (points : List Point) → is_bent_way points ≡ true
    → is_bent_way (drop 1 points) ≡ true
bent_rest [] bent = refl
bent_rest (a ∷ []) bent = refl
bent_rest (a ∷ b ∷ []) bent = refl
bent_rest (a ∷ b ∷ c ∷ points) bent =
    (and_parts (is_bent a b c) (is_bent_after b c points) bent).1

-- ---- by places

straight_at : (a b : Point) (points : List Point) (next d : Point)
    → is_last_straight_after a b points next
    ≡ not (is_bent (get_or (a ∷ b ∷ points) (length points) d)
    (get_or (a ∷ b ∷ points) (suc (length points)) d) next)
straight_at a b [] next d = refl
straight_at a b (c ∷ points) next d = straight_at b c points next d

-- the last two points are at the last two places
pub last_straight_at : (kept : List Point) (next d : Point) → 2 ≤ length kept
    → is_last_straight kept next
    ≡ not (is_bent (get_or kept (length kept - 2) d) (get_or kept (length kept - 1) d) next)
last_straight_at [] next d many = absurd (omega arith)
last_straight_at (a ∷ []) next d many = absurd (omega arith)
last_straight_at (a ∷ b ∷ points) next d many =
    straight_at a b points next d
    ∙ ap (λ n. not (is_bent (get_or (a ∷ b ∷ points) n d)
    (get_or (a ∷ b ∷ points) (suc (length points)) d) next)) (two_less (length points))
    ∙ ap (λ n. not (is_bent (get_or (a ∷ b ∷ points) (suc (suc (length points)) - 2) d)
    (get_or (a ∷ b ∷ points) n d) next)) (one_less (length points))
  where
    two_less : (n : ℕ) → n ≡ suc (suc n) - 2
    two_less n = omega arith

    one_less : (n : ℕ) → suc n ≡ suc (suc n) - 1
    one_less n = omega arith

last_at : (b : Point) (points : List Point) (d : Point)
    → last_of b points ≡ get_or (b ∷ points) (length points) d
last_at b [] d = refl
last_at b (c ∷ points) d = last_at c points d

-- the neighbours of the first point are at the last place and the second
pub first_straight_at : (left : List Point) (d : Point) → 2 ≤ length left
    → is_first_straight left
    ≡ not (is_bent (get_or left (length left - 1) d) (get_or left 0 d) (get_or left 1 d))
first_straight_at [] d many = absurd (omega arith)
first_straight_at (a ∷ []) d many = absurd (omega arith)
first_straight_at (a ∷ b ∷ points) d many =
    ap (λ p. not (is_bent p a b)) (last_at b points d)
    ∙ ap (λ n. not (is_bent (get_or (a ∷ b ∷ points) n d) a b)) (one_less (length points))
  where
    one_less : (n : ℕ) → suc n ≡ suc (suc n) - 1
    one_less n = omega arith

-- ---- the joint

-- of a closed loop the last point may be dropped before the first
pub last_goes_at_joint : (left : List Point) (d : Point) → 3 ≤ length left
    → is_last_straight left (get_or left 0 d) ≡ true
    → Becomes left (take (length left - 1) left)
last_goes_at_joint [] d many is = absurd (omega arith)
last_goes_at_joint (a ∷ []) d many is = absurd (omega arith)
last_goes_at_joint (a ∷ b ∷ []) d many is = absurd (omega arith)
last_goes_at_joint (a ∷ b ∷ c ∷ points) d many is =
    let u = take (length (b ∷ c ∷ points) - 1) (b ∷ c ∷ points) in
    subst (Becomes (a ∷ b ∷ c ∷ points)) (kept (length points))
    (begins_next (becomes_through (last_goes (b ∷ c ∷ points) a [] is)
    (becomes_turned u (a ∷ []))))
  where
    kept : (n : ℕ) → a ∷ take (suc (suc n) - 1) (b ∷ c ∷ points)
        ≡ take (suc (suc (suc n)) - 1) (a ∷ b ∷ c ∷ points)
    kept n =
        let one : suc (suc n) - 1 ≡ suc n = omega arith in
        let other : suc (suc (suc n)) - 1 ≡ suc (suc n) = omega arith in
        ap (λ m. a ∷ take m (b ∷ c ∷ points)) one
        ∙ sym (ap (λ m. take m (a ∷ b ∷ c ∷ points)) other)

-- and the first
pub first_goes_at_joint : (left : List Point) → is_first_straight left ≡ true
    → Becomes left (drop 1 left)
first_goes_at_joint [] is = stays
first_goes_at_joint (a ∷ []) is = absurd (none is)
  where
    none : false ≡ true → ⊥
    none same = cc
first_goes_at_joint (a ∷ b ∷ points) is =
    loses_first
    (straight (last_of b points) a b (not_true (is_bent (last_of b points) a b) is)) stays

bent_round : (a b : Point) (points : List Point) (first second : Point)
    → is_bent_after a b points ≡ true → is_last_straight_after a b points first ≡ false
    → is_bent (last_of b points) first second ≡ true → are_bent a b points first second ≡ true
bent_round a b [] first second bent not_straight next =
    and_from (is_bent a b first) (is_bent b first second)
    (not_false (is_bent a b first) not_straight) next
bent_round a b (c ∷ points) first second bent not_straight next =
    let parts = and_parts (is_bent a b c) (is_bent_after b c points) bent in
    and_from (is_bent a b c) (are_bent b c points first second) parts.0
    (bent_round b c points first second parts.1 not_straight next)

-- where neither may go the loop is bent
pub bent_at_joint : (left : List Point) (d : Point) → 3 ≤ length left → is_bent_way left ≡ true
    → is_last_straight left (get_or left 0 d) ≡ false → is_first_straight left ≡ false
    → is_bent_loop left ≡ true
bent_at_joint [] d many bent last first = absurd (omega arith)
bent_at_joint (a ∷ []) d many bent last first = absurd (omega arith)
bent_at_joint (a ∷ b ∷ points) d many bent last first =
    bent_round a b points a b bent last (not_false (is_bent (last_of b points) a b) first)
