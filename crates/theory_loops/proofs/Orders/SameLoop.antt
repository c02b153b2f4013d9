-- One closed loop is read from any of its points; what comes of it from one comes of it from each.

use Rattle.std.proofs.Common.{◌≡◌, refl, sym, ap, ◌∙◌, subst}
use Rattle.std.proofs.Common.{List, [], ◌∷◌, ◌++◌}
use Rattle.std.proofs.lemmas.List.{append-nil, append_assoc}
use Rattle.sb_fraction.specs.declared.point.Point.{Point}
use Rattle.theory_loops.specs.Normal.{first_of, last_of}
use Rattle.theory_loops.specs.Orders.{Becomes, IsSameLoop}
use Rattle.theory_loops.specs.Orders.Becomes.{stays, begins_next, loses_first}
use Rattle.theory_loops.proofs.DropsKeep.{read_on}

-- ---- equal lists

abbrev rest_of : List Point → List Point
rest_of [] = []
rest_of (a ∷ points) = points

-- equal lists begin alike
pub same_head : (a b : Point) (xs ys : List Point) → a ∷ xs ≡ b ∷ ys → a ≡ b
same_head a b xs ys same = ap (λ l. first_of l a) same

-- and go on alike
pub same_rest : (a b : Point) (xs ys : List Point) → a ∷ xs ≡ b ∷ ys → xs ≡ ys
same_rest a b xs ys same = ap rest_of same

-- ---- one loop

-- the lists say that they are one loop
pub parted_so : (u v : List Point) → IsSameLoop (u ++ v) (v ++ u)
parted_so u v = record { front = u; back = v; one = refl; other = refl }

-- a list is one loop with itself
pub same_loop : (xs : List Point) → IsSameLoop xs xs
same_loop xs = record { front = []; back = xs; one = refl; other = sym (append-nil xs) }

-- the two may change places
pub same_back : (xs ys : List Point) → IsSameLoop xs ys → IsSameLoop ys xs
same_back xs ys t = record { front = t.back; back = t.front; one = t.other; other = t.one }

same_from_next : (xs : List Point) (a : Point) (points : List Point) → IsSameLoop xs (a ∷ points)
    → IsSameLoop xs (points ++ (a ∷ []))
same_from_next xs a points t = from t.front t.back t.one t.other
  where
    from : (u v : List Point) → xs ≡ u ++ v → a ∷ points ≡ v ++ u
        → IsSameLoop xs (points ++ (a ∷ []))
    from u [] one other =
        record {
          front = a ∷ [];
          back = points;
          one = one ∙ append-nil u ∙ sym other;
          other = refl;
        }
    from u (c ∷ v) one other =
        record {
          front = u ++ (a ∷ []);
          back = v;
          one = one ∙ ap (λ h. u ++ (h ∷ v)) (sym (same_head a c points (v ++ u) other))
              ∙ sym (append_assoc u (a ∷ []) v);
          other = ap (λ l. l ++ (a ∷ [])) (same_rest a c points (v ++ u) other)
              ∙ append_assoc v u (a ∷ []);
        }

-- a third
pub same_through : (xs ys zs : List Point) → IsSameLoop xs ys → IsSameLoop ys zs → IsSameLoop xs zs
same_through xs ys zs s t =
    subst (IsSameLoop xs) (sym t.other)
    (read_on (IsSameLoop xs) (same_from_next xs) t.front t.back (subst (IsSameLoop xs) t.one s))

-- ---- what comes of it

-- what comes of what comes of a loop comes of it
pub becomes_through : {xs ys zs : List Point} → Becomes xs ys → Becomes ys zs → Becomes xs zs
becomes_through stays second = second
becomes_through (begins_next first) second = begins_next (becomes_through first second)
becomes_through (loses_first level first) second =
    loses_first level (becomes_through first second)

-- it may be read from any point
pub becomes_turned : (u v : List Point) → Becomes (u ++ v) (v ++ u)
becomes_turned u v =
    read_on (Becomes (u ++ v)) (λ a points b. becomes_through b (begins_next stays)) u v stays

-- ---- the ends of two lists joined

-- the last point of two lists joined
pub last_of-append : (x : Point) (xs : List Point) (a : Point) (ys : List Point)
    → last_of x (xs ++ (a ∷ ys)) ≡ last_of a ys
last_of-append x [] a ys = refl
last_of-append x (b ∷ xs) a ys = last_of-append b xs a ys

-- and the first
pub first_of-append : (xs : List Point) (a : Point) (ys : List Point) (x : Point)
    → first_of (xs ++ (a ∷ ys)) x ≡ first_of xs a
first_of-append [] a ys x = refl
first_of-append (b ∷ xs) a ys x = refl
