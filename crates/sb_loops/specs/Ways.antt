-- Ways that are bent at each point between their ends, and loops from which nothing is left to
-- drop.

use Rattle.std.specs.Prelude.{◌≡◌, Bool, true, false, not, ◌&&◌, List, [], ◌∷◌}
use Rattle.sb_fraction.specs.declared.point.Point.{Point}
use Rattle.theory_plans.specs.Loops.{is_bent, is_bent_loop, is_least_first}
use Rattle.theory_plans.specs.Plans.{is_same_point, is_of_each_two}
use Rattle.theory_loops.specs.Normal.{last_of}
use Rattle.theory_loops.specs.Orders.{Becomes}

-- the way from a over b and the further points is bent at each but the first and the last
abbrev pub is_bent_after : Point → Point → List Point → Bool
is_bent_after a b [] = true
is_bent_after a b (c ∷ points) = is_bent a b c && is_bent_after b c points

-- so is the way over these points
abbrev pub is_bent_way : List Point → Bool
is_bent_way [] = true
is_bent_way (a ∷ []) = true
is_bent_way (a ∷ b ∷ points) = is_bent_after a b points

-- the last of a, b and the further points is on one line with the one before it and the next
abbrev pub is_last_straight_after : Point → Point → List Point → Point → Bool
is_last_straight_after a b [] next = not (is_bent a b next)
is_last_straight_after a b (c ∷ points) next = is_last_straight_after b c points next

-- so is the last of these points, where there are two
abbrev pub is_last_straight : List Point → Point → Bool
is_last_straight [] next = false
is_last_straight (a ∷ []) next = false
is_last_straight (a ∷ b ∷ points) next = is_last_straight_after a b points next

-- the first point of the closed loop is on one line with the last and the second
abbrev pub is_first_straight : List Point → Bool
is_first_straight [] = false
is_first_straight (a ∷ []) = false
is_first_straight (a ∷ b ∷ points) = not (is_bent (last_of b points) a b)

-- if no point stands in the loop twice, it begins before all others
abbrev pub HasBegun : List Point → Type 0
HasBegun left =
    is_of_each_two (λ a b. not (is_same_point a b)) left ≡ true → is_least_first left ≡ true

-- the second loop is what is left of the first, with nothing to drop
pub record IsLeft (points left : List Point) : Type 0 where
  pub becomes : Becomes points left
  pub bent : is_bent_loop left ≡ true
  pub begun : HasBegun left

-- so is each of the second loops of that at its place
abbrev pub AreLeft : List (List Point) → List (List Point) → Type 0
AreLeft [] [] = Unit {0}
AreLeft [] (left ∷ lefts) = ⊥
AreLeft (points ∷ loops) [] = ⊥
AreLeft (points ∷ loops) (left ∷ lefts) = IsLeft points left × AreLeft loops lefts
