-- Lists of numbers of edges: what holds of each, and what an item taken out leaves.

use Rattle.std.proofs.Common.{◌≡◌, sym, ap, ◌∙◌, ℕ, zero, suc, ◌≤◌, ◌-◌, Bool}
use Rattle.std.proofs.Common.{List, [], ◌∷◌, ◌++◌, length, take, drop, slice_get, IsTrue}
use Rattle.std.proofs.Common.{Some, refl, arith, slice_index_or}
use Rattle.std.specs.List.{list_all}
use Rattle.std.proofs.lemmas.Bool.{and_parts}
use Rattle.std.proofs.lemmas.List.{take_rest}
use Rattle.sb_fraction.specs.declared.point.Point.{Point}
use Rattle.theory_loops.specs.Normal.{last_of}
use Rattle.theory_lists.specs.Parted.{IsPartedAt}
use Rattle.theory_sweep.specs.Corners.{Corner, corners_on, corners_of_loop}
use Rattle.sb_knots.specs.Steps.{ends_at, lies_under, drop_first}

-- a number that stands there passes a test that each passes
pub id_passes : (test : ℕ → Bool) (xs : List ℕ) (n id : ℕ) → IsTrue (list_all test xs)
    → slice_get xs n ≡ Some id → IsTrue (test id)
id_passes test [] zero id all at = cc
id_passes test [] (suc n) id all at = cc
id_passes test (x ∷ xs) zero id all at =
    let parts = and_parts (test x) (list_all test xs) all in
    let same : x ≡ id = cc in
    sym (ap test same) ∙ parts.0
id_passes test (x ∷ xs) (suc n) id all at =
    id_passes test xs n id (and_parts (test x) (list_all test xs) all).1 at

-- the last of the points
last_at : (a : Point) (points : List Point) (d : Point)
    → slice_index_or (a ∷ points) (length points) d ≡ last_of a points
last_at a [] d = refl
last_at a (b ∷ points) d = last_at b points d

corners_by_last : (points : List Point) (d : Point) → (length points ≡ 0 → ⊥)
    → corners_on (slice_index_or points (length points - 1) d) (slice_index_or points 0 d)
    (drop 1 points) (slice_index_or points 0 d)
    ≡ corners_of_loop points
corners_by_last [] d some = absurd (some refl)
corners_by_last (a ∷ points) d some =
    ap (λ n. corners_on (slice_index_or (a ∷ points) n d) a points a) (one_less (length points))
    ∙ ap (λ p. corners_on p a points a) (last_at a points d)
  where
    one_less : (n : ℕ) → suc n - 1 ≡ n
    one_less n = omega arith

-- the corners of points, with the last one before the first
pub corners_of_points : (points : List Point) (d : Point) (last : ℕ) → last ≡ length points - 1
    → (length points ≡ 0 → ⊥)
    → corners_on (slice_index_or points last d) (slice_index_or points 0 d)
    (take (length points - 1) (drop 1 points)) (slice_index_or points 0 d)
    ≡ corners_of_loop points
corners_of_points points d last last_is some =
    ap (λ n. corners_on (slice_index_or points n d) (slice_index_or points 0 d)
    (take (length points - 1) (drop 1 points)) (slice_index_or points 0 d)) last_is
    ∙ ap (λ t. corners_on (slice_index_or points (length points - 1) d) (slice_index_or points 0 d)
    t (slice_index_or points 0 d)) (take_rest points 1)
    ∙ corners_by_last points d some

-- some of the edges that end at v were taken out
pub record IsClosing (corners : List Corner) (v : Point) (n : ℕ) (before after : List ℕ) : Type 0
  where
    pub list : take n after ++ drop_first (ends_at corners v) (drop n after)
        ≡ take n before ++ drop_first (ends_at corners v) (drop n before)
    pub within : n ≤ length after
    pub parted : IsPartedAt (lies_under corners v) n after
