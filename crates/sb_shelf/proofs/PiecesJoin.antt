-- Reading piece by piece loses nothing: what was taken and what is left is the same text all along.
use Rattle.std.proofs.Common.{◌≡◌, ℕ, zero, suc, ◌<◌, List, [], ◌∷◌, ◌++◌, length, take, drop}
use Rattle.std.proofs.Common.{Option, Some, None, refl, arith, append_assoc}
use Rattle.std.specs.Bool.{OnFalse}
use Rattle.std.specs.Prelude.{is_some, nat_lt}
use Rattle.std.specs.Option.{ForSome, option_map}
use Rattle.std.proofs.lemmas.List.{take-append-drop}
use Rattle.sb_shelf.specs.World.{World, OnlyReads, also_asked}
use Rattle.sb_shelf.specs.Calls.{Moves}
use Rattle.sb_shelf.specs.WholeTexts.{taken_and_left}

-- so far nothing but reading was done, the path was opened once, and what was taken with what is
-- left is its text
pub record IsReading (path : List ℕ) (start now : World) (taken : List ℕ) : Type 0 where
  pub keeps : OnlyReads start now
  pub asked : now.asked_inputs ≡ also_asked start.asked_inputs (path ∷ [])
  pub whole : ForSome (start.under path) (λ told. taken_and_left taken now ≡ Some told)

joined_where_told : (was now : Option (List ℕ)) (taken came : List ℕ) (n : ℕ)
    → is_some now ≡ is_some was
    → ForSome was (λ left. (came ≡ take n left) × (now ≡ Some (drop n left)))
    → option_map (λ left. (taken ++ came) ++ left) now ≡ option_map (λ left. taken ++ left) was
joined_where_told None None taken came n tells told = refl
joined_where_told None (Some left) taken came n tells told = cc
joined_where_told (Some left) now taken came n tells told =
    let moved = told left refl in
    let regrouped = append_assoc taken (take n left) (drop n left) in
    rw (moved.1, moved.0, regrouped, take-append-drop n left) refl

-- a piece goes from what is left to the end of what was taken
pub pieces_join : (was now : World) (taken before after : List ℕ) (n : ℕ)
    → is_some now.left ≡ is_some was.left
    → ForSome was.left (λ left. Moves n before after left now)
    → taken_and_left (taken ++ take n after) now ≡ taken_and_left taken was
pieces_join was now taken before after n tells told =
    joined_where_told was.left now.left taken (take n after) n tells
    (λ left is_left. ((told left is_left).moved, (told left is_left).remaining))

ends_where_told : (was now : Option (List ℕ))
    → is_some now ≡ is_some was
    → ForSome was (λ left. (left ≡ []) × (now ≡ Some left))
    → ForSome now (λ left. left ≡ [])
ends_where_told None None tells told left is_left = cc
ends_where_told None (Some other) tells told left is_left = cc
ends_where_told (Some was_left) now tells told left is_left =
    let at_end = told was_left refl in
    let was_empty : was_left ≡ [] = at_end.0 in
    let same : now ≡ Some was_left = at_end.1 in
    cc

-- nothing came into a piece that is not empty, so nothing is left
pub nothing_left : (was now : World) (before after : List ℕ) (n : ℕ)
    → is_some now.left ≡ is_some was.left
    → ForSome was.left (λ left. Moves n before after left now)
    → 0 < length after
    → OnFalse (nat_lt 0 n) (ForSome now.left (λ left. left ≡ []))
nothing_left was now before after zero tells told not_empty =
    ends_where_told was.left now.left tells
    (λ left is_left. (((told left is_left).at_end not_empty).0 refl, (told left is_left).remaining))
nothing_left was now before after (suc n) tells told not_empty = grind arith
