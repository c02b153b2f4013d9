-- Where a relation hands on, it holds of each two items of a list of which it holds of each two
-- neighbours.

use Rattle.std.proofs.Common.{List, [], ◌∷◌, ◌++◌, sym, subst, append_assoc, ◌⊎◌, inl, inr}
use Rattle.std.specs.List.{AllByRecursion}
use Rattle.theory_lists.specs.Members.{Stands, AllOfTwo}
use Rattle.theory_sweep.specs.Open.{AllNeighbours, last_item, first_item}

module _ {X : Type 0} where
  -- what follows for each two neighbours
  pub neighbours_follow : (P : X → Type 0) (R S : X → X → Type 0)
      → ((x y : X) → P x → P y → R x y → S x y) → (xs : List X) → AllByRecursion P xs
      → AllNeighbours R xs → AllNeighbours S xs
  neighbours_follow P R S step [] all near = tt
  neighbours_follow P R S step (x ∷ []) all near = tt
  neighbours_follow P R S step (x ∷ y ∷ ys) all near =
      (step x y all.0 all.1.0 near.0, neighbours_follow P R S step (y ∷ ys) all.1 near.1)

  -- each two are neighbours or not: what holds of each two holds of neighbours
  pub neighbours_of_two : (R : X → X → Type 0) (xs : List X) → AllOfTwo R xs → AllNeighbours R xs
  neighbours_of_two R [] two = tt
  neighbours_of_two R (x ∷ []) two = tt
  neighbours_of_two R (x ∷ y ∷ ys) two = (two.0.0, neighbours_of_two R (y ∷ ys) two.1)

  -- two relations of neighbours hold together
  pub neighbours_both : (R S : X → X → Type 0) (xs : List X) → AllNeighbours R xs
      → AllNeighbours S xs → AllNeighbours (λ x y. R x y × S x y) xs
  neighbours_both R S [] first second = tt
  neighbours_both R S (x ∷ []) first second = tt
  neighbours_both R S (x ∷ y ∷ ys) first second =
      ((first.0, second.0), neighbours_both R S (y ∷ ys) first.1 second.1)

  -- where the relation hands on
  pub two_from_neighbours : (P : X → Type 0) (R : X → X → Type 0)
      → ((x y z : X) → P x → P y → P z → R x y → R y z → R x z)
      → (xs : List X) → AllByRecursion P xs → AllNeighbours R xs → AllOfTwo R xs
  two_from_neighbours P R trans [] all near = tt
  two_from_neighbours P R trans (x ∷ []) all near = (tt, tt)
  two_from_neighbours P R trans (x ∷ y ∷ ys) all near =
      let rest = two_from_neighbours P R trans (y ∷ ys) all.1 near.1 in (
        (near.0, handed ys all.1.1 rest.0),
        rest,
      )
    where
      handed : (zs : List X) → AllByRecursion P zs → AllByRecursion (R y) zs
          → AllByRecursion (R x) zs
      handed [] all_z from_y = tt
      handed (z ∷ zs) all_z from_y =
          (trans x y z all.0 all.1.0 all_z.0 near.0 from_y.0, handed zs all_z.1 from_y.1)

  -- ---- lists put together

  -- the neighbours of a part
  pub neighbours_behind : (R : X → X → Type 0) (xs ys : List X) → AllNeighbours R (xs ++ ys)
      → AllNeighbours R ys
  neighbours_behind R [] ys near = near
  neighbours_behind R (x ∷ []) [] near = tt
  neighbours_behind R (x ∷ []) (y ∷ ys) near = near.1
  neighbours_behind R (x ∷ z ∷ xs) ys near = neighbours_behind R (z ∷ xs) ys near.1

  pub neighbours_before : (R : X → X → Type 0) (xs ys : List X) → AllNeighbours R (xs ++ ys)
      → AllNeighbours R xs
  neighbours_before R [] ys near = tt
  neighbours_before R (x ∷ []) ys near = tt
  neighbours_before R (x ∷ z ∷ xs) ys near = (near.0, neighbours_before R (z ∷ xs) ys near.1)

  join_front : (R : X → X → Type 0) (xs ys : List X) → AllNeighbours R xs
      → AllNeighbours R (last_item xs ++ ys) → AllNeighbours R (xs ++ ys)
  join_front R [] ys near joint = joint
  join_front R (x ∷ []) ys near joint = joint
  join_front R (x ∷ z ∷ zs) ys near joint = (near.0, join_front R (z ∷ zs) ys near.1 joint)

  join_back : (R : X → X → Type 0) (xs ys : List X) → AllNeighbours R ys
      → AllNeighbours R (xs ++ first_item ys) → AllNeighbours R (xs ++ ys)
  join_back R [] ys near joint = near
  join_back R (x ∷ []) [] near joint = tt
  join_back R (x ∷ []) (y ∷ ys) near joint = (joint.0, near)
  join_back R (x ∷ z ∷ zs) ys near joint = (joint.0, join_back R (z ∷ zs) ys near joint.1)

  -- two lists with others between them, by what stands where they are joined
  pub neighbours_joined : (R : X → X → Type 0) (front mid back : List X) → AllNeighbours R front
      → AllNeighbours R back → AllNeighbours R (last_item front ++ (mid ++ first_item back))
      → AllNeighbours R (front ++ (mid ++ back))
  neighbours_joined R front mid back near_front near_back joint =
      join_front R front (mid ++ back) near_front
      (subst (AllNeighbours R) (append_assoc (last_item front) mid back)
      (join_back R (last_item front ++ mid) back near_back
      (subst (AllNeighbours R) (sym (append_assoc (last_item front) mid (first_item back))) joint)))

  -- what stands in two lists put together stands in one of them
  pub stands_in_either : (x : X) (xs ys : List X) → Stands x (xs ++ ys) → Stands x xs ⊎ Stands x ys
  stands_in_either x [] ys at = inr at
  stands_in_either x (y ∷ xs) ys (inl same) = inl (inl same)
  stands_in_either x (y ∷ xs) ys (inr later) = from (stands_in_either x xs ys later)
    where
      from : Stands x xs ⊎ Stands x ys → Stands x (y ∷ xs) ⊎ Stands x ys
      from (inl there) = inl (inr there)
      from (inr there) = inr there
