-- Items that are pairwise apart, each with a partner in a list that no other shares, are no more than that
-- list has.

use Rattle.std.proofs.Common.{◌≡◌, ◌⊎◌, inl, inr, refl, sym, ap, ◌∙◌, subst, arith, ◌≤◌, suc, List, []}
use Rattle.std.proofs.Common.{◌∷◌, length}
use Rattle.std.specs.List.{AllByRecursion}
use Rattle.theory_lists.specs.Members.{Stands, AllOfTwo}
use Rattle.theory_lists.proofs.Members.{all_stands, all_that_stand}

module _ {X Y : Type 0} (partner : X → Y → Type 0) (alike : X → X → Type 0)
    (shared : (x z : X) (y : Y) → partner x y → partner z y → alike x z) where
  abbrev HasPartner : List Y → X → Type 0
  HasPartner ys x = (y : Y) × (Stands y ys × partner x y)

  record Without (y : Y) (ys zs : List Y) : Type 0 where
    one_less : length ys ≡ suc (length zs)
    others : (z : Y) → Stands z ys → (z ≡ y) ⊎ Stands z zs

  without : (y : Y) (ys : List Y) → Stands y ys → (zs : List Y) × Without y ys zs
  without y [] stands = absurd stands
  without y (z ∷ zs) (inl same) =
      (zs, record { one_less = refl; others = λ v at. first v at })
    where
      first : (v : Y) → (v ≡ z) ⊎ Stands v zs → (v ≡ y) ⊎ Stands v zs
      first v (inl is) = inl (is ∙ sym same)
      first v (inr later) = inr later
  without y (z ∷ zs) (inr later) = from (without y zs later)
    where
      from : (vs : List Y) × Without y zs vs → (vs : List Y) × Without y (z ∷ zs) vs
      from (vs, rest) =
          (z ∷ vs, record { one_less = ap suc rest.one_less; others = λ v at. other v at })
        where
          behind : (v : Y) → (v ≡ y) ⊎ Stands v vs → (v ≡ y) ⊎ Stands v (z ∷ vs)
          behind v (inl is) = inl is
          behind v (inr there) = inr (inr there)

          other : (v : Y) → (v ≡ z) ⊎ Stands v zs → (v ≡ y) ⊎ Stands v (z ∷ vs)
          other v (inl is) = inr (inl is)
          other v (inr there) = behind v (rest.others v there)

  -- a partner of another item stands among the others
  partner_apart : (x : X) (y : Y) (ys zs : List Y) → partner x y → Without y ys zs → (z : X)
      → (alike x z → ⊥) → HasPartner ys z → HasPartner zs z
  partner_apart x y ys zs own less z apart (v, its) = pick (less.others v its.0)
    where
      pick : (v ≡ y) ⊎ Stands v zs → HasPartner zs z
      pick (inl same) = absurd (apart (shared x z y own (subst (partner z) same its.1)))
      pick (inr there) = (v, (there, its.1))

  one_more : (xs : List X) (ys zs : List Y) (x : X) (y : Y) → Without y ys zs
      → length xs ≤ length zs → length (x ∷ xs) ≤ length ys
  one_more xs ys zs x y less rest = let one = less.one_less in omega arith

  -- they are as many at most
  pub as_many_at_most : (xs : List X) (ys : List Y) → AllByRecursion (HasPartner ys) xs
      → AllOfTwo (λ x z. alike x z → ⊥) xs → length xs ≤ length ys
  as_many_at_most [] ys each apart = omega arith
  as_many_at_most (x ∷ xs) ys each apart =
      from each.0 (λ zs each_z. as_many_at_most xs zs each_z apart.1)
    where
      from : HasPartner ys x
          → ((zs : List Y) → AllByRecursion (HasPartner zs) xs → length xs ≤ length zs)
          → length (x ∷ xs) ≤ length ys
      from (y, known) rest = count (without y ys known.0)
        where
          count : (zs : List Y) × Without y ys zs → length (x ∷ xs) ≤ length ys
          count (zs, less) =
              one_more xs ys zs x y less
              (rest zs
              (all_that_stand (HasPartner zs) xs (λ z z_in.
              partner_apart x y ys zs known.1 less z
              (all_stands (λ t. alike x t → ⊥) z xs apart.0 z_in)
              (all_stands (HasPartner ys) z xs each.1 z_in))))
