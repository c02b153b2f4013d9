-- What holds at all positive rational numbers up to some one. Two such facts hold together, so do
-- finitely many; and a linear form that is above 0 at 0 is above 0 there.

use Rattle.std.proofs.Common.{◌⊎◌, inl, inr, arith, ℤ, pos, ◌<ℤ◌, ◌≤ℤ◌, ◌+ℤ◌, ◌*ℤ◌}
use Rattle.std.proofs.Common.{List, [], ◌∷◌}
use Rattle.std.specs.List.{AllByRecursion}
use Rattle.std.proofs.lemmas.Int.{ints}
use Rattle.theory_numbers.specs.Arrows.{Arrow, arrow, cross}
use Rattle.theory_numbers.specs.Rationals.{IsRational, IsAtMost}
use Rattle.theory_numbers.proofs.Vectors.Arrows.{cross-turn}
use Rattle.theory_numbers.proofs.Products.{weak_square, positive_product}
use Rattle.theory_numbers.proofs.Products.{weak_product_of_negatives}
use Rattle.theory_numbers.proofs.Fractions.Rationals.{at_most_trans}
use Rattle.theory_numbers.proofs.Ring.{mul-add, mul-one}
use Rattle.theory_numbers.proofs.Shapes.{cross_eq}
use Rattle.theory_numbers.proofs.Signs.{less_or_not}

-- it holds at all positive numbers up to this one
pub record Soon (P : Arrow → Type 0) : Type 0 where
  pub most : Arrow
  pub rational : IsRational most
  pub positive : pos 0 <ℤ most.y
  pub holds : (t : Arrow) → IsRational t → pos 0 <ℤ t.y → IsAtMost t most → P t

-- what holds at all positive numbers holds up to 1
pub soon_always : {P : Arrow → Type 0} → ((t : Arrow) → IsRational t → pos 0 <ℤ t.y → P t) → Soon P
soon_always always = record {
  most = arrow (pos 1) (pos 1);
  rational = omega (arith, ints);
  positive = omega (arith, ints);
  holds = λ t t_in t_up least. always t t_in t_up;
}

-- what follows holds as far
pub soon_then : {P Q : Arrow → Type 0} → ((t : Arrow) → IsRational t → pos 0 <ℤ t.y → P t → Q t)
    → Soon P → Soon Q
soon_then step soon = record {
  most = soon.most;
  rational = soon.rational;
  positive = soon.positive;
  holds = λ t t_in t_up least. step t t_in t_up (soon.holds t t_in t_up least);
}

-- two facts hold together
pub soon_both : {P Q : Arrow → Type 0} → Soon P → Soon Q → Soon (λ t. P t × Q t)
soon_both {P} {Q} first second = from (less_or_not (cross first.most second.most) (pos 0))
  where
    from : (cross first.most second.most <ℤ pos 0) ⊎ (pos 0 ≤ℤ cross first.most second.most)
        → Soon (λ t. P t × Q t)
    from (inr low) = record {
      most = first.most;
      rational = first.rational;
      positive = first.positive;
      holds =
          λ t t_in t_up least. (
            first.holds t t_in t_up least,
            second.holds t t_in t_up
                (at_most_trans t first.most second.most t_in first.rational second.rational least low),
          );
    }
    from (inl high) = record {
      most = second.most;
      rational = second.rational;
      positive = second.positive;
      holds =
          λ t t_in t_up least. (
            first.holds t t_in t_up
                (at_most_trans t second.most first.most t_in second.rational first.rational least
                (let turn = cross-turn first.most second.most in omega (arith, ints))),
            second.holds t t_in t_up least,
          );
    }

-- a fact for each item of a list
pub soon_all : {X : Type 0} (P : X → Arrow → Type 0) (xs : List X)
    → AllByRecursion (λ x. Soon (P x)) xs → Soon (λ t. AllByRecursion (λ x. P x t) xs)
soon_all P [] all = soon_always (λ t t_in t_up. tt)
soon_all P (x ∷ xs) all = soon_both all.0 (soon_all P xs all.1)

-- the number that lies as far from 0 as the form needs
pub more_than_0 : (b : ℤ) → pos 0 <ℤ ((pos 1 +ℤ (b *ℤ b)) +ℤ b)
more_than_0 b = from (less_or_not b (pos 0))
  where
    from : (b <ℤ pos 0) ⊎ (pos 0 ≤ℤ b) → pos 0 <ℤ ((pos 1 +ℤ (b *ℤ b)) +ℤ b)
    from (inl below) =
        let product = weak_product_of_negatives b (b +ℤ pos 1) (omega (arith, ints))
        (omega (arith, ints)) in
        let spread = mul-add b b (pos 1) in
        let one = mul-one b in
        omega (arith, ints)
    from (inr high) = let square = weak_square b in omega (arith, ints)

-- a form that is above 0 at 0
pub soon_form : (a b : ℤ) → pos 0 <ℤ a → Soon (λ t. pos 0 <ℤ ((t.x *ℤ a) +ℤ (t.y *ℤ b)))
soon_form a b above = record {
  most = arrow (pos 1 +ℤ (b *ℤ b)) a;
  rational = let square = weak_square b in omega (arith, ints);
  positive = above;
  holds =
      λ t t_in t_up least.
      let whole = cross_eq t (arrow (pos 1 +ℤ (b *ℤ b)) a) in
      let spread = mul-add t.y (pos 1 +ℤ (b *ℤ b)) b in
      let product = positive_product t.y ((pos 1 +ℤ (b *ℤ b)) +ℤ b) t_up (more_than_0 b) in
      omega (arith, ints);
}
