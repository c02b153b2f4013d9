-- Spaces whose extents lie beside each other do not overlap.
use Rattle.std.proofs.Common.{◌≡◌, sym, ◌⊎◌, inl, inr, arith, pos, ◌<ℤ◌, ◌≤ℤ◌, true}
use Rattle.std.proofs.Common.{[], ◌∷◌, ap, ◌∙◌, subst}
use Rattle.std.proofs.lemmas.Int.{ints}
use Rattle.theory_lists.specs.Members.{Stands}
use Rattle.theory_numbers.specs.Rationals.{rational}
use Rattle.theory_numbers.proofs.Fractions.Rationals.{below_trans}
use Rattle.theory_numbers.proofs.Shapes.{cross_eq}
use Rattle.sb_fraction.specs.Spots.{Spot, IsSpot, Vector, inner, reading}
use Rattle.sb_model.specs.declared.products.Space.{Space}
use Rattle.sb_model.specs.Building.{Building}
use Rattle.sb_model.specs.Labels.{low_along, high_along}
use Rattle.sb_model.specs.Solids.{Upright, is_in_solid}
use Rattle.theory_gaps.proofs.WithinExtents.{within_extent}
use Rattle.theory_mirrors.specs.Laws.{HaveNoOverlap}

-- two prisms of which one ends along a vector where the other begins, or before
pub beside : (s t : Upright) (n : Vector) → pos 0 <ℤ inner n n → high_along s n ≤ℤ low_along t n
    → (p : Spot) → IsSpot p → is_in_solid s p ≡ true → is_in_solid t p ≡ true → ⊥
beside s t n some order p p_is in_s in_t =
    let first = within_extent s n p p_is in_s some in
    let second = within_extent t n p p_is in_t some in
    let both =
    below_trans (rational (low_along t n) (pos 1)) (reading p n) (rational (high_along s n) (pos 1))
    (omega (arith, ints)) p_is (omega (arith, ints)) second.0 first.1
    in
    let spread = cross_eq (rational (low_along t n) (pos 1)) (rational (high_along s n) (pos 1)) in
    omega (arith, ints)

-- a model of one space, or of two beside each other
pub one_alone : (m : Building) (a : Space) → m.spaces ≡ a ∷ [] → HaveNoOverlap m
one_alone m a are s t s_in t_in p p_is in_s in_t =
    ap (λ (x : Space). x.number) (alone s (subst (Stands s) are s_in))
    ∙ sym (ap (λ (x : Space). x.number) (alone t (subst (Stands t) are t_in)))
  where
    alone : (x : Space) → Stands x (a ∷ []) → x ≡ a
    alone x (inl same) = same
    alone x (inr no_more) = absurd no_more

pub two_beside : (m : Building) (a b : Space) (n : Vector) → m.spaces ≡ a ∷ b ∷ []
    → pos 0 <ℤ inner n n → high_along a.prism n ≤ℤ low_along b.prism n → HaveNoOverlap m
two_beside m a b n are some order s t s_in t_in p p_is in_s in_t =
    by (either s (subst (Stands s) are s_in)) (either t (subst (Stands t) are t_in))
  where
    either : (x : Space) → Stands x (a ∷ b ∷ []) → (x ≡ a) ⊎ (x ≡ b)
    either x (inl same) = inl same
    either x (inr (inl same)) = inr same
    either x (inr (inr no_more)) = absurd no_more

    by : (s ≡ a) ⊎ (s ≡ b) → (t ≡ a) ⊎ (t ≡ b) → s.number ≡ t.number
    by (inl one) (inl other) = ap (λ (x : Space). x.number) (one ∙ sym other)
    by (inr one) (inr other) = ap (λ (x : Space). x.number) (one ∙ sym other)
    by (inl one) (inr other) =
        absurd
        (beside a.prism b.prism n some order p p_is
        (subst (λ (x : Space). is_in_solid x.prism p ≡ true) one in_s)
        (subst (λ (x : Space). is_in_solid x.prism p ≡ true) other in_t))
    by (inr one) (inl other) =
        absurd
        (beside a.prism b.prism n some order p p_is
        (subst (λ (x : Space). is_in_solid x.prism p ≡ true) other in_t)
        (subst (λ (x : Space). is_in_solid x.prism p ≡ true) one in_s))
