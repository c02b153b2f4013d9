-- The positions of the products that are present, behind a beginning, are all that a walk may come to.

use Rattle.std.proofs.Common.{◌≡◌, refl, sym, ◌∙◌, subst, arith, inl, inr, ℕ, ◌==◌, ℤ, ◌<ℤ◌}
use Rattle.std.proofs.Common.{Bool, true, false, cond, IsTrue, int_lt, List, [], ◌∷◌}
use Rattle.std.specs.List.{AllByRecursion}
use Rattle.std.specs.Cmp.{int_ranks}
use Rattle.std.specs.Ordering.{int_cmp, MatchOrdering}
use Rattle.std.specs.declared.cmp.Ordering.TheVariants.{Less, Equal}
use Rattle.std.proofs.lemmas.Int.{ints}
use Rattle.std.proofs.lemmas.Bool.{eqb-true, false≢true}
use Rattle.theory_lists.specs.Members.{Stands, AllOfTwo}
use Rattle.theory_lists.proofs.Blocks.{stands_before, stands_behind}
use Rattle.theory_lists.proofs.Members.{all_follow, one_of_any}
use Rattle.theory_numbers.proofs.Signs.{less_from, test_less}
use Rattle.sb_fraction.specs.Spots.{Vector}
use Rattle.sb_model.specs.declared.products.Space.{Space}
use Rattle.sb_model.specs.declared.products.Element.{Element}
use Rattle.sb_model.specs.Building.{Building, is_building}
use Rattle.sb_model.specs.Surfaces.Faces.{space_numbered}
use Rattle.sb_model.specs.Walks.{element_numbered}
use Rattle.sb_model.specs.PlanEdges.{PlanEdge}
use Rattle.theory_models.proofs.NumbersApart.{own_numbers}
use Rattle.theory_gaps.specs.Gaps.{is_present}
use Rattle.theory_gaps.specs.Borders.{entry_along, exit_along, ground_along, IsCounted, HaveHeights}
use Rattle.sb_frame.specs.Rising.{IsRisingOf}
use Rattle.sb_walk.specs.Present.{ArePresent}
use Rattle.sb_walk.specs.Behind.{prism_ends, space_ends, element_ends, ends_at, ends_of}
use Rattle.sb_walk.specs.WalksInGaps.{positions_after}
use Rattle.sb_walk.proofs.WalksRead.LabelsOfPresent.{found_there}

-- ---- rising positions behind a beginning

-- what an order of whole numbers says
less_by : (y z : ℤ) → int_cmp y z ≡ Less → y <ℤ z
less_by y z is = subst (λ o. MatchOrdering o (y <ℤ z) (y ≡ z) (z <ℤ y)) is (int_ranks y z)

equal_by : (y z : ℤ) → int_cmp y z ≡ Equal → y ≡ z
equal_by y z is = subst (λ o. MatchOrdering o (y <ℤ z) (y ≡ z) (z <ℤ y)) is (int_ranks y z)

rise_by : (zs : List ℤ) → AllOfTwo (λ y z. int_cmp y z ≡ Less) zs → AllOfTwo (λ y z. y <ℤ z) zs
rise_by [] rise = tt
rise_by (z ∷ zs) rise = (
  all_follow {P = λ y. int_cmp z y ≡ Less} {Q = λ y. z <ℤ y} (λ y is. less_by z y is) zs rise.0,
  rise_by zs rise.1,
)

module _ (x0 : ℤ) where
  rise_after : (zs : List ℤ) → AllOfTwo (λ y z. y <ℤ z) zs
      → AllOfTwo (λ y z. y <ℤ z) (positions_after x0 zs)
  rise_after [] rise = tt
  rise_after (z ∷ zs) rise = by (int_lt x0 z) (rise_after zs rise.1)
    where
      by : (b : Bool) → AllOfTwo (λ y z. y <ℤ z) (positions_after x0 zs)
          → AllOfTwo (λ y z. y <ℤ z) (cond b (z ∷ zs) (positions_after x0 zs))
      by true later = rise
      by false later = later

  above_after : (zs : List ℤ) → AllOfTwo (λ y z. y <ℤ z) zs
      → AllByRecursion (λ z. x0 <ℤ z) (positions_after x0 zs)
  above_after [] rise = tt
  above_after (z ∷ zs) rise = by (int_lt x0 z) refl (above_after zs rise.1)
    where
      by : (b : Bool) → int_lt x0 z ≡ b → AllByRecursion (λ y. x0 <ℤ y) (positions_after x0 zs)
          → AllByRecursion (λ y. x0 <ℤ y) (cond b (z ∷ zs) (positions_after x0 zs))
      by true is later =
          let first = less_from x0 z is in (
            first,
            all_follow {P = λ y. z <ℤ y} {Q = λ y. x0 <ℤ y} (λ y more. omega (arith, ints)) zs rise.0,
          )
      by false is later = later

  stands_after : (zs : List ℤ) (y : ℤ) → Stands y zs → x0 <ℤ y → Stands y (positions_after x0 zs)
  stands_after [] y at more = at
  stands_after (z ∷ zs) y at more = by (int_lt x0 z) refl at (λ later. stands_after zs y later more)
    where
      by : (b : Bool) → int_lt x0 z ≡ b → Stands y (z ∷ zs)
          → (Stands y zs → Stands y (positions_after x0 zs))
          → Stands y (cond b (z ∷ zs) (positions_after x0 zs))
      by true is there behind = there
      by false is (inl same) behind =
          absurd (false≢true (sym is ∙ test_less x0 z (subst (λ t. x0 <ℤ t) same more)))
      by false is (inr later) behind = behind later

-- ---- where products are entered and left

module _ (m : Building) (valid : IsTrue (is_building m)) (n : Vector) where
  ends_stand : (present : List ℕ) (k : ℕ) (z : ℤ) → Stands k present → Stands z (ends_at m n k)
      → Stands z (ends_of m n present)
  ends_stand [] k z at z_at = absurd at
  ends_stand (j ∷ js) k z (inl same) z_at =
      stands_before z (ends_at m n j) (ends_of m n js) (subst (λ i. Stands z (ends_at m n i)) same z_at)
  ends_stand (j ∷ js) k z (inr later) z_at =
      stands_behind z (ends_at m n j) (ends_of m n js) (ends_stand js k z later z_at)

  space_stands : (s : Space) → Stands s m.spaces → (z : ℤ) → Stands z (prism_ends n s.prism)
      → Stands z (ends_at m n s.number)
  space_stands s s_in z z_at =
      stands_before z (space_ends n (space_numbered m s.number))
      (element_ends n (element_numbered m s.number))
      (subst (λ o. Stands z (space_ends n o))
      (sym (found_there (λ (x : Space). x.number) s m.spaces ((own_numbers m valid).spaces.rise) s_in))
      z_at)

  element_stands : (e : Element) → Stands e m.elements → (z : ℤ) → Stands z (prism_ends n e.prism)
      → Stands z (ends_at m n e.number)
  element_stands e e_in z z_at =
      stands_behind z (space_ends n (space_numbered m e.number))
      (element_ends n (element_numbered m e.number))
      (subst (λ o. Stands z (element_ends n o))
      (sym
      (found_there (λ (x : Element). x.number) e m.elements ((own_numbers m valid).elements.rise) e_in))
      z_at)

  -- behind a beginning the positions are those of the gap
  pub have_heights : (passed : List PlanEdge) (present : List ℕ) → ArePresent passed present
      → (list : List ℤ)
      → IsRisingOf int_cmp (ground_along n m.ground_height ∷ ends_of m n present) list → (x0 : ℤ)
      → HaveHeights m n passed x0 (positions_after x0 list)
  have_heights passed present are list is x0 = record {
    rise = rise_after x0 list (rise_by list is.rising);
    above = above_after x0 list (rise_by list is.rising);
    spaces = λ s s_in here. (
      counted (entry_along n s.prism)
          (inr (of_number s.number here (entry_along n s.prism)
          (space_stands s s_in (entry_along n s.prism) (inl refl)))),
      counted (exit_along n s.prism)
          (inr (of_number s.number here (exit_along n s.prism)
          (space_stands s s_in (exit_along n s.prism) (inr (inl refl))))),
    );
    elements = λ e e_in here. (
      counted (entry_along n e.prism)
          (inr (of_number e.number here (entry_along n e.prism)
          (element_stands e e_in (entry_along n e.prism) (inl refl)))),
      counted (exit_along n e.prism)
          (inr (of_number e.number here (exit_along n e.prism)
          (element_stands e e_in (exit_along n e.prism) (inr (inl refl))))),
    );
    earth = counted (ground_along n m.ground_height) (inl refl);
  }
    where
      of_number : (k : ℕ) → is_present passed k ≡ true → (z : ℤ) → Stands z (ends_at m n k)
          → Stands z (ends_of m n present)
      of_number k here z z_at = from (one_of_any (λ j. j == k) present (are.each k ∙ here))
        where
          from : (j : ℕ) × (Stands j present × ((j == k) ≡ true)) → Stands z (ends_of m n present)
          from (j, (j_in, same)) =
              ends_stand present k z
              (subst (λ i. Stands i present) (eqb-true j k same) j_in) z_at

      counted : (z : ℤ) → Stands z (ground_along n m.ground_height ∷ ends_of m n present)
          → IsCounted x0 (positions_after x0 list) z
      counted z z_at more = from (is.all z z_at)
        where
          from : (y : ℤ) × (Stands y list × (int_cmp z y ≡ Equal))
              → Stands z (positions_after x0 list)
          from (y, (y_in, same)) =
              stands_after x0 list z
              (subst (λ t. Stands t list) (sym (equal_by z y same)) y_in) more
