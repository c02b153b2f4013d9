-- The edges that a level ray comes to can be put in a row, and the heights that a ray up or down passes
-- in a rising list.
use Rattle.std.proofs.Common.{◌≡◌, refl, sym, ap, ◌∙◌, arith, inl, inr, ℤ, pos, ◌<ℤ◌, Bool}
use Rattle.std.proofs.Common.{true, false, not, ◌&&◌, cond, List, [], ◌∷◌, ◌++◌, if◌then◌else◌, int_lt}
use Rattle.std.proofs.Common.{subst}
use Rattle.std.specs.List.{AllByRecursion}
use Rattle.std.proofs.lemmas.Int.{ints}
use Rattle.std.proofs.lemmas.Bool.{false≢true}
use Rattle.theory_lists.specs.Members.{Stands, AllOfTwo}
use Rattle.theory_lists.specs.Parity.{differ, is_odd_number}
use Rattle.theory_lists.proofs.Blocks.{stands_before, stands_behind}
use Rattle.theory_lists.proofs.Members.{all_follow}
use Rattle.theory_lists.proofs.Members.{all_that_stand}
use Rattle.theory_lists.proofs.Parity.{differ_assoc, differ_comm}
use Rattle.theory_numbers.specs.Arrows.{Arrow, cross}
use Rattle.theory_numbers.specs.Rationals.{IsRational, IsBelow, IsAtMost, is_at_most, rational}
use Rattle.theory_numbers.proofs.Vectors.Arrows.{cross-turn}
use Rattle.theory_numbers.proofs.Fractions.Rationals.{at_most_trans}
use Rattle.theory_numbers.proofs.Signs.{at_most_from, not_at_most_from, less_from, not_less_from}
use Rattle.theory_numbers.proofs.Signs.{test_less}
use Rattle.theory_plane.proofs.Clearance.{value_on-IsRational}
use Rattle.sb_fraction.specs.Lines.{line_over, reaches_past}
use Rattle.sb_fraction.specs.Spots.{Spot, Vector}
use Rattle.sb_model.specs.declared.products.Space.{Space}
use Rattle.sb_model.specs.declared.products.Element.{Element}
use Rattle.sb_model.specs.Building.{Building}
use Rattle.sb_model.specs.PlanEdges.{PlanEdge, plan_edges}
use Rattle.theory_parity.specs.Below.{value_of, is_below_at}
use Rattle.theory_parity.proofs.Rays.BelowFlips.{reaching_is_line}
use Rattle.theory_gaps.specs.Borders.{entry_along, exit_along, ground_along, IsCounted, HaveHeights}
use Rattle.theory_gaps.proofs.Rays.LabelsAlongTheNormal.{IsRow}
use Rattle.theory_gaps.proofs.Rays.WalkUpAndDown.{AreBelow}

-- ---- edges over a number

module _ (d u : Arrow) (u_in : IsRational u) (x0 : ℤ) where
  -- the edge's value is at most the position
  abbrev is_behind : PlanEdge → Bool
  is_behind e = is_at_most (value_of d u e.edge) (rational x0 (pos 1))

  -- an edge at its place among rising ones
  abbrev put : PlanEdge → List PlanEdge → List PlanEdge
  put e [] = e ∷ []
  put e (f ∷ fs) =
      if is_at_most (value_of d u e.edge) (value_of d u f.edge) then e ∷ f ∷ fs else f ∷ put e fs

  -- those that reach past the number, up to the position
  abbrev pub passed_of : List PlanEdge → List PlanEdge
  passed_of [] = []
  passed_of (e ∷ es) =
      if reaches_past d u e.edge && is_behind e then e ∷ passed_of es else passed_of es

  -- and behind it, rising
  abbrev pub row_of : List PlanEdge → List PlanEdge
  row_of [] = []
  row_of (e ∷ es) =
      if reaches_past d u e.edge && not (is_behind e) then put e (row_of es) else row_of es

  odd-put : (test : PlanEdge → Bool) (e : PlanEdge) (fs : List PlanEdge)
      → is_odd_number test (put e fs) ≡ differ (test e) (is_odd_number test fs)
  odd-put test e [] = refl
  odd-put test e (f ∷ fs) =
      by (is_at_most (value_of d u e.edge) (value_of d u f.edge)) (odd-put test e fs)
    where
      by : (b : Bool) → is_odd_number test (put e fs) ≡ differ (test e) (is_odd_number test fs)
          → is_odd_number test (cond b (e ∷ f ∷ fs) (f ∷ put e fs))
          ≡ differ (test e) (differ (test f) (is_odd_number test fs))
      by true rest = refl
      by false rest =
          ap (differ (test f)) rest
          ∙ sym (differ_assoc (test f) (test e) (is_odd_number test fs))
          ∙ ap (λ b. differ b (is_odd_number test fs)) (differ_comm (test f) (test e))
          ∙ differ_assoc (test e) (test f) (is_odd_number test fs)

  -- together they are those that reach past the number
  pub whole_row : (test : PlanEdge → Bool) (es : List PlanEdge)
      → differ (is_odd_number test (passed_of es)) (is_odd_number test (row_of es))
      ≡ is_odd_number (λ e. reaches_past d u e.edge && test e) es
  whole_row test [] = refl
  whole_row test (e ∷ es) = by (reaches_past d u e.edge) (is_behind e) (whole_row test es)
    where
      before : Bool
      before = is_odd_number test (passed_of es)

      after : Bool
      after = is_odd_number test (row_of es)

      by : (r b : Bool)
          → differ before after ≡ is_odd_number (λ f. reaches_past d u f.edge && test f) es
          → differ (is_odd_number test (cond (r && b) (e ∷ passed_of es) (passed_of es)))
          (is_odd_number test (cond (r && not b) (put e (row_of es)) (row_of es)))
          ≡ differ (r && test e) (is_odd_number (λ f. reaches_past d u f.edge && test f) es)
      by true true rest =
          differ_assoc (test e) (is_odd_number test (passed_of es)) (is_odd_number test (row_of es))
          ∙ ap (differ (test e)) rest
      by true false rest =
          ap (differ (is_odd_number test (passed_of es))) (odd-put test e (row_of es))
          ∙ sym (differ_assoc (is_odd_number test (passed_of es)) (test e)
          (is_odd_number test (row_of es)))
          ∙ ap (λ b. differ b (is_odd_number test (row_of es)))
          (differ_comm (is_odd_number test (passed_of es)) (test e))
          ∙ differ_assoc (test e) (is_odd_number test (passed_of es))
          (is_odd_number test (row_of es))
          ∙ ap (differ (test e)) rest
      by false b rest = rest

  module _ (edges : List PlanEdge) where
    abbrev IsPassed : PlanEdge → Type 0
    IsPassed e =
        Stands e edges
        × ((reaches_past d u e.edge ≡ true)
        × IsAtMost (value_of d u e.edge) (rational x0 (pos 1)))

    abbrev IsAhead : PlanEdge → Type 0
    IsAhead e =
        Stands e edges
        × ((reaches_past d u e.edge ≡ true)
        × IsBelow (rational x0 (pos 1)) (value_of d u e.edge))

    passed_are : (es : List PlanEdge) → AllByRecursion (λ e. Stands e edges) es
        → AllByRecursion IsPassed (passed_of es)
    passed_are [] there = tt
    passed_are (e ∷ es) there =
        by (reaches_past d u e.edge) (is_behind e) refl refl (passed_are es there.1)
      where
        by : (r b : Bool) → reaches_past d u e.edge ≡ r → is_behind e ≡ b
            → AllByRecursion IsPassed (passed_of es)
            → AllByRecursion IsPassed (cond (r && b) (e ∷ passed_of es) (passed_of es))
        by true true past least rest = (
          (
            there.0,
            (past, at_most_from (pos 0) (cross (value_of d u e.edge) (rational x0 (pos 1))) least),
          ),
          rest,
        )
        by true false past least rest = rest
        by false b past least rest = rest

    put_are : (P : PlanEdge → Type 0) (e : PlanEdge) (fs : List PlanEdge) → P e
        → AllByRecursion P fs → AllByRecursion P (put e fs)
    put_are P e [] e_is all = (e_is, tt)
    put_are P e (f ∷ fs) e_is all =
        by (is_at_most (value_of d u e.edge) (value_of d u f.edge)) (put_are P e fs e_is all.1)
      where
        by : (b : Bool) → AllByRecursion P (put e fs)
            → AllByRecursion P (cond b (e ∷ f ∷ fs) (f ∷ put e fs))
        by true rest = (e_is, all)
        by false rest = (all.0, rest)

    ahead_are : (es : List PlanEdge) → AllByRecursion (λ e. Stands e edges) es
        → AllByRecursion IsAhead (row_of es)
    ahead_are [] there = tt
    ahead_are (e ∷ es) there =
        by (reaches_past d u e.edge) (is_behind e) refl refl (ahead_are es there.1)
      where
        by : (r b : Bool) → reaches_past d u e.edge ≡ r → is_behind e ≡ b
            → AllByRecursion IsAhead (row_of es)
            → AllByRecursion IsAhead (cond (r && not b) (put e (row_of es)) (row_of es))
        by true false past more rest =
            put_are IsAhead e (row_of es) (
              there.0,
              (
                past,
                let order =
                    not_at_most_from (pos 0) (cross (value_of d u e.edge) (rational x0 (pos 1))) more
                    in
                    let turn = cross-turn (value_of d u e.edge) (rational x0 (pos 1)) in
                    omega (arith, ints),
              ),
            ) rest
        by true true past more rest = rest
        by false b past more rest = rest

    value_in : (e : PlanEdge) → reaches_past d u e.edge ≡ true → IsRational (value_of d u e.edge)
    value_in e past =
        value_on-IsRational (line_over d e.edge) u (reaching_is_line d u e.edge past) u_in

    abbrev IsNotAfter : PlanEdge → PlanEdge → Type 0
    IsNotAfter e f = IsAtMost (value_of d u e.edge) (value_of d u f.edge)

    put_rises : (e : PlanEdge) (fs : List PlanEdge) → IsAhead e → AllByRecursion IsAhead fs
        → AllOfTwo IsNotAfter fs → AllOfTwo IsNotAfter (put e fs)
    put_rises e [] e_is all rise = (tt, tt)
    put_rises e (f ∷ fs) e_is all rise =
        by (is_at_most (value_of d u e.edge) (value_of d u f.edge)) refl
        (put_rises e fs e_is all.1 rise.1)
      where
        further : (gs : List PlanEdge) → AllByRecursion IsAhead gs
            → AllByRecursion (IsNotAfter f) gs → IsNotAfter e f → AllByRecursion (IsNotAfter e) gs
        further [] gs_in after first = tt
        further (g ∷ gs) gs_in after first = (
          at_most_trans (value_of d u e.edge) (value_of d u f.edge) (value_of d u g.edge)
              (value_in e e_is.1.0) (value_in f all.0.1.0) (value_in g gs_in.0.1.0) first after.0,
          further gs gs_in.1 after.1 first,
        )

        by : (b : Bool) → is_at_most (value_of d u e.edge) (value_of d u f.edge) ≡ b
            → AllOfTwo IsNotAfter (put e fs)
            → AllOfTwo IsNotAfter (cond b (e ∷ f ∷ fs) (f ∷ put e fs))
        by true least rest =
            let first = at_most_from (pos 0) (cross (value_of d u e.edge) (value_of d u f.edge)) least in
            ((first, further fs all.1 rise.0 first), rise)
        by false more rest =
            let order =
            not_at_most_from (pos 0) (cross (value_of d u e.edge) (value_of d u f.edge)) more
            in
            let turn = cross-turn (value_of d u e.edge) (value_of d u f.edge) in
            (put_are (IsNotAfter f) e fs (omega (arith, ints)) rise.0, rest)

    row_rises : (es : List PlanEdge) → AllByRecursion (λ e. Stands e edges) es
        → AllOfTwo IsNotAfter (row_of es)
    row_rises [] there = tt
    row_rises (e ∷ es) there =
        by (reaches_past d u e.edge) (is_behind e) refl refl (ahead_are es there.1)
        (row_rises es there.1)
      where
        by : (r b : Bool) → reaches_past d u e.edge ≡ r → is_behind e ≡ b
            → AllByRecursion IsAhead (row_of es) → AllOfTwo IsNotAfter (row_of es)
            → AllOfTwo IsNotAfter (cond (r && not b) (put e (row_of es)) (row_of es))
        by true false past more all rest =
            put_rises e (row_of es) (
              there.0,
              (
                past,
                let order =
                    not_at_most_from (pos 0) (cross (value_of d u e.edge) (rational x0 (pos 1))) more
                    in
                    let turn = cross-turn (value_of d u e.edge) (rational x0 (pos 1)) in
                    omega (arith, ints),
              ),
            ) all rest
        by true true past more all rest = rest
        by false b past more all rest = rest

  -- the edges of a model over a number make a row
  pub is_row : (m : Building) → IsRow m d u x0 (passed_of (plan_edges m)) (row_of (plan_edges m))
  is_row m = record {
    whole = λ test. whole_row test (plan_edges m);
    behind = passed_are (plan_edges m) (plan_edges m) all_there;
    ahead = ahead_are (plan_edges m) (plan_edges m) all_there;
    rise = row_rises (plan_edges m) (plan_edges m) all_there;
  }
    where
      all_there : AllByRecursion (λ e. Stands e (plan_edges m)) (plan_edges m)
      all_there = all_that_stand (λ e. Stands e (plan_edges m)) (plan_edges m) (λ e there. there)

-- ---- edges below a point

-- those of a list that lie below the point
abbrev pub below_of : Arrow → Spot → List PlanEdge → List PlanEdge
below_of d p [] = []
below_of d p (e ∷ es) = if is_below_at d p e.edge then e ∷ below_of d p es else below_of d p es

odd-below_of : (d : Arrow) (p : Spot) (test : PlanEdge → Bool) (es : List PlanEdge)
    → is_odd_number test (below_of d p es)
    ≡ is_odd_number (λ e. is_below_at d p e.edge && test e) es
odd-below_of d p test [] = refl
odd-below_of d p test (e ∷ es) = by (is_below_at d p e.edge) (odd-below_of d p test es)
  where
    by : (b : Bool)
        → is_odd_number test (below_of d p es)
        ≡ is_odd_number (λ f. is_below_at d p f.edge && test f) es
        → is_odd_number test (cond b (e ∷ below_of d p es) (below_of d p es))
        ≡ differ (b && test e) (is_odd_number (λ f. is_below_at d p f.edge && test f) es)
    by true rest = ap (differ (test e)) rest
    by false rest = rest

-- the edges of a model below a point
pub are_below : (m : Building) (d : Arrow) (p : Spot)
    → AreBelow m d p (below_of d p (plan_edges m))
are_below m d p = record { odd = λ test. odd-below_of d p test (plan_edges m) }

-- ---- heights

-- a position at its place among rising ones, once
abbrev put_height : ℤ → List ℤ → List ℤ
put_height z [] = z ∷ []
put_height z (y ∷ ys) =
    if int_lt z y then z ∷ y ∷ ys else (if int_lt y z then y ∷ put_height z ys else y ∷ ys)

-- those above x0, rising
abbrev pub heights_above : ℤ → List ℤ → List ℤ
heights_above x0 [] = []
heights_above x0 (z ∷ zs) =
    if int_lt x0 z then put_height z (heights_above x0 zs) else heights_above x0 zs

all_put : (P : ℤ → Type 0) (z : ℤ) (ys : List ℤ) → P z → AllByRecursion P ys
    → AllByRecursion P (put_height z ys)
all_put P z [] z_is all = (z_is, tt)
all_put P z (y ∷ ys) z_is all = by (int_lt z y) (int_lt y z) (all_put P z ys z_is all.1)
  where
    by : (a b : Bool) → AllByRecursion P (put_height z ys)
        → AllByRecursion P (cond a (z ∷ y ∷ ys) (cond b (y ∷ put_height z ys) (y ∷ ys)))
    by true b rest = (z_is, all)
    by false true rest = (all.0, rest)
    by false false rest = all

put_height_rises : (z : ℤ) (ys : List ℤ) → AllOfTwo (λ a b. a <ℤ b) ys
    → AllOfTwo (λ a b. a <ℤ b) (put_height z ys)
put_height_rises z [] rise = (tt, tt)
put_height_rises z (y ∷ ys) rise =
    by (int_lt z y) (int_lt y z) refl refl (put_height_rises z ys rise.1)
  where
    further : (xs : List ℤ) → AllByRecursion (λ x. y <ℤ x) xs → z <ℤ y
        → AllByRecursion (λ x. z <ℤ x) xs
    further xs all less =
        all_follow {P = λ x. y <ℤ x} {Q = λ x. z <ℤ x} (λ x more. omega (arith, ints)) xs all

    by : (a b : Bool) → int_lt z y ≡ a → int_lt y z ≡ b
        → AllOfTwo (λ p q. p <ℤ q) (put_height z ys)
        → AllOfTwo (λ p q. p <ℤ q) (cond a (z ∷ y ∷ ys) (cond b (y ∷ put_height z ys) (y ∷ ys)))
    by true b less more rest =
        let first = less_from z y less in ((first, further ys rise.0 first), rise)
    by false true less more rest =
        (all_put (λ x. y <ℤ x) z ys (less_from y z more) rise.0, rest)
    by false false less more rest = rise

stands_put : (z : ℤ) (ys : List ℤ) → Stands z (put_height z ys)
stands_put z [] = inl refl
stands_put z (y ∷ ys) = by (int_lt z y) (int_lt y z) refl refl (stands_put z ys)
  where
    by : (a b : Bool) → int_lt z y ≡ a → int_lt y z ≡ b → Stands z (put_height z ys)
        → Stands z (cond a (z ∷ y ∷ ys) (cond b (y ∷ put_height z ys) (y ∷ ys)))
    by true b less more rest = inl refl
    by false true less more rest = inr rest
    by false false less more rest =
        let low = not_less_from z y less in
        let high = not_less_from y z more in
        inl (omega (arith, ints))

stands_kept : (x z : ℤ) (ys : List ℤ) → Stands x ys → Stands x (put_height z ys)
stands_kept x z [] there = absurd there
stands_kept x z (y ∷ ys) there = by (int_lt z y) (int_lt y z) there (stands_kept x z ys)
  where
    by : (a b : Bool) → Stands x (y ∷ ys) → (Stands x ys → Stands x (put_height z ys))
        → Stands x (cond a (z ∷ y ∷ ys) (cond b (y ∷ put_height z ys) (y ∷ ys)))
    by true b at rest = inr at
    by false true (inl same) rest = inl same
    by false true (inr later) rest = inr (rest later)
    by false false at rest = at

module _ (x0 : ℤ) where
  heights_rise : (zs : List ℤ)
      → AllOfTwo (λ a b. a <ℤ b) (heights_above x0 zs)
      × AllByRecursion (λ z. x0 <ℤ z) (heights_above x0 zs)
  heights_rise [] = (tt, tt)
  heights_rise (z ∷ zs) = by (int_lt x0 z) refl (heights_rise zs)
    where
      by : (b : Bool) → int_lt x0 z ≡ b
          → AllOfTwo (λ a b. a <ℤ b) (heights_above x0 zs)
          × AllByRecursion (λ z. x0 <ℤ z) (heights_above x0 zs)
          → AllOfTwo (λ a b. a <ℤ b)
          (cond b (put_height z (heights_above x0 zs)) (heights_above x0 zs))
          × AllByRecursion (λ z. x0 <ℤ z)
          (cond b (put_height z (heights_above x0 zs)) (heights_above x0 zs))
      by true more rest = (
        put_height_rises z (heights_above x0 zs) rest.0,
        all_put (λ y. x0 <ℤ y) z (heights_above x0 zs) (less_from x0 z more) rest.1,
      )
      by false less rest = rest

  heights_have : (x : ℤ) (zs : List ℤ) → Stands x zs → IsCounted x0 (heights_above x0 zs) x
  heights_have x [] there above = absurd there
  heights_have x (z ∷ zs) there above =
      by (int_lt x0 z) refl there (λ later. heights_have x zs later above)
    where
      by : (b : Bool) → int_lt x0 z ≡ b → Stands x (z ∷ zs)
          → (Stands x zs → Stands x (heights_above x0 zs))
          → Stands x (cond b (put_height z (heights_above x0 zs)) (heights_above x0 zs))
      by true more (inl same) rest =
          subst (λ y. Stands y (put_height z (heights_above x0 zs))) (sym same)
          (stands_put z (heights_above x0 zs))
      by true more (inr later) rest = stands_kept x z (heights_above x0 zs) (rest later)
      by false less (inl same) rest =
          absurd (false≢true (sym less ∙ test_less x0 z (subst (λ y. x0 <ℤ y) same above)))
      by false less (inr later) rest = rest later

-- where a ray up or down comes into the prisms of these products and leaves them
abbrev space_ends : Vector → List Space → List ℤ
space_ends n [] = []
space_ends n (s ∷ ss) = entry_along n s.prism ∷ exit_along n s.prism ∷ space_ends n ss

abbrev element_ends : Vector → List Element → List ℤ
element_ends n [] = []
element_ends n (e ∷ es) = entry_along n e.prism ∷ exit_along n e.prism ∷ element_ends n es

-- all of them, and the ground
abbrev pub all_ends : Building → Vector → List ℤ
all_ends m n =
    ground_along n m.ground_height ∷ (space_ends n m.spaces ++ element_ends n m.elements)

space_ends_have : (n : Vector) (s : Space) (ss : List Space) → Stands s ss
    → Stands (entry_along n s.prism) (space_ends n ss) × Stands (exit_along n s.prism) (space_ends n ss)
space_ends_have n s [] there = absurd there
space_ends_have n s (t ∷ ts) (inl same) = (
  inl (ap (λ (x : Space). entry_along n x.prism) same),
  inr (inl (ap (λ (x : Space). exit_along n x.prism) same)),
)
space_ends_have n s (t ∷ ts) (inr later) =
    let rest = space_ends_have n s ts later in (inr (inr rest.0), inr (inr rest.1))

element_ends_have : (n : Vector) (e : Element) (es : List Element) → Stands e es
    → Stands (entry_along n e.prism) (element_ends n es)
    × Stands (exit_along n e.prism) (element_ends n es)
element_ends_have n e [] there = absurd there
element_ends_have n e (f ∷ fs) (inl same) = (
  inl (ap (λ (x : Element). entry_along n x.prism) same),
  inr (inl (ap (λ (x : Element). exit_along n x.prism) same)),
)
element_ends_have n e (f ∷ fs) (inr later) =
    let rest = element_ends_have n e fs later in (inr (inr rest.0), inr (inr rest.1))

-- a model has its heights, for any gap
pub have_heights : (m : Building) (n : Vector) (passed : List PlanEdge) (x0 : ℤ)
    → HaveHeights m n passed x0 (heights_above x0 (all_ends m n))
have_heights m n passed x0 = record {
  rise = (heights_rise x0 (all_ends m n)).0;
  above = (heights_rise x0 (all_ends m n)).1;
  spaces =
      λ s s_in present.
      let both = space_ends_have n s m.spaces s_in in (
        heights_have x0 (entry_along n s.prism) (all_ends m n)
            (inr (stands_before _ (space_ends n m.spaces) (element_ends n m.elements) both.0)),
        heights_have x0 (exit_along n s.prism) (all_ends m n)
            (inr (stands_before _ (space_ends n m.spaces) (element_ends n m.elements) both.1)),
      );
  elements =
      λ e e_in present.
      let both = element_ends_have n e m.elements e_in in (
        heights_have x0 (entry_along n e.prism) (all_ends m n)
            (inr (stands_behind _ (space_ends n m.spaces) (element_ends n m.elements) both.0)),
        heights_have x0 (exit_along n e.prism) (all_ends m n)
            (inr (stands_behind _ (space_ends n m.spaces) (element_ends n m.elements) both.1)),
      );
  earth = heights_have x0 (ground_along n m.ground_height) (all_ends m n) (inl refl);
}
