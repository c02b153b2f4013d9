-- Seen from its end, a way over elements that are passed has these elements in reverse, and behind them
-- what was before it.
use Rattle.std.proofs.Common.{◌≡◌, refl, sym, ap, ◌∙◌, arith, subst, ◌⊎◌, inl, inr, ℕ, ℤ, pos, neg_ℤ}
use Rattle.std.proofs.Common.{◌-ℤ◌, ◌<ℤ◌, ◌≤ℤ◌, ◌==◌, Bool, true, false, cond}
use Rattle.std.proofs.Common.{List, [], ◌∷◌, Some, None}
use Rattle.std.specs.List.{find}
use Rattle.std.proofs.lemmas.Int.{ints}
use Rattle.std.proofs.lemmas.Bool.{and_parts}
use Rattle.std.proofs.lemmas.Option.{none-some}
use Rattle.theory_lists.specs.Members.{Stands}
use Rattle.theory_numbers.specs.Arrows.{Arrow, cross}
use Rattle.theory_numbers.specs.Rationals.{IsRational, IsBelow, IsAtMost, is_below, rational}
use Rattle.theory_numbers.proofs.Fractions.Reduced.{whole_is_reduced}
use Rattle.theory_numbers.proofs.Shapes.{var, num, plus, minus, times, negated, equal, cross_by, cross_eq}
use Rattle.theory_numbers.proofs.Signs.{less_or_not}
use Rattle.theory_cuttings.specs.Cuttings.{Break, HasLabel, IsReducedCutting, AreDifferent}
use Rattle.theory_cuttings.specs.Changes.{break_at, moved_by, label_after, breaks_after}
use Rattle.theory_cuttings.proofs.CutTwice.{above_two_ends}
use Rattle.theory_cuttings.proofs.Ends.{IsBetween, below_two_ends}
use Rattle.theory_cuttings.proofs.Parts.{cut_front_is}
use Rattle.sb_fraction.specs.Spots.{Spot, Vector, inner}
use Rattle.sb_model.specs.declared.labels.label.Label.{Label}
use Rattle.sb_model.specs.declared.labels.label.Label.TheVariants as label
use Rattle.sb_model.specs.declared.products.Element.{Element}
use Rattle.sb_model.specs.Building.{Building}
use Rattle.sb_model.specs.Labels.{low_along, high_along}
use Rattle.sb_model.specs.Passages.{Ray, at_depth}
use Rattle.sb_model.specs.Walks.{element_numbered, is_square, lies_along, is_in_reach}
use Rattle.theory_sight.specs.Coarse.{coarse}
use Rattle.theory_sight.specs.Reading.{square, Stretch, stretch}
use Rattle.theory_sight.specs.Reading.{AreStretches, Crossing, end_position, AllPassed, there, back}
use Rattle.theory_sight.specs.Reading.{is_passed_over}
use Rattle.theory_sight.proofs.Crossings.BandsOfPrisms.{low_end_of, high_end_of}
use Rattle.theory_sight.proofs.Crossings.CrossingItems.{IsSeen, element_layering}
use Rattle.theory_sight.proofs.Crossings.ElementAt.{element_is_at, coarse_element}
use Rattle.theory_sight.proofs.ItemsReversed.{LiesWithin}
use Rattle.theory_sight.proofs.ReadBack.{AllWithin}
use Rattle.theory_mirrors.proofs.SeenFromBehind.{back_from, cross-back, back-whole, ray_there, ray_back}
use Rattle.theory_mirrors.proofs.SeenFromBehind.{label_back, square_back}
use Rattle.theory_numbers.proofs.Vectors.Arrows.{cross-turn}
use Rattle.theory_sight.specs.Crossings.{label_along}

-- ---- a column from a number on

different_after : {L : Type 0} (s : Arrow) (first : L) (bs : List (Break L)) → AreDifferent first bs
    → AreDifferent (label_after s first bs) (breaks_after s bs)
different_after s first [] different = tt
different_after s first (b ∷ bs) different =
    by (is_below s b.start) (different_after s b.label bs different.1)
  where
    by : (t : Bool) → AreDifferent (label_after s b.label bs) (breaks_after s bs)
        → AreDifferent (cond t first (label_after s b.label bs)) (cond t (b ∷ bs) (breaks_after s bs))
    by true rest = different
    by false rest = rest

-- a reduced cutting stays reduced from a number on
pub reduced_from : {L : Type 0} (f : Arrow → L) (low s : Arrow) → IsRational low → IsRational s
    → IsAtMost low s → (first : L) (bs : List (Break L)) → IsReducedCutting f (Some low) None first bs
    → IsReducedCutting f (Some s) None (label_after s first bs) (breaks_after s bs)
reduced_from f low s low_in s_in reached first bs cut = record {
  cutting = cut_front_is f (Some low) None s low_in tt s_in reached tt first bs cut.cutting;
  different = different_after s first bs cut.different;
}

-- and its stretches are among those before
pub stretches_from : (m : Building) (r : Ray) (x0 : ℤ) (s at : Arrow) (first : Label)
    (bs : List (Break Label)) (ss : List Stretch) → AreStretches m r x0 (break_at at first ∷ bs) ss
    → (ts : List Stretch)
    × AreStretches m r x0 (break_at s (label_after s first bs) ∷ breaks_after s bs) ts
stretches_from m r x0 s at first [] [] are = absurd are
stretches_from m r x0 s at first [] (t ∷ []) are = (t ∷ [], are)
stretches_from m r x0 s at first [] (t ∷ q ∷ ts) are = absurd are
stretches_from m r x0 s at first (b ∷ bs) [] are = absurd are
stretches_from m r x0 s at first (b ∷ bs) (t ∷ ts) are =
    by (is_below s b.start) (stretches_from m r x0 s b.start b.label bs ts are.2)
  where
    by : (c : Bool)
        → (qs : List Stretch)
        × AreStretches m r x0 (break_at s (label_after s b.label bs) ∷ breaks_after s bs) qs
        → (qs : List Stretch)
        × AreStretches m r x0
        (break_at s (cond c first (label_after s b.label bs))
        ∷ cond c (b ∷ bs) (breaks_after s bs)) qs
    by true rest = (t ∷ ts, are)
    by false rest = rest

-- ---- the way back

module _ (m : Building) (p : Spot) (n : Vector) (x0 y : ℤ) (seen : IsSeen m (ray_there p n (y -ℤ x0)) x0)
  where
    abbrev r : Ray
    r = ray_there p n (y -ℤ x0)

    abbrev home : Ray
    home = ray_back p n (y -ℤ x0)

    abbrev f : Arrow → Label
    f u = coarse (label_along m r u)

    abbrev f_home : Arrow → Label
    f_home u = coarse (label_along m home u)

    -- a position as a depth, there and back
    abbrev pub at_of : ℤ → Arrow
    at_of a = rational (a -ℤ x0) (pos 1)

    abbrev pub from_end : ℤ → Arrow
    from_end a = rational (y -ℤ a) (pos 1)

    back_is : (a : ℤ) → back_from (y -ℤ x0) (from_end a) ≡ at_of a
    back_is a = back-whole (y -ℤ x0) (y -ℤ a) ∙ ap (λ k. rational k (pos 1)) (same x0 y a)
      where
        same : (x y a : ℤ) → (y -ℤ x) -ℤ (y -ℤ a) ≡ a -ℤ x
        same x y a = omega (arith, ints)

    -- what lies between two positions on the way there does so on the way back
    label_between : (a b : ℤ) (l : Label) → HasLabel f (Some (at_of a)) (Some (at_of b)) l
        → HasLabel f_home (Some (from_end b)) (Some (from_end a)) l
    label_between a b l has u u_in after before =
        ap coarse (label_back p n (y -ℤ x0) m seen.some u)
        ∙ has (back_from (y -ℤ x0) u) u_in
        (subst (λ t. IsBelow t (back_from (y -ℤ x0) u)) (back_is a)
        (subst (λ k. pos 0 <ℤ k) (sym (cross-back (y -ℤ x0) (from_end a) u)) before))
        (subst (IsBelow (back_from (y -ℤ x0) u)) (back_is b)
        (subst (λ k. pos 0 <ℤ k) (sym (cross-back (y -ℤ x0) u (from_end b))) after))

    square_home : (a : ℤ) → is_square m r (at_depth r (at_of a)) ≡ true
        → is_square m home (at_depth home (from_end a)) ≡ true
    square_home a there =
        square_back p n (y -ℤ x0) m seen.some (from_end a)
        ∙ ap (λ u. is_square m r (at_depth r u)) (back_is a) ∙ there

    -- ---- crossings within extents

    found_in : (k : ℕ) (es : List Element) (e : Element) → find (λ x. x.number == k) es ≡ Some e
        → Stands e es
    found_in k [] e found = absurd (none-some e found)
    found_in k (x ∷ xs) e found = by (x.number == k) (found_in k xs e) found
      where
        by : (b : Bool) → (find (λ z. z.number == k) xs ≡ Some e → Stands e xs)
            → cond b (Some x) (find (λ z. z.number == k) xs) ≡ Some e → Stands e (x ∷ xs)
        by true later same = let one : x ≡ e = cc in inl (sym one)
        by false later same = inr (later same)

    -- a point of the crossing lies within the extent
    within_there : (a b : ℤ) (k : ℕ) (e : Element) → element_numbered m k ≡ Some e
        → HasLabel f (Some (at_of a)) (Some (at_of b)) (label.Element k 0) → (u : Arrow) → IsRational u
        → IsBelow (at_of a) u → IsBelow u (at_of b)
        → IsBelow (low_end_of e.prism n) (moved_by x0 u) × IsBelow (moved_by x0 u) (high_end_of e.prism n)
    within_there a b k e numbered has u u_in after before =
        by (coarse_element (label_along m r u) k (has u u_in after before))
      where
        by : (layer : ℕ) × (label_along m r u ≡ label.Element k layer)
            → IsBelow (low_end_of e.prism n) (moved_by x0 u)
            × IsBelow (moved_by x0 u) (high_end_of e.prism n)
        by (layer, is) =
            let there = element_is_at m seen.model (at_depth r u) k layer is in
            let same : Some there.element ≡ Some e = sym there.numbered ∙ numbered in
            let one : there.element ≡ e = cc in
            subst
            (λ (x : Element).
            IsBelow (low_end_of x.prism n) (moved_by x0 u)
            × IsBelow (moved_by x0 u) (high_end_of x.prism n))
            one (seen.within there.element there.stands u u_in there.inside)

    low_moved : (z : ℤ) (u : Arrow)
        → cross (rational z (pos 1)) (moved_by x0 u) ≡ neg_ℤ (cross u (rational (z -ℤ x0) (pos 1)))
    low_moved z u =
        equal
        (cross_by (rational z (pos 1)) (moved_by x0 u) (num 1) (var z) (var u.x)
        (plus (var u.y) (times (var x0) (var u.x))))
        (negated
        (cross_by u (rational (z -ℤ x0) (pos 1)) (var u.x) (var u.y) (num 1) (minus (var z) (var x0))))
        (omega arith)

    high_moved : (z : ℤ) (u : Arrow)
        → cross (moved_by x0 u) (rational z (pos 1)) ≡ cross u (rational (z -ℤ x0) (pos 1))
    high_moved z u =
        equal
        (cross_by (moved_by x0 u) (rational z (pos 1)) (var u.x)
        (plus (var u.y) (times (var x0) (var u.x))) (num 1) (var z))
        (cross_by u (rational (z -ℤ x0) (pos 1)) (var u.x) (var u.y) (num 1) (minus (var z) (var x0)))
        (omega arith)

    whole_less : (a b : ℤ) → a <ℤ b → IsBelow (at_of a) (at_of b)
    whole_less a b less = let spread = cross_eq (at_of a) (at_of b) in omega (arith, ints)

    less_whole : (a b : ℤ) → IsBelow (at_of a) (at_of b) → a <ℤ b
    less_whole a b less = let spread = cross_eq (at_of a) (at_of b) in omega (arith, ints)

    -- so a crossing does
    crossing_within : (a b : ℤ) (k : ℕ) (e : Element) → element_numbered m k ≡ Some e
        → IsBelow (at_of a) (at_of b)
        → HasLabel f (Some (at_of a)) (Some (at_of b)) (label.Element k 0)
        → lies_along e.layering n ≡ true → LiesWithin e n a b
    crossing_within a b k e numbered wide has along = record {
      rising = less_whole a b wide;
      low = low_is (less_or_not a (low_along e.prism n));
      high = high_is (less_or_not (high_along e.prism n) b);
      right = element_layering m seen.model e (found_in k m.elements e numbered);
      along = along;
      some = seen.some;
    }
      where
        low_is : (a <ℤ low_along e.prism n) ⊎ (low_along e.prism n ≤ℤ a) → low_along e.prism n ≤ℤ a
        low_is (inr least) = least
        low_is (inl less) =
            by
            (below_two_ends (Some (at_of a)) (Some (at_of b)) (Some (at_of (low_along e.prism n)))
            (omega (arith, ints)) (omega (arith, ints)) (omega (arith, ints)) wide
            (whole_less a (low_along e.prism n) less))
          where
            by : (u : Arrow) × (IsBetween (Some (at_of a)) (Some (at_of b)) u
                × IsBetween (Some (at_of a)) (Some (at_of (low_along e.prism n))) u)
                → low_along e.prism n ≤ℤ a
            by (u, at) =
                let inside =
                within_there a b k e numbered has u at.0.rational at.0.after at.0.before
                in
                let low = inside.0 in
                let under = at.1.before in
                let whole = low_moved (low_along e.prism n) u in
                absurd (omega (arith, ints))

        high_is : (high_along e.prism n <ℤ b) ⊎ (b ≤ℤ high_along e.prism n)
            → b ≤ℤ high_along e.prism n
        high_is (inr least) = least
        high_is (inl less) =
            by
            (above_two_ends (Some (at_of a)) (Some (at_of (high_along e.prism n))) (at_of b)
            (omega (arith, ints)) (omega (arith, ints)) (omega (arith, ints)) wide
            (whole_less (high_along e.prism n) b less))
          where
            by : (u : Arrow) × (IsBetween (Some (at_of a)) (Some (at_of b)) u
                × IsBetween (Some (at_of (high_along e.prism n))) (Some (at_of b)) u)
                → b ≤ℤ high_along e.prism n
            by (u, at) =
                let inside =
                within_there a b k e numbered has u at.0.rational at.0.after at.0.before
                in
                let high = inside.1 in
                let over = at.1.after in
                let whole = high_moved (high_along e.prism n) u in
                let turn = cross-turn u (at_of (high_along e.prism n)) in
                absurd (omega (arith, ints))

    -- ---- crossing after crossing

    -- what is seen from the end
    pub record IsBackFrom (a : ℤ) (cs : List Crossing) (behind_start : List Stretch) : Type 0 where
      pub first : Label
      pub breaks : List (Break Label)
      pub cut :
          IsReducedCutting (λ u. coarse (label_along m (ray_back p n (y -ℤ x0)) u))
          (Some (rational (y -ℤ y) (pos 1))) None first breaks
      pub are : AreStretches m (ray_back p n (y -ℤ x0)) (neg_ℤ y)
          (break_at (rational (y -ℤ y) (pos 1)) first ∷ breaks) (back a cs behind_start)
      pub within : AllWithin m n a cs

    -- from a position on: what is seen there, and what is seen back from it
    pub record IsOnTheWay (a : ℤ) (cs : List Crossing) (further behind_start : List Stretch) : Type 0 where
      pub label_there : Label
      pub breaks_there : List (Break Label)
      pub cut_there :
          IsReducedCutting (λ u. coarse (label_along m (ray_there p n (y -ℤ x0)) u))
          (Some (rational (a -ℤ x0) (pos 1))) None label_there breaks_there
      pub are_there : AreStretches m (ray_there p n (y -ℤ x0)) x0
          (break_at (rational (a -ℤ x0) (pos 1)) label_there ∷ breaks_there) (there cs further)
      pub square_here :
          is_square m (ray_there p n (y -ℤ x0))
          (at_depth (ray_there p n (y -ℤ x0)) (rational (a -ℤ x0) (pos 1)))
          ≡ true
      pub label_back : Label
      pub breaks_back : List (Break Label)
      pub cut_back :
          IsReducedCutting (λ u. coarse (label_along m (ray_back p n (y -ℤ x0)) u))
          (Some (rational (y -ℤ a) (pos 1))) None label_back breaks_back
      pub are_back : AreStretches m (ray_back p n (y -ℤ x0)) (neg_ℤ y)
          (break_at (rational (y -ℤ a) (pos 1)) label_back ∷ breaks_back) behind_start
      pub differ : (k : ℕ) → label_there ≡ label.Element k 0 → label_there ≡ label_back → ⊥

    no_stretches : (a : ℤ) (l : Label) (s : Stretch) (cs : List Crossing) (t : Stretch)
        (beyond : List Stretch)
        → AreStretches m r x0 (break_at (at_of a) l ∷ []) (s ∷ there cs (t ∷ beyond)) → ⊥
    no_stretches a l s [] t beyond are = are
    no_stretches a l s (c ∷ cs) t beyond are = are

    -- over one crossing
    over_one : (a : ℤ) (c : Crossing) (cs : List Crossing) (t : Stretch)
        (beyond behind_start : List Stretch) (e : Element) → element_numbered m c.element ≡ Some e
        → is_passed_over m n e a c.to ≡ true
        → IsOnTheWay a (c ∷ cs) (t ∷ beyond) behind_start
        → IsOnTheWay c.to cs (t ∷ beyond)
        (stretch (label.Element c.element 0) (square (neg_ℤ a)) ∷ behind_start)
        × LiesWithin e n a c.to
    over_one a c cs t beyond behind_start e numbered passes way =
        by way.breaks_there way.cut_there way.are_there
      where
        along : lies_along e.layering n ≡ true
        along =
            (and_parts (lies_along e.layering n)
            (is_in_reach m.reach (inner n n) (rational (c.to -ℤ a) (pos 1))) passes).0

        end_same : (y a : ℤ) → y -ℤ a ≡ neg_ℤ a -ℤ neg_ℤ y
        end_same y a = omega (arith, ints)

        by : (bs : List (Break Label))
            → IsReducedCutting f (Some (at_of a)) None way.label_there bs
            → AreStretches m r x0 (break_at (at_of a) way.label_there ∷ bs)
            (stretch (label.Element c.element 0) (square c.to) ∷ there cs (t ∷ beyond))
            → IsOnTheWay c.to cs (t ∷ beyond)
            (stretch (label.Element c.element 0) (square (neg_ℤ a)) ∷ behind_start)
            × LiesWithin e n a c.to
        by [] cut are =
            absurd
            (no_stretches a way.label_there (stretch (label.Element c.element 0) (square c.to)) cs t
            beyond are)
        by (d ∷ ds) cut are =
            let start : d.start ≡ at_of c.to = are.1.0 in
            let named : label.Element c.element 0 ≡ way.label_there = are.0 in
            let wide : IsBelow (at_of a) (at_of c.to) =
            subst (IsBelow (at_of a)) start cut.cutting.1 in
            let has : HasLabel f (Some (at_of a)) (Some (at_of c.to)) (label.Element c.element 0) =
            subst (HasLabel f (Some (at_of a)) (Some (at_of c.to))) (sym named)
            (subst (λ s. HasLabel f (Some (at_of a)) (Some s) way.label_there) start cut.cutting.2) in
            let back_wide : IsBelow (from_end c.to) (from_end a) =
            (let less = less_whole a c.to wide in
            let spread = cross_eq (from_end c.to) (from_end a) in omega (arith, ints)) in (
              record {
                label_there = d.label;
                breaks_there = ds;
                cut_there =
                    subst (λ s. IsReducedCutting f (Some s) None d.label ds) start
                    (record { cutting = cut.cutting.3; different = cut.different.1 });
                are_there =
                    subst
                    (λ s. AreStretches m r x0 (break_at s d.label ∷ ds) (there cs (t ∷ beyond))) start
                    are.2;
                square_here =
                    subst (λ s. is_square m r (at_depth r s) ≡ true) start are.1.1;
                label_back = label.Element c.element 0;
                breaks_back = break_at (from_end a) way.label_back ∷ way.breaks_back;
                cut_back = record {
                  cutting = (
                    whole_is_reduced (y -ℤ a),
                    back_wide,
                    label_between a c.to (label.Element c.element 0) has,
                    way.cut_back.cutting,
                  );
                  different = (
                    λ same. way.differ c.element (sym named) (sym named ∙ same),
                    way.cut_back.different,
                  );
                };
                are_back = (
                  refl,
                  (ap (λ k. rational k (pos 1)) (end_same y a), square_home a way.square_here),
                  way.are_back,
                );
                differ = λ k is same. cut.different.0 (sym named ∙ sym same);
              },
              crossing_within a c.to c.element e numbered wide has along,
            )

    -- over all of them
    pub over_all : (a : ℤ) (cs : List Crossing) (t : Stretch) (beyond behind_start : List Stretch)
        → end_position a cs ≡ y → AllPassed m n a cs → IsOnTheWay a cs (t ∷ beyond) behind_start
        → IsBackFrom a cs behind_start
    over_all a [] t beyond behind_start ends passed way =
        record {
          first = way.label_back;
          breaks = way.breaks_back;
          cut =
              subst (λ z. IsReducedCutting f_home (Some (from_end z)) None way.label_back way.breaks_back)
              ends way.cut_back;
          are =
              subst
              (λ z.
              AreStretches m home (neg_ℤ y) (break_at (from_end z) way.label_back ∷ way.breaks_back)
              behind_start) ends way.are_back;
          within = tt;
        }
    over_all a (c ∷ cs) t beyond behind_start ends (e, numbered, passes, rest) way =
        by (over_one a c cs t beyond behind_start e numbered passes way)
        (over_all c.to cs t beyond
        (stretch (label.Element c.element 0) (square (neg_ℤ a)) ∷ behind_start) ends rest)
      where
        by : IsOnTheWay c.to cs (t ∷ beyond)
            (stretch (label.Element c.element 0) (square (neg_ℤ a)) ∷ behind_start)
            × LiesWithin e n a c.to
            → (IsOnTheWay c.to cs (t ∷ beyond)
            (stretch (label.Element c.element 0) (square (neg_ℤ a)) ∷ behind_start)
            → IsBackFrom c.to cs
            (stretch (label.Element c.element 0) (square (neg_ℤ a)) ∷ behind_start))
            → IsBackFrom a (c ∷ cs) behind_start
        by (next, within) later =
            let is = later next in
            record {
              first = is.first;
              breaks = is.breaks;
              cut = is.cut;
              are = is.are;
              within = (
                λ x found.
                    let same : Some e ≡ Some x = sym numbered ∙ found in
                    let one : e ≡ x = cc in
                    subst (λ (z : Element). LiesWithin z n a c.to) one within,
                is.within,
              );
            }
