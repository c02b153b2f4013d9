-- Slabs and their orders by tests that compute, for worked models.
use Rattle.std.proofs.Common.{◌≡◌, refl, sym, ◌∙◌, arith, subst, ◌⊎◌, inl, inr, ℕ, pos, ◌<◌, Bool, true}
use Rattle.std.proofs.Common.{false, not, ◌&&◌, ◌||◌, cond, List, [], ◌∷◌, Option, Some, None, slice_get}
use Rattle.std.proofs.Common.{IsPermutation, nat_lt, nat_le, if◌then◌else◌}
use Rattle.std.proofs.Common.{subst₂}
use Rattle.std.specs.Ordering.{int_eq}
use Rattle.std.specs.List.{AllByRecursion, list_all}
use Rattle.std.proofs.lemmas.Int.{ints}
use Rattle.std.proofs.lemmas.Bool.{and_parts, or_cases, false≢true, false_from_ne_true}
use Rattle.std.proofs.lemmas.Bool.{ltb-true}
use Rattle.std.proofs.lemmas.Bool.Decides.{Decides-int_eq}
use Rattle.std.proofs.lemmas.List.Sorted.{IsPermutation-refl, IsPermutation-trans}
use Rattle.std.proofs.lemmas.List.Sorted.{IsPermutation-cons, IsPermutation-swap}
use Rattle.theory_lists.specs.Members.{Stands, AllOfTwo}
use Rattle.theory_lists.proofs.Members.{all_stands, one_of_any}
use Rattle.theory_lists.proofs.Members.{two_follow}
use Rattle.theory_numbers.specs.Arrows.{Arrow, cross}
use Rattle.theory_numbers.specs.Tests.{is_positive}
use Rattle.theory_numbers.specs.Rationals.{IsRational, IsBelow, IsSame, is_below, is_at_most}
use Rattle.theory_numbers.proofs.Vectors.Arrows.{cross-turn}
use Rattle.theory_numbers.proofs.Fractions.Rationals.{below_at_most_trans, at_most_below_trans}
use Rattle.theory_numbers.proofs.Signs.{less_from, at_most_from}
use Rattle.theory_plane.specs.Leads.{leads}
use Rattle.sb_fraction.specs.Lines.{flat, line_over}
use Rattle.theory_plans.specs.Plans.{is_of_each_two}
use Rattle.sb_model.specs.Building.{Building}
use Rattle.sb_model.specs.PlanEdges.{PlanEdge, plan_edges, is_abscissa}
use Rattle.theory_models.specs.Abscissae.{abscissae_of}
use Rattle.theory_models.proofs.AbscissaeListed.{abscissa_is_among, abscissae_are_rational}
use Rattle.theory_parity.specs.Below.{IsWay}
use Rattle.theory_lines.specs.Slabs.{IsSlab, IsSlabOrder, spanning_places, LeadsAt}
use Rattle.theory_lines.proofs.SortedByLeads.{sorted_is_slab_order}

-- ---- slabs

-- no abscissa of d lies strictly between low and high, and low lies below high
abbrev pub is_slab_of : Building → Arrow → Arrow → Arrow → Bool
is_slab_of m d low high =
    (is_positive low.x && (is_positive high.x && is_below low high))
    && list_all (λ a. is_at_most a low || is_at_most high a) (abscissae_of m (flat d))

all_outside : (test : Arrow → Bool) (list : List Arrow) → list_all test list ≡ true
    → AllByRecursion (λ a. test a ≡ true) list
all_outside test [] all = tt
all_outside test (a ∷ list) all =
    let parts = and_parts (test a) (list_all test list) all in
    (parts.0, all_outside test list parts.1)

-- then it is a slab
pub slab_by_test : (m : Building) (d low high : Arrow) → is_slab_of m d low high ≡ true
    → IsSlab m d low high
slab_by_test m d low high answer =
    record {
      low_in = low_in;
      high_in = high_in;
      wide = less_from (pos 0) (cross low high) rest.1;
      none =
          λ u u_in after before.
          false_from_ne_true (is_abscissa m (flat d) u)
          (λ is.
          from u u_in after before
          (one_of_any (λ a. int_eq (cross u a) (pos 0)) (abscissae_of m (flat d))
          (sym (abscissa_is_among m (flat d) u) ∙ is)));
    }
  where
    outside : Arrow → Bool
    outside a = is_at_most a low || is_at_most high a

    parts : ((is_positive low.x && (is_positive high.x && is_below low high)) ≡ true)
        × (list_all (λ a. is_at_most a low || is_at_most high a) (abscissae_of m (flat d)) ≡ true)
    parts =
        and_parts (is_positive low.x && (is_positive high.x && is_below low high))
        (list_all (λ a. is_at_most a low || is_at_most high a) (abscissae_of m (flat d))) answer

    first : (is_positive low.x ≡ true) × ((is_positive high.x && is_below low high) ≡ true)
    first = and_parts (is_positive low.x) (is_positive high.x && is_below low high) parts.0

    rest : (is_positive high.x ≡ true) × (is_below low high ≡ true)
    rest = and_parts (is_positive high.x) (is_below low high) first.1

    low_in : IsRational low
    low_in = less_from (pos 0) low.x first.0

    high_in : IsRational high
    high_in = less_from (pos 0) high.x rest.0

    from : (u : Arrow) → IsRational u → IsBelow low u → IsBelow u high
        → (a : Arrow) × (Stands a (abscissae_of m (flat d)) × (int_eq (cross u a) (pos 0) ≡ true)) → ⊥
    from u u_in after before (a, (a_in, at)) =
        by
        (or_cases (is_at_most a low) (is_at_most high a)
        (all_stands (λ t. (is_at_most t low || is_at_most high t) ≡ true) a (abscissae_of m (flat d))
        (all_outside (λ t. is_at_most t low || is_at_most high t) (abscissae_of m (flat d)) parts.1)
        a_in))
      where
        a_rational : IsRational a
        a_rational =
            all_stands IsRational a (abscissae_of m (flat d)) (abscissae_are_rational m (flat d)) a_in

        same : IsSame u a
        same = (Decides-int_eq (cross u a) (pos 0)).0 at

        by : (is_at_most a low ≡ true) ⊎ (is_at_most high a ≡ true) → ⊥
        by (inl below) =
            let least = at_most_from (pos 0) (cross a low) below in
            let less = at_most_below_trans a low u a_rational low_in u_in least after in
            let turn = cross-turn a u in
            omega (arith, ints, same)
        by (inr above) =
            let least = at_most_from (pos 0) (cross high a) above in
            let more = below_at_most_trans u high a u_in high_in a_rational before least in
            omega (arith, ints, same)

-- ---- orders

-- a number at its place among rising ones
abbrev pub put_number : ℕ → List ℕ → List ℕ
put_number n [] = n ∷ []
put_number n (k ∷ ks) = if nat_le n k then n ∷ k ∷ ks else k ∷ put_number n ks

-- numbers in rising order
abbrev pub rising_numbers : List ℕ → List ℕ
rising_numbers [] = []
rising_numbers (n ∷ ns) = put_number n (rising_numbers ns)

put-permuted : (n : ℕ) (ks : List ℕ) → IsPermutation (n ∷ ks) (put_number n ks)
put-permuted n [] = IsPermutation-refl (n ∷ [])
put-permuted n (k ∷ ks) = by (nat_le n k) (put-permuted n ks)
  where
    by : (b : Bool) → IsPermutation (n ∷ ks) (put_number n ks)
        → IsPermutation (n ∷ k ∷ ks) (cond b (n ∷ k ∷ ks) (k ∷ put_number n ks))
    by true rest = IsPermutation-refl (n ∷ k ∷ ks)
    by false rest =
        IsPermutation-trans (n ∷ k ∷ ks) (k ∷ n ∷ ks) (k ∷ put_number n ks)
        (IsPermutation-swap (n ∷ k ∷ ks) (k ∷ n ∷ ks) 0 1 (omega arith) (omega arith) refl)
        (IsPermutation-cons k (n ∷ ks) (put_number n ks) rest)

rising-permuted : (ns : List ℕ) → IsPermutation ns (rising_numbers ns)
rising-permuted [] = IsPermutation-refl []
rising-permuted (n ∷ ns) =
    IsPermutation-trans (n ∷ ns) (n ∷ rising_numbers ns) (put_number n (rising_numbers ns))
    (IsPermutation-cons n ns (rising_numbers ns) (rising-permuted ns))
    (put-permuted n (rising_numbers ns))

-- just after u one edge leads, or neither does and it has the lesser place
abbrev pub comes_first : Arrow → Arrow → ℕ → ℕ → Option PlanEdge → Option PlanEdge → Bool
comes_first d u i j (Some e) (Some f) =
    leads u (line_over d e.edge) (line_over d f.edge)
    || (not (leads u (line_over d f.edge) (line_over d e.edge)) && nat_lt i j)
comes_first d u i j (Some e) None = false
comes_first d u i j None o = false

-- of each two places the earlier comes first
abbrev pub is_in_order : List PlanEdge → Arrow → Arrow → List ℕ → Bool
is_in_order edges d u order =
    is_of_each_two (λ i j. comes_first d u i j (slice_get edges i) (slice_get edges j)) order

each_two : {X : Type 0} (test : X → X → Bool) (xs : List X) → is_of_each_two test xs ≡ true
    → AllOfTwo (λ x y. test x y ≡ true) xs
each_two test [] answer = tt
each_two {X} test (x ∷ xs) answer =
    let parts = and_parts (list_all (test x) xs) (is_of_each_two test xs) answer in
    (all_pass xs parts.0, each_two test xs parts.1)
  where
    all_pass : (ys : List X) → list_all (test x) ys ≡ true → AllByRecursion (λ y. test x y ≡ true) ys
    all_pass [] all = tt
    all_pass (y ∷ ys) all =
        let both = and_parts (test x y) (list_all (test x) ys) all in
        (both.0, all_pass ys both.1)

-- the places that are those of the spanning edges once they are put in rising order, and of which each
-- comes before the next ones, are the order of the slab
pub order_by_test : (m : Building) (d low high : Arrow) → IsWay d → IsSlab m d low high
    → (order : List ℕ) → rising_numbers order ≡ spanning_places (plan_edges m) d low high
    → is_in_order (plan_edges m) d low order ≡ true
    → IsSlabOrder (plan_edges m) d low high order
order_by_test m d low high d_is slab order spanning sorted =
    sorted_is_slab_order m d low high d_is slab order
    (subst (IsPermutation order) spanning (rising-permuted order))
    (two_follow
    (λ i j. comes_first d low i j (slice_get (plan_edges m) i) (slice_get (plan_edges m) j) ≡ true)
    (LeadsAt (plan_edges m) d low) order (λ i j i_in j_in first e f at_e at_f.
    by e f i j
    (subst₂ (λ o q. comes_first d low i j o q ≡ true) at_e at_f first))
    (each_two
    (λ i j. comes_first d low i j (slice_get (plan_edges m) i) (slice_get (plan_edges m) j)) order
    sorted))
  where
    by : (e f : PlanEdge) (i j : ℕ) → comes_first d low i j (Some e) (Some f) ≡ true
        → (leads low (line_over d e.edge) (line_over d f.edge) ≡ true)
        ⊎ ((leads low (line_over d f.edge) (line_over d e.edge) ≡ false) × (i < j))
    by e f i j first =
        from
        (or_cases (leads low (line_over d e.edge) (line_over d f.edge))
        (not (leads low (line_over d f.edge) (line_over d e.edge)) && nat_lt i j) first)
      where
        not_true : (b : Bool) → not b ≡ true → b ≡ false
        not_true true answer = absurd (false≢true answer)
        not_true false answer = refl

        from : (leads low (line_over d e.edge) (line_over d f.edge) ≡ true)
            ⊎ ((not (leads low (line_over d f.edge) (line_over d e.edge)) && nat_lt i j) ≡ true)
            → (leads low (line_over d e.edge) (line_over d f.edge) ≡ true)
            ⊎ ((leads low (line_over d f.edge) (line_over d e.edge) ≡ false) × (i < j))
        from (inl leading) = inl leading
        from (inr both) =
            let parts =
            and_parts (not (leads low (line_over d f.edge) (line_over d e.edge))) (nat_lt i j) both
            in
            inr (
              not_true (leads low (line_over d f.edge) (line_over d e.edge)) parts.0,
              ltb-true i j parts.1,
            )
