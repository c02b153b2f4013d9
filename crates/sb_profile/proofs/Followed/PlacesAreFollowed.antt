-- One place more is followed: what is found there stays found, and the lowest numbers are those of all
-- places so far.
use Rattle.std.proofs.Common.{◌≡◌, ◌↔◌, ℕ, ◌+◌, ◌<◌, ◌≤◌, ◌⊎◌, inl, inr, min, Bool, true, false, List, [], ◌∷◌, ◌++◌, map, Option, Some, None, refl, sym, ap, ◌∙◌, subst, arith}
use Rattle.std.specs.Prelude.{filter, if◌then◌else◌}
use Rattle.std.specs.List.{flat_map}
use Rattle.std.proofs.lemmas.Bool.{cases_lt, false≢true, eqb-true, eq-eqb}
use Rattle.theory_lists.specs.Members.{Stands}
use Rattle.theory_lists.proofs.Blocks.{stands_before, stands_behind}
use Rattle.sb_profile.specs.declared.following.found.Found.{Found}
use Rattle.sb_profile.specs.declared.following.places.Place.{Place}
use Rattle.sb_profile.specs.Contents.{Contents, is_absent}
use Rattle.sb_profile.specs.Lowest.{lower_of, IsLowest}
use Rattle.sb_profile.specs.Following.{Lead, leads, IsFollowed}
use Rattle.sb_profile.specs.Following.IsFollowed.{onward}
use Rattle.sb_profile.specs.Steps.Links.{lowered}
use Rattle.sb_profile.specs.Steps.Found.{leads_with, is_unfit_at}
use Rattle.sb_profile.specs.Steps.Survey.{rank_of, is_to, wanted_there, IsLowestIf, IsMarked, IsOneOrMarked, IsSurveyed}
use Rattle.sb_profile.proofs.ListsOfNumbers.{stands_either}
use Rattle.sb_profile.proofs.Followed.LeadsGoOn.{leads_later, agree_later, one_rank}

-- ---- members of filtered and joined lists

pub stands_filter : {X : Type 0} (test : X → Bool) (x : X) (xs : List X) → Stands x (filter test xs)
    → Stands x xs × (test x ≡ true)
stands_filter test x [] stands = absurd stands
stands_filter {X = X} test x (y ∷ xs) stands =
    by_test (test y) refl (stands_filter test x xs) stands
  where
    by_test : (b : Bool) → test y ≡ b
        → (Stands x (filter test xs) → Stands x xs × (test x ≡ true))
        → Stands x (if b then y ∷ filter test xs else filter test xs)
        → Stands x (y ∷ xs) × (test x ≡ true)
    by_test true passes later (inl same) = (inl same, ap test same ∙ passes)
    by_test true passes later (inr there) = let rest = later there in (inr rest.0, rest.1)
    by_test false fails later there = let rest = later there in (inr rest.0, rest.1)

pub filter_stands : {X : Type 0} (test : X → Bool) (x : X) (xs : List X) → Stands x xs
    → test x ≡ true → Stands x (filter test xs)
filter_stands test x [] stands passes = stands
filter_stands {X = X} test x (y ∷ xs) stands passes =
    by_test (test y) refl stands (λ there. filter_stands test x xs there passes)
  where
    by_test : (b : Bool) → test y ≡ b → Stands x (y ∷ xs)
        → (Stands x xs → Stands x (filter test xs))
        → Stands x (if b then y ∷ filter test xs else filter test xs)
    by_test true is (inl same) later = inl same
    by_test true is (inr there) later = inr (later there)
    by_test false is (inl same) later =
        absurd (false≢true (sym is ∙ (ap test (sym same) ∙ passes)))
    by_test false is (inr there) later = later there

pub stands_flat_map : {X Y : Type 0} (f : X → List Y) (y : Y) (xs : List X) → Stands y (flat_map f xs)
    → (x : X) × (Stands x xs × Stands y (f x))
stands_flat_map f y [] stands = absurd stands
stands_flat_map {X = X} f y (x ∷ xs) stands =
    one (stands_either y (f x) (flat_map f xs) stands) (stands_flat_map f y xs)
  where
    one : Stands y (f x) ⊎ Stands y (flat_map f xs)
        → (Stands y (flat_map f xs) → (z : X) × (Stands z xs × Stands y (f z)))
        → (z : X) × (Stands z (x ∷ xs) × Stands y (f z))
    one (inl here) later = (x, (inl refl, here))
    one (inr there) later = let rest = later there in (rest.0, (inr rest.1.0, rest.1.1))

pub flat_map_stands : {X Y : Type 0} (f : X → List Y) (x : X) (y : Y) (xs : List X) → Stands x xs
    → Stands y (f x) → Stands y (flat_map f xs)
flat_map_stands f x y [] stands here = absurd stands
flat_map_stands f x y (z ∷ xs) (inl same) here =
    stands_before y (f z) (flat_map f xs) (subst (λ w. Stands y (f w)) same here)
flat_map_stands f x y (z ∷ xs) (inr later) here =
    stands_behind y (f z) (flat_map f xs) (flat_map_stands f x y xs later here)

pub stands_map : {X Y : Type 0} (f : X → Y) (y : Y) (xs : List X) → Stands y (map f xs)
    → (x : X) × (Stands x xs × (y ≡ f x))
stands_map f y [] stands = absurd stands
stands_map f y (x ∷ xs) (inl same) = (x, (inl refl, same))
stands_map f y (x ∷ xs) (inr later) =
    let rest = stands_map f y xs later in (rest.0, (inr rest.1.0, rest.1.1))

pub map_stands : {X Y : Type 0} (f : X → Y) (x : X) (xs : List X) → Stands x xs
    → Stands (f x) (map f xs)
map_stands f x [] stands = absurd stands
map_stands f x (y ∷ xs) (inl same) = inl (ap f same)
map_stands f x (y ∷ xs) (inr later) = inr (map_stands f x xs later)

-- the numbers that are wanted at a place are those of its leads
pub wanted_stands : (at : Place) (n : ℕ) (found : List Lead) → Stands n (wanted_there at found)
    → Stands (at, n) found
wanted_stands at n found stands =
    let lead = stands_map (λ l. l.1) n (filter (is_to at) found) stands in
    let there = stands_filter (is_to at) lead.0 found lead.1.0 in
    let place = one_rank lead.0.0 at (eqb-true (rank_of lead.0.0) (rank_of at) there.1) in
    subst (λ l. Stands l found)
    (λ i. (place i, sym lead.1.1 i))
    there.0

pub stands_wanted : (at : Place) (n : ℕ) (found : List Lead) → Stands (at, n) found
    → Stands n (wanted_there at found)
stands_wanted at n found stands =
    map_stands (λ l. l.1) (at, n) (filter (is_to at) found)
    (filter_stands (is_to at) (at, n) found stands (eq-eqb (rank_of at) (rank_of at) refl))

-- ---- the lowest of more numbers

lowest_with : (P : ℕ → Type 0) (n : ℕ) (o : Option ℕ) → IsLowestIf P o
    → IsLowestIf (λ m. P m ⊎ (m ≡ n)) (lower_of n o)
lowest_with P n None none = record {
  holds = inr refl;
  lowest = λ m is. either m is;
}
  where
    either : (m : ℕ) → P m ⊎ (m ≡ n) → n ≤ m
    either m (inl here) = absurd (none m here)
    either m (inr same) = omega arith
lowest_with P n (Some k) low = by_order (cases_lt k n)
  where
    below : (m : ℕ) → P m ⊎ (m ≡ n) → min n k ≤ m
    below m (inl here) = let least : k ≤ m = low.lowest m here in omega arith
    below m (inr same) = omega arith

    by_order : (k < n) ⊎ (n ≤ k) → IsLowest (λ m. P m ⊎ (m ≡ n)) (min n k)
    by_order (inl lower) =
        let e : k ≡ min n k = omega arith in
        record {
          holds = inl (subst P e low.holds);
          lowest = below;
        }
    by_order (inr other) = record { holds = inr (omega arith); lowest = below }

-- the same of what holds of the same numbers
pub lowest_same : (P Q : ℕ → Type 0) (o : Option ℕ) → ((n : ℕ) → P n → Q n)
    → ((n : ℕ) → Q n → P n) → IsLowestIf P o → IsLowestIf Q o
lowest_same P Q None there back none = λ n here. none n (back n here)
lowest_same P Q (Some k) there back low = record {
  holds = there k low.holds;
  lowest = λ m here. low.lowest m (back m here);
}

pub lowest_with_all : (P : ℕ → Type 0) (ns : List ℕ) (o : Option ℕ) → IsLowestIf P o
    → IsLowestIf (λ m. P m ⊎ Stands m ns) (lowered o ns)
lowest_with_all P [] o low =
    lowest_same P (λ m. P m ⊎ ⊥) o (λ n here. inl here) (λ n is. one n is) low
  where
    one : (n : ℕ) → P n ⊎ ⊥ → P n
    one n (inl here) = here
    one n (inr none) = absurd none
lowest_with_all P (n ∷ ns) o low =
    lowest_same (λ m. (P m ⊎ (m ≡ n)) ⊎ Stands m ns) (λ m. P m ⊎ ((m ≡ n) ⊎ Stands m ns))
    (lowered (lower_of n o) ns) there back
    (lowest_with_all (λ m. P m ⊎ (m ≡ n)) ns (lower_of n o) (lowest_with P n o low))
  where
    there : (m : ℕ) → (P m ⊎ (m ≡ n)) ⊎ Stands m ns → P m ⊎ ((m ≡ n) ⊎ Stands m ns)
    there m (inl (inl here)) = inl here
    there m (inl (inr same)) = inr (inl same)
    there m (inr later) = inr (inr later)

    back : (m : ℕ) → P m ⊎ ((m ≡ n) ⊎ Stands m ns) → (P m ⊎ (m ≡ n)) ⊎ Stands m ns
    back m (inl here) = inl (inl here)
    back m (inr (inl same)) = inl (inr same)
    back m (inr (inr later)) = inr later

-- ---- one place more

module _ (bodies : ℕ → Bool) (c : Contents) (at : Place) (old new : List Lead) (ns : List ℕ)
    (wanted : (n : ℕ) → Stands n ns ↔ Stands n (wanted_there at old))
    (grown : new ≡ old ++ flat_map (leads_with bodies c at) ns) where
  stays : (lead : Lead) → Stands lead old → Stands lead new
  stays lead stands =
      subst (Stands lead) (sym grown)
      (stands_before lead old (flat_map (leads_with bodies c at) ns) stands)

  -- what was found is old, or follows from one at this place
  pub old_or_later : (lead : Lead) → Stands lead new
      → Stands lead old ⊎ ((m : ℕ) × (Stands (at, m) old × Stands lead (leads_with bodies c at m)))
  old_or_later lead stands =
      either (stands_either lead old (flat_map (leads_with bodies c at) ns)
      (subst (Stands lead) grown stands))
    where
      either : Stands lead old ⊎ Stands lead (flat_map (leads_with bodies c at) ns)
          → Stands lead old
          ⊎ ((m : ℕ) × (Stands (at, m) old × Stands lead (leads_with bodies c at m)))
      either (inl there) = inl there
      either (inr follows) =
          let from_one = stands_flat_map (leads_with bodies c at) lead ns follows in
          inr (
            from_one.0,
            (
              wanted_stands at from_one.0 old ((wanted from_one.0).0 from_one.1.0),
              from_one.1.1,
            ),
          )

  -- what is of no higher rank was there
  pub low_is_old : (low : Place) (n : ℕ) → rank_of low < rank_of at + 1 → Stands (low, n) new
      → Stands (low, n) old
  low_is_old low n below stands = either (old_or_later (low, n) stands)
    where
      either : Stands (low, n) old
          ⊎ ((m : ℕ) × (Stands (at, m) old × Stands (low, n) (leads_with bodies c at m)))
          → Stands (low, n) old
      either (inl there) = there
      either (inr (m, (there, follows))) =
          let later = leads_later bodies c at m (low, n) follows in
          let high = later.0 in
          absurd (omega arith)

  -- marks: those of lower ranks, and those of this place
  pub marked_more : (roots : List ℕ) (test : Place → ℕ → Bool) (o : Option ℕ)
      → IsLowestIf (IsOneOrMarked roots test (rank_of at) old) o
      → IsLowestIf (IsOneOrMarked roots test (rank_of at + 1) new)
      (lowered o (filter (test at) ns))
  marked_more roots test o low =
      lowest_same
      (λ m. IsOneOrMarked roots test (rank_of at) old m ⊎ Stands m (filter (test at) ns))
      (IsOneOrMarked roots test (rank_of at + 1) new) (lowered o (filter (test at) ns)) there back
      (lowest_with_all (IsOneOrMarked roots test (rank_of at) old) (filter (test at) ns) o low)
    where
      there : (m : ℕ)
          → IsOneOrMarked roots test (rank_of at) old m ⊎ Stands m (filter (test at) ns)
          → IsOneOrMarked roots test (rank_of at + 1) new m
      there m (inl (inl root)) = inl root
      there m (inl (inr mark)) =
          inr (record {
            at = mark.at;
            low = let low = mark.low in omega arith;
            stands = stays (mark.at, m) mark.stands;
            passes = mark.passes;
          })
      there m (inr here) =
          let one = stands_filter (test at) m ns here in
          inr (record {
            at = at;
            low = omega arith;
            stands = stays (at, m) (wanted_stands at m old ((wanted m).0 one.0));
            passes = one.1;
          })

      by_rank : (m : ℕ) (mark : IsMarked test (rank_of at + 1) new m)
          → (rank_of mark.at < rank_of at) ⊎ (rank_of at ≤ rank_of mark.at)
          → IsOneOrMarked roots test (rank_of at) old m ⊎ Stands m (filter (test at) ns)
      by_rank m mark (inl lower) =
          inl (inr (record {
            at = mark.at;
            low = lower;
            stands = low_is_old mark.at m mark.low mark.stands;
            passes = mark.passes;
          }))
      by_rank m mark (inr not_lower) =
          let low = mark.low in
          let same : mark.at ≡ at = one_rank mark.at at (omega arith) in
          inr (filter_stands (test at) m ns
          ((wanted m).1 (stands_wanted at m old
          (subst (λ p. Stands (p, m) old) same (low_is_old mark.at m mark.low mark.stands))))
          (ap (λ p. test p m) (sym same) ∙ mark.passes))

      back : (m : ℕ) → IsOneOrMarked roots test (rank_of at + 1) new m
          → IsOneOrMarked roots test (rank_of at) old m ⊎ Stands m (filter (test at) ns)
      back m (inl root) = inl (inl root)
      back m (inr mark) = by_rank m mark (cases_lt (rank_of mark.at) (rank_of at))

-- all of it
pub surveyed_more : (bodies : ℕ → Bool) (c : Contents) (roots : List ℕ) (first : List Lead) (at : Place) (old new : Found)
    (ns : List ℕ) → ((n : ℕ) → Stands n ns ↔ Stands n (wanted_there at old.leads.items))
    → new.leads.items ≡ old.leads.items ++ flat_map (leads_with bodies c at) ns
    → new.unfit ≡ lowered old.unfit (filter (is_unfit_at c at) ns)
    → new.absent ≡ lowered old.absent (filter (is_absent c) ns)
    → IsSurveyed bodies c roots first (rank_of at) old
    → IsSurveyed bodies c roots first (rank_of at + 1) new
surveyed_more bodies c roots first at old new ns wanted grown unfit absent surveyed = record {
  bodies_are = surveyed.bodies_are;
  keeps = λ lead there. stays bodies c at olds news ns wanted grown lead (surveyed.keeps lead there);
  sound = λ low n stands. sound_by low n (old_or_later bodies c at olds news ns wanted grown (low, n) stands);
  agree = λ low n stands. agree_by low n (old_or_later bodies c at olds news ns wanted grown (low, n) stands);
  closed = λ low n lead below stands follows.
      closed_by low n lead (cases_lt (rank_of low) (rank_of at)) below
      (low_is_old bodies c at olds news ns wanted grown low n below stands) follows;
  unfit = subst (IsLowestIf (IsOneOrMarked roots (is_unfit_at c) (rank_of at + 1) news)) (sym unfit)
      (marked_more bodies c at olds news ns wanted grown roots (is_unfit_at c) old.unfit surveyed.unfit);
  absent = subst (IsLowestIf (IsOneOrMarked [] (λ _ n. is_absent c n) (rank_of at + 1) news)) (sym absent)
      (marked_more bodies c at olds news ns wanted grown [] (λ _ n. is_absent c n) old.absent
      surveyed.absent);
}
  where
    olds : List Lead
    olds = old.leads.items

    news : List Lead
    news = new.leads.items

    sound_by : (low : Place) (n : ℕ) → Stands (low, n) old.leads.items
        ⊎ ((m : ℕ) × (Stands (at, m) old.leads.items × Stands (low, n) (leads_with bodies c at m)))
        → IsFollowed c low n
    sound_by low n (inl there) = surveyed.sound low n there
    sound_by low n (inr (m, (there, follows))) =
        onward at low m n (surveyed.sound at m there)
        (subst (Stands (low, n)) (surveyed.agree at m there) follows)

    agree_by : (low : Place) (n : ℕ) → Stands (low, n) old.leads.items
        ⊎ ((m : ℕ) × (Stands (at, m) old.leads.items × Stands (low, n) (leads_with bodies c at m)))
        → leads_with bodies c low n ≡ leads c low n
    agree_by low n (inl there) = surveyed.agree low n there
    agree_by low n (inr (m, (there, follows))) =
        agree_later bodies c low n (leads_later bodies c at m (low, n) follows).1

    closed_by : (low : Place) (n : ℕ) (lead : Lead)
        → (rank_of low < rank_of at) ⊎ (rank_of at ≤ rank_of low) → rank_of low < rank_of at + 1
        → Stands (low, n) old.leads.items → Stands lead (leads_with bodies c low n)
        → Stands lead new.leads.items
    closed_by low n lead (inl lower) below there follows =
        stays bodies c at old.leads.items new.leads.items ns wanted grown lead
        (surveyed.closed low n lead lower there follows)
    closed_by low n lead (inr not_lower) below there follows =
        let same : low ≡ at = one_rank low at (omega arith) in
        subst (Stands lead) (sym grown)
        (stands_behind lead old.leads.items (flat_map (leads_with bodies c at) ns)
        (flat_map_stands (leads_with bodies c at) n lead ns
        ((wanted n).1 (stands_wanted at n old.leads.items
        (subst (λ p. Stands (p, n) old.leads.items) same there)))
        (subst (λ p. Stands lead (leads_with bodies c p n)) same follows)))
