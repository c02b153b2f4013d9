-- Where no two spaces overlap, the label of a point inside a space is that space's; and where a walk comes to
-- a space, that space begins.
use Rattle.std.proofs.Common.{◌≡◌, refl, sym, ap, ◌∙◌, arith, subst, ◌⊎◌, inl, inr, ℕ, ◌<◌, pos, negsuc}
use Rattle.std.proofs.Common.{◌<ℤ◌, Bool, true, false, cond, ◌&&◌, IsTrue, nat_le, List, [], ◌∷◌}
use Rattle.std.proofs.Common.{Option, Some, None}
use Rattle.std.specs.List.{AllByRecursion}
use Rattle.std.proofs.lemmas.Int.{ints}
use Rattle.std.proofs.lemmas.Bool.{and_parts}
use Rattle.std.proofs.lemmas.Bool.{false_from_ne_true}
use Rattle.std.proofs.lemmas.Option.{none-some}
use Rattle.theory_lists.specs.Members.{Stands}
use Rattle.theory_lists.proofs.Members.{all_follow, all_both, one_or_two}
use Rattle.theory_lists.proofs.Parity.{odd_where_same}
use Rattle.theory_numbers.specs.Arrows.{Arrow, cross}
use Rattle.theory_numbers.specs.Rationals.{IsRational, IsBelow, IsAtMost, is_below, is_at_most, rational}
use Rattle.theory_numbers.specs.Rationals.{mediant}
use Rattle.theory_numbers.proofs.Fractions.Rationals.{below_trans, at_most_below_trans, below_at_most_trans}
use Rattle.theory_numbers.proofs.Fractions.Rationals.{at_most_trans, at_most_from_below, below_or_not}
use Rattle.theory_numbers.proofs.Fractions.Rationals.{mediant_between}
use Rattle.theory_numbers.proofs.Fractions.Rationals.{mediant-IsRational}
use Rattle.theory_numbers.proofs.Signs.{same_tests, less_from, test_less, at_most_from, test_at_most}
use Rattle.theory_cuttings.specs.Columns.{is_odd_below, is_odd_up_to}
use Rattle.theory_cuttings.specs.Passages.{ray_start}
use Rattle.theory_patches.proofs.NoneBetween.{IsFreeBefore, IsFreeAfter, free_before}
use Rattle.theory_patches.proofs.NoneBetween.{free_after}
use Rattle.sb_fraction.specs.Spots.{Spot, IsSpot, inner}
use Rattle.sb_model.specs.declared.labels.label.Label.{Label}
use Rattle.sb_model.specs.declared.labels.label.Label.TheVariants as label
use Rattle.sb_model.specs.declared.products.Element.{Element}
use Rattle.sb_model.specs.declared.products.Space.{Space}
use Rattle.sb_model.specs.Building.{Building, is_building}
use Rattle.sb_model.specs.Labels.{lower_of, lowest, label_at, space_at, element_at, space_label}
use Rattle.sb_model.specs.Labels.{element_label, open_label}
use Rattle.sb_model.specs.Labels.{layer_at}
use Rattle.sb_model.specs.Passages.{Ray, at_depth}
use Rattle.sb_model.specs.Solids.{is_in_solid}
use Rattle.theory_models.proofs.NumbersApart.{own_numbers}
use Rattle.theory_models.proofs.RaysAlike.{along_is_spot}
use Rattle.theory_sight.specs.Coarse.{coarse, IsOpen}
use Rattle.theory_sight.proofs.Stacked.{open_is_open}
use Rattle.theory_mirrors.specs.Laws.{HaveNoOverlap}
use Rattle.theory_numbers.proofs.Shapes.{cross_eq}
use Rattle.theory_sight.specs.Crossings.{label_along}

-- ---- beside a number

-- some values rise just before a number, or none does
pub record IsJustBefore (vals : List Arrow) (low at s : Arrow) : Type 0 where
  pub rational : IsRational s
  pub within : IsAtMost low s
  pub before : IsBelow s at
  pub below : (v : Arrow) → IsRational v → IsBelow s v → IsBelow v at
      → is_odd_below vals v ≡ is_odd_below vals at
  pub up_to : (v : Arrow) → IsRational v → IsBelow s v → IsBelow v at
      → is_odd_up_to vals v ≡ is_odd_below vals at

pub just_before : (vals : List Arrow) → AllByRecursion IsRational vals → (low at : Arrow)
    → IsRational low → IsRational at → IsBelow low at → (s : Arrow) × IsJustBefore vals low at s
just_before vals vals_in low at low_in at_in wide =
    from (free_before low at low_in at_in wide vals vals_in)
  where
    from : (s : Arrow) × IsFreeBefore low at vals s → (s : Arrow) × IsJustBefore vals low at s
    from (s, free) = (
      s,
      record {
        rational = free.rational;
        within = free.within;
        before = free.before;
        below =
            λ v v_in after under.
            odd_where_same (λ f. is_below f v) (λ f. is_below f at) vals
            (all_follow
            {P = λ f. IsRational f × (IsBelow s f → IsBelow f at → ⊥)}
            {Q = λ f. is_below f v ≡ is_below f at}
            (λ f is. less f is.0 is.1 v v_in after under) vals
            (all_both IsRational (λ f. IsBelow s f → IsBelow f at → ⊥) vals vals_in free.none));
        up_to =
            λ v v_in after under.
            odd_where_same (λ f. is_at_most f v) (λ f. is_below f at) vals
            (all_follow
            {P = λ f. IsRational f × (IsBelow s f → IsBelow f at → ⊥)}
            {Q = λ f. is_at_most f v ≡ is_below f at}
            (λ f is. least f is.0 is.1 v v_in after under) vals
            (all_both IsRational (λ f. IsBelow s f → IsBelow f at → ⊥) vals vals_in free.none));
      },
    )
      where
        -- a value below the number lies at s or before
        early : (f : Arrow) → IsRational f → (IsBelow s f → IsBelow f at → ⊥) → IsBelow f at
            → IsAtMost f s
        early f f_in none under = of (below_or_not s f)
          where
            of : IsBelow s f ⊎ IsAtMost f s → IsAtMost f s
            of (inl more) = absurd (none more under)
            of (inr at_s) = at_s

        less : (f : Arrow) → IsRational f → (IsBelow s f → IsBelow f at → ⊥) → (v : Arrow)
            → IsRational v → IsBelow s v → IsBelow v at → is_below f v ≡ is_below f at
        less f f_in none v v_in after under =
            same_tests (is_below f v) (is_below f at)
            (λ answer.
            test_less (pos 0) (cross f at)
            (below_trans f v at f_in v_in at_in (less_from (pos 0) (cross f v) answer) under))
            (λ answer.
            test_less (pos 0) (cross f v)
            (at_most_below_trans f s v f_in free.rational v_in
            (early f f_in none (less_from (pos 0) (cross f at) answer)) after))

        least : (f : Arrow) → IsRational f → (IsBelow s f → IsBelow f at → ⊥) → (v : Arrow)
            → IsRational v → IsBelow s v → IsBelow v at → is_at_most f v ≡ is_below f at
        least f f_in none v v_in after under =
            same_tests (is_at_most f v) (is_below f at)
            (λ answer.
            test_less (pos 0) (cross f at)
            (at_most_below_trans f v at f_in v_in at_in (at_most_from (pos 0) (cross f v) answer)
            under))
            (λ answer.
            test_at_most (pos 0) (cross f v)
            (at_most_trans f s v f_in free.rational v_in
            (early f f_in none (less_from (pos 0) (cross f at) answer)) (at_most_from_below s v after)))

-- and just after it
pub record IsJustAfter (vals : List Arrow) (at high s : Arrow) : Type 0 where
  pub rational : IsRational s
  pub within : IsAtMost s high
  pub after : IsBelow at s
  pub below : (v : Arrow) → IsRational v → IsBelow at v → IsBelow v s
      → is_odd_below vals v ≡ is_odd_up_to vals at

pub just_after : (vals : List Arrow) → AllByRecursion IsRational vals → (at high : Arrow)
    → IsRational at → IsRational high → IsBelow at high → (s : Arrow) × IsJustAfter vals at high s
just_after vals vals_in at high at_in high_in wide =
    from (free_after at high at_in high_in wide vals vals_in)
  where
    from : (s : Arrow) × IsFreeAfter at high vals s → (s : Arrow) × IsJustAfter vals at high s
    from (s, free) = (
      s,
      record {
        rational = free.rational;
        within = free.within;
        after = free.after;
        below =
            λ v v_in after under.
            odd_where_same (λ f. is_below f v) (λ f. is_at_most f at) vals
            (all_follow
            {P = λ f. IsRational f × (IsBelow at f → IsBelow f s → ⊥)}
            {Q = λ f. is_below f v ≡ is_at_most f at}
            (λ f is. less f is.0 is.1 v v_in after under) vals
            (all_both IsRational (λ f. IsBelow at f → IsBelow f s → ⊥) vals vals_in free.none));
      },
    )
      where
        less : (f : Arrow) → IsRational f → (IsBelow at f → IsBelow f s → ⊥) → (v : Arrow)
            → IsRational v → IsBelow at v → IsBelow v s → is_below f v ≡ is_at_most f at
        less f f_in none v v_in after under =
            same_tests (is_below f v) (is_at_most f at)
            (λ answer. of (less_from (pos 0) (cross f v) answer) (below_or_not at f))
            (λ answer.
            test_less (pos 0) (cross f v)
            (at_most_below_trans f at v f_in at_in v_in (at_most_from (pos 0) (cross f at) answer)
            after))
          where
            of : IsBelow f v → IsBelow at f ⊎ IsAtMost f at → is_at_most f at ≡ true
            of low (inl more) =
                absurd (none more (below_trans f v s f_in v_in free.rational low under))
            of low (inr least) = test_at_most (pos 0) (cross f at) least

-- ---- labels of spaces

-- the lowest item is found where one passes, and passes
pub lowest_is : {X : Type 0} (number : X → ℕ) (test : X → Bool) (xs : List X) (x : X)
    → lowest number test xs ≡ Some x → Stands x xs × (test x ≡ true)
lowest_is number test [] x found = absurd (none-some x found)
lowest_is {X} number test (y ∷ ys) x found =
    by (test y) (lowest number test ys) refl (lowest_is number test ys) found
  where
    of_two : (o : Option X) → test y ≡ true
        → ((z : X) → o ≡ Some z → Stands z ys × (test z ≡ true))
        → Some (lower_of number y o) ≡ Some x → Stands x (y ∷ ys) × (test x ≡ true)
    of_two None passes later same = let e : y ≡ x = cc in (inl (sym e), rw (sym e) passes)
    of_two (Some z) passes later same = by_order (nat_le (number y) (number z)) same
      where
        by_order : (b : Bool) → Some (cond b y z) ≡ Some x → Stands x (y ∷ ys) × (test x ≡ true)
        by_order true same = let e : y ≡ x = cc in (inl (sym e), rw (sym e) passes)
        by_order false same =
            let e : z ≡ x = cc in
            let at = later x (ap Some e) in (inr at.0, at.1)

    by : (b : Bool) (o : Option X) → test y ≡ b
        → ((z : X) → o ≡ Some z → Stands z ys × (test z ≡ true))
        → cond b (Some (lower_of number y o)) o ≡ Some x → Stands x (y ∷ ys) × (test x ≡ true)
    by true o passes later same = of_two o passes later same
    by false o fails later same = let at = later x same in (inr at.0, at.1)

lowest_is_some : {X : Type 0} (number : X → ℕ) (test : X → Bool) (xs : List X) (x : X)
    → Stands x xs → test x ≡ true → (y : X) × (lowest number test xs ≡ Some y)
lowest_is_some number test [] x there passes = absurd there
lowest_is_some number test (y ∷ ys) x (inl same) passes = (
  lower_of number y (lowest number test ys),
  ap (λ b. cond b (Some (lower_of number y (lowest number test ys))) (lowest number test ys))
      (ap test (sym same) ∙ passes),
)
lowest_is_some {X} number test (y ∷ ys) x (inr later) passes =
    by (test y) (lowest_is_some number test ys x later passes)
  where
    by : (b : Bool) → (z : X) × (lowest number test ys ≡ Some z)
        → (z : X)
        × (cond b (Some (lower_of number y (lowest number test ys))) (lowest number test ys) ≡ Some z)
    by true rest = (lower_of number y (lowest number test ys), refl)
    by false rest = rest

-- a point inside a space has this space's label where no other space contains it
pub label_inside : (m : Building) → HaveNoOverlap m → (s : Space) → Stands s m.spaces → (p : Spot)
    → IsSpot p → is_in_solid s.prism p ≡ true → label_at m p ≡ label.Space s.number
label_inside m alone s s_in p p_is inside =
    by (lowest_is_some (λ x. x.number) (λ x. is_in_solid x.prism p) m.spaces s s_in inside)
  where
    by : (t : Space)
        × (lowest (λ x. x.number) (λ x. is_in_solid x.prism p) m.spaces ≡ Some t)
        → label_at m p ≡ label.Space s.number
    by (t, found) =
        let at = lowest_is (λ x. x.number) (λ x. is_in_solid x.prism p) m.spaces t found in
        ap (space_label m p) found ∙ ap label.Space (alone t s at.0 s_in p p_is at.1 inside)

-- a space that contains a point
pub record IsSpaceAt (m : Building) (p : Spot) (k : ℕ) : Type 0 where
  pub space : Space
  pub in_model : Stands space m.spaces
  pub number_is : space.number ≡ k
  pub inside : is_in_solid space.prism p ≡ true

not_open : (l : Label) (k : ℕ) → IsOpen l → l ≡ label.Space k → ⊥
not_open label.Earth k is same = cc
not_open label.Void k is same = cc
not_open (label.Space n) k is same = is
not_open (label.Element n layer) k is same = is

-- a label of a space says that it is there
pub space_is_at : (m : Building) (p : Spot) (k : ℕ) → label_at m p ≡ label.Space k → IsSpaceAt m p k
space_is_at m p k named = by (space_at m p) refl named
  where
    of_element : (o : Option Element) → element_label m.ground_height p o ≡ label.Space k
        → IsSpaceAt m p k
    of_element None same =
        absurd
        (not_open (open_label m.ground_height p) k (open_is_open m.ground_height p) same)
    of_element (Some e) same = absurd (clash same)
      where
        clash : label.Element e.number (layer_at e.prism e.layering p) ≡ label.Space k → ⊥
        clash same = cc

    by : (o : Option Space) → space_at m p ≡ o → space_label m p o ≡ label.Space k → IsSpaceAt m p k
    by None none same = of_element (element_at m p) same
    by (Some s) found same =
        let number : s.number ≡ k = cc in
        let at = lowest_is (λ x. x.number) (λ x. is_in_solid x.prism p) m.spaces s found in
        record { space = s; in_model = at.0; number_is = number; inside = at.1 }

-- a coarse label of a space is a label of it
pub only_space : (n : ℕ) (l : Label) → coarse l ≡ label.Space n → l ≡ label.Space n
only_space n (label.Space k) same = same
only_space n (label.Element k layer) same = absurd (clash same)
  where
    clash : label.Element k 0 ≡ label.Space n → ⊥
    clash same = cc
only_space n label.Earth same = same
only_space n label.Void same = same

-- spaces of one number are one
pub one_space : (m : Building) → IsTrue (is_building m) → (s t : Space) → Stands s m.spaces
    → Stands t m.spaces → s.number ≡ t.number → s ≡ t
one_space m valid s t s_in t_in same =
    by
    (one_or_two (λ (x y : Space). x.number < y.number) s t m.spaces ((own_numbers m valid).spaces.rise)
    s_in t_in)
  where
    by : (s ≡ t) ⊎ ((s.number < t.number) ⊎ (t.number < s.number)) → s ≡ t
    by (inl one) = one
    by (inr (inl less)) = absurd (omega (arith, less, same))
    by (inr (inr more)) = absurd (omega (arith, more, same))

-- ---- spaces on a ray

-- the spaces of the model by their values on a ray
pub record SeesSpaces (m : Building) (r : Ray) : Type 0 where
  pub model : IsTrue (is_building m)
  pub start : IsSpot r.start
  pub some : pos 0 <ℤ inner r.normal r.normal
  pub values : Space → List Arrow
  pub rational : (s : Space) → Stands s m.spaces → AllByRecursion IsRational (values s)
  pub solid_is : (s : Space) → Stands s m.spaces → (t : Arrow) → IsRational t
      → is_in_solid s.prism (at_depth r t) ≡ (is_odd_below (values s) t && is_odd_up_to (values s) t)

-- a space that ends where the ray begins
pub record EndsAtStart (m : Building) (r : Ray) (sees : SeesSpaces m r) (s : Space) : Type 0 where
  pub in_model : Stands s m.spaces
  pub below : is_odd_below (sees.values s) ray_start ≡ true
  pub up_to : is_odd_up_to (sees.values s) ray_start ≡ false

-- a space that begins at a depth
pub record BeginsAt (m : Building) (r : Ray) (sees : SeesSpaces m r) (k : ℕ) (at : Arrow) : Type 0 where
  pub space : Space
  pub in_model : Stands space m.spaces
  pub number_is : space.number ≡ k
  pub below : is_odd_below (sees.values space) at ≡ false
  pub up_to : is_odd_up_to (sees.values space) at ≡ true

module _ (m : Building) (r : Ray) (sees : SeesSpaces m r) (alone : HaveNoOverlap m) where
  pub point_is : (u : Arrow) → IsRational u → IsSpot (at_depth r u)
  point_is u u_in = along_is_spot r.start r.normal u sees.start sees.some u_in

  and_is : (a b c : Bool) → a ≡ c → b ≡ c → (a && b) ≡ c
  and_is true b c same_a same_b = same_b
  and_is false b c same_a same_b = same_a

  -- just before a depth at which a space does not begin it stands where it stood
  pub record StandsBefore (s : Space) (low at : Arrow) : Type 0 where
    pub from : Arrow
    pub rational : IsRational from
    pub within : IsAtMost low from
    pub before : IsBelow from at
    pub solid : (u : Arrow) → IsRational u → IsBelow from u → IsBelow u at
        → is_in_solid s.prism (at_depth r u) ≡ is_odd_below (sees.values s) at

  pub stands_before_depth : (s : Space) → Stands s m.spaces → (low at : Arrow) → IsRational low
      → IsRational at → IsBelow low at → StandsBefore s low at
  stands_before_depth s s_in low at low_in at_in wide =
      by (just_before (sees.values s) (sees.rational s s_in) low at low_in at_in wide)
    where
      by : (v : Arrow) × IsJustBefore (sees.values s) low at v → StandsBefore s low at
      by (v, is) = record {
        from = v;
        rational = is.rational;
        within = is.within;
        before = is.before;
        solid =
            λ u u_in after under.
            sees.solid_is s s_in u u_in
            ∙ and_is (is_odd_below (sees.values s) u) (is_odd_up_to (sees.values s) u)
            (is_odd_below (sees.values s) at) (is.below u u_in after under)
            (is.up_to u u_in after under);
      }

  -- the label just before the start is that of the space which ends there
  pub record LabelBefore (s : Space) : Type 0 where
    pub from : Arrow
    pub rational : IsRational from
    pub before : IsBelow from ray_start
    pub inside : (u : Arrow) → IsRational u → IsBelow from u → IsBelow u ray_start
        → is_in_solid s.prism (at_depth r u) ≡ true
    pub label_is : (u : Arrow) → IsRational u → IsBelow from u → IsBelow u ray_start
        → label_along m r u ≡ label.Space s.number

  pub label_before_start : (s : Space) → EndsAtStart m r sees s → LabelBefore s
  label_before_start s ends =
      let is =
      stands_before_depth s ends.in_model (rational (negsuc 0) (pos 1)) ray_start (omega (arith, ints))
      (omega (arith, ints))
      (let spread = cross_eq (rational (negsuc 0) (pos 1)) ray_start in omega (arith, ints))
      in
      record {
        from = is.from;
        rational = is.rational;
        before = is.before;
        inside = λ u u_in after under. is.solid u u_in after under ∙ ends.below;
        label_is =
            λ u u_in after under.
            label_inside m alone s ends.in_model (at_depth r u) (point_is u u_in)
            (is.solid u u_in after under ∙ ends.below);
      }

  -- where the label is a space's behind a depth, and the space does not stand before it, it begins there
  pub begins_there : (k : ℕ) (low at high : Arrow) → IsRational low → IsRational at → IsRational high
      → IsBelow low at → IsBelow at high
      → ((u : Arrow) → IsRational u → IsBelow at u → IsBelow u high
      → label_along m r u ≡ label.Space k)
      → ((t : Space) → Stands t m.spaces → t.number ≡ k → (u : Arrow) → IsRational u → IsBelow low u
      → IsBelow u at → is_in_solid t.prism (at_depth r u) ≡ true → ⊥)
      → BeginsAt m r sees k at
  begins_there k low at high low_in at_in high_in wide further label_is absent =
      by
      (space_is_at m (at_depth r (mediant at high)) k
      (label_is (mediant at high) (mediant-IsRational at high at_in high_in)
      ((mediant_between at high further).0) ((mediant_between at high further).1)))
    where
      by : IsSpaceAt m (at_depth r (mediant at high)) k → BeginsAt m r sees k at
      by there = record {
        space = there.space;
        in_model = there.in_model;
        number_is = there.number_is;
        below = not_before;
        up_to = behind (just_after (sees.values there.space) (sees.rational there.space there.in_model)
            at high at_in high_in further);
      }
        where
          not_before : is_odd_below (sees.values there.space) at ≡ false
          not_before =
              let is = stands_before_depth there.space there.in_model low at low_in at_in wide in
              let middle = mediant_between is.from at is.before in
              let u_in = mediant-IsRational is.from at is.rational at_in in
              false_from_ne_true (is_odd_below (sees.values there.space) at)
              (λ stands.
              absent there.space there.in_model there.number_is (mediant is.from at) u_in
              (at_most_below_trans low is.from (mediant is.from at) low_in is.rational u_in is.within
              middle.0) middle.1
              (is.solid (mediant is.from at) u_in middle.0 middle.1 ∙ stands))

          behind : (v : Arrow) × IsJustAfter (sees.values there.space) at high v
              → is_odd_up_to (sees.values there.space) at ≡ true
          behind (v, is) =
              let middle = mediant_between at v is.after in
              let u = mediant at v in
              let u_in = mediant-IsRational at v at_in is.rational in
              let named =
              label_is (mediant at v) u_in middle.0
              (below_at_most_trans (mediant at v) v high u_in is.rational high_in middle.1 is.within)
              in
              let found = space_is_at m (at_depth r (mediant at v)) k named in
              let one =
              one_space m sees.model found.space there.space found.in_model there.in_model
              (found.number_is ∙ sym there.number_is)
              in
              let inside =
              subst (λ (x : Space). is_in_solid x.prism (at_depth r (mediant at v)) ≡ true) one
              found.inside
              in
              let parts =
              and_parts (is_odd_below (sees.values there.space) (mediant at v))
              (is_odd_up_to (sees.values there.space) (mediant at v))
              (sym (sees.solid_is there.space there.in_model (mediant at v) u_in) ∙ inside)
              in
              sym (is.below (mediant at v) u_in middle.0 middle.1) ∙ parts.0
