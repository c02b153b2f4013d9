-- The column of the sorted values is a cutting of the label, and it has no odd point.
use Rattle.std.proofs.Common.{◌≡◌, refl, sym, ap, ◌∙◌, ◌⊎◌, inl, inr, arith, subst}
use Rattle.std.proofs.Common.{Option, Some, None, Bool, true, false, pos, List, [], ◌∷◌}
use Rattle.std.proofs.lemmas.Int.{ints}
use Rattle.std.specs.List.{AllByRecursion}
use Rattle.theory_lists.specs.Members.{Stands}
use Rattle.theory_lists.specs.Parity.{is_odd_number}
use Rattle.theory_lists.proofs.Members.{all_follow}
use Rattle.theory_lists.proofs.Parity.{odd_where_same}
use Rattle.theory_numbers.specs.Arrows.{Arrow, cross}
use Rattle.theory_numbers.specs.Rationals.{IsRational, IsBelow, IsAtMost}
use Rattle.theory_numbers.specs.Rationals.{is_below, is_at_most}
use Rattle.theory_numbers.proofs.Signs.{test_less, test_not_less, test_at_most, test_not_at_most}
use Rattle.theory_numbers.proofs.Vectors.Arrows.{cross-turn}
use Rattle.theory_numbers.proofs.Fractions.Rationals.{at_most_trans, at_most_refl, at_most_from_below}
use Rattle.theory_numbers.proofs.Fractions.Rationals.{at_most_below_trans, below_at_most_trans}
use Rattle.theory_cuttings.specs.Ends.{IsEnd, IsAfter}
use Rattle.theory_cuttings.specs.Cuttings.{IsCutting, HasNoOddPoint}
use Rattle.theory_cuttings.specs.Columns.{is_odd_below, is_odd_up_to, Rise, IsOneOf}
use Rattle.theory_cuttings.specs.Columns.{HaveAllValues, HasLabelOfPresent, SeesBetween}
use Rattle.theory_cuttings.specs.Columns.{present_after, column_of}

-- ---- tests of two numbers

below_answers : (t v : Arrow) → IsBelow t v → is_below t v ≡ true
below_answers t v low = test_less (pos 0) (cross t v) low

not_below_answers : (t v : Arrow) → IsAtMost v t → is_below t v ≡ false
not_below_answers t v high =
    let turn = cross-turn v t in test_not_less (pos 0) (cross t v) (omega (arith, ints))

at_most_answers : (t v : Arrow) → IsAtMost t v → is_at_most t v ≡ true
at_most_answers t v low = test_at_most (pos 0) (cross t v) low

not_at_most_answers : (t v : Arrow) → IsBelow v t → is_at_most t v ≡ false
not_at_most_answers t v high =
    let turn = cross-turn v t in test_not_at_most (pos 0) (cross t v) (omega (arith, ints))

-- ---- a value lies at the end or below it, or is one of the numbers to come

abbrev IsBehind : Arrow → Option Arrow → Type 0
IsBehind t None = ⊥
IsBehind t (Some a) = IsAtMost t a

abbrev IsPlaced : Option Arrow → List Arrow → Arrow → Type 0
IsPlaced low ts t = IsRational t × (IsBehind t low ⊎ IsOneOf t ts)

-- once the first of these is passed
placed_on : (low : Option Arrow) (s : Arrow) (ss : List Arrow) → IsEnd low
    → Rise low (s ∷ ss) → (t : Arrow) → IsPlaced low (s ∷ ss) t → IsPlaced (Some s) ss t
placed_on low s ss low_in rise t (t_in, inl behind) = (t_in, inl (passed low low_in rise.1 behind))
  where
    passed : (end : Option Arrow) → IsEnd end → IsAfter end s → IsBehind t end → IsAtMost t s
    passed None end_in after behind = absurd behind
    passed (Some a) end_in after behind =
        at_most_from_below t s (at_most_below_trans t a s t_in end_in rise.0.positive behind after)
placed_on low s ss low_in rise t (t_in, inr (r, (inl here), same)) =
    (t_in, inl (subst (IsAtMost t) here (omega (arith, ints, same))))
placed_on low s ss low_in rise t (t_in, inr (r, (inr later), same)) =
    (t_in, inr (r, later, same))

-- the first of rising numbers is the least
least_first : (low : Option Arrow) (s : Arrow) (ss : List Arrow) → Rise low (s ∷ ss)
    → (r : Arrow) → Stands r (s ∷ ss) → IsAtMost s r × IsRational r
least_first low s ss rise r (inl here) =
    (subst (IsAtMost s) (sym here) (at_most_refl s), subst IsRational (sym here) rise.0.positive)
least_first low s [] rise r (inr later) = absurd later
least_first low s (u ∷ us) rise r (inr later) =
    let behind = least_first (Some s) u us rise.2 r later in (
      at_most_from_below s r
          (below_at_most_trans s u r rise.0.positive rise.2.0.positive behind.1 rise.2.1 behind.0),
      behind.1,
    )

-- whether a value is behind
abbrev is_behind : Arrow → Option Arrow → Bool
is_behind t None = false
is_behind t (Some a) = is_at_most t a

-- v lies at the first number or before it
abbrev IsUpToFirst : Arrow → List Arrow → Type 0
IsUpToFirst v [] = Unit {0}
IsUpToFirst v (s ∷ ss) = IsAtMost v s

-- v lies before it
abbrev IsBeforeFirst : Arrow → List Arrow → Type 0
IsBeforeFirst v [] = Unit {0}
IsBeforeFirst v (s ∷ ss) = IsBelow v s

up_to_first : (v : Arrow) (ts : List Arrow) → IsBeforeFirst v ts → IsUpToFirst v ts
up_to_first v [] first = tt
up_to_first v (s ∷ ss) first = at_most_from_below v s first

-- a value that is ahead of a number above the end is not behind it
not_behind : (low : Option Arrow) (t v : Arrow) → IsEnd low → IsRational t → IsRational v
    → IsAfter low v → IsAtMost v t → is_behind t low ≡ false
not_behind None t v low_in t_in v_in after ahead = refl
not_behind (Some a) t v low_in t_in v_in after ahead =
    not_at_most_answers t a (below_at_most_trans a v t low_in v_in t_in after ahead)

-- a value that is behind lies below the number
behind_is_below : (low : Option Arrow) (t v : Arrow) → IsEnd low → IsRational t → IsRational v
    → IsAfter low v → IsBehind t low → IsBelow t v × (is_behind t low ≡ true)
behind_is_below None t v low_in t_in v_in after behind = absurd behind
behind_is_below (Some a) t v low_in t_in v_in after behind =
    (at_most_below_trans t a v t_in low_in v_in behind after, at_most_answers t a behind)

-- a value that is one of the numbers lies at the first or behind it
ahead_of_first : (low : Option Arrow) (s : Arrow) (ss : List Arrow) (t : Arrow)
    → Rise low (s ∷ ss) → IsRational t → IsOneOf t (s ∷ ss) → IsAtMost s t
ahead_of_first low s ss t rise t_in (r, stands, same) =
    let least = least_first low s ss rise r stands in
    let turn = cross-turn t r in
    at_most_trans s r t rise.0.positive least.1 t_in least.0 (omega (arith, ints, same))

-- up to the first number the values below are those behind
placed_below : (low : Option Arrow) (ts : List Arrow) (v t : Arrow) → IsEnd low → Rise low ts
    → IsRational v → IsAfter low v → IsUpToFirst v ts → IsPlaced low ts t
    → is_below t v ≡ is_behind t low
placed_below low ts v t low_in rise v_in after first (t_in, inl behind) =
    let at = behind_is_below low t v low_in t_in v_in after behind in
    below_answers t v at.0 ∙ sym at.1
placed_below low [] v t low_in rise v_in after first (t_in, inr (r, stands, same)) = absurd stands
placed_below low (s ∷ ss) v t low_in rise v_in after first (t_in, inr one) =
    let ahead =
    at_most_trans v s t v_in rise.0.positive t_in first (ahead_of_first low s ss t rise t_in one)
    in
    not_below_answers t v ahead ∙ sym (not_behind low t v low_in t_in v_in after ahead)

-- before it those at v too
placed_up_to : (low : Option Arrow) (ts : List Arrow) (v t : Arrow) → IsEnd low → Rise low ts
    → IsRational v → IsAfter low v → IsBeforeFirst v ts → IsPlaced low ts t
    → is_at_most t v ≡ is_behind t low
placed_up_to low ts v t low_in rise v_in after first (t_in, inl behind) =
    let at = behind_is_below low t v low_in t_in v_in after behind in
    at_most_answers t v (at_most_from_below t v at.0) ∙ sym at.1
placed_up_to low [] v t low_in rise v_in after first (t_in, inr (r, stands, same)) = absurd stands
placed_up_to low (s ∷ ss) v t low_in rise v_in after first (t_in, inr one) =
    let ahead =
    below_at_most_trans v s t v_in rise.0.positive t_in first
    (ahead_of_first low s ss t rise t_in one)
    in
    not_at_most_answers t v ahead
    ∙ sym (not_behind low t v low_in t_in v_in after (at_most_from_below v t ahead))

-- ---- the label between two numbers, and at one

module _ {L Q : Type 0} (f : Arrow → L) (label : (Q → Bool) → L) (values : Q → List Arrow)
    (has : HasLabelOfPresent f label values) where
  -- the products that are present just after the end
  abbrev present_from : Option Arrow → Q → Bool
  present_from low q = is_odd_number (λ t. is_behind t low) (values q)

  -- the values of all products are placed
  abbrev ArePlaced : Option Arrow → List Arrow → Type 0
  ArePlaced low ts = (q : Q) → AllByRecursion (IsPlaced low ts) (values q)

  odd_below : (low : Option Arrow) (ts : List Arrow) (v : Arrow) → IsEnd low → Rise low ts
      → IsRational v → IsAfter low v → IsUpToFirst v ts → ArePlaced low ts → (q : Q)
      → is_odd_below (values q) v ≡ present_from low q
  odd_below low ts v low_in rise v_in after first placed q =
      odd_where_same (λ t. is_below t v) (λ t. is_behind t low) (values q)
      (all_follow (λ t at. placed_below low ts v t low_in rise v_in after first at) (values q)
      (placed q))

  odd_up_to : (low : Option Arrow) (ts : List Arrow) (v : Arrow) → IsEnd low → Rise low ts
      → IsRational v → IsAfter low v → IsBeforeFirst v ts → ArePlaced low ts → (q : Q)
      → is_odd_up_to (values q) v ≡ present_from low q
  odd_up_to low ts v low_in rise v_in after first placed q =
      odd_where_same (λ t. is_at_most t v) (λ t. is_behind t low) (values q)
      (all_follow (λ t at. placed_up_to low ts v t low_in rise v_in after first at) (values q)
      (placed q))

  -- between the end and the first number
  label_between : (low : Option Arrow) (ts : List Arrow) (v : Arrow) → IsEnd low → Rise low ts
      → IsRational v → IsAfter low v → IsBeforeFirst v ts → ArePlaced low ts
      → f v ≡ label (present_from low)
  label_between low ts v low_in rise v_in after first placed =
      has.label_is v v_in ∙ ap label (λ i q. at q i)
    where
      at : (q : Q) → has.is_present v q ≡ present_from low q
      at q =
          let below =
          odd_below low ts v low_in rise v_in after (up_to_first v ts first) placed q
          in
          has.present_is v v_in q
          (below ∙ sym (odd_up_to low ts v low_in rise v_in after first placed q))
          ∙ below

  placed_behind : (low : Option Arrow) (s : Arrow) (ss : List Arrow) → IsEnd low
      → Rise low (s ∷ ss) → ArePlaced low (s ∷ ss) → ArePlaced (Some s) ss
  placed_behind low s ss low_in rise placed q =
      all_follow (placed_on low s ss low_in rise) (values q) (placed q)

  -- from an end on
  column_from : (low : Option Arrow) (ts : List Arrow) → IsEnd low → Rise low ts
      → ArePlaced low ts
      → IsCutting f low None (label (present_from low)) (column_of label values ts)
  column_from None [] low_in rise placed =
      (tt, λ v v_in after before. label_between None [] v tt tt v_in tt tt placed)
  column_from (Some a) [] low_in rise placed =
      (tt, λ v v_in after before. label_between (Some a) [] v low_in tt v_in after tt placed)
  column_from low (s ∷ ss) low_in rise placed = (
    rise.0,
    rise.1,
    λ v v_in after before. label_between low (s ∷ ss) v low_in rise v_in after before placed,
    column_from (Some s) ss rise.0.positive rise.2 (placed_behind low s ss low_in rise placed),
  )

  -- where the label is one on both sides of a value, it is so at the value
  column_is_even : SeesBetween label → (low : Option Arrow) (ts : List Arrow) → IsEnd low
      → Rise low ts → ArePlaced low ts
      → HasNoOddPoint f (label (present_from low)) (column_of label values ts)
  column_is_even between low [] low_in rise placed = tt
  column_is_even between low (s ∷ ss) low_in rise placed = (
    λ same.
        has.label_is s rise.0.positive
        ∙ between (present_from low) (has.is_present s) (present_after values s)
        (λ q alike.
        let below =
        odd_below low (s ∷ ss) s low_in rise rise.0.positive rise.1 (at_most_refl s) placed q
        in
        has.present_is s rise.0.positive q (below ∙ alike) ∙ below) same,
    column_is_even between (Some s) ss rise.0.positive rise.2
        (placed_behind low s ss low_in rise placed),
  )

  all_ahead : (ts : List Arrow) → HaveAllValues values ts → ArePlaced None ts
  all_ahead ts have q = all_follow (λ t at. (at.0, inr at.1)) (values q) (have q)

  nothing_behind : (q : Q) → present_from None q ≡ false
  nothing_behind q = none (values q)
    where
      none : (ts : List Arrow) → is_odd_number (λ t. false) ts ≡ false
      none [] = refl
      none (t ∷ ts) = none ts

  -- the column is a cutting of the whole line
  pub column_is : (ts : List Arrow) → Rise None ts → HaveAllValues values ts
      → IsCutting f None None (label (λ q. false)) (column_of label values ts)
  column_is ts rise have =
      subst (λ first. IsCutting f None None first (column_of label values ts))
      (ap label (λ i q. nothing_behind q i)) (column_from None ts tt rise (all_ahead ts have))

  -- and has no odd point
  pub column_has_no_odd_point : SeesBetween label → (ts : List Arrow) → Rise None ts
      → HaveAllValues values ts
      → HasNoOddPoint f (label (λ q. false)) (column_of label values ts)
  column_has_no_odd_point between ts rise have =
      subst (λ first. HasNoOddPoint f first (column_of label values ts))
      (ap label (λ i q. nothing_behind q i))
      (column_is_even between None ts tt rise (all_ahead ts have))

  -- ---- from a number on

  -- each value of each product lies at the number or below it, or is one of those to come
  abbrev pub AreBehindOrAhead : Arrow → List Arrow → Type 0
  AreBehindOrAhead low ts =
      (q : Q) → AllByRecursion (λ t. IsRational t × (IsAtMost t low ⊎ IsOneOf t ts)) (values q)

  -- the column of the values above a number is a cutting from there on; its first label is that of
  -- the products which are present just after the number
  pub column_after : (low : Arrow) → IsRational low → (ts : List Arrow) → Rise (Some low) ts
      → AreBehindOrAhead low ts
      → IsCutting f (Some low) None (label (present_after values low)) (column_of label values ts)
  column_after low low_in ts rise placed = column_from (Some low) ts low_in rise placed

  -- and has no odd point
  pub column_after_has_no_odd_point : SeesBetween label → (low : Arrow) → IsRational low
      → (ts : List Arrow) → Rise (Some low) ts → AreBehindOrAhead low ts
      → HasNoOddPoint f (label (present_after values low)) (column_of label values ts)
  column_after_has_no_odd_point between low low_in ts rise placed =
      column_is_even between (Some low) ts low_in rise placed
