-- The table finds each instance by its number, and no other; it has a number as often as the file.
use Rattle.sb_step.proofs.Names.{◌≡◌, ℕ, ◌+◌, ◌-◌, ◌%◌, ◌<◌, ◌≤◌, Bool, eqb, cond, List, [], ◌∷◌, ◌++◌, map, length, take, zero, suc, Some, None, refl, sym, ap, ◌∙◌, subst, ⊎_elim, get_or, arith, ◌≢◌, nat_eq, option_map, All, count_by, lookup, mod-eq_of_lt, cases_Bool, eqb-true, eq-eqb, cases_lt, cond-true, cond-false, get_or-map, length-map, sum_by-IsPermutation, length_permutation, All-permutation, Record, Place, Row, numbers_of, uses, IsUsedTwice, AreApart, IsLeastTwice, IsGreatestUsed, IsGreatest, place_at, row_of, numbered_from, IsTable, AreUnlike, IsFirstTwice, IsLast, IsRowOf, true}
use Rattle.sb_step.specs.declared.step_file.records.Form.TheVariants as form
use Rattle.sb_step.specs.Records.Table.{place_of}
use Rattle.sb_step.proofs.Records.PlacesOfItems.{count_by-cons, passes_at, passes_at_two, place_counts, two_places_count}

-- numbers and rows

-- each number as often
numbered-uses : (q i : ℕ) (instances : List (ℕ × Record))
    → count_by (λ row. eqb row.number q) (numbered_from i (numbers_of instances))
    ≡ uses q instances
numbered-uses q i [] = refl
numbered-uses q i (x ∷ later) =
    count_by-cons (λ (row : Row). eqb row.number q) (row_of x.0 i)
    (numbered_from (i + 1) (numbers_of later))
    ∙ ap (λ k. cond (eqb x.0 q) 1 0 + k) (numbered-uses q (i + 1) later)
    ∙ sym (count_by-cons (λ (j : ℕ × Record). eqb j.0 q) x later)

length-numbered : (i : ℕ) (numbers : List ℕ) → length (numbered_from i numbers) ≡ length numbers
length-numbered i [] = refl
length-numbered i (n ∷ numbers) = ap suc (length-numbered (i + 1) numbers)

numbered_take : (i at : ℕ) (numbers : List ℕ) → at < length numbers
    → numbered_from i (take (suc at) numbers)
    ≡ numbered_from i (take at numbers) ++ row_of (get_or numbers at 0) (i + at) ∷ []
numbered_take i at [] within = absurd (omega arith)
numbered_take i zero (n ∷ numbers) within =
    let same : i ≡ i + 0 = omega arith in
    ap (λ k. row_of n k ∷ []) same
numbered_take i (suc at) (n ∷ numbers) within =
    let same : i + 1 + at ≡ i + suc at = omega arith in
    ap (λ l. row_of n i ∷ l) (numbered_take (i + 1) at numbers (omega arith)
    ∙ ap (λ k. numbered_from (i + 1) (take at numbers) ++ row_of (get_or numbers at 0) k ∷ []) same)

-- one number more is one row more
pub numbered_more : (at : ℕ) (numbers : List ℕ) → at < length numbers → (row : Row)
    → row ≡ row_of (get_or numbers at 0) at
    → numbered_from 0 (take at numbers) ++ row ∷ [] ≡ numbered_from 0 (take (at + 1) numbers)
numbered_more at numbers within row is =
    let same : 0 + at ≡ at = omega arith in
    let next : suc at ≡ at + 1 = omega arith in
    ap (λ r. numbered_from 0 (take at numbers) ++ r ∷ [])
    (is ∙ ap (row_of (get_or numbers at 0)) (sym same))
    ∙ sym (numbered_take 0 at numbers within)
    ∙ ap (λ k. numbered_from 0 (take k numbers)) next

-- a row tells an instance that has its number, the first being this one
abbrev Tells : List ℕ → ℕ → Row → Type 0
Tells numbers i row =
    (j : ℕ) × (j < length numbers) × (get_or numbers j 0 ≡ row.number)
    × (row.at ≡ (i + j) % 4294967296)

numbered_tell : (i : ℕ) (numbers : List ℕ) → All (Tells numbers i) (numbered_from i numbers)
numbered_tell i [] k d within = absurd (omega arith)
numbered_tell i (n ∷ numbers) zero d within =
    let same : i ≡ i + 0 = omega arith in
    (0, omega arith, refl, ap (λ m. m % 4294967296) same)
numbered_tell i (n ∷ numbers) (suc k) d within =
    let later = numbered_tell (i + 1) numbers k d (omega arith) in
    let same : i + 1 + later.0 ≡ i + suc later.0 = omega arith in
    (suc later.0, omega (arith, later.1), later.2, later.3 ∙ ap (λ m. m % 4294967296) same)

-- a look-up in the instances

module _ (n : ℕ) where
  -- the one that has the number, where no second has
  pub lookup_one : (instances : List (ℕ × Record)) (j : ℕ) (d : ℕ × Record)
      → j < length instances → uses n instances ≤ 1 → (get_or instances j d).0 ≡ n
      → lookup (nat_eq n) instances ≡ Some (get_or instances j d).1
  lookup_one [] j d within one has = absurd (omega arith)
  lookup_one (i ∷ later) zero d within one has =
      cond-true (eqb n i.0) (Some i.1) (lookup (nat_eq n) later) (eq-eqb n i.0 (sym has))
  lookup_one (i ∷ later) (suc j) d within one has =
      let more = place_counts (λ (k : ℕ × Record). eqb k.0 n) later j d (omega arith)
      (eq-eqb (get_or later j d).0 n has) in
      let count = count_by-cons (λ (k : ℕ × Record). eqb k.0 n) i later in
      ⊎_elim
      (λ same. let here : eqb i.0 n ≡ true = eq-eqb i.0 n (sym (eqb-true n i.0 same)) in
      let two : uses n (i ∷ later) ≡ 1 + uses n later =
      count ∙ ap (λ b. cond b 1 0 + uses n later) here in
      absurd (omega (arith, two, more, one)))
      (λ other. cond-false (eqb n i.0) (Some i.1) (lookup (nat_eq n) later) other
      ∙ lookup_one later j d (omega arith) (omega (arith, count, one)) has)
      (cases_Bool (eqb n i.0))

  -- none, where none has it
  pub lookup_none : (instances : List (ℕ × Record)) → uses n instances ≡ 0
      → lookup (nat_eq n) instances ≡ None
  lookup_none [] none = refl
  lookup_none (i ∷ later) none =
      let count = count_by-cons (λ (k : ℕ × Record). eqb k.0 n) i later in
      ⊎_elim
      (λ same. let here : eqb i.0 n ≡ true = eq-eqb i.0 n (sym (eqb-true n i.0 same)) in
      let more : uses n (i ∷ later) ≡ 1 + uses n later =
      count ∙ ap (λ b. cond b 1 0 + uses n later) here in
      absurd (omega (arith, more, none)))
      (λ other. cond-false (eqb n i.0) (Some i.1) (lookup (nat_eq n) later) other
      ∙ lookup_none later (omega (arith, count, none)))
      (cases_Bool (eqb n i.0))

-- the table

module _ (instances : List (ℕ × Record)) (rows : List Row)
    (t : IsTable (numbers_of instances) rows) where
  abbrev none : Row
  none = row_of 0 0

  abbrev number : ℕ → ℕ
  number k = (get_or rows k none).number

  abbrev has : ℕ → Row → Bool
  has q row = eqb row.number q

  rows-uses : (q : ℕ) → count_by (has q) rows ≡ uses q instances
  rows-uses q =
      sum_by-IsPermutation (λ row. cond (has q row) 1 0)
      (numbered_from 0 (numbers_of instances)) rows t.are ∙ numbered-uses q 0 instances

  rises : (i j : ℕ) → i ≤ j → j < length rows → number i ≤ number j
  rises i j le within = t.rises i j none le within

  -- a number at two places stands at the second and right before it
  neighbours : (i j : ℕ) → i < j → j < length rows → number i ≡ number j
      → number (j - 1) ≡ number j
  neighbours i j less within same =
      omega (
        arith,
        same,
        rises i (j - 1) (omega arith) (omega arith),
        rises (j - 1) j (omega arith) within,
      )

  -- two rows have the number, so two neighbours have it, the second at this place
  at_neighbours : (q : ℕ) → IsUsedTwice q instances
      → (j : ℕ) × (0 < j) × (j < length rows) × (number (j - 1) ≡ number j) × (number j ≡ q)
  at_neighbours q twice =
      let two = passes_at_two (has q) rows none (omega (arith, twice, rows-uses q)) in
      let low = eqb-true (number two.low) q two.at_low in
      let high = eqb-true (number two.high) q two.at_high in (
        two.high,
        omega (arith, two.ordered),
        two.within,
        neighbours two.low two.high two.ordered two.within (low ∙ sym high),
        high,
      )

  -- where neighbours are unlike, numbers are apart
  unlike_apart : (end j : ℕ) → AreUnlike end rows → 0 < j → j < end
      → number (j - 1) ≡ number j → ⊥
  unlike_apart end j unlike some within same =
      let next : j - 1 + 1 ≡ j = omega arith in
      unlike (j - 1) none (omega arith) (same ∙ ap number (sym next))

  pub apart_from : AreUnlike (length rows) rows → AreApart instances
  apart_from unlike q = ⊎_elim
      (λ more. let at = at_neighbours q (omega (arith, more)) in
      absurd (unlike_apart (length rows) at.0 unlike at.1 at.2 at.3))
      (λ few. few)
      (cases_lt 1 (uses q instances))

  -- the first number that is seen twice is the least
  pub least_from : (n : ℕ) → IsFirstTwice n rows → IsLeastTwice n instances
  least_from n first = record {
    twice = let two = two_places_count (has n) rows (first.at - 1) first.at none
        (let some = first.later in omega (arith, some)) first.within
        (eq-eqb (number (first.at - 1)) n (first.before none))
        (eq-eqb (number first.at) n (first.here none)) in
        omega (arith, two, rows-uses n);
    least = λ m twice. let at = at_neighbours m twice in ⊎_elim
        (λ early. absurd (unlike_apart first.at at.0 first.unlike at.1 early at.3))
        (λ late. omega (
          arith,
          first.here none,
          at.4,
          rises first.at at.0 late at.2,
        ))
        (cases_lt at.0 first.at);
  }

  length-rows : length rows ≡ length instances
  length-rows =
      length_permutation (numbered_from 0 (numbers_of instances)) rows t.are
      ∙ length-numbered 0 (numbers_of instances)
      ∙ length-map instances (λ i. i.0)

  rows_tell : All (Tells (numbers_of instances) 0) rows
  rows_tell =
      All-permutation (Tells (numbers_of instances) 0) (numbered_from 0 (numbers_of instances))
      rows t.are (numbered_tell 0 (numbers_of instances))

  -- there are no more rows than numbers of 32 bits
  climbs : AreUnlike (length rows) rows → (k : ℕ) → k < length rows → k ≤ number k
  climbs unlike zero within = omega arith
  climbs unlike (suc k) within =
      let below = climbs unlike k (omega arith) in
      let le = rises k (suc k) (omega arith) within in
      let apart = unlike k none (omega arith) in
      ⊎_elim
      (λ less. omega (arith, less, below))
      (λ not_less. let next : k + 1 ≡ suc k = omega arith in
      let level : number k ≡ number (suc k) = omega (arith, le, not_less) in
      absurd (apart (level ∙ ap number (sym next))))
      (cases_lt (number k) (number (suc k)))

  few_rows : AreUnlike (length rows) rows → length rows ≤ 4294967296
  few_rows unlike = ⊎_elim
      (λ some. let k = length rows - 1 in
      let tells = rows_tell k none (omega arith) in
      omega (arith, climbs unlike k (omega arith), tells.2, t.below tells.0))
      (λ empty. omega (arith, empty))
      (cases_lt 0 (length rows))

  -- where numbers are apart, neighbours are unlike
  pub unlike_from : AreApart instances → AreUnlike (length rows) rows
  unlike_from apart k d within same =
      let q = (get_or rows k d).number in
      let two = two_places_count (has q) rows k (k + 1) d (omega arith) within (eq-eqb q q refl)
      (eq-eqb (get_or rows (k + 1) d).number q (sym same)) in
      omega (arith, two, rows-uses q, apart q)

  -- what a row tells
  told : (n i : ℕ) → AreUnlike (length rows) rows → IsRowOf rows n i
      → (i < length instances) × (get_or (numbers_of instances) i 0 ≡ n)
  told n i unlike row =
      let tells = rows_tell row.at none row.within in
      let at : row_of 0 (0 + tells.0) ≡ row_of 0 tells.0 =
      let none_more : 0 + tells.0 ≡ tells.0 = omega arith in ap (row_of 0) none_more in
      let small : tells.0 < 4294967296 =
      omega (arith, few_rows unlike, length-rows, tells.1, length-map instances (λ x. x.0)) in
      let same : i ≡ tells.0 =
      sym (row.instance_ none) ∙ tells.3 ∙ ap (λ r. r.at) at ∙ mod-eq_of_lt small in (
        omega (arith, same, tells.1, length-map instances (λ x. x.0)),
        ap (λ k. get_or (numbers_of instances) k 0) same ∙ tells.2 ∙ row.number none,
      )

  -- an instance that has the number of a row stands where the row tells
  pub found_place : AreApart instances → (n i : ℕ) → IsRowOf rows n i → (places : List Place)
      → places ≡ map (λ x. place_of x.1) instances → (d : Place)
      → (i < length places) × (Some (get_or places i d) ≡ place_at instances n)
  found_place apart n i row places are d =
      let tells = told n i (unlike_from apart) row in
      let some : ℕ × Record = (0, record { start = 0; end = 0; form = form.Complex }) in
      let named = sym (get_or-map (λ (x : ℕ × Record). x.0) instances i some 0 tells.0) ∙ tells.1 in
      let stands : get_or places i d ≡ place_of (get_or instances i some).1 =
      ap (λ l. get_or l i d) are
      ∙ get_or-map (λ (x : ℕ × Record). place_of x.1) instances i some d tells.0 in
      let long : length places ≡ length instances =
      ap length are ∙ length-map instances (λ x. place_of x.1) in (
        omega (arith, tells.0, long),
        ap Some stands
            ∙ sym (ap (option_map place_of) (lookup_one n instances i some tells.0 (apart n) named)),
      )

  -- where no row has the number, no instance has it
  pub missing_place : (n : ℕ) → All (λ row. row.number ≢ n) rows → place_at instances n ≡ None
  missing_place n missing = ⊎_elim
      (λ some. let at = passes_at (has n) rows none (omega (arith, some, rows-uses n)) in
      absurd (missing at.0 none at.1 (eqb-true (number at.0) n at.2)))
      (λ no. ap (option_map place_of) (lookup_none n instances (omega (arith, no))))
      (cases_lt 0 (uses n instances))

  -- no instance has a greater number than the last row
  last_is_greatest : (last : ℕ) → suc last ≡ length rows → IsGreatestUsed (number last) instances
  last_is_greatest last is = record {
    used = let some = place_counts (has (number last)) rows last none (omega (arith, is))
        (eq-eqb (number last) (number last) refl) in
        omega (arith, some, rows-uses (number last));
    greatest = λ m used.
        let at = passes_at (has m) rows none (omega (arith, used, rows-uses m)) in
        omega (
          arith,
          eqb-true (number at.0) m at.2,
          rises at.0 last (omega (arith, is, at.1)) (omega (arith, is)),
        );
  }

-- the last number is the greatest
pub greatest_from : (instances : List (ℕ × Record)) (rows : List Row)
    → IsTable (numbers_of instances) rows → (n : ℕ) → IsLast n rows → IsGreatest n instances
greatest_from [] [] t n last = last
greatest_from [] (row ∷ rows) t n last = absurd (omega (arith, length-rows [] (row ∷ rows) t))
greatest_from (i ∷ later) [] t n last = absurd (omega (arith, length-rows (i ∷ later) [] t))
greatest_from (i ∷ later) (row ∷ rows) t n last =
    subst (λ k. IsGreatestUsed k (i ∷ later)) (last (row_of 0 0))
    (last_is_greatest (i ∷ later) (row ∷ rows) t (length rows) refl)
