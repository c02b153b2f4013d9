-- What a search by halving answers: a row with the number, or that none has it.
use Rattle.sb_step.proofs.Names.{◌≡◌, ℕ, ◌<◌, ◌≤◌, List, length, Ok, Err, ap, ⊎_elim, get_or, arith, ◌≢◌, nat_cmp, ordering_index, All, IsBinarySearchResult, cases_lt, get_or_default, take, drop, length-take-le, length-drop, get_or-take, get_or-drop, ◌+◌, ◌-◌, ◌∙◌, sym, subst, Row, Rises, IsRowOf}
use Rattle.std.specs.declared.cmp.Ordering.TheVariants as ordering

-- numbers that compare as equal are one
equal_number : (a b : ℕ) → nat_cmp a b ≡ ordering.Equal → a ≡ b
equal_number a b e = grind (arith, e)

less_number : (a b : ℕ) → nat_cmp a b ≡ ordering.Less → a < b
less_number a b e = grind (arith, e)

greater_number : (a b : ℕ) → nat_cmp a b ≡ ordering.Greater → b < a
greater_number a b e = grind (arith, e)

higher : (a b n : ℕ) → a ≤ b → ordering_index (nat_cmp a n) ≤ ordering_index (nat_cmp b n)
higher a b n le = grind (arith)

abbrev none : Row
none = record { number = 0; at = 0 }

module _ (rows : List Row) (n : ℕ) where
  -- a row that compares as equal has the number
  pub equal_is : (at : ℕ) → at < length rows
      → IsBinarySearchResult (λ row. nat_cmp row.number n) rows (Ok at)
      → IsRowOf rows n (get_or rows at none).at
  equal_is at within found = record {
    at = at;
    within = within;
    number = λ d. equal_number (get_or rows at d).number n (found d);
    instance_ = λ d. ap (λ (row : Row). row.at) (get_or_default rows at d none within);
  }

  -- where the search answers a place between two rows, no row has it
  pub none_equal : (place : ℕ) → Rises rows
      → IsBinarySearchResult (λ row. nat_cmp row.number n) rows (Err place)
      → All (λ row. row.number ≢ n) rows
  none_equal place rises found k d within same =
      let parts = found (λ i j e le high. higher (get_or rows i e).number (get_or rows j e).number n
      (rises i j e le high)) in
      ⊎_elim
      (λ low. let less = less_number (get_or rows k d).number n (parts.0 k d (omega arith) low) in
      omega (arith, less, same))
      (λ high. let more = greater_number (get_or rows k d).number n (parts.1 k d high within) in
      omega (arith, more, same))
      (cases_lt k place)

-- so does one of the rows from here up to before there
module _ (rows : List Row) (n from end : ℕ) where
  abbrev some : List Row
  some = take (end - from) (drop from rows)

  pub equal_near : (at : ℕ) → end ≤ length rows → from ≤ end → at < length some
      → IsBinarySearchResult (λ row. nat_cmp row.number n) some (Ok at)
      → IsRowOf rows n (get_or some at none).at
  equal_near at within apart below found =
      let long = length-take-le (end - from) (drop from rows) (omega (arith, within, apart, length-drop from rows)) in
      let near : at < end - from = omega (arith, below, long) in
      let is = λ (d : Row). get_or-take (end - from) (drop from rows) at d near ∙ get_or-drop from rows at d in
      record {
        at = from + at;
        within = omega (arith, near, within, apart);
        number = λ d. subst (λ (row : Row). row.number ≡ n) (is d) (equal_number (get_or some at d).number n (found d));
        instance_ = λ d. ap (λ (row : Row). row.at)
            (get_or_default rows (from + at) d none (omega (arith, near, within, apart)) ∙ sym (is none));
      }
