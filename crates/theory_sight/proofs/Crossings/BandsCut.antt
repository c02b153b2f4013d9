-- The bands of a layered element cut its extent: strictly between two ends every position has the
-- layer of its band, and neighbouring bands have different layers.
use Rattle.std.proofs.Common.{◌≡◌, refl, sym, ap, ◌∙◌, arith, subst, ℕ, ◌+◌, ◌<◌, ◌==◌}
use Rattle.std.proofs.Common.{ℤ, pos, ◌+ℤ◌, ◌-ℤ◌, ◌*ℤ◌, ◌<ℤ◌, ◌≤ℤ◌, Bool, true, false, cond, ◌&&◌}
use Rattle.std.proofs.Common.{int_lt, int_le, nat_lt, nat_le, List, [], ◌∷◌, Some}
use Rattle.std.proofs.lemmas.Int.{ints}
use Rattle.std.proofs.lemmas.Bool.{and_parts, ltb-true, leb-true, eq-eqb}
use Rattle.std.specs.List.{find}
use Rattle.theory_numbers.specs.Arrows.{Arrow, cross}
use Rattle.theory_numbers.specs.Rationals.{IsRational, IsBelow, IsSame, rational}
use Rattle.theory_numbers.specs.Fractions.{reduced}
use Rattle.theory_numbers.proofs.Shapes.{var, num, plus, minus, times, equal, cross_by}
use Rattle.theory_numbers.proofs.Vectors.Arrows.{cross-turn}
use Rattle.theory_numbers.proofs.Signs.{test_less, test_not_less, test_at_most, not_less_from}
use Rattle.theory_numbers.proofs.Products.{positive_product}
use Rattle.theory_numbers.proofs.Fractions.Rationals.{below_trans, at_most_below_trans, below_at_most_trans}
use Rattle.theory_numbers.proofs.Fractions.LowestTerms.{reduced_is_same, reduced_is_lowest, lowest_is_reduced}
use Rattle.theory_cuttings.specs.Cuttings.{IsFraction, IsCutting, AreDifferent}
use Rattle.sb_model.specs.declared.layers.Layer.{Layer}
use Rattle.sb_model.specs.Building.{are_layers, greatest_thickness}
use Rattle.sb_model.specs.Labels.{layer_from, total_of}
use Rattle.theory_sight.specs.Bands.{fraction, band_ends}

-- a reduced fraction is the same number
pub fraction_is_same : (num den : ℤ) → pos 0 <ℤ den → IsSame (fraction num den) (rational num den)
unfolding cross
fraction_is_same num den den_in = let same = reduced_is_same num den den_in in omega (arith, ints)

-- in lowest terms
pub fraction_is_reduced : (num den : ℤ) → pos 0 <ℤ den → IsFraction (fraction num den)
fraction_is_reduced num den den_in =
    lowest_is_reduced (reduced num den) (reduced_is_lowest num den den_in)

-- ---- layers

-- a layer that stands right is not thin, and its index is above the one before
pub layer_is : (before : ℕ) (l : Layer) (ls : List Layer) → are_layers before (l ∷ ls) ≡ true
    → (0 < l.micro) × (are_layers l.index ls ≡ true) × (before < l.index)
layer_is before l ls right =
    let one = and_parts _ (are_layers l.index ls) right in
    let two = and_parts _ (nat_le l.micro greatest_thickness) one.0 in
    let three = and_parts (nat_lt before l.index) (nat_le 1 l.micro) two.0 in
    (leb-true 1 l.micro three.1, one.1, ltb-true before l.index three.0)

-- a layer with this index is among the layers
abbrev pub IsFound : ℕ → List Layer → Type 0
IsFound index layers = (l : Layer) × (find (λ k. k.index == index) layers ≡ Some l)

found_first : (l : Layer) (ls : List Layer) (n : ℕ) → n ≡ l.index → IsFound n (l ∷ ls)
found_first l ls n same =
    (l, ap (λ b. cond b (Some l) (find (λ k. k.index == n) ls)) (eq-eqb l.index n (sym same)))

found_later : (l : Layer) (ls : List Layer) (n : ℕ) → IsFound n ls → IsFound n (l ∷ ls)
found_later l ls n (k, found) = by (l.index == n)
  where
    by : (b : Bool)
        → (j : Layer) × (cond b (Some l) (find (λ k. k.index == n) ls) ≡ Some j)
    by true = (l, refl)
    by false = (k, found)

-- ---- readings and bands

module _ (low extent : ℤ) (total : ℕ) (wide : pos 0 <ℤ extent) (some : 0 < total) where
  -- the reading of a position less the low end, times the sum of the layers
  abbrev pub at : Arrow → ℤ
  at v = (v.y -ℤ (low *ℤ v.x)) *ℤ pos total

  -- the extent, times the denominator
  abbrev pub size : Arrow → ℤ
  size v = extent *ℤ v.x

  -- the end of a band behind layers that are so thick
  abbrev pub end_behind : ℕ → Arrow
  end_behind thick = rational ((low *ℤ pos total) +ℤ (extent *ℤ pos thick)) (pos total)

  -- how a position lies to such an end
  pub end-cross : (thick : ℕ) (v : Arrow)
      → cross (end_behind thick) v ≡ at v -ℤ (size v *ℤ pos thick)
  end-cross thick v =
      equal
      (cross_by (end_behind thick) v (var (pos total))
      (plus (times (var low) (var (pos total))) (times (var extent) (var (pos thick)))) (var v.x)
      (var v.y))
      (minus (times (minus (var v.y) (times (var low) (var v.x))) (var (pos total)))
      (times (times (var extent) (var v.x)) (var (pos thick)))) (omega arith)

  -- where a start is the same number as such an end
  above_end : (thick : ℕ) (start v : Arrow) → IsSame start (end_behind thick)
      → IsRational start → IsRational v → IsBelow start v → (size v *ℤ pos thick) <ℤ at v
  above_end thick start v same start_in v_in above =
      let turn = cross-turn start (end_behind thick) in
      let beyond : IsBelow (end_behind thick) v =
      at_most_below_trans (end_behind thick) start v (total_in some) start_in v_in
      (omega (arith, ints, same)) above
      in
      let is = end-cross thick v in
      omega (arith, ints)
    where
      total_in : 0 < total → pos 0 <ℤ pos total
      total_in some = omega (arith, ints)

  below_end : (thick : ℕ) (v stop : Arrow) → IsSame stop (end_behind thick) → IsRational stop
      → IsRational v → IsBelow v stop → at v <ℤ (size v *ℤ pos thick)
  below_end thick v stop same stop_in v_in below =
      let before : IsBelow v (end_behind thick) =
      below_at_most_trans v stop (end_behind thick) v_in stop_in (total_in some) below
      (omega (arith, ints, same))
      in
      let turn = cross-turn (end_behind thick) v in
      let is = end-cross thick v in
      omega (arith, ints)
    where
      total_in : 0 < total → pos 0 <ℤ pos total
      total_in some = omega (arith, ints)

  -- the ends rise
  ends_rise : (thick more : ℕ) → 0 < more → (start stop : Arrow)
      → IsSame start (end_behind thick) → IsSame stop (end_behind (thick + more))
      → IsRational start → IsRational stop → IsBelow start stop
  ends_rise thick more positive start stop start_is stop_is start_in stop_in =
      let turn = cross-turn stop (end_behind (thick + more)) in
      at_most_below_trans start (end_behind thick) stop start_in (total_in some) stop_in
      (omega (arith, ints, start_is))
      (below_at_most_trans (end_behind thick) (end_behind (thick + more)) stop (total_in some)
      (total_in some) stop_in between (omega (arith, ints, stop_is)))
    where
      total_in : 0 < total → pos 0 <ℤ pos total
      total_in some = omega (arith, ints)

      sum_of : (a b : ℕ)
          → ((((low *ℤ pos total) +ℤ (extent *ℤ pos (a + b))) -ℤ (low *ℤ pos total)) *ℤ pos total)
          -ℤ ((extent *ℤ pos total) *ℤ pos a) ≡ pos total *ℤ (extent *ℤ pos b)
      sum_of a b =
          equal
          (minus (times (minus (plus (times (var low) (var (pos total)))
          (times (var extent) (plus (var (pos a)) (var (pos b)))))
          (times (var low) (var (pos total)))) (var (pos total)))
          (times (times (var extent) (var (pos total))) (var (pos a))))
          (times (var (pos total)) (times (var extent) (var (pos b)))) (omega arith)

      between : IsBelow (end_behind thick) (end_behind (thick + more))
      between =
          let grown = positive_product (pos total) (extent *ℤ pos more) (total_in some)
          (positive_product extent (pos more) wide (omega (arith, ints)))
          in
          rw (end-cross thick (end_behind (thick + more)))
          (rw (sum_of thick more) (omega (arith, ints)))

  -- ---- one band after another

  -- from this start on the layer is found among these layers
  abbrev pub IsFrom : (Arrow → ℕ) → Arrow → ℕ → List Layer → Type 0
  IsFrom f start thick layers =
      (v : Arrow) → IsRational v → IsBelow start v
      → f v ≡ layer_from (at v) (size v) thick layers

  in_band : (index rest : ℕ) (b c : Bool) → b ≡ true → c ≡ true → cond (b && c) index rest ≡ index
  in_band index rest b c b_is c_is = rw (b_is, c_is) refl

  behind_band : (index rest : ℕ) (b c : Bool) → c ≡ false → cond (b && c) index rest ≡ rest
  behind_band index rest true c c_is = rw c_is refl
  behind_band index rest false c c_is = refl

  -- the layers are a cutting, from a start on
  pub bands_cut : (l : Layer) (ls : List Layer) (before thick : ℕ) (start high : Arrow)
      → are_layers before (l ∷ ls) ≡ true → thick + total_of (l ∷ ls) ≡ total
      → IsRational start → IsSame start (end_behind thick)
      → IsRational high → IsSame high (end_behind total)
      → (f : Arrow → ℕ) → IsFrom f start thick (l ∷ ls)
      → IsCutting f (Some start) (Some high) l.index (band_ends low extent total thick (l ∷ ls))
  bands_cut l [] before thick start high right whole start_in start_is high_in high_is f from =
      let first = layer_is before l [] right in
      let last : thick + l.micro ≡ total = omega arith in
      let stop_is : IsSame high (end_behind (thick + l.micro)) =
      subst (λ n. IsSame high (end_behind n)) (sym last) high_is
      in (
        ends_rise thick l.micro first.0 start high start_is stop_is start_in high_in,
        λ v v_in after before_high.
            let low_end = above_end thick start v start_is start_in v_in after in
            let high_end = below_end (thick + l.micro) v high stop_is high_in v_in before_high in
            from v v_in after
            ∙ in_band l.index 0 (int_le (size v *ℤ pos thick) (at v))
            (int_le (at v) (size v *ℤ pos (thick + l.micro)))
            (test_at_most (size v *ℤ pos thick) (at v) (omega (arith, ints, low_end)))
            (test_at_most (at v) (size v *ℤ pos (thick + l.micro)) (omega (arith, ints, high_end))),
      )
  bands_cut l (m ∷ ls) before thick start high right whole start_in start_is high_in high_is f
      from =
      let first = layer_is before l (m ∷ ls) right in
      let next_is = fraction_is_same ((low *ℤ pos total) +ℤ (extent *ℤ pos (thick + l.micro)))
      (pos total) (omega (arith, ints, some)) in
      let next_in = fraction_is_reduced ((low *ℤ pos total) +ℤ (extent *ℤ pos (thick + l.micro)))
      (pos total) (omega (arith, ints, some)) in
      let next = fraction ((low *ℤ pos total) +ℤ (extent *ℤ pos (thick + l.micro))) (pos total) in (
        next_in,
        ends_rise thick l.micro first.0 start next start_is next_is start_in next_in.positive,
        λ v v_in after before_next.
            let low_end = above_end thick start v start_is start_in v_in after in
            let high_end = below_end (thick + l.micro) v next next_is next_in.positive v_in before_next in
            from v v_in after
            ∙ in_band l.index (layer_from (at v) (size v) (thick + l.micro) (m ∷ ls))
            (int_le (size v *ℤ pos thick) (at v)) (int_lt (at v) (size v *ℤ pos (thick + l.micro)))
            (test_at_most (size v *ℤ pos thick) (at v) (omega (arith, ints, low_end))) (test_less (at v) (size v *ℤ pos (thick + l.micro)) high_end),
        bands_cut m ls l.index (thick + l.micro) next high first.1 (omega (arith, whole))
            next_in.positive next_is high_in high_is f
            (λ v v_in after.
            let above = above_end (thick + l.micro) next v next_is next_in.positive v_in after in
            from v v_in (below_trans start next v start_in next_in.positive v_in
            (ends_rise thick l.micro first.0 start next start_is next_is start_in next_in.positive)
            after)
            ∙ behind_band l.index (layer_from (at v) (size v) (thick + l.micro) (m ∷ ls))
            (int_le (size v *ℤ pos thick) (at v)) (int_lt (at v) (size v *ℤ pos (thick + l.micro)))
            (test_not_less (at v) (size v *ℤ pos (thick + l.micro)) (omega (arith, ints, above)))),
      )

  -- neighbouring bands have different layers
  pub bands_differ : (l : Layer) (ls : List Layer) (before thick : ℕ) → are_layers before (l ∷ ls) ≡ true
      → AreDifferent l.index (band_ends low extent total thick (l ∷ ls))
  bands_differ l [] before thick right = tt
  bands_differ l (m ∷ ls) before thick right =
      let first = layer_is before l (m ∷ ls) right in
      let second = layer_is l.index m ls first.1 in
      (λ same. omega (arith, second.2), bands_differ m ls l.index (thick + l.micro) first.1)

  -- the layer that is found is one of the layers
  pub layer_is_found : (l : Layer) (ls : List Layer) (before thick : ℕ) (v : Arrow)
      → are_layers before (l ∷ ls) ≡ true → (size v *ℤ pos thick) ≤ℤ at v
      → at v ≤ℤ (size v *ℤ pos (thick + total_of (l ∷ ls)))
      → IsFound (layer_from (at v) (size v) thick (l ∷ ls)) (l ∷ ls)
  layer_is_found l [] before thick v right low_end high_end =
      let whole : l.micro + 0 ≡ l.micro = omega arith in
      found_first l [] (layer_from (at v) (size v) thick (l ∷ []))
      (in_band l.index 0 (int_le (size v *ℤ pos thick) (at v))
      (int_le (at v) (size v *ℤ pos (thick + l.micro)))
      (test_at_most (size v *ℤ pos thick) (at v) low_end)
      (test_at_most (at v) (size v *ℤ pos (thick + l.micro))
      (subst (λ n. at v ≤ℤ (size v *ℤ pos (thick + n))) whole high_end)))
  layer_is_found l (m ∷ ls) before thick v right low_end high_end =
      by (int_lt (at v) (size v *ℤ pos (thick + l.micro))) refl
      (layer_is_found m ls l.index (thick + l.micro) v (layer_is before l (m ∷ ls) right).1)
    where
      sum : (thick + l.micro) + total_of (m ∷ ls) ≡ thick + (l.micro + total_of (m ∷ ls))
      sum = omega arith

      by : (c : Bool) → int_lt (at v) (size v *ℤ pos (thick + l.micro)) ≡ c
          → ((size v *ℤ pos (thick + l.micro)) ≤ℤ at v
          → at v ≤ℤ (size v *ℤ pos ((thick + l.micro) + total_of (m ∷ ls)))
          → IsFound (layer_from (at v) (size v) (thick + l.micro) (m ∷ ls)) (m ∷ ls))
          → IsFound (layer_from (at v) (size v) thick (l ∷ m ∷ ls)) (l ∷ m ∷ ls)
      by true inside later =
          found_first l (m ∷ ls) (layer_from (at v) (size v) thick (l ∷ m ∷ ls))
          (in_band l.index (layer_from (at v) (size v) (thick + l.micro) (m ∷ ls))
          (int_le (size v *ℤ pos thick) (at v)) (int_lt (at v) (size v *ℤ pos (thick + l.micro)))
          (test_at_most (size v *ℤ pos thick) (at v) low_end) inside)
      by false beyond later =
          subst (λ n. IsFound n (l ∷ m ∷ ls))
          (sym
          (behind_band l.index (layer_from (at v) (size v) (thick + l.micro) (m ∷ ls))
          (int_le (size v *ℤ pos thick) (at v)) (int_lt (at v) (size v *ℤ pos (thick + l.micro)))
          beyond))
          (found_later l (m ∷ ls) (layer_from (at v) (size v) (thick + l.micro) (m ∷ ls))
          (later (not_less_from (at v) (size v *ℤ pos (thick + l.micro)) beyond)
          (subst (λ n. at v ≤ℤ (size v *ℤ pos n)) (sym sum) high_end)))
