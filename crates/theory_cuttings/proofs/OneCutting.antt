-- Two reduced cuttings of one function are equal, as data.
use Rattle.std.proofs.Common.{◌≡◌, refl, sym, ◌∙◌, inl, inr, ◌⊎◌, ap₂}
use Rattle.std.proofs.Common.{Option, Some, List, [], ◌∷◌}
use Rattle.theory_numbers.specs.Arrows.{Arrow}
use Rattle.theory_numbers.specs.Rationals.{IsRational, IsBelow, IsSame}
use Rattle.theory_numbers.proofs.Fractions.Rationals.{number_cases}
use Rattle.theory_cuttings.specs.Ends.{IsEnd, IsOpen, IsAfter, IsBefore}
use Rattle.theory_cuttings.specs.Cuttings.{Break, HasLabel, IsCutting, AreDifferent}
use Rattle.theory_cuttings.specs.Laws.{HasOneCutting}
use Rattle.theory_cuttings.specs.Changes.{break_at}
use Rattle.theory_cuttings.proofs.Ends.{IsBetween, after_trans, before_trans}
use Rattle.theory_numbers.proofs.Fractions.Reduced.{fraction_unique}
use Rattle.theory_cuttings.proofs.Ends.{below_two_ends}

-- where the first piece ends
pub next_end : {L : Type 0} → List (Break L) → Option Arrow → Option Arrow
next_end [] high = high
next_end (b ∷ bs) high = Some b.start

-- the first piece: it is open, and has the first label
pub record IsFirstPiece {L : Type 0} (f : Arrow → L) (low end : Option Arrow) (first : L)
    : Type 0 where
  pub is_end : IsEnd end
  pub wide : IsOpen low end
  pub has_label : HasLabel f low end first

-- two breaks with the same data are equal
pub same_break : {L : Type 0} (b d : Break L) → b.start ≡ d.start → b.label ≡ d.label → b ≡ d
same_break b d same_start same_label =
    let whole : break_at b.start b.label ≡ break_at d.start d.label = cc in whole

module _ {L : Type 0} (f : Arrow → L) (high : Option Arrow) (high_in : IsEnd high) where
  -- a cutting has a first piece
  pub first_piece : (low : Option Arrow) (first : L) (bs : List (Break L))
      → IsCutting f low high first bs → IsFirstPiece f low (next_end bs high) first
  unfolding next_end
  first_piece low first [] cut =
      record { is_end = high_in; wide = cut.0; has_label = cut.1 }
  first_piece low first (b ∷ bs) cut =
      record { is_end = cut.0.positive; wide = cut.1; has_label = cut.2 }

  -- each break lies below the upper end
  pub below_high : (low : Option Arrow) (first : L) (b : Break L) (bs : List (Break L))
      → IsCutting f low high first (b ∷ bs) → IsBefore b.start high
  below_high low first b [] cut = cut.3.0
  below_high low first b (d ∷ ds) cut =
      before_trans b.start d.start high cut.0.positive cut.3.0.positive high_in cut.3.1
      (below_high (Some b.start) b.label d ds cut.3)

-- two pieces that start together have one label
pub one_first : {L : Type 0} (f : Arrow → L) (low end other_end : Option Arrow) (first other : L)
    → IsEnd low → IsFirstPiece f low end first → IsFirstPiece f low other_end other
    → first ≡ other
one_first f low end other_end first other low_in piece other_piece =
    let found =
    below_two_ends low end other_end low_in piece.is_end other_piece.is_end piece.wide
    other_piece.wide
    in
    let u = found.0 in
    let here : IsBetween low end u = found.1.0 in
    let there : IsBetween low other_end u = found.1.1 in
    sym (piece.has_label u here.rational here.after here.before)
    ∙ other_piece.has_label u there.rational there.after there.before

-- a piece that reaches beyond a number above its start goes on from there
pub piece_from : {L : Type 0} (f : Arrow → L) (low end : Option Arrow) (label : L) (b : Arrow)
    → IsEnd low → IsRational b → IsAfter low b → IsBefore b end → IsFirstPiece f low end label
    → IsFirstPiece f (Some b) end label
piece_from f low end label b low_in b_in after beyond piece =
    record {
      is_end = piece.is_end;
      wide = beyond;
      has_label =
          λ u u_in more less.
          piece.has_label u u_in (after_trans low b u low_in b_in u_in after more) less;
    }

module _ {L : Type 0} (f : Arrow → L) (high : Option Arrow) (high_in : IsEnd high) where
  -- no piece of one label reaches beyond a break at which the label changes
  pub no_piece_over : (low end : Option Arrow) (first other : L) (b : Break L)
      (bs : List (Break L)) → IsEnd low → IsCutting f low high first (b ∷ bs)
      → (first ≡ b.label → ⊥) → IsFirstPiece f low end other → IsBefore b.start end → ⊥
  no_piece_over low end first other b bs low_in cut change piece beyond =
      let before : IsFirstPiece f low (Some b.start) first =
      record { is_end = cut.0.positive; wide = cut.1; has_label = cut.2 }
      in
      let at_first : first ≡ other =
      one_first f low (Some b.start) end first other low_in before piece
      in
      let at_break : b.label ≡ other =
      one_first f (Some b.start) (next_end bs high) end b.label other cut.0.positive
      (first_piece f high high_in (Some b.start) b.label bs cut.3)
      (piece_from f low end other b.start low_in cut.0.positive cut.1 beyond piece)
      in
      change (at_first ∙ sym at_break)

  -- up to the first break of both the labels agree, and so do the breaks: the first of two
  -- different breaks would have one label on both sides
  same_pieces : (low : Option Arrow) (first other : L) (b d : Break L) (bs ds : List (Break L))
      → IsEnd low
      → IsCutting f low high first (b ∷ bs) → (first ≡ b.label → ⊥)
      → IsCutting f low high other (d ∷ ds) → (other ≡ d.label → ⊥)
      → (first ≡ other) × (b.start ≡ d.start)
  same_pieces low first other b d bs ds low_in cut change other_cut other_change =
      from (number_cases b.start d.start)
    where
      piece : IsFirstPiece f low (Some b.start) first
      piece = record { is_end = cut.0.positive; wide = cut.1; has_label = cut.2 }

      other_piece : IsFirstPiece f low (Some d.start) other
      other_piece =
          record { is_end = other_cut.0.positive; wide = other_cut.1; has_label = other_cut.2 }

      from : (IsBelow b.start d.start ⊎ IsSame b.start d.start) ⊎ IsBelow d.start b.start
          → (first ≡ other) × (b.start ≡ d.start)
      from (inl (inl less)) =
          absurd
          (no_piece_over low (Some d.start) first other b bs low_in cut change other_piece less)
      from (inl (inr same)) = (
        one_first f low (Some b.start) (Some d.start) first other low_in piece other_piece,
        fraction_unique b.start d.start cut.0 other_cut.0 same,
      )
      from (inr more) =
          absurd
          (no_piece_over low (Some b.start) other first d ds low_in other_cut other_change piece
          more)

  one_of_each : (low : Option Arrow) (first other : L) (breaks others : List (Break L))
      → IsEnd low
      → IsCutting f low high first breaks → AreDifferent first breaks
      → IsCutting f low high other others → AreDifferent other others
      → (first ≡ other) × (breaks ≡ others)
  one_of_each low first other [] [] low_in cut change other_cut other_change = (
    one_first f low high high first other low_in
        (record { is_end = high_in; wide = cut.0; has_label = cut.1 })
        (record { is_end = high_in; wide = other_cut.0; has_label = other_cut.1 }),
    refl,
  )
  one_of_each low first other [] (d ∷ ds) low_in cut change other_cut other_change =
      absurd
      (no_piece_over low high other first d ds low_in other_cut other_change.0
      (record { is_end = high_in; wide = cut.0; has_label = cut.1 })
      (below_high f high high_in low other d ds other_cut))
  one_of_each low first other (b ∷ bs) [] low_in cut change other_cut other_change =
      absurd
      (no_piece_over low high first other b bs low_in cut change.0
      (record { is_end = high_in; wide = other_cut.0; has_label = other_cut.1 })
      (below_high f high high_in low first b bs cut))
  one_of_each low first other (b ∷ bs) (d ∷ ds) low_in cut change other_cut other_change =
      let pieces =
      same_pieces low first other b d bs ds low_in cut change.0 other_cut other_change.0
      in
      let rest =
      one_of_each (Some b.start) b.label d.label bs ds cut.0.positive cut.3 change.1
      (rw (sym pieces.1) at other_cut.3) other_change.1
      in
      (pieces.0, ap₂ (λ x xs. x ∷ xs) (same_break b d pieces.1 rest.0) rest.1)

-- two reduced cuttings of one function are equal, for labels of any type
pub has_one_cutting : (L : Type 0) → HasOneCutting L
has_one_cutting L f low high low_in high_in first other breaks others one two =
    one_of_each f high high_in low first other breaks others low_in one.cutting one.different
    two.cutting two.different
