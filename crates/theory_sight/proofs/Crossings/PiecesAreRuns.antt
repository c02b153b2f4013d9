-- The pieces of a walk are the runs of one coarse label: they begin where the runs begin, and each holds
-- the passages of its run.
use Rattle.std.proofs.Common.{◌≡◌, refl, sym, ap, ◌∙◌, ◌==◌, Bool, true, false, cond, ◌&&◌}
use Rattle.std.proofs.Common.{Option, Some, None, List, [], ◌∷◌, Decides}
use Rattle.std.proofs.lemmas.Bool.{false≢true, eqb-true, eq-eqb, and_parts, and_from, ne_eqb}
use Rattle.theory_numbers.specs.Arrows.{Arrow}
use Rattle.theory_cuttings.specs.Cuttings.{Break, AreDifferent}
use Rattle.theory_cuttings.specs.Changes.{Run, put_before, group}
use Rattle.sb_model.specs.declared.labels.label.Label.{Label}
use Rattle.sb_model.specs.declared.labels.label.Label.TheVariants as label
use Rattle.sb_model.specs.Passages.{Passage, passage, passages_of, are_of_one_element, Piece, piece}
use Rattle.sb_model.specs.Passages.{before_pieces, pieces_of, end_of}
use Rattle.theory_sight.specs.Coarse.{coarse, same_label}
use Rattle.theory_sight.specs.Crossings.{first_end, passages_to, piece_to}

-- ---- labels

-- the test of two labels decides
pub same_label_decides : (a b : Label) → Decides (same_label a b) (a ≡ b)
same_label_decides a b = (to a b, λ same. ap (same_label a) (sym same) ∙ alike a)
  where
    alike : (l : Label) → same_label l l ≡ true
    alike (label.Space n) = eq-eqb n n refl
    alike (label.Element n layer) =
        and_from (n == n) (layer == layer) (eq-eqb n n refl) (eq-eqb layer layer refl)
    alike label.Earth = refl
    alike label.Void = refl

    to : (a b : Label) → same_label a b ≡ true → a ≡ b
    to (label.Space n) (label.Space k) same = ap label.Space (eqb-true n k same)
    to (label.Element n layer) (label.Element k other) same =
        let parts = and_parts (n == k) (layer == other) same in
        λ i. label.Element (eqb-true n k parts.0 i) (eqb-true layer other parts.1 i)
    to label.Earth label.Earth same = refl
    to label.Void label.Void same = refl
    to (label.Space n) (label.Element k other) same = absurd (false≢true same)
    to (label.Space n) label.Earth same = absurd (false≢true same)
    to (label.Space n) label.Void same = absurd (false≢true same)
    to (label.Element n layer) (label.Space k) same = absurd (false≢true same)
    to (label.Element n layer) label.Earth same = absurd (false≢true same)
    to (label.Element n layer) label.Void same = absurd (false≢true same)
    to label.Earth (label.Space k) same = absurd (false≢true same)
    to label.Earth (label.Element k other) same = absurd (false≢true same)
    to label.Earth label.Void same = absurd (false≢true same)
    to label.Void (label.Space k) same = absurd (false≢true same)
    to label.Void (label.Element k other) same = absurd (false≢true same)
    to label.Void label.Earth same = absurd (false≢true same)

-- two different labels have one coarse label where they are layers of one element
one_element_is : (a b : Label) → (a ≡ b → ⊥)
    → are_of_one_element a b ≡ same_label (coarse a) (coarse b)
one_element_is (label.Space n) (label.Space k) differ =
    sym (ne_eqb n k (λ same. differ (ap label.Space same)))
one_element_is (label.Space n) (label.Element k other) differ = refl
one_element_is (label.Space n) label.Earth differ = refl
one_element_is (label.Space n) label.Void differ = refl
one_element_is (label.Element n layer) (label.Space k) differ = refl
one_element_is (label.Element n layer) (label.Element k other) differ = by (n == k)
  where
    by : (b : Bool) → b ≡ (b && true)
    by true = refl
    by false = refl
one_element_is (label.Element n layer) label.Earth differ = refl
one_element_is (label.Element n layer) label.Void differ = refl
one_element_is label.Earth (label.Space k) differ = refl
one_element_is label.Earth (label.Element k other) differ = refl
one_element_is label.Earth label.Earth differ = absurd (differ refl)
one_element_is label.Earth label.Void differ = refl
one_element_is label.Void (label.Space k) differ = refl
one_element_is label.Void (label.Element k other) differ = refl
one_element_is label.Void label.Earth differ = refl
one_element_is label.Void label.Void differ = absurd (differ refl)

-- ---- pieces

-- a piece up to the first run, and one for each run
abbrev pub pieces_made : Break Label → List (Break Label) → List (Run Label) → List Piece
pieces_made b before [] = piece_to b before None ∷ []
pieces_made b before (r ∷ rs) =
    piece_to b before (Some r.head.start) ∷ pieces_made r.head r.rest rs

-- the end of a piece is the one that it is made with
pub end-piece_to : (b : Break Label) (bs : List (Break Label)) (end : Option Arrow)
    → end_of (piece_to b bs end) ≡ end
end-piece_to b [] end = refl
end-piece_to b (c ∷ bs) end = end-piece_to c bs end

-- the pieces of passages are those of the runs
pub pieces_are_runs : (b : Break Label) (bs : List (Break Label)) → AreDifferent b.label bs
    → pieces_of (passages_of (b ∷ bs))
    ≡ pieces_made b ((group same_label coarse b.label bs).before)
    ((group same_label coarse b.label bs).runs)
pieces_are_runs b [] differ = refl
pieces_are_runs b (c ∷ bs) differ =
    ap (before_pieces (passage b.label b.start (Some c.start))) (pieces_are_runs c bs differ.1)
    ∙ put ((group same_label coarse c.label bs).before) ((group same_label coarse c.label bs).runs)
  where
    put : (before : List (Break Label)) (runs : List (Run Label))
        → before_pieces (passage b.label b.start (Some c.start)) (pieces_made c before runs)
        ≡ pieces_made b
        ((put_before (same_label (coarse b.label) (coarse c.label)) c
        (record { before = before; runs = runs })).before)
        ((put_before (same_label (coarse b.label) (coarse c.label)) c
        (record { before = before; runs = runs })).runs)
    put before [] =
        ap (λ t. cond t
        (piece (passage b.label b.start (Some c.start))
        (passage c.label c.start (first_end before None) ∷ passages_to before None) ∷ [])
        (piece (passage b.label b.start (Some c.start)) [] ∷ piece_to c before None ∷ []))
        (one_element_is b.label c.label differ.0)
        ∙ at (same_label (coarse b.label) (coarse c.label))
      where
        at : (t : Bool)
            → cond t
            (piece (passage b.label b.start (Some c.start))
            (passage c.label c.start (first_end before None) ∷ passages_to before None) ∷ [])
            (piece (passage b.label b.start (Some c.start)) [] ∷ piece_to c before None ∷ [])
            ≡ pieces_made b ((put_before t c (record { before = before; runs = [] })).before)
            ((put_before t c (record { before = before; runs = [] })).runs)
        at true = refl
        at false = refl
    put before (r ∷ rs) =
        ap (λ t. cond t
        (piece (passage b.label b.start (Some c.start))
        (passage c.label c.start (first_end before (Some r.head.start))
        ∷ passages_to before (Some r.head.start)) ∷ pieces_made r.head r.rest rs)
        (piece (passage b.label b.start (Some c.start)) []
        ∷ piece_to c before (Some r.head.start) ∷ pieces_made r.head r.rest rs))
        (one_element_is b.label c.label differ.0)
        ∙ at (same_label (coarse b.label) (coarse c.label))
      where
        at : (t : Bool)
            → cond t
            (piece (passage b.label b.start (Some c.start))
            (passage c.label c.start (first_end before (Some r.head.start))
            ∷ passages_to before (Some r.head.start)) ∷ pieces_made r.head r.rest rs)
            (piece (passage b.label b.start (Some c.start)) []
            ∷ piece_to c before (Some r.head.start) ∷ pieces_made r.head r.rest rs)
            ≡ pieces_made b ((put_before t c (record { before = before; runs = r ∷ rs })).before)
            ((put_before t c (record { before = before; runs = r ∷ rs })).runs)
        at true = refl
        at false = refl
