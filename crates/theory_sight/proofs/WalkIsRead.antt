-- The walk of a ray is what is read from its stretches.
use Rattle.std.proofs.Common.{◌≡◌, refl, sym, ap, ap₂, ◌∙◌, arith, subst, subst₂, ◌↔◌, ℕ}
use Rattle.std.proofs.Common.{ℤ, pos, ◌-ℤ◌, Bool, true, false, cond, ◌&&◌, List, [], ◌∷◌, ◌++◌}
use Rattle.std.proofs.Common.{Option, Some, None}
use Rattle.std.proofs.lemmas.Int.{ints}
use Rattle.std.proofs.lemmas.Bool.{and_parts}
use Rattle.theory_numbers.specs.Arrows.{Arrow}
use Rattle.theory_numbers.specs.Rationals.{IsRational, rational}
use Rattle.theory_cuttings.specs.Cuttings.{Break, IsAlike, IsCutting, IsReducedCutting, IsFraction}
use Rattle.theory_cuttings.specs.Cuttings.{HasLabel}
use Rattle.theory_cuttings.specs.Ends.{IsEnd}
use Rattle.theory_cuttings.specs.Passages.{ray_start}
use Rattle.theory_cuttings.specs.Changes.{break_at, Run, Grouped, group, run_breaks, in_runs}
use Rattle.theory_cuttings.proofs.Ends.{IsBetween, number_between}
use Rattle.theory_cuttings.proofs.OneCutting.{next_end, IsFirstPiece, first_piece}
use Rattle.theory_cuttings.proofs.Groups.{runs_keep_breaks}
use Rattle.theory_cuttings.proofs.OnePassages.{one_list_of_passages}
use Rattle.theory_models.proofs.RaysAlike.{label_along_is_alike}
use Rattle.sb_model.specs.declared.labels.label.Label.{Label}
use Rattle.sb_model.specs.declared.labels.label.Label.TheVariants as label
use Rattle.sb_model.specs.declared.products.Element.{Element}
use Rattle.sb_model.specs.declared.walk.End.{End}
use Rattle.sb_model.specs.declared.walk.End.TheVariants as end
use Rattle.sb_model.specs.declared.walk.Item.{Item}
use Rattle.sb_model.specs.declared.walk.Walk.{Walk}
use Rattle.sb_model.specs.Building.{Building}
use Rattle.sb_model.specs.Passages.{Ray, at_depth, ArePassages, Piece, passages_of, pieces_of}
use Rattle.sb_model.specs.Walks.{Course, course, course_of, Goes, GoesBy, stop_in, stop_by, is_passed, IsWalkOf}
use Rattle.sb_model.specs.Walks.{lies_along, is_in_reach, unit_along, length_between}
use Rattle.sb_model.specs.Walks.{element_numbered, AreItems, AreItemsOf}
use Rattle.theory_sight.specs.Coarse.{coarse, same_label}
use Rattle.theory_sight.specs.Bands.{items_between}
use Rattle.theory_sight.specs.Reading.{FarEnd, square, slanted, never, Stretch, is_passed_over}
use Rattle.theory_sight.specs.Reading.{ends_at, behind, read_element, read_stretch, read, IsFarEnd}
use Rattle.theory_sight.specs.Reading.{AreStretches}
use Rattle.theory_sight.proofs.Crossings.ElementAt.{IsElementAt, element_is_at}
use Rattle.theory_cuttings.proofs.CutTwice.{split_is, coarse_is_runs}
use Rattle.theory_sight.proofs.Crossings.PiecesAreRuns.{same_label_decides, pieces_made, end-piece_to}
use Rattle.theory_sight.proofs.Crossings.PiecesAreRuns.{pieces_are_runs}
use Rattle.theory_sight.proofs.Crossings.ItemsOfPieces.{whole_length}
use Rattle.theory_sight.proofs.Crossings.CrossingItems.{IsSeen, crossing_items}
use Rattle.theory_sight.specs.Crossings.{IsCrossing, label_along, piece_to}

module _ (m : Building) (r : Ray) (x0 : ℤ) (seen : IsSeen m r x0) where
  -- a label of an element on the ray names one
  label_names : (low high : Option Arrow) → IsEnd low → IsEnd high → (first : Label)
      (bs : List (Break Label)) → IsCutting (label_along m r) low high first bs → (k layer : ℕ)
      → first ≡ label.Element k layer → (p : Arrow) × IsElementAt m (at_depth r p) k layer
  label_names low high low_in high_in first bs cut k layer same =
      let piece = first_piece (label_along m r) high high_in low first bs cut in
      by piece (number_between low (next_end bs high) low_in piece.is_end piece.wide)
    where
      by : IsFirstPiece (label_along m r) low (next_end bs high) first
          → (u : Arrow) × IsBetween low (next_end bs high) u
          → (p : Arrow) × IsElementAt m (at_depth r p) k layer
      by piece (u, at) = (
        u,
        element_is_at m seen.model (at_depth r u) k layer
            (piece.has_label u at.rational at.after at.before ∙ same),
      )

  -- where the walk ends at a piece
  ends_here : (found : End) (c : Piece) (goes_on : Course → Type 0) (at : ℤ) (w : Course) (start : Arrow)
      → start ≡ rational (at -ℤ x0) (pos 1)
      → (w ≡ course [] start found) ↔ (w ≡ ends_at x0 at found)
  ends_here found c goes_on at w start same =
      rw same (λ is. is, λ is. is)

  -- an element whose crossing has a far end
  by_far_end : (at : ℤ) (k : ℕ) (e : Element) (layer : ℕ) (b : Break Label)
      (before : List (Break Label)) (d : Break Label) (rest : List Piece) (far : FarEnd)
      (goes_on : ℤ → Course) (w : Course) → b.start ≡ rational (at -ℤ x0) (pos 1)
      → b.label ≡ label.Element k layer → IsFarEnd m r x0 d.start far
      → ((y : ℤ) → d.start ≡ rational (y -ℤ x0) (pos 1) → lies_along e.layering r.normal ≡ true
      → IsCrossing m r x0 at y k e b before)
      → element_numbered m k ≡ Some e
      → ((y : ℤ) → d.start ≡ rational (y -ℤ x0) (pos 1)
      → (v : Course) → Goes m r rest v ↔ (v ≡ goes_on y))
      → GoesBy (stop_in m r (piece_to b before (Some d.start)) (Some e)) m r
      (piece_to b before (Some d.start)) (Goes m r rest) w
      ↔ (w ≡ read_element m r.normal x0 at k (Some e) far goes_on)
  by_far_end at k e layer b before d rest never goes_on w from named far_is crossing numbered later =
      absurd far_is
  by_far_end at k e layer b before d rest slanted goes_on w from named far_is crossing numbered
      later =
      rw (end-piece_to b before (Some d.start), far_is)
      (ends_here (end.Solid e.number) (piece_to b before (Some d.start)) (Goes m r rest) at w b.start from)
  by_far_end at k e layer b before d rest (square y) goes_on w from named far_is crossing numbered
      later =
      subst
      (λ o. GoesBy o m r (piece_to b before (Some d.start)) (Goes m r rest) w
      ↔ (w ≡ read_element m r.normal x0 at k (Some e) (square y) goes_on)) (sym stop_is)
      (by (is_passed_over m r.normal e at y) refl)
    where
      stop_by_test : Bool → Option End
      stop_by_test t = cond t None (Some (end.Solid e.number))

      stop_is : stop_in m r (piece_to b before (Some d.start)) (Some e)
          ≡ stop_by_test (is_passed_over m r.normal e at y)
      stop_is =
          ap (λ t. stop_by_test (is_passed m r e b.start t)) (end-piece_to b before (Some d.start))
          ∙ ap
          (λ q.
          stop_by_test
          (q && (lies_along e.layering r.normal
          && is_in_reach m.reach (unit_along r) (length_between b.start d.start)))) far_is.1
          ∙ ap
          (λ l.
          stop_by_test (lies_along e.layering r.normal && is_in_reach m.reach (unit_along r) l))
          (ap₂ length_between from far_is.0 ∙ whole_length x0 at y)

      c : Piece
      c = piece_to b before (Some d.start)

      to_items : is_passed_over m r.normal e at y ≡ true → (items : List Item)
          → AreItems m r c items ↔ (items ≡ items_between e r.normal at y)
      to_items passes items =
          let along = and_parts (lies_along e.layering r.normal) _ passes in
          let is = crossing_items m r x0 seen at y k e b before (crossing y far_is.0 along.0) layer items in
          subst
          (λ t. AreItems m r (piece_to b before (Some t)) items
          ↔ (items ≡ items_between e r.normal at y)) (sym far_is.0)
          (subst
          (λ l.
          AreItemsOf m r (piece_to b before (Some (rational (y -ℤ x0) (pos 1)))) l items
          ↔ (items ≡ items_between e r.normal at y)) (sym named) is)

      by : (t : Bool) → is_passed_over m r.normal e at y ≡ t
          → GoesBy (cond t None (Some (end.Solid e.number))) m r c (Goes m r rest) w
          ↔ (w ≡ cond t (behind (items_between e r.normal at y) (goes_on y))
          (ends_at x0 at (end.Solid e.number)))
      by false fails =
          ends_here (end.Solid e.number) c (Goes m r rest) at w b.start from
      by true passes = (to, back)
        where
          to : GoesBy None m r c (Goes m r rest) w
              → w ≡ behind (items_between e r.normal at y) (goes_on y)
          to (items, (v, is)) =
              is.1.1
              ∙ ap₂ behind ((to_items passes items).0 is.0) ((later y far_is.0 v).0 is.1.0)

          back : w ≡ behind (items_between e r.normal at y) (goes_on y)
              → GoesBy None m r c (Goes m r rest) w
          back is = (
            items_between e r.normal at y,
            (
              goes_on y,
              (
                (to_items passes (items_between e r.normal at y)).1 refl,
                ((later y far_is.0 (goes_on y)).1 refl, is),
              ),
            ),
          )

  -- the last piece, which has no far end
  by_no_end : (at : ℤ) (k : ℕ) (e : Element) (b : Break Label) (before : List (Break Label))
      (goes_on : ℤ → Course) (w : Course) → b.start ≡ rational (at -ℤ x0) (pos 1)
      → GoesBy (stop_in m r (piece_to b before None) (Some e)) m r (piece_to b before None)
      (Goes m r []) w
      ↔ (w ≡ read_element m r.normal x0 at k (Some e) never goes_on)
  by_no_end at k e b before goes_on w from =
      rw (end-piece_to b before None)
      (ends_here (end.Solid e.number) (piece_to b before None) (Goes m r []) at w b.start from)

  -- the pieces of runs, read
  goes_is_read : (b : Break Label) (before : List (Break Label)) (runs : List (Run Label))
      (ss : List Stretch) (at : ℤ) → b.start ≡ rational (at -ℤ x0) (pos 1)
      → IsReducedCutting (label_along m r) (Some b.start) None b.label (before ++ in_runs runs)
      → IsCutting (λ u. coarse (label_along m r u)) (Some b.start) None (coarse b.label)
      (run_breaks coarse runs)
      → AreStretches m r x0 (break_at b.start (coarse b.label) ∷ run_breaks coarse runs) ss
      → (w : Course)
      → Goes m r (pieces_made b before runs) w ↔ (w ≡ read m r.normal x0 at ss)
  goes_is_read b before [] [] at from cut coarse_cut stretches w = absurd stretches
  goes_is_read b before [] (s ∷ t ∷ ss) at from cut coarse_cut stretches w = absurd stretches
  goes_is_read b before [] (s ∷ []) at from cut coarse_cut stretches w =
      rw (stretches.0, stretches.1) (by b.label refl)
    where
      start_in : IsRational b.start
      start_in = subst IsRational (sym from) (omega (arith, ints))

      by : (l : Label) → b.label ≡ l
          → GoesBy (stop_by m r (piece_to b before None) l) m r (piece_to b before None)
          (Goes m r []) w
          ↔ (w ≡ read_stretch m r.normal x0 at (coarse l) never (λ y. read m r.normal x0 y []))
      by (label.Space n) same =
          ends_here (end.Space n) (piece_to b before None) (Goes m r []) at w b.start from
      by label.Earth same =
          ends_here end.Earth (piece_to b before None) (Goes m r []) at w b.start from
      by label.Void same =
          ends_here end.Outside (piece_to b before None) (Goes m r []) at w b.start from
      by (label.Element k layer) same =
          let named =
          label_names (Some b.start) None start_in tt b.label (before ++ in_runs []) cut.cutting k
          layer same
          in
          rw (named.1.numbered)
          (by_no_end at k named.1.element b before (λ y. read m r.normal x0 y []) w from)
  goes_is_read b before (d ∷ runs) [] at from cut coarse_cut stretches w = absurd stretches
  goes_is_read b before (d ∷ runs) (s ∷ ss) at from cut coarse_cut stretches w =
      rw (stretches.0)
      (by (goes_is_read d.head d.rest runs ss) b.label refl)
    where
      start_in : IsRational b.start
      start_in = subst IsRational (sym from) (omega (arith, ints))

      c : Piece
      c = piece_to b before (Some d.head.start)

      parts : IsReducedCutting (label_along m r) (Some b.start) (Some d.head.start) b.label before
          × IsFraction d.head.start
          × IsReducedCutting (label_along m r) (Some d.head.start) None d.head.label
          (d.rest ++ in_runs runs)
      parts =
          split_is (label_along m r) (Some b.start) None b.label before d.head
          (d.rest ++ in_runs runs) cut

      by : ((at : ℤ) → d.head.start ≡ rational (at -ℤ x0) (pos 1)
          → IsReducedCutting (label_along m r) (Some d.head.start) None d.head.label
          (d.rest ++ in_runs runs)
          → IsCutting (λ u. coarse (label_along m r u)) (Some d.head.start) None
          (coarse d.head.label) (run_breaks coarse runs)
          → AreStretches m r x0
          (break_at d.head.start (coarse d.head.label) ∷ run_breaks coarse runs) ss
          → (v : Course)
          → Goes m r (pieces_made d.head d.rest runs) v ↔ (v ≡ read m r.normal x0 at ss))
          → (l : Label) → b.label ≡ l
          → GoesBy (stop_by m r c l) m r c (Goes m r (pieces_made d.head d.rest runs)) w
          ↔ (w
          ≡ read_stretch m r.normal x0 at (coarse l) s.far (λ y. read m r.normal x0 y ss))
      by later (label.Space n) same =
          ends_here (end.Space n) c (Goes m r (pieces_made d.head d.rest runs)) at w b.start from
      by later label.Earth same =
          ends_here end.Earth c (Goes m r (pieces_made d.head d.rest runs)) at w b.start from
      by later label.Void same =
          ends_here end.Outside c (Goes m r (pieces_made d.head d.rest runs)) at w b.start from
      by later (label.Element k layer) same =
          let named =
          label_names (Some b.start) None start_in tt b.label (before ++ in_runs (d ∷ runs))
          cut.cutting k layer same
          in
          rw (named.1.numbered)
          (by_far_end at k named.1.element layer b before d.head
          (pieces_made d.head d.rest runs) s.far (λ y. read m r.normal x0 y ss) w from same
          stretches.1
          (λ y far_is along. record {
            from = from;
            cut =
                subst
                (λ t. IsReducedCutting (label_along m r) (Some b.start) (Some t) b.label before)
                far_is parts.0;
            coarse_is =
                subst
                (λ t. HasLabel (λ u. coarse (label_along m r u)) (Some b.start) (Some t)
                (label.Element k 0)) far_is
                (subst
                (λ l. HasLabel (λ u. coarse (label_along m r u)) (Some b.start)
                (Some d.head.start) (coarse l)) same coarse_cut.2);
            numbered = named.1.numbered;
            stands = named.1.stands;
            passed = along;
          }) named.1.numbered
          (λ y far_is v. later y far_is parts.2 coarse_cut.3 stretches.2 v))

-- the walk of a ray is what is read from the stretches of its column
pub walk_is_read : (m : Building) (r : Ray) (x0 : ℤ) → IsSeen m r x0
    → (breaks : List (Break Label)) → ArePassages m r breaks
    → (c : Label) (cs : List (Break Label))
    → IsReducedCutting (λ u. coarse (label_along m r u)) (Some ray_start) None c cs
    → (ss : List Stretch) → AreStretches m r x0 (break_at ray_start c ∷ cs) ss
    → (w : Walk) → IsWalkOf m r w ↔ (course_of w ≡ read m r.normal x0 x0 ss)
walk_is_read m r x0 seen [] passages c cs column ss stretches w = absurd passages
walk_is_read m r x0 seen (b ∷ bs) passages c cs column ss stretches w =
    (λ is. reads.0 (to is), λ same. (b ∷ bs, (passages, rw pieces (reads.1 same))))
  where
    start_is : ray_start ≡ b.start
    start_is = sym passages.0

    alike : IsAlike (label_along m r)
    alike = label_along_is_alike m r seen.start seen.some

    grouped : Grouped Label
    grouped = group same_label coarse b.label bs

    runs_are : (c ≡ coarse b.label) × (cs ≡ run_breaks coarse grouped.runs)
    runs_are =
        coarse_is_runs (label_along m r) alike coarse same_label same_label_decides (Some ray_start)
        None (omega (arith, ints)) tt b.label bs passages.1.cutting c cs column

    from : b.start ≡ rational (x0 -ℤ x0) (pos 1)
    from = passages.0 ∙ ap (λ z. rational z (pos 1)) (none x0)
      where
        none : (z : ℤ) → pos 0 ≡ z -ℤ z
        none z = omega (arith, ints)

    cut : IsReducedCutting (label_along m r) (Some b.start) None b.label
        (grouped.before ++ in_runs grouped.runs)
    cut =
        subst₂ (λ s ds. IsReducedCutting (label_along m r) (Some s) None b.label ds) start_is
        (sym (runs_keep_breaks same_label same_label_decides coarse b.label bs)) passages.1

    coarse_cut : IsCutting (λ u. coarse (label_along m r u)) (Some b.start) None (coarse b.label)
        (run_breaks coarse grouped.runs)
    coarse_cut =
        subst
        (λ s.
        IsCutting (λ u. coarse (label_along m r u)) (Some s) None (coarse b.label)
        (run_breaks coarse grouped.runs)) start_is
        (subst₂
        (λ k ks. IsCutting (λ u. coarse (label_along m r u)) (Some ray_start) None k ks)
        runs_are.0 runs_are.1 column.cutting)

    there : AreStretches m r x0 (break_at b.start (coarse b.label) ∷ run_breaks coarse grouped.runs) ss
    there =
        subst
        (λ s. AreStretches m r x0 (break_at s (coarse b.label) ∷ run_breaks coarse grouped.runs) ss)
        start_is
        (subst₂ (λ k ks. AreStretches m r x0 (break_at ray_start k ∷ ks) ss) runs_are.0 runs_are.1
        stretches)

    reads : Goes m r (pieces_made b grouped.before grouped.runs) (course_of w)
        ↔ (course_of w ≡ read m r.normal x0 x0 ss)
    reads =
        goes_is_read m r x0 seen b grouped.before grouped.runs ss x0 from cut coarse_cut there
        (course_of w)

    pieces : pieces_of (passages_of (b ∷ bs)) ≡ pieces_made b grouped.before grouped.runs
    pieces = pieces_are_runs b bs passages.1.different

    to : IsWalkOf m r w → Goes m r (pieces_made b grouped.before grouped.runs) (course_of w)
    to (others, is) =
        subst (λ cs. Goes m r cs (course_of w)) pieces
        (subst (λ ds. Goes m r (pieces_of (passages_of ds)) (course_of w))
        (one_list_of_passages (label_along m r) others (b ∷ bs) is.0 passages) is.1)
