-- A walk from a face that ends at a space comes to a depth at which this space begins, and the ray is
-- square there.
use Rattle.std.proofs.Common.{◌≡◌, refl, sym, ap, ◌∙◌, arith, subst, ℕ, ℤ, pos, neg_ℤ, ◌-ℤ◌, ◌≤ℤ◌}
use Rattle.std.proofs.Common.{true, List, [], ◌∷◌, Some, None}
use Rattle.std.proofs.lemmas.Int.{ints}
use Rattle.std.proofs.lemmas.Bool.{and_parts, false≢true}
use Rattle.theory_lists.specs.Members.{Stands}
use Rattle.theory_numbers.specs.Arrows.{Arrow}
use Rattle.theory_numbers.specs.Rationals.{IsRational, IsBelow, rational, mediant}
use Rattle.theory_numbers.proofs.Fractions.Rationals.{below_at_most_trans, mediant_between, mediant-IsRational}
use Rattle.theory_numbers.proofs.Shapes.{cross_eq}
use Rattle.theory_cuttings.specs.Cuttings.{Break, IsCutting}
use Rattle.theory_cuttings.specs.Columns.{is_odd_below, is_odd_up_to}
use Rattle.theory_cuttings.specs.Changes.{break_at}
use Rattle.theory_cuttings.specs.Passages.{ray_start}
use Rattle.theory_cuttings.proofs.Ends.{IsBetween, number_between, before_trans}
use Rattle.theory_cuttings.proofs.OneCutting.{next_end, IsFirstPiece, first_piece}
use Rattle.sb_fraction.specs.Spots.{opposite}
use Rattle.sb_model.specs.declared.faces.face.FaceKind.{FaceKind}
use Rattle.sb_model.specs.declared.labels.label.Label.{Label}
use Rattle.sb_model.specs.declared.labels.label.Label.TheVariants as label
use Rattle.sb_model.specs.declared.products.Space.{Space}
use Rattle.sb_model.specs.Building.{Building}
use Rattle.sb_model.specs.Surfaces.Faces.{Surface, surface_of}
use Rattle.sb_model.specs.Passages.{Ray, at_depth}
use Rattle.sb_model.specs.Surfaces.PlainPoints.{is_plain}
use Rattle.sb_model.specs.Solids.{is_in_solid}
use Rattle.sb_model.specs.Walks.{is_square}
use Rattle.theory_sight.specs.Coarse.{coarse}
use Rattle.theory_sight.specs.Reading.{FarEnd, Stretch, stretch, Crossing, end_position, there}
use Rattle.theory_sight.specs.Reading.{AreStretches}
use Rattle.theory_mirrors.specs.Laws.{HaveNoOverlap}
use Rattle.theory_mirrors.proofs.RaysOfFaces.SpacesAlongARay.{SeesSpaces, EndsAtStart, BeginsAt}
use Rattle.theory_mirrors.proofs.RaysOfFaces.SpacesAlongARay.{label_before_start, begins_there, label_inside}
use Rattle.theory_mirrors.proofs.RaysOfFaces.SpacesAlongARay.{space_is_at, only_space, one_space, just_after}
use Rattle.theory_mirrors.proofs.RaysOfFaces.SpacesAlongARay.{IsJustAfter, point_is}
use Rattle.theory_mirrors.proofs.WalksToSpaces.{AreCoarse}
use Rattle.theory_sight.specs.Crossings.{label_along}

-- a face of the space with this number that faces back, on which a ray arrives at position y
pub record ArrivesAt (m : Building) (r : Ray) (x0 y : ℤ) (k : ℕ) : Type 0 where
  pub space : Space
  pub in_model : Stands space m.spaces
  pub number_is : space.number ≡ k
  pub kind : FaceKind
  pub surface : Surface
  pub surface_is : surface_of space.prism kind ≡ Some surface
  pub faces_back : surface.normal ≡ opposite r.normal
  pub far_away : surface.position ≡ neg_ℤ y
  pub plain : is_plain m space.prism kind (at_depth r (rational (y -ℤ x0) (pos 1))) ≡ true

-- what is seen along the normal from a plain point of a face of a space
pub record SeesFromFace (m : Building) (r : Ray) (x0 : ℤ) (s : Space) : Type 0 where
  pub sees : SeesSpaces m r
  pub ends : EndsAtStart m r sees s
  pub square_start : is_square m r (at_depth r ray_start) ≡ true
  pub arrives : (y : ℤ) (k : ℕ) → BeginsAt m r sees k (rational (y -ℤ x0) (pos 1))
      → is_square m r (at_depth r (rational (y -ℤ x0) (pos 1))) ≡ true → ArrivesAt m r x0 y k

module _ (m : Building) (r : Ray) (x0 : ℤ) where
  abbrev f : Arrow → Label
  f u = coarse (label_along m r u)

  -- a position as a depth
  abbrev at_of : ℤ → Arrow
  at_of a = rational (a -ℤ x0) (pos 1)

  -- ---- the first piece

  -- behind a number the label is this, up to another
  pub record IsAhead (at : Arrow) (l : Label) : Type 0 where
    pub to : Arrow
    pub rational : IsRational to
    pub further : IsBelow at to
    pub label_is : (u : Arrow) → IsRational u → IsBelow at u → IsBelow u to
        → coarse (label_along m r u) ≡ l

  pub ahead : (at : Arrow) → IsRational at → (first : Label) (bs : List (Break Label))
      → IsCutting (λ u. coarse (label_along m r u)) (Some at) None first bs → IsAhead at first
  ahead at at_in first bs cut =
      let piece = first_piece f None tt (Some at) first bs cut in
      by piece (number_between (Some at) (next_end bs None) at_in piece.is_end piece.wide)
    where
      by : IsFirstPiece f (Some at) (next_end bs None) first
          → (u : Arrow) × IsBetween (Some at) (next_end bs None) u → IsAhead at first
      by piece (u, is) = record {
        to = u;
        rational = is.rational;
        further = is.after;
        label_is =
            λ v v_in after under.
            piece.has_label v v_in after
            (before_trans v u (next_end bs None) v_in is.rational piece.is_end under is.before);
      }

  coarse_twice : (l : Label) → coarse (coarse l) ≡ coarse l
  coarse_twice (label.Space n) = refl
  coarse_twice (label.Element n layer) = refl
  coarse_twice label.Earth = refl
  coarse_twice label.Void = refl

  first_is_coarse : (at : Arrow) (first : Label) → IsRational at → IsAhead at first
      → coarse first ≡ first
  first_is_coarse at first at_in is =
      let middle = mediant_between at is.to is.further in
      let same =
      is.label_is (mediant at is.to) (mediant-IsRational at is.to at_in is.rational) middle.0 middle.1
      in
      ap coarse (sym same) ∙ coarse_twice (label_along m r (mediant at is.to)) ∙ same

  -- the stretches of a ray have no layers
  pub stretches_are_coarse : (at : Arrow) → IsRational at → (first : Label) (bs : List (Break Label))
      → IsCutting (λ u. coarse (label_along m r u)) (Some at) None first bs → (ss : List Stretch)
      → AreStretches m r x0 (break_at at first ∷ bs) ss → AreCoarse ss
  stretches_are_coarse at at_in first [] cut [] are = absurd are
  stretches_are_coarse at at_in first [] cut (t ∷ []) are = (
    ap coarse are.0 ∙ first_is_coarse at first at_in (ahead at at_in first [] cut) ∙ sym are.0,
    tt,
  )
  stretches_are_coarse at at_in first [] cut (t ∷ q ∷ ts) are = absurd are
  stretches_are_coarse at at_in first (b ∷ bs) cut [] are = absurd are
  stretches_are_coarse at at_in first (b ∷ bs) cut (t ∷ ts) are = (
    ap coarse are.0 ∙ first_is_coarse at first at_in (ahead at at_in first (b ∷ bs) cut)
        ∙ sym are.0,
    stretches_are_coarse b.start cut.0.positive b.label bs cut.3 ts are.2,
  )

  -- the first stretch has the first label
  pub first_label : (b : Break Label) (bs : List (Break Label)) (t : Stretch) (ts : List Stretch)
      → AreStretches m r x0 (b ∷ bs) (t ∷ ts) → t.label ≡ b.label
  first_label b [] t [] are = are.0
  first_label b [] t (q ∷ ts) are = absurd are
  first_label b (c ∷ bs) t ts are = are.0

  -- ---- the space that begins

  module _ (s : Space) (view : SeesFromFace m r x0 s) (alone : HaveNoOverlap m) where
    -- the space does not begin where it ends
    begins_not_anew : (k : ℕ) → IsAhead ray_start (label.Space k) → s.number ≡ k → ⊥
    begins_not_anew k is same =
        by
        (just_after (view.sees.values s) (view.sees.rational s view.ends.in_model) ray_start is.to
        start_in is.rational is.further)
      where
        start_in : IsRational ray_start
        start_in = omega (arith, ints)

        by : (v : Arrow) × IsJustAfter (view.sees.values s) ray_start is.to v → ⊥
        by (v, after) =
            let middle = mediant_between ray_start v after.after in
            let u = mediant ray_start v in
            let u_in = mediant-IsRational ray_start v start_in after.rational in
            let named =
            only_space k (label_along m r (mediant ray_start v))
            (is.label_is (mediant ray_start v) u_in middle.0
            (below_at_most_trans (mediant ray_start v) v is.to u_in after.rational is.rational middle.1
            after.within))
            in
            let found = space_is_at m (at_depth r (mediant ray_start v)) k named in
            let one =
            one_space m view.sees.model found.space s found.in_model view.ends.in_model
            (found.number_is ∙ sym same)
            in
            let inside =
            subst (λ (x : Space). is_in_solid x.prism (at_depth r (mediant ray_start v)) ≡ true) one
            found.inside
            in
            let parts =
            and_parts (is_odd_below (view.sees.values s) (mediant ray_start v))
            (is_odd_up_to (view.sees.values s) (mediant ray_start v))
            (sym (view.sees.solid_is s view.ends.in_model (mediant ray_start v) u_in) ∙ inside)
            in
            false≢true
            (sym view.ends.up_to ∙ sym (after.below (mediant ray_start v) u_in middle.0 middle.1)
            ∙ parts.0)

    -- the space with this number is not between two depths
    abbrev IsAbsent : ℕ → Arrow → Arrow → Type 0
    IsAbsent k low at =
        (t : Space) → Stands t m.spaces → t.number ≡ k → (u : Arrow) → IsRational u → IsBelow low u
        → IsBelow u at → is_in_solid t.prism (at_depth r u) ≡ true → ⊥

    no_element : (k n : ℕ) → label.Space k ≡ label.Element n 0 → ⊥
    no_element k n same = cc

    -- over elements up to a space, which begins behind them
    begins_behind : (k : ℕ) (a : ℤ) (low : Arrow) → IsRational low → IsBelow low (at_of a)
        → (IsAhead (at_of a) (label.Space k) → IsAbsent k low (at_of a))
        → is_square m r (at_depth r (at_of a)) ≡ true → (first : Label) (bs : List (Break Label))
        → IsCutting (λ u. coarse (label_along m r u)) (Some (at_of a)) None first bs
        → (cs : List Crossing) (far : FarEnd) (beyond : List Stretch)
        → AreStretches m r x0 (break_at (at_of a) first ∷ bs)
        (there cs (stretch (label.Space k) far ∷ beyond))
        → BeginsAt m r view.sees k (at_of (end_position a cs))
        × ((is_square m r (at_depth r (at_of (end_position a cs))) ≡ true)
        × (a ≤ℤ end_position a cs))
    begins_behind k a low low_in wide absent square_at first bs cut [] far beyond are =
        let at_in : IsRational (at_of a) = omega (arith, ints) in
        let named =
        first_label (break_at (at_of a) first) bs (stretch (label.Space k) far) beyond are
        in
        let is : IsAhead (at_of a) (label.Space k) =
        subst (IsAhead (at_of a)) (sym named) (ahead (at_of a) at_in first bs cut) in (
          begins_there m r view.sees alone k low (at_of a) is.to low_in at_in is.rational wide is.further
              (λ u u_in after under.
              only_space k (label_along m r u) (is.label_is u u_in after under)) (absent is),
          (square_at, omega (arith, ints)),
        )
    begins_behind k a low low_in wide absent square_at first [] cut (c ∷ cs) far beyond are =
        absurd (too_short cs are)
      where
        too_short : (ds : List Crossing)
            → AreStretches m r x0 (break_at (at_of a) first ∷ [])
            (there (c ∷ ds) (stretch (label.Space k) far ∷ beyond)) → ⊥
        too_short [] clash = clash
        too_short (d ∷ ds) clash = clash
    begins_behind k a low low_in wide absent square_at first (d ∷ ds) cut (c ∷ cs) far beyond are =
        let start : d.start ≡ at_of c.to = are.1.0 in
        let further : IsBelow (at_of a) (at_of c.to) = subst (IsBelow (at_of a)) start cut.1 in
        let rest =
        begins_behind k c.to (at_of a) (omega (arith, ints)) further
        (λ is t t_in number u u_in after under inside.
        no_element k c.element
        (sym
        (ap coarse
        (label_inside m alone t t_in (at_depth r u) (point_is m r view.sees alone u u_in) inside)
        ∙ ap label.Space number)
        ∙ cut.2 u u_in after (subst (IsBelow u) (sym start) under) ∙ sym are.0))
        (subst (λ u. is_square m r (at_depth r u) ≡ true) start are.1.1) d.label ds
        (subst (λ u. IsCutting (λ v. coarse (label_along m r v)) (Some u) None d.label ds) start cut.3)
        cs far beyond
        (subst
        (λ u.
        AreStretches m r x0 (break_at u d.label ∷ ds)
        (there cs (stretch (label.Space k) far ∷ beyond))) start are.2)
        in
        let spread = cross_eq (at_of a) (at_of c.to) in
        let order = rest.1.1 in (rest.0, (rest.1.0, omega (arith, ints)))

    -- from the start on
    pub begins_on_the_way : (k : ℕ) (first : Label) (bs : List (Break Label))
        → IsCutting (λ u. coarse (label_along m r u)) (Some (rational (x0 -ℤ x0) (pos 1))) None first bs
        → (cs : List Crossing) (far : FarEnd) (beyond : List Stretch)
        → AreStretches m r x0 (break_at (rational (x0 -ℤ x0) (pos 1)) first ∷ bs)
        (there cs (stretch (label.Space k) far ∷ beyond))
        → ArrivesAt m r x0 (end_position x0 cs) k × (x0 ≤ℤ end_position x0 cs)
    begins_on_the_way k first bs cut cs far beyond are =
        let before = label_before_start m r view.sees alone s view.ends in
        let found =
        begins_behind k x0 before.from before.rational (subst (IsBelow before.from) start_is before.before)
        (λ is t t_in number u u_in after under inside.
        begins_not_anew k (subst (λ v. IsAhead v (label.Space k)) (sym start_is) is)
        (alone s t view.ends.in_model t_in (at_depth r u) (point_is m r view.sees alone u u_in)
        (before.inside u u_in after (subst (IsBelow u) (sym start_is) under)) inside
        ∙ number))
        (subst (λ u. is_square m r (at_depth r u) ≡ true) start_is view.square_start) first bs cut cs far
        beyond are
        in
        (view.arrives (end_position x0 cs) k found.0 found.1.0, found.1.1)
      where
        start_is : ray_start ≡ at_of x0
        start_is = ap (λ z. rational z (pos 1)) (none x0)
          where
            none : (z : ℤ) → pos 0 ≡ z -ℤ z
            none z = omega (arith, ints)
