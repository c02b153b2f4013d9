-- The runs of the strips of one slab, on several faces: they lie over the slab; of one face each is
-- under all that follow; those of one mark are apart; and they mark what the strips mark.
use Rattle.std.proofs.Common.{◌≡◌, refl, sym, ◌∙◌, ap, subst, inl, inr, arith, pos, ◌<ℤ◌}
use Rattle.std.proofs.Common.{true, false, List, [], ◌∷◌, map}
use Rattle.std.specs.List.{AllByRecursion}
use Rattle.std.proofs.lemmas.Int.{ints}
use Rattle.std.proofs.lemmas.Bool.{and_parts}
use Rattle.theory_numbers.specs.Arrows.{Arrow}
use Rattle.theory_numbers.specs.Rationals.{IsRational, IsBelow, mediant}
use Rattle.theory_numbers.proofs.Fractions.Rationals.{mediant-IsRational, mediant_between, below_irrefl}
use Rattle.theory_numbers.proofs.Fractions.Rationals.{below_trans}
use Rattle.theory_plane.specs.Sides.{LineSide, clearance_at, value_on}
use Rattle.theory_plane.specs.Points.{FacePoint, IsFacePoint, abscissa_of, ordinate_of, is_on_side}
use Rattle.theory_plane.specs.Points.{is_above_side, is_under_side}
use Rattle.theory_plane.specs.Regions.{is_inside}
use Rattle.theory_plane.proofs.Clearance.{clearance-turn, clearance-self, higher_is}
use Rattle.theory_plane.proofs.Clearance.{value_on-IsRational}
use Rattle.theory_plane.proofs.Points.{above_is, under_is}
use Rattle.theory_lists.specs.Members.{Stands, AllOfTwo}
use Rattle.theory_lists.proofs.Members.{all_stands, all_follow, two_follow, all_images}
use Rattle.theory_patches.specs.Sheets.{Sheet, IsMarkedAt}
use Rattle.theory_joining.specs.Runs.{IsRunOver, IsInSlab, AreApartIfAlike}
use Rattle.theory_joining.specs.Cells.{IsUnder, IsOfCuts, runs_of}
use Rattle.theory_joining.proofs.MarksOfPut.{inside_parts, IsInsideBy}
use Rattle.theory_joining.proofs.RunsStayApart.{runs_are_runs, runs_rise, runs_are_settled}
use Rattle.theory_joining.proofs.RunsStayApart.{runs_are_apart, run_is_open}
use Rattle.theory_joining.proofs.RunsKeepMarks.{runs_mark, runs_mark_no_more}
use Rattle.theory_joining.proofs.RunsOfCells.{listed_is_of_cuts}
use Rattle.sb_model.specs.declared.faces.face.Face.{Face}
use Rattle.theory_faces.specs.Strips.{Mark, Strip, is_same_mark, runs_over}
use Rattle.theory_faces.proofs.MarksTold.{mark_tells, face_tells}
use Rattle.theory_faces.proofs.NoSeamInOrder.{HaveOneKey}
use Rattle.theory_faces.proofs.ByFace.{is_of, of_face, all_pass_there, all_filtered, two_filtered}
use Rattle.theory_faces.proofs.ByFace.{two_by_face, marked_of_face, marked_in_whole}
use Rattle.theory_faces.proofs.ByFace.{runs_alike, FacesRise, runs_of_face}

-- of one face the first is under the second
abbrev pub IsUnderOnFace : Arrow → Arrow → Strip → Strip → Type 0
IsUnderOnFace low high c d = c.mark.face ≡ d.mark.face → IsUnder low high c d

-- the strips of one slab
pub record AreOfSlab (low high : Arrow) (cs : List Strip) : Type 0 where
  pub low_in : IsRational low
  pub high_in : IsRational high
  pub wide : IsBelow low high
  pub strips : AllByRecursion (λ c. IsRunOver low high c.region) cs
  pub faces : AllOfTwo FacesRise cs
  pub under : AllOfTwo (IsUnderOnFace low high) cs

module _ (low high : Arrow) (cs : List Strip) (slab : AreOfSlab low high cs) where
  -- the runs are those that the theory of joining speaks of
  pub slab_runs : runs_over cs ≡ runs_of is_same_mark cs
  slab_runs =
      runs_alike low high cs
      (all_follow (λ c is. record { begins = is.begins; ends = is.ends }) cs slab.strips)

  -- they lie over the slab
  pub runs_lie_over : AllByRecursion (λ r. IsRunOver low high r.region) (runs_over cs)
  runs_lie_over =
      subst (AllByRecursion (λ (r : Strip). IsRunOver low high r.region)) (sym slab_runs)
      (runs_are_runs low high is_same_mark mark_tells cs slab.strips)

  module _ (f : Face) where
    own_strips : AllByRecursion (λ c. IsRunOver low high c.region) (of_face f cs)
    own_strips = all_filtered (is_of f) (λ c. IsRunOver low high c.region) cs slab.strips

    own_rise : AllOfTwo (IsUnder low high) (of_face f cs)
    own_rise =
        two_follow (IsUnderOnFace low high) (IsUnder low high) (of_face f cs)
        (λ c d at_c at_d under.
        under
        ((face_tells c.mark.face f).0
        (all_stands (λ x. is_of f x ≡ true) c (of_face f cs) (all_pass_there (is_of f) cs) at_c)
        ∙ sym ((face_tells d.mark.face f).0
        (all_stands (λ x. is_of f x ≡ true) d (of_face f cs) (all_pass_there (is_of f) cs) at_d))))
        (two_filtered (is_of f) (IsUnderOnFace low high) cs slab.under)

    own_runs : of_face f (runs_of is_same_mark cs) ≡ runs_of is_same_mark (of_face f cs)
    own_runs = runs_of_face f cs slab.faces

    runs_rise_on : AllOfTwo (IsUnder low high) (of_face f (runs_of is_same_mark cs))
    runs_rise_on =
        subst (AllOfTwo (IsUnder low high)) (sym own_runs)
        (runs_rise is_same_mark low high (of_face f cs) own_rise)

    runs_apart_on : (sheet : Sheet)
        → AllOfTwo (AreApartIfAlike sheet) (of_face f (runs_of is_same_mark cs))
    runs_apart_on sheet =
        subst (AllOfTwo (AreApartIfAlike sheet)) (sym own_runs)
        (runs_are_apart low high is_same_mark mark_tells sheet (runs_of is_same_mark (of_face f cs))
        (runs_are_runs low high is_same_mark mark_tells (of_face f cs) own_strips)
        (runs_rise is_same_mark low high (of_face f cs) own_rise)
        (runs_are_settled is_same_mark mark_tells (of_face f cs)))

  -- of one face each is under all that follow
  pub runs_under : AllOfTwo (IsUnderOnFace low high) (runs_over cs)
  runs_under =
      subst (AllOfTwo (IsUnderOnFace low high)) (sym slab_runs)
      (two_by_face (IsUnder low high) (runs_of is_same_mark cs) runs_rise_on)

  -- those of one mark are apart
  pub runs_apart : (sheet : Sheet) → AllOfTwo (AreApartIfAlike sheet) (runs_over cs)
  runs_apart sheet =
      subst (AllOfTwo (AreApartIfAlike sheet)) (sym slab_runs)
      (two_follow (λ p q. p.mark.face ≡ q.mark.face → AreApartIfAlike sheet p q)
      (AreApartIfAlike sheet) (runs_of is_same_mark cs)
      (λ p q at_p at_q apart alike. apart (ap (λ m. m.face) alike) alike)
      (two_by_face (AreApartIfAlike sheet) (runs_of is_same_mark cs)
      (λ f. runs_apart_on f sheet)))

  -- ---- marks

  module _ (point : FacePoint) (point_in : IsFacePoint point) (inside : IsInSlab low high point)
      (mark : Mark) where
    -- what the strips mark, the runs mark
    pub runs_have_marks : IsMarkedAt cs point mark → IsMarkedAt (runs_over cs) point mark
    runs_have_marks marked =
        subst (λ rs. IsMarkedAt rs point mark) (sym slab_runs)
        (runs_mark low high is_same_mark mark_tells point point_in inside mark cs slab.strips marked)

    -- and nothing else, off the upper sides of the strips of this face
    pub runs_have_no_more
        : AllByRecursion (λ c. is_on_side c.region.upper point ≡ false) (of_face mark.face cs)
        → IsMarkedAt (runs_over cs) point mark → IsMarkedAt cs point mark
    runs_have_no_more off marked =
        let own = of_face mark.face cs in
        let sheet : Sheet =
        record { abscissae = []; cuts = map (λ (c : Strip). c.region.upper) own } in
        marked_in_whole mark.face cs point mark
        (runs_mark_no_more low high is_same_mark mark_tells point point_in inside mark sheet
        (record {
          no_abscissa = tt;
          no_cut =
              all_images (λ cut. is_on_side cut point ≡ false) (λ (c : Strip). c.region.upper) own
              off;
        })
        own (own_strips mark.face) (of_cuts own (map (λ (c : Strip). c.region.upper) own)
        (each_listed own))
        (subst (λ rs. IsMarkedAt rs point mark) (own_runs mark.face)
        (marked_of_face (runs_of is_same_mark cs) point mark
        (subst (λ rs. IsMarkedAt rs point mark) slab_runs marked))))
      where
        each_listed : (xs : List Strip)
            → AllByRecursion (λ c. Stands c.region.upper (map (λ (d : Strip). d.region.upper) xs)) xs
        each_listed [] = tt
        each_listed (x ∷ xs) = (inl refl, all_follow (λ c there. inr there) xs (each_listed xs))

        of_cuts : (xs : List Strip) (cuts : List LineSide)
            → AllByRecursion (λ c. Stands c.region.upper cuts) xs
            → AllByRecursion (λ c. IsOfCuts (record { abscissae = []; cuts = cuts }) c.region.upper)
            xs
        of_cuts xs cuts all =
            all_follow
            (λ c at.
            listed_is_of_cuts (record { abscissae = []; cuts = cuts }) c.region.upper at) xs all

-- ---- two runs of a slab, the first under the second

module _ (low high : Arrow) (low_in : IsRational low) (high_in : IsRational high)
    (wide : IsBelow low high) (p q : Strip) (p_is : IsRunOver low high p.region)
    (q_is : IsRunOver low high q.region) (under : IsUnder low high p q) where
  -- they don't have one pair of sides
  pub under_has_other_key : HaveOneKey p q → ⊥
  under_has_other_key key = from under
    where
      m : Arrow
      m = mediant low high

      m_in : IsRational m
      m_in = mediant-IsRational low high low_in high_in

      open_there : pos 0 <ℤ clearance_at p.region.lower p.region.upper m
      open_there =
          let between = mediant_between low high wide in
          run_is_open low high p.region p_is m m_in between.0 between.1

      from : IsUnder low high p q → ⊥
      from (inl touch) =
          let none = clearance-self p.region.lower m in
          let above : pos 0 <ℤ clearance_at p.region.lower p.region.lower m =
          subst (λ l. pos 0 <ℤ clearance_at p.region.lower l m) (touch ∙ sym key.1.0) open_there in
          omega (arith, ints)
      from (inr clear) =
          let between = mediant_between low high wide in
          let turned = clearance-turn p.region.lower p.region.upper m in
          let back : pos 0 <ℤ clearance_at p.region.upper p.region.lower m =
          subst (λ l. pos 0 <ℤ clearance_at p.region.upper l m) (sym key.1.0)
          (clear m m_in between.0 between.1) in
          let there = open_there in
          omega (arith, ints)

  -- and contain no common point
  pub under_has_other_points : (point : FacePoint) → IsFacePoint point
      → is_inside p.region point ≡ true → is_inside q.region point ≡ true → ⊥
  under_has_other_points point point_in at_p at_q = from under
    where
      first : IsInsideBy p.region point
      first = inside_parts p.region point at_p

      second : IsInsideBy q.region point
      second = inside_parts q.region point at_q

      u : Arrow
      u = abscissa_of point

      below_upper : IsBelow (ordinate_of point) (value_on p.region.upper u)
      below_upper =
          (under_is p.region.upper point point_in).0
          (and_parts (is_above_side p.region.lower point) (is_under_side p.region.upper point)
          first.sides).1

      above_lower : IsBelow (value_on q.region.lower u) (ordinate_of point)
      above_lower =
          (above_is q.region.lower point point_in).0
          (and_parts (is_above_side q.region.lower point) (is_under_side q.region.upper point)
          second.sides).0

      lower_in : IsRational (value_on q.region.lower u)
      lower_in =
          value_on-IsRational q.region.lower u q_is.patch.region.lower_in point_in

      upper_in : IsRational (value_on p.region.upper u)
      upper_in =
          value_on-IsRational p.region.upper u p_is.patch.region.upper_in point_in

      crossed : IsBelow (value_on q.region.lower u) (value_on p.region.upper u)
      crossed =
          below_trans (value_on q.region.lower u) (ordinate_of point) (value_on p.region.upper u)
          lower_in point_in upper_in above_lower below_upper

      from : IsUnder low high p q → ⊥
      from (inl touch) =
          below_irrefl (value_on q.region.lower u)
          (subst (λ l. IsBelow (value_on q.region.lower u) (value_on l u)) touch crossed)
      from (inr clear) =
          below_irrefl (value_on q.region.lower u)
          (below_trans (value_on q.region.lower u) (value_on p.region.upper u)
          (value_on q.region.lower u) lower_in upper_in lower_in crossed
          ((higher_is p.region.upper q.region.lower u point_in).1
          (clear u point_in (subst (λ n. IsBelow n u) p_is.begins first.after)
          (subst (λ n. IsBelow u n) p_is.ends first.before))))
