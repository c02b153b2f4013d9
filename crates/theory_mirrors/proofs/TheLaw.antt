-- The law of reversed walks, for a ray of which is known what it sees from the face on and on which face
-- it arrives.
use Rattle.std.proofs.Common.{◌≡◌, refl, sym, ap, ap₂, ◌∙◌, arith, subst, subst₂, ◌↔◌, ℕ, ℤ, pos, neg_ℤ}
use Rattle.std.proofs.Common.{◌+ℤ◌, ◌-ℤ◌, ◌*ℤ◌, ◌<ℤ◌, ◌≤ℤ◌, true, IsTrue, List, [], ◌∷◌, Some, None}
use Rattle.std.proofs.Common.{reverse}
use Rattle.std.proofs.lemmas.Int.{ints}
use Rattle.theory_numbers.specs.Arrows.{Arrow}
use Rattle.theory_numbers.specs.Rationals.{IsRational, IsBelow, rational}
use Rattle.theory_numbers.proofs.Products.{zero_of_positive}
use Rattle.theory_numbers.proofs.Shapes.{var, num, plus, minus, times, negated, equal, cross_eq}
use Rattle.theory_cuttings.specs.Cuttings.{Break, IsReducedCutting}
use Rattle.theory_cuttings.specs.Changes.{break_at, label_after, breaks_after}
use Rattle.theory_cuttings.specs.Passages.{ray_start}
use Rattle.theory_cuttings.proofs.Ends.{IsBetween, below_two_ends}
use Rattle.sb_fraction.specs.Spots.{Spot, IsSpot, Vector, inner, opposite, along, times_w}
use Rattle.sb_model.specs.declared.labels.label.Label.{Label}
use Rattle.sb_model.specs.declared.labels.label.Label.TheVariants as label
use Rattle.sb_model.specs.declared.products.Space.{Space}
use Rattle.sb_model.specs.declared.walk.End.TheVariants as end
use Rattle.sb_model.specs.declared.walk.Walk.{Walk}
use Rattle.sb_model.specs.Building.{Building, is_building}
use Rattle.sb_model.specs.Surfaces.Faces.{Surface}
use Rattle.sb_model.specs.Passages.{Ray, ray_from, at_depth, ArePassages}
use Rattle.sb_model.specs.Walks.{course, course_of, is_square, IsWalkOf}
use Rattle.sb_model.specs.Surfaces.PlainPoints.{is_plain}
use Rattle.theory_models.proofs.RaysAlike.{along_is_spot}
use Rattle.theory_sight.specs.Coarse.{coarse}
use Rattle.theory_sight.specs.Reading.{FarEnd, Stretch, stretch, Crossing, end_position, there, back, read}
use Rattle.theory_sight.specs.Reading.{AreStretches, all_items}
use Rattle.theory_sight.proofs.Crossings.CrossingItems.{IsSeen}
use Rattle.theory_sight.proofs.Crossings.LayeredItems.{reading_at_depth}
use Rattle.theory_sight.proofs.ReadBack.{there_and_back}
use Rattle.theory_sight.proofs.WalkIsRead.{walk_is_read}
use Rattle.theory_gaps.proofs.Rays.RaysWithBorders.{HasColumn}
use Rattle.theory_gaps.proofs.OneWalkEach.{IsRead, plain_is_read}
use Rattle.theory_mirrors.specs.Laws.{HaveNoOverlap, HasWayBack, walk_back}
use Rattle.theory_mirrors.proofs.SeenFromBehind.{back_from, cross-back, back-back, back-whole, ray_there}
use Rattle.theory_mirrors.proofs.SeenFromBehind.{ray_back, label_back}
use Rattle.theory_mirrors.proofs.RaysOfFaces.SpacesAlongARay.{SeesSpaces, LabelBefore, label_before_start}
use Rattle.theory_mirrors.proofs.WalkedBack.{reduced_from, stretches_from, IsBackFrom, over_all}
use Rattle.theory_mirrors.proofs.WalksToSpaces.{PassesTo, passes_to_space}
use Rattle.theory_mirrors.proofs.RaysOfFaces.WaysFromFaces.{ArrivesAt, SeesFromFace, IsAhead, ahead, first_label}
use Rattle.theory_mirrors.proofs.RaysOfFaces.WaysFromFaces.{stretches_are_coarse, begins_on_the_way}
use Rattle.theory_sight.specs.Crossings.{StartsAt, label_along}

-- ---- a ray from a known position

-- a ray begins at one position
one_start : (r : Ray) → IsSpot r.start → (x y : ℤ) → StartsAt r x → StartsAt r y → x ≡ y
one_start r r_is x y at_x at_y =
    let none = zero_of_positive r.start.w (x -ℤ y) r_is (same ∙ omega (arith, ints, at_x, at_y)) in
    omega (arith, ints)
  where
    same : r.start.w *ℤ (x -ℤ y) ≡ (x *ℤ r.start.w) -ℤ (y *ℤ r.start.w)
    same =
        equal (times (var r.start.w) (minus (var x) (var y)))
        (minus (times (var x) (var r.start.w)) (times (var y) (var r.start.w))) (omega arith)

-- passages and the walk as it is read, from this position
pub record ReadFrom (m : Building) (r : Ray) (x0 : ℤ) : Type 0 where
  pub passages : (breaks : List (Break Label)) × ArePassages m r breaks
  pub stretches : List Stretch
  pub column : HasColumn m r x0 stretches
  pub walks : (w : Walk) → IsWalkOf m r w ↔ (course_of w ≡ read m r.normal x0 x0 stretches)

pub read_from : (m : Building) (r : Ray) (x0 : ℤ) → StartsAt r x0 → IsRead m r → ReadFrom m r x0
read_from m r x0 starts is =
    let same = one_start r is.column.seen.start is.x0 x0 is.column.seen.starts starts in
    record {
      passages = is.passages;
      stretches = is.stretches;
      column = subst (λ x. HasColumn m r x is.stretches) same is.column;
      walks =
          λ w.
          subst (λ x. IsWalkOf m r w ↔ (course_of w ≡ read m r.normal x x is.stretches)) same
          (is.walks w);
    }

-- ---- the ray back begins at the position where this one arrives

module _ (p : Spot) (n : Vector) (x0 y : ℤ) (starts : StartsAt (ray_from p n) x0) where
  abbrev q : Spot
  q = along p n (rational (y -ℤ x0) (pos 1))

  read_at_end : times_w q n ≡ y *ℤ q.w
  read_at_end =
      let same = reading_at_depth (ray_from p n) x0 starts (rational (y -ℤ x0) (pos 1)) in
      ap (λ a. a.y) same ∙ whole (p.w *ℤ inner n n) x0 y ∙ ap (λ k. y *ℤ k) (sym (ap (λ a. a.x) same))
    where
      whole : (k x y : ℤ)
          → k *ℤ ((y -ℤ x) +ℤ (x *ℤ pos 1)) ≡ y *ℤ (k *ℤ pos 1)
      whole k x y =
          equal (times (var k) (plus (minus (var y) (var x)) (times (var x) (num 1))))
          (times (var y) (times (var k) (num 1))) (omega arith)

  pub back_starts : StartsAt (ray_back p n (y -ℤ x0)) (neg_ℤ y)
  back_starts = turned q.x q.y q.z q.w n.x n.y n.z y read_at_end
    where
      turned : (x y z w a b c at : ℤ) → ((x *ℤ a) +ℤ (y *ℤ b)) +ℤ (z *ℤ c) ≡ at *ℤ w
          → ((x *ℤ neg_ℤ a) +ℤ (y *ℤ neg_ℤ b)) +ℤ (z *ℤ neg_ℤ c) ≡ neg_ℤ at *ℤ w
      turned x y z w a b c at same =
          let left =
          equal
          (plus (plus (times (var x) (negated (var a))) (times (var y) (negated (var b))))
          (times (var z) (negated (var c))))
          (negated
          (plus (plus (times (var x) (var a)) (times (var y) (var b))) (times (var z) (var c))))
          (omega arith)
          in
          let right = equal (times (negated (var at)) (var w)) (negated (times (var at) (var w))) (omega arith)
          in
          omega (arith, ints)

-- ---- what is seen from the end

-- behind the end of the way lies what the way came from
pub record SeesHome (m : Building) (p : Spot) (n : Vector) (x0 y : ℤ) (k : ℕ) : Type 0 where
  pub label_back : Label
  pub breaks_back : List (Break Label)
  pub near : FarEnd
  pub before : List Stretch
  pub cut_back :
      IsReducedCutting (λ u. coarse (label_along m (ray_back p n (y -ℤ x0)) u))
      (Some (rational (y -ℤ x0) (pos 1))) None label_back breaks_back
  pub named : label_back ≡ label.Space k
  pub are_back : AreStretches m (ray_back p n (y -ℤ x0)) (neg_ℤ y)
      (break_at (rational (y -ℤ x0) (pos 1)) label_back ∷ breaks_back)
      (stretch (label.Space k) near ∷ before)

module _ (m : Building) (p : Spot) (n : Vector) (x0 y : ℤ) (seen : IsSeen m (ray_there p n (y -ℤ x0)) x0)
    (order : x0 ≤ℤ y) (home : ReadFrom m (ray_back p n (y -ℤ x0)) (neg_ℤ y)) where
  abbrev f_home : Arrow → Label
  f_home u = coarse (label_along m (ray_back p n (y -ℤ x0)) u)

  from_start : back_from (y -ℤ x0) ray_start ≡ rational (y -ℤ x0) (pos 1)
  from_start = back-whole (y -ℤ x0) (pos 0) ∙ ap (λ z. rational z (pos 1)) (less_none (y -ℤ x0))
    where
      less_none : (z : ℤ) → z -ℤ pos 0 ≡ z
      less_none z = omega (arith, ints)

  start_in : IsRational (rational (y -ℤ x0) (pos 1))
  start_in = omega (arith, ints)

  cut_back : IsReducedCutting (λ u. coarse (label_along m (ray_back p n (y -ℤ x0)) u))
      (Some (rational (y -ℤ x0) (pos 1))) None
      (label_after (rational (y -ℤ x0) (pos 1)) home.column.first home.column.breaks)
      (breaks_after (rational (y -ℤ x0) (pos 1)) home.column.breaks)
  cut_back =
      reduced_from f_home ray_start (rational (y -ℤ x0) (pos 1)) (omega (arith, ints)) start_in
      (let spread = cross_eq ray_start (rational (y -ℤ x0) (pos 1)) in omega (arith, ints))
      home.column.first home.column.breaks home.column.column

  -- just behind the start lies the space that ends there
  module _ (sees : SeesSpaces m (ray_there p n (y -ℤ x0))) (alone : HaveNoOverlap m) (s : Space)
      (before : LabelBefore m (ray_there p n (y -ℤ x0)) sees alone s) where
    abbrev far : Arrow
    far = back_from (y -ℤ x0) before.from

    wide : IsBelow (rational (y -ℤ x0) (pos 1)) (back_from (y -ℤ x0) before.from)
    wide =
        subst (λ t. IsBelow t (back_from (y -ℤ x0) before.from)) from_start
        (subst (λ c. pos 0 <ℤ c) (sym (cross-back (y -ℤ x0) ray_start before.from)) before.before)

    label_there : (u : Arrow) → IsRational u → IsBelow (rational (y -ℤ x0) (pos 1)) u
        → IsBelow u (back_from (y -ℤ x0) before.from)
        → coarse (label_along m (ray_back p n (y -ℤ x0)) u) ≡ label.Space s.number
    label_there u u_in after under =
        ap coarse
        (label_back p n (y -ℤ x0) m seen.some u
        ∙ before.label_is (back_from (y -ℤ x0) u) u_in
        (subst (λ t. IsBelow t (back_from (y -ℤ x0) u)) (back-back (y -ℤ x0) before.from)
        (subst (λ c. pos 0 <ℤ c)
        (sym (cross-back (y -ℤ x0) (back_from (y -ℤ x0) before.from) u)) under))
        (subst (IsBelow (back_from (y -ℤ x0) u)) (back-back (y -ℤ x0) ray_start)
        (subst (λ c. pos 0 <ℤ c)
        (sym (cross-back (y -ℤ x0) u (back_from (y -ℤ x0) ray_start)))
        (subst (λ t. IsBelow t u) (sym from_start) after))))

    label_home : label_after (rational (y -ℤ x0) (pos 1)) home.column.first home.column.breaks
        ≡ label.Space s.number
    label_home =
        let is =
        ahead m (ray_back p n (y -ℤ x0)) (neg_ℤ y) (rational (y -ℤ x0) (pos 1)) start_in
        (label_after (rational (y -ℤ x0) (pos 1)) home.column.first home.column.breaks)
        (breaks_after (rational (y -ℤ x0) (pos 1)) home.column.breaks) cut_back.cutting
        in
        by is
        (below_two_ends (Some (rational (y -ℤ x0) (pos 1))) (Some is.to) (Some far) start_in is.rational
        before.rational is.further wide)
      where
        by : (is : IsAhead m (ray_back p n (y -ℤ x0)) (neg_ℤ y) (rational (y -ℤ x0) (pos 1))
            (label_after (rational (y -ℤ x0) (pos 1)) home.column.first home.column.breaks))
            → (u : Arrow) × (IsBetween (Some (rational (y -ℤ x0) (pos 1))) (Some is.to) u
            × IsBetween (Some (rational (y -ℤ x0) (pos 1)))
            (Some (back_from (y -ℤ x0) before.from)) u)
            → label_after (rational (y -ℤ x0) (pos 1)) home.column.first home.column.breaks
            ≡ label.Space s.number
        by is (u, at) =
            sym (is.label_is u at.0.rational at.0.after at.0.before)
            ∙ label_there u at.0.rational at.0.after at.1.before

    same_stretch : (t : Stretch) (l : Label) → t.label ≡ l → t ≡ stretch l t.far
    same_stretch t l same =
        let whole : stretch t.label t.far ≡ stretch l t.far = ap (λ x. stretch x t.far) same in whole

    -- so the stretches go on with it
    pub sees_home : SeesHome m p n x0 y s.number
    sees_home =
        by
        (stretches_from m (ray_back p n (y -ℤ x0)) (neg_ℤ y) (rational (y -ℤ x0) (pos 1)) ray_start
        home.column.first home.column.breaks home.stretches home.column.are)
      where
        first_back : Label
        first_back = label_after (rational (y -ℤ x0) (pos 1)) home.column.first home.column.breaks

        rest_back : List (Break Label)
        rest_back = breaks_after (rational (y -ℤ x0) (pos 1)) home.column.breaks

        by : (ts : List Stretch)
            × AreStretches m (ray_back p n (y -ℤ x0)) (neg_ℤ y)
            (break_at (rational (y -ℤ x0) (pos 1))
            (label_after (rational (y -ℤ x0) (pos 1)) home.column.first home.column.breaks)
            ∷ breaks_after (rational (y -ℤ x0) (pos 1)) home.column.breaks) ts
            → SeesHome m p n x0 y s.number
        by ([], are) =
            absurd
            (no_stretches (breaks_after (rational (y -ℤ x0) (pos 1)) home.column.breaks) are)
          where
            no_stretches : (bs : List (Break Label))
                → AreStretches m (ray_back p n (y -ℤ x0)) (neg_ℤ y)
                (break_at (rational (y -ℤ x0) (pos 1))
                (label_after (rational (y -ℤ x0) (pos 1)) home.column.first home.column.breaks) ∷ bs) []
                → ⊥
            no_stretches [] clash = clash
            no_stretches (b ∷ bs) clash = clash
        by (t ∷ ts, are) =
            let same =
            first_label m (ray_back p n (y -ℤ x0)) (neg_ℤ y)
            (break_at (rational (y -ℤ x0) (pos 1))
            (label_after (rational (y -ℤ x0) (pos 1)) home.column.first home.column.breaks))
            (breaks_after (rational (y -ℤ x0) (pos 1)) home.column.breaks) t ts are
            ∙ label_home
            in
            record {
              label_back = label_after (rational (y -ℤ x0) (pos 1)) home.column.first home.column.breaks;
              breaks_back = breaks_after (rational (y -ℤ x0) (pos 1)) home.column.breaks;
              near = t.far;
              before = ts;
              cut_back = cut_back;
              named = label_home;
              are_back =
                  subst
                  (λ x.
                  AreStretches m (ray_back p n (y -ℤ x0)) (neg_ℤ y)
                  (break_at (rational (y -ℤ x0) (pos 1))
                  (label_after (rational (y -ℤ x0) (pos 1)) home.column.first home.column.breaks)
                  ∷ breaks_after (rational (y -ℤ x0) (pos 1)) home.column.breaks) (x ∷ ts))
                  (same_stretch t (label.Space s.number) same) are;
            }

-- ---- the law

module _ (m : Building) (valid : IsTrue (is_building m)) (alone : HaveNoOverlap m) (s : Space)
    (f : Surface) (p : Spot) (p_is : IsSpot p) (starts : StartsAt (ray_from p f.normal) f.position)
    (is : ReadFrom m (ray_from p f.normal) f.position)
    (view : SeesFromFace m (ray_from p f.normal) f.position s) (w : Walk)
    (walks : IsWalkOf m (ray_from p f.normal) w) (to : ℕ) (ends : w.end ≡ end.Space to) where
  abbrev n : Vector
  n = f.normal

  abbrev x0 : ℤ
  x0 = f.position

  abbrev r : Ray
  r = ray_from p f.normal

  course_is : course_of w ≡ read m f.normal f.position f.position is.stretches
  course_is = (is.walks w).0 walks

  start_is : ray_start ≡ rational (f.position -ℤ f.position) (pos 1)
  start_is = ap (λ z. rational z (pos 1)) (none f.position)
    where
      none : (z : ℤ) → pos 0 ≡ z -ℤ z
      none z = omega (arith, ints)

  passes : PassesTo m f.normal f.position is.stretches to
  passes =
      passes_to_space m f.normal f.position to f.position is.stretches
      (stretches_are_coarse m (ray_from p f.normal) f.position ray_start (omega (arith, ints))
      is.column.first is.column.breaks is.column.column.cutting is.stretches is.column.are)
      (ap (λ c. c.end) (sym course_is) ∙ ends)

  module _ (passes : PassesTo m f.normal f.position is.stretches to) where
    abbrev cs : List Crossing
    cs = passes.crossings

    abbrev y : ℤ
    y = end_position f.position passes.crossings

    abbrev deep : ℤ
    deep = end_position f.position passes.crossings -ℤ f.position

    abbrev further : List Stretch
    further = stretch (label.Space to) passes.far ∷ passes.beyond

    cut_there : IsReducedCutting (λ u. coarse (label_along m (ray_from p f.normal) u))
        (Some (rational (f.position -ℤ f.position) (pos 1))) None is.column.first is.column.breaks
    cut_there =
        subst
        (λ t.
        IsReducedCutting (λ u. coarse (label_along m (ray_from p f.normal) u)) (Some t) None
        is.column.first is.column.breaks) start_is is.column.column

    are_there : AreStretches m (ray_from p f.normal) f.position
        (break_at (rational (f.position -ℤ f.position) (pos 1)) is.column.first ∷ is.column.breaks)
        (there passes.crossings (stretch (label.Space to) passes.far ∷ passes.beyond))
    are_there =
        subst₂
        (λ t ss.
        AreStretches m (ray_from p f.normal) f.position (break_at t is.column.first ∷ is.column.breaks)
        ss) start_is passes.stretches_are is.column.are

    arrives : ArrivesAt m (ray_from p f.normal) f.position
        (end_position f.position passes.crossings) to
        × (f.position ≤ℤ end_position f.position passes.crossings)
    arrives =
        begins_on_the_way m (ray_from p f.normal) f.position s view alone to is.column.first
        is.column.breaks cut_there.cutting passes.crossings passes.far passes.beyond are_there

    module _ (on : ArrivesAt m (ray_from p f.normal) f.position
        (end_position f.position passes.crossings) to)
        (order : f.position ≤ℤ end_position f.position passes.crossings) where
      q_is : IsSpot (along p f.normal
          (rational (end_position f.position passes.crossings -ℤ f.position) (pos 1)))
      q_is =
          along_is_spot p f.normal
          (rational (end_position f.position passes.crossings -ℤ f.position) (pos 1)) p_is
          is.column.seen.some (omega (arith, ints))

      home : ReadFrom m (ray_back p f.normal deep) (neg_ℤ y)
      home =
          read_from m (ray_back p f.normal deep) (neg_ℤ y) (back_starts p f.normal f.position y starts)
          (subst (λ v. IsRead m (ray_from (along p f.normal (rational deep (pos 1))) v)) on.faces_back
          (plain_is_read m valid on.space on.kind on.surface on.surface_is
          (along p f.normal (rational deep (pos 1))) q_is on.plain))

      seen_home : SeesHome m p f.normal f.position y s.number
      seen_home =
          sees_home m p f.normal f.position y is.column.seen order home view.sees alone s
          (label_before_start m (ray_from p f.normal) view.sees alone s view.ends)

      no_element : (l : ℕ) → label.Element l 0 ≡ label.Space s.number → ⊥
      no_element l same = cc

      back_again : IsBackFrom m p f.normal f.position y is.column.seen f.position passes.crossings
          (stretch (label.Space s.number) seen_home.near ∷ seen_home.before)
      back_again =
          over_all m p f.normal f.position y is.column.seen f.position passes.crossings
          (stretch (label.Space to) passes.far) passes.beyond
          (stretch (label.Space s.number) seen_home.near ∷ seen_home.before) refl passes.passed
          (record {
            label_there = is.column.first;
            breaks_there = is.column.breaks;
            cut_there = cut_there;
            are_there = are_there;
            square_here = subst (λ u. is_square m r (at_depth r u) ≡ true) start_is view.square_start;
            label_back = seen_home.label_back;
            breaks_back = seen_home.breaks_back;
            cut_back = seen_home.cut_back;
            are_back = seen_home.are_back;
            differ = λ l named same. no_element l (sym named ∙ same ∙ seen_home.named);
          })

      both : (read m f.normal f.position f.position
          (there passes.crossings (stretch (label.Space to) passes.far ∷ passes.beyond))
          ≡ course (all_items m f.normal f.position passes.crossings)
          (rational (end_position f.position passes.crossings -ℤ f.position) (pos 1)) (end.Space to))
          × (read m (opposite f.normal) (neg_ℤ (end_position f.position passes.crossings))
          (neg_ℤ (end_position f.position passes.crossings))
          (back f.position passes.crossings
          (stretch (label.Space s.number) seen_home.near ∷ seen_home.before))
          ≡ course (reverse (all_items m f.normal f.position passes.crossings))
          (rational (end_position f.position passes.crossings -ℤ f.position) (pos 1))
          (end.Space s.number))
      both =
          there_and_back m f.normal f.position passes.crossings s.number to passes.far seen_home.near
          passes.beyond seen_home.before passes.passed back_again.within

      went : course_of w
          ≡ course (all_items m f.normal f.position passes.crossings)
          (rational (end_position f.position passes.crossings -ℤ f.position) (pos 1)) (end.Space to)
      went = course_is ∙ ap (read m f.normal f.position f.position) passes.stretches_are ∙ both.0

      depth_is : w.depth ≡ end_position f.position passes.crossings -ℤ f.position
      depth_is = ap (λ c. c.depth.y) went

      goes_back : course_of (walk_back w s.number)
          ≡ read m (opposite f.normal) (neg_ℤ y) (neg_ℤ y)
          (back f.position passes.crossings
          (stretch (label.Space s.number) seen_home.near ∷ seen_home.before))
      goes_back =
          ap₂ (λ items z. course items (rational z (pos 1)) (end.Space s.number))
          (ap (λ c. reverse c.items) went) depth_is
          ∙ sym both.1

      walks_back : IsWalkOf m (ray_back p f.normal deep) (walk_back w s.number)
      walks_back =
          by home.passages
        where
          end_is : rational (y -ℤ y) (pos 1) ≡ ray_start
          end_is = ap (λ z. rational z (pos 1)) (none y)
            where
              none : (z : ℤ) → z -ℤ z ≡ pos 0
              none z = omega (arith, ints)

          by : (breaks : List (Break Label))
              × ArePassages m
              (ray_back p f.normal (end_position f.position passes.crossings -ℤ f.position)) breaks
              → IsWalkOf m (ray_back p f.normal (end_position f.position passes.crossings -ℤ f.position))
              (walk_back w s.number)
          by (breaks, passages) =
              (walk_is_read m (ray_back p f.normal deep) (neg_ℤ y) home.column.seen breaks passages
              back_again.first back_again.breaks
              (subst
              (λ t.
              IsReducedCutting (λ u. coarse (label_along m (ray_back p f.normal deep) u)) (Some t) None
              back_again.first back_again.breaks) end_is back_again.cut)
              (back f.position passes.crossings
              (stretch (label.Space s.number) seen_home.near ∷ seen_home.before))
              (subst
              (λ t.
              AreStretches m (ray_back p f.normal deep) (neg_ℤ y)
              (break_at t back_again.first ∷ back_again.breaks)
              (back f.position passes.crossings
              (stretch (label.Space s.number) seen_home.near ∷ seen_home.before))) end_is back_again.are)
              (walk_back w s.number)).1
              goes_back

      way_back : HasWayBack m f w s.number to (along p f.normal (rational w.depth (pos 1)))
      way_back = record {
        space = on.space;
        in_model = on.in_model;
        number_is = on.number_is;
        kind = on.kind;
        surface = on.surface;
        surface_is = on.surface_is;
        faces_back = on.faces_back;
        far_away =
            let far = on.far_away in
            let depth = depth_is in omega (arith, ints);
        plain =
            subst
            (λ z. is_plain m on.space.prism on.kind (along p f.normal (rational z (pos 1))) ≡ true)
            (sym depth_is) on.plain;
        walk =
            subst
            (λ z.
            IsWalkOf m (ray_from (along p f.normal (rational z (pos 1))) on.surface.normal)
            (walk_back w s.number)) (sym depth_is)
            (subst
            (λ v. IsWalkOf m (ray_from (along p f.normal (rational deep (pos 1))) v) (walk_back w s.number))
            (sym on.faces_back) walks_back);
      }

    way_back_found : HasWayBack m f w s.number to (along p f.normal (rational w.depth (pos 1)))
    way_back_found = way_back arrives.0 arrives.1

  -- the walk has its way back
  pub has_way_back : HasWayBack m f w s.number to (along p f.normal (rational w.depth (pos 1)))
  has_way_back = way_back_found passes
