-- A ray with a coarse column has passages: each piece of the column is cut by the bands of its element,
-- and the pieces are read through.
use Rattle.std.proofs.Common.{◌≡◌, ◌⊎◌, inl, inr, refl, sym, ap, ap₂, ◌∙◌, arith, subst, subst₂, ℕ, ℤ, pos}
use Rattle.std.proofs.Common.{neg_ℤ, ◌<ℤ◌, true, ◌||◌, IsTrue, List, [], ◌∷◌, Option, Some, None}
use Rattle.std.proofs.lemmas.Int.{ints}
use Rattle.std.proofs.lemmas.Bool.{false≢true, and_parts}
use Rattle.theory_lists.specs.Members.{Stands}
use Rattle.theory_numbers.specs.Arrows.{Arrow, mirror, cross}
use Rattle.theory_numbers.specs.Rationals.{IsRational, IsBelow, IsAtMost, rational}
use Rattle.theory_numbers.proofs.Signs.{equal_or_not, sign_cases}
use Rattle.theory_numbers.proofs.Products.{positive_square, weak_square, positive_product}
use Rattle.theory_numbers.proofs.Vectors.Arrows.{mirror-cross}
use Rattle.theory_numbers.proofs.Fractions.Rationals.{below_or_not, below_clash, at_most_from_below}
use Rattle.theory_numbers.proofs.Fractions.Rationals.{at_most_below_trans, below_trans}
use Rattle.theory_cuttings.specs.Ends.{IsEnd, IsOpen, IsBefore}
use Rattle.theory_cuttings.specs.Cuttings.{Break, HasLabel, IsCutting, IsReducedCutting}
use Rattle.theory_cuttings.specs.Cuttings.{AreDifferent}
use Rattle.theory_cuttings.specs.Passages.{ray_start}
use Rattle.theory_cuttings.specs.Changes.{break_at, Fine, refined, map_labels}
use Rattle.theory_cuttings.proofs.Ends.{IsBetween, number_between}
use Rattle.theory_cuttings.proofs.Groups.{map_is}
use Rattle.theory_cuttings.proofs.CutTwice.{of_equal, labels_have}
use Rattle.theory_cuttings.proofs.Refined.{AreCut, coarse_breaks, refined_is_reduced}
use Rattle.sb_fraction.specs.Spots.{IsSpot, Vector, inner, reading}
use Rattle.sb_model.specs.declared.labels.label.Label.{Label}
use Rattle.sb_model.specs.declared.labels.label.Label.TheVariants as label
use Rattle.sb_model.specs.declared.layers.Axis.{Axis}
use Rattle.sb_model.specs.declared.layers.Layer.{Layer}
use Rattle.sb_model.specs.declared.layers.Layering.{Layering}
use Rattle.sb_model.specs.declared.layers.Layering.TheVariants.{Plain, Single, Layered}
use Rattle.sb_model.specs.declared.products.Element.{Element}
use Rattle.sb_model.specs.Solids.{is_in_solid}
use Rattle.sb_model.specs.Building.{Building, is_building, is_layering, are_layers}
use Rattle.sb_model.specs.Building.{is_level_axis, is_upright_axis}
use Rattle.sb_model.specs.Passages.{Ray, at_depth, ArePassages}
use Rattle.sb_model.specs.Labels.{axis_vector, low_along, high_along, layer_at}
use Rattle.theory_sight.specs.Coarse.{coarse}
use Rattle.theory_sight.proofs.Crossings.BandsOfPrisms.{low_end_of, high_end_of}
use Rattle.theory_models.proofs.RaysAlike.{along_is_spot}
use Rattle.theory_sight.proofs.Crossings.CrossingItems.{axis_is_some, element_layering}
use Rattle.theory_sight.proofs.Crossings.ElementAt.{IsElementAt, element_is_at, coarse_element}
use Rattle.theory_sight.proofs.LayersAlongARay.{CanBeCut, layers_can_be_cut, level_cut, slope_along}
use Rattle.theory_sight.proofs.LayersAlongARay.{den_along, start_along, reading_is, turned_map}
use Rattle.theory_sight.proofs.Stretched.{stretched, taken_from, above_from, below_from, taken_is}
use Rattle.theory_sight.specs.Crossings.{label_along}

-- a ray in a model, whose points in elements lie strictly within the elements' extents along any vector
pub record LiesInExtents (m : Building) (r : Ray) : Type 0 where
  pub model : IsTrue (is_building m)
  pub start : IsSpot r.start
  pub some : pos 0 <ℤ inner r.normal r.normal
  pub within : (e : Element) → Stands e m.elements → (a : Vector) → pos 0 <ℤ inner a a → (u : Arrow)
      → IsRational u → is_in_solid e.prism (at_depth r u) ≡ true
      → IsBelow (low_end_of e.prism a) (reading (at_depth r u) a)
      × IsBelow (reading (at_depth r u) a) (high_end_of e.prism a)

-- ---- pieces with one label

-- a function with one label on an open interval can be cut there
one_label : {L : Type 0} (f : Arrow → L) (low : Arrow) (high : Option Arrow) (label : L)
    → IsOpen (Some low) high → HasLabel f (Some low) high label → CanBeCut f low high
one_label f low high label wide has =
    (record { first = label; rest = [] }, record { cutting = (wide, has); different = tt })

module _ (m : Building) (r : Ray) (lies : LiesInExtents m r) (low : Arrow) (high : Option Arrow)
    (low_in : IsRational low) (high_in : IsEnd high) (wide : IsOpen (Some low) high) where
  -- on the piece the element is that of any point of it, with the layer of the point
  element_there : (k : ℕ) (first : ℕ) (v : Arrow) (at : IsElementAt m (at_depth r v) k first)
      → HasLabel (λ u. coarse (label_along m r u)) (Some low) high (label.Element k 0)
      → (u : Arrow) → IsRational u → IsBelow low u → IsBefore u high
      → (label_along m r u
      ≡ label.Element k (layer_at at.element.prism at.element.layering (at_depth r u)))
      × (is_in_solid at.element.prism (at_depth r u) ≡ true)
  element_there k first v at has u u_in after before =
      by (coarse_element (label_along m r u) k (has u u_in after before))
    where
      by : (layer : ℕ) × (label_along m r u ≡ label.Element k layer)
          → (label_along m r u
          ≡ label.Element k (layer_at at.element.prism at.element.layering (at_depth r u)))
          × (is_in_solid at.element.prism (at_depth r u) ≡ true)
      by (layer, is) =
          let there = element_is_at m lies.model (at_depth r u) k layer is in
          let same : Some there.element ≡ Some at.element = sym there.numbered ∙ at.numbered in
          let one : there.element ≡ at.element = cc in (
            is
                ∙ ap (label.Element k)
                (subst (λ d. layer ≡ layer_at d.prism d.layering (at_depth r u)) one there.layer_is),
            subst (λ d. is_in_solid d.prism (at_depth r u) ≡ true) one there.inside,
          )

  -- a cutting of the layers is one of the labels
  labels_cut : (k : ℕ) (g : Arrow → ℕ)
      → ((u : Arrow) → IsRational u → IsBelow low u → IsBefore u high
      → label.Element k (g u) ≡ label_along m r u)
      → CanBeCut g low high → CanBeCut (label_along m r) low high
  labels_cut k g same (c, cut) = (
    record { first = label.Element k c.first; rest = map_labels (label.Element k) c.rest },
    record {
      cutting =
          of_equal (λ u. label.Element k (g u)) (label_along m r) high high_in (Some low) low_in same
          (label.Element k c.first) (map_labels (label.Element k) c.rest)
          (map_is g (label.Element k) high (Some low) c.first c.rest cut.cutting);
      different = differ c.first c.rest cut.different;
    },
  )
    where
      differ : (first : ℕ) (bs : List (Break ℕ)) → AreDifferent first bs
          → AreDifferent (label.Element k first) (map_labels (label.Element k) bs)
      differ first [] apart = tt
      differ first (b ∷ bs) apart =
          (λ same. apart.0 (layer_same first b.label same), differ b.label bs apart.1)
        where
          layer_same : (i j : ℕ) → label.Element k i ≡ label.Element k j → i ≡ j
          layer_same i j same = cc

-- ---- pieces of layered elements

-- a vector that is not 0 has a positive square
some_square : (a : Vector) → (a.x ≡ pos 0 → a.y ≡ pos 0 → a.z ≡ pos 0 → ⊥) → pos 0 <ℤ inner a a
some_square a some = by (equal_or_not a.x (pos 0)) (equal_or_not a.y (pos 0)) (equal_or_not a.z (pos 0))
  where
    by : (a.x ≡ pos 0) ⊎ (a.x ≡ pos 0 → ⊥) → (a.y ≡ pos 0) ⊎ (a.y ≡ pos 0 → ⊥)
        → (a.z ≡ pos 0) ⊎ (a.z ≡ pos 0 → ⊥) → pos 0 <ℤ inner a a
    by (inr x) y z =
        let one = positive_square a.x x in
        let two = weak_square a.y in
        let three = weak_square a.z in
        omega (arith, ints)
    by (inl x) (inr y) z =
        let one = weak_square a.x in
        let two = positive_square a.y y in
        let three = weak_square a.z in
        omega (arith, ints)
    by (inl x) (inl y) (inr z) =
        let one = weak_square a.x in
        let two = weak_square a.y in
        let three = positive_square a.z z in
        omega (arith, ints)
    by (inl x) (inl y) (inl z) = absurd (some x y z)

-- whole numbers with a number between them rise
whole_rise : (low high : ℤ) (v : Arrow) → IsRational v → IsBelow (rational low (pos 1)) v
    → IsBelow v (rational high (pos 1)) → low <ℤ high
unfolding cross
whole_rise low high v v_in above below =
    by
    (below_trans (rational low (pos 1)) v (rational high (pos 1)) (omega (arith, ints)) v_in
    (omega (arith, ints)) above below)
  where
    by : IsBelow (rational low (pos 1)) (rational high (pos 1)) → low <ℤ high
    by order = omega (arith, ints)

-- a number above two others
above_both : (a b : Arrow) → IsRational a → IsRational b
    → (u : Arrow) × (IsRational u × (IsBelow a u × IsBelow b u))
above_both a b a_in b_in = by (below_or_not a b)
  where
    by : IsBelow a b ⊎ IsAtMost b a → (u : Arrow) × (IsRational u × (IsBelow a u × IsBelow b u))
    by (inl less) = from (number_between (Some b) None b_in tt tt)
      where
        from : (u : Arrow) × IsBetween (Some b) None u
            → (u : Arrow) × (IsRational u × (IsBelow a u × IsBelow b u))
        from (u, is) =
            (u, (is.rational, (below_trans a b u a_in b_in is.rational less is.after, is.after)))
    by (inr more) = from (number_between (Some a) None a_in tt tt)
      where
        from : (u : Arrow) × IsBetween (Some a) None u
            → (u : Arrow) × (IsRational u × (IsBelow a u × IsBelow b u))
        from (u, is) =
            (u, (is.rational, (is.after, at_most_below_trans b a u b_in a_in is.rational more is.after)))

module _ (r : Ray) (start_in : IsSpot r.start) (some : pos 0 <ℤ inner r.normal r.normal) (a : Vector)
    (low_end high_end from : Arrow) (low_in : IsRational low_end) (high_in : IsRational high_end)
    (from_in : IsRational from) where
  abbrev read_at : Arrow → Arrow
  read_at u = stretched (den_along r) (start_along r a) (slope_along r a) u

  den_in : pos 0 <ℤ den_along r
  den_in = positive_product r.start.w (inner r.normal r.normal) start_in some

  -- a reading that rises or falls for ever leaves every extent
  leaves_up : pos 0 <ℤ slope_along r a
      → ((u : Arrow) → IsRational u → IsBelow from u → IsBelow (read_at u) high_end) → ⊥
  leaves_up slope within =
      by
      (above_both from (taken_from (den_along r) (start_along r a) (slope_along r a) high_end) from_in
      ((taken_is (den_along r) (start_along r a) (slope_along r a) den_in slope high_end high_in).positive))
    where
      by : (u : Arrow) × (IsRational u × (IsBelow from u
          × IsBelow (taken_from (den_along r) (start_along r a) (slope_along r a) high_end) u)) → ⊥
      by (u, is) =
          below_clash (read_at u) high_end (within u is.0 is.1.0)
          (at_most_from_below high_end (read_at u)
          (above_from (den_along r) (start_along r a) (slope_along r a) den_in slope high_end u high_in
          is.0 is.1.1))

  leaves_down : slope_along r a <ℤ pos 0
      → ((u : Arrow) → IsRational u → IsBelow from u → IsBelow low_end (read_at u)) → ⊥
  leaves_down slope within =
      by
      (above_both from
      (mirror (taken_from (den_along r) (start_along r a) (neg_ℤ (slope_along r a)) low_end)) from_in
      ((taken_is (den_along r) (start_along r a) (neg_ℤ (slope_along r a)) den_in down low_end
      low_in).positive))
    where
      down : pos 0 <ℤ neg_ℤ (slope_along r a)
      down = omega (arith, ints, slope)

      by : (u : Arrow) × (IsRational u × (IsBelow from u
          × IsBelow (mirror (taken_from (den_along r) (start_along r a) (neg_ℤ (slope_along r a)) low_end))
          u)) → ⊥
      by (u, is) =
          let falls : IsBelow (stretched (den_along r) (start_along r a) (neg_ℤ (slope_along r a)) (mirror u))
          low_end =
          below_from (den_along r) (start_along r a) (neg_ℤ (slope_along r a)) den_in down low_end
          (mirror u) low_in is.0
          (rw
          (sym
          (mirror-cross
          (taken_from (den_along r) (start_along r a) (neg_ℤ (slope_along r a)) low_end) u)) is.1.1)
          in
          below_clash low_end (read_at u) (within u is.0 is.1.0)
          (at_most_from_below (read_at u) low_end
          (subst (λ v. IsBelow v low_end)
          (turned_map (den_along r) (start_along r a) (slope_along r a) u) falls))

-- ---- labels with one coarse label

only_space : (n : ℕ) (l : Label) → coarse l ≡ label.Space n → l ≡ label.Space n
only_space n (label.Space k) same = same
only_space n (label.Element k layer) same = absurd (clash same)
  where
    clash : label.Element k 0 ≡ label.Space n → ⊥
    clash same = cc
only_space n label.Earth same = same
only_space n label.Void same = same

only_earth : (l : Label) → coarse l ≡ label.Earth → l ≡ label.Earth
only_earth (label.Space k) same = same
only_earth (label.Element k layer) same = absurd (clash same)
  where
    clash : label.Element k 0 ≡ label.Earth → ⊥
    clash same = cc
only_earth label.Earth same = same
only_earth label.Void same = same

only_void : (l : Label) → coarse l ≡ label.Void → l ≡ label.Void
only_void (label.Space k) same = same
only_void (label.Element k layer) same = absurd (clash same)
  where
    clash : label.Element k 0 ≡ label.Void → ⊥
    clash same = cc
only_void label.Earth same = same
only_void label.Void same = same

-- ---- a piece of the column

module _ (m : Building) (r : Ray) (lies : LiesInExtents m r) (low : Arrow) (low_in : IsRational low) where
  -- what is known of a piece of a layered element
  pub record IsLayeredPiece (high : Option Arrow) (k : ℕ) (e : Element) (l : Layer) (ls : List Layer)
      (axis : Axis) : Type 0 where
    pub layering_is : e.layering ≡ Layered (l ∷ ls) axis
    pub right : are_layers 0 (l ∷ ls) ≡ true
    pub wide : low_along e.prism (axis_vector axis) <ℤ high_along e.prism (axis_vector axis)
    pub within : (u : Arrow) → IsRational u → IsBelow low u → IsBefore u high
        → IsBelow (low_end_of e.prism (axis_vector axis))
        (stretched (den_along r) (start_along r (axis_vector axis)) (slope_along r (axis_vector axis)) u)
        × IsBelow
        (stretched (den_along r) (start_along r (axis_vector axis)) (slope_along r (axis_vector axis)) u)
        (high_end_of e.prism (axis_vector axis))

  -- its layers can be cut
  layered_piece : (high : Option Arrow) → IsEnd high → IsOpen (Some low) high → (k : ℕ) (e : Element)
      (l : Layer) (ls : List Layer) (axis : Axis) → IsLayeredPiece high k e l ls axis
      → CanBeCut (λ u. layer_at e.prism (Layered (l ∷ ls) axis) (at_depth r u)) low high
  layered_piece (Some to) high_in wide k e l ls axis is =
      layers_can_be_cut r lies.start lies.some e.prism l ls axis is.right is.wide low to low_in high_in
      wide is.within
  layered_piece None high_in wide k e l ls axis is = by (sign_cases (slope_along r (axis_vector axis)))
    where
      by : ((pos 0 <ℤ slope_along r (axis_vector axis)) ⊎ (slope_along r (axis_vector axis) ≡ pos 0))
          ⊎ (slope_along r (axis_vector axis) <ℤ pos 0)
          → CanBeCut (λ u. layer_at e.prism (Layered (l ∷ ls) axis) (at_depth r u)) low None
      by (inl (inl up)) =
          absurd
          (leaves_up r lies.start lies.some (axis_vector axis) (low_end_of e.prism (axis_vector axis))
          (high_end_of e.prism (axis_vector axis)) low (omega (arith, ints)) (omega (arith, ints)) low_in
          up (λ u u_in after. (is.within u u_in after tt).1))
      by (inl (inr none)) =
          level_cut r lies.start lies.some e.prism l ls axis is.right is.wide none low None wide
      by (inr down) =
          absurd
          (leaves_down r lies.start lies.some (axis_vector axis)
          (low_end_of e.prism (axis_vector axis)) (high_end_of e.prism (axis_vector axis)) low
          (omega (arith, ints)) (omega (arith, ints)) low_in down
          (λ u u_in after. (is.within u u_in after tt).0))

  -- a piece of an element can be cut
  element_piece : (high : Option Arrow) (high_in : IsEnd high) (wide : IsOpen (Some low) high) (k first : ℕ)
      (v : Arrow) → IsRational v → IsBelow low v → IsBefore v high
      → (at : IsElementAt m (at_depth r v) k first)
      → HasLabel (λ u. coarse (label_along m r u)) (Some low) high (label.Element k 0)
      → (layering : Layering) → at.element.layering ≡ layering
      → CanBeCut (label_along m r) low high
  element_piece high high_in wide k first v v_in after_v before_v at has Plain same =
      one_label (label_along m r) low high (label.Element k 0) wide
      (λ u u_in after before.
      (element_there m r lies low high low_in high_in wide k first v at has u u_in after before).0
      ∙ ap (λ layering. label.Element k (layer_at at.element.prism layering (at_depth r u))) same)
  element_piece high high_in wide k first v v_in after_v before_v at has (Single material) same =
      one_label (label_along m r) low high (label.Element k 0) wide
      (λ u u_in after before.
      (element_there m r lies low high low_in high_in wide k first v at has u u_in after before).0
      ∙ ap (λ layering. label.Element k (layer_at at.element.prism layering (at_depth r u))) same)
  element_piece high high_in wide k first v v_in after_v before_v at has (Layered [] axis) same =
      absurd
      (false≢true
      (ap is_layering (sym same) ∙ element_layering m lies.model at.element at.stands))
  element_piece high high_in wide k first v v_in after_v before_v at has (Layered (l ∷ ls) axis) same =
      labels_cut m r lies low high low_in high_in wide k
      (λ u. layer_at at.element.prism (Layered (l ∷ ls) axis) (at_depth r u))
      (λ u u_in after before.
      sym
      ((element_there m r lies low high low_in high_in wide k first v at has u u_in after before).0
      ∙ ap (λ layering. label.Element k (layer_at at.element.prism layering (at_depth r u))) same))
      (layered_piece high high_in wide k at.element l ls axis
      (record {
        layering_is = same;
        right = layers_right;
        wide = whole_rise (low_along at.element.prism (axis_vector axis))
            (high_along at.element.prism (axis_vector axis)) (reading (at_depth r v) (axis_vector axis))
            (along_is_spot r.start r.normal v lies.start lies.some v_in) there.0 there.1;
        within =
            λ u u_in after before.
            subst
            (λ p.
            IsBelow (low_end_of at.element.prism (axis_vector axis)) p
            × IsBelow p (high_end_of at.element.prism (axis_vector axis)))
            (reading_is r (axis_vector axis) u)
            (lies.within at.element at.stands (axis_vector axis) axis_in u u_in
            ((element_there m r lies low high low_in high_in wide k first v at has u u_in after
            before).1));
      }))
    where
      right : is_layering (Layered (l ∷ ls) axis) ≡ true
      right = ap is_layering (sym same) ∙ element_layering m lies.model at.element at.stands

      layers_right : are_layers 0 (l ∷ ls) ≡ true
      layers_right =
          (and_parts _ (are_layers 0 (l ∷ ls))
          (and_parts _ (is_level_axis axis || is_upright_axis axis) right).0).1

      axis_in : pos 0 <ℤ inner (axis_vector axis) (axis_vector axis)
      axis_in =
          some_square (axis_vector axis)
          (axis_is_some axis (and_parts _ (is_level_axis axis || is_upright_axis axis) right).1)

      there : IsBelow (low_end_of at.element.prism (axis_vector axis))
          (reading (at_depth r v) (axis_vector axis))
          × IsBelow (reading (at_depth r v) (axis_vector axis))
          (high_end_of at.element.prism (axis_vector axis))
      there = lies.within at.element at.stands (axis_vector axis) axis_in v v_in at.inside

  -- each piece can
  piece_can_be_cut : (high : Option Arrow) → IsEnd high → IsOpen (Some low) high → (c : Label)
      → HasLabel (λ u. coarse (label_along m r u)) (Some low) high c
      → CanBeCut (label_along m r) low high
  piece_can_be_cut high high_in wide c has = by (number_between (Some low) high low_in high_in wide)
    where
      alone : (l : Label) → ((k : Label) → coarse k ≡ l → k ≡ l) → c ≡ l
          → CanBeCut (label_along m r) low high
      alone l only same =
          one_label (label_along m r) low high l wide
          (λ u u_in after before. only (label_along m r u) (has u u_in after before ∙ same))

      by : (v : Arrow) × IsBetween (Some low) high v → CanBeCut (label_along m r) low high
      by (v, is) = of (label_along m r v) refl
        where
          c_is : (l : Label) → label_along m r v ≡ l → c ≡ coarse l
          c_is l same = sym (has v is.rational is.after is.before) ∙ ap coarse same

          of : (l : Label) → label_along m r v ≡ l → CanBeCut (label_along m r) low high
          of (label.Space n) same = alone (label.Space n) (only_space n) (c_is (label.Space n) same)
          of label.Earth same = alone label.Earth only_earth (c_is label.Earth same)
          of label.Void same = alone label.Void only_void (c_is label.Void same)
          of (label.Element k first) same =
              let at = element_is_at m lies.model (at_depth r v) k first same in
              element_piece high high_in wide k first v is.rational is.after is.before at
              (λ u u_in after before. has u u_in after before ∙ c_is (label.Element k first) same)
              at.element.layering refl

-- ---- all pieces

-- the pieces of a coarse cutting, each cut itself, with the coarse labels and breaks of that cutting
pub record IsCutThrough (m : Building) (r : Ray) (low : Arrow) (c : Label) (cs : List (Break Label))
    : Type 0 where
  pub piece : Fine Label
  pub rest : List (Break (Fine Label))
  pub cut : AreCut (label_along m r) (Some low) None piece rest
  pub first_is : coarse piece.first ≡ c
  pub breaks_are : coarse_breaks coarse rest ≡ cs

-- a piece's first label has the coarse label of the piece
first_coarse : (m : Building) (r : Ray) (low : Arrow) (high : Option Arrow) → IsRational low → IsEnd high
    → (c : Label) → HasLabel (λ u. coarse (label_along m r u)) (Some low) high c → (first : Label)
    (bs : List (Break Label)) → IsCutting (label_along m r) (Some low) high first bs
    → coarse first ≡ c
first_coarse m r low high low_in high_in c has first bs cut =
    (labels_have (label_along m r) (λ l. coarse l ≡ c) high high_in (Some low) low_in has first bs cut).0

module _ (m : Building) (r : Ray) (lies : LiesInExtents m r) where
  cut_through : (low : Arrow) → IsRational low → (c : Label) (cs : List (Break Label))
      → IsCutting (λ u. coarse (label_along m r u)) (Some low) None c cs → IsCutThrough m r low c cs
  cut_through low low_in c [] cut = by (piece_can_be_cut m r lies low low_in None tt cut.0 c cut.1)
    where
      by : CanBeCut (label_along m r) low None → IsCutThrough m r low c []
      by (fine, is) = record {
        piece = fine;
        rest = [];
        cut = is;
        first_is = first_coarse m r low None low_in tt c cut.1 fine.first fine.rest is.cutting;
        breaks_are = refl;
      }
  cut_through low low_in c (d ∷ ds) cut =
      by
      (piece_can_be_cut m r lies low low_in (Some d.start) cut.0.positive cut.1 c cut.2)
      (cut_through d.start cut.0.positive d.label ds cut.3)
    where
      by : CanBeCut (label_along m r) low (Some d.start) → IsCutThrough m r d.start d.label ds
          → IsCutThrough m r low c (d ∷ ds)
      by (fine, is) later = record {
        piece = fine;
        rest = break_at d.start later.piece ∷ later.rest;
        cut = (cut.0, is, later.cut);
        first_is =
            first_coarse m r low (Some d.start) low_in cut.0.positive c cut.2 fine.first fine.rest
            is.cutting;
        breaks_are =
            ap₂ (λ b bs. b ∷ bs) (ap (break_at d.start) later.first_is) later.breaks_are;
      }

  -- a ray with a coarse column has passages
  pub passages_from_column : (c : Label) (cs : List (Break Label))
      → IsReducedCutting (λ u. coarse (label_along m r u)) (Some ray_start) None c cs
      → (breaks : List (Break Label)) × ArePassages m r breaks
  passages_from_column c cs column =
      by (cut_through ray_start (omega (arith, ints)) c cs column.cutting)
    where
      by : IsCutThrough m r ray_start c cs → (breaks : List (Break Label)) × ArePassages m r breaks
      by t = (
        break_at ray_start t.piece.first ∷ refined t.piece.rest t.rest,
        (
          refl,
          refined_is_reduced (label_along m r) coarse None tt (Some ray_start) t.piece t.rest
              (omega (arith, ints)) t.cut
              (subst₂
              (λ k ks. IsCutting (λ u. coarse (label_along m r u)) (Some ray_start) None k ks)
              (sym t.first_is) (sym t.breaks_are) column.cutting)
              (subst₂ AreDifferent (sym t.first_is) (sym t.breaks_are) column.different),
        ),
      )
