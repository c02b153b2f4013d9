-- A file has one model at most for each ground and reach.
use Rattle.std.proofs.Common.{◌≡◌, ℕ, ℤ, ◌<◌, Bool, true, false, not, ◌&&◌, ◌||◌, nat_lt, List, [], ◌∷◌, map, Option, Some, None, Ok, arith, refl, sym, ap, ◌∙◌, subst, inl, inr}
use Rattle.std.specs.Prelude.{IsTrue, if◌then◌else◌, is_none}
use Rattle.std.specs.List.{AllByRecursion}
use Rattle.std.proofs.Math.Bool.{Bool-set}
use Rattle.std.proofs.lemmas.Bool.{false≢true, or_parts}
use Rattle.std.proofs.lemmas.Bool.Decides.{Decides-ltb}
use Rattle.std.proofs.lemmas.Option.{same_Some}
use Rattle.theory_lists.specs.Members.{Stands, AllOfTwo}
use Rattle.theory_lists.proofs.Members.{all_follow}
use Rattle.theory_lists.proofs.SortedLists.{one_sorted_list}
use Rattle.sb_fraction.specs.declared.unit.Unit as units
use Rattle.sb_step.specs.Indexed.{Indexed}
use Rattle.sb_step.specs.Params.Parameters.{ParametersAreUnique}
use Rattle.sb_model.specs.declared.frame.Frame.{Frame}
use Rattle.sb_model.specs.declared.layers.Layering.{Layering}
use Rattle.sb_model.specs.declared.products.Space.{Space}
use Rattle.sb_model.specs.declared.products.Element.{Element}
use Rattle.sb_model.specs.declared.products.Opening.{Opening}
use Rattle.sb_model.specs.declared.products.Filling.{Filling}
use Rattle.sb_model.specs.declared.products.FillKind.{FillKind}
use Rattle.sb_model.specs.Solids.{Upright, is_upright}
use Rattle.sb_model.specs.Building.{Building, is_building, is_in_range, first_wrong, first_bad, bad_space, bad_element, bad_opening, bad_filling, or_else}
use Rattle.sb_place.specs.Chains.{most_placements, frame_of}
use Rattle.sb_place.specs.Laws.{ChainsAreUnique}
use Rattle.sb_prism.specs.Faults.{solid_of}
use Rattle.sb_prism.specs.Prisms.{prism_of}
use Rattle.sb_profile.specs.Contents.{Contents, Says}
use Rattle.sb_profile.specs.Products.{placement_of, element_of, opening_of}
use Rattle.sb_profile.specs.Materials.{material_of}
use Rattle.sb_profile.specs.Following.{building_placement}
use Rattle.sb_building.specs.Placings.{IsFrameIn, IsPrismIn, IsPlacedIn}
use Rattle.sb_building.specs.Layerings.{layering_by}
use Rattle.sb_building.specs.Models.{IsSpaceOf, IsElementOf, IsOpeningOf, IsFillingOf, IsModelBy, global_id_of, kind_of}
use Rattle.sb_building.proofs.Followed.ShapesByContents.{shape_at, one_shape}

-- ---- the products of a model rise

-- where no number is wrong, each is above the one before it
rising : {X : Type 0} (number : X → ℕ) (is_wrong : X → Bool) (before : ℕ) (xs : List X)
    → first_wrong number is_wrong before xs ≡ None
    → AllByRecursion (λ x. before < number x) xs × AllOfTwo (λ x y. number x < number y) xs
rising number is_wrong before [] none = (tt, tt)
rising number is_wrong before (x ∷ xs) none =
    by_test (not (nat_lt before (number x)) || is_wrong x) refl (rising number is_wrong (number x) xs)
  where
    by_test : (b : Bool) → (not (nat_lt before (number x)) || is_wrong x) ≡ b
        → (first_wrong number is_wrong (number x) xs ≡ None
        → AllByRecursion (λ y. number x < number y) xs × AllOfTwo (λ y z. number y < number z) xs)
        → AllByRecursion (λ y. before < number y) (x ∷ xs) × AllOfTwo (λ y z. number y < number z) (x ∷ xs)
    by_test true wrong later =
        let some = sym (ap (λ b. if b then Some (number x) else first_wrong number is_wrong (number x) xs) wrong)
        ∙ none in
        absurd (cc some)
    by_test false right later =
        let parts = or_parts (not (nat_lt before (number x))) (is_wrong x) right in
        let above = (Decides-ltb before (number x)).0 (not_false (nat_lt before (number x)) parts.0) in
        let rest = later (sym (ap (λ b. if b then Some (number x) else first_wrong number is_wrong (number x) xs)
        right) ∙ none) in (
          (above, all_follow (λ y more. before_both before (number x) (number y) above more) xs rest.0),
          (rest.0, rest.1),
        )
      where
        not_false : (b : Bool) → not b ≡ false → b ≡ true
        not_false true is = refl
        not_false false is = absurd (false≢true (sym is))

        before_both : (a b d : ℕ) → a < b → b < d → a < d
        before_both a b d first second = omega arith

-- lists of products with the same numbers, each of which is one thing by its number
one_list : {X : Type 0} (number : X → ℕ) (Is : X → Type 0) (xs ys : List X)
    → ((x y : X) → Is x → Is y → number x ≡ number y → x ≡ y)
    → AllOfTwo (λ x y. number x < number y) xs → AllOfTwo (λ x y. number x < number y) ys
    → ((n : ℕ) → Stands n (map number xs) → Stands n (map number ys))
    → ((n : ℕ) → Stands n (map number ys) → Stands n (map number xs))
    → ((x : X) → Stands x xs → Is x) → ((y : X) → Stands y ys → Is y) → xs ≡ ys
one_list number Is xs ys one rise rise_too there back each each_too =
    one_sorted_list (λ x y. number x < number y) xs ys rise rise_too
    (λ x stands. moved x (each x stands) ys each_too (there (number x) (image x xs stands)))
    (λ y stands. moved y (each_too y stands) xs each (back (number y) (image y ys stands)))
    (λ x y at_x at_y first second. never (number x) (number y) first second)
  where
    image : (x : _) (zs : List _) → Stands x zs → Stands (number x) (map number zs)
    image x [] stands = absurd stands
    image x (z ∷ zs) (inl same) = inl (ap number same)
    image x (z ∷ zs) (inr later) = inr (image x zs later)

    moved : (x : _) → Is x → (zs : List _) → ((z : _) → Stands z zs → Is z)
        → Stands (number x) (map number zs) → Stands x zs
    moved x is [] each_z stands = absurd stands
    moved x is (z ∷ zs) each_z (inl same) = inl (one x z is (each_z z (inl refl)) same)
    moved x is (z ∷ zs) each_z (inr later) = inr (moved x is zs (λ w at. each_z w (inr at)) later)

    never : (a b : ℕ) → a < b → b < a → ⊥
    never a b first second = omega arith

-- ---- products by their fields

abbrev space : ℕ → List ℕ → (p : Upright) → Frame → IsTrue (is_upright p) → Space
space number global_id p f solid = record {
  number = number;
  global_id = global_id;
  prism = p;
  frame = f;
  is_solid = solid;
}

same_space : (s t : Space) → s.number ≡ t.number → s.global_id ≡ t.global_id → s.prism ≡ t.prism
    → s.frame ≡ t.frame → s ≡ t
same_space s t number global_id prism frame =
    subst (λ p. (h : IsTrue (is_upright p)) → s ≡ space s.number s.global_id p s.frame h) prism
    (λ h. ap (space s.number s.global_id s.prism s.frame) (Bool-set (is_upright s.prism) true s.is_solid h))
    t.is_solid
    ∙ ap (λ n. space n s.global_id t.prism s.frame t.is_solid) number
    ∙ ap (λ g. space t.number g t.prism s.frame t.is_solid) global_id
    ∙ ap (λ f. space t.number t.global_id t.prism f t.is_solid) frame

abbrev element : ℕ → (p : Upright) → Layering → IsTrue (is_upright p) → Element
element number p layering solid =
    record { number = number; prism = p; layering = layering; is_solid = solid }

same_element : (d e : Element) → d.number ≡ e.number → d.prism ≡ e.prism → d.layering ≡ e.layering
    → d ≡ e
same_element d e number prism layering =
    subst (λ p. (h : IsTrue (is_upright p)) → d ≡ element d.number p d.layering h) prism
    (λ h. ap (element d.number d.prism d.layering) (Bool-set (is_upright d.prism) true d.is_solid h))
    e.is_solid
    ∙ ap (λ n. element n e.prism d.layering e.is_solid) number
    ∙ ap (λ l. element e.number e.prism l e.is_solid) layering

abbrev opening : ℕ → ℕ → (p : Upright) → IsTrue (is_upright p) → Opening
opening number in_element p solid =
    record { number = number; element = in_element; prism = p; is_solid = solid }

same_opening : (o q : Opening) → o.number ≡ q.number → o.element ≡ q.element → o.prism ≡ q.prism → o ≡ q
same_opening o q number in_element prism =
    subst (λ p. (h : IsTrue (is_upright p)) → o ≡ opening o.number o.element p h) prism
    (λ h. ap (opening o.number o.element o.prism) (Bool-set (is_upright o.prism) true o.is_solid h))
    q.is_solid
    ∙ ap (λ n. opening n o.element q.prism q.is_solid) number
    ∙ ap (λ e. opening q.number e q.prism q.is_solid) in_element

abbrev filling : ℕ → ℕ → FillKind → Filling
filling number of_opening kind = record { number = number; opening = of_opening; kind = kind }

same_filling : (f g : Filling) → f.number ≡ g.number → f.opening ≡ g.opening → f.kind ≡ g.kind → f ≡ g
same_filling f g number of_opening kind =
    ap (λ n. filling n f.opening f.kind) number
    ∙ ap (λ o. filling g.number o f.kind) of_opening
    ∙ ap (λ k. filling g.number g.opening k) kind

module _ (unique : ParametersAreUnique) (one_chain : ChainsAreUnique) (i : Indexed) (c : Contents)
    (says : Says i c) (u : units.Unit) where
  -- ---- one frame and one prism for each product

  one_frame : (n : ℕ) (f g : Frame) → IsFrameIn i c u n (Ok f) → IsFrameIn i c u n (Ok g) → f ≡ g
  one_frame n f g (links, reached, is, (read, whole, straight, near, frame))
      (others, other, was, (read_too, whole_too, straight_too, near_too, frame_too)) =
      let same = one_chain i (building_placement c) most_placements (placement_of c n) links others reached
      other is was in
      frame ∙ ap (frame_of u) same.0 ∙ sym frame_too

  one_prism : (n : ℕ) (f : Frame) (p q : Upright) → IsPrismIn i c u n f (Ok p) → IsPrismIn i c u n f (Ok q)
      → p ≡ q
  one_prism n f p q (shape, is, (s, sees, (read, turned, shaped, (solid, found, (near, on, prism)))))
      (other, was, (t, seen, (read_too, turned_too, shaped_too, (solid_too, found_too, (near_too, on_too, prism_too))))) =
      let number : shape ≡ other = same_Some shape other (sym is ∙ was) in
      let same : s ≡ t =
      one_shape unique i c says shape s sees ∙ ap (shape_at unique i c says) number
      ∙ sym (one_shape unique i c says other t seen) in
      let one_solid : solid ≡ solid_too =
      same_Some solid solid_too (sym found ∙ ap solid_of same ∙ found_too) in
      same_Some p q (sym prism ∙ ap (prism_of u f) one_solid ∙ prism_too)

  record OneFill (n : ℕ) (f g : Frame) (p q : Upright) : Type 0 where
    frame : f ≡ g
    prism : p ≡ q

  one_fill : (n m : ℕ) (f g : Frame) (p q : Upright) → n ≡ m → IsPlacedIn i c u n f p
      → IsPlacedIn i c u m g q → OneFill n f g p q
  one_fill n m f g p q same first second =
      let placed = subst (λ k. IsPlacedIn i c u k g q) (sym same) second in
      let frames : f ≡ g = one_frame n f g first.frame placed.frame in
      record {
        frame = frames;
        prism = one_prism n f p q first.prism_is
            (subst (λ h. IsPrismIn i c u n h (Ok q)) (sym frames) placed.prism_is);
      }

  one_space : (s t : Space) → IsSpaceOf i c u s → IsSpaceOf i c u t → s.number ≡ t.number → s ≡ t
  one_space s t is was same =
      let fill = one_fill s.number t.number s.frame t.frame s.prism t.prism same is.placed was.placed in
      same_space s t same
      (same_Some s.global_id t.global_id
      (sym is.global_id ∙ ap (λ n. global_id_of c n) same ∙ was.global_id))
      fill.prism fill.frame

  one_element : (d e : Element) → IsElementOf i c u d → IsElementOf i c u e → d.number ≡ e.number → d ≡ e
  one_element d e is was same =
      let fill = one_fill d.number e.number is.frame was.frame d.prism e.prism same is.placed was.placed in
      same_element d e same fill.prism
      (is.layering
      ∙ ap (λ n. layering_by c u (c.keyword n) d.prism is.frame.turn (material_of c n)) same
      ∙ ap (λ p. layering_by c u (c.keyword e.number) p is.frame.turn (material_of c e.number)) fill.prism
      ∙ ap (λ f. layering_by c u (c.keyword e.number) e.prism f.turn (material_of c e.number)) fill.frame
      ∙ sym was.layering)

  one_opening : (o q : Opening) → IsOpeningOf i c u o → IsOpeningOf i c u q → o.number ≡ q.number → o ≡ q
  one_opening o q is was same =
      let fill = one_fill o.number q.number is.frame was.frame o.prism q.prism same is.placed was.placed in
      same_opening o q same
      (same_Some o.element q.element (sym is.element ∙ ap (element_of c) same ∙ was.element)) fill.prism

  one_filling : (f g : Filling) → IsFillingOf c f → IsFillingOf c g → f.number ≡ g.number → f ≡ g
  one_filling f g is was same =
      same_filling f g same
      (same_Some f.opening g.opening (sym is.opening ∙ ap (opening_of c) same ∙ was.opening))
      (is.kind ∙ ap (kind_of c) same ∙ sym was.kind)

-- ---- the model

-- no product of a model is bad
record Rises (m : Building) : Type 0 where
  spaces : AllOfTwo (λ (x y : Space). x.number < y.number) m.spaces
  elements : AllOfTwo (λ (x y : Element). x.number < y.number) m.elements
  openings : AllOfTwo (λ (x y : Opening). x.number < y.number) m.openings
  fillings : AllOfTwo (λ (x y : Filling). x.number < y.number) m.fillings

none_of : (a b : Option ℕ) → or_else a b ≡ None → (a ≡ None) × (b ≡ None)
none_of None b none = (refl, none)
none_of (Some n) b none = absurd (cc none)

is_none_of : (o : Option ℕ) → is_none o ≡ true → o ≡ None
is_none_of None is = refl
is_none_of (Some n) is = absurd (false≢true is)

both_pass : (a b : Bool) → (a && b) ≡ true → b ≡ true
both_pass true b is = is
both_pass false b is = absurd (false≢true is)

rises : (m : Building) → IsTrue (is_building m) → Rises m
rises m sound =
    let none = is_none_of (first_bad m) (both_pass (is_in_range m) (is_none (first_bad m)) sound) in
    let (no_space, later) = none_of (bad_space m) (or_else (bad_element m) (or_else (bad_opening m) (bad_filling m))) none in
    let (no_element, last) = none_of (bad_element m) (or_else (bad_opening m) (bad_filling m)) later in
    let (no_opening, no_filling) = none_of (bad_opening m) (bad_filling m) last in
    record {
      spaces = (rising (λ (s : Space). s.number) _ 0 m.spaces no_space).1;
      elements = (rising (λ (e : Element). e.number) _ 0 m.elements no_element).1;
      openings = (rising (λ (o : Opening). o.number) _ 0 m.openings no_opening).1;
      fillings = (rising (λ (f : Filling). f.number) _ 0 m.fillings no_filling).1;
    }

abbrev model : units.Unit → ℤ → ℕ → List Space → List Element → List Opening → List Filling → Building
model u ground reach spaces elements openings fillings = record {
  unit = u;
  ground_height = ground;
  reach = reach;
  spaces = spaces;
  elements = elements;
  openings = openings;
  fillings = fillings;
}

pub one_model : ParametersAreUnique → ChainsAreUnique → (i : Indexed) (c : Contents) (ground : ℤ) (reach : ℕ)
    (m n : Building) → Says i c → IsTrue (is_building m) → IsTrue (is_building n)
    → IsModelBy i c ground reach m → IsModelBy i c ground reach n → m ≡ n
one_model unique one_chain i c ground reach m n says sound sound_too is was =
    ap (λ u. model u m.ground_height m.reach m.spaces m.elements m.openings m.fillings) unit
    ∙ ap (λ g. model n.unit g m.reach m.spaces m.elements m.openings m.fillings) (is.ground_is ∙ sym was.ground_is)
    ∙ ap (λ r. model n.unit n.ground_height r m.spaces m.elements m.openings m.fillings)
    (is.reach_is ∙ sym was.reach_is)
    ∙ ap (λ xs. model n.unit n.ground_height n.reach xs m.elements m.openings m.fillings) spaces
    ∙ ap (λ xs. model n.unit n.ground_height n.reach n.spaces xs m.openings m.fillings) elements
    ∙ ap (λ xs. model n.unit n.ground_height n.reach n.spaces n.elements xs m.fillings) openings
    ∙ ap (λ xs. model n.unit n.ground_height n.reach n.spaces n.elements n.openings xs) fillings
  where
    unit : m.unit ≡ n.unit
    unit = same_Some m.unit n.unit (sym is.unit ∙ was.unit)

    rise : Rises m
    rise = rises m sound

    rise_too : Rises n
    rise_too = rises n sound_too

    spaces : m.spaces ≡ n.spaces
    spaces =
        one_list (λ (s : Space). s.number) (IsSpaceOf i c m.unit) m.spaces n.spaces
        (one_space unique one_chain i c says m.unit) rise.spaces rise_too.spaces
        (λ k at. (was.spaces k).1 ((is.spaces k).0 at)) (λ k at. (is.spaces k).1 ((was.spaces k).0 at))
        is.each_space
        (λ s at. subst (λ u. IsSpaceOf i c u s) (sym unit) (was.each_space s at))

    elements : m.elements ≡ n.elements
    elements =
        one_list (λ (e : Element). e.number) (IsElementOf i c m.unit) m.elements n.elements
        (one_element unique one_chain i c says m.unit) rise.elements rise_too.elements
        (λ k at. (was.elements k).1 ((is.elements k).0 at)) (λ k at. (is.elements k).1 ((was.elements k).0 at))
        is.each_element
        (λ e at. subst (λ u. IsElementOf i c u e) (sym unit) (was.each_element e at))

    openings : m.openings ≡ n.openings
    openings =
        one_list (λ (o : Opening). o.number) (IsOpeningOf i c m.unit) m.openings n.openings
        (one_opening unique one_chain i c says m.unit) rise.openings rise_too.openings
        (λ k at. (was.openings k).1 ((is.openings k).0 at)) (λ k at. (is.openings k).1 ((was.openings k).0 at))
        is.each_opening
        (λ o at. subst (λ u. IsOpeningOf i c u o) (sym unit) (was.each_opening o at))

    fillings : m.fillings ≡ n.fillings
    fillings =
        one_list (λ (f : Filling). f.number) (IsFillingOf c) m.fillings n.fillings
        (one_filling unique one_chain i c says m.unit) rise.fillings rise_too.fillings
        (λ k at. (was.fillings k).1 ((is.fillings k).0 at)) (λ k at. (is.fillings k).1 ((was.fillings k).0 at))
        is.each_filling was.each_filling
