-- What is at fault in the shape of a taken product is a defect of the file.
use Rattle.std.proofs.Common.{◌≡◌, ◌⊎◌, ℕ, Bool, true, false, List, [], ◌∷◌, ◌++◌, Option, Some, None, codes, refl, sym, ap, ◌∙◌, subst, inl, inr}
use Rattle.std.specs.Prelude.{if◌then◌else◌}
use Rattle.std.specs.Option.{option_map_or}
use Rattle.std.specs.Str.{bytes_eq}
use Rattle.std.specs.List.{AllByRecursion, find, flat_map}
use Rattle.std.proofs.lemmas.Option.{same_Some}
use Rattle.std.proofs.lemmas.Slice.Eq.{bytes_eq-Decides}
use Rattle.theory_lists.specs.Members.{Stands}
use Rattle.theory_lists.proofs.Blocks.{all-append, stands_before, stands_behind}
use Rattle.sb_step.specs.Indexed.{Indexed}
use Rattle.sb_step.specs.Params.Parameters.{ParametersAreUnique}
use Rattle.sb_schema.specs.Views.{IsMissing, Gives}
use Rattle.sb_place.specs.declared.sight.Seen.{Seen}
use Rattle.sb_place.specs.declared.sight.Seen.TheVariants as seen
use Rattle.sb_place.specs.declared.position.Position.{Position}
use Rattle.sb_place.specs.Directions.{Coordinates}
use Rattle.sb_place.specs.Positions.{IsPoint, IsSpacePosition, IsPlanPosition}
use Rattle.sb_prism.specs.Shapes as shapes
use Rattle.sb_prism.specs.Shapes.{Curve, Profile, Solid, Shape, Representation, AreEach, IsWhere, IsCurve, ShowsCurve, IsProfile, ShowsProfile, IsSolid, ShowsSolid, IsRepresentation, items_at, first_body, AreItems, ShowsShape, IsShape, is_named_body}
use Rattle.sb_prism.specs.Shapes.Curve.{polyline, indexed}
use Rattle.sb_prism.specs.Shapes.Profile.{rectangle, area}
use Rattle.sb_prism.specs.Faults.{Fault, named, in_position, in_curve, in_profile, in_solid, in_items, in_shape}
use Rattle.sb_prism.specs.Faults.Fault.{not_of_row, not_there}
use Rattle.sb_profile.specs.declared.following.places.Place.{Place}
use Rattle.sb_profile.specs.declared.following.places.Place.TheVariants as place
use Rattle.sb_profile.specs.Entities.{row_of}
use Rattle.sb_profile.specs.Entities.Entity.{arbitrary_closed_profile_def as the_arbitrary_closed_profile_def, arbitrary_profile_def_with_voids as the_arbitrary_profile_def_with_voids, cartesian_point_list_2d as the_cartesian_point_list_2d, extruded_area_solid as the_extruded_area_solid, indexed_poly_curve as the_indexed_poly_curve, polyline as the_polyline, product_definition_shape as the_product_definition_shape, rectangle_profile_def as the_rectangle_profile_def, shape_representation as the_shape_representation}
use Rattle.sb_profile.specs.Contents.{Contents, Says}
use Rattle.sb_profile.specs.Products.{is_taken, shape_of}
use Rattle.sb_profile.specs.Following.{Lead, to, to_each, from, is_body, IsFollowed}
use Rattle.sb_profile.specs.Following.IsFollowed.{shape}
use Rattle.sb_building.proofs.Followed.SeenWhereFollowed.{IsDefect, AreDefects, named_at, same_tests, unfit_at, absent_at_place, point_at, direction_at, space_position_at, plan_position_at, leads_to, lead_from, lead_to, lead_to_each, given_is, not_given_of_other, not_given_of_missing, not_given_of_unfit}

-- what holds of each thing by its number holds of all together
bytes_turned : (a b : List ℕ) → bytes_eq a b ≡ bytes_eq b a
bytes_turned a b =
    same_tests (bytes_eq a b) (bytes_eq b a)
    (λ e. (bytes_eq-Decides b a).1 (sym ((bytes_eq-Decides a b).0 e)))
    (λ e. (bytes_eq-Decides a b).1 (sym ((bytes_eq-Decides b a).0 e)))

-- what holds of each thing by its number holds of all together
each_of : {X : Type 0} (P : ℕ → Type 0) (Is : ℕ → X → Type 0) (f : X → List ℕ) (ns : List ℕ) (xs : List X)
    → AreEach Is ns xs
    → ((n : ℕ) (x : X) → Stands n ns → Is n x → AllByRecursion P (f x))
    → AllByRecursion P (flat_map f xs)
each_of P Is f [] [] are each = tt
each_of P Is f (n ∷ ns) (x ∷ xs) are each =
    all-append P (f x) (flat_map f xs) (each n x (inl refl) are.0)
    (each_of P Is f ns xs are.1 (λ m y stands is. each m y (inr stands) is))
each_of P Is f [] (x ∷ xs) are each = absurd are
each_of P Is f (n ∷ ns) [] are each = absurd are

module _ (unique : ParametersAreUnique) (i : Indexed) (c : Contents) (says : Says i c) where
  -- ---- what is named of an instance of one of several entities

  of_absent : (fault : Fault) (at : Place) (n m : ℕ) (V : Type 0) → IsFollowed c at n → m ≡ n
      → IsMissing i n → AreDefects c fault (named fault {V = V} (seen.Absent m))
  of_absent not_of_row at n m V follows same missing = tt
  of_absent not_there at n m V follows same missing =
      (subst (IsDefect c not_there) (sym same) (absent_at_place unique i c says at n follows missing), tt)

  of_broken : (fault : Fault) (n m : ℕ) (V : Type 0) → m ≡ n → IsDefect c not_of_row n
      → AreDefects c fault (named fault {V = V} (seen.Broken m))
  of_broken not_of_row n m V same unfit = (subst (IsDefect c not_of_row) (sym same) unfit, tt)
  of_broken not_there n m V same unfit = tt

  of_other : (fault : Fault) (V : Type 0) → AreDefects c fault (named fault {V = V} seen.Other)
  of_other not_of_row V = tt
  of_other not_there V = tt

  -- ---- curves

  by_polyline : (n : ℕ) (numbers : List ℕ) (m : ℕ) → IsFollowed c place.Curve n
      → c.given the_polyline n ≡ Some (numbers, tt) → Stands m numbers → IsFollowed c place.Point m
  by_polyline n numbers m follows given stands =
      leads_to unique i c says place.Curve n place.Point m follows
      (stands_before (place.Point, m) (from (c.given the_polyline n) (λ v. to_each place.Point v.0))
      (from (c.given the_indexed_poly_curve n) (λ v. (place.PointList, v.0) ∷ []))
      (lead_from (c.given the_polyline n) (numbers, tt) (λ v. to_each place.Point v.0) (place.Point, m)
      given (lead_to_each place.Point m numbers stands)))

  in_points : (fault : Fault) (n : ℕ) (numbers : List ℕ) (points : List (Seen Coordinates))
      → IsFollowed c place.Curve n → c.given the_polyline n ≡ Some (numbers, tt)
      → AreEach (IsPoint i) numbers points
      → AreDefects c fault (flat_map (λ p. named fault p) points)
  in_points fault n numbers points follows given are =
      each_of (IsDefect c fault) (IsPoint i) (λ p. named fault p) numbers points are
      (λ m p stands is. point_at unique i c says fault m p (by_polyline n numbers m follows given stands) is)

  by_list : (n number : ℕ) (rest : _) → IsFollowed c place.Curve n
      → c.given the_indexed_poly_curve n ≡ Some (number, rest) → IsFollowed c place.PointList number
  by_list n number rest follows given =
      leads_to unique i c says place.Curve n place.PointList number follows
      (stands_behind (place.PointList, number)
      (from (c.given the_polyline n) (λ v. to_each place.Point v.0))
      (from (c.given the_indexed_poly_curve n) (λ v. (place.PointList, v.0) ∷ []))
      (lead_from (c.given the_indexed_poly_curve n) (number, rest) (λ v. (place.PointList, v.0) ∷ [])
      (place.PointList, number) given (inl refl)))

  unfit_curve : (n : ℕ) → IsFollowed c place.Curve n
      → Gives (row_of the_polyline) i n None ⊎ Gives (row_of the_indexed_poly_curve) i n None
      → IsDefect c not_of_row n
  unfit_curve n follows (inl gives) =
      unfit_at unique i c says place.Curve the_polyline n follows (inl refl) gives
  unfit_curve n follows (inr gives) =
      unfit_at unique i c says place.Curve the_indexed_poly_curve n follows (inr (inl refl)) gives

  curve_at : (fault : Fault) (n : ℕ) (s : Seen Curve) → IsFollowed c place.Curve n → IsCurve i n s
      → AreDefects c fault (in_curve fault s)
  curve_at fault n (seen.Absent m) follows (same, missing) =
      of_absent fault place.Curve n m Curve follows same missing
  curve_at fault n (seen.Broken m) follows (same, gives) =
      of_broken fault n m Curve same (unfit_curve n follows gives)
  curve_at fault n seen.Other follows others = of_other fault Curve
  curve_at fault n (seen.Shown (polyline points)) follows (numbers, gives, are) =
      in_points fault n numbers points follows (given_is unique i c says the_polyline n (numbers, tt) gives)
      are
  curve_at fault n (seen.Shown (indexed points segments)) follows (number, gives, sees) =
      named_at unique i c says fault place.PointList the_cartesian_point_list_2d number
      (λ (pairs : List Coordinates).
      Gives (row_of the_cartesian_point_list_2d) i number (Some (pairs, tt)))
      points
      (by_list n number (segments, tt) follows
      (given_is unique i c says the_indexed_poly_curve n (number, (segments, tt)) gives))
      (inl refl) sees

  -- ---- profiles

  abbrev rectangle_leads : ℕ → List Lead
  rectangle_leads n = from (c.given the_rectangle_profile_def n) (λ v. to place.Position2d v.0)

  abbrev closed_leads : ℕ → List Lead
  closed_leads n = from (c.given the_arbitrary_closed_profile_def n) (λ v. (place.Curve, v.0) ∷ [])

  abbrev voids_leads : ℕ → List Lead
  voids_leads n = from (c.given the_arbitrary_profile_def_with_voids n)
      (λ v. (place.Curve, v.0) ∷ to_each place.Curve v.1.0)

  position_where : (fault : Fault) (Is : ℕ → Seen Position → Type 0) (n : Option ℕ)
      (s : Option (Seen Position)) → IsWhere Is n s
      → ((m : ℕ) (p : Seen Position) → n ≡ Some m → Is m p
      → AreDefects c fault (in_position fault (Some p)))
      → AreDefects c fault (in_position fault s)
  position_where not_of_row Is None None is each = tt
  position_where not_there Is None None is each = tt
  position_where fault Is (Some n) (Some s) is each = each n s refl is
  position_where fault Is None (Some s) is each = absurd is
  position_where fault Is (Some n) None is each = absurd is

  by_rectangle : (n : ℕ) (at : Option ℕ) (rest : _) (m : ℕ) → IsFollowed c place.Profile n
      → c.given the_rectangle_profile_def n ≡ Some (at, rest) → at ≡ Some m
      → IsFollowed c place.Position2d m
  by_rectangle n at rest m follows given is =
      leads_to unique i c says place.Profile n place.Position2d m follows
      (stands_before (place.Position2d, m)
      (rectangle_leads n ++ closed_leads n)
      (voids_leads n)
      (stands_before (place.Position2d, m) (rectangle_leads n) (closed_leads n)
      (lead_from (c.given the_rectangle_profile_def n) (at, rest) (λ v. to place.Position2d v.0)
      (place.Position2d, m) given (lead_to place.Position2d at m is))))

  by_closed : (n curve : ℕ) → IsFollowed c place.Profile n
      → c.given the_arbitrary_closed_profile_def n ≡ Some (curve, tt) → IsFollowed c place.Curve curve
  by_closed n curve follows given =
      leads_to unique i c says place.Profile n place.Curve curve follows
      (stands_before (place.Curve, curve) (rectangle_leads n ++ closed_leads n) (voids_leads n)
      (stands_behind (place.Curve, curve) (rectangle_leads n) (closed_leads n)
      (lead_from (c.given the_arbitrary_closed_profile_def n) (curve, tt)
      (λ v. (place.Curve, v.0) ∷ []) (place.Curve, curve) given (inl refl))))

  by_voids : (n curve : ℕ) (voids : List ℕ) (m : ℕ) → IsFollowed c place.Profile n
      → c.given the_arbitrary_profile_def_with_voids n ≡ Some (curve, (voids, tt))
      → Stands (place.Curve, m) ((place.Curve, curve) ∷ to_each place.Curve voids)
      → IsFollowed c place.Curve m
  by_voids n curve voids m follows given stands =
      leads_to unique i c says place.Profile n place.Curve m follows
      (stands_behind (place.Curve, m) (rectangle_leads n ++ closed_leads n) (voids_leads n)
      (lead_from (c.given the_arbitrary_profile_def_with_voids n) (curve, (voids, tt))
      (λ v. (place.Curve, v.0) ∷ to_each place.Curve v.1.0) (place.Curve, m) given stands))

  inner_curves : (fault : Fault) (n curve : ℕ) (voids : List ℕ) (inner : List (Seen Curve))
      → IsFollowed c place.Profile n
      → c.given the_arbitrary_profile_def_with_voids n ≡ Some (curve, (voids, tt))
      → AreEach (IsCurve i) voids inner → AreDefects c fault (flat_map (in_curve fault) inner)
  inner_curves fault n curve voids inner follows given are =
      each_of (IsDefect c fault) (IsCurve i) (in_curve fault) voids inner are
      (λ m s stands is. curve_at fault m s
      (by_voids n curve voids m follows given (inr (lead_to_each place.Curve m voids stands))) is)

  profile_area : (fault : Fault) (n : ℕ) (outer : Seen Curve) (inner : List (Seen Curve))
      → IsFollowed c place.Profile n → ShowsProfile i n (area outer inner)
      → AreDefects c fault (in_curve fault outer ++ flat_map (in_curve fault) inner)
  profile_area fault n outer inner follows (curve, is, inl (gives, none)) =
      all-append (IsDefect c fault) (in_curve fault outer) (flat_map (in_curve fault) inner)
      (curve_at fault curve outer
      (by_closed n curve follows
      (given_is unique i c says the_arbitrary_closed_profile_def n (curve, tt) gives)) is)
      (subst (λ xs. AreDefects c fault (flat_map (in_curve fault) xs)) (sym none) tt)
  profile_area fault n outer inner follows (curve, is, inr (voids, gives, are)) =
      let given = given_is unique i c says the_arbitrary_profile_def_with_voids n (curve, (voids, tt)) gives in
      all-append (IsDefect c fault) (in_curve fault outer) (flat_map (in_curve fault) inner)
      (curve_at fault curve outer (by_voids n curve voids curve follows given (inl refl)) is)
      (inner_curves fault n curve voids inner follows given are)

  unfit_profile : (n : ℕ) → IsFollowed c place.Profile n
      → Gives (row_of the_rectangle_profile_def) i n None
      ⊎ (Gives (row_of the_arbitrary_closed_profile_def) i n None
      ⊎ Gives (row_of the_arbitrary_profile_def_with_voids) i n None)
      → IsDefect c not_of_row n
  unfit_profile n follows (inl gives) =
      unfit_at unique i c says place.Profile the_rectangle_profile_def n follows (inl refl) gives
  unfit_profile n follows (inr (inl gives)) =
      unfit_at unique i c says place.Profile the_arbitrary_closed_profile_def n follows (inr (inl refl)) gives
  unfit_profile n follows (inr (inr gives)) =
      unfit_at unique i c says place.Profile the_arbitrary_profile_def_with_voids n follows
      (inr (inr (inl refl))) gives

  profile_at : (fault : Fault) (n : ℕ) (s : Seen Profile) → IsFollowed c place.Profile n → IsProfile i n s
      → AreDefects c fault (in_profile fault s)
  profile_at fault n (seen.Absent m) follows (same, missing) =
      of_absent fault place.Profile n m Profile follows same missing
  profile_at fault n (seen.Broken m) follows (same, gives) =
      of_broken fault n m Profile same (unfit_profile n follows gives)
  profile_at fault n seen.Other follows others = of_other fault Profile
  profile_at fault n (seen.Shown (rectangle p x y)) follows (at, gives, is) =
      position_where fault (IsPlanPosition i) at p is
      (λ m s found sees. plan_position_at unique i c says fault m s
      (by_rectangle n at (x, (y, tt)) m follows
      (given_is unique i c says the_rectangle_profile_def n (at, (x, (y, tt))) gives) found) sees)
  profile_at fault n (seen.Shown (area outer inner)) follows shows =
      profile_area fault n outer inner follows shows

  -- ---- solids

  by_solid : (n : ℕ) (vs : ℕ × (Option ℕ × (ℕ × (List ℕ × Unit {0})))) (at : Place) (m : ℕ)
      → IsFollowed c place.Solid n → c.given the_extruded_area_solid n ≡ Some vs
      → Stands (at, m)
      ((place.Profile, vs.0) ∷ (place.Direction, vs.1.1.0) ∷ to place.Position3d vs.1.0)
      → IsFollowed c at m
  by_solid n vs at m follows given stands =
      leads_to unique i c says place.Solid n at m follows
      (lead_from (c.given the_extruded_area_solid n) vs
      (λ v. (place.Profile, v.0) ∷ (place.Direction, v.1.1.0) ∷ to place.Position3d v.1.0) (at, m) given
      stands)

  solid_shown : (fault : Fault) (n : ℕ) (s : Solid) → IsFollowed c place.Solid n → ShowsSolid i n s
      → AreDefects c fault (in_solid fault (seen.Shown s))
  solid_shown fault n s follows shows =
      all-append (IsDefect c fault) (in_profile fault s.profile)
      (in_position fault s.position ++ named fault s.direction)
      (profile_at fault shows.profile_at s.profile
      (by_solid n vs place.Profile shows.profile_at follows given (inl refl)) shows.profile_is)
      (all-append (IsDefect c fault) (in_position fault s.position) (named fault s.direction)
      (position_where fault (IsSpacePosition i) shows.position_at s.position shows.position_is
      (λ m p found sees. space_position_at unique i c says fault m p
      (by_solid n vs place.Position3d m follows given
      (inr (inr (lead_to place.Position3d shows.position_at m found)))) sees))
      (direction_at unique i c says fault shows.direction_at s.direction
      (by_solid n vs place.Direction shows.direction_at follows given (inr (inl refl))) shows.direction_is))
    where
      vs : ℕ × (Option ℕ × (ℕ × (List ℕ × Unit {0})))
      vs = (shows.profile_at, (shows.position_at, (shows.direction_at, (s.depth, tt))))

      given : c.given the_extruded_area_solid n ≡ Some vs
      given = given_is unique i c says the_extruded_area_solid n vs shows.gives

  solid_at : (fault : Fault) (n : ℕ) (s : Seen Solid) → IsFollowed c place.Solid n → IsSolid i n s
      → AreDefects c fault (in_solid fault s)
  solid_at fault n (seen.Absent m) follows (same, missing) =
      of_absent fault place.Solid n m Solid follows same missing
  solid_at fault n (seen.Broken m) follows (same, gives) =
      of_broken fault n m Solid same
      (unfit_at unique i c says place.Solid the_extruded_area_solid n follows (inl refl) gives)
  solid_at fault n seen.Other follows other = of_other fault Solid
  solid_at fault n (seen.Shown s) follows shows = solid_shown fault n s follows shows

  -- ---- the first Body

  abbrev body_by : Option (Option (List ℕ) × (List ℕ × Unit {0})) → Bool
  body_by o = option_map_or (λ v. option_map_or (bytes_eq (codes "Body")) v.0 false) o false

  same_name : (name : Option (List ℕ))
      → option_map_or (bytes_eq (codes "Body")) name false ≡ is_named_body name
  same_name None = refl
  same_name (Some name) = bytes_turned (codes "Body") name

  -- a representation is a Body by what is seen of it exactly where it is by what the file says
  same_body : (n : ℕ) (r : Seen Representation) → IsRepresentation i n r → is_body c n ≡ shapes.is_body r
  same_body n (seen.Absent m) (same, missing) =
      ap body_by (not_given_of_missing unique i c says the_shape_representation n missing)
  same_body n (seen.Broken m) (same, gives) =
      ap body_by (not_given_of_unfit unique i c says the_shape_representation n gives)
  same_body n seen.Other other =
      ap body_by (not_given_of_other unique i c says the_shape_representation n other)
  same_body n (seen.Shown r) gives =
      ap body_by (given_is unique i c says the_shape_representation n (r.a2, (r.a4, tt)) gives)
      ∙ same_name r.a2

  -- the first Body is found at a number that gives these items
  record FirstBody (ns items : List ℕ) : Type 0 where
    body : ℕ
    found : find (is_body c) ns ≡ Some body
    name : Option (List ℕ)
    gives : c.given the_shape_representation body ≡ Some (name, (items, tt))

  passed_over : (n : ℕ) (ns items : List ℕ) → is_body c n ≡ false → FirstBody ns items
      → FirstBody (n ∷ ns) items
  passed_over n ns items other first = record {
    body = first.body;
    found = ap (λ b. if b then Some n else find (is_body c) ns) other ∙ first.found;
    name = first.name;
    gives = first.gives;
  }

  first_here : (n : ℕ) (ns items : List ℕ) (r : Representation) → is_body c n ≡ true
      → Gives (row_of the_shape_representation) i n (Some (r.a2, (r.a4, tt))) → r.a4 ≡ items
      → FirstBody (n ∷ ns) items
  first_here n ns items r body gives same = record {
    body = n;
    found = ap (λ b. if b then Some n else find (is_body c) ns) body;
    name = r.a2;
    gives = given_is unique i c says the_shape_representation n (r.a2, (r.a4, tt)) gives
        ∙ ap (λ xs. Some (r.a2, (xs, tt))) same;
  }

  first_found : (ns : List ℕ) (rs : List (Seen Representation)) (items : List ℕ)
      → AreEach (IsRepresentation i) ns rs → first_body rs ≡ Some items → FirstBody ns items
  first_found [] [] items are none = absurd (cc none)
  first_found [] (r ∷ rs) items are first = absurd are
  first_found (n ∷ ns) [] items are first = absurd are
  first_found (n ∷ ns) (seen.Absent m ∷ rs) items (is, are) first =
      passed_over n ns items (same_body n (seen.Absent m) is) (first_found ns rs items are first)
  first_found (n ∷ ns) (seen.Broken m ∷ rs) items (is, are) first =
      passed_over n ns items (same_body n (seen.Broken m) is) (first_found ns rs items are first)
  first_found (n ∷ ns) (seen.Other ∷ rs) items (is, are) first =
      passed_over n ns items (same_body n seen.Other is) (first_found ns rs items are first)
  first_found (n ∷ ns) (seen.Shown r ∷ rs) items (is, are) first =
      by_test (is_named_body r.a2) refl (λ first. first_found ns rs items are first)
    where
      by_test : (b : Bool) → is_named_body r.a2 ≡ b → (first_body rs ≡ Some items → FirstBody ns items)
          → FirstBody (n ∷ ns) items
      by_test true body again =
          first_here n ns items r (same_body n (seen.Shown r) is ∙ body) is
          (same_Some r.a4 items
          (sym (ap (λ b. if b then Some r.a4 else first_body rs) body) ∙ first))
      by_test false other again =
          passed_over n ns items (same_body n (seen.Shown r) is ∙ other)
          (again
          (sym (ap (λ b. if b then Some r.a4 else first_body rs) other) ∙ first))

  -- ---- shapes

  by_shape : (n : ℕ) (numbers : List ℕ) (at : Place) (m : ℕ) → IsFollowed c place.Shape n
      → c.given the_product_definition_shape n ≡ Some (numbers, tt)
      → Stands (at, m)
      (to_each place.Representation numbers ++ to place.Body (find (is_body c) numbers))
      → IsFollowed c at m
  by_shape n numbers at m follows given stands =
      leads_to unique i c says place.Shape n at m follows
      (lead_from (c.given the_product_definition_shape n) (numbers, tt)
      (λ v. to_each place.Representation v.0 ++ to place.Body (find (is_body c) v.0)) (at, m) given stands)

  in_representations : (fault : Fault) (n : ℕ) (numbers : List ℕ) (rs : List (Seen Representation))
      → IsFollowed c place.Shape n → c.given the_product_definition_shape n ≡ Some (numbers, tt)
      → AreEach (IsRepresentation i) numbers rs
      → AreDefects c fault (flat_map (λ r. named fault r) rs)
  in_representations fault n numbers rs follows given are =
      each_of (IsDefect c fault) (IsRepresentation i) (λ r. named fault r) numbers rs are
      (λ m r stands is. named_at unique i c says fault place.Representation the_shape_representation m
      (λ (v : Representation).
      Gives (row_of the_shape_representation) i m (Some (v.a2, (v.a4, tt))))
      r
      (by_shape n numbers place.Representation m follows given
      (stands_before (place.Representation, m) (to_each place.Representation numbers)
      (to place.Body (find (is_body c) numbers)) (lead_to_each place.Representation m numbers stands)))
      (inl refl) is)

  by_body : (n : ℕ) (numbers items : List ℕ) (first : FirstBody numbers items) (m : ℕ)
      → IsFollowed c place.Shape n → c.given the_product_definition_shape n ≡ Some (numbers, tt)
      → Stands m items → IsFollowed c place.Solid m
  by_body n numbers items first m follows given stands =
      leads_to unique i c says place.Body first.body place.Solid m
      (by_shape n numbers place.Body first.body follows given
      (stands_behind (place.Body, first.body) (to_each place.Representation numbers)
      (to place.Body (find (is_body c) numbers))
      (lead_to place.Body (find (is_body c) numbers) first.body first.found)))
      (lead_from (c.given the_shape_representation first.body) (first.name, (items, tt))
      (λ v. to_each place.Solid v.1.0) (place.Solid, m) first.gives (lead_to_each place.Solid m items stands))

  in_bodies : (fault : Fault) (n : ℕ) (numbers : List ℕ) (rs : List (Seen Representation))
      (body : Option (List ℕ)) (items : Option (List (Seen Solid)))
      → IsFollowed c place.Shape n → c.given the_product_definition_shape n ≡ Some (numbers, tt)
      → AreEach (IsRepresentation i) numbers rs → first_body rs ≡ body → AreItems i body items
      → AreDefects c fault (in_items fault items)
  in_bodies fault n numbers rs None None follows given are first is = tt
  in_bodies fault n numbers rs (Some ms) (Some solids) follows given are first is =
      each_of (IsDefect c fault) (IsSolid i) (in_solid fault) ms solids is
      (λ m s stands sees. solid_at fault m s
      (by_body n numbers ms (first_found numbers rs ms are first) m follows given stands) sees)
  in_bodies fault n numbers rs None (Some solids) follows given are first is = absurd is
  in_bodies fault n numbers rs (Some ms) None follows given are first is = absurd is

  shape_shown : (fault : Fault) (n : ℕ) (s : Shape) → IsFollowed c place.Shape n → ShowsShape i n s
      → AreDefects c fault (in_shape fault (seen.Shown s))
  shape_shown fault n s follows shows =
      let given = given_is unique i c says the_product_definition_shape n (shows.numbers, tt) shows.gives in
      all-append (IsDefect c fault) (flat_map (λ r. named fault r) s.representations)
      (in_items fault s.items)
      (in_representations fault n shows.numbers s.representations follows given shows.are)
      (in_bodies fault n shows.numbers s.representations (first_body s.representations) s.items follows given
      shows.are refl shows.items_are)

  shape_at : (fault : Fault) (n : ℕ) (s : Seen Shape) → IsFollowed c place.Shape n → IsShape i n s
      → AreDefects c fault (in_shape fault s)
  shape_at fault n (seen.Absent m) follows (same, missing) =
      of_absent fault place.Shape n m Shape follows same missing
  shape_at fault n (seen.Broken m) follows (same, gives) =
      of_broken fault n m Shape same
      (unfit_at unique i c says place.Shape the_product_definition_shape n follows (inl refl) gives)
  shape_at fault n seen.Other follows other = of_other fault Shape
  shape_at fault n (seen.Shown s) follows shows = shape_shown fault n s follows shows

  -- the shape of a taken product
  pub shape_of_product : (fault : Fault) (p n : ℕ) (s : Seen Shape) → is_taken c p ≡ true
      → shape_of c p ≡ Some n → IsShape i n s → AreDefects c fault (in_shape fault s)
  shape_of_product fault p n s taken is sees = shape_at fault n s (shape p n taken is) sees
