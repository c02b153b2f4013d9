-- What is seen of a shape is said by what the file says: so it is one shape.
use Rattle.std.proofs.Common.{◌≡◌, ℕ, Bool, true, false, List, [], ◌∷◌, map, Option, Some, None, option_map, codes, refl, sym, ap, ap₂, ◌∙◌, inl, inr}
use Rattle.sb_step.specs.Indexed.{Indexed}
use Rattle.sb_step.specs.Params.Parameters.{ParametersAreUnique}
use Rattle.sb_schema.specs.declared.lists.TypedList.{TypedList}
use Rattle.sb_schema.specs.Table.{Values}
use Rattle.sb_schema.specs.Views.{IsMissing, Gives}
use Rattle.sb_place.specs.declared.sight.Seen.{Seen}
use Rattle.sb_place.specs.declared.sight.Seen.TheVariants as seen
use Rattle.sb_place.specs.declared.position.Position.{Position}
use Rattle.sb_place.specs.Directions.{Coordinates}
use Rattle.sb_place.specs.Positions.{IsPoint, IsSpacePosition, IsPlanPosition}
use Rattle.sb_prism.specs.Shapes.{Curve, Profile, Solid, Shape, Representation, IsCurve, IsProfile, IsSolid, ShowsSolid, IsRepresentation, first_body, AreItems, ShowsShape, IsShape}
use Rattle.sb_prism.specs.Shapes.Curve.{polyline, indexed}
use Rattle.sb_prism.specs.Shapes.Profile.{rectangle, area}
use Rattle.sb_profile.specs.Entities.{row_of}
use Rattle.sb_profile.specs.Entities.Entity.{arbitrary_closed_profile_def, arbitrary_profile_def_with_voids, cartesian_point_list_2d, extruded_area_solid, indexed_poly_curve, polyline as poly_line, product_definition_shape, rectangle_profile_def, shape_representation}
use Rattle.sb_profile.specs.Contents.{Contents, Says, has_keyword, is_absent}
use Rattle.sb_building.proofs.Followed.SeenWhereFollowed.{given_is, absent_is, present_is, not_given_of_unfit}
use Rattle.sb_building.proofs.Followed.SeenByContents.{by_given, among, sight, each_one, one_where, named, there, apart, not_named, sight_of, one_sight, point_of, one_point, direction_of, one_direction, space_position_of, one_space_position, plan_position_of, one_plan_position}

module _ (unique : ParametersAreUnique) (i : Indexed) (c : Contents) (says : Says i c) where
  -- ---- instances of one of several entities, the first of whose rows that has the keyword counts

  absent_seen : (n m : ℕ) {V : Type 0} (rows : List (Bool × Option V)) → m ≡ n → IsMissing i n
      → seen.Absent m ≡ sight (is_absent c n) n rows
  absent_seen n m rows same missing =
      ap seen.Absent same ∙ sym (ap (λ b. sight b n rows) (absent_is unique i c says n missing))

  here : (n : ℕ) {V : Type 0} (rows : List (Bool × Option V)) → is_absent c n ≡ false
      → sight (is_absent c n) n rows ≡ among n rows
  here n rows present = ap (λ b. sight b n rows) present

  first : (n : ℕ) {V : Type 0} (b : Bool) (given : Option V) (later : List (Bool × Option V)) → b ≡ true
      → among n ((b, given) ∷ later) ≡ by_given n given
  first n b given later is = ap (λ t. among n ((t, given) ∷ later)) is

  next : (n : ℕ) {V : Type 0} (b : Bool) (given : Option V) (later : List (Bool × Option V)) → b ≡ false
      → among n ((b, given) ∷ later) ≡ among n later
  next n b given later is = ap (λ t. among n ((t, given) ∷ later)) is

  -- ---- curves

  abbrev polyline_of : List ℕ × Unit {0} → Curve
  polyline_of v = polyline (map (point_of unique i c says) v.0)

  abbrev indexed_of : ℕ × (Option (List TypedList) × Unit {0}) → Curve
  indexed_of v = indexed (sight_of unique i c says cartesian_point_list_2d (λ w. w.0) v.0) v.1.0

  abbrev curve_rows : ℕ → List (Bool × Option Curve)
  curve_rows n =
      (has_keyword c poly_line n, option_map polyline_of (c.given poly_line n))
      ∷ (has_keyword c indexed_poly_curve n, option_map indexed_of (c.given indexed_poly_curve n)) ∷ []

  abbrev curve_of : ℕ → Seen Curve
  curve_of n = sight (is_absent c n) n (curve_rows n)

  as_polyline : (n : ℕ) (o : Option (Values (row_of poly_line).read)) → Gives (row_of poly_line) i n o
      → curve_of n ≡ by_given n (option_map polyline_of (c.given poly_line n))
  as_polyline n o gives =
      here n (curve_rows n) (there unique i c says poly_line n o gives)
      ∙ first n (has_keyword c poly_line n) (option_map polyline_of (c.given poly_line n))
      ((has_keyword c indexed_poly_curve n, option_map indexed_of (c.given indexed_poly_curve n)) ∷ [])
      (named unique i c says poly_line n o gives)

  as_indexed : (n : ℕ) (o : Option (Values (row_of indexed_poly_curve).read))
      → Gives (row_of indexed_poly_curve) i n o
      → curve_of n ≡ by_given n (option_map indexed_of (c.given indexed_poly_curve n))
  as_indexed n o gives =
      here n (curve_rows n) (there unique i c says indexed_poly_curve n o gives)
      ∙ next n (has_keyword c poly_line n) (option_map polyline_of (c.given poly_line n))
      ((has_keyword c indexed_poly_curve n, option_map indexed_of (c.given indexed_poly_curve n)) ∷ [])
      (apart unique i c says indexed_poly_curve poly_line (codes "IFCINDEXEDPOLYCURVE") n o refl refl gives)
      ∙ first n (has_keyword c indexed_poly_curve n) (option_map indexed_of (c.given indexed_poly_curve n)) []
      (named unique i c says indexed_poly_curve n o gives)

  one_curve : (n : ℕ) (s : Seen Curve) → IsCurve i n s → s ≡ curve_of n
  one_curve n (seen.Absent m) (same, missing) = absent_seen n m (curve_rows n) same missing
  one_curve n (seen.Broken m) (same, inl gives) =
      ap seen.Broken same
      ∙ sym (as_polyline n None gives
      ∙ ap (λ o. by_given n (option_map polyline_of o)) (not_given_of_unfit unique i c says poly_line n gives))
  one_curve n (seen.Broken m) (same, inr gives) =
      ap seen.Broken same
      ∙ sym (as_indexed n None gives
      ∙ ap (λ o. by_given n (option_map indexed_of o))
      (not_given_of_unfit unique i c says indexed_poly_curve n gives))
  one_curve n seen.Other (not_polyline, not_indexed) =
      sym (here n (curve_rows n)
      (present_is unique i c says n not_polyline.record_of not_polyline.found)
      ∙ next n (has_keyword c poly_line n) (option_map polyline_of (c.given poly_line n))
      ((has_keyword c indexed_poly_curve n, option_map indexed_of (c.given indexed_poly_curve n)) ∷ [])
      (not_named unique i c says poly_line n not_polyline)
      ∙ next n (has_keyword c indexed_poly_curve n) (option_map indexed_of (c.given indexed_poly_curve n)) []
      (not_named unique i c says indexed_poly_curve n not_indexed))
  one_curve n (seen.Shown (polyline points)) (numbers, gives, are) =
      ap (λ ps. seen.Shown (polyline ps))
      (each_one (IsPoint i) (point_of unique i c says) (one_point unique i c says) numbers points are)
      ∙ sym (as_polyline n (Some (numbers, tt)) gives
      ∙ ap (λ o. by_given n (option_map polyline_of o))
      (given_is unique i c says poly_line n (numbers, tt) gives))
  one_curve n (seen.Shown (indexed points segments)) (number, gives, sees) =
      ap (λ ps. seen.Shown (indexed ps segments))
      (one_sight unique i c says cartesian_point_list_2d number
      (λ (pairs : List Coordinates). Gives (row_of cartesian_point_list_2d) i number (Some (pairs, tt)))
      (λ w. w.0) points (λ v shown. ((v, tt), shown, refl)) sees)
      ∙ sym (as_indexed n (Some (number, (segments, tt))) gives
      ∙ ap (λ o. by_given n (option_map indexed_of o))
      (given_is unique i c says indexed_poly_curve n (number, (segments, tt)) gives))

  -- ---- profiles

  abbrev rectangle_of : Option ℕ × (List ℕ × (List ℕ × Unit {0})) → Profile
  rectangle_of v = rectangle (option_map (plan_position_of unique i c says) v.0) v.1.0 v.1.1.0

  abbrev closed_of : ℕ × Unit {0} → Profile
  closed_of v = area (curve_of v.0) []

  abbrev voids_of : ℕ × (List ℕ × Unit {0}) → Profile
  voids_of v = area (curve_of v.0) (map curve_of v.1.0)

  abbrev rectangle_row : ℕ → Bool × Option Profile
  rectangle_row n =
      (has_keyword c rectangle_profile_def n, option_map rectangle_of (c.given rectangle_profile_def n))

  abbrev closed_row : ℕ → Bool × Option Profile
  closed_row n = (
    has_keyword c arbitrary_closed_profile_def n,
    option_map closed_of (c.given arbitrary_closed_profile_def n),
  )

  abbrev voids_row : ℕ → Bool × Option Profile
  voids_row n = (
    has_keyword c arbitrary_profile_def_with_voids n,
    option_map voids_of (c.given arbitrary_profile_def_with_voids n),
  )

  abbrev profile_rows : ℕ → List (Bool × Option Profile)
  profile_rows n = rectangle_row n ∷ closed_row n ∷ voids_row n ∷ []

  abbrev profile_of : ℕ → Seen Profile
  profile_of n = sight (is_absent c n) n (profile_rows n)

  as_rectangle : (n : ℕ) (o : Option (Values (row_of rectangle_profile_def).read))
      → Gives (row_of rectangle_profile_def) i n o → profile_of n ≡ by_given n (rectangle_row n).1
  as_rectangle n o gives =
      here n (profile_rows n) (there unique i c says rectangle_profile_def n o gives)
      ∙ first n (rectangle_row n).0 (rectangle_row n).1 (closed_row n ∷ voids_row n ∷ [])
      (named unique i c says rectangle_profile_def n o gives)

  as_closed : (n : ℕ) (o : Option (Values (row_of arbitrary_closed_profile_def).read))
      → Gives (row_of arbitrary_closed_profile_def) i n o → profile_of n ≡ by_given n (closed_row n).1
  as_closed n o gives =
      here n (profile_rows n) (there unique i c says arbitrary_closed_profile_def n o gives)
      ∙ next n (rectangle_row n).0 (rectangle_row n).1 (closed_row n ∷ voids_row n ∷ [])
      (apart unique i c says arbitrary_closed_profile_def rectangle_profile_def
      (codes "IFCARBITRARYCLOSEDPROFILEDEF") n o refl refl gives)
      ∙ first n (closed_row n).0 (closed_row n).1 (voids_row n ∷ [])
      (named unique i c says arbitrary_closed_profile_def n o gives)

  as_voids : (n : ℕ) (o : Option (Values (row_of arbitrary_profile_def_with_voids).read))
      → Gives (row_of arbitrary_profile_def_with_voids) i n o → profile_of n ≡ by_given n (voids_row n).1
  as_voids n o gives =
      here n (profile_rows n) (there unique i c says arbitrary_profile_def_with_voids n o gives)
      ∙ next n (rectangle_row n).0 (rectangle_row n).1 (closed_row n ∷ voids_row n ∷ [])
      (apart unique i c says arbitrary_profile_def_with_voids rectangle_profile_def
      (codes "IFCARBITRARYPROFILEDEFWITHVOIDS") n o refl refl gives)
      ∙ next n (closed_row n).0 (closed_row n).1 (voids_row n ∷ [])
      (apart unique i c says arbitrary_profile_def_with_voids arbitrary_closed_profile_def
      (codes "IFCARBITRARYPROFILEDEFWITHVOIDS") n o refl refl gives)
      ∙ first n (voids_row n).0 (voids_row n).1 []
      (named unique i c says arbitrary_profile_def_with_voids n o gives)

  one_profile : (n : ℕ) (s : Seen Profile) → IsProfile i n s → s ≡ profile_of n
  one_profile n (seen.Absent m) (same, missing) = absent_seen n m (profile_rows n) same missing
  one_profile n (seen.Broken m) (same, inl gives) =
      ap seen.Broken same
      ∙ sym (as_rectangle n None gives
      ∙ ap (λ o. by_given n (option_map rectangle_of o))
      (not_given_of_unfit unique i c says rectangle_profile_def n gives))
  one_profile n (seen.Broken m) (same, inr (inl gives)) =
      ap seen.Broken same
      ∙ sym (as_closed n None gives
      ∙ ap (λ o. by_given n (option_map closed_of o))
      (not_given_of_unfit unique i c says arbitrary_closed_profile_def n gives))
  one_profile n (seen.Broken m) (same, inr (inr gives)) =
      ap seen.Broken same
      ∙ sym (as_voids n None gives
      ∙ ap (λ o. by_given n (option_map voids_of o))
      (not_given_of_unfit unique i c says arbitrary_profile_def_with_voids n gives))
  one_profile n seen.Other (not_rectangle, not_closed, not_voids) =
      sym (here n (profile_rows n)
      (present_is unique i c says n not_rectangle.record_of not_rectangle.found)
      ∙ next n (rectangle_row n).0 (rectangle_row n).1 (closed_row n ∷ voids_row n ∷ [])
      (not_named unique i c says rectangle_profile_def n not_rectangle)
      ∙ next n (closed_row n).0 (closed_row n).1 (voids_row n ∷ [])
      (not_named unique i c says arbitrary_closed_profile_def n not_closed)
      ∙ next n (voids_row n).0 (voids_row n).1 []
      (not_named unique i c says arbitrary_profile_def_with_voids n not_voids))
  one_profile n (seen.Shown (rectangle p x y)) (at, gives, is) =
      ap (λ q. seen.Shown (rectangle q x y))
      (one_where (IsPlanPosition i) (plan_position_of unique i c says) (one_plan_position unique i c says) at p is)
      ∙ sym (as_rectangle n (Some (at, (x, (y, tt)))) gives
      ∙ ap (λ o. by_given n (option_map rectangle_of o))
      (given_is unique i c says rectangle_profile_def n (at, (x, (y, tt))) gives))
  one_profile n (seen.Shown (area outer inner)) (curve, is, inl (gives, none)) =
      ap₂ (λ a b. seen.Shown (area a b)) (one_curve curve outer is) none
      ∙ sym (as_closed n (Some (curve, tt)) gives
      ∙ ap (λ o. by_given n (option_map closed_of o))
      (given_is unique i c says arbitrary_closed_profile_def n (curve, tt) gives))
  one_profile n (seen.Shown (area outer inner)) (curve, is, inr (voids, gives, are)) =
      ap₂ (λ a b. seen.Shown (area a b)) (one_curve curve outer is)
      (each_one (IsCurve i) curve_of one_curve voids inner are)
      ∙ sym (as_voids n (Some (curve, (voids, tt))) gives
      ∙ ap (λ o. by_given n (option_map voids_of o))
      (given_is unique i c says arbitrary_profile_def_with_voids n (curve, (voids, tt)) gives))

  -- ---- solids and shapes

  abbrev solid : Seen Profile → Option (Seen Position) → Seen Coordinates → List ℕ → Solid
  solid profile at way depth =
      record { profile = profile; position = at; direction = way; depth = depth }

  same_solid : (s : Solid) (p : Seen Profile) (a : Option (Seen Position)) (d : Seen Coordinates)
      → s.profile ≡ p → s.position ≡ a → s.direction ≡ d → s ≡ solid p a d s.depth
  same_solid s p a d first second third =
      ap (λ x. solid x s.position s.direction s.depth) first
      ∙ ap (λ x. solid p x s.direction s.depth) second
      ∙ ap (λ x. solid p a x s.depth) third

  abbrev solid_by : ℕ × (Option ℕ × (ℕ × (List ℕ × Unit {0}))) → Solid
  solid_by v =
      solid (profile_of v.0) (option_map (space_position_of unique i c says) v.1.0)
      (direction_of unique i c says v.1.1.0) v.1.1.1.0

  abbrev solid_at : ℕ → Seen Solid
  solid_at n = sight_of unique i c says extruded_area_solid solid_by n

  one_solid : (n : ℕ) (s : Seen Solid) → IsSolid i n s → s ≡ solid_at n
  one_solid n s sees =
      one_sight unique i c says extruded_area_solid n (ShowsSolid i n) solid_by s
      (λ v shows. (
        (shows.profile_at, (shows.position_at, (shows.direction_at, (v.depth, tt)))),
        shows.gives,
        same_solid v (profile_of shows.profile_at)
            (option_map (space_position_of unique i c says) shows.position_at)
            (direction_of unique i c says shows.direction_at)
            (one_profile shows.profile_at v.profile shows.profile_is)
            (one_where (IsSpacePosition i) (space_position_of unique i c says) (one_space_position unique i c says)
            shows.position_at v.position shows.position_is)
            (one_direction unique i c says shows.direction_at v.direction shows.direction_is),
      ))
      sees

  abbrev representation_by : Option (List ℕ) × (List ℕ × Unit {0}) → Representation
  representation_by v = record { a2 = v.0; a4 = v.1.0 }

  abbrev representation_at : ℕ → Seen Representation
  representation_at n = sight_of unique i c says shape_representation representation_by n

  one_representation : (n : ℕ) (s : Seen Representation) → IsRepresentation i n s
      → s ≡ representation_at n
  one_representation n s sees =
      one_sight unique i c says shape_representation n
      (λ (v : Representation). Gives (row_of shape_representation) i n (Some (v.a2, (v.a4, tt))))
      representation_by s (λ v gives. ((v.a2, (v.a4, tt)), gives, refl)) sees

  one_list_of_items : (numbers : Option (List ℕ)) (items : Option (List (Seen Solid)))
      → AreItems i numbers items → items ≡ option_map (map solid_at) numbers
  one_list_of_items None None are = refl
  one_list_of_items (Some numbers) (Some solids) are =
      ap Some (each_one (IsSolid i) solid_at one_solid numbers solids are)
  one_list_of_items None (Some solids) are = absurd are
  one_list_of_items (Some numbers) None are = absurd are

  abbrev shape : List (Seen Representation) → Option (List (Seen Solid)) → Shape
  shape representations items = record { representations = representations; items = items }

  abbrev shape_by : List ℕ × Unit {0} → Shape
  shape_by v =
      shape (map representation_at v.0) (option_map (map solid_at) (first_body (map representation_at v.0)))

  abbrev pub shape_at : ℕ → Seen Shape
  shape_at n = sight_of unique i c says product_definition_shape shape_by n

  pub one_shape : (n : ℕ) (s : Seen Shape) → IsShape i n s → s ≡ shape_at n
  one_shape n s sees =
      one_sight unique i c says product_definition_shape n (ShowsShape i n) shape_by s
      (λ v shows. let same = each_one (IsRepresentation i) representation_at one_representation
      shows.numbers v.representations shows.are in
      let items = one_list_of_items (first_body v.representations) v.items shows.items_are in (
        (shows.numbers, tt),
        shows.gives,
        ap₂ shape same (items ∙ ap (λ rs. option_map (map solid_at) (first_body rs)) same),
      ))
      sees
