-- What is seen of an instance is said by what the file says: so it is one thing.
use Rattle.std.proofs.Common.{◌≡◌, ℕ, Bool, true, false, ◌||◌, List, [], ◌∷◌, map, Option, Some, None, option_map, refl, sym, ap, ap₂, ◌∙◌}
use Rattle.std.specs.Prelude.{if◌then◌else◌}
use Rattle.std.specs.Str.{bytes_eq}
use Rattle.std.proofs.lemmas.Slice.Eq.{bytes_eq-Decides}
use Rattle.std.proofs.lemmas.Bool.{false≢true}
use Rattle.sb_step.specs.Indexed.{Indexed}
use Rattle.sb_step.specs.Records.Spans.{keyword_of}
use Rattle.sb_step.specs.Params.Parameters.{ParametersAreUnique}
use Rattle.sb_schema.specs.Table.{Values, is_one_of}
use Rattle.sb_schema.specs.Views.{IsOther, Gives}
use Rattle.sb_place.specs.declared.sight.Seen.{Seen}
use Rattle.sb_place.specs.declared.sight.Seen.TheVariants as seen
use Rattle.sb_place.specs.declared.position.Position.{Position}
use Rattle.sb_place.specs.Sight.{Sees}
use Rattle.sb_place.specs.Directions.{Coordinates}
use Rattle.sb_place.specs.Positions.{IsPoint, IsDirection, IsDirectionWhere, ShowsInSpace, ShowsInPlan, IsSpacePosition, IsPlanPosition, in_plan, in_plan_where}
use Rattle.sb_prism.specs.Shapes.{AreEach, IsWhere}
use Rattle.sb_profile.specs.Entities.{Entity, row_of}
use Rattle.sb_profile.specs.Entities.Entity.{axis2_placement_2d, axis2_placement_3d, cartesian_point, direction}
use Rattle.sb_profile.specs.Contents.{Contents, Says, has_keyword, is_absent}
use Rattle.sb_building.proofs.Followed.SeenWhereFollowed.{given_is, keyword_is, absent_is, present_is, not_given_of_unfit}

-- ---- what is seen, by the first of some entities whose keyword the instance has

abbrev pub by_given : {V : Type 0} → ℕ → Option V → Seen V
by_given n None = seen.Broken n
by_given n (Some v) = seen.Shown v

abbrev pub among : {V : Type 0} → ℕ → List (Bool × Option V) → Seen V
among n [] = seen.Other
among n ((named, given) ∷ later) = if named then by_given n given else among n later

abbrev pub sight : {V : Type 0} → Bool → ℕ → List (Bool × Option V) → Seen V
sight absent n rows = if absent then seen.Absent n else among n rows

-- things of each number, and of a number that may be left out
pub each_one : {X : Type 0} (Is : ℕ → X → Type 0) (f : ℕ → X) → ((n : ℕ) (x : X) → Is n x → x ≡ f n)
    → (ns : List ℕ) (xs : List X) → AreEach Is ns xs → xs ≡ map f ns
each_one Is f one [] [] are = refl
each_one Is f one (n ∷ ns) (x ∷ xs) are = ap₂ (λ y ys. y ∷ ys) (one n x are.0) (each_one Is f one ns xs are.1)
each_one Is f one [] (x ∷ xs) are = absurd are
each_one Is f one (n ∷ ns) [] are = absurd are

pub one_where : {X : Type 0} (Is : ℕ → X → Type 0) (f : ℕ → X) → ((n : ℕ) (x : X) → Is n x → x ≡ f n)
    → (n : Option ℕ) (x : Option X) → IsWhere Is n x → x ≡ option_map f n
one_where Is f one None None is = refl
one_where Is f one (Some n) (Some x) is = ap Some (one n x is)
one_where Is f one None (Some x) is = absurd is
one_where Is f one (Some n) None is = absurd is

-- an instance of the one keyword has no other
keyword_of_one : (k : List ℕ) (keyword : Option (List ℕ)) → is_one_of (k ∷ []) keyword ≡ true
    → keyword ≡ Some k
keyword_of_one k None is = absurd (false≢true is)
keyword_of_one k (Some other) is = by_test (bytes_eq k other) refl
  where
    by_test : (b : Bool) → bytes_eq k other ≡ b → Some other ≡ Some k
    by_test true same = ap Some (sym ((bytes_eq-Decides k other).0 same))
    by_test false apart = absurd (false≢true (sym (ap (λ b. b || false) apart) ∙ is))

module _ (unique : ParametersAreUnique) (i : Indexed) (c : Contents) (says : Says i c) where
  pub named : (e : Entity) (n : ℕ) (o : Option (Values (row_of e).read)) → Gives (row_of e) i n o
      → has_keyword c e n ≡ true
  named e n o gives = keyword_is unique i c says e n true gives.keyword

  pub there : (e : Entity) (n : ℕ) (o : Option (Values (row_of e).read)) → Gives (row_of e) i n o
      → is_absent c n ≡ false
  there e n o gives = present_is unique i c says n gives.are.record_of gives.are.found

  -- the instance has the one keyword of this entity, so not that of another
  pub apart : (e other : Entity) (k : List ℕ) (n : ℕ) (o : Option (Values (row_of e).read))
      → (row_of e).keywords ≡ k ∷ [] → is_one_of (row_of other).keywords (Some k) ≡ false
      → Gives (row_of e) i n o → has_keyword c other n ≡ false
  apart e other k n o one differs gives =
      keyword_is unique i c says other n false
      (ap (is_one_of (row_of other).keywords)
      (keyword_of_one k (keyword_of i n) (sym (ap (λ ks. is_one_of ks (keyword_of i n)) one) ∙ gives.keyword))
      ∙ differs)

  pub not_named : (e : Entity) (n : ℕ) → IsOther (row_of e).keywords i n → has_keyword c e n ≡ false
  not_named e n other = keyword_is unique i c says e n false other.keyword

  -- ---- instances of one entity

  abbrev pub sight_of : (e : Entity) {V : Type 0} → (Values (row_of e).read → V) → ℕ → Seen V
  sight_of e build n =
      sight (is_absent c n) n ((has_keyword c e n, option_map build (c.given e n)) ∷ [])

  pub one_sight : (e : Entity) (n : ℕ) {V : Type 0} (shows : V → Type 0) (build : Values (row_of e).read → V)
      (s : Seen V)
      → ((v : V) → shows v
      → (vs : Values (row_of e).read) × Gives (row_of e) i n (Some vs) × (v ≡ build vs))
      → Sees (row_of e) i n shows s → s ≡ sight_of e build n
  one_sight e n shows build (seen.Absent m) known (same, missing) =
      ap seen.Absent same
      ∙ sym (ap (λ b. sight b n ((has_keyword c e n, option_map build (c.given e n)) ∷ []))
      (absent_is unique i c says n missing))
  one_sight e n shows build (seen.Broken m) known (same, gives) =
      ap seen.Broken same
      ∙ sym (
      ap (λ b. sight b n ((has_keyword c e n, option_map build (c.given e n)) ∷ [])) (there e n None gives)
      ∙ ap (λ b. among n ((b, option_map build (c.given e n)) ∷ [])) (named e n None gives)
      ∙ ap (λ o. by_given n (option_map build o)) (not_given_of_unfit unique i c says e n gives)
      )
  one_sight e n shows build seen.Other known other =
      sym (
      ap (λ b. sight b n ((has_keyword c e n, option_map build (c.given e n)) ∷ []))
      (present_is unique i c says n other.record_of other.found)
      ∙ ap (λ b. among n ((b, option_map build (c.given e n)) ∷ [])) (not_named e n other)
      )
  one_sight e n shows build (seen.Shown v) known shown =
      let (vs, gives, same) = known v shown in
      ap seen.Shown same
      ∙ sym (
      ap (λ b. sight b n ((has_keyword c e n, option_map build (c.given e n)) ∷ []))
      (there e n (Some vs) gives)
      ∙ ap (λ b. among n ((b, option_map build (c.given e n)) ∷ [])) (named e n (Some vs) gives)
      ∙ ap (λ o. by_given n (option_map build o)) (given_is unique i c says e n vs gives)
      )

  -- ---- points, directions and positions

  abbrev pub point_of : ℕ → Seen Coordinates
  point_of n = sight_of cartesian_point (λ v. v.0) n

  pub one_point : (n : ℕ) (s : Seen Coordinates) → IsPoint i n s → s ≡ point_of n
  one_point n s sees =
      one_sight cartesian_point n
      (λ (v : Coordinates). Gives (row_of cartesian_point) i n (Some (v, tt))) (λ v. v.0) s
      (λ v gives. ((v, tt), gives, refl)) sees

  abbrev pub direction_of : ℕ → Seen Coordinates
  direction_of n = sight_of direction (λ v. v.0) n

  pub one_direction : (n : ℕ) (s : Seen Coordinates) → IsDirection i n s → s ≡ direction_of n
  one_direction n s sees =
      one_sight direction n (λ (v : Coordinates). Gives (row_of direction) i n (Some (v, tt))) (λ v. v.0) s
      (λ v gives. ((v, tt), gives, refl)) sees

  one_direction_where : (n : Option ℕ) (s : Option (Seen Coordinates)) → IsDirectionWhere i n s
      → s ≡ option_map direction_of n
  one_direction_where None None is = refl
  one_direction_where (Some n) (Some s) is = ap Some (one_direction n s is)
  one_direction_where None (Some s) is = absurd is
  one_direction_where (Some n) None is = absurd is

  abbrev position : Seen Coordinates → Option (Seen Coordinates) → Option (Seen Coordinates) → Position
  position location axis reference =
      record { location = location; axis = axis; reference = reference }

  same_position : (p : Position) (l : Seen Coordinates) (a r : Option (Seen Coordinates))
      → p.location ≡ l → p.axis ≡ a → p.reference ≡ r → p ≡ position l a r
  same_position p l a r first second third =
      ap (λ x. position x p.axis p.reference) first
      ∙ ap (λ x. position l x p.reference) second
      ∙ ap (λ x. position l a x) third

  abbrev in_space_of : ℕ × (Option ℕ × (Option ℕ × Unit {0})) → Position
  in_space_of v =
      position (point_of v.0) (option_map direction_of v.1.0) (option_map direction_of v.1.1.0)

  abbrev pub space_position_of : ℕ → Seen Position
  space_position_of n = sight_of axis2_placement_3d in_space_of n

  pub one_space_position : (n : ℕ) (s : Seen Position) → IsSpacePosition i n s → s ≡ space_position_of n
  one_space_position n s sees =
      one_sight axis2_placement_3d n (ShowsInSpace i n) in_space_of s
      (λ p shows. (
        (shows.point, (shows.axis_at, (shows.reference_at, tt))),
        shows.gives,
        same_position p (point_of shows.point) (option_map direction_of shows.axis_at)
            (option_map direction_of shows.reference_at) (one_point shows.point p.location shows.location)
            (one_direction_where shows.axis_at p.axis shows.axis)
            (one_direction_where shows.reference_at p.reference shows.reference),
      ))
      sees

  abbrev in_plan_of : ℕ × (Option ℕ × Unit {0}) → Position
  in_plan_of v =
      position (in_plan (point_of v.0)) None (in_plan_where (option_map direction_of v.1.0))

  abbrev pub plan_position_of : ℕ → Seen Position
  plan_position_of n = sight_of axis2_placement_2d in_plan_of n

  pub one_plan_position : (n : ℕ) (s : Seen Position) → IsPlanPosition i n s → s ≡ plan_position_of n
  one_plan_position n s sees =
      one_sight axis2_placement_2d n (ShowsInPlan i n) in_plan_of s
      (λ p shows. (
        (shows.point, (shows.reference_at, tt)),
        shows.gives,
        same_position p (in_plan (point_of shows.point)) None
            (in_plan_where (option_map direction_of shows.reference_at))
            (shows.location_in_plan ∙ ap in_plan (one_point shows.point shows.whole_location shows.location))
            shows.no_axis
            (shows.reference_in_plan
            ∙ ap in_plan_where (one_direction_where shows.reference_at shows.whole_reference shows.reference)),
      ))
      sees
