-- What is seen at a place that is followed: what is not of its row there is a defect of the file, and so
-- is what is absent.
use Rattle.std.proofs.Common.{◌≡◌, ℕ, nat_eq, Bool, true, false, not, List, [], ◌∷◌, ◌++◌, map, Option, Some, None, is_some, refl, sym, ap, ◌∙◌, subst, inl, inr}
use Rattle.std.specs.List.{AllByRecursion, list_any}
use Rattle.std.specs.Map.{lookup}
use Rattle.theory_lists.specs.Members.{Stands}
use Rattle.theory_lists.proofs.Blocks.{all-append, stands_before, stands_behind}
use Rattle.sb_step.specs.declared.step_file.records.Record.{Record}
use Rattle.sb_step.specs.Indexed.{Indexed}
use Rattle.sb_step.specs.Records.Spans.{keyword_of}
use Rattle.sb_step.specs.Params.Parameters.{ParametersAreUnique}
use Rattle.sb_schema.specs.Table.{Values, values, is_one_of}
use Rattle.sb_schema.specs.Views.{IsMissing, IsOther, Gives}
use Rattle.sb_place.specs.declared.sight.Seen.{Seen}
use Rattle.sb_place.specs.declared.sight.Seen.TheVariants as seen
use Rattle.sb_place.specs.declared.position.Position.{Position}
use Rattle.sb_place.specs.Sight.{Sees, broken_where, absent_where}
use Rattle.sb_place.specs.Directions.{Coordinates}
use Rattle.sb_place.specs.Positions.{IsPoint, IsDirection, IsDirectionWhere, ShowsInSpace, ShowsInPlan, IsSpacePosition, IsPlanPosition, in_plan, in_plan_where}
use Rattle.sb_prism.specs.Faults.{Fault, named, in_position}
use Rattle.sb_prism.specs.Faults.Fault.{not_of_row, not_there}
use Rattle.sb_profile.specs.declared.following.places.Place.{Place}
use Rattle.sb_profile.specs.declared.following.places.Place.TheVariants as place
use Rattle.sb_profile.specs.Entities.{Entity, row_of, wanted_at}
use Rattle.sb_profile.specs.Entities.Entity.{axis2_placement_3d, axis2_placement_2d, cartesian_point, direction}
use Rattle.sb_profile.specs.Contents.{Contents, Says, has_keyword, is_absent}
use Rattle.sb_profile.specs.Following.{Lead, to, to_each, from, leads, IsFollowed}
use Rattle.sb_profile.specs.Following.IsFollowed.{onward}
use Rattle.sb_profile.specs.Following.IsReadAs.{followed}
use Rattle.sb_profile.specs.Defects.{IsUnfitRead, IsAbsentFollowed}

-- the fault is a defect of the file
abbrev pub IsDefect : Contents → Fault → ℕ → Type 0
IsDefect c not_of_row n = IsUnfitRead c n
IsDefect c not_there n = IsAbsentFollowed c n

-- each of these is
abbrev pub AreDefects : Contents → Fault → List ℕ → Type 0
AreDefects c fault ns = AllByRecursion (IsDefect c fault) ns

-- two tests that pass together are one
pub same_tests : (x y : Bool) → (x ≡ true → y ≡ true) → (y ≡ true → x ≡ true) → x ≡ y
same_tests true y there back = sym (there refl)
same_tests false true there back = back refl
same_tests false false there back = refl

-- what is named of what may be left out
abbrev named_where : Fault → Option (Seen Coordinates) → List ℕ
named_where not_of_row o = broken_where o
named_where not_there o = absent_where o

-- no value where any is refuted
none_if : {A : Type 0} (o : Option A) → ((a : A) → o ≡ Some a → ⊥) → o ≡ None
none_if None refuted = refl
none_if (Some a) refuted = absurd (refuted a refl)

-- a number is among those of the instances exactly where one is found by it
any_by_lookup : (n : ℕ) (instances : List (ℕ × Record))
    → list_any (nat_eq n) (map (λ i. i.0) instances) ≡ is_some (lookup (nat_eq n) instances)
any_by_lookup n [] = refl
any_by_lookup n (i ∷ instances) = by_test (nat_eq n i.0) refl (any_by_lookup n instances)
  where
    by_test : (b : Bool) → nat_eq n i.0 ≡ b
        → list_any (nat_eq n) (map (λ i. i.0) instances) ≡ is_some (lookup (nat_eq n) instances)
        → list_any (nat_eq n) (map (λ i. i.0) (i ∷ instances))
        ≡ is_some (lookup (nat_eq n) (i ∷ instances))
    by_test true same later = rw same refl
    by_test false apart later = rw apart later

-- a lead that follows from attributes that are given
pub lead_from : {A : Type 0} (o : Option A) (v : A) (follow : A → List Lead) (l : Lead) → o ≡ Some v
    → Stands l (follow v) → Stands l (from o follow)
lead_from o v follow l given stands = subst (λ q. Stands l (from q follow)) (sym given) stands

pub lead_to : (at : Place) (o : Option ℕ) (n : ℕ) → o ≡ Some n → Stands (at, n) (to at o)
lead_to at o n is = subst (λ q. Stands (at, n) (to at q)) (sym is) (inl refl)

pub lead_to_each : (at : Place) (n : ℕ) (ns : List ℕ) → Stands n ns → Stands (at, n) (to_each at ns)
lead_to_each at n [] stands = absurd stands
lead_to_each at n (m ∷ ns) (inl same) = inl (ap (λ k. (at, k)) same)
lead_to_each at n (m ∷ ns) (inr later) = inr (lead_to_each at n ns later)

module _ (unique : ParametersAreUnique) (indexed : Indexed) (c : Contents) (says : Says indexed c) where
  -- what a row gives is what the file says
  pub given_is : (e : Entity) (n : ℕ) (vs : Values (row_of e).read)
      → Gives (row_of e) indexed n (Some vs) → c.given e n ≡ Some vs
  given_is e n vs gives = (says.given_is e n vs).1 gives

  pub keyword_is : (e : Entity) (n : ℕ) (b : Bool)
      → is_one_of (row_of e).keywords (keyword_of indexed n) ≡ b → has_keyword c e n ≡ b
  keyword_is e n b known = ap (is_one_of (row_of e).keywords) (says.keyword_is n) ∙ known

  -- where a row gives nothing, nothing is given
  not_given : (e : Entity) (n : ℕ) → Gives (row_of e) indexed n None → c.given e n ≡ None
  not_given e n gives =
      none_if (c.given e n)
      (λ vs given. let other = (says.given_is e n vs).0 given in
      let none : values (row_of e) gives.parameters ≡ None = gives.give in
      let some : values (row_of e) other.parameters ≡ Some vs = other.give in
      let same : gives.parameters ≡ other.parameters =
      unique indexed n gives.parameters other.parameters gives.are other.are in
      let both : None ≡ Some vs = sym none ∙ ap (values (row_of e)) same ∙ some in
      cc both)

  -- nor where the keyword is another one, or there is no instance
  pub not_given_of_other : (e : Entity) (n : ℕ) → IsOther (row_of e).keywords indexed n
      → c.given e n ≡ None
  not_given_of_other e n other =
      none_if (c.given e n)
      (λ vs given. let gives = (says.given_is e n vs).0 given in
      let one = gives.keyword in let none = other.keyword in cc)

  pub not_given_of_missing : (e : Entity) (n : ℕ) → IsMissing indexed n → c.given e n ≡ None
  not_given_of_missing e n missing =
      none_if (c.given e n)
      (λ vs given. let gives = (says.given_is e n vs).0 given in
      let found = gives.are.found in cc)

  pub not_given_of_unfit : (e : Entity) (n : ℕ) → Gives (row_of e) indexed n None → c.given e n ≡ None
  not_given_of_unfit e n gives = not_given e n gives

  pub absent_is : (n : ℕ) → IsMissing indexed n → is_absent c n ≡ true
  absent_is n missing =
      ap (λ ns. not (list_any (nat_eq n) ns)) says.numbers_are
      ∙ ap not (any_by_lookup n indexed.file.instances)
      ∙ ap (λ o. not (is_some o)) missing

  pub present_is : (n : ℕ) (r : Record) → lookup (nat_eq n) indexed.file.instances ≡ Some r
      → is_absent c n ≡ false
  present_is n r found =
      ap (λ ns. not (list_any (nat_eq n) ns)) says.numbers_are
      ∙ ap not (any_by_lookup n indexed.file.instances)
      ∙ ap (λ o. not (is_some o)) found

  -- an instance at a place that is followed, not of its row
  pub unfit_at : (at : Place) (e : Entity) (n : ℕ) → IsFollowed c at n → Stands e (wanted_at at)
      → Gives (row_of e) indexed n None → IsDefect c not_of_row n
  unfit_at at e n follows wanted gives = record {
    entity = e;
    read = followed at follows wanted (keyword_is e n true gives.keyword);
    none = not_given e n gives;
  }

  pub absent_at_place : (at : Place) (n : ℕ) → IsFollowed c at n → IsMissing indexed n
      → IsDefect c not_there n
  absent_at_place at n follows missing = record {
    at = at;
    followed = follows;
    absent = absent_is n missing;
  }

  -- what is named at a place
  pub named_at : (fault : Fault) (at : Place) (e : Entity) (n : ℕ) {V : Type 0} (shows : V → Type 0)
      (s : Seen V) → IsFollowed c at n → Stands e (wanted_at at) → Sees (row_of e) indexed n shows s
      → AreDefects c fault (named fault s)
  named_at not_of_row at e n shows (seen.Absent m) follows wanted sees = tt
  named_at not_of_row at e n shows (seen.Broken m) follows wanted sees =
      (subst (IsDefect c not_of_row) (sym sees.0) (unfit_at at e n follows wanted sees.1), tt)
  named_at not_of_row at e n shows seen.Other follows wanted sees = tt
  named_at not_of_row at e n shows (seen.Shown v) follows wanted sees = tt
  named_at not_there at e n shows (seen.Absent m) follows wanted sees =
      (subst (IsDefect c not_there) (sym sees.0) (absent_at_place at n follows sees.1), tt)
  named_at not_there at e n shows (seen.Broken m) follows wanted sees = tt
  named_at not_there at e n shows seen.Other follows wanted sees = tt
  named_at not_there at e n shows (seen.Shown v) follows wanted sees = tt

  -- ---- points, directions and positions

  pub point_at : (fault : Fault) (n : ℕ) (s : Seen Coordinates) → IsFollowed c place.Point n
      → IsPoint indexed n s → AreDefects c fault (named fault s)
  point_at fault n s follows sees =
      named_at fault place.Point cartesian_point n
      (λ (v : Coordinates). Gives (row_of cartesian_point) indexed n (Some (v, tt)))
      s follows (inl refl) sees

  pub direction_at : (fault : Fault) (n : ℕ) (s : Seen Coordinates) → IsFollowed c place.Direction n
      → IsDirection indexed n s → AreDefects c fault (named fault s)
  direction_at fault n s follows sees =
      named_at fault place.Direction direction n
      (λ (v : Coordinates). Gives (row_of direction) indexed n (Some (v, tt)))
      s follows (inl refl) sees

  named_some : (fault : Fault) (s : Seen Coordinates) → named_where fault (Some s) ≡ named fault s
  named_some not_of_row s = refl
  named_some not_there s = refl

  named_none : (fault : Fault) → named_where fault None ≡ []
  named_none not_of_row = refl
  named_none not_there = refl

  direction_where : (fault : Fault) (n : Option ℕ) (s : Option (Seen Coordinates))
      → ((m : ℕ) → n ≡ Some m → IsFollowed c place.Direction m) → IsDirectionWhere indexed n s
      → AreDefects c fault (named_where fault s)
  direction_where fault None None follows sees =
      subst (AreDefects c fault) (sym (named_none fault)) tt
  direction_where fault (Some n) (Some s) follows sees =
      subst (AreDefects c fault) (sym (named_some fault s)) (direction_at fault n s (follows n refl) sees)
  direction_where fault None (Some s) follows sees = absurd sees
  direction_where fault (Some n) None follows sees = absurd sees

  -- what is named of the three parts of a position is what is named of it
  of_parts : (fault : Fault) (p : Position)
      → in_position fault (Some (seen.Shown p))
      ≡ named fault p.location ++ (named_where fault p.axis ++ named_where fault p.reference)
  of_parts not_of_row p = refl
  of_parts not_there p = refl

  parts : (fault : Fault) (p : Position) → AreDefects c fault (named fault p.location)
      → AreDefects c fault (named_where fault p.axis)
      → AreDefects c fault (named_where fault p.reference)
      → AreDefects c fault (in_position fault (Some (seen.Shown p)))
  parts fault p location axis reference =
      subst (AreDefects c fault) (sym (of_parts fault p))
      (all-append (IsDefect c fault) (named fault p.location)
      (named_where fault p.axis ++ named_where fault p.reference) location
      (all-append (IsDefect c fault) (named_where fault p.axis) (named_where fault p.reference) axis
      reference))

  of_unshown : (fault : Fault) (s : Seen Position) → ((p : Position) → s ≡ seen.Shown p → ⊥)
      → in_position fault (Some s) ≡ named fault s
  of_unshown not_of_row (seen.Absent m) unshown = refl
  of_unshown not_of_row (seen.Broken m) unshown = refl
  of_unshown not_of_row seen.Other unshown = refl
  of_unshown not_of_row (seen.Shown p) unshown = absurd (unshown p refl)
  of_unshown not_there (seen.Absent m) unshown = refl
  of_unshown not_there (seen.Broken m) unshown = refl
  of_unshown not_there seen.Other unshown = refl
  of_unshown not_there (seen.Shown p) unshown = absurd (unshown p refl)

  -- what is named of a position, by what is named of one that is shown
  position_at : (fault : Fault) (at : Place) (e : Entity) (n : ℕ) (shows : Position → Type 0)
      (s : Seen Position) → IsFollowed c at n → Stands e (wanted_at at)
      → Sees (row_of e) indexed n shows s
      → ((p : Position) → shows p → AreDefects c fault (in_position fault (Some (seen.Shown p))))
      → AreDefects c fault (in_position fault (Some s))
  position_at fault at e n shows (seen.Absent m) follows wanted sees inner =
      subst (AreDefects c fault) (sym (of_unshown fault (seen.Absent m) (λ p is. cc is)))
      (named_at fault at e n shows (seen.Absent m) follows wanted sees)
  position_at fault at e n shows (seen.Broken m) follows wanted sees inner =
      subst (AreDefects c fault) (sym (of_unshown fault (seen.Broken m) (λ p is. cc is)))
      (named_at fault at e n shows (seen.Broken m) follows wanted sees)
  position_at fault at e n shows seen.Other follows wanted sees inner =
      subst (AreDefects c fault) (sym (of_unshown fault seen.Other (λ p is. cc is)))
      (named_at fault at e n shows seen.Other follows wanted sees)
  position_at fault at e n shows (seen.Shown p) follows wanted sees inner = inner p sees

  -- ---- positions in space

  pub leads_to : (at : Place) (n : ℕ) (next : Place) (m : ℕ) → IsFollowed c at n
      → Stands (next, m) (leads c at n) → IsFollowed c next m
  leads_to at n next m follows stands = onward at next n m follows stands

  in_space : (fault : Fault) (n : ℕ) (p : Position) → IsFollowed c place.Position3d n
      → ShowsInSpace indexed n p → AreDefects c fault (in_position fault (Some (seen.Shown p)))
  in_space fault n p follows shows =
      parts fault p
      (point_at fault shows.point p.location
      (leads_to place.Position3d n place.Point shows.point follows (lead place.Point shows.point (inl refl)))
      shows.location)
      (direction_where fault shows.axis_at p.axis
      (λ m is. leads_to place.Position3d n place.Direction m follows
      (lead place.Direction m
      (inr (stands_before (place.Direction, m) (to place.Direction shows.axis_at)
      (to place.Direction shows.reference_at) (lead_to place.Direction shows.axis_at m is)))))
      shows.axis)
      (direction_where fault shows.reference_at p.reference
      (λ m is. leads_to place.Position3d n place.Direction m follows
      (lead place.Direction m
      (inr (stands_behind (place.Direction, m) (to place.Direction shows.axis_at)
      (to place.Direction shows.reference_at) (lead_to place.Direction shows.reference_at m is)))))
      shows.reference)
    where
      lead : (next : Place) (m : ℕ)
          → Stands (next, m)
          ((place.Point, shows.point)
          ∷ (to place.Direction shows.axis_at ++ to place.Direction shows.reference_at))
          → Stands (next, m) (leads c place.Position3d n)
      lead next m stands =
          lead_from (c.given axis2_placement_3d n) (shows.point, (shows.axis_at, (shows.reference_at, tt)))
          (λ v. (place.Point, v.0) ∷ (to place.Direction v.1.0 ++ to place.Direction v.1.1.0))
          (next, m)
          (given_is axis2_placement_3d n (shows.point, (shows.axis_at, (shows.reference_at, tt))) shows.gives)
          stands

  pub space_position_at : (fault : Fault) (n : ℕ) (s : Seen Position) → IsFollowed c place.Position3d n
      → IsSpacePosition indexed n s → AreDefects c fault (in_position fault (Some s))
  space_position_at fault n s follows sees =
      position_at fault place.Position3d axis2_placement_3d n (ShowsInSpace indexed n) s follows (inl refl)
      sees (λ p shows. in_space fault n p follows shows)

  -- ---- positions in the plan

  named_in_plan : (fault : Fault) (s : Seen Coordinates) → named fault (in_plan s) ≡ named fault s
  named_in_plan not_of_row (seen.Absent m) = refl
  named_in_plan not_of_row (seen.Broken m) = refl
  named_in_plan not_of_row seen.Other = refl
  named_in_plan not_of_row (seen.Shown v) = refl
  named_in_plan not_there (seen.Absent m) = refl
  named_in_plan not_there (seen.Broken m) = refl
  named_in_plan not_there seen.Other = refl
  named_in_plan not_there (seen.Shown v) = refl

  named_where_in_plan : (fault : Fault) (o : Option (Seen Coordinates))
      → named_where fault (in_plan_where o) ≡ named_where fault o
  named_where_in_plan fault None = refl
  named_where_in_plan fault (Some s) =
      named_some fault (in_plan s) ∙ named_in_plan fault s ∙ sym (named_some fault s)

  in_a_plan : (fault : Fault) (n : ℕ) (p : Position) → IsFollowed c place.Position2d n
      → ShowsInPlan indexed n p → AreDefects c fault (in_position fault (Some (seen.Shown p)))
  in_a_plan fault n p follows shows =
      parts fault p
      (subst (AreDefects c fault) (sym location_is)
      (point_at fault shows.point shows.whole_location
      (leads_to place.Position2d n place.Point shows.point follows (lead place.Point shows.point (inl refl)))
      shows.location))
      (subst (AreDefects c fault) (sym (ap (named_where fault) shows.no_axis ∙ named_none fault)) tt)
      (subst (AreDefects c fault) (sym reference_is)
      (direction_where fault shows.reference_at shows.whole_reference
      (λ m is. leads_to place.Position2d n place.Direction m follows
      (lead place.Direction m (inr (lead_to place.Direction shows.reference_at m is))))
      shows.reference))
    where
      location_is : named fault p.location ≡ named fault shows.whole_location
      location_is = ap (named fault) shows.location_in_plan ∙ named_in_plan fault shows.whole_location

      reference_is : named_where fault p.reference ≡ named_where fault shows.whole_reference
      reference_is =
          ap (named_where fault) shows.reference_in_plan
          ∙ named_where_in_plan fault shows.whole_reference

      lead : (next : Place) (m : ℕ)
          → Stands (next, m) ((place.Point, shows.point) ∷ to place.Direction shows.reference_at)
          → Stands (next, m) (leads c place.Position2d n)
      lead next m stands =
          lead_from (c.given axis2_placement_2d n) (shows.point, (shows.reference_at, tt))
          (λ v. (place.Point, v.0) ∷ to place.Direction v.1.0)
          (next, m)
          (given_is axis2_placement_2d n (shows.point, (shows.reference_at, tt)) shows.gives)
          stands

  pub plan_position_at : (fault : Fault) (n : ℕ) (s : Seen Position) → IsFollowed c place.Position2d n
      → IsPlanPosition indexed n s → AreDefects c fault (in_position fault (Some s))
  plan_position_at fault n s follows sees =
      position_at fault place.Position2d axis2_placement_2d n (ShowsInPlan indexed n) s follows (inl refl)
      sees (λ p shows. in_a_plan fault n p follows shows)
