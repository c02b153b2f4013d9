-- What follows from an instance at a place is wanted at places of higher ranks, and never at that of
-- shapes; places of one rank are one.
use Rattle.std.proofs.Common.{◌≡◌, ℕ, ◌<◌, ◌==◌, Bool, List, [], ◌∷◌, ◌++◌, Option, Some, None, refl, sym, ap, ◌∙◌, arith, lit<}
use Rattle.std.specs.Prelude.{find, if◌then◌else◌}
use Rattle.std.specs.List.{AllByRecursion}
use Rattle.std.proofs.lemmas.Option.{same_Some}
use Rattle.theory_lists.specs.Members.{Stands}
use Rattle.theory_lists.proofs.Members.{all_stands}
use Rattle.theory_lists.proofs.Blocks.{all-append}
use Rattle.sb_profile.specs.declared.following.places.Place.{Place}
use Rattle.sb_profile.specs.declared.following.places.Place.TheVariants as place
use Rattle.sb_profile.specs.Entities.Entity.{polyline, indexed_poly_curve, rectangle_profile_def, arbitrary_closed_profile_def, arbitrary_profile_def_with_voids, local_placement, shape_representation, extruded_area_solid, axis2_placement_3d, axis2_placement_2d, material_layer, material_layer_set, material_layer_set_usage, product_definition_shape}
use Rattle.sb_profile.specs.Contents.{Contents}
use Rattle.sb_profile.specs.Following.{Lead, to, to_each, from, leads, from_layer_set, from_usage}
use Rattle.sb_profile.specs.Steps.Found.{leads_with, shape_leads}
use Rattle.sb_profile.specs.Steps.Survey.{rank_of}

-- a lead to a place of a higher rank that is not that of shapes
abbrev pub IsLater : ℕ → Lead → Type 0
IsLater rank lead = (rank < rank_of lead.0) × (1 < rank_of lead.0)

abbrev AllLater : ℕ → List Lead → Type 0
AllLater rank ls = AllByRecursion (IsLater rank) ls

module _ (rank : ℕ) (at : Place) (high : rank < rank_of at) (apart : 1 < rank_of at) where
  later_to : (o : Option ℕ) → AllLater rank (to at o)
  later_to None = tt
  later_to (Some n) = ((high, apart), tt)

  later_each : (ns : List ℕ) → AllLater rank (to_each at ns)
  later_each [] = tt
  later_each (n ∷ ns) = ((high, apart), later_each ns)

later_from : {A : Type 0} (rank : ℕ) (follow : A → List Lead) → ((a : A) → AllLater rank (follow a))
    → (o : Option A) → AllLater rank (from o follow)
later_from rank follow each None = tt
later_from rank follow each (Some a) = each a

later_both : (rank : ℕ) (one two : List Lead) → AllLater rank one → AllLater rank two
    → AllLater rank (one ++ two)
later_both rank one two first second = all-append (IsLater rank) one two first second

all_later : (bodies : ℕ → Bool) (c : Contents) (at : Place) (n : ℕ)
    → AllLater (rank_of at) (leads_with bodies c at n)
all_later bodies c place.Placement n =
    later_from 0 _ (λ v. ((lit< tt, lit< tt), tt)) (c.given local_placement n)
all_later bodies c place.Shape n =
    later_from 1 (shape_leads bodies)
    (λ v. later_both 1 (to_each place.Representation v.0) (to place.Body (find bodies v.0))
    (later_each 1 place.Representation (lit< tt) (lit< tt) v.0)
    (later_to 1 place.Body (lit< tt) (lit< tt) (find bodies v.0)))
    (c.given product_definition_shape n)
all_later bodies c place.Body n =
    later_from 2 _ (λ v. later_each 2 place.Solid (lit< tt) (lit< tt) v.1.0)
    (c.given shape_representation n)
all_later bodies c place.Representation n = tt
all_later bodies c place.Solid n =
    later_from 4 _
    (λ v. (
      (lit< tt, lit< tt),
      (
        (lit< tt, lit< tt),
        later_to 4 place.Position3d (lit< tt) (lit< tt) v.1.0,
      ),
    ))
    (c.given extruded_area_solid n)
all_later bodies c place.Profile n =
    later_both 5 _ _
    (later_both 5 _ _
    (later_from 5 (λ v. to place.Position2d v.0)
    (λ v. later_to 5 place.Position2d (lit< tt) (lit< tt) v.0)
    (c.given rectangle_profile_def n))
    (later_from 5 (λ v. (place.Curve, v.0) ∷ []) (λ v. ((lit< tt, lit< tt), tt))
    (c.given arbitrary_closed_profile_def n)))
    (later_from 5 (λ v. (place.Curve, v.0) ∷ to_each place.Curve v.1.0)
    (λ v. ((lit< tt, lit< tt), later_each 5 place.Curve (lit< tt) (lit< tt) v.1.0))
    (c.given arbitrary_profile_def_with_voids n))
all_later bodies c place.Curve n =
    later_both 6 _ _
    (later_from 6 (λ v. to_each place.Point v.0)
    (λ v. later_each 6 place.Point (lit< tt) (lit< tt) v.0) (c.given polyline n))
    (later_from 6 (λ v. (place.PointList, v.0) ∷ []) (λ v. ((lit< tt, lit< tt), tt))
    (c.given indexed_poly_curve n))
all_later bodies c place.PointList n = tt
all_later bodies c place.Position3d n =
    later_from 8 _
    (λ v. (
      (lit< tt, lit< tt),
      later_both 8 (to place.Direction v.1.0) (to place.Direction v.1.1.0)
          (later_to 8 place.Direction (lit< tt) (lit< tt) v.1.0)
          (later_to 8 place.Direction (lit< tt) (lit< tt) v.1.1.0),
    ))
    (c.given axis2_placement_3d n)
all_later bodies c place.Position2d n =
    later_from 9 _
    (λ v. ((lit< tt, lit< tt), later_to 9 place.Direction (lit< tt) (lit< tt) v.1.0))
    (c.given axis2_placement_2d n)
all_later bodies c place.Point n = tt
all_later bodies c place.Direction n = tt
all_later bodies c place.Material n =
    later_both 12 (from_layer_set c n) (from_usage c n)
    (later_from 12 (λ v. to_each place.Layer v.0)
    (λ v. later_each 12 place.Layer (lit< tt) (lit< tt) v.0) (c.given material_layer_set n))
    (later_from 12 (λ v. (place.LayerSet, v.0) ∷ []) (λ v. ((lit< tt, lit< tt), tt))
    (c.given material_layer_set_usage n))
all_later bodies c place.LayerSet n =
    later_from 13 _ (λ v. later_each 13 place.Layer (lit< tt) (lit< tt) v.0)
    (c.given material_layer_set n)
all_later bodies c place.Layer n =
    later_from 14 _ (λ v. later_to 14 place.LayerMaterial (lit< tt) (lit< tt) v.0)
    (c.given material_layer n)
all_later bodies c place.LayerMaterial n = tt

-- what follows is later
pub leads_later : (bodies : ℕ → Bool) (c : Contents) (at : Place) (n : ℕ) (lead : Lead)
    → Stands lead (leads_with bodies c at n) → IsLater (rank_of at) lead
leads_later bodies c at n lead stands =
    all_stands (IsLater (rank_of at)) lead (leads_with bodies c at n) (all_later bodies c at n) stands

-- at each place but that of shapes the same follows whatever is a body
pub agree_later : (bodies : ℕ → Bool) (c : Contents) (at : Place) (n : ℕ) → 1 < rank_of at
    → leads_with bodies c at n ≡ leads c at n
agree_later bodies c place.Placement n apart = refl
agree_later bodies c place.Shape n apart = absurd (omega arith)
agree_later bodies c place.Body n apart = refl
agree_later bodies c place.Representation n apart = refl
agree_later bodies c place.Solid n apart = refl
agree_later bodies c place.Profile n apart = refl
agree_later bodies c place.Curve n apart = refl
agree_later bodies c place.PointList n apart = refl
agree_later bodies c place.Position3d n apart = refl
agree_later bodies c place.Position2d n apart = refl
agree_later bodies c place.Point n apart = refl
agree_later bodies c place.Direction n apart = refl
agree_later bodies c place.Material n apart = refl
agree_later bodies c place.LayerSet n apart = refl
agree_later bodies c place.Layer n apart = refl
agree_later bodies c place.LayerMaterial n apart = refl

-- ---- ranks

place_at : ℕ → Option Place
place_at n =
    if n == 0 then Some place.Placement
    else if n == 1 then Some place.Shape
    else if n == 2 then Some place.Body
    else if n == 3 then Some place.Representation
    else if n == 4 then Some place.Solid
    else if n == 5 then Some place.Profile
    else if n == 6 then Some place.Curve
    else if n == 7 then Some place.PointList
    else if n == 8 then Some place.Position3d
    else if n == 9 then Some place.Position2d
    else if n == 10 then Some place.Point
    else if n == 11 then Some place.Direction
    else if n == 12 then Some place.Material
    else if n == 13 then Some place.LayerSet
    else if n == 14 then Some place.Layer
    else Some place.LayerMaterial

place_back : (at : Place) → place_at (rank_of at) ≡ Some at
unfolding place_at
place_back place.Placement = refl
place_back place.Shape = refl
place_back place.Body = refl
place_back place.Representation = refl
place_back place.Solid = refl
place_back place.Profile = refl
place_back place.Curve = refl
place_back place.PointList = refl
place_back place.Position3d = refl
place_back place.Position2d = refl
place_back place.Point = refl
place_back place.Direction = refl
place_back place.Material = refl
place_back place.LayerSet = refl
place_back place.Layer = refl
place_back place.LayerMaterial = refl

pub one_rank : (one two : Place) → rank_of one ≡ rank_of two → one ≡ two
one_rank one two same =
    same_Some one two (sym (place_back one) ∙ (ap place_at same ∙ place_back two))

-- each rank is low enough at the end
pub rank_low : (at : Place) → rank_of at < 16
rank_low place.Placement = lit< tt
rank_low place.Shape = lit< tt
rank_low place.Body = lit< tt
rank_low place.Representation = lit< tt
rank_low place.Solid = lit< tt
rank_low place.Profile = lit< tt
rank_low place.Curve = lit< tt
rank_low place.PointList = lit< tt
rank_low place.Position3d = lit< tt
rank_low place.Position2d = lit< tt
rank_low place.Point = lit< tt
rank_low place.Direction = lit< tt
rank_low place.Material = lit< tt
rank_low place.LayerSet = lit< tt
rank_low place.Layer = lit< tt
rank_low place.LayerMaterial = lit< tt
