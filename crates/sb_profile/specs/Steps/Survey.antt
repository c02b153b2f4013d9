-- Places in an order in which an instance leads to later places only, and what is found at each.
use Rattle.std.specs.Prelude.{◌≡◌, ℕ, ◌==◌, ◌<◌, Bool, true, List, [], ◌⊎◌, filter, map, Option, Some, None}
use Rattle.theory_lists.specs.Members.{Stands}
use Rattle.sb_profile.specs.declared.following.found.Found.{Found}
use Rattle.sb_profile.specs.declared.following.places.Place.{Place}
use Rattle.sb_profile.specs.declared.following.places.Place.TheVariants as place
use Rattle.sb_profile.specs.Contents.{Contents, is_absent}
use Rattle.sb_profile.specs.Lowest.{IsLowest}
use Rattle.sb_profile.specs.Following.{Lead, leads, IsFollowed}
use Rattle.sb_profile.specs.Steps.Found.{leads_with, is_unfit_at, AreBodies}

-- how many places stand before it
abbrev pub rank_of : Place → ℕ
rank_of place.Placement = 0
rank_of place.Shape = 1
rank_of place.Body = 2
rank_of place.Representation = 3
rank_of place.Solid = 4
rank_of place.Profile = 5
rank_of place.Curve = 6
rank_of place.PointList = 7
rank_of place.Position3d = 8
rank_of place.Position2d = 9
rank_of place.Point = 10
rank_of place.Direction = 11
rank_of place.Material = 12
rank_of place.LayerSet = 13
rank_of place.Layer = 14
rank_of place.LayerMaterial = 15

-- how many places there are
abbrev pub places : ℕ
places = 16

-- the lead is to this place
abbrev pub is_to : Place → Lead → Bool
is_to at lead = rank_of lead.0 == rank_of at

-- the numbers that are wanted there
abbrev pub wanted_there : Place → List Lead → List ℕ
wanted_there at found = map (λ lead. lead.1) (filter (is_to at) found)

-- the lowest number of which something holds, if there is one
abbrev pub IsLowestIf : (ℕ → Type 0) → Option ℕ → Type 0
IsLowestIf P None = (n : ℕ) → P n → ⊥
IsLowestIf P (Some n) = IsLowest P n

-- the lead is to a place of a lower rank, and the number passes a test there
pub record IsMarked (test : Place → ℕ → Bool) (rank : ℕ) (leads : List Lead) (n : ℕ) : Type 0 where
  pub at : Place
  pub low : rank_of at < rank
  pub stands : Stands (at, n) leads
  pub passes : test at n ≡ true

-- or it is one of these
abbrev pub IsOneOrMarked : List ℕ → (Place → ℕ → Bool) → ℕ → List Lead → ℕ → Type 0
IsOneOrMarked roots test rank leads n = Stands n roots ⊎ IsMarked test rank leads n

-- The leads to places of lower ranks were followed: what follows from them is found, and the lowest that
-- is not of its row of them or of the roots is kept, and the lowest that is absent.
pub record IsSurveyed (bodies : ℕ → Bool) (c : Contents) (roots : List ℕ) (first : List Lead)
    (rank : ℕ) (found : Found) : Type 0 where
  pub bodies_are : AreBodies c bodies
  pub keeps : (lead : Lead) → Stands lead first → Stands lead found.leads.items
  pub sound : (at : Place) (n : ℕ) → Stands (at, n) found.leads.items → IsFollowed c at n
  pub agree : (at : Place) (n : ℕ) → Stands (at, n) found.leads.items
      → leads_with bodies c at n ≡ leads c at n
  pub closed : (at : Place) (n : ℕ) (lead : Lead) → rank_of at < rank
      → Stands (at, n) found.leads.items → Stands lead (leads_with bodies c at n)
      → Stands lead found.leads.items
  pub unfit : IsLowestIf (IsOneOrMarked roots (is_unfit_at c) rank found.leads.items) found.unfit
  pub absent : IsLowestIf (IsOneOrMarked [] (λ _ n. is_absent c n) rank found.leads.items) found.absent
