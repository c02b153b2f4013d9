-- The placements of chains, level by level: those that were reached, and those whose parents were asked for.
use Rattle.std.specs.Prelude.{◌≡◌, ℕ, ◌+◌, ◌-◌, ◌≤◌, nat_eq, ◌⊎◌, false, List, ◌++◌, take, Option, Some}
use Rattle.std.specs.List.{list_any}
use Rattle.std.specs.Ordering.{nat_cmp}
use Rattle.std.specs.BTreeSet.{contains}
use Rattle.theory_lists.specs.Members.{Stands}
use Rattle.sb_schema.specs.declared.entities.placements.LocalPlacement.{LocalPlacement}
use Rattle.sb_profile.specs.declared.following.chains.Chain.{Chain}
use Rattle.sb_profile.specs.declared.following.found.Found.{Found}
use Rattle.sb_profile.specs.declared.following.places.Place.TheVariants as place
use Rattle.sb_profile.specs.Contents.{Contents}
use Rattle.sb_profile.specs.Steps.Found.{FindsEach}
use Rattle.sb_profile.specs.Following.{below_building, parent_of, IsInChain, longest_chain}

-- the set has just the numbers of the list
abbrev pub IsSeen : Chain → Type 0
IsSeen chain = (q : ℕ) → contains nat_cmp chain.seen q ≡ list_any (nat_eq q) chain.placements.items

-- the list with some numbers behind it
pub record Grows (old new : List ℕ) : Type 0 where
  pub more : List ℕ
  pub is : new ≡ old ++ more

-- behind the placements stands this one, if there is one and it was not there
pub record Reaches (found : Option ℕ) (old new : Chain) : Type 0 where
  pub seen : IsSeen new
  pub grows : Grows old.placements.items new.placements.items
  pub old_or_found : (q : ℕ) → Stands q new.placements.items
      → Stands q old.placements.items ⊎ (found ≡ Some q)
  pub has_found : (q : ℕ) → found ≡ Some q → Stands q new.placements.items

-- in chains with so many before it at most
pub record IsWithin (c : Contents) (level : ℕ) (n : ℕ) : Type 0 where
  pub before : ℕ
  pub few : before ≤ level
  pub chained : IsInChain c before n

-- how many may stand before the last that is followed
abbrev pub last_level : ℕ
last_level = longest_chain - 1

-- the parents of these placements were reached
abbrev pub AreClosed : Contents → List ℕ → List ℕ → Type 0
AreClosed c asked items =
    (m n : ℕ) → Stands m asked → below_building c (parent_of c m) ≡ Some n → Stands n items

-- all placements with so many before them at most, and no others, and the parents of the first ones
pub record AreReached (c : Contents) (level : ℕ) (items : List ℕ) (asked : ℕ) : Type 0 where
  pub sound : (n : ℕ) → Stands n items → IsWithin c level n
  pub complete : (n : ℕ) → IsWithin c level n → Stands n items
  pub closed : AreClosed c (take asked items) items

-- the same while parents are asked for: of the first placements those of the next level were reached
pub record Climbs (c : Contents) (level : ℕ) (items : List ℕ) (asked : ℕ) : Type 0 where
  pub sound : (n : ℕ) → Stands n items → IsWithin c (level + 1) n
  pub closed : AreClosed c (take asked items) items

-- all that a file says of these placements is found, one after another
abbrev pub FindsPlacements : Contents → List ℕ → Found → Found → Type 0
FindsPlacements c ns old new = FindsEach (λ _. false) c place.Placement ns old new

abbrev pub placement_fields : LocalPlacement → Option ℕ × (ℕ × Unit {0})
placement_fields v = (v.a1, (v.a2, tt))
