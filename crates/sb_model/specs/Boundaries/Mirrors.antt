-- Counterparts: the same patch seen from the other space, with the walk reversed.

use Rattle.std.specs.Prelude.{◌≡◌, ℕ, neg_ℤ, ◌+ℤ◌, List, reverse, Option, Some, None}
use Rattle.sb_model.specs.declared.boundary.Boundary.{Boundary}
use Rattle.sb_model.specs.declared.walk.End.{End}
use Rattle.sb_model.specs.declared.walk.End.TheVariants as end
use Rattle.sb_fraction.specs.Spots.{opposite}
use Rattle.sb_model.specs.Building.{Building}
use Rattle.sb_model.specs.Surfaces.Faces.{Surface}
use Rattle.sb_model.specs.Surfaces.Patches.{surface_at}
use Rattle.sb_model.specs.Boundaries.Places.{boundary_at}

-- c has the key of the child b, and its parent is the pair of b's parent, which has this id
pub record HasPairedParent (list : List Boundary) (b c : Boundary) (id : ℕ) : Type 0 where
  pub parent : Boundary
  pub parent_is : boundary_at list id ≡ Some parent
  pub pair : ℕ
  pub pair_is : parent.pair ≡ Some pair
  pub parents : c.parent ≡ Some pair
  pub keys : c.key ≡ b.key

-- where b is top-level, c is top-level; where b is a child, c is one of the pair of b's parent
abbrev pub HasLikeParent : List Boundary → Boundary → Boundary → Option ℕ → Type 0
HasLikeParent list b c None = c.parent ≡ None
HasLikeParent list b c (Some id) = HasPairedParent list b c id

-- c mirrors b, whose walk ends at a space at depth k
pub record Mirrors (m : Building) (list : List Boundary) (b c : Boundary) : Type 0 where
  pub near : Surface
  pub near_is : surface_at m b.patch.face ≡ Some near
  pub far : Surface
  pub far_is : surface_at m c.patch.face ≡ Some far
  -- c stands on a face of the space at which b's walk ends
  pub ends_there : b.walk.end ≡ end.Space c.patch.face.space
  -- this face has the opposite normal, and its position along b's normal is k more
  pub faces_back : far.normal ≡ opposite near.normal
  pub far_away : neg_ℤ far.position ≡ near.position +ℤ b.walk.depth
  -- the patch is the same
  pub low : c.patch.low ≡ b.patch.low
  pub high : c.patch.high ≡ b.patch.high
  pub lower : c.patch.lower ≡ b.patch.lower
  pub upper : c.patch.upper ≡ b.patch.upper
  -- the walk is reversed
  pub items : c.walk.items ≡ reverse b.walk.items
  pub depth : c.walk.depth ≡ b.walk.depth
  pub ends_back : c.walk.end ≡ end.Space b.patch.face.space
  pub standing : HasLikeParent list b c b.parent

-- exactly one boundary mirrors b, and each of the two names the other by its id
pub record HasCounterpart (m : Building) (list : List Boundary) (b : Boundary)
    (id : ℕ) : Type 0 where
  pub other_id : ℕ
  pub other : Boundary
  pub other_is : boundary_at list other_id ≡ Some other
  pub mirrors : Mirrors m list b other
  pub alone : (i : ℕ) → (c : Boundary) → boundary_at list i ≡ Some c → Mirrors m list b c
      → i ≡ other_id
  pub pair : b.pair ≡ Some other_id
  pub back : other.pair ≡ Some id

-- a boundary whose walk ends at a space has a counterpart; any other has no pair
abbrev pub IsPairedBy : Building → List Boundary → Boundary → ℕ → End → Type 0
IsPairedBy m list b id (end.Space n) = HasCounterpart m list b id
IsPairedBy m list b id _ = b.pair ≡ None

-- each boundary of the list is paired so
abbrev pub ArePaired : Building → List Boundary → Type 0
ArePaired m list = (id : ℕ) → (b : Boundary) → boundary_at list id ≡ Some b
    → IsPairedBy m list b id b.walk.end
