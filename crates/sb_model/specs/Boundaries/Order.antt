-- Lists in order.

use Rattle.std.specs.Prelude.{◌≡◌, ◌⊎◌, ℕ, pos, ◌+◌, ◌<◌, ◌≤ℤ◌, List, Some, None, IsTrue}
use Rattle.theory_numbers.specs.Arrows.{Arrow}
use Rattle.theory_numbers.specs.Rationals.{IsRational, IsBelow, IsSame}
use Rattle.theory_plane.specs.Sides.{clearance_at}
use Rattle.theory_plane.specs.Regions.{is_spanned}
use Rattle.sb_model.specs.declared.boundary.Boundary.{Boundary}
use Rattle.sb_model.specs.declared.faces.face.FaceKind.{FaceKind}
use Rattle.sb_model.specs.declared.faces.face.FaceKind.TheVariants as kind
use Rattle.sb_model.specs.declared.patches.patch.Patch.{Patch}
use Rattle.sb_model.specs.Surfaces.Sides.{arrow_of, line_of}
use Rattle.sb_model.specs.Surfaces.Patches.{region_of}
use Rattle.theory_lists.specs.Members.{AllOfTwo}
use Rattle.sb_model.specs.Boundaries.Places.{boundary_at}

-- the faces of a space in order: Bottom, Top, Side(0), Side(1) and so on
abbrev pub rank_of : FaceKind → ℕ
rank_of kind.Bottom = 0
rank_of kind.Top = 1
rank_of (kind.Side k) = 2 + k

-- p is lower in v: its upper side is nowhere above the lower side of q at any u strictly inside
-- both
abbrev pub IsLower : Patch → Patch → Type 0
IsLower p q =
    (u : Arrow) → IsRational u → IsTrue (is_spanned (region_of p) u)
    → IsTrue (is_spanned (region_of q) u)
    → pos 0 ≤ℤ clearance_at (line_of p.upper) (line_of q.lower) u

-- p begins at a lower u, or they begin at one u and p is lower in v
abbrev pub IsBeforeOnFace : Patch → Patch → Type 0
IsBeforeOnFace p q =
    IsBelow (arrow_of p.low) (arrow_of q.low)
    ⊎ (IsSame (arrow_of p.low) (arrow_of q.low) × IsLower p q)

-- p comes before q: by space number, then face, then low, then v
abbrev pub IsBefore : Patch → Patch → Type 0
IsBefore p q =
    (p.face.space < q.face.space)
    ⊎ ((p.face.space ≡ q.face.space)
    × ((rank_of p.face.kind < rank_of q.face.kind)
    ⊎ ((rank_of p.face.kind ≡ rank_of q.face.kind) × IsBeforeOnFace p q)))

-- a list in order
pub record IsInOrder (list : List Boundary) : Type 0 where
  -- of each two top-level boundaries the earlier comes before the later
  pub tops : AllOfTwo (λ b c. b.parent ≡ None → c.parent ≡ None → IsBefore b.patch c.patch) list
  -- and of each two children of one parent
  pub children : (id : ℕ) → AllOfTwo
      (λ b c. b.parent ≡ Some id → c.parent ≡ Some id → IsBefore b.patch c.patch) list
  -- each top-level boundary is followed by its children: a child stands after its parent, and no
  -- top-level boundary between the two
  pub followed : (id place : ℕ) → (c : Boundary) → boundary_at list place ≡ Some c
      → c.parent ≡ Some id
      → (id < place)
      × ((between : ℕ) → (b : Boundary) → boundary_at list between ≡ Some b → b.parent ≡ None
      → id < between → between < place → ⊥)
