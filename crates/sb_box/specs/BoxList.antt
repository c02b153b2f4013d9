-- Which boundaries a box has. The ground is at height 0.
use Rattle.std.specs.Prelude.{◌≡◌, ℕ, ℤ, pos, Bool, ◌&&◌, List, [], ◌∷◌, ◌++◌, None, int_lt, int_le}
use Rattle.std.specs.Prelude.{if◌then◌else◌}
use Rattle.theory_numbers.specs.Fractions.{whole}
use Rattle.theory_plane.specs.Sides.{level}
use Rattle.sb_model.specs.Surfaces.Sides.{line_of}
use Rattle.sb_model.specs.declared.boundary.Boundary.{Boundary}
use Rattle.sb_model.specs.declared.faces.face.FaceKind.{FaceKind}
use Rattle.sb_model.specs.declared.faces.face.FaceKind.TheVariants as kind
use Rattle.sb_model.specs.declared.walk.End.{End}
use Rattle.sb_model.specs.declared.walk.End.TheVariants as end
use Rattle.sb_box.specs.declared.extent.Extent.{Extent}

-- one patch of a box: its face, from where to where in u and in v, and what its walks meet at once
pub record BoxPatch : Type 0 where
  pub kind : FaceKind
  pub low : ℤ
  pub high : ℤ
  pub lower : ℤ
  pub upper : ℤ
  pub end : End

-- the patch with these numbers
abbrev pub box_patch : FaceKind → ℤ → ℤ → ℤ → ℤ → End → BoxPatch
box_patch face low high lower upper met =
    record { kind = face; low = low; high = high; lower = lower; upper = upper; end = met }

-- what lies just below a height: the earth up to the ground, and the open air above it
abbrev pub below : ℤ → End
below z = if int_le z (pos 0) then end.Earth else end.Outside

-- what lies just above a height
abbrev pub above : ℤ → End
above z = if int_le (pos 0) z then end.Outside else end.Earth

-- the ground lies strictly between these heights
abbrev pub is_cut : ℤ → ℤ → Bool
is_cut z0 z1 = int_lt z0 (pos 0) && int_lt (pos 0) z1

-- the patches of a side between these heights: two where the ground cuts it, the lower one first
abbrev pub side_patches : FaceKind → ℤ → ℤ → ℤ → ℤ → List BoxPatch
side_patches face low high z0 z1 =
    if is_cut z0 z1
    then box_patch face low high z0 (pos 0) end.Earth
    ∷ box_patch face low high (pos 0) z1 end.Outside ∷ []
    else box_patch face low high z0 z1 (above z0) ∷ []

-- the patches in order: u and v are x and y on Bottom and Top, x and z on the sides along x, and
-- y and z on the sides along y
abbrev pub box_patches : Extent → List BoxPatch
box_patches e =
    box_patch kind.Bottom e.x0 e.x1 e.y0 e.y1 (below e.z0)
    ∷ box_patch kind.Top e.x0 e.x1 e.y0 e.y1 (above e.z1)
    ∷ (side_patches (kind.Side 0) e.x0 e.x1 e.z0 e.z1
    ++ (side_patches (kind.Side 1) e.y0 e.y1 e.z0 e.z1
    ++ (side_patches (kind.Side 2) e.x0 e.x1 e.z0 e.z1
    ++ side_patches (kind.Side 3) e.y0 e.y1 e.z0 e.z1)))

-- Bottom or Top
abbrev pub IsLevelFace : FaceKind → Type 0
IsLevelFace kind.Bottom = Unit {0}
IsLevelFace kind.Top = Unit {0}
IsLevelFace (kind.Side k) = ⊥

-- the boundary is this patch of the space, without items, depth, pair, parent or key
pub record IsBoxBoundary (space : ℕ) (p : BoxPatch) (b : Boundary) : Type 0 where
  pub of_space : b.patch.face.space ≡ space
  pub of_face : b.patch.face.kind ≡ p.kind
  pub low : b.patch.low ≡ whole p.low
  pub high : b.patch.high ≡ whole p.high
  pub lower : line_of b.patch.lower ≡ level p.lower
  pub upper : line_of b.patch.upper ≡ level p.upper
  pub items : b.walk.items ≡ []
  pub depth : b.walk.depth ≡ pos 0
  pub end : b.walk.end ≡ p.end
  pub pair : b.pair ≡ None
  pub parent : b.parent ≡ None
  pub key : b.key ≡ None

-- the boundaries are these patches, one each and in order
abbrev pub AreBoxBoundaries : ℕ → List BoxPatch → List Boundary → Type 0
AreBoxBoundaries space [] [] = Unit {0}
AreBoxBoundaries space (p ∷ ps) (b ∷ bs) = IsBoxBoundary space p b × AreBoxBoundaries space ps bs
AreBoxBoundaries space _ _ = ⊥

-- the list is that of this box
abbrev pub IsBoxList : ℕ → Extent → List Boundary → Type 0
IsBoxList space e list = AreBoxBoundaries space (box_patches e) list
