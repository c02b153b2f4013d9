-- Patches of boxes, computed: one on the ground, one that the ground cuts, one below it.
use Rattle.std.proofs.Common.{◌≡◌, refl, ℕ, pos, negsuc, [], ◌∷◌}
use Rattle.sb_model.specs.declared.faces.face.FaceKind.TheVariants as kind
use Rattle.sb_model.specs.declared.walk.End.TheVariants as end
use Rattle.sb_box.specs.declared.extent.Extent.{Extent}
use Rattle.sb_box.specs.BoxList.{above, below, box_patch, box_patches, side_patches}
use Rattle.sb_box.specs.BoxModel.{IsBoxModel}
use Rattle.sb_box.proofs.BoxLabels.{Besides, box_model, box_space}

on_the_ground : Extent
on_the_ground = record {
  x0 = pos 0;
  x1 = pos 4000;
  y0 = pos 0;
  y1 = pos 3000;
  z0 = pos 0;
  z1 = pos 2500;
  is_extent = refl;
}

six_patches : box_patches on_the_ground
    ≡ box_patch kind.Bottom (pos 0) (pos 4000) (pos 0) (pos 3000) end.Earth
    ∷ box_patch kind.Top (pos 0) (pos 4000) (pos 0) (pos 3000) end.Outside
    ∷ box_patch (kind.Side 0) (pos 0) (pos 4000) (pos 0) (pos 2500) end.Outside
    ∷ box_patch (kind.Side 1) (pos 0) (pos 3000) (pos 0) (pos 2500) end.Outside
    ∷ box_patch (kind.Side 2) (pos 0) (pos 4000) (pos 0) (pos 2500) end.Outside
    ∷ box_patch (kind.Side 3) (pos 0) (pos 3000) (pos 0) (pos 2500) end.Outside
    ∷ []
unfolding on_the_ground
six_patches = refl

cut_in_two : side_patches (kind.Side 0) (pos 0) (pos 4000) (negsuc 999) (pos 1500)
    ≡ box_patch (kind.Side 0) (pos 0) (pos 4000) (negsuc 999) (pos 0) end.Earth
    ∷ box_patch (kind.Side 0) (pos 0) (pos 4000) (pos 0) (pos 1500) end.Outside
    ∷ []
cut_in_two = refl

-- a side that only touches the ground is whole
whole_below : side_patches (kind.Side 0) (pos 0) (pos 4000) (negsuc 999) (pos 0)
    ≡ box_patch (kind.Side 0) (pos 0) (pos 4000) (negsuc 999) (pos 0) end.Earth ∷ []
whole_below = refl

-- at the ground itself Bottom looks at the earth and Top at the open air
bottom_at_ground : below (pos 0) ≡ end.Earth
bottom_at_ground = refl

bottom_above_ground : below (pos 1) ≡ end.Outside
bottom_above_ground = refl

top_at_ground : above (pos 0) ≡ end.Outside
top_at_ground = refl

top_below_ground : above (negsuc 0) ≡ end.Earth
top_below_ground = refl

-- each box has models
there_are_models : (s : Besides) (n : ℕ) (e : Extent) → IsBoxModel n e (box_model s n e)
there_are_models s n e = record {
  space = box_space s n e;
  spaces = refl;
  number = refl;
  prism = refl;
  elements = refl;
  openings = refl;
  fillings = refl;
  ground_height = refl;
}
