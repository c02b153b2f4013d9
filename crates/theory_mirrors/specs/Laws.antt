-- The law of reversed walks: where no two spaces overlap, a walk that ends at a space has its way back.
use Rattle.std.specs.Prelude.{◌≡◌, ℕ, pos, neg_ℤ, ◌+ℤ◌, true, IsTrue, Some, reverse}
use Rattle.theory_lists.specs.Members.{Stands}
use Rattle.theory_numbers.specs.Arrows.{Arrow}
use Rattle.theory_numbers.specs.Rationals.{IsSame, rational}
use Rattle.sb_fraction.specs.Spots.{Spot, IsSpot, along, opposite, reading}
use Rattle.sb_model.specs.declared.faces.face.FaceKind.{FaceKind}
use Rattle.sb_model.specs.declared.products.Space.{Space}
use Rattle.sb_model.specs.declared.walk.End.TheVariants as end
use Rattle.sb_model.specs.declared.walk.Walk.{Walk}
use Rattle.sb_model.specs.Building.{Building, is_building}
use Rattle.sb_model.specs.Surfaces.Faces.{Surface, surface_of}
use Rattle.sb_model.specs.Surfaces.PlainPoints.{is_plain}
use Rattle.sb_model.specs.Solids.{is_in_solid}
use Rattle.sb_model.specs.Walks.{IsWalk}

-- no point lies inside two spaces
abbrev pub HaveNoOverlap : Building → Type 0
HaveNoOverlap m =
    (s t : Space) → Stands s m.spaces → Stands t m.spaces → (p : Spot) → IsSpot p
    → is_in_solid s.prism p ≡ true → is_in_solid t.prism p ≡ true → s.number ≡ t.number

-- the walk back to the space with this number: the items reversed, the same depth
abbrev pub walk_back : Walk → ℕ → Walk
walk_back w number =
    record { items = reverse w.items; depth = w.depth; end = end.Space number }

-- the point at which a walk ends that ends at a space
abbrev pub far_point : Spot → Surface → Walk → Spot
far_point p f w = along p f.normal (rational w.depth (pos 1))

-- q is a plain point of a face of the space with this number; the face has the opposite normal and lies at
-- the walk's depth; and the walk of q is the walk back
pub record HasWayBack (m : Building) (f : Surface) (w : Walk) (from to : ℕ) (q : Spot) : Type 0 where
  pub space : Space
  pub in_model : Stands space m.spaces
  pub number_is : space.number ≡ to
  pub kind : FaceKind
  pub surface : Surface
  pub surface_is : surface_of space.prism kind ≡ Some surface
  pub faces_back : surface.normal ≡ opposite f.normal
  pub far_away : neg_ℤ surface.position ≡ f.position +ℤ w.depth
  pub plain : is_plain m space.prism kind q ≡ true
  pub walk : IsWalk m surface q (walk_back w from)

-- in a model without overlapping spaces, for each plain point of each face whose walk ends at a space: the
-- point at the walk's depth is a plain point of a face of that space with the opposite normal, and its
-- walk is the walk reversed, to the first space
abbrev pub HasReversedWalks : Type 0
HasReversedWalks =
    (m : Building) → IsTrue (is_building m) → HaveNoOverlap m → (s : Space) → Stands s m.spaces
    → (k : FaceKind) (f : Surface) → surface_of s.prism k ≡ Some f → (p : Spot) → IsSpot p
    → is_plain m s.prism k p ≡ true → (w : Walk) → IsWalk m f p w → (to : ℕ)
    → w.end ≡ end.Space to → HasWayBack m f w s.number to (far_point p f w)

-- the faces read u and v along the same vectors, and two points have the same u and v
pub record HasPlace (f g : Surface) (p q : Spot) : Type 0 where
  pub across : g.across ≡ f.across
  pub up : g.up ≡ f.up
  pub same_u : IsSame (reading q f.across) (reading p f.across)
  pub same_v : IsSame (reading q f.up) (reading p f.up)

-- faces of spaces with opposite normals have one u and v, and a point further along the normal has those
-- of the first
abbrev pub HaveSamePlaces : Type 0
HaveSamePlaces =
    (s t : Space) (j k : FaceKind) (f g : Surface) → surface_of s.prism j ≡ Some f
    → surface_of t.prism k ≡ Some g → g.normal ≡ opposite f.normal → (p : Spot) (depth : Arrow)
    → HasPlace f g p (along p f.normal depth)
