-- Patches with marks. A mark is whatever a patch is recorded with: a walk, or a key.
use Rattle.theory_numbers.specs.Reduced.{IsReduced}
use Rattle.theory_plane.specs.Sides.{IsReducedSide}
use Rattle.theory_plane.specs.Regions.{Region, IsRegion}

-- a region of the plane, and its mark
pub record MarkedPatch (M : Type 0) : Type 0 where
  pub region : Region
  pub mark : M

-- it is a patch: a region whose ends are reduced fractions and whose sides have reduced directions,
-- so that equal ends and sides are equal data
pub record IsPatch (p : Region) : Type 0 where
  pub region : IsRegion p
  pub low_reduced : IsReduced p.low.y p.low.x
  pub high_reduced : IsReduced p.high.y p.high.x
  pub lower_reduced : IsReducedSide p.lower
  pub upper_reduced : IsReducedSide p.upper
