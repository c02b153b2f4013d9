-- Trimmed lists: patches of one mark neither touch nor share a whole side.
use Rattle.std.specs.Prelude.{◌≡◌, pos, ◌≤ℤ◌, false, List}
use Rattle.std.specs.List.{AllByRecursion}
use Rattle.theory_numbers.specs.Arrows.{Arrow}
use Rattle.theory_numbers.specs.Rationals.{IsRational, IsBelow}
use Rattle.theory_plane.specs.Sides.{clearance_at}
use Rattle.theory_plane.specs.Regions.{Region, IsCommon, is_seam}
use Rattle.theory_lists.specs.Members.{AllOfTwo}
use Rattle.theory_patches.specs.Marked.{MarkedPatch, IsPatch}
use Rattle.theory_patches.specs.Sheets.{Sheet, IsNoAbscissa}

-- apart: on no line u = constant that is no abscissa have their closures a common point
abbrev pub AreApart : Sheet → Region → Region → Type 0
AreApart sheet p q =
    (u v : Arrow) → IsRational u → IsNoAbscissa sheet u → IsCommon p q u v → ⊥

-- no seam: they do not share a whole side of positive length on a line u = constant with the same
-- lower and the same upper side, whichever of them begins there
pub record HaveNoSeam (p q : Region) : Type 0 where
  pub first_before : is_seam p q ≡ false
  pub second_before : is_seam q p ≡ false

-- u lies strictly between the ends of the region
pub record IsOver (p : Region) (u : Arrow) : Type 0 where
  pub after : IsBelow p.low u
  pub before : IsBelow u p.high

-- spaced: at no u that is no abscissa and strictly inside both is each lower side at most the other's
-- upper side, and they have no seam. Regions that touch on a line where one of them ends may be
pub record AreSpaced (sheet : Sheet) (p q : Region) : Type 0 where
  pub apart : (u : Arrow) → IsRational u → IsNoAbscissa sheet u → IsOver p u → IsOver q u
      → pos 0 ≤ℤ clearance_at p.lower q.upper u → pos 0 ≤ℤ clearance_at q.lower p.upper u → ⊥
  pub no_seam : HaveNoSeam p q

-- two patches, if they have one mark, are apart and have no seam
pub record AreTrimmed {M : Type 0} (sheet : Sheet) (p q : MarkedPatch M) : Type 0 where
  pub apart : p.mark ≡ q.mark → AreApart sheet p.region q.region
  pub no_seam : p.mark ≡ q.mark → HaveNoSeam p.region q.region

-- a trimmed list: this holds of each two places of the list
abbrev pub IsTrimmed : {M : Type 0} → Sheet → List (MarkedPatch M) → Type 0
IsTrimmed sheet ps = AllOfTwo (AreTrimmed sheet) ps

-- a trimmed list of patches
pub record IsTrimmedList {M : Type 0} (sheet : Sheet) (ps : List (MarkedPatch M)) : Type 0 where
  pub patches : AllByRecursion (λ p. IsPatch p.region) ps
  pub trimmed : IsTrimmed sheet ps
