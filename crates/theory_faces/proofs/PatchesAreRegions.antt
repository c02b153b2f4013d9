-- A patch of a model is a patch of the theory of patches: its region is one, its ends are reduced
-- fractions, and its sides have reduced directions.
use Rattle.std.proofs.Common.{◌≡◌, subst, ℕ, pos, true, ◌&&◌}
use Rattle.std.specs.Int.{IsGcd}
use Rattle.std.specs.Prelude.{unsigned_abs, nat_le}
use Rattle.std.proofs.lemmas.Bool.{and_parts, eqb-true}
use Rattle.theory_numbers.specs.Divisors.{are_coprime}
use Rattle.theory_numbers.specs.Fractions.{Ratio, is_lowest}
use Rattle.theory_numbers.specs.Reduced.{IsReduced}
use Rattle.theory_numbers.proofs.Fractions.GreatestDivisor.{greatest_divisor_is}
use Rattle.theory_numbers.proofs.Fractions.LowestTerms.{lowest_is_reduced}
use Rattle.theory_numbers.proofs.Fractions.Reduced.{whole_is_reduced}
use Rattle.theory_plane.specs.Sides.{IsLineSide, IsReducedSide}
use Rattle.theory_plane.specs.Regions.{is_region}
use Rattle.theory_plane.proofs.Regions.{region_from}
use Rattle.theory_patches.specs.Marked.{IsPatch}
use Rattle.sb_fraction.specs.Bounds.{is_fraction, is_in_bounds}
use Rattle.sb_fraction.specs.Plane.{is_forward, longest_step}
use Rattle.sb_model.specs.declared.faces.face.Side.{Side}
use Rattle.sb_model.specs.declared.faces.face.Side.TheVariants.{OnLine, Height}
use Rattle.sb_model.specs.declared.patches.patch.Patch.{Patch}
use Rattle.sb_model.specs.Surfaces.Sides.{line_of, is_abscissa_size, is_side_of, greatest_abscissa_num}
use Rattle.sb_model.specs.Surfaces.Sides.{greatest_abscissa_den}
use Rattle.sb_model.specs.Surfaces.Patches.{region_of}

size_is_reduced : (u : Ratio) → is_abscissa_size u ≡ true → IsReduced u.num u.den
size_is_reduced u size =
    let parts =
    and_parts (is_fraction u)
    (nat_le (unsigned_abs u.num) greatest_abscissa_num
    && nat_le (unsigned_abs u.den) greatest_abscissa_den) size
    in
    lowest_is_reduced u (and_parts (is_lowest u) (is_in_bounds u) parts.0).0

side_is_reduced : (side : Side) → IsLineSide (line_of side) → IsReducedSide (line_of side)
side_is_reduced (OnLine l) positive =
    let front = are_coprime (unsigned_abs l.dir.x) (unsigned_abs l.dir.y)
    && is_forward l.dir.x l.dir.y in
    let first =
    and_parts (front && nat_le (unsigned_abs l.dir.x) longest_step)
    (nat_le (unsigned_abs l.dir.y) longest_step) l.dir.is_direction
    in
    let second = and_parts front (nat_le (unsigned_abs l.dir.x) longest_step) first.0 in
    let third =
    and_parts (are_coprime (unsigned_abs l.dir.x) (unsigned_abs l.dir.y))
    (is_forward l.dir.x l.dir.y) second.0
    in
    record {
      positive = positive;
      no_divisor =
          turned (unsigned_abs l.dir.x) (unsigned_abs l.dir.y)
          (subst (λ g. IsGcd (unsigned_abs l.dir.x) (unsigned_abs l.dir.y) g)
          (eqb-true _ 1 third.0) (greatest_divisor_is _ _));
    }
  where
    turned : (a b : ℕ) → IsGcd a b 1 → IsGcd b a 1
    turned a b common = (common.1, common.0, λ d left right. common.2 d right left)
side_is_reduced (Height h) positive = whole_is_reduced (pos 0)

-- a patch of a model is a patch
pub patch_is : (p : Patch) → IsPatch (region_of p)
patch_is p =
    let parts =
    and_parts (is_abscissa_size p.low && is_abscissa_size p.high)
    ((is_side_of p.face.kind p.lower && is_side_of p.face.kind p.upper) && is_region (region_of p))
    p.is_patch
    in
    let sizes = and_parts (is_abscissa_size p.low) (is_abscissa_size p.high) parts.0 in
    let rest =
    and_parts (is_side_of p.face.kind p.lower && is_side_of p.face.kind p.upper)
    (is_region (region_of p)) parts.1
    in
    let region = region_from (region_of p) rest.1 in
    record {
      region = region;
      low_reduced = size_is_reduced p.low sizes.0;
      high_reduced = size_is_reduced p.high sizes.1;
      lower_reduced = side_is_reduced p.lower region.lower_in;
      upper_reduced = side_is_reduced p.upper region.upper_in;
    }
