-- Two cells in one, along v or along u, are a patch; and the sizes of a patch.
use Rattle.std.proofs.Common.{◌≡◌, refl, sym, ap, subst, true, ◌&&◌, if◌then◌else◌}
use Rattle.std.proofs.Common.{[], ◌∷◌, IsTrue}
use Rattle.std.specs.List.{AllByRecursion}
use Rattle.std.specs.Ordering.{int_eq}
use Rattle.std.specs.Prelude.{unsigned_abs, nat_le}
use Rattle.std.proofs.lemmas.Bool.{and_parts, and_from}
use Rattle.std.proofs.lemmas.Bool.Decides.{Decides-int_eq}
use Rattle.theory_numbers.specs.Arrows.{Arrow}
use Rattle.theory_numbers.specs.Fractions.{Ratio}
use Rattle.theory_numbers.proofs.Vectors.Arrows.{same_arrow}
use Rattle.theory_plane.specs.Regions.{is_region}
use Rattle.theory_plane.proofs.Regions.{region_passes}
use Rattle.theory_joining.specs.Runs.{IsRunOver}
use Rattle.theory_joining.specs.Cells.{is_one_run, raised, runs_of}
use Rattle.theory_joining.specs.Put.{goes_on}
use Rattle.theory_joining.proofs.RunsMerge.{AreOneRun, one_run_from}
use Rattle.theory_joining.proofs.RunsStayApart.{runs_are_runs}
use Rattle.theory_joining.proofs.GoesOn.{carried_on_is_patch, goes_on_from}
use Rattle.sb_fraction.specs.Bounds.{is_fraction}
use Rattle.sb_fraction.specs.Bounds.{is_abscissa_size as is_size}
use Rattle.sb_model.specs.declared.boundary.Cell.{Cell}
use Rattle.sb_model.specs.declared.faces.face.Face.{Face}
use Rattle.sb_model.specs.declared.faces.face.Side.{Side}
use Rattle.sb_model.specs.declared.patches.patch.Patch.{Patch}
use Rattle.sb_model.specs.declared.walk.Walk.{Walk}
use Rattle.sb_model.specs.Surfaces.Sides.{is_patch, is_abscissa_size, is_side_of, region_between}
use Rattle.sb_model.specs.Surfaces.Sides.{greatest_abscissa_num, greatest_abscissa_den}
use Rattle.sb_model.specs.Surfaces.Patches.{region_of}
use Rattle.theory_faces.specs.Strips.{Mark, Strip, strip_of, is_same_mark, is_same_number}
use Rattle.theory_faces.specs.Strips.{have_same_ends, is_raised_by}
use Rattle.theory_faces.proofs.MarksTold.{mark_tells}
use Rattle.theory_faces.proofs.PatchesAreRegions.{patch_is}

-- ---- the parts of a patch

-- what the test of a patch says
pub record HasParts (p : Patch) : Type 0 where
  pub low : is_abscissa_size p.low ≡ true
  pub high : is_abscissa_size p.high ≡ true
  pub lower : is_side_of p.face.kind p.lower ≡ true
  pub upper : is_side_of p.face.kind p.upper ≡ true

pub parts_of : (p : Patch) → HasParts p
parts_of p =
    let parts =
    and_parts (is_abscissa_size p.low && is_abscissa_size p.high)
    ((is_side_of p.face.kind p.lower && is_side_of p.face.kind p.upper) && is_region (region_of p))
    p.is_patch
    in
    let sizes = and_parts (is_abscissa_size p.low) (is_abscissa_size p.high) parts.0 in
    let rest =
    and_parts (is_side_of p.face.kind p.lower && is_side_of p.face.kind p.upper)
    (is_region (region_of p)) parts.1
    in
    let sides = and_parts (is_side_of p.face.kind p.lower) (is_side_of p.face.kind p.upper) rest.0 in
    record { low = sizes.0; high = sizes.1; lower = sides.0; upper = sides.1 }

size_is : (u : Ratio) → is_abscissa_size u ≡ true → is_size u ≡ true
size_is u size =
    (and_parts (is_fraction u)
    (nat_le (unsigned_abs u.num) greatest_abscissa_num
    && nat_le (unsigned_abs u.den) greatest_abscissa_den) size).1

-- both ends of a patch can be compared
pub low_size : (p : Patch) → IsTrue (is_size p.low)
low_size p = size_is p.low (parts_of p).low

pub high_size : (p : Patch) → IsTrue (is_size p.high)
high_size p = size_is p.high (parts_of p).high

same_from : (u w : Arrow) → is_same_number u w ≡ true → u ≡ w
same_from u w answer =
    let parts = and_parts (int_eq u.x w.x) (int_eq u.y w.y) answer in
    same_arrow u w ((Decides-int_eq u.x w.x).0 parts.0) ((Decides-int_eq u.y w.y).0 parts.1)

-- ---- along v

-- what the test of a run on a cell says
pub record IsOn (c r : Cell) : Type 0 where
  pub low : (region_of c.patch).low ≡ (region_of r.patch).low
  pub high : (region_of c.patch).high ≡ (region_of r.patch).high
  pub one : AreOneRun is_same_mark mark_tells (strip_of c) (strip_of r)
  pub is : is_one_run is_same_mark (strip_of c) (strip_of r) ≡ true

pub is_on : (c r : Cell) → is_raised_by (strip_of c) (strip_of r) ≡ true → IsOn c r
is_on c r answer =
    let parts =
    and_parts (have_same_ends (region_of c.patch) (region_of r.patch))
    (is_one_run is_same_mark (strip_of c) (strip_of r)) answer
    in
    let ends =
    and_parts (is_same_number (region_of c.patch).low (region_of r.patch).low)
    (is_same_number (region_of c.patch).high (region_of r.patch).high) parts.0
    in
    record {
      low = same_from (region_of c.patch).low (region_of r.patch).low ends.0;
      high = same_from (region_of c.patch).high (region_of r.patch).high ends.1;
      one = one_run_from is_same_mark mark_tells (strip_of c) (strip_of r) parts.1;
      is = parts.1;
    }

-- a cell and the run on it in one are a patch
pub raised_is_patch : (c r : Cell) → is_raised_by (strip_of c) (strip_of r) ≡ true
    → IsTrue (is_patch c.patch.face.kind c.patch.low c.patch.high c.patch.lower r.patch.upper)
raised_is_patch c r answer =
    let on = is_on c r answer in
    let first = parts_of c.patch in
    let second = parts_of r.patch in
    let low = (region_of c.patch).low in
    let high = (region_of c.patch).high in
    let runs =
    runs_are_runs low high is_same_mark mark_tells (strip_of c ∷ strip_of r ∷ []) (
      record { patch = patch_is c.patch; begins = refl; ends = refl },
      (record { patch = patch_is r.patch; begins = sym on.low; ends = sym on.high }, tt),
    )
    in
    let one : runs_of is_same_mark (strip_of c ∷ strip_of r ∷ [])
    ≡ raised (strip_of c) (strip_of r) ∷ [] =
    ap
    (λ b. if b then raised (strip_of c) (strip_of r) ∷ [] else strip_of c ∷ strip_of r ∷ []) on.is
    in
    let whole = subst (AllByRecursion (λ (s : Strip). IsRunOver low high s.region)) one runs in
    and_from (is_abscissa_size c.patch.low && is_abscissa_size c.patch.high)
    ((is_side_of c.patch.face.kind c.patch.lower && is_side_of c.patch.face.kind r.patch.upper)
    && is_region (region_between c.patch.low c.patch.high c.patch.lower r.patch.upper))
    (and_from (is_abscissa_size c.patch.low) (is_abscissa_size c.patch.high) first.low first.high)
    (and_from
    (is_side_of c.patch.face.kind c.patch.lower && is_side_of c.patch.face.kind r.patch.upper)
    (is_region (region_between c.patch.low c.patch.high c.patch.lower r.patch.upper))
    (and_from (is_side_of c.patch.face.kind c.patch.lower)
    (is_side_of c.patch.face.kind r.patch.upper) first.lower
    (subst (λ k. is_side_of k r.patch.upper ≡ true)
    (sym (ap (λ (m : Mark). m.face.kind) on.one.mark)) second.upper))
    (region_passes (region_between c.patch.low c.patch.high c.patch.lower r.patch.upper)
    whole.0.patch.region))

-- the strip of these parts
abbrev pub strip_with : Face → Ratio → Ratio → Side → Side → Walk → Strip
strip_with face low high lower upper walk =
    record {
      region = region_between low high lower upper;
      mark = record { face = face; walk = walk };
    }

-- and have the walk of the cell
pub same_walk : (c r : Cell) → is_raised_by (strip_of c) (strip_of r) ≡ true → r.walk ≡ c.walk
same_walk c r answer = sym (ap (λ (m : Mark). m.walk) (is_on c r answer).one.mark)

-- ---- along u

-- a run and the next one in one are a patch
pub carried_is_patch : (p q : Cell) → goes_on is_same_mark (strip_of p) (strip_of q) ≡ true
    → IsTrue (is_patch p.patch.face.kind p.patch.low q.patch.high p.patch.lower p.patch.upper)
carried_is_patch p q answer =
    let on = goes_on_from is_same_mark mark_tells (strip_of p) (strip_of q) answer in
    let first = parts_of p.patch in
    let second = parts_of q.patch in
    let whole =
    carried_on_is_patch (strip_of p) (strip_of q) (patch_is p.patch) (patch_is q.patch) on
    in
    and_from (is_abscissa_size p.patch.low && is_abscissa_size q.patch.high)
    ((is_side_of p.patch.face.kind p.patch.lower && is_side_of p.patch.face.kind p.patch.upper)
    && is_region (region_between p.patch.low q.patch.high p.patch.lower p.patch.upper))
    (and_from (is_abscissa_size p.patch.low) (is_abscissa_size q.patch.high) first.low second.high)
    (and_from
    (is_side_of p.patch.face.kind p.patch.lower && is_side_of p.patch.face.kind p.patch.upper)
    (is_region (region_between p.patch.low q.patch.high p.patch.lower p.patch.upper))
    (and_from (is_side_of p.patch.face.kind p.patch.lower)
    (is_side_of p.patch.face.kind p.patch.upper) first.lower first.upper)
    (region_passes (region_between p.patch.low q.patch.high p.patch.lower p.patch.upper)
    whole.region))
