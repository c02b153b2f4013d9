use Rattle.std.proofs.Common.{◌∙◌, sym, ap, rules, FitsSigned, ◌&&◌, int_lt, ◌*ℤ◌}
use Rattle.std.specs.Int.{w128}
use Rattle.std.proofs.lemmas.Int.{to_z-of_z}
use Rattle.theory_numbers.specs.Rationals.{rational}
use Rattle.theory_plane.specs.Regions.{is_spanned}
use Rattle.sb_fraction.specs.Numbers.{ratio}
use Rattle.sb_model.specs.Surfaces.Sides.{line_of}
use Rattle.sb_model.specs.Surfaces.Patches.{region_of}
use Rattle.sb_model.proofs.PointsOfPatches.PointsInPatches.{inside-along}
use Rattle.sb_model.proofs.patches.patch_points.lies_along.Goals as goal

pub returns-then-is_spanned : goal.returns-then-is_spanned
returns-then-is_spanned c =
    let u : FitsSigned w128 c.abscissa.result = search rules in
    let w : FitsSigned w128 c.args.p.now.w = search rules in
    let patch = c.args.patch.now in
    let z = ratio c.args.z.num c.args.z.den in
    let spanned = sym (simp to_z-of_z at c.is_spanned.ensures
    ∙ ap (λ n. is_spanned (region_of patch) (rational n c.args.p.now.w)) c.abscissa.ensures.value) ∙ c.if-is_spanned.true in
    c.is_between_sides.ensures
    ∙ ap (λ b. b && (int_lt ((line_of patch.lower).off *ℤ z.den) z.num && int_lt z.num ((line_of patch.upper).off *ℤ z.den)))
    (sym spanned)
    ∙ inside-along patch c.args.dir c.args.p.now z c.requires.of_side c.requires.positive

pub returns-else-is_spanned : goal.returns-else-is_spanned
returns-else-is_spanned c =
    let u : FitsSigned w128 c.abscissa.result = search rules in
    let w : FitsSigned w128 c.args.p.now.w = search rules in
    let patch = c.args.patch.now in
    let z = ratio c.args.z.num c.args.z.den in
    let spanned = sym (simp to_z-of_z at c.is_spanned.ensures
    ∙ ap (λ n. is_spanned (region_of patch) (rational n c.args.p.now.w)) c.abscissa.ensures.value) ∙ c.if-is_spanned.false in
    c.if-is_spanned.false
    ∙ ap (λ b. b && (int_lt ((line_of patch.lower).off *ℤ z.den) z.num && int_lt z.num ((line_of patch.upper).off *ℤ z.den)))
    (sym spanned)
    ∙ inside-along patch c.args.dir c.args.p.now z c.requires.of_side c.requires.positive
