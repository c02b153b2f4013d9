-- The numbers of the sides are within their bounds; the gap and the slope tell the order.
use Rattle.std.proofs.Common.{FitsSigned, rules, ap, ap₂, ◌∙◌, ◌+ℤ◌, ◌-ℤ◌, ◌*ℤ◌, pos}
use Rattle.std.specs.Int.{w128}
use Rattle.std.specs.Ordering.{int_cmp, ordering_then}
use Rattle.std.proofs.lemmas.Int.{to_z-of_z}
use Rattle.sb_join.proofs.TwoInOne.{parts_of}
use Rattle.sb_join.proofs.Starts.{numbers_have_sizes, order_by_gap}
use Rattle.sb_join.proofs.values.order_of_starts.Goals as goal

pub slope_of-slope-requires-clause-first_in : goal.slope_of-slope-requires-clause-first_in
slope_of-slope-requires-clause-first_in c =
    let f = c.numbers-first.ensures in
    numbers_have_sizes c.args.a.now.patch _ _ _ f.dx f.dy f.off f.height

pub slope_of-slope-requires-clause-second_in : goal.slope_of-slope-requires-clause-second_in
slope_of-slope-requires-clause-second_in c =
    let f = c.numbers-second.ensures in
    numbers_have_sizes c.args.b.now.patch _ _ _ f.dx f.dy f.off f.height

pub shift_of-requires-clause-first_in : goal.shift_of-requires-clause-first_in
shift_of-requires-clause-first_in c =
    let f = c.numbers-first.ensures in
    numbers_have_sizes c.args.a.now.patch _ _ _ f.dx f.dy f.off f.height

pub shift_of-requires-clause-second_in : goal.shift_of-requires-clause-second_in
shift_of-requires-clause-second_in c =
    let f = c.numbers-second.ensures in
    numbers_have_sizes c.args.b.now.patch _ _ _ f.dx f.dy f.off f.height

pub gap_at-gap-requires-clause-size : goal.gap_at-gap-requires-clause-size
gap_at-gap-requires-clause-size c = (parts_of c.args.a.now.patch).low

pub returns : goal.returns
returns c =
    let fits_shift : FitsSigned w128 c.shift_of.result = search rules in
    let fits_slope : FitsSigned w128 c.slope_of-slope.result = search rules in
    let fits_gap : FitsSigned w128 c.gap_at-gap.result = search rules in
    let first = c.numbers-first.ensures in
    let second = c.numbers-second.ensures in
    let low = c.args.a.now.patch.low in
    c.then.ensures
    ∙ ap₂ ordering_then
    (c.cmp.ensures ∙ ap (int_cmp (pos 0)) (to_z-of_z w128 c.gap_at-gap.result fits_gap))
    (c.cmp-2.ensures ∙ ap (int_cmp (pos 0)) (to_z-of_z w128 c.slope_of-slope.result fits_slope))
    ∙ order_by_gap c.args.a.now c.args.b.now c.shift_of.result c.slope_of-slope.result
    c.gap_at-gap.result c.requires
    (c.shift_of.ensures.value
    ∙ ap₂ (λ x y. x -ℤ y) (ap₂ (λ x y. x *ℤ y) second.off first.dx)
    (ap₂ (λ x y. x *ℤ y) first.off second.dx))
    (c.slope_of-slope.ensures.value
    ∙ ap₂ (λ x y. x -ℤ y) (ap₂ (λ x y. x *ℤ y) second.dy first.dx)
    (ap₂ (λ x y. x *ℤ y) first.dy second.dx))
    (c.gap_at-gap.ensures
    ∙ ap₂ (λ x y. (x *ℤ low.den) +ℤ (y *ℤ low.num)) (to_z-of_z w128 c.shift_of.result fits_shift)
    (to_z-of_z w128 c.slope_of-slope.result fits_slope))
