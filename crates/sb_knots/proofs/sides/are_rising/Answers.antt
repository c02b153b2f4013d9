use Rattle.std.proofs.Common.{arith, ◌≡◌, ◌∙◌, ap, sym, ◌+◌, ◌-◌, ◌<◌, ◌≤◌, length, slice_index_or}
use Rattle.std.proofs.lemmas.List.{get_or_default}
use Rattle.sb_knots.specs.Steps.{key_of}
use Rattle.sb_knots.proofs.sides.are_rising.Goals as goal

pub returns-then-pass-clause-fallen : goal.returns-then-pass-clause-fallen
returns-then-pass-clause-fallen c _ =
    let i = c.corners.i in
    let low : 1 ≤ c.corners.i = c.corners.auto.i in
    let within : c.corners.i < length c.args.corners.now = c.corners-test.true in
    let next : (c.corners.i - 1) + 1 ≡ c.corners.i = omega arith in
    record {
      at = c.corners.i - 1;
      within = omega arith;
      falls = λ d.
          let before : (c.corners.i - 1) < length c.args.corners.now = omega arith in
          let first = ap key_of (c.index-corners-i.is
          ∙ get_or_default c.args.corners.now
          (c.corners.i - 1) c.index-corners-i.result d before) in
          let second = ap key_of (c.index-corners-i-in-corners.is
          ∙ get_or_default c.args.corners.now c.corners.i c.index-corners-i-in-corners.result d within
          ∙ ap (λ n. slice_index_or c.args.corners.now n d) (sym next)) in
          let one = c.pass.ensures in
          let other = c.pass-in-corners.ensures in
          omega (arith, first, second, one, other, c.if-pass.true);
    }
