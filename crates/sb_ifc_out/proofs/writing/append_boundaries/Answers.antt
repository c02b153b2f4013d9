-- One boundary more.
use Rattle.std.proofs.Common.{length, arith, ◌∙◌, ◌<◌}
use Rattle.sb_ifc_out.specs.Numbers.{last_line}
use Rattle.sb_ifc_out.proofs.NumbersOfLines.{length_of_table, line_at_place, line_found, one_more_at}
use Rattle.sb_ifc_out.proofs.writing.append_boundaries.Goals as goal

pub append_at-requires-clause-count : goal.append_at-requires-clause-count
append_at-requires-clause-count c =
    length_of_table (last_line c.args.model.now c.args.greatest c.args.bounds.now)
    (length c.args.bounds.now) c.args.relations.now c.requires.lines

pub append_at-requires-clause-last : goal.append_at-requires-clause-last
append_at-requires-clause-last c =
    line_found c.args.model.now c.args.greatest c.args.bounds.now c.args.relations.now
    c.loop-index.index c.loop-index.before c.requires.lines (omega arith) c.loop-index.invariant.1.0

pub line_at-before-requires : goal.line_at-before-requires
line_at-before-requires c =
    let long = length_of_table (last_line c.args.model.now c.args.greatest c.args.bounds.now)
    (length c.args.bounds.now) c.args.relations.now c.requires.lines in
    omega (arith, long)

pub loop-index-preserved : goal.loop-index-preserved
loop-index-preserved c =
    let m = c.args.model.now in
    let bs = c.args.bounds.now in
    let f = last_line m c.args.greatest bs in
    let within : c.loop-index.index < length bs = omega arith in (
      one_more_at m f c.args.greatest bs c.loop-index.index c.args.text.now c.loop-index.text
          c.append_at.new.text c.loop-index.before c.loop-index.invariant.0 c.loop-index.invariant.1.0
          (c.in_ok-names.ensures.lines f
          (rw (length_of_table f (length bs) c.args.relations.now c.requires.lines) c.requires.lines)),
      (
        c.line_at-before.ensures ∙ line_at_place f (length bs) c.args.relations.now c.loop-index.index c.requires.lines within,
        c.in_ok-names.ensures.kept,
      ),
    )
