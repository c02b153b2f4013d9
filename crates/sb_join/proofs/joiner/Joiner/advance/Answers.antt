-- The runs of one call more.
use Rattle.std.proofs.Common.{◌∙◌, ap}
use Rattle.theory_faces.specs.Strips.{strips_of, runs_over}
use Rattle.sb_join.proofs.Stacked.{taken_more}
use Rattle.sb_join.proofs.joiner.Joiner.advance.Goals as goal

pub returns : goal.returns
returns c calls taken =
    taken_more calls c.args.cells _ _ _ (c.self.view_is ∙ taken)
    (c.in_ok-own.ensures ∙ ap (λ cells. runs_over (strips_of cells)) c.as_slice.ensures)
    c.in_ok-append.ensures
