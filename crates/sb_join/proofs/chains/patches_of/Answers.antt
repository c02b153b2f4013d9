-- Run after run, from the last to the first.
use Rattle.theory_faces.specs.Strips.{strips_of}
use Rattle.theory_faces.specs.Chains.{chains}
use Rattle.sb_join.proofs.Stacked.{put_all-nothing, put_step}
use Rattle.sb_join.proofs.chains.patches_of.Goals as goal

pub runs-init : goal.runs-init
runs-init c = rw c.new-patches.ensures.items (put_all-nothing (strips_of c.args.runs.items))

pub runs-preserved : goal.runs-preserved
runs-preserved c =
    put_step c.runs.runs.items c.pop.new.self.items c.runs.patches.items c.put.new.patches.items
    c.in-Some.run' (chains (strips_of c.args.runs.items)) c.in-Some.ensures.items c.in_ok-put.ensures c.runs.invariant
