-- One window more.
use Rattle.sb_demo.specs.Relations.{window_text}
use Rattle.sb_demo.proofs.Ranges.{next_text}
use Rattle.sb_demo.proofs.demo.append_windows.Goals as goal

pub loop-i-preserved : goal.loop-i-preserved
loop-i-preserved c =
    next_text (window_text c.args.n) c.loop-i.i _ _ _
    c.loop-i.invariant c.in_ok-append_window.ensures
