-- What stands there is the text as it was and that of the windows so far.
use Rattle.std.proofs.Common.{◌≡◌, ◌++◌}
use Rattle.std.specs.List.{flat_map, range_with_len}
use Rattle.sb_demo.specs.Relations.{window_text}
use Rattle.sb_demo.proofs.demo.append_windows.Given as goal

abbrev pub invariant-loop-i : goal.invariant-loop-i
invariant-loop-i l =
    l.text ≡ l.initial.text ++ flat_map (window_text l.n) (range_with_len 0 l.i)
