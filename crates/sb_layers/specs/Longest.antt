-- The longest of the edges so far.

use Rattle.std.specs.Prelude.{List, [], ◌∷◌, Option, Some, None, int_lt, if◌then◌else◌}
use Rattle.sb_fraction.specs.Edges.{Edge}
use Rattle.sb_layers.specs.Axes.{squared_length}

-- an edge where it is longer than the one before, else this one
abbrev pub longer : Option Edge → Edge → Edge
longer None e = e
longer (Some best) e = if int_lt (squared_length best) (squared_length e) then e else best

-- the longest of some edges, and of one before them
abbrev pub longest_after : Option Edge → List Edge → Option Edge
longest_after best [] = best
longest_after best (e ∷ es) = longest_after (Some (longer best e)) es
