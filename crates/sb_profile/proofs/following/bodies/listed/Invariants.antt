use Rattle.std.proofs.Common.{◌≡◌, take}
use Rattle.std.specs.List.{flat_map}
use Rattle.sb_profile.specs.Contents.{Contents, Says}
use Rattle.sb_profile.specs.Steps.Read.{representations_of}
use Rattle.sb_profile.proofs.following.bodies.listed.Given as goal

abbrev pub invariant-shapes : goal.invariant-shapes
invariant-shapes l =
    (c : Contents) → Says l.file c
    → l.numbers.items ≡ flat_map (representations_of c) (take l.shape-index l.shapes)
