-- Worked cases: what becomes of cells, and what does not.
use Rattle.std.proofs.Common.{◌≡◌, refl, ℕ, ℤ, pos, negsuc, List, [], ◌∷◌, true, false}
use Rattle.theory_numbers.specs.Arrows.{cross}
use Rattle.theory_numbers.specs.Rationals.{rational}
use Rattle.theory_plane.specs.Sides.{LineSide, line, level}
use Rattle.sb_model.specs.declared.faces.face.FaceKind.{FaceKind}
use Rattle.sb_model.specs.declared.faces.face.FaceKind.TheVariants as kind
use Rattle.sb_model.specs.declared.walk.End.{End}
use Rattle.sb_model.specs.declared.walk.End.TheVariants as end
use Rattle.sb_model.specs.declared.walk.Item.{Item}
use Rattle.sb_model.specs.Walks.{item}
use Rattle.sb_fraction.specs.Numbers.{ratio}
use Rattle.theory_faces.specs.Strips.{Strip, runs_over, all_runs, is_raised_by}
use Rattle.theory_faces.specs.Chains.{chains}

-- a strip of space 7 over u from low to high
abbrev strip : FaceKind → ℤ → ℤ → LineSide → LineSide → List Item → ℤ → End → Strip
strip k low high lower upper items depth found =
    record {
      region =
          record {
            low = rational low (pos 1);
            high = rational high (pos 1);
            lower = lower;
            upper = upper;
          };
      mark =
          record {
            face = record { space = 7; kind = k };
            walk = record { items = items; depth = depth; end = found };
          };
    }

-- one of Bottom with a walk that meets a space
abbrev to_space : ℤ → ℤ → LineSide → LineSide → ℕ → Strip
to_space low high lower upper n =
    strip kind.Bottom low high lower upper [] (pos 0) (end.Space n)

-- ---- along v

-- cells of one walk, side by side, are one run
side_by_side : runs_over
    (to_space (pos 0) (pos 1) (level (pos 0)) (level (pos 1)) 1
    ∷ to_space (pos 0) (pos 1) (level (pos 1)) (level (pos 3)) 1
    ∷ to_space (pos 0) (pos 1) (level (pos 3)) (level (pos 4)) 1 ∷ [])
    ≡ to_space (pos 0) (pos 1) (level (pos 0)) (level (pos 4)) 1 ∷ []
side_by_side = refl

-- but not with a piece of another walk between them, nor with a gap
parted_by_another : runs_over
    (to_space (pos 0) (pos 1) (level (pos 0)) (level (pos 1)) 1
    ∷ to_space (pos 0) (pos 1) (level (pos 1)) (level (pos 2)) 2
    ∷ to_space (pos 0) (pos 1) (level (pos 2)) (level (pos 3)) 1
    ∷ to_space (pos 0) (pos 1) (level (pos 5)) (level (pos 6)) 1 ∷ [])
    ≡ to_space (pos 0) (pos 1) (level (pos 0)) (level (pos 1)) 1
    ∷ to_space (pos 0) (pos 1) (level (pos 1)) (level (pos 2)) 2
    ∷ to_space (pos 0) (pos 1) (level (pos 2)) (level (pos 3)) 1
    ∷ to_space (pos 0) (pos 1) (level (pos 5)) (level (pos 6)) 1 ∷ []
parted_by_another = refl

-- two faces side by side stay two
two_faces : runs_over
    (strip kind.Bottom (pos 0) (pos 1) (level (pos 0)) (level (pos 1)) [] (pos 0) end.Earth
    ∷ strip kind.Top (pos 0) (pos 1) (level (pos 1)) (level (pos 2)) [] (pos 0) end.Earth ∷ [])
    ≡ strip kind.Bottom (pos 0) (pos 1) (level (pos 0)) (level (pos 1)) [] (pos 0) end.Earth
    ∷ strip kind.Top (pos 0) (pos 1) (level (pos 1)) (level (pos 2)) [] (pos 0) end.Earth ∷ []
two_faces = refl

-- walks are told apart by each part: an item's exact thickness, the depth, the end
abbrev thick : ℤ → ℤ → Strip
thick thickness depth =
    strip kind.Bottom (pos 0) (pos 1) (level (pos 1)) (level (pos 2))
    (item 30 1 (ratio thickness (pos 3)) ∷ []) depth end.Outside

abbrev thin : Strip
thin =
    strip kind.Bottom (pos 0) (pos 1) (level (pos 0)) (level (pos 1))
    (item 30 1 (ratio (pos 100000) (pos 3)) ∷ []) (pos 100) end.Outside

same_walk : is_raised_by thin (thick (pos 100000) (pos 100)) ≡ true
same_walk = refl

other_thickness : is_raised_by thin (thick (pos 100001) (pos 100)) ≡ false
other_thickness = refl

other_depth : is_raised_by thin (thick (pos 100000) (pos 101)) ≡ false
other_depth = refl

-- ---- along u

-- a seam is joined: the next slab goes on with the same sides and walk
a_seam : chains
    (to_space (pos 0) (pos 1) (level (pos 0)) (level (pos 4)) 1
    ∷ to_space (pos 1) (pos 3) (level (pos 0)) (level (pos 4)) 1
    ∷ to_space (pos 3) (pos 4) (level (pos 0)) (level (pos 4)) 1 ∷ [])
    ≡ to_space (pos 0) (pos 4) (level (pos 0)) (level (pos 4)) 1 ∷ []
unfolding cross
a_seam = refl

-- over a slab that was left out nothing goes on
a_slab_left_out : chains
    (to_space (pos 0) (pos 1) (level (pos 0)) (level (pos 4)) 1
    ∷ to_space (pos 3) (pos 4) (level (pos 0)) (level (pos 4)) 1 ∷ [])
    ≡ to_space (pos 0) (pos 1) (level (pos 0)) (level (pos 4)) 1
    ∷ to_space (pos 3) (pos 4) (level (pos 0)) (level (pos 4)) 1 ∷ []
unfolding cross
a_slab_left_out = refl

-- another walk does not go on, with the same sides
another_walk : chains
    (to_space (pos 0) (pos 1) (level (pos 0)) (level (pos 4)) 1
    ∷ to_space (pos 1) (pos 2) (level (pos 0)) (level (pos 4)) 2
    ∷ to_space (pos 2) (pos 3) (level (pos 0)) (level (pos 4)) 1 ∷ [])
    ≡ to_space (pos 0) (pos 1) (level (pos 0)) (level (pos 4)) 1
    ∷ to_space (pos 1) (pos 2) (level (pos 0)) (level (pos 4)) 2
    ∷ to_space (pos 2) (pos 3) (level (pos 0)) (level (pos 4)) 1 ∷ []
unfolding cross
another_walk = refl

-- a patch that ends where another of the same walk begins with other sides stays, though the two
-- share the whole side there: v = u and v = 4 up to u = 2, and v = 2 and v = 4 from there on
bent : chains
    (to_space (pos 0) (pos 2) (line (pos 1) (pos 1) (pos 0)) (level (pos 4)) 1
    ∷ to_space (pos 2) (pos 4) (level (pos 2)) (level (pos 4)) 1 ∷ [])
    ≡ to_space (pos 0) (pos 2) (line (pos 1) (pos 1) (pos 0)) (level (pos 4)) 1
    ∷ to_space (pos 2) (pos 4) (level (pos 2)) (level (pos 4)) 1 ∷ []
unfolding cross
bent = refl

-- equal walks that touch at one point on an abscissa stay two: a triangle that ends at (2, 2), and
-- one that begins there with the same lines the other way round
one_point : chains
    (to_space (pos 2) (pos 4) (line (pos 1) (negsuc 0) (pos 4)) (line (pos 1) (pos 1) (pos 0)) 1
    ∷ to_space (pos 0) (pos 2) (line (pos 1) (pos 1) (pos 0)) (line (pos 1) (negsuc 0) (pos 4)) 1
    ∷ [])
    ≡ to_space (pos 2) (pos 4) (line (pos 1) (negsuc 0) (pos 4)) (line (pos 1) (pos 1) (pos 0)) 1
    ∷ to_space (pos 0) (pos 2) (line (pos 1) (pos 1) (pos 0)) (line (pos 1) (negsuc 0) (pos 4)) 1
    ∷ []
unfolding cross
one_point = refl

-- the side at a T-joint: beyond wall 30 lie room 21 up to u = 3,950 and room 22 from u = 4,050 on,
-- and between them wall 31 ends, which the walk does not pass. A height of a product far away cuts
-- each slab at 1,000, and an end of another cuts the first part at u = 700
abbrev joint : ℤ → ℤ → ℤ → ℤ → List Item → ℤ → End → Strip
joint low high from to items depth found =
    strip (kind.Side 1) low high (level from) (level to) items depth found

abbrev through : List Item
through = item 30 0 (ratio (pos 200000) (pos 1)) ∷ []

abbrev slab : ℤ → ℤ → List Item → ℤ → End → List Strip
slab low high items depth found =
    joint low high (pos 0) (pos 1000) items depth found
    ∷ joint low high (pos 1000) (pos 2500) items depth found ∷ []

-- each slab has one run, and the four runs are three patches
three_patches : chains
    (all_runs
    (slab (pos 0) (pos 700) through (pos 200) (end.Space 21)
    ∷ slab (pos 700) (pos 3950) through (pos 200) (end.Space 21)
    ∷ slab (pos 3950) (pos 4050) [] (pos 200) (end.Solid 31)
    ∷ slab (pos 4050) (pos 8000) through (pos 200) (end.Space 22) ∷ []))
    ≡ joint (pos 0) (pos 3950) (pos 0) (pos 2500) through (pos 200) (end.Space 21)
    ∷ joint (pos 3950) (pos 4050) (pos 0) (pos 2500) [] (pos 200) (end.Solid 31)
    ∷ joint (pos 4050) (pos 8000) (pos 0) (pos 2500) through (pos 200) (end.Space 22) ∷ []
unfolding cross
three_patches = refl
