-- Chains: runs that are listed by face, by sides and then by where they begin become patches. A
-- run goes on with the next one where that begins as it ends, with its sides and its mark.

use Rattle.std.specs.Prelude.{◌≡◌, false, List, [], ◌∷◌, if◌then◌else◌}
use Rattle.std.specs.declared.cmp.Ordering.{Ordering}
use Rattle.std.specs.Ordering.{nat_cmp, int_cmp, then_cmp, on, is_lt}
use Rattle.theory_lists.specs.Members.{AllOfTwo}
use Rattle.theory_plane.specs.Sides.{LineSide}
use Rattle.sb_fraction.specs.Numbers.{order_of}
use Rattle.theory_joining.specs.Put.{goes_on, carried_on}
use Rattle.sb_model.specs.Boundaries.Order.{rank_of}
use Rattle.theory_faces.specs.Strips.{Strip, is_same_mark}

-- a run is put before the patches of those that follow
abbrev pub lay_before : Strip → List Strip → List Strip
lay_before p [] = p ∷ []
lay_before p (q ∷ qs) = if goes_on is_same_mark p q then carried_on p q ∷ qs else p ∷ q ∷ qs

-- the patches of runs
abbrev pub chains : List Strip → List Strip
chains [] = []
chains (p ∷ ps) = lay_before p (chains ps)

-- ---- the order of the runs

-- an order of sides, by their data
abbrev pub order_of_sides : LineSide → LineSide → Ordering
order_of_sides =
    then_cmp (on (λ l. l.dx) int_cmp)
    (then_cmp (on (λ l. l.dy) int_cmp) (on (λ l. l.off) int_cmp))

-- an order of what two runs that may go on have in common: the face and both sides
abbrev pub order_of_keys : Strip → Strip → Ordering
order_of_keys =
    then_cmp (on (λ p. p.mark.face.space) nat_cmp)
    (then_cmp (on (λ p. rank_of p.mark.face.kind) nat_cmp)
    (then_cmp (on (λ p. p.region.lower) order_of_sides)
    (on (λ p. p.region.upper) order_of_sides)))

-- by face, by sides, and then by where they begin
abbrev pub order_of_runs : Strip → Strip → Ordering
order_of_runs = then_cmp order_of_keys (λ p q. order_of p.region.low q.region.low)

-- of each two the later does not come before the earlier
abbrev pub AreInOrder : List Strip → Type 0
AreInOrder = AllOfTwo (λ p q. is_lt (order_of_runs q p) ≡ false)
