-- The point where the lines of two edges meet is their common point exactly where it lies on both
-- by its shares.

use Rattle.std.proofs.Common.{◌≡◌, ◌∙◌, ap, sym, arith, ℤ, pos, neg_ℤ}
use Rattle.std.proofs.Common.{◌<ℤ◌, ◌≤ℤ◌, ◌+ℤ◌, ◌-ℤ◌, ◌*ℤ◌, Bool, true, false, not, ◌&&◌}
use Rattle.std.proofs.Common.{int_lt, if◌then◌else◌}
use Rattle.std.proofs.lemmas.Int.{ints}
use Rattle.std.proofs.lemmas.Bool.{and_from, and_parts, not-true, not_from_false}
use Rattle.std.specs.Cmp.{signed_Decides}
use Rattle.theory_numbers.specs.Arrows.{Arrow, cross, dot, scale}
use Rattle.theory_numbers.proofs.Vectors.Arrows.{same_arrow, cross-turn}
use Rattle.theory_numbers.proofs.Vectors.ThreeTerms.{cycle_x, cycle_y}
use Rattle.theory_numbers.proofs.Ring.{neg-mul-neg}
use Rattle.theory_numbers.proofs.Signs.{at_most_from}
use Rattle.theory_numbers.proofs.Shapes.{var, plus, minus, times, negated, equal}
use Rattle.sb_fraction.specs.Spots.{Spot, spot, IsSpot}
use Rattle.sb_fraction.specs.Edges.{Edge, span_of, seen_from, is_on, is_within}
use Rattle.sb_fraction.specs.Crossings.{are_parallel, meeting_of, with_positive}
use Rattle.sb_fraction.specs.Meetings.{IsCommon}
use Rattle.sb_fraction.specs.Steps.{turn_between, share_of, is_share, meet_once}
use Rattle.sb_fraction.proofs.Meetings.PointsByShares.{IsSeen, on_if_seen, within_if_seen, seen_turned}
use Rattle.sb_fraction.proofs.Meetings.PointsByShares.{turned_spot, length_if_turned}
use Rattle.sb_fraction.proofs.Meetings.CommonPointHasShares.{way, share_if_on}

-- the point where the lines meet, with a denominator of any sign
abbrev pub unturned : Edge → Edge → Spot
unturned e f =
    spot ((e.a.x *ℤ turn_between e f) +ℤ (share_of e f *ℤ (span_of e).x))
    ((e.a.y *ℤ turn_between e f) +ℤ (share_of e f *ℤ (span_of e).y)) (pos 0) (turn_between e f)

-- ---- its ends are seen by the shares

start_of : (a w s x : ℤ) → (a *ℤ w) -ℤ ((a *ℤ w) +ℤ (s *ℤ x)) ≡ neg_ℤ s *ℤ x
start_of a w s x =
    equal (minus (times (var a) (var w)) (plus (times (var a) (var w)) (times (var s) (var x))))
    (times (negated (var s)) (var x)) (omega arith)

end_of : (a b w s : ℤ)
    → (b *ℤ w) -ℤ ((a *ℤ w) +ℤ (s *ℤ (b -ℤ a))) ≡ (w -ℤ s) *ℤ (b -ℤ a)
end_of a b w s =
    equal
    (minus (times (var b) (var w))
    (plus (times (var a) (var w)) (times (var s) (minus (var b) (var a)))))
    (times (minus (var w) (var s)) (minus (var b) (var a))) (omega arith)

-- of the first edge
seen_on_first : (e f : Edge)
    → IsSeen (unturned e f) e (neg_ℤ (share_of e f)) (turn_between e f -ℤ share_of e f)
seen_on_first e f =
    let w = turn_between e f in
    let s = share_of e f in
    record {
      first =
          same_arrow (seen_from (unturned e f) e.a) (scale (neg_ℤ s) (span_of e))
          (start_of e.a.x w s (span_of e).x) (start_of e.a.y w s (span_of e).y);
      second =
          same_arrow (seen_from (unturned e f) e.b) (scale (w -ℤ s) (span_of e))
          (end_of e.a.x e.b.x w s) (end_of e.a.y e.b.y w s);
    }

-- the other edge's share t, from the relation of the three vectors
across : (a c w s t x y : ℤ) → (s *ℤ x) +ℤ (neg_ℤ w *ℤ (c -ℤ a)) +ℤ (t *ℤ y) ≡ pos 0
    → (c *ℤ w) -ℤ ((a *ℤ w) +ℤ (s *ℤ x)) ≡ t *ℤ y
across a c w s t x y relation =
    let spread : (c *ℤ w) -ℤ ((a *ℤ w) +ℤ (s *ℤ x))
    ≡ (t *ℤ y) -ℤ ((s *ℤ x) +ℤ (neg_ℤ w *ℤ (c -ℤ a)) +ℤ (t *ℤ y)) =
    equal (minus (times (var c) (var w)) (plus (times (var a) (var w)) (times (var s) (var x))))
    (minus (times (var t) (var y))
    (plus (plus (times (var s) (var x)) (times (negated (var w)) (minus (var c) (var a))))
    (times (var t) (var y)))) (omega arith) in
    omega (arith, ints)

further : (a c b w s t x : ℤ) → (c *ℤ w) -ℤ ((a *ℤ w) +ℤ (s *ℤ x)) ≡ t *ℤ (b -ℤ c)
    → (b *ℤ w) -ℤ ((a *ℤ w) +ℤ (s *ℤ x)) ≡ (t -ℤ neg_ℤ w) *ℤ (b -ℤ c)
further a c b w s t x same =
    let spread : (b *ℤ w) -ℤ ((a *ℤ w) +ℤ (s *ℤ x))
    ≡ ((c *ℤ w) -ℤ ((a *ℤ w) +ℤ (s *ℤ x))) +ℤ ((b -ℤ c) *ℤ w) =
    equal (minus (times (var b) (var w)) (plus (times (var a) (var w)) (times (var s) (var x))))
    (plus (minus (times (var c) (var w)) (plus (times (var a) (var w)) (times (var s) (var x))))
    (times (minus (var b) (var c)) (var w))) (omega arith) in
    let joined : (t *ℤ (b -ℤ c)) +ℤ ((b -ℤ c) *ℤ w) ≡ (t -ℤ neg_ℤ w) *ℤ (b -ℤ c) =
    equal
    (plus (times (var t) (minus (var b) (var c))) (times (minus (var b) (var c)) (var w)))
    (times (minus (var t) (negated (var w))) (minus (var b) (var c))) (omega arith) in
    omega (arith, ints)

way_back : (a c : ℤ) → a -ℤ c ≡ neg_ℤ (c -ℤ a)
way_back a c = omega (arith, ints)

opposite_ways : (g h s : Arrow) → h.x ≡ neg_ℤ g.x → h.y ≡ neg_ℤ g.y → cross h s ≡ cross s g
unfolding cross
opposite_ways g h s same_x same_y =
    rw (same_x, same_y)
    (equal (minus (times (negated (var g.x)) (var s.y)) (times (negated (var g.y)) (var s.x)))
    (minus (times (var s.x) (var g.y)) (times (var s.y) (var g.x))) (omega arith))

-- the share of the second edge, by the way from the first
turned_way : (e f : Edge) → share_of f e ≡ cross (span_of e) (way e.a f.a)
turned_way e f =
    opposite_ways (way e.a f.a) (way f.a e.a) (span_of e) (way_back e.a.x f.a.x)
    (way_back e.a.y f.a.y)

relation : (s w t n m x g y : ℤ) → (s *ℤ x) +ℤ (n *ℤ g) +ℤ (m *ℤ y) ≡ pos 0
    → n ≡ neg_ℤ w → t ≡ m → (s *ℤ x) +ℤ (neg_ℤ w *ℤ g) +ℤ (t *ℤ y) ≡ pos 0
relation s w t n m x g y cycle same_turn same_share = cc

-- of the second edge
seen_on_second : (e f : Edge)
    → IsSeen (unturned e f) f (share_of f e) (share_of f e -ℤ turn_between f e)
seen_on_second e f =
    let g = way e.a f.a in
    let w = turn_between e f in
    let s = share_of e f in
    let t = share_of f e in
    let turn = cross-turn (span_of e) (span_of f) in
    let at_x = across e.a.x f.a.x w s t (span_of e).x (span_of f).x
    (relation s w t (turn_between f e) (cross (span_of e) g) (span_of e).x g.x (span_of f).x
    (cycle_x g (span_of f) (span_of e)) turn (turned_way e f)) in
    let at_y = across e.a.y f.a.y w s t (span_of e).y (span_of f).y
    (relation s w t (turn_between f e) (cross (span_of e) g) (span_of e).y g.y (span_of f).y
    (cycle_y g (span_of f) (span_of e)) turn (turned_way e f)) in
    record {
      first = same_arrow (seen_from (unturned e f) f.a) (scale t (span_of f)) at_x at_y;
      second =
          same_arrow (seen_from (unturned e f) f.b) (scale (t -ℤ turn_between f e) (span_of f))
          (further e.a.x f.a.x f.b.x w s t (span_of e).x at_x
          ∙ ap (λ n. (t -ℤ n) *ℤ (span_of f).x) (sym turn))
          (further e.a.y f.a.y f.b.y w s t (span_of e).y at_y
          ∙ ap (λ n. (t -ℤ n) *ℤ (span_of f).y) (sym turn));
    }

-- ---- it lies on an edge by its shares, whatever sign its denominator had

-- on the edge
on_positive : (p : Spot) (e : Edge) (k m : ℤ) → IsSeen p e k m → (k *ℤ m) ≤ℤ pos 0
    → is_on (with_positive p) e ≡ true
on_positive p e k m seen low = from (int_lt p.w (pos 0))
  where
    from : (b : Bool) → is_on (if b then turned_spot p else p) e ≡ true
    from true =
        on_if_seen (turned_spot p) e (neg_ℤ k) (neg_ℤ m) (seen_turned p e k m seen)
        (rw (neg-mul-neg k m) low)
    from false = on_if_seen p e k m seen low

-- strictly inside it
within_positive : (p : Spot) (e : Edge) (k m : ℤ) → IsSeen p e k m
    → pos 0 <ℤ dot (span_of e) (span_of e) → (k *ℤ m) <ℤ pos 0
    → is_within (with_positive p) e ≡ true
within_positive p e k m seen length low = from (int_lt p.w (pos 0))
  where
    from : (b : Bool) → is_within (if b then turned_spot p else p) e ≡ true
    from true =
        within_if_seen (turned_spot p) e (neg_ℤ k) (neg_ℤ m) (seen_turned p e k m seen) length
        (rw (neg-mul-neg k m) low)
    from false = within_if_seen p e k m seen length low

shares_of_first : (w s : ℤ) → neg_ℤ s *ℤ (w -ℤ s) ≡ (s *ℤ s) -ℤ (s *ℤ w)
shares_of_first w s =
    equal (times (negated (var s)) (minus (var w) (var s)))
    (minus (times (var s) (var s)) (times (var s) (var w))) (omega arith)

shares_of_second : (w s : ℤ) → s *ℤ (s -ℤ w) ≡ (s *ℤ s) -ℤ (s *ℤ w)
shares_of_second w s =
    equal (times (var s) (minus (var s) (var w)))
    (minus (times (var s) (var s)) (times (var s) (var w))) (omega arith)

-- the point lies on the first edge where its share is one
on_first_edge : (e f : Edge) → is_share (turn_between e f) (share_of e f) ≡ true
    → is_on (meeting_of e f) e ≡ true
on_first_edge e f part =
    let w = turn_between e f in
    let s = share_of e f in
    let low = at_most_from (s *ℤ s) (s *ℤ w) part in
    let same = shares_of_first w s in
    on_positive (unturned e f) e (neg_ℤ s) (w -ℤ s) (seen_on_first e f) (omega (arith, ints))

-- and on the second
on_second_edge : (e f : Edge) → is_share (turn_between f e) (share_of f e) ≡ true
    → is_on (meeting_of e f) f ≡ true
on_second_edge e f part =
    let w = turn_between f e in
    let s = share_of f e in
    let low = at_most_from (s *ℤ s) (s *ℤ w) part in
    let same = shares_of_second w s in
    on_positive (unturned e f) f s (s -ℤ w) (seen_on_second e f) (omega (arith, ints))

-- strictly inside the first edge where its share is strictly between 0 and 1
pub within_first : (e f : Edge) → (turn_between e f ≡ pos 0 → ⊥)
    → (share_of e f *ℤ share_of e f) <ℤ (share_of e f *ℤ turn_between e f)
    → is_within (meeting_of e f) e ≡ true
within_first e f turned low =
    let w = turn_between e f in
    let s = share_of e f in
    let same = shares_of_first w s in
    within_positive (unturned e f) e (neg_ℤ s) (w -ℤ s) (seen_on_first e f)
    (length_if_turned (span_of e) (span_of f) turned) (omega (arith, ints))

-- and the second
pub within_second : (e f : Edge) → (turn_between f e ≡ pos 0 → ⊥)
    → (share_of f e *ℤ share_of f e) <ℤ (share_of f e *ℤ turn_between f e)
    → is_within (meeting_of e f) f ≡ true
within_second e f turned low =
    let w = turn_between f e in
    let s = share_of f e in
    let same = shares_of_second w s in
    within_positive (unturned e f) f s (s -ℤ w) (seen_on_second e f)
    (length_if_turned (span_of f) (span_of e) turned) (omega (arith, ints))

-- ---- the one common point

-- edges that meet once are not parallel, and each is met by a share
pub once_parts : (e f : Edge) → meet_once e f ≡ true
    → (are_parallel e f ≡ false)
    × (is_share (turn_between e f) (share_of e f) ≡ true)
    × (is_share (turn_between f e) (share_of f e) ≡ true)
once_parts e f once =
    let first = is_share (turn_between e f) (share_of e f) in
    let second = is_share (turn_between f e) (share_of f e) in
    let parts = and_parts (not (are_parallel e f)) (first && second) once in
    let shares = and_parts first second parts.1 in
    (not-true (are_parallel e f) parts.0, shares.0, shares.1)

-- edges that meet once have the point where their lines meet in common
pub common_if_once : (e f : Edge) → meet_once e f ≡ true → IsCommon e f (meeting_of e f)
common_if_once e f once =
    let parts = once_parts e f once in
    record {
      on_first = on_first_edge e f parts.1;
      on_second = on_second_edge e f parts.2;
    }

-- edges that are not parallel turn from each other
pub turned_if_apart : (e f : Edge) → are_parallel e f ≡ false → turn_between e f ≡ pos 0 → ⊥
turned_if_apart e f apart zero =
    clash apart ((signed_Decides (turn_between e f) (pos 0)).1 zero)
  where
    clash : are_parallel e f ≡ false → are_parallel e f ≡ true → ⊥
    clash none some = cc

-- in either order
pub turned_back : (e f : Edge) → (turn_between e f ≡ pos 0 → ⊥) → turn_between f e ≡ pos 0 → ⊥
turned_back e f turned zero =
    turned (let turn = cross-turn (span_of e) (span_of f) in omega (arith, ints))

-- edges with a common point that are not parallel meet once
pub once_if_common : (e f : Edge) → are_parallel e f ≡ false → (p : Spot) → IsSpot p
    → IsCommon e f p → meet_once e f ≡ true
once_if_common e f apart p p_in common =
    let turned = turned_if_apart e f apart in
    and_from (not (are_parallel e f))
    (is_share (turn_between e f) (share_of e f) && is_share (turn_between f e) (share_of f e))
    (not_from_false (are_parallel e f) apart)
    (and_from (is_share (turn_between e f) (share_of e f))
    (is_share (turn_between f e) (share_of f e))
    (share_if_on p e f p_in turned common.on_first common.on_second)
    (share_if_on p f e p_in (turned_back e f turned) common.on_second common.on_first))
