-- The direction along x and those of all edges of spaces, in order and each once, are the directions of a
-- model.

use Rattle.std.proofs.Common.{◌≡◌, ◌⊎◌, inl, inr, refl, sym, ap, ◌∙◌, subst, ℤ, pos, ◌<ℤ◌}
use Rattle.std.proofs.Common.{List, [], ◌∷◌, map, IsTrue, Result, Ok, Err, IfOk}
use Rattle.std.specs.declared.alloc.AllocError.{AllocError}
use Rattle.std.specs.Cmp.{IsTotalOrder, int_ranks}
use Rattle.std.specs.List.{AllByRecursion}
use Rattle.std.specs.declared.cmp.Ordering.{Ordering}
use Rattle.std.specs.declared.cmp.Ordering.TheVariants.{Less, Equal, Greater}
use Rattle.std.specs.Ordering.{int_cmp, ordering_then, MatchOrdering}
use Rattle.std.proofs.lemmas.Cmp.{then_total, on_total, int_cmp_total}
use Rattle.theory_lists.specs.Members.{Stands, AllOfTwo}
use Rattle.theory_lists.proofs.Blocks.{stands_before, stands_behind}
use Rattle.theory_numbers.specs.Arrows.{Arrow}
use Rattle.theory_numbers.proofs.Vectors.Arrows.{same_arrow}
use Rattle.sb_fraction.specs.declared.direction.Direction.{Direction}
use Rattle.sb_fraction.specs.Directions.{direction_of}
use Rattle.sb_fraction.specs.Edges.{Edge}
use Rattle.sb_fraction.specs.Lines.{arrow_along, flat}
use Rattle.sb_fraction.specs.Plane.{is_direction}
use Rattle.sb_fraction.specs.Spots.{Vector, vector}
use Rattle.theory_numbers.specs.Divisors.{greatest_divisor}
use Rattle.theory_numbers.specs.Divisors as X
use Rattle.theory_plans.specs.LoopEdges.{edges_of}
use Rattle.theory_plans.proofs.Edges.StepsOfEdges.{direction_is_level}
use Rattle.sb_model.specs.declared.products.Space.{Space}
use Rattle.sb_model.specs.Building.{Building}
use Rattle.sb_model.specs.PlanEdges.{PlanEdge}
use Rattle.sb_frame.specs.Directions.{IsDirectionOf, ComesBefore, AreDirections}
use Rattle.sb_frame.specs.Directions.{order_of_directions, space_edges, heading, axis_and_headings}
use Rattle.sb_frame.specs.Owners.{edge_in}
use Rattle.sb_frame.specs.Rising.{IsRisingOf}
use Rattle.sb_frame.proofs.Along.AbscissaeAre.{made_from, made_stands, in_one_part}
use Rattle.sb_frame.proofs.Along.AbscissaeFound.{two_images}

-- (1, 0) is a direction
pub x_is_direction : IsTrue (is_direction (pos 1) (pos 0))
unfolding greatest_divisor X.divisor_within
x_is_direction = refl

-- ---- the order

pub directions_total : IsTotalOrder order_of_directions
directions_total =
    then_total (on_total (λ (d : Direction). d.x) int_cmp_total)
    (on_total (λ (d : Direction). d.y) int_cmp_total)

int_less : (a b : ℤ) → int_cmp a b ≡ Less → a <ℤ b
int_less a b less =
    subst (λ o. MatchOrdering o (a <ℤ b) (a ≡ b) (b <ℤ a)) less (int_ranks a b)

int_same : (a b : ℤ) → int_cmp a b ≡ Equal → a ≡ b
int_same a b equal =
    subst (λ o. MatchOrdering o (a <ℤ b) (a ≡ b) (b <ℤ a)) equal (int_ranks a b)

then_less : (o p : Ordering) → ordering_then o p ≡ Less → (o ≡ Less) ⊎ ((o ≡ Equal) × (p ≡ Less))
then_less Less p is = inl refl
then_less Equal p is = inr (refl, is)
then_less Greater p is = absurd cc

then_equal : (o p : Ordering) → ordering_then o p ≡ Equal → (o ≡ Equal) × (p ≡ Equal)
then_equal Less p is = absurd cc
then_equal Equal p is = (refl, is)
then_equal Greater p is = absurd cc

comes_before : (d e : Direction) → order_of_directions d e ≡ Less
    → ComesBefore (arrow_along d) (arrow_along e)
comes_before d e less = from (then_less (int_cmp d.x e.x) (int_cmp d.y e.y) less)
  where
    from : (int_cmp d.x e.x ≡ Less) ⊎ ((int_cmp d.x e.x ≡ Equal) × (int_cmp d.y e.y ≡ Less))
        → ComesBefore (arrow_along d) (arrow_along e)
    from (inl x) = inl (int_less d.x e.x x)
    from (inr (x, y)) = inr (int_same d.x e.x x, int_less d.y e.y y)

same_if_equal : (d e : Direction) → order_of_directions d e ≡ Equal → arrow_along d ≡ arrow_along e
same_if_equal d e equal =
    let parts = then_equal (int_cmp d.x e.x) (int_cmp d.y e.y) equal in
    same_arrow (arrow_along d) (arrow_along e) (int_same d.x e.x parts.0) (int_same d.y e.y parts.1)

-- ---- the edges of spaces

edge_of_space : (spaces : List Space) (e : PlanEdge) → Stands e (space_edges spaces)
    → (s : Space) × (Stands s spaces × Stands e.edge (edges_of s.prism.loops))
edge_of_space [] e at = absurd at
edge_of_space (s ∷ ss) e at =
    from (in_one_part e (map (edge_in s.number) (edges_of s.prism.loops)) (space_edges ss) at)
    (edge_of_space ss e)
  where
    own : (f : Edge) × (Stands f (edges_of s.prism.loops) × (e ≡ edge_in s.number f))
        → (t : Space) × (Stands t (s ∷ ss) × Stands e.edge (edges_of t.prism.loops))
    own (f, known) = (
      s,
      (
        inl refl,
        subst (λ (g : Edge). Stands g (edges_of s.prism.loops))
            (sym (ap (λ (g : PlanEdge). g.edge) known.1)) known.0,
      ),
    )

    behind : (t : Space) × (Stands t ss × Stands e.edge (edges_of t.prism.loops))
        → (t : Space) × (Stands t (s ∷ ss) × Stands e.edge (edges_of t.prism.loops))
    behind (t, known) = (t, (inr known.0, known.1))

    from : Stands e (map (edge_in s.number) (edges_of s.prism.loops)) ⊎ Stands e (space_edges ss)
        → (Stands e (space_edges ss)
        → (t : Space) × (Stands t ss × Stands e.edge (edges_of t.prism.loops)))
        → (t : Space) × (Stands t (s ∷ ss) × Stands e.edge (edges_of t.prism.loops))
    from (inl first) rest = own (made_from (edge_in s.number) e (edges_of s.prism.loops) first)
    from (inr later) rest = behind (rest later)

space_edge_stands : (spaces : List Space) (s : Space) (e : Edge) → Stands s spaces
    → Stands e (edges_of s.prism.loops) → Stands (edge_in s.number e) (space_edges spaces)
space_edge_stands [] s e s_in e_in = absurd s_in
space_edge_stands (t ∷ ts) s e (inl same) e_in =
    stands_before (edge_in s.number e) (map (edge_in t.number) (edges_of t.prism.loops))
    (space_edges ts)
    (subst
    (λ (x : Space). Stands (edge_in s.number e) (map (edge_in x.number) (edges_of x.prism.loops))) same
    (made_stands (edge_in s.number) e (edges_of s.prism.loops) e_in))
space_edge_stands (t ∷ ts) s e (inr later) e_in =
    stands_behind (edge_in s.number e) (map (edge_in t.number) (edges_of t.prism.loops))
    (space_edges ts) (space_edge_stands ts s e later e_in)

-- ---- directions

same_vector : (v : Vector) → v.z ≡ pos 0 → vector v.x v.y (pos 0) ≡ v
same_vector v level = ap (λ z. vector v.x v.y z) (sym level)

heading_is : (e : Edge) → flat (heading e) ≡ direction_of e
heading_is e = same_vector (direction_of e) (direction_is_level e)

pub is_heading : (d : Arrow) (e : Edge) → flat d ≡ direction_of e → d ≡ heading e
is_heading d e same =
    same_arrow d (heading e) (ap (λ (v : Vector). v.x) same) (ap (λ (v : Vector). v.y) same)

module _ (m : Building) where
  direction_of_one : (d : Arrow) → Stands d (axis_and_headings (space_edges m.spaces))
      → IsDirectionOf m d
  direction_of_one d (inl same) = inl same
  direction_of_one d (inr later) =
      from (made_from (λ (e : PlanEdge). heading e.edge) d (space_edges m.spaces) later)
    where
      with_space : (e : PlanEdge) → d ≡ heading e.edge
          → (s : Space) × (Stands s m.spaces × Stands e.edge (edges_of s.prism.loops))
          → IsDirectionOf m d
      with_space e same (s, known) =
          inr (s, e.edge, (known.0, (known.1, ap flat same ∙ heading_is e.edge)))

      from : (e : PlanEdge) × (Stands e (space_edges m.spaces) × (d ≡ heading e.edge))
          → IsDirectionOf m d
      from (e, known) = with_space e known.1 (edge_of_space m.spaces e known.0)

  one_of_directions : (d : Arrow) → IsDirectionOf m d
      → Stands d (axis_and_headings (space_edges m.spaces))
  one_of_directions d (inl same) = inl same
  one_of_directions d (inr (s, e, (s_in, (e_in, same)))) =
      inr
      (subst (λ x. Stands x (map (λ (f : PlanEdge). heading f.edge) (space_edges m.spaces)))
      (sym (is_heading d e same))
      (made_stands (λ (f : PlanEdge). heading f.edge) (edge_in s.number e) (space_edges m.spaces)
      (space_edge_stands m.spaces s e s_in e_in)))

  pub are_directions : (edges : List PlanEdge) (old new : List Direction)
      → edges ≡ space_edges m.spaces → map arrow_along old ≡ axis_and_headings edges
      → IsRisingOf order_of_directions old new → AreDirections m new
  are_directions edges old new are all rising =
      record {
        rising = two_images ComesBefore arrow_along new (before_each new rising.rising);
        each = of_each new (λ d at. direction_of_one (arrow_along d) (there d (rising.each d at)));
        all = λ d is. found d (subst (Stands d) (sym whole) (one_of_directions d is));
      }
    where
      whole : map arrow_along old ≡ axis_and_headings (space_edges m.spaces)
      whole = all ∙ ap axis_and_headings are

      there : (d : Direction) → Stands d old
          → Stands (arrow_along d) (axis_and_headings (space_edges m.spaces))
      there d at = subst (Stands (arrow_along d)) whole (made_stands arrow_along d old at)

      of_each : (list : List Direction)
          → ((d : Direction) → Stands d list → IsDirectionOf m (arrow_along d))
          → AllByRecursion (IsDirectionOf m) (map arrow_along list)
      of_each [] each = tt
      of_each (d ∷ list) each = (each d (inl refl), of_each list (λ e at. each e (inr at)))

      before_each : (list : List Direction) → AllOfTwo (λ d e. order_of_directions d e ≡ Less) list
          → AllOfTwo (λ d e. ComesBefore (arrow_along d) (arrow_along e)) list
      before_each [] two = tt
      before_each (d ∷ list) two = (before list two.0, before_each list two.1)
        where
          before : (es : List Direction) → AllByRecursion (λ e. order_of_directions d e ≡ Less) es
              → AllByRecursion (λ e. ComesBefore (arrow_along d) (arrow_along e)) es
          before [] each = tt
          before (e ∷ es) each = (comes_before d e each.0, before es each.1)

      found : (d : Arrow) → Stands d (map arrow_along old) → Stands d (map arrow_along new)
      found d at = with_old (made_from arrow_along d old at)
        where
          with_new : (o n : Direction) → d ≡ arrow_along o → Stands n new
              → order_of_directions o n ≡ Equal → Stands d (map arrow_along new)
          with_new o n same n_in equal =
              subst (λ x. Stands x (map arrow_along new)) (sym (same ∙ same_if_equal o n equal))
              (made_stands arrow_along n new n_in)

          with_old : (o : Direction) × (Stands o old × (d ≡ arrow_along o))
              → Stands d (map arrow_along new)
          with_old (o, known) = its (rising.all o known.0)
            where
              its : (n : Direction) × (Stands n new × (order_of_directions o n ≡ Equal))
                  → Stands d (map arrow_along new)
              its (n, two) = with_new o n known.1 two.0 two.1

-- a list that has the same items
pub if_directions : (m : Building) (new : List Direction) (r : Result (List Direction) AllocError)
    → AreDirections m new → (given : List Direction) → given ≡ new
    → IfOk r (λ list. list ≡ given) → IfOk r (AreDirections m)
if_directions m new (Ok list) are given same is =
    subst (AreDirections m) (sym (is ∙ same)) are
if_directions m new (Err e) are given same is = tt
