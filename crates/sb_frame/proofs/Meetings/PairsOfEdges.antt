-- Each crossing of edges is one of an edge with one that stands behind it, in any order of the edges.

use Rattle.std.proofs.Common.{◌≡◌, ◌⊎◌, inl, inr, sym, ap, ◌∙◌, subst, true, not}
use Rattle.std.proofs.Common.{List, [], ◌∷◌, arith, pos}
use Rattle.std.proofs.lemmas.Int.{ints}
use Rattle.std.proofs.lemmas.Bool.{false≢true}
use Rattle.std.proofs.lemmas.Bool.Decides.{Decides-int_eq}
use Rattle.theory_lists.specs.Members.{Stands}
use Rattle.theory_numbers.specs.Arrows.{cross}
use Rattle.theory_numbers.proofs.Vectors.Arrows.{cross-self, cross-turn}
use Rattle.theory_numbers.proofs.Signs.{same_equal}
use Rattle.sb_fraction.specs.Spots.{Spot}
use Rattle.sb_fraction.specs.Edges.{Edge, edge_of, span_of}
use Rattle.sb_fraction.specs.Crossings.{are_parallel, cross_at}
use Rattle.sb_frame.specs.declared.edge.PlanEdge.{PlanEdge}
use Rattle.sb_frame.specs.Found.{CrossesOne, TwoCross}
use Rattle.sb_frame.proofs.Meetings.EdgesCross.{crosses_is, crosses_from}

-- one of the edges crosses one that stands behind it
abbrev pub CrossAhead : List PlanEdge → Spot → Type 0
CrossAhead [] p = ⊥
CrossAhead (e ∷ es) p = CrossesOne (edge_of e.segment) es p ⊎ CrossAhead es p

-- ---- two edges, in the other order

parallel_turned : (e f : Edge) → are_parallel e f ≡ are_parallel f e
parallel_turned e f =
    let turn = cross-turn (span_of e) (span_of f) in
    same_equal (cross (span_of e) (span_of f)) (pos 0) (cross (span_of f) (span_of e)) (pos 0)
    (λ none. omega (arith, ints)) (λ none. omega (arith, ints))

pub crosses_turned : (p : Spot) (e f : Edge) → cross_at p e f ≡ true → cross_at p f e ≡ true
crosses_turned p e f crosses =
    let c = crosses_is p e f crosses in
    crosses_from p f e
    (record {
      turned = ap not (parallel_turned f e) ∙ c.turned;
      first = c.second;
      second = c.first;
    })

-- no edge crosses itself
crosses_itself_nowhere : (p : Spot) (e : Edge) → cross_at p e e ≡ true → ⊥
crosses_itself_nowhere p e crosses =
    false≢true
    (sym (ap not ((Decides-int_eq (cross (span_of e) (span_of e)) (pos 0)).1 (cross-self (span_of e))))
    ∙ (crosses_is p e e crosses).turned)

-- two that stand in the list cross, so one crosses one behind it
pub ahead_from_two : (es : List PlanEdge) (p : Spot) → TwoCross es p → CrossAhead es p
ahead_from_two es p (e, (e_in, (f, (f_in, crosses)))) = from es e_in f_in
  where
    from : (gs : List PlanEdge) → Stands e gs → Stands f gs → CrossAhead gs p
    from [] e_at f_at = absurd e_at
    from (g ∷ gs) (inl same) (inl same_f) =
        absurd
        (crosses_itself_nowhere p (edge_of e.segment)
        (subst (λ (h : PlanEdge). cross_at p (edge_of e.segment) (edge_of h.segment) ≡ true)
        (same_f ∙ sym same) crosses))
    from (g ∷ gs) (inl same) (inr later) =
        inl
        (subst (λ (h : PlanEdge). CrossesOne (edge_of h.segment) gs p) same (f, (later, crosses)))
    from (g ∷ gs) (inr later) (inl same) =
        inl
        (subst (λ (h : PlanEdge). CrossesOne (edge_of h.segment) gs p) same
        (e, (later, crosses_turned p (edge_of e.segment) (edge_of f.segment) crosses)))
    from (g ∷ gs) (inr later) (inr later_f) = inr (from gs later later_f)

-- edges that stand in one list stand in another, so what two cross
pub two_elsewhere : (es fs : List PlanEdge) (p : Spot) → ((e : PlanEdge) → Stands e es → Stands e fs)
    → TwoCross es p → TwoCross fs p
two_elsewhere es fs p there (e, (e_in, (f, (f_in, crosses)))) =
    (e, (there e e_in, (f, (there f f_in, crosses))))
