-- An edge that reaches is put behind, another one passed over.
use Rattle.std.proofs.Common.{arith, ◌+◌, ◌∙◌, sym, ap, subst, List}
use Rattle.sb_fraction.specs.Lines.{arrow_along}
use Rattle.sb_fraction.specs.Numbers.{number}
use Rattle.sb_frame.specs.Network.{plan_edge_of}
use Rattle.sb_slab.specs.declared.item.Reaching.{Reaching}
use Rattle.sb_slab.proofs.ReachingSoFar.{ReachingTo, passed_over, put_behind, all_so_far}
use Rattle.sb_slab.proofs.reaching.reaching.Goals as goal
use Rattle.sb_slab.proofs.reaching.reaching.Goals.{then-reaches+in_ok-push, else-reaches}

pub edges-preserved : goal.edges-preserved
edges-preserved c =
    elim c.if-reaches.branch [
      | then-reaches+in_ok-push w ↦
          subst
          (λ (list : List Reaching).
          ReachingTo (arrow_along c.args.d) (number c.args.at.now) c.args.edges.now.edges
          (c.edges.place + 1) list)
          (sym (ap (λ v. v.items) w.list-is ∙ w.in_ok-push.ensures.items))
          (put_behind (arrow_along c.args.d) (number c.args.at.now) c.args.edges.now.edges
          c.edges.place c.edges.list.items (plan_edge_of c.edge-edge.result) c.edges.invariant
          c.edge-edge.ensures w.at_place.result w.at_place.ensures.place w.at_place.ensures.segment
          (sym c.reaches.ensures ∙ w.if-reaches.true))
      | else-reaches w ↦
          subst
          (λ (list : List Reaching).
          ReachingTo (arrow_along c.args.d) (number c.args.at.now) c.args.edges.now.edges
          (c.edges.place + 1) list)
          (sym (ap (λ v. v.items) w.list-is))
          (passed_over (arrow_along c.args.d) (number c.args.at.now) c.args.edges.now.edges
          c.edges.place c.edges.list.items (plan_edge_of c.edge-edge.result) c.edges.invariant
          c.edge-edge.ensures (sym c.reaches.ensures ∙ w.if-reaches.false))
    ]

pub returns : goal.returns
returns c =
    all_so_far (arrow_along c.args.d) (number c.args.at.now) c.args.edges.now.edges c.edges.place
    c.edges.list.items (omega arith) c.edges.invariant
