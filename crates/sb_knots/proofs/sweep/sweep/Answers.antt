use Rattle.std.proofs.Common.{◌≡◌, sym, ap, ◌∙◌, subst, arith, suc, ◌+◌, length, Ok}
use Rattle.std.proofs.Common.{◌∷◌, [], add-one}
use Rattle.std.specs.List.{concat, list_all}
use Rattle.std.proofs.lemmas.List.{length-append}
use Rattle.sb_knots.specs.Listing.{IsReached}
use Rattle.sb_knots.specs.Steps.{is_edge}
use Rattle.sb_knots.proofs.AllIsReached.{reached_first, reached_next, knotted_there, swept}
use Rattle.sb_knots.proofs.EditsOfIds.{item_at}
use Rattle.sb_knots.proofs.sweep.sweep.Goals as goal

pub corners-init : goal.corners-init
corners-init c = record {
  ids = ap (λ l. list_all (is_edge c.args.corners.now) (concat l)) c.new-standing.ensures;
  count = ap length c.new-lefts.ensures.items;
  reached = λ loops listing.
      subst (λ lefts. IsReached loops c.args.corners.now 0 (concat c.new-standing.result) lefts)
      (sym c.new-lefts.ensures.items)
      (subst (λ blocks. IsReached loops c.args.corners.now 0 (concat blocks) [])
      (sym c.new-standing.ensures) (reached_first loops c.args.corners.now listing));
}

pub returns-in-None-clause-knotted : goal.returns-in-None-clause-knotted
returns-in-None-clause-knotted c _ loops listing =
    let item = item_at c.args.corners.now c.corners.k c.corners-test.true in
    knotted_there loops c.args.corners.now listing c.corners.k item.0 item.1
    (concat c.corners.standing) c.corners.lefts.items (c.corners.invariant.reached loops listing)
    (λ n within parted.
    c.pass_corner.ensures.refused (c.in_ok-left.was ∙ ap Ok c.in-None.is) item.0 item.1 n within
    parted)

pub corners-preserved : goal.corners-preserved
corners-preserved c = record {
  ids = c.pass_corner.ensures.ids;
  count = ap length c.in_ok-push-in-Some.ensures.items
      ∙ length-append c.corners.lefts.items (c.in-Some.left ∷ [])
      ∙ ap (λ n. n + 1) c.corners.invariant.count;
  reached = λ loops listing.
      let item = item_at c.args.corners.now c.corners.k c.corners-test.true in
      subst
      (λ n. IsReached loops c.args.corners.now n (concat c.pass_corner.new.standing)
      c.push.new.self.items)
      (sym (add-one c.corners.k))
      (subst
      (λ lefts. IsReached loops c.args.corners.now (suc c.corners.k)
      (concat c.pass_corner.new.standing) lefts)
      (sym c.in_ok-push-in-Some.ensures.items)
      (reached_next loops c.args.corners.now listing c.corners.k item.0 item.1
      (concat c.corners.standing) c.corners.lefts.items (c.corners.invariant.reached loops listing)
      c.in-Some.left (concat c.pass_corner.new.standing) c.corners.invariant.count
      (λ n within parted.
      c.pass_corner.ensures.begun c.in-Some.left (c.in_ok-left.was ∙ ap Ok c.in-Some.is) item.0
      item.1 n within parted)));
}

pub returns-clause-swept : goal.returns-clause-swept
returns-clause-swept c loops listing =
    let all : c.corners.k ≡ length c.args.corners.now = omega arith in
    swept loops c.args.corners.now listing c.corners.k all (concat c.corners.standing)
    c.corners.lefts.items c.corners.invariant.count (c.corners.invariant.reached loops listing)
