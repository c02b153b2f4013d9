use Rattle.std.proofs.Common.{◌≡◌, sym, subst, ◌++◌, take, drop, false}
use Rattle.std.specs.List.{concat, list_any}
use Rattle.sb_knots.specs.Steps.{lies_under, ids_of}
use Rattle.sb_knots.proofs.EditsOfIds.{on_ok, two_put}
use Rattle.sb_knots.proofs.standing.put_begun.Goals as goal

pub returns-in_ok-put-in-Two-clause-put : goal.returns-in_ok-put-in-Two-clause-put
returns-in_ok-put-in-Two-clause-put c =
    on_ok c.put-in-Two-2.result _ _
    (λ last n within parted.
    subst
    (λ b. concat c.put-in-Two-2.new.standing
    ≡ take n (concat c.args.standing.now) ++ (ids_of b ++ drop n (concat c.args.standing.now)))
    (sym c.in-Two.is)
    (two_put (lies_under c.args.corners.now c.args.v) (concat c.args.standing.now)
    (concat c.put-in-Two.new.standing) (concat c.put-in-Two-2.new.standing) n c.in-Two.x c.in-Two.y
    within parted
    (subst (λ b. list_any (lies_under c.args.corners.now c.args.v) (ids_of b) ≡ false) c.in-Two.is
    c.requires.over)
    (c.in_ok-put-in-Two.ensures.put n within parted) (last n)))
    c.put-in-Two-2.ensures.put
