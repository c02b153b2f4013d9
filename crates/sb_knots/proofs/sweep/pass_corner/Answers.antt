use Rattle.std.proofs.Common.{◌≡◌, sym, ap, ◌∙◌, subst, IsTrue, false}
use Rattle.std.specs.List.{concat, list_all, list_any}
use Rattle.theory_lists.specs.Parted.{IsPartedAt}
use Rattle.sb_fraction.specs.declared.point.Point.{Point}
use Rattle.theory_sweep.specs.Corners.{Corner}
use Rattle.sb_knots.specs.Steps.{is_edge, lies_under, ids_of, begun_at, are_linked, may_follow}
use Rattle.sb_knots.specs.Steps.{joint_at}
use Rattle.sb_knots.specs.Steps.{HaveBegun, closed_at}
use Rattle.sb_knots.proofs.BegunEdges.{begun_in, begun_over}
use Rattle.sb_knots.proofs.EditsOfIds.{get_is}
use Rattle.sb_knots.proofs.sweep.pass_corner.Goals as goal

pub begin-requires-clause-begun_in : goal.begin-requires-clause-begun_in
begin-requires-clause-begun_in c =
    subst (λ b. IsTrue (list_all (is_edge c.args.corners.now) (ids_of b)))
    (sym c.edges_begun-begun.ensures)
    (begun_in c.args.corners.now c.args.k c.index-corners-k.result
    (get_is c.args.corners.now c.args.k c.index-corners-k.result c.requires.within
    c.index-corners-k.is))

pub begin-requires-clause-over : goal.begin-requires-clause-over
begin-requires-clause-over c =
    subst (λ b. list_any (lies_under c.args.corners.now c.c.inside.at) (ids_of b) ≡ false)
    (sym c.edges_begun-begun.ensures)
    (subst
    (λ (v : Point). list_any (lies_under c.args.corners.now v)
    (ids_of (begun_at c.index-corners-k.result c.args.k)) ≡ false)
    (ap (λ (t : Corner). t.at) (sym c.c.view_is))
    (begun_over c.args.corners.now c.args.k c.index-corners-k.result
    (get_is c.args.corners.now c.args.k c.index-corners-k.result c.requires.within
    c.index-corners-k.is)))

pub returns-clause-refused : goal.returns-clause-refused
returns-clause-refused c refused c' at n within parted =
    let found = get_is c.args.corners.now c.args.k c.index-corners-k.result c.requires.within
    c.index-corners-k.is in
    let same : c.index-corners-k.result ≡ c' = cc in
    let point = ap (λ (t : Corner). t.at) (c.c.view_is ∙ same) in
    let closed = c.close.ensures.closed n within
    (subst (λ v. IsPartedAt (lies_under c.args.corners.now v) n (concat c.args.standing.now))
    (sym point) parted) in
    subst
    (λ b. are_linked (may_follow c.args.corners.now)
    (joint_at n b (closed_at c.args.corners.now c'.at n (concat c.args.standing.now))) ≡ false)
    (c.edges_begun-begun.ensures ∙ ap (λ t. begun_at t c.args.k) same)
    (subst
    (λ ids. are_linked (may_follow c.args.corners.now) (joint_at n c.edges_begun-begun.result ids)
    ≡ false)
    (closed.list ∙ ap (λ v. closed_at c.args.corners.now v n (concat c.args.standing.now)) point)
    (c.begin.ensures.refused refused n closed.within closed.parted))

pub returns-clause-begun : goal.returns-clause-begun
returns-clause-begun c left answer c' at n within parted =
    let found = get_is c.args.corners.now c.args.k c.index-corners-k.result c.requires.within
    c.index-corners-k.is in
    let same : c.index-corners-k.result ≡ c' = cc in
    let point = ap (λ (t : Corner). t.at) (c.c.view_is ∙ same) in
    let closed = c.close.ensures.closed n within
    (subst (λ v. IsPartedAt (lies_under c.args.corners.now v) n (concat c.args.standing.now))
    (sym point) parted) in
    subst
    (λ b. HaveBegun c.args.corners.now b n
    (closed_at c.args.corners.now c'.at n (concat c.args.standing.now))
    (concat c.begin.new.standing)
    left)
    (c.edges_begun-begun.ensures ∙ ap (λ t. begun_at t c.args.k) same)
    (subst
    (λ ids. HaveBegun c.args.corners.now c.edges_begun-begun.result n ids
    (concat c.begin.new.standing) left)
    (closed.list ∙ ap (λ v. closed_at c.args.corners.now v n (concat c.args.standing.now)) point)
    (c.begin.ensures.begun left answer n closed.within closed.parted))
