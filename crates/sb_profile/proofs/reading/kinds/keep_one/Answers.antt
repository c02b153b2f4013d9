use Rattle.std.proofs.Common.{ap, sym, ◌∙◌, subst}
use Rattle.sb_profile.specs.Steps.Kinds.{KeepsProducts, KeepsOthers, may_count}
use Rattle.sb_profile.proofs.TablesOfFiles.KindsAreSorted.{sorted_more, sorted_same}
use Rattle.sb_profile.proofs.reading.kinds.keep_one.Goals as goal

pub returns-then-not-may_count : goal.returns-then-not-may_count
returns-then-not-may_count c = λ said ns keyword sorted.
    sorted_same said ns c.args.number c.args.kinds.now
    (ap may_count keyword ∙ (sym c.may_count.ensures ∙ c.if-not-may_count.true)) sorted

pub returns : goal.returns
returns c = λ said ns keyword sorted.
    let n = c.args.number in
    sorted_more said ns n c.args.kinds.now c.keep_product.new.kinds c.keep_other.new.kinds sorted
    (subst (KeepsProducts c.args.kinds.now c.keep_product.new.kinds n) (sym keyword)
    c.in_ok-keep_product.ensures)
    (subst (KeepsOthers c.keep_product.new.kinds c.keep_other.new.kinds n) (sym keyword)
    c.in_ok-keep_other.ensures)
