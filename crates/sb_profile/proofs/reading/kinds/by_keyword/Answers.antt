use Rattle.std.proofs.Common.{sym, ◌∙◌, subst, get_or, take}
use Rattle.std.proofs.lemmas.List.{take_more}
use Rattle.sb_profile.specs.Steps.Kinds.{AreSorted}
use Rattle.sb_profile.proofs.TablesOfFiles.KindsAreSorted.{sorted_all}
use Rattle.sb_profile.proofs.reading.kinds.by_keyword.Goals as goal

pub numbers-init : goal.numbers-init
numbers-init c = λ said says. c.no_kinds-kinds.ensures said

pub numbers-preserved : goal.numbers-preserved
numbers-preserved c = λ said says.
    let xs = c.numbers-number-items.result.now in
    let i = c.numbers.number-index in
    subst (λ ns. AreSorted said ns c.keep_one.new.kinds) (sym (take_more xs i 0 c.numbers-test.true))
    (c.in_ok-keep_one.ensures said (take i xs)
    (says.keyword_is (get_or xs i 0) ∙ sym c.keyword-keyword.ensures)
    (c.numbers.invariant said says))

pub returns : goal.returns
returns c = λ said says.
    sorted_all said c.numbers-number-items.result.now c.numbers.number-index c.numbers.kinds
    c.numbers-test.false (c.numbers-number-items.ensures ∙ sym says.numbers_are)
    (c.numbers.invariant said says)
