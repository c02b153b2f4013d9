use Rattle.sb_idf_out.specs.Materials.{is_same_name}
use Rattle.sb_idf_out.specs.Steps.Names.{name_cmp}
use Rattle.sb_idf_out.proofs.TablesSeen.{known, added}
use Rattle.sb_idf_out.proofs.names.number_of_name.Goals as goal

pub returns-in-Some : goal.returns-in-Some
returns-in-Some c =
    λ ns before.
    known is_same_name name_cmp (λ k. k.now) ns c.args.numbers.now c.args.name c.in-Some.number before
    c.in-Some.ensures

pub returns-in_ok-add-in-None : goal.returns-in_ok-add-in-None
returns-in_ok-add-in-None c =
    λ ns before.
    added is_same_name name_cmp (λ k. k.now) ns c.args.numbers.now c.add.new.numbers c.args.name
    c.in_ok-number-in-None.number before c.in-None.ensures c.in_ok-number-in-None.ensures
    c.in_ok-add-in-None.ensures
