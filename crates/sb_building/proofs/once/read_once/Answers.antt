use Rattle.std.specs.Ordering.{nat_cmp}
use Rattle.std.specs.BTreeMap.{get}
use Rattle.std.proofs.lemmas.Result.{on_ok_weaker}
use Rattle.sb_building.proofs.Known.MadeOnce.{one_made_more}
use Rattle.sb_building.proofs.once.read_once.Goals as goal

pub returns-clause-known : goal.returns-clause-known
returns-clause-known c =
    on_ok_weaker c.keep_made.result
    (λ updates. one_made_more c.args.file.now c.args.unit c.args.number c.in_ok-made.made
    (get nat_cmp c.args.known.now) (get nat_cmp c.keep_made.new.known) c.requires
    (λ said says. c.in_ok-made.ensures said says) updates)
    c.keep_made.ensures
