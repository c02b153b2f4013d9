-- A key without a number was in no entry, so the map is longer by one.
use Rattle.std.proofs.Common.{ap, ◌∙◌, ◌+◌, is_some}
use Rattle.std.specs.Prelude.{if◌then◌else◌}
use Rattle.std.specs.BTreeMap.{btree_map_len}
use Rattle.sb_idf_out.proofs.TablesGrow.{one_key_more, number_none}
use Rattle.sb_idf_out.proofs.table.add.Goals as goal

pub returns : goal.returns
returns g c =
    λ ks before absent next.
    let none = c.in_ok-insert.ensures.old ∙ (before.1 c.args.key ∙ number_none g.K.PartialEq.eq ks c.args.key absent) in
    one_key_more g.K.PartialEq.eq g.met.K.Eq.laws g.K.Ord.cmp g.met.K.Ord.matches_eq ks c.args.key
    c.args.number c.args.numbers.now c.insert.new.self before absent next
    (λ q. c.in_ok-insert.ensures.updates.0 q)
    (c.in_ok-insert.ensures.len
    ∙ ap (λ o. btree_map_len c.args.numbers.now + (if is_some o then 0 else 1)) none)
