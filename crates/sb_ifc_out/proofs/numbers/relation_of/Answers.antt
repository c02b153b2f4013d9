-- The table has the line of each id.
use Rattle.std.proofs.Common.{Some, ap, length, nat_le}
use Rattle.std.proofs.lemmas.Bool.{and_parts, leb-true}
use Rattle.sb_ifc_out.proofs.NumbersOfLines.{line_of_id}
use Rattle.sb_ifc_out.proofs.numbers.relation_of.Goals as goal

pub returns-in-Some : goal.returns-in-Some
returns-in-Some c = λ f is.
    let table = c.args.relations.now in
    let id = c.in-Some.id in
    let within = rw c.in-Some.is at c.requires.within in
    let parts = and_parts (nat_le 1 id) (nat_le id (length table)) within in
    rw c.in-Some.is
    (ap Some (line_of_id f table id is (leb-true 1 id parts.0) (leb-true id (length table) parts.1)))
