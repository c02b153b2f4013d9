-- The pieces are those of the definition.
use Rattle.sb_ifc_out.specs.Lines.{relation_body}
use Rattle.sb_ifc_out.proofs.relation.append_relation.Goals as goal

pub returns : goal.returns
unfolding relation_body
returns c = rw (c.reference_or_null.ensures, c.reference_or_null-2.ensures) at c.append_line.ensures
