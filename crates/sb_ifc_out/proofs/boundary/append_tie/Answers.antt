-- The relation says what the definition says, part by part.
use Rattle.sb_ifc_out.proofs.boundary.append_tie.Goals as goal

pub returns : goal.returns
returns c = λ global_id holds.
    rw (
      c.in_ok-identifier.ensures global_id holds,
      c.virtual_lines.ensures.value,
      c.type_name.ensures,
      c.from.ensures,
      c.element_number.ensures,
      c.physical_name.ensures,
      c.outside_name.ensures,
      c.is_opening_key-is_open.ensures,
      c.requires.element_is,
    ) at c.append_relation.ensures
