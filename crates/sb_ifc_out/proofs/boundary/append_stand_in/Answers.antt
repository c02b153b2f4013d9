-- Where there is no element, a virtual one stands in for it.
use Rattle.sb_ifc_out.proofs.boundary.append_stand_in.Goals as goal

pub returns-in_ok-virtual_identifier-in-None : goal.returns-in_ok-virtual_identifier-in-None
returns-in_ok-virtual_identifier-in-None c = λ global_id holds.
    rw c.in-None.is
    (rw (c.in_ok-virtual_identifier-in-None.ensures global_id holds) at c.append_virtual.ensures)
