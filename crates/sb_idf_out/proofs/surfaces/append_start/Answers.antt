use Rattle.sb_idf_out.proofs.surfaces.append_start.Goals as goal

pub returns : goal.returns
returns c = simp (c.surface_type.ensures, c.condition.ensures) at c.append_all.ensures.ok
