use Rattle.sb_model.proofs.building.material_in.Goals as goal

pub returns-in-Layered : goal.returns-in-Layered
returns-in-Layered c = rw c.in-Layered.is c.material_at.ensures
