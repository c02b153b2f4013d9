use Rattle.std.proofs.Common.{refl, rules, []}
use Rattle.sb_idf_out.proofs.materials.no_materials.Goals as goal

pub returns : goal.returns
returns c = λ m. ([], c.no_names.ensures m, refl, search rules, search rules)
