use Rattle.sb_profile.proofs.TablesOfFiles.UnitsAreCounted.{params_are}
use Rattle.sb_profile.proofs.reading.units.parameters.Goals as goal

pub returns-clause-some : goal.returns-clause-some
returns-clause-some c =
    params_are c.one_list_of_parameters.ensures.unique c.args.file.now c.args.number c.cursor.result
    c.cursor.ensures.parameters
