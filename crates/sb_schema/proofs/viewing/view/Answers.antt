use Rattle.std.proofs.Common.{subst}
use Rattle.sb_schema.specs.Steps.{IsBegun}
use Rattle.sb_schema.proofs.BegunIsTold.{told}
use Rattle.sb_schema.proofs.viewing.view.Goals as goal

pub returns : goal.returns
returns g c =
    told g.M.Memory.taking g.V.Entity.table_row g.V.Entity.fields c.args.file.now c.args.number
    c.in_ok-left.left c.read.result
    (subst (λ keywords. IsBegun keywords c.args.file.now c.args.number c.in_ok-left.left) c.requires
    c.in_ok-left.ensures)
    c.read.ensures
