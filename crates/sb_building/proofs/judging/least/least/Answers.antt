use Rattle.std.proofs.Common.{Some, [], ◌∷◌, ◌++◌, sym, subst}
use Rattle.sb_building.specs.Steps.Least.{IsLeastOf}
use Rattle.sb_building.proofs.Conditions.LeastIsFirst.{least_more}
use Rattle.sb_building.proofs.judging.least.least.Goals as goal

pub returns-in-Some : goal.returns-in-Some
returns-in-Some c = λ seen before.
    subst (λ d. IsLeastOf (seen ++ (c.args.number, c.args.code) ∷ []) (Some d)) (sym c.lesser.ensures)
    (least_more seen c.in-Some.defect (record { number = c.args.number; code = c.args.code })
    (subst (IsLeastOf seen) c.in-Some.is before))
