use Rattle.std.proofs.Common.{◌∙◌, sym, ap, IsTrue, subst}
use Rattle.std.specs.Int.{int_min, int_max}
use Rattle.std.specs.List.{list_all, fold}
use Rattle.sb_fraction.specs.Plane.{is_plan_point}
use Rattle.theory_plans.specs.Plans.{is_plan}
use Rattle.theory_plans.proofs.LoopsInRange.{points_in_range}
use Rattle.sb_model.specs.Labels.{axis_vector, readings_of, first_of}
use Rattle.sb_model.proofs.FirstReadings.{least-again, greatest-again}
use Rattle.sb_model.proofs.extent.extent_of.Goals as goal

pub over_loops-requires-clause-loops_in : goal.over_loops-requires-clause-loops_in
over_loops-requires-clause-loops_in c =
    subst (λ l. IsTrue (list_all (list_all is_plan_point) l)) (sym c.as_slice-points.ensures)
    (points_in_range c.points.result.now
    (subst (λ l. IsTrue (is_plan l)) (sym c.points.ensures.value) c.points.ensures.is_plan))

pub returns-clause-low : goal.returns-clause-low
returns-clause-low c =
    c.over_loops.ensures.low
    ∙ ap (λ t. fold int_min t (readings_of c.args.prism.now (axis_vector c.args.along) c.as_slice-points.result.now))
    c.first_extent.ensures.low
    ∙ ap (λ l. fold int_min (first_of (readings_of c.args.prism.now (axis_vector c.args.along) c.args.prism.now.loops))
    (readings_of c.args.prism.now (axis_vector c.args.along) l))
    (c.as_slice-points.ensures ∙ c.points.ensures.value ∙ c.loops.ensures.value)
    ∙ least-again (readings_of c.args.prism.now (axis_vector c.args.along) c.args.prism.now.loops)

pub returns-clause-high : goal.returns-clause-high
returns-clause-high c =
    c.over_loops.ensures.high
    ∙ ap (λ t. fold int_max t (readings_of c.args.prism.now (axis_vector c.args.along) c.as_slice-points.result.now))
    c.first_extent.ensures.high
    ∙ ap (λ l. fold int_max (first_of (readings_of c.args.prism.now (axis_vector c.args.along) c.args.prism.now.loops))
    (readings_of c.args.prism.now (axis_vector c.args.along) l))
    (c.as_slice-points.ensures ∙ c.points.ensures.value ∙ c.loops.ensures.value)
    ∙ greatest-again (readings_of c.args.prism.now (axis_vector c.args.along) c.args.prism.now.loops)
