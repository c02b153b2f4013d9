use Rattle.std.proofs.Common.{◌∙◌, [], ◌∷◌, ap}
use Rattle.sb_prism.specs.Kept.{without_loops}
use Rattle.sb_prism.proofs.sections.areas.area.Goals as goal

pub returns : goal.returns
returns c =
    let outer = c.in_ok-push_curve.ensures in
    let inner = c.in_ok-push_curves.ensures in (
      outer.0,
      inner.0,
      outer.1,
      inner.1,
      inner.2 (outer.0 ∷ []) (outer.2 [] (c.no_loops-contour.ensures ∙ ap without_loops c.none.ensures)),
    )
