use Rattle.sb_place.proofs.placed.placed_on.Goals as goal

pub returns : goal.returns
returns c = (
  c.in_ok-position.position,
  c.in_ok-position.ensures,
  λ links reached kept.
      c.under.ensures c.args.unit c.in_ok-position.position links reached c.told.ensures.value kept,
)
