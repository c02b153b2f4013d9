use Rattle.sb_layers.proofs.SignedAxesAreAxes.{signed_is_axis}
use Rattle.sb_layers.proofs.axis.numbered.Goals as goal

pub returns-in-1-clause-is_axis : goal.returns-in-1-clause-is_axis
returns-in-1-clause-is_axis c =
    signed_is_axis c.local_axes-local.result.x c.local_axes-local.ensures.x_signed

pub returns-in_default-clause-is_axis : goal.returns-in_default-clause-is_axis
returns-in_default-clause-is_axis c =
    signed_is_axis c.local_axes-local.result.z c.local_axes-local.ensures.z_signed
