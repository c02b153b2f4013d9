use Rattle.std.proofs.Common.{refl, arith}
use Rattle.sb_ifc_out.specs.Guids.{guid_of}
use Rattle.sb_ifc_out.proofs.DigitsBelow.{turn, guid_is}
use Rattle.sb_ifc_out.proofs.guids.guid.Goals as goal

pub places-init : goal.places-init
places-init c = (omega arith, (refl, guid_is c.args.value))

pub places-preserved : goal.places-preserved
places-preserved c =
    turn c.places.place c.places.left c.digit.result c.places.text (guid_of c.args.value) c.places-test.true
    c.places.invariant.0 c.places.invariant.1.0 c.digit.ensures c.places.invariant.1.1
