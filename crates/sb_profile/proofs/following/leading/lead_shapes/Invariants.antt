use Rattle.std.proofs.Common.{take}
use Rattle.sb_profile.specs.Steps.Found.{Leads}
use Rattle.sb_profile.specs.Steps.Read.{shapes_of}
use Rattle.sb_profile.proofs.following.leading.lead_shapes.Given as goal

abbrev pub invariant-products : goal.invariant-products
invariant-products l = Leads (shapes_of (take l.product-index l.products)) l.fn.found l.found
