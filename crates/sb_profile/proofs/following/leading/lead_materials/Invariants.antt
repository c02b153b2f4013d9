use Rattle.std.proofs.Common.{take}
use Rattle.sb_profile.specs.Steps.Found.{Leads}
use Rattle.sb_profile.specs.Steps.Read.{materials_of}
use Rattle.sb_profile.proofs.following.leading.lead_materials.Given as goal

abbrev pub invariant-products : goal.invariant-products
invariant-products l =
    Leads (materials_of l.tables.materials l.tables.types (take l.product-index l.product-items))
    l.fn.found l.found
