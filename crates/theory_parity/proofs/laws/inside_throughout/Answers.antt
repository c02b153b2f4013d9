-- The laws are their lemmas.
use Rattle.theory_parity.proofs.Regions.InsideThroughout.{inside_throughout}
use Rattle.theory_parity.proofs.Regions.RegionIsFourHalves.{region_inside_throughout}
use Rattle.theory_parity.proofs.Regions.RegionIsFourHalves.{region_inside_throughout_off_sides}
use Rattle.theory_parity.proofs.laws.inside_throughout.Goals as goal

-- an intersection of half-planes
pub returns-clause-halves : goal.returns-clause-halves
returns-clause-halves g loops cuts halves plan cuts_in inside =
    inside_throughout loops plan cuts halves cuts_in inside

-- a region
pub returns-clause-region : goal.returns-clause-region
returns-clause-region g loops d r cuts plan cuts_in inside =
    region_inside_throughout loops plan d r cuts cuts_in inside

-- off abscissae and sides
pub returns-clause-off_sides : goal.returns-clause-off_sides
returns-clause-off_sides g loops d r abscissae cuts plan d_is abscissae_in cuts_in inside =
    region_inside_throughout_off_sides loops plan d r abscissae cuts d_is abscissae_in cuts_in inside
