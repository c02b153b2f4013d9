-- What is asked of a list is asked of the boundary at each place.
use Rattle.sb_ifc_out.proofs.NamedInModel.{named_at}
use Rattle.sb_ifc_out.proofs.places.boundary_at.Goals as goal

pub returns-clause-of_model : goal.returns-clause-of_model
returns-clause-of_model c = λ m all.
    named_at m c.args.bounds.now c.as_slice.result.now c.args.index c.index-as_slice-index.result
    c.requires c.as_slice.ensures c.index-as_slice-index.is all
