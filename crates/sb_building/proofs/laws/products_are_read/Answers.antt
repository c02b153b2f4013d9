use Rattle.sb_building.proofs.Followed.ProductsAreRead.{frames_are_read, prisms_are_read}
use Rattle.sb_building.proofs.laws.products_are_read.Goals as goal

pub returns : goal.returns
returns c = λ indexed said u p n says taken.
    let unique = c.one_list_of_parameters.ensures.unique in (
      frames_are_read unique indexed said u p n says taken,
      λ f. prisms_are_read unique indexed said u p n says taken f,
    )
