-- What is answered of a taken product is no instance that is not read.
use Rattle.std.proofs.Common.{◌≡◌, ℕ, true}
use Rattle.theory_lists.proofs.Members.{all_stands}
use Rattle.sb_fraction.specs.declared.unit.Unit as units
use Rattle.sb_step.specs.Indexed.{Indexed}
use Rattle.sb_step.specs.Params.Parameters.{ParametersAreUnique}
use Rattle.sb_model.specs.declared.frame.Frame.{Frame}
use Rattle.sb_place.specs.Chains.{broken_of, absent_of, numbers_in}
use Rattle.sb_prism.specs.Faults.{in_shape}
use Rattle.sb_prism.specs.Faults.Fault.{not_of_row, not_there}
use Rattle.sb_profile.specs.Contents.{Contents, Says}
use Rattle.sb_profile.specs.Products.{is_taken}
use Rattle.sb_building.specs.Laws.{FramesAreRead, PrismsAreRead}
use Rattle.sb_building.proofs.Followed.SeenWhereFollowed.{IsDefect}
use Rattle.sb_building.proofs.Followed.ChainsAreFollowed.{chain_of_product}
use Rattle.sb_building.proofs.Followed.ShapesAreFollowed.{shape_of_product}

module _ (unique : ParametersAreUnique) (indexed : Indexed) (c : Contents) (u : units.Unit) (p n : ℕ)
    (says : Says indexed c) (taken : is_taken c p ≡ true) where
  pub frames_are_read : FramesAreRead indexed c u p n
  frames_are_read = record {
    unfit = λ (links, reached, chains, stands).
        all_stands (IsDefect c not_of_row) n (numbers_in broken_of links)
        (chain_of_product unique indexed c says not_of_row p links reached taken chains) stands;
    absent = λ (links, reached, chains, (whole, stands)).
        all_stands (IsDefect c not_there) n (numbers_in absent_of links)
        (chain_of_product unique indexed c says not_there p links reached taken chains) stands;
  }

  pub prisms_are_read : (f : Frame) → PrismsAreRead indexed c u f p n
  prisms_are_read f = record {
    unfit = λ (shape, is, (s, sees, stands)).
        all_stands (IsDefect c not_of_row) n (in_shape not_of_row s)
        (shape_of_product unique indexed c says not_of_row p shape s taken is sees) stands;
    absent = λ (shape, is, (s, sees, (whole, stands))).
        all_stands (IsDefect c not_there) n (in_shape not_there s)
        (shape_of_product unique indexed c says not_there p shape s taken is sees) stands;
  }
