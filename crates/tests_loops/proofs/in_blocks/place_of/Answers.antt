-- Any item may be tested.
use Rattle.std.proofs.Common.{◌≡◌, refl, ℕ, true, List, [], ◌∷◌}
use Rattle.std.specs.List.{list_all, concat}
use Rattle.tests_loops.proofs.in_blocks.place_of.Goals as goal

all_true : (xs : List ℕ) → list_all (λ x. true) xs ≡ true
all_true [] = refl
all_true (x ∷ xs) = all_true xs

pub first_failing-requires : goal.first_failing-requires
first_failing-requires c = all_true (concat c.args.blocks.now)
