-- The law is its lemma, at the type of the marks.
use Rattle.theory_patches.proofs.OneList.{has_law_of_patches, has_one_list_of_patches}
use Rattle.theory_patches.proofs.law_of_patches.Goals as goal

-- the same patches
pub returns-clause-same_patches : goal.returns-clause-same_patches
returns-clause-same_patches g c = has_law_of_patches _

-- each as often
pub returns-clause-one_list : goal.returns-clause-one_list
returns-clause-one_list g c = has_one_list_of_patches _
