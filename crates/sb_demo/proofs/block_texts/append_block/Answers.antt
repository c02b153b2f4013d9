-- The three parts of a block stand behind one another.
use Rattle.sb_demo.proofs.PartsInOrder.{three_parts}
use Rattle.sb_demo.proofs.block_texts.append_block.Goals as goal

pub returns : goal.returns
returns c =
    rw (← c.block_number-m.ensures, ← c.keyword.ensures, ← c.further_parameters.ensures)
    (three_parts _ _ _ _ _ _ _ _ c.in_ok-append_plan.ensures
    c.in_ok-append_solid.ensures c.append_product.ensures)
