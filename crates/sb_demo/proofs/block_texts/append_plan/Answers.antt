-- The pieces are those of the definition: signed values that are passed on keep their value.
use Rattle.std.proofs.Common.{rules, FitsSigned, w64}
use Rattle.std.proofs.lemmas.Int.{to_z-of_z}
use Rattle.sb_demo.specs.BlockTexts.{plan_text}
use Rattle.sb_demo.proofs.block_texts.append_plan.Goals as goal

pub returns : goal.returns
unfolding plan_text
returns c =
    let x : FitsSigned w64 c.args.block.now.x = search rules in
    let y : FitsSigned w64 c.args.block.now.y = search rules in
    let size_x : FitsSigned w64 c.args.block.now.size_x = search rules in
    let size_y : FitsSigned w64 c.args.block.now.size_y = search rules in
    simp to_z-of_z at c.append_all.ensures.ok
