-- The pieces are those of the definition: signed values that are passed on keep their value.
use Rattle.std.proofs.Common.{rules, FitsSigned, w64}
use Rattle.std.proofs.lemmas.Int.{to_z-of_z}
use Rattle.sb_demo.specs.BlockTexts.{solid_text}
use Rattle.sb_demo.proofs.block_texts.append_solid.Goals as goal

pub returns : goal.returns
unfolding solid_text
returns c =
    let base : FitsSigned w64 c.args.block.now.base = search rules in
    let height : FitsSigned w64 c.args.block.now.height = search rules in
    simp to_z-of_z at c.append_all.ensures.ok
