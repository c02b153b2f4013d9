-- What is passed to a call is itself, so each interval is the one of the form.
use Rattle.std.proofs.Common.{rules, FitsSigned, w32}
use Rattle.std.proofs.lemmas.Int.{to_z-of_z}
use Rattle.sb_form.proofs.NearIsInRange.{height_is_positive, heights_are_near}
use Rattle.sb_form.proofs.meaning.sound_extent.Goals as goal

pub interval_up-z0-requires-clause-shape : goal.interval_up-z0-requires-clause-shape
interval_up-z0-requires-clause-shape c =
    let height : FitsSigned w32 c.args.form.now.height = search rules in
    simp to_z-of_z (height_is_positive c.args.form.now c.requires.shape)

pub interval_up-z0-requires-clause-near : goal.interval_up-z0-requires-clause-near
interval_up-z0-requires-clause-near c =
    let height : FitsSigned w32 c.args.form.now.height = search rules in
    let z : FitsSigned w32 c.args.form.now.z = search rules in
    simp to_z-of_z (heights_are_near c.args.form.now c.requires.near)

pub returns : goal.returns
returns c =
    let x : FitsSigned w32 c.args.form.now.x = search rules in
    let y : FitsSigned w32 c.args.form.now.y = search rules in
    let z : FitsSigned w32 c.args.form.now.z = search rules in
    let size_x : FitsSigned w32 c.args.form.now.size_x = search rules in
    let size_y : FitsSigned w32 c.args.form.now.size_y = search rules in
    let height : FitsSigned w32 c.args.form.now.height = search rules in
    let x0 : FitsSigned w32 c.interval_about-x0.result.0 = search rules in
    let x1 : FitsSigned w32 c.interval_about-x0.result.1 = search rules in
    let y0 : FitsSigned w32 c.interval_about-y0.result.0 = search rules in
    let y1 : FitsSigned w32 c.interval_about-y0.result.1 = search rules in
    let z0 : FitsSigned w32 c.interval_up-z0.result.0 = search rules in
    let z1 : FitsSigned w32 c.interval_up-z0.result.1 = search rules in
    record {
      x0 = simp to_z-of_z (simp to_z-of_z at c.interval_about-x0.ensures.low);
      x1 = simp to_z-of_z (simp to_z-of_z at c.interval_about-x0.ensures.high);
      y0 = simp to_z-of_z (simp to_z-of_z at c.interval_about-y0.ensures.low);
      y1 = simp to_z-of_z (simp to_z-of_z at c.interval_about-y0.ensures.high);
      z0 = simp to_z-of_z (simp to_z-of_z at c.interval_up-z0.ensures.low);
      z1 = simp to_z-of_z (simp to_z-of_z at c.interval_up-z0.ensures.high);
    }
