-- The list of the form's box can be reported and counted, and is that of the model.
use Rattle.std.proofs.Common.{◌≤◌, arith}
use Rattle.sb_box.specs.BoxList.{box_patches}
use Rattle.sb_form.specs.Meaning.{space_number}
use Rattle.sb_run.proofs.BoxListRises.{box_boundaries_rise}
use Rattle.sb_run.proofs.BoxListIsReportable.{box_list_is_of_model}
use Rattle.sb_run.proofs.FormIsBox.{form_is_box}
use Rattle.sb_run.proofs.judgement.made_ready.Goals as goal

pub report_text-requires : goal.report_text-requires
report_text-requires c =
    let list = c.in_ok-list.list in
    record {
      of_model = rw c.in_ok-model.ensures
          (box_list_is_of_model c.args.form.now c.args.extent.now list c.in_ok-list.ensures.list);
    }

pub done_text-requires : goal.done_text-requires
done_text-requires c =
    let zero : 0 ≤ space_number = omega arith in
    let patches = box_patches c.args.extent.now in
    box_boundaries_rise 0 space_number patches c.in_ok-list.list zero c.in_ok-list.ensures.list

pub returns-clause-list : goal.returns-clause-list
returns-clause-list c =
    let is_box = form_is_box c.args.form.now c.args.extent.now in
    record {
      is_extent = c.requires.extent;
      sound = c.in_ok-list.ensures.sound _ is_box;
      in_order = c.in_ok-list.ensures.in_order;
      is_list = c.in_ok-list.ensures.list;
    }
