-- One boundary more adds its entry, and at the end all are there.
use Rattle.std.proofs.Common.{◌≤◌, ◌∙◌, ◌++◌, ◌∷◌, [], map, length, ap, sym, arith}
use Rattle.std.proofs.lemmas.List.{map-append, take_all}
use Rattle.serde_json.specs.Data.{array}
use Rattle.serde_json.specs.View.{view, items_of}
use Rattle.serde_json.proofs.Views.{view-Array}
use Rattle.sb_report.specs.Report.{entries_from}
use Rattle.sb_report.proofs.OneMoreEntry.{entries_more}
use Rattle.sb_report.proofs.report.entries_value.Goals as goal

pub loop-index-preserved : goal.loop-index-preserved
loop-index-preserved c =
    ap (map view) c.in_ok-push.ensures.ok
    ∙ map-append view c.loop-index.values.items (c.in_ok-entry.entry ∷ [])
    ∙ ap (λ ds. ds ++ view c.in_ok-entry.entry ∷ []) c.loop-index.invariant
    ∙ sym
    (entries_more c.args.model.now c.args.bounds.now c.loop-index.index _ c.in_ok-entry.ensures)

pub returns : goal.returns
returns c =
    let past : length c.args.bounds.now ≤ c.loop-index.index = omega arith in
    let all = take_all c.loop-index.index c.args.bounds.now past in
    view-Array c.loop-index.values
    ∙ ap (λ ds. array (items_of ds))
    (c.loop-index.invariant ∙ ap (entries_from c.args.model.now 1) all)
