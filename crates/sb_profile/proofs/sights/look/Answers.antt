use Rattle.sb_profile.proofs.TablesOfFiles.ViewsAreSights.{shown_all}
use Rattle.sb_profile.proofs.sights.look.Goals as goal

pub returns : goal.returns
returns g c =
    shown_all g.V.Seen.entity g.V.Seen.fields c.args.file.now c.args.number g.V.Seen.taking
    c.view-answer.result c.shown.result c.view-answer.ensures c.shown.ensures
