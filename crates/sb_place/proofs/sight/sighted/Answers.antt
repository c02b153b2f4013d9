use Rattle.sb_place.proofs.ViewsAreSeen.{views_are_seen}
use Rattle.sb_place.proofs.sight.sighted.Goals as goal

pub returns-clause-seen : goal.returns-clause-seen
returns-clause-seen g c taking row fields indexed n views =
    views_are_seen taking row fields indexed n c.args.view c.seen_by.result views c.seen_by.ensures
