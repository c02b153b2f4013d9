-- A prefix is there, and what stands behind it, or it is not there.
use Rattle.std.proofs.lemmas.Bool.Decides.{Decides-eqb}
use Rattle.std.proofs.lemmas.Slice.Eq.{strip_prefix_is}
use Rattle.std.proofs.Common.{rules}
use Rattle.sb_form.proofs.number.behind.Goals as goal

pub returns : goal.returns
returns c =
    let cases =
    strip_prefix_is Decides-eqb c.args.bytes.now c.args.opening.now c.strip_prefix.result
    c.strip_prefix.ensures.cases in
    record { found = search (rules, cases); none = search (rules, cases) }
