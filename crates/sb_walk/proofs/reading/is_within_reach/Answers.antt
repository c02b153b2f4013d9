-- By its size.
use Rattle.std.proofs.Common.{rules, ◌≡◌, ◌∙◌, ap, ◌-ℤ◌, unsigned_abs, nat_le}
use Rattle.sb_walk.proofs.WalksRead.ReadAlong.{within_is}
use Rattle.sb_walk.proofs.reading.is_within_reach.Goals as goal

pub returns : goal.returns
returns c =
    let size : c.abs_diff.result ≡ unsigned_abs (c.args.to -ℤ c.args.from) = search rules in
    ap (λ n. nat_le n c.args.reach) size ∙ within_is c.args.reach (c.args.to -ℤ c.args.from)
