use Rattle.std.proofs.Common.{sym, ◌∙◌, Ok, Err}
use Rattle.sb_place.specs.Chains as chain
use Rattle.sb_place.proofs.NearestIsRead.{nearest_stands, nearest_none, is_read, all_read, whole_is_few}
use Rattle.sb_place.specs.declared.error.PlaceError.TheVariants as place_error
use Rattle.sb_place.proofs.ChainsAreJudged.{whole_is}
use Rattle.sb_place.proofs.kept.Placed.frame.Goals as goal
use Rattle.sb_place.specs.Kept as spec
use Rattle.std.proofs.lemmas.Bool.{leb-true}

pub returns-in-Some-clause-read : goal.returns-in-Some-clause-read
returns-in-Some-clause-read c unit links reached kept =
    nearest_stands chain.broken_of (spec.read_of links) c.in-Some.broken (sym kept.broken ∙ c.in-Some.is)

pub returns-in-Some-absent-clause-read : goal.returns-in-Some-absent-clause-read
returns-in-Some-absent-clause-read c unit links reached kept = (
  nearest_none chain.broken_of (spec.read_of links) (sym kept.broken ∙ c.in_default.is),
  nearest_stands chain.absent_of (spec.read_of links) c.in-Some-absent.absent
      (sym kept.absent ∙ c.in-Some-absent.is),
)

pub returns-then-is_broken_off-clause-read : goal.returns-then-is_broken_off-clause-read
returns-then-is_broken_off-clause-read c unit links reached kept = (
  is_read links (sym kept.broken ∙ c.in_default.is) (sym kept.absent ∙ c.in_default-absent.is),
  sym (c.is_broken_off.ensures unit links reached kept) ∙ c.if-is_broken_off.true,
)

pub returns-then-self-clause-read : goal.returns-then-self-clause-read
returns-then-self-clause-read c unit links reached kept =
    let whole = sym (c.is_broken_off.ensures unit links reached kept) ∙ c.if-is_broken_off.false in
    let few = whole_is_few links reached whole in (
      is_read links (sym kept.broken ∙ c.in_default.is) (sym kept.absent ∙ c.in_default-absent.is),
      whole,
      rw (all_read links few) (sym kept.turned ∙ c.if-self.true),
    )

pub returns-then-is_out_of_range-clause-read : goal.returns-then-is_out_of_range-clause-read
returns-then-is_out_of_range-clause-read c unit links reached kept =
    let whole = sym (c.is_broken_off.ensures unit links reached kept) ∙ c.if-is_broken_off.false in
    let few = whole_is_few links reached whole in (
      is_read links (sym kept.broken ∙ c.in_default.is) (sym kept.absent ∙ c.in_default-absent.is),
      whole,
      rw (all_read links few) (sym kept.turned ∙ c.if-self.false),
      rw (all_read links few) (sym (c.is_out_of_range.ensures unit links reached kept
          (leb-true _ 64 few)) ∙ c.if-is_out_of_range.true),
    )

pub returns-clause-read : goal.returns-clause-read
returns-clause-read c unit links reached kept =
    let whole = sym (c.is_broken_off.ensures unit links reached kept) ∙ c.if-is_broken_off.false in
    let few = whole_is_few links reached whole in (
      is_read links (sym kept.broken ∙ c.in_default.is) (sym kept.absent ∙ c.in_default-absent.is),
      whole,
      rw (all_read links few) (sym kept.turned ∙ c.if-self.false),
      rw (all_read links few) (sym (c.is_out_of_range.ensures unit links reached kept
          (leb-true _ 64 few)) ∙ c.if-is_out_of_range.false),
      rw (all_read links few) (kept.frame (leb-true _ 64 few)),
    )

pub returns-in-Some-clause-whole : goal.returns-in-Some-clause-whole
returns-in-Some-clause-whole c indexed building placement unit is =
    whole_is indexed placement building unit c.args.self.now
    (Err (place_error.Fields c.in-Some.broken.number)) is
    (returns-in-Some-clause-read c unit is.links is.reached is.kept)

pub returns-in-Some-absent-clause-whole : goal.returns-in-Some-absent-clause-whole
returns-in-Some-absent-clause-whole c indexed building placement unit is =
    whole_is indexed placement building unit c.args.self.now
    (Err (place_error.Missing c.in-Some-absent.absent.number)) is
    (returns-in-Some-absent-clause-read c unit is.links is.reached is.kept)

pub returns-then-is_broken_off-clause-whole : goal.returns-then-is_broken_off-clause-whole
returns-then-is_broken_off-clause-whole c indexed building placement unit is =
    whole_is indexed placement building unit c.args.self.now
    (Err place_error.Chain) is
    (returns-then-is_broken_off-clause-read c unit is.links is.reached is.kept)

pub returns-then-self-clause-whole : goal.returns-then-self-clause-whole
returns-then-self-clause-whole c indexed building placement unit is =
    whole_is indexed placement building unit c.args.self.now
    (Err place_error.Turned) is
    (returns-then-self-clause-read c unit is.links is.reached is.kept)

pub returns-then-is_out_of_range-clause-whole : goal.returns-then-is_out_of_range-clause-whole
returns-then-is_out_of_range-clause-whole c indexed building placement unit is =
    whole_is indexed placement building unit c.args.self.now
    (Err place_error.Range) is
    (returns-then-is_out_of_range-clause-read c unit is.links is.reached is.kept)

pub returns-clause-whole : goal.returns-clause-whole
returns-clause-whole c indexed building placement unit is =
    whole_is indexed placement building unit c.args.self.now
    (Ok c.args.self.now.frame) is
    (returns-clause-read c unit is.links is.reached is.kept)
