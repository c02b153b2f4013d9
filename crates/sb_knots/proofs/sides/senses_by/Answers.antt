-- The corners are a listing, or two are at one point; what was swept are the senses.
use Rattle.std.proofs.Common.{sym, ap, ◌∙◌, subst, Ok, length, refl}
use Rattle.std.proofs.lemmas.Bool.{false≢true}
use Rattle.sb_knots.specs.Listing.{IsSwept}
use Rattle.sb_knots.proofs.ListingIsMade.{listing_is, fallen_is, swept_answers}
use Rattle.sb_knots.proofs.sides.senses_by.Goals as goal

pub returns-then-not-are_rising-clause-knot : goal.returns-then-not-are_rising-clause-knot
returns-then-not-are_rising-clause-knot c = (
  λ none.
      fallen_is c.args.loops.now c.args.corners.now c.requires.in_range c.requires.are
      c.requires.sorted (c.are_rising.ensures.fallen c.if-not-are_rising.true),
  λ knotted. refl,
)

pub returns-in-None-clause-knot : goal.returns-in-None-clause-knot
returns-in-None-clause-knot c = (
  λ none.
      c.sweep.ensures.knotted (c.in_ok-sweep.was ∙ ap Ok c.in-None.is) c.args.loops.now
      (listing_is c.args.loops.now c.args.corners.now c.requires.in_range c.requires.are
      c.requires.bent (c.are_rising.ensures.rising c.if-not-are_rising.false)),
  λ knotted. refl,
)

pub senses_of-requires-clause-count : goal.senses_of-requires-clause-count
senses_of-requires-clause-count c =
    let listing = listing_is c.args.loops.now c.args.corners.now c.requires.in_range c.requires.are
    c.requires.bent (c.are_rising.ensures.rising c.if-not-are_rising.false) in
    ap length c.as_slice.ensures.value
    ∙ (swept_answers c.args.loops.now c.args.corners.now c.in_ok-sweep.field-0 c.in-Some.lefts
    c.in-Some.is c.in_ok-sweep.ensures.swept listing).senses.count

pub returns-in_ok-senses-in-Some-clause-knot : goal.returns-in_ok-senses-in-Some-clause-knot
returns-in_ok-senses-in-Some-clause-knot c =
    let listing = listing_is c.args.loops.now c.args.corners.now c.requires.in_range c.requires.are
    c.requires.bent (c.are_rising.ensures.rising c.if-not-are_rising.false) in
    let swept = swept_answers c.args.loops.now c.args.corners.now c.in_ok-sweep.field-0
    c.in-Some.lefts c.in-Some.is c.in_ok-sweep.ensures.swept listing in (
      λ none. absurd cc,
      λ knotted. absurd (false≢true (sym knotted ∙ swept.apart)),
    )

pub returns-in_ok-senses-in-Some-clause-senses : goal.returns-in_ok-senses-in-Some-clause-senses
returns-in_ok-senses-in-Some-clause-senses c =
    let listing = listing_is c.args.loops.now c.args.corners.now c.requires.in_range c.requires.are
    c.requires.bent (c.are_rising.ensures.rising c.if-not-are_rising.false) in
    c.in_ok-senses-in-Some.ensures listing
    (subst (IsSwept c.args.loops.now c.args.corners.now) (sym c.as_slice.ensures.value)
    (swept_answers c.args.loops.now c.args.corners.now c.in_ok-sweep.field-0 c.in-Some.lefts
    c.in-Some.is c.in_ok-sweep.ensures.swept listing))
    c.requires.least
