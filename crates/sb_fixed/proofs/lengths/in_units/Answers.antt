use Rattle.std.proofs.Common.{◌≡◌, refl, ℕ, ◌+◌, ◌/◌, List, rules, sym, ap, ap₂, ◌∙◌, arith, true≢false, unsigned_abs, FitsSigned}
use Rattle.std.proofs.lemmas.Int.{to_z-of_z}
use Rattle.std.specs.Int.{w128}
use Rattle.sb_fixed.specs.Decimals.{has_minus, signed, decimal_of}
use Rattle.sb_fixed.specs.Rounding.{scaled, rounded}
use Rattle.sb_fixed.specs.Steps.{tenths_of}
use Rattle.sb_fixed.proofs.HeldBack.{beyond_held, within_held}
use Rattle.sb_fixed.proofs.RoundedByTenths.{size_of_signed}
use Rattle.sb_fixed.proofs.TenthsOfText.{rounded_by_tenths}
use Rattle.sb_fixed.proofs.lengths.in_units.Goals as goal

-- the size of what is rounded, in tenths
size_is : (text : List ℕ) (places : ℕ)
    → unsigned_abs (rounded (scaled places (decimal_of text)))
    ≡ (tenths_of (scaled places (decimal_of text)) + 5) / 10
size_is text places =
    ap unsigned_abs (rounded_by_tenths text places) ∙ size_of_signed (has_minus text) _

pub returns-then-size-greatest-clause-out_of_range :
    goal.returns-then-size-greatest-clause-out_of_range
returns-then-size-greatest-clause-out_of_range c =
    let size = size_is c.args.text.now c.args.places in
    let over = beyond_held _ _ c.args.greatest c.tenths.ensures c.if-size-greatest.true in
    (λ yes. omega (arith, size, over), λ more. refl)

pub returns-clause-ok : goal.returns-clause-ok
returns-clause-ok c =
    let text = c.args.text.now in
    let places = c.args.places in
    let fits : FitsSigned w128 c.with_sign.result = search rules in
    to_z-of_z w128 c.with_sign.result fits ∙ c.with_sign.ensures
    ∙ ap₂ signed c.has_minus.ensures
    (within_held _ _ c.args.greatest c.requires.in_reach c.tenths.ensures c.if-size-greatest.false)
    ∙ sym (rounded_by_tenths text places)

pub returns-clause-out_of_range : goal.returns-clause-out_of_range
returns-clause-out_of_range c =
    let size = size_is c.args.text.now c.args.places in
    let same = within_held _ _ c.args.greatest c.requires.in_reach c.tenths.ensures
    c.if-size-greatest.false in
    (λ no. absurd (true≢false (sym no)), λ over. absurd (omega (arith, size, same, over)))
