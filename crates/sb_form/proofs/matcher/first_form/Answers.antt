-- The parts of the text follow one another in one way.
use Rattle.std.proofs.Common.{◌≡◌, ◌∙◌, sym, true, rules}
use Rattle.std.proofs.lemmas.Slice.Eq.{bytes_eq-Decides}
use Rattle.sb_form.specs.FirstForm.{before_sizes, before_height, behind_height, comma}
use Rattle.sb_form.proofs.FormHasOneReading.{form_goes_on, form_is_one, one_reading_of_three}
use Rattle.sb_form.proofs.matcher.first_form.Goals as goal

pub returns-in_err-size_x-clause-none : goal.returns-in_err-size_x-clause-none
returns-in_err-size_x-clause-none c = rw c.from_residual-in_err-size_x.ensures (λ form spelled.
    let begins = rw c.place_opening.ensures at c.in_ok-x.ensures.found in
    c.in_err-size_x.ensures.none form.size_x form.size_y form.height behind_height
    (rw (c.sizes_opening.ensures, c.height_opening.ensures)
    (form_goes_on form _ _ _ _ _ spelled begins)))

pub returns-else-eq-clause-none : goal.returns-else-eq-clause-none
returns-else-eq-clause-none c form spelled =
    let begins = rw c.place_opening.ensures at c.in_ok-x.ensures.found in
    let sizes =
    rw (c.sizes_opening.ensures, c.height_opening.ensures) at c.in_ok-size_x.ensures.found in
    let ends =
    one_reading_of_three before_sizes comma before_height _ _ _ _ _ _ _ _ _ sizes
    (form_goes_on form _ _ _ _ _ spelled begins) in
    let equal : c.eq.result ≡ true =
    c.eq.ensures ∙ (bytes_eq-Decides _ _).1 (ends ∙ sym c.closing.ensures) in
    cc (equal, c.if-eq.false)

pub returns-then-eq-clause-sole : goal.returns-then-eq-clause-sole
returns-then-eq-clause-sole c other spelled =
    form_is_one _ other c.args.bytes.now (search rules) spelled
