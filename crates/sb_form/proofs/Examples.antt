-- Worked numbers and forms: what the definitions accept and refuse.
use Rattle.std.proofs.Common.{◌≡◌, pos, negsuc, refl}
use Rattle.std.specs.Prelude.{codes}
use Rattle.std.specs.Fmt.{digits}
use Rattle.sb_form.specs.Numbers.{number_text}

zero : number_text (pos 0) ≡ codes "0."
unfolding digits
zero = refl

below_zero : number_text (negsuc 24) ≡ codes "-25."
unfolding digits
below_zero = refl

six_digits : number_text (pos 999999) ≡ codes "999999."
unfolding digits
six_digits = refl
