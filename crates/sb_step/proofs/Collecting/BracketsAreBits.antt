-- There are as many parentheses as bits.
use Rattle.sb_step.proofs.Names.{◌≡◌, ℕ, zero, suc, ◌/◌, length, refl, ap, brackets_of}

-- the bits tell of so many
pub length-brackets_of : (len bits : ℕ) → length (brackets_of len bits) ≡ len
length-brackets_of zero bits = refl
length-brackets_of (suc len) bits = ap suc (length-brackets_of len (bits / 2))
