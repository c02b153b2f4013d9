-- The text of a form is far shorter than the longest input.
use Rattle.std.proofs.Common.{◌≡◌, ◌≤◌, ◌+◌, ◌++◌, ℕ, ℤ, pos, negsuc, suc, List, length}
use Rattle.std.proofs.Common.{ap, arith, length-append, lit≤}
use Rattle.std.specs.Prelude.{decimal, codes}
use Rattle.std.proofs.lemmas.Fmt.{length-decimal-le}
use Rattle.sb_form.specs.Numbers.{IsShort, number_text}
use Rattle.sb_form.specs.FirstForm.{before_place, before_sizes, before_height, behind_height, comma}
use Rattle.sb_form.specs.declared.matcher.FirstForm.{FirstForm}
use Rattle.sb_shelf.specs.WholeTexts.{longest_input}
use Rattle.sb_run.specs.Promises.{IsSoundForm}

openings_are_short : length before_place + length before_sizes + length before_height
    + length behind_height ≤ 1000
unfolding before_place before_sizes before_height behind_height
openings_are_short = lit≤ tt

number_is_short : (n : ℤ) → IsShort n → length (number_text n) ≤ 8
number_is_short (pos n) short =
    let digits = length-decimal-le 6 n (omega arith) (omega arith) (omega arith) in
    rw (length-append (decimal n) (codes ".")) (omega arith)
number_is_short (negsuc n) short =
    let digits = length-decimal-le 6 (suc n) (omega arith) (omega arith) (omega arith) in
    rw (length-append (codes "-" ++ decimal (suc n)) (codes ".")) (omega arith)

length_of_form : (a c s h b x y z u v w : List ℕ)
    → length (a ++ (x ++ (c ++ (y ++ (c ++ (z ++ (s ++ (u ++ (c ++ (v ++ (h ++ (w ++ b))))))))))))
    ≡ length a + length x + length c + length y + length c + length z + length s
    + length u + length c + length v + length h + length w + length b
length_of_form a c s h b x y z u v w = simp length-append (omega arith)

-- the six numbers have at most eight bytes each, and what stands between them is fixed
pub sound_is_short : (form : FirstForm) (input : List ℕ) → IsSoundForm form input
    → length input ≤ longest_input
sound_is_short f input sound =
    let x = number_is_short f.x sound.spelled.short.0 in
    let y = number_is_short f.y sound.spelled.short.1 in
    let z = number_is_short f.z sound.spelled.short.2 in
    let size_x = number_is_short f.size_x sound.spelled.short.3 in
    let size_y = number_is_short f.size_y sound.spelled.short.4 in
    let height = number_is_short f.height sound.spelled.short.5 in
    let openings = openings_are_short in
    let long = ap length sound.spelled.spelled in
    let parts = length_of_form before_place comma before_sizes before_height behind_height
    (number_text f.x) (number_text f.y) (number_text f.z) (number_text f.size_x) (number_text f.size_y) (number_text f.height) in
    omega arith
