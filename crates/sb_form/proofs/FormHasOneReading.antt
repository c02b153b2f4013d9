-- A text begins with openings and numbers in one way at most.
use Rattle.std.proofs.Common.{◌≡◌, ◌≢◌, ◌++◌, ◌∙◌, ℤ, List, ℕ, Option, Some, None, IfNone, sym}
use Rattle.std.proofs.lemmas.List.{append_cancel_left}
use Rattle.sb_form.specs.Numbers.{IsShort, number_text}
use Rattle.sb_form.specs.FirstForm.{IsFormOf, before_place, before_sizes, before_height}
use Rattle.sb_form.specs.FirstForm.{behind_height, comma}
use Rattle.sb_form.specs.ThreeNumbers.{AreThree}
use Rattle.sb_form.specs.declared.matcher.FirstForm.{FirstForm}
use Rattle.sb_form.proofs.NumbersEndAtTheirPoint.{number_next}

-- two readings of one text give the same number and the same rest
pub one_reading : (opening : List ℕ) (m n : ℤ) (r s t : List ℕ) → IsShort m → IsShort n
    → t ≡ opening ++ (number_text m ++ r) → t ≡ opening ++ (number_text n ++ s) → (m ≡ n) × (r ≡ s)
one_reading opening m n r s t left right first second =
    number_next m n r s left right (append_cancel_left opening _ _ (sym first ∙ second))

-- and the same rest behind three
pub one_reading_of_three : (first second third : List ℕ) (a b c d e f : ℤ) (r s t : List ℕ)
    → AreThree first second third a b c r t → AreThree first second third d e f s t → r ≡ s
one_reading_of_three first second third a b c d e f r s t one other =
    let behind_a =
    one_reading first a d _ _ t one.a_short other.a_short one.spelled other.spelled in
    let behind_b =
    number_next b e _ _ one.b_short other.b_short (append_cancel_left second _ _ behind_a.1) in
    (number_next c f _ _ one.c_short other.c_short (append_cancel_left third _ _ behind_b.1)).1

-- a form begins with the place, in three numbers
pub form_begins : (f : FirstForm) (bytes : List ℕ) → IsFormOf f bytes
    → AreThree before_place comma comma f.x f.y f.z
    (before_sizes ++ (number_text f.size_x ++ (comma ++ (number_text f.size_y
    ++ (before_height ++ (number_text f.height ++ behind_height))))))
    bytes
form_begins f bytes form =
    record {
      a_short = form.short.0;
      b_short = form.short.1;
      c_short = form.short.2;
      spelled = form.spelled;
    }

-- and goes on with the sizes
pub form_goes_on : (f : FirstForm) (a b c : ℤ) (bytes rest : List ℕ) → IsFormOf f bytes
    → AreThree before_place comma comma a b c rest bytes
    → AreThree before_sizes comma before_height f.size_x f.size_y f.height behind_height rest
form_goes_on f a b c bytes rest form begins =
    record {
      a_short = form.short.3;
      b_short = form.short.4;
      c_short = form.short.5;
      spelled =
          one_reading_of_three before_place comma comma a b c f.x f.y f.z rest _ bytes begins
          (form_begins f bytes form);
    }

-- where no number follows the opening, none follows it in the whole text
pub none_behind : {X : Type 0} (r : Option X) (opening bytes rest : List ℕ)
    → bytes ≡ opening ++ rest
    → IfNone r ((n : ℤ) (s : List ℕ) → IsShort n → rest ≢ number_text n ++ s)
    → IfNone r ((n : ℤ) (s : List ℕ) → IsShort n → bytes ≢ opening ++ (number_text n ++ s))
none_behind None opening bytes rest split none =
    λ n s short same. none n s short (append_cancel_left opening _ _ (sym split ∙ same))
none_behind (Some x) opening bytes rest split none = none

-- the three numbers are the same too
pub same_three : (first second third : List ℕ) (a b c d e f : ℤ) (r s t : List ℕ)
    → AreThree first second third a b c r t → AreThree first second third d e f s t
    → (a ≡ d) × (b ≡ e) × (c ≡ f)
same_three first second third a b c d e f r s t one other =
    let behind_a =
    one_reading first a d _ _ t one.a_short other.a_short one.spelled other.spelled in
    let behind_b =
    number_next b e _ _ one.b_short other.b_short (append_cancel_left second _ _ behind_a.1) in
    let behind_c =
    number_next c f _ _ one.c_short other.c_short (append_cancel_left third _ _ behind_b.1) in
    (behind_a.0, behind_b.0, behind_c.0)

form : ℤ → ℤ → ℤ → ℤ → ℤ → ℤ → FirstForm
form x y z size_x size_y height =
    record { x = x; y = y; z = z; size_x = size_x; size_y = size_y; height = height }

-- a text has one form at most
pub form_is_one : (f g : FirstForm) (bytes : List ℕ) → IsFormOf f bytes → IsFormOf g bytes → g ≡ f
unfolding form
form_is_one f g bytes one other =
    let place =
    same_three before_place comma comma g.x g.y g.z f.x f.y f.z _ _ bytes
    (form_begins g bytes other) (form_begins f bytes one) in
    let sizes =
    same_three before_sizes comma before_height g.size_x g.size_y g.height f.size_x f.size_y
    f.height _ _ _
    (form_goes_on g f.x f.y f.z bytes _ other (form_begins f bytes one))
    (form_goes_on f f.x f.y f.z bytes _ one (form_begins f bytes one)) in
    let same : form g.x g.y g.z g.size_x g.size_y g.height
    ≡ form f.x f.y f.z f.size_x f.size_y f.height =
    cc (place.0, place.1, place.2, sizes.0, sizes.1, sizes.2) in
    same
