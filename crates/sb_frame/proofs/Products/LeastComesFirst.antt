-- Of three lists of products with rising numbers the one that begins with the least number has the
-- product that comes first in order.

use Rattle.std.proofs.Common.{◌≡◌, refl, sym, ap, ◌∙◌, arith, ℕ, ◌<◌, ◌≤◌, Bool, true}
use Rattle.std.proofs.Common.{false, ◌&&◌, nat_le, List, [], ◌∷◌, ◌++◌, map, Option, Some, None}
use Rattle.std.proofs.Common.{if◌then◌else◌, append_assoc, ap₂}
use Rattle.std.specs.List.{AllByRecursion}
use Rattle.std.proofs.lemmas.Bool.{and_parts, false≢true, le-leb, leb-true, leb-false}
use Rattle.std.proofs.lemmas.Option.{none-some}
use Rattle.theory_lists.specs.Members.{AllOfTwo}
use Rattle.theory_lists.proofs.Members.{all_follow}
use Rattle.theory_lists.proofs.Blocks.{all-append}
use Rattle.sb_model.specs.PlanEdges.{Product, placed, in_order}
use Rattle.theory_models.proofs.NumbersApart.{all_in_order, of_space, of_element, of_opening}
use Rattle.sb_model.specs.declared.products.Space.{Space}
use Rattle.sb_model.specs.declared.products.Element.{Element}
use Rattle.sb_model.specs.declared.products.Opening.{Opening}
use Rattle.sb_frame.specs.Owners.{queues, AreRising, products_in, head_of, is_up_to, kind_of}
use Rattle.sb_frame.specs.declared.owners.Kind.{Kind}
use Rattle.sb_frame.specs.declared.owners.Kind.TheVariants as kind

-- ---- one product before all others

le_test : (m n : ℕ) → m ≤ n → nat_le m n ≡ true
le_test m n most = le-leb m n most

gt_test : (m n : ℕ) → n < m → nat_le m n ≡ false
gt_test m n less = from (nat_le m n) refl
  where
    from : (b : Bool) → nat_le m n ≡ b → nat_le m n ≡ false
    from true is = absurd (let most = leb-true m n is in omega arith)
    from false is = is

placed_first : (p : Product) (qs : List Product) → AllByRecursion (λ q. p.number ≤ q.number) qs
    → placed p qs ≡ p ∷ qs
placed_first p [] least = refl
placed_first p (q ∷ qs) least = rw (le_test p.number q.number least.0) refl

placed_behind : (q p : Product) (ps : List Product) → p.number < q.number
    → placed q (p ∷ ps) ≡ p ∷ placed q ps
placed_behind q p ps less = rw (gt_test q.number p.number less) refl

-- the product with the least number comes first
least_first : (before after : List Product) (p : Product)
    → AllByRecursion (λ q. p.number < q.number) before
    → AllByRecursion (λ q. p.number ≤ q.number) after
    → in_order (before ++ p ∷ after) ≡ p ∷ in_order (before ++ after)
least_first [] after p lesser least =
    placed_first p (in_order after) (all_in_order (λ q. p.number ≤ q.number) after least)
least_first (q ∷ qs) after p lesser least =
    ap (placed q) (least_first qs after p lesser.1 least)
    ∙ placed_behind q p (in_order (qs ++ after)) lesser.0

-- ---- the first numbers of lists

up_to_trans : (a b c : Option ℕ) → is_up_to a b ≡ true → is_up_to b c ≡ true → is_up_to a c ≡ true
up_to_trans (Some l) (Some m) (Some n) first second =
    le_test l n (let one = leb-true l m first in let other = leb-true m n second in omega arith)
up_to_trans (Some l) b None first second = refl
up_to_trans (Some l) None (Some n) first second = absurd (false≢true second)
up_to_trans None (Some m) c first second = absurd (false≢true first)
up_to_trans None None (Some n) first second = absurd (false≢true second)
up_to_trans None None None first second = refl

up_to_total : (a b : Option ℕ) → is_up_to a b ≡ false → is_up_to b a ≡ true
up_to_total (Some m) (Some n) other =
    le_test n m (let more = leb-false m n other in omega arith)
up_to_total (Some m) None other = absurd (false≢true (sym other))
up_to_total None (Some n) other = refl
up_to_total None None other = absurd (false≢true (sym other))

to_none : (a : Option ℕ) → is_up_to a None ≡ true
to_none (Some m) = refl
to_none None = refl

from_none : (b : Option ℕ) → is_up_to None b ≡ true → b ≡ None
from_none (Some n) is = absurd (false≢true is)
from_none None is = refl

false_if_clash : (b : Bool) → (b ≡ true → ⊥) → b ≡ false
false_if_clash true clash = absurd (clash refl)
false_if_clash false clash = refl

both_hold : {a b : Bool} → a ≡ true → b ≡ true → (a && b) ≡ true
both_hold first second = rw (first, second) refl

module _ {X : Type 0} (number : X → ℕ) where
  all_up_to : (n : ℕ) (xs : List X) → is_up_to (Some n) (head_of number xs) ≡ true
      → AllOfTwo (λ x y. number x < number y) xs → AllByRecursion (λ x. n ≤ number x) xs
  all_up_to n [] first rising = tt
  all_up_to n (x ∷ xs) first rising =
      let least = leb-true n (number x) first in
      (least, all_follow (λ y less. later least less) xs rising.0)
    where
      later : {k l m : ℕ} → k ≤ l → l < m → k ≤ m
      later one other = omega arith

  all_before : (n : ℕ) (xs : List X) → is_up_to (head_of number xs) (Some n) ≡ false
      → AllOfTwo (λ x y. number x < number y) xs → AllByRecursion (λ x. n < number x) xs
  all_before n [] first rising = tt
  all_before n (x ∷ xs) first rising =
      let more = leb-false (number x) n first in
      (more, all_follow (λ y less. later more less) xs rising.0)
    where
      later : {k l m : ℕ} → k < l → l < m → k < m
      later one other = omega arith

  none_there : (xs : List X) → head_of number xs ≡ None → xs ≡ []
  none_there [] none = refl
  none_there (x ∷ xs) none = absurd (none-some (number x) (sym none))

-- ---- which list has the least number

record IsSpaceFirst (s e o : Option ℕ) : Type 0 where
  to_element : is_up_to s e ≡ true
  to_opening : is_up_to s o ≡ true

record IsElementFirst (s e o : Option ℕ) : Type 0 where
  from_space : is_up_to s e ≡ false
  to_opening : is_up_to e o ≡ true

record IsOpeningFirst (s e o : Option ℕ) : Type 0 where
  from_space : is_up_to s o ≡ false
  from_element : is_up_to e o ≡ false

abbrev chosen : Bool → Bool → Kind
chosen a b = if a then kind.Space else (if b then kind.Element else kind.Opening)

space_chosen : (a b : Bool) → chosen a b ≡ kind.Space → a ≡ true
space_chosen true b is = refl
space_chosen false true is = absurd cc
space_chosen false false is = absurd cc

element_chosen : (a b : Bool) → chosen a b ≡ kind.Element → (a ≡ false) × (b ≡ true)
element_chosen true b is = absurd cc
element_chosen false true is = (refl, refl)
element_chosen false false is = absurd cc

opening_chosen : (a b : Bool) → chosen a b ≡ kind.Opening → (a ≡ false) × (b ≡ false)
opening_chosen true b is = absurd cc
opening_chosen false true is = absurd cc
opening_chosen false false is = (refl, refl)

space_is_first : (s e o : Option ℕ) → kind_of s e o ≡ kind.Space → IsSpaceFirst s e o
space_is_first s e o is =
    let parts = and_parts (is_up_to s e) (is_up_to s o)
    (space_chosen (is_up_to s e && is_up_to s o) (is_up_to e o) is) in
    record { to_element = parts.0; to_opening = parts.1 }

element_is_first : (s e o : Option ℕ) → kind_of s e o ≡ kind.Element → IsElementFirst s e o
element_is_first s e o is =
    let tests = element_chosen (is_up_to s e && is_up_to s o) (is_up_to e o) is in
    record {
      from_space = false_if_clash (is_up_to s e) (λ up.
          false≢true (sym tests.0 ∙ both_hold up (up_to_trans s e o up tests.1)));
      to_opening = tests.1;
    }

opening_is_first : (s e o : Option ℕ) → kind_of s e o ≡ kind.Opening → IsOpeningFirst s e o
opening_is_first s e o is =
    let tests = opening_chosen (is_up_to s e && is_up_to s o) (is_up_to e o) is in
    record {
      from_space = false_if_clash (is_up_to s o) (λ up.
          from tests.0 tests.1 up (is_up_to s e) refl);
      from_element = tests.1;
    }
  where
    from : (is_up_to s e && is_up_to s o) ≡ false → is_up_to e o ≡ false → is_up_to s o ≡ true
        → (b : Bool) → is_up_to s e ≡ b → ⊥
    from neither other up true both = false≢true (sym neither ∙ both_hold both up)
    from neither other up false one =
        false≢true (sym other ∙ up_to_trans e s o (up_to_total s e one) up)

-- ---- the three lists

all_of : {X : Type 0} (made : X → Product) (P : Product → Type 0) (xs : List X)
    → AllByRecursion (λ x. P (made x)) xs → AllByRecursion P (map made xs)
all_of made P [] all = tt
all_of made P (x ∷ xs) all = (all.0, all_of made P xs all.1)

-- the spaces begin with the least number
pub space_first : (s : Space) (ss : List Space) (es : List Element) (os : List Opening)
    → AreRising (queues (s ∷ ss) es os)
    → kind_of (Some s.number) (head_of (λ e. e.number) es) (head_of (λ o. o.number) os) ≡ kind.Space
    → in_order (products_in (queues (s ∷ ss) es os))
    ≡ of_space s ∷ in_order (products_in (queues ss es os))
space_first s ss es os rising is =
    let first = space_is_first (Some s.number) (head_of (λ e. e.number) es)
    (head_of (λ o. o.number) os) is in
    least_first [] (map of_space ss ++ map of_element es ++ map of_opening os) (of_space s) tt
    (all-append (λ q. s.number ≤ q.number) (map of_space ss ++ map of_element es) (map of_opening os)
    (all-append (λ q. s.number ≤ q.number) (map of_space ss) (map of_element es)
    (all_of of_space (λ q. s.number ≤ q.number) ss
    (all_follow (λ t less. weak less) ss rising.spaces.0))
    (all_of of_element (λ q. s.number ≤ q.number) es
    (all_up_to (λ e. e.number) s.number es first.to_element rising.elements)))
    (all_of of_opening (λ q. s.number ≤ q.number) os
    (all_up_to (λ o. o.number) s.number os first.to_opening rising.openings)))
  where
    weak : {m n : ℕ} → m < n → m ≤ n
    weak less = omega arith

-- the elements do
pub element_first : (ss : List Space) (e : Element) (es : List Element) (os : List Opening)
    → AreRising (queues ss (e ∷ es) os)
    → kind_of (head_of (λ s. s.number) ss) (Some e.number) (head_of (λ o. o.number) os)
    ≡ kind.Element
    → in_order (products_in (queues ss (e ∷ es) os))
    ≡ of_element e ∷ in_order (products_in (queues ss es os))
element_first ss e es os rising is =
    let first = element_is_first (head_of (λ s. s.number) ss) (Some e.number)
    (head_of (λ o. o.number) os) is in
    ap in_order
    (append_assoc (map of_space ss) (of_element e ∷ map of_element es) (map of_opening os))
    ∙ least_first (map of_space ss) (map of_element es ++ map of_opening os) (of_element e)
    (all_of of_space (λ q. e.number < q.number) ss
    (all_before (λ s. s.number) e.number ss first.from_space rising.spaces))
    (all-append (λ q. e.number ≤ q.number) (map of_element es) (map of_opening os)
    (all_of of_element (λ q. e.number ≤ q.number) es
    (all_follow (λ t less. weak less) es rising.elements.0))
    (all_of of_opening (λ q. e.number ≤ q.number) os
    (all_up_to (λ o. o.number) e.number os first.to_opening rising.openings)))
    ∙ ap (λ ps. of_element e ∷ in_order ps)
    (sym (append_assoc (map of_space ss) (map of_element es) (map of_opening os)))
  where
    weak : {m n : ℕ} → m < n → m ≤ n
    weak less = omega arith

-- the openings do
pub opening_first : (ss : List Space) (es : List Element) (o : Opening) (os : List Opening)
    → AreRising (queues ss es (o ∷ os))
    → kind_of (head_of (λ s. s.number) ss) (head_of (λ e. e.number) es) (Some o.number)
    ≡ kind.Opening
    → in_order (products_in (queues ss es (o ∷ os)))
    ≡ of_opening o ∷ in_order (products_in (queues ss es os))
opening_first ss es o os rising is =
    let first = opening_is_first (head_of (λ s. s.number) ss) (head_of (λ e. e.number) es)
    (Some o.number) is in
    least_first (map of_space ss ++ map of_element es) (map of_opening os) (of_opening o)
    (all-append (λ q. o.number < q.number) (map of_space ss) (map of_element es)
    (all_of of_space (λ q. o.number < q.number) ss
    (all_before (λ s. s.number) o.number ss first.from_space rising.spaces))
    (all_of of_element (λ q. o.number < q.number) es
    (all_before (λ e. e.number) o.number es first.from_element rising.elements)))
    (all_of of_opening (λ q. o.number ≤ q.number) os
    (all_follow (λ t less. weak less) os rising.openings.0))
  where
    weak : {m n : ℕ} → m < n → m ≤ n
    weak less = omega arith

-- ---- a list that should have the least number and has none

-- then there is none at all
pub none_of_spaces : (es : List Element) (os : List Opening)
    → kind_of None (head_of (λ e. e.number) es) (head_of (λ o. o.number) os) ≡ kind.Space
    → products_in (queues [] es os) ≡ []
none_of_spaces es os is =
    let first = space_is_first None (head_of (λ e. e.number) es) (head_of (λ o. o.number) os) is in
    ap₂ (λ xs ys. map of_element xs ++ map of_opening ys)
    (none_there (λ e. e.number) es (from_none _ first.to_element))
    (none_there (λ o. o.number) os (from_none _ first.to_opening))

pub none_of_elements : (ss : List Space) (os : List Opening)
    → kind_of (head_of (λ s. s.number) ss) None (head_of (λ o. o.number) os) ≡ kind.Element → ⊥
none_of_elements ss os is =
    let first = element_is_first (head_of (λ s. s.number) ss) None (head_of (λ o. o.number) os) is in
    false≢true (sym first.from_space ∙ to_none (head_of (λ s. s.number) ss))

pub none_of_openings : (ss : List Space) (es : List Element)
    → kind_of (head_of (λ s. s.number) ss) (head_of (λ e. e.number) es) None ≡ kind.Opening → ⊥
none_of_openings ss es is =
    let first = opening_is_first (head_of (λ s. s.number) ss) (head_of (λ e. e.number) es) None is in
    false≢true (sym first.from_space ∙ to_none (head_of (λ s. s.number) ss))
