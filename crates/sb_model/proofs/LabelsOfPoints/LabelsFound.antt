-- The label of a point by the first space and the first element that contain it.

use Rattle.std.proofs.Common.{ℕ, ℤ, pos, arith, ◌≡◌, ◌*ℤ◌, Bool, true, false, ◌&&◌, List, [], ◌∷◌, Option, Some, None, if◌then◌else◌, refl, ap, sym, ◌∙◌, subst, int_lt, IsTrue, is_none}
use Rattle.std.specs.List.{find, list_all}
use Rattle.std.specs.Option.{option_map}
use Rattle.std.proofs.lemmas.Bool.{and_parts}
use Rattle.theory_numbers.specs.Fractions.{Ratio}
use Rattle.theory_numbers.proofs.Signs.{less_from}
use Rattle.theory_numbers.proofs.Multiples.{order_of_multiples}
use Rattle.theory_numbers.proofs.Shapes.{var, times, equal}
use Rattle.sb_fraction.specs.declared.point.HPoint.{HPoint}
use Rattle.sb_fraction.specs.Spots.{Spot}
use Rattle.sb_points.specs.Places.{spot_over}
use Rattle.sb_model.specs.declared.labels.label.Label.TheVariants as label
use Rattle.sb_model.specs.declared.products.Space.{Space}
use Rattle.sb_model.specs.declared.products.Element.{Element}
use Rattle.sb_model.specs.Solids.{is_in_solid}
use Rattle.sb_model.specs.Building.{Building, is_building, is_in_range, is_layering, is_ground_height, is_reach, is_shift, first_bad}
use Rattle.sb_model.specs.Labels.{label_at, space_at, element_at, space_label, element_label, open_label, layer_at}
use Rattle.sb_model.proofs.FoundByNumber.{spaces_right, elements_right}
use Rattle.sb_model.proofs.FirstThatPasses.{lowest_is_first}

first_space : (m : Building) (q : Spot) → IsTrue (is_building m)
    → space_at m q ≡ find (λ s. is_in_solid s.prism q) m.spaces
first_space m q sound =
    lowest_is_first (λ (s : Space). s.number) _ (λ s. is_in_solid s.prism q) 0 m.spaces (spaces_right m sound)

first_element : (m : Building) (q : Spot) → IsTrue (is_building m)
    → element_at m q ≡ find (λ e. is_in_solid e.prism q) m.elements
first_element m q sound =
    lowest_is_first (λ (e : Element). e.number) _ (λ e. is_in_solid e.prism q) 0 m.elements (elements_right m sound)

-- where a space contains the point
pub in_space : (m : Building) (q : Spot) → IsTrue (is_building m) → (spaces : List Space) → spaces ≡ m.spaces
    → (number : ℕ) → option_map (λ (s : Space). s.number) (find (λ s. is_in_solid s.prism q) spaces) ≡ Some number
    → label.Space number ≡ label_at m q
in_space m q sound spaces same number found =
    by_space (find (λ s. is_in_solid s.prism q) spaces) found
    ∙ ap (space_label m q) (ap (find (λ s. is_in_solid s.prism q)) same ∙ sym (first_space m q sound))
  where
    by_space : (o : Option Space) → option_map (λ (s : Space). s.number) o ≡ Some number
        → label.Space number ≡ space_label m q o
    by_space None e = absurd (cc)
    by_space (Some s) e = ap label.Space (sym (some_is s e))
      where
        some_is : (s : Space) → Some s.number ≡ Some number → s.number ≡ number
        some_is s e = cc

none_in : (m : Building) (q : Spot) → IsTrue (is_building m) → (spaces : List Space) → spaces ≡ m.spaces
    → option_map (λ (s : Space). s.number) (find (λ s. is_in_solid s.prism q) spaces) ≡ None
    → space_at m q ≡ None
none_in m q sound spaces same found =
    first_space m q sound ∙ sym (ap (find (λ s. is_in_solid s.prism q)) same)
    ∙ by_space (find (λ s. is_in_solid s.prism q) spaces) found
  where
    by_space : (o : Option Space) → option_map (λ (s : Space). s.number) o ≡ None → o ≡ None
    by_space None e = refl
    by_space (Some s) e = absurd (cc)

-- where none does but an element
pub in_element : (m : Building) (q : Spot) → IsTrue (is_building m) → (spaces : List Space) → spaces ≡ m.spaces
    → option_map (λ (s : Space). s.number) (find (λ s. is_in_solid s.prism q) spaces) ≡ None
    → (elements : List Element) → elements ≡ m.elements → (e : Element)
    → Some e ≡ find (λ e. is_in_solid e.prism q) elements
    → label.Element e.number (layer_at e.prism e.layering q) ≡ label_at m q
in_element m q sound spaces same none elements same_elements e found =
    ap (element_label m.ground_height q)
    (found ∙ ap (find (λ e. is_in_solid e.prism q)) same_elements ∙ sym (first_element m q sound))
    ∙ ap (space_label m q) (sym (none_in m q sound spaces same none))

-- and where neither does
pub in_the_open : (m : Building) (q : Spot) → IsTrue (is_building m) → (spaces : List Space) → spaces ≡ m.spaces
    → option_map (λ (s : Space). s.number) (find (λ s. is_in_solid s.prism q) spaces) ≡ None
    → (elements : List Element) → elements ≡ m.elements
    → None ≡ find (λ (e : Element). is_in_solid e.prism q) elements
    → open_label m.ground_height q ≡ label_at m q
in_the_open m q sound spaces same none elements same_elements found =
    ap (element_label m.ground_height q)
    (found ∙ ap (find (λ e. is_in_solid e.prism q)) same_elements ∙ sym (first_element m q sound))
    ∙ ap (space_label m q) (sym (none_in m q sound spaces same none))

-- ---- the layers of what is found

all_found : {X : Type 0} (test passes : X → Bool) (xs : List X) (x : X) → list_all passes xs ≡ true
    → Some x ≡ find test xs → passes x ≡ true
all_found test passes [] x all found = absurd (cc)
all_found {X = X} test passes (y ∷ ys) x all found =
    let parts = and_parts (passes y) (list_all passes ys) all in
    by_test (test y) parts.0 (all_found test passes ys x parts.1) found
  where
    by_test : (b : Bool) → passes y ≡ true → (Some x ≡ find test ys → passes x ≡ true)
        → Some x ≡ (if b then Some y else find test ys) → passes x ≡ true
    by_test true here rest e = subst (λ t. passes t ≡ true) (some_is e) here
      where
        some_is : Some x ≡ Some y → y ≡ x
        some_is e = cc
    by_test false here rest e = rest e

-- an element of a model has right layers
pub found_layering : (m : Building) (test : Element → Bool) → IsTrue (is_building m) → (elements : List Element)
    → elements ≡ m.elements → (e : Element) → Some e ≡ find test elements → IsTrue (is_layering e.layering)
found_layering m test sound elements same e found =
    let range = (and_parts (is_in_range m) (is_none (first_bad m)) sound).0 in
    let layerings = (and_parts (is_ground_height m.ground_height && is_reach m.reach
    && list_all (λ s. is_shift s.frame.shift) m.spaces) (list_all (λ e. is_layering e.layering) m.elements) range).1 in
    all_found test (λ e. is_layering e.layering) m.elements e layerings (found ∙ ap (find test) same)

-- ---- below the ground or not

-- a point over p lies below the ground where its height does
pub open-over : (level : ℤ) (p : HPoint) (z : Ratio)
    → (if int_lt z.num (level *ℤ z.den) then label.Earth else label.Void) ≡ open_label level (spot_over p z)
open-over level p z =
    ap (λ b. if b then label.Earth else label.Void)
    (sym (order_of_multiples p.w z.num (level *ℤ z.den) (less_from (pos 0) p.w p.positive))
    ∙ ap (int_lt (p.w *ℤ z.num)) (moved level z.den p.w))
  where
    moved : (a d w : ℤ) → w *ℤ (a *ℤ d) ≡ a *ℤ (d *ℤ w)
    moved a d w =
        equal (times (var w) (times (var a) (var d))) (times (var a) (times (var d) (var w)))
        (omega arith)
