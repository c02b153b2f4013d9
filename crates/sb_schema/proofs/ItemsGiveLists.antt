-- The items of a list, one after another, give what the list gives.
use Rattle.std.proofs.Common.{◌≡◌, ◌↔◌, ℕ, List, [], ◌∷◌, ◌++◌, Option, Some, None, IfSome, refl, sym, ap, ◌∙◌, slice_get, length, arith, option_map, option_and_then}
use Rattle.sb_step.specs.declared.parameters.param.Param.{Param}
use Rattle.sb_step.specs.declared.parameters.param.Param.TheVariants as param
use Rattle.sb_step.specs.declared.parameters.param.Param.TheViews.{out-Param, roll-Param, roll-out-Param, rolls-List, rolls-Typed, outs-List, outs-Typed}
use Rattle.std.proofs.lemmas.Option.{same_Some}
use Rattle.sb_step.specs.declared.parameters.param.Param.TheOpen as opened
use Rattle.sb_step.specs.declared.parameters.param.Param.TheOpen.{Param-F}
use Rattle.sb_step.specs.Cursors.Forms.{IsList, IsTyped}
use Rattle.sb_schema.specs.declared.lists.TypedList.{TypedList}
use Rattle.sb_schema.specs.Forms.{items_of, items_in, each, with_first, typed_list_of, typed_list_in, list_of, only_if, are_two}
use Rattle.sb_step.specs.Cursors.Forms.{integer_in}
use Rattle.std.proofs.lemmas.Bool.Decides.{nat_tests}

-- what has items is a list of them
rolled_list : (f : Param-F Param) (ps : List Param) → items_of f ≡ Some ps
    → roll-Param f ≡ param.List ps
rolled_list (opened.List qs) ps is = rolls-List qs ∙ ap param.List (same_Some qs ps is)
rolled_list _ ps is = absurd (cc)

is_list : (first : Option Param) (ps : List Param) → items_in first ≡ Some ps → IsList first ps
is_list None ps is = absurd (cc)
is_list (Some p) ps is = ap Some (sym (roll-out-Param p) ∙ rolled_list (out-Param p) ps is)

-- a list of items has them
pub items_of_list : (ps : List Param) → items_in (Some (param.List ps)) ≡ Some ps
items_of_list ps = ap items_of (outs-List ps)

-- so it gives their values
pub list_is : {A : Type 0} (form : Option Param → Option A) (ps : List Param)
    → list_of form (Some (param.List ps)) ≡ each form ps
list_is form ps = ap (option_and_then (each form)) (items_of_list ps)

-- the items that a cursor gives are those of the parameter
pub given_items : (first : Option Param) (result : Option (List Param)) → IfSome result (IsList first)
    → ((result ≡ None) ↔ ((ps : List Param) → ¬ IsList first ps)) → result ≡ items_in first
given_items first None some none = none_by (items_in first) refl
  where
    none_by : (found : Option (List Param)) → items_in first ≡ found → None ≡ items_in first
    none_by None is = sym is
    none_by (Some ps) is = absurd (none.0 refl ps (is_list first ps is))
given_items first (Some ps) some none = sym (ap items_in some ∙ items_of_list ps)

-- what is not typed gives no typed list
untyped : (f : Param-F Param)
    → ((name : List ℕ) (p : Param) → roll-Param f ≡ param.Typed name p → ⊥)
    → typed_list_of f ≡ None
untyped (opened.Typed name p) never = absurd (never name p (rolls-Typed name p))
untyped _ never = refl

pub no_typed_list : (first : Option Param)
    → ((name : List ℕ) (ps : List Param) → ¬ IsTyped first name ps)
    → typed_list_in first ≡ None
no_typed_list None never = refl
no_typed_list (Some p) never =
    untyped (out-Param p)
    (λ name q is. never name (q ∷ []) (q, ap Some (sym (roll-out-Param p) ∙ is), refl))

-- a typed list
abbrev pub typed_list : List ℕ → List (List ℕ) → TypedList
typed_list keyword list = record { keyword = keyword; list = list }

-- a keyword with one parameter in parentheses gives the integers of its list
pub typed_gives : (first : Option Param) (name : List ℕ) (ps : List Param) → IsTyped first name ps
    → typed_list_in first ≡ option_map (typed_list name) (list_of integer_in (slice_get ps 0))
typed_gives first name ps typed =
    ap typed_list_in typed.1
    ∙ ap typed_list_of (outs-Typed name typed.0)
    ∙ ap (λ qs. option_map (typed_list name) (list_of integer_in (slice_get qs 0))) (sym typed.2)

-- two of more than two items are none
pub more_than_two : {A : Type 0} (form : Option Param → Option A) (p q r : Param) (ps : List Param)
    → only_if are_two (each form (p ∷ q ∷ r ∷ ps)) ≡ None
more_than_two {A = A} form p q r ps =
    by_values (form (Some p)) (form (Some q)) (form (Some r)) (each form ps)
  where
    by_values : (a b c : Option A) (rest : Option (List A))
        → only_if are_two (with_first a (with_first b (with_first c rest))) ≡ None
    by_values None b c rest = refl
    by_values (Some x) None c rest = refl
    by_values (Some x) (Some y) None rest = refl
    by_values (Some x) (Some y) (Some z) None = refl
    by_values (Some x) (Some y) (Some z) (Some more) = by_length (length more) refl
      where
        by_length : (n : ℕ) → length more ≡ n → only_if are_two (Some (x ∷ y ∷ z ∷ more)) ≡ None
        by_length n is = grind (arith, nat_tests)

-- the values so far, with those of the items that are left
abbrev pub prefixed : {A : Type 0} → List A → Option (List A) → Option (List A)
prefixed values rest = option_map (λ more. values ++ more) rest
