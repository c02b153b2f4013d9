-- Parameters that are just of a form or a row, and some that are just not. Each is found by computing.
use Rattle.std.proofs.Common.{◌≡◌, ℕ, List, [], ◌∷◌, Option, Some, None, option_map, option_and_then, true, false, refl, ap, ◌∙◌}
use Rattle.std.specs.Prelude.{codes}
use Rattle.sb_step.specs.declared.parameters.param.Param.{Param}
use Rattle.sb_step.specs.declared.parameters.param.Param.TheVariants as param
use Rattle.sb_step.specs.declared.parameters.param.Param.TheViews.{outs-Int, outs-Reference}
use Rattle.sb_step.specs.Cursors.Forms.{reference_in, number_in, integer_in}
use Rattle.sb_schema.specs.Forms.{value, items_of, list_of, each, pair_in, typed_list_in, only_if, are_two, are_two_or_three, with_first}
use Rattle.sb_schema.specs.Forms.Form.{reference, reference_or_none, number, string, string_or_none, enumeration, references, coordinates, pairs, typed_lists_or_none}
use Rattle.sb_schema.specs.Rows as rows
use Rattle.sb_schema.specs.Table.{values, is_one_of}
use Rattle.sb_schema.proofs.ItemsGiveLists.{list_is, typed_list, typed_gives}

-- the parameters of these examples
abbrev seven : Param
seven = param.Reference 7

abbrev one : Param
one = param.Int (codes "1")

abbrev half : Param
half = param.Real (codes ".5")

-- ---- forms of one parameter

a_reference : value reference (Some seven) ≡ Some 7
a_reference = refl

a_reference_is_given : value reference (Some param.Null) ≡ None
a_reference_is_given = refl

a_reference_is_no_number : value reference (Some (param.Int (codes "7"))) ≡ None
a_reference_is_no_number = refl

no_reference : value reference_or_none (Some param.Null) ≡ Some None
no_reference = refl

some_reference : value reference_or_none (Some seven) ≡ Some (Some 7)
some_reference = refl

a_derived_reference : value reference_or_none (Some param.Derived) ≡ None
a_derived_reference = refl

no_attribute : value reference_or_none None ≡ None
no_attribute = refl

an_integer : value number (Some one) ≡ Some (codes "1")
an_integer = refl

a_real : value number (Some half) ≡ Some (codes ".5")
a_real = refl

a_number_in_apostrophes : value number (Some (param.Str (codes "1"))) ≡ None
a_number_in_apostrophes = refl

no_number : value number (Some param.Null) ≡ None
no_number = refl

an_empty_string : value string (Some (param.Str [])) ≡ Some []
an_empty_string = refl

no_string : value string (Some param.Null) ≡ None
no_string = refl

an_enumeration_is_no_string : value string (Some (param.Enumeration (codes "T"))) ≡ None
an_enumeration_is_no_string = refl

a_string_or_none : value string_or_none (Some (param.Str (codes "Body"))) ≡ Some (Some (codes "Body"))
a_string_or_none = refl

a_string_may_miss : value string_or_none (Some param.Null) ≡ Some None
a_string_may_miss = refl

a_derived_string : value string_or_none (Some param.Derived) ≡ None
a_derived_string = refl

a_binary_is_no_string : value string_or_none (Some (param.Binary (codes "0"))) ≡ None
a_binary_is_no_string = refl

an_enumeration : value enumeration (Some (param.Enumeration (codes "AXIS2"))) ≡ Some (codes "AXIS2")
an_enumeration = refl

a_string_is_no_enumeration : value enumeration (Some (param.Str (codes "AXIS2"))) ≡ None
a_string_is_no_enumeration = refl

no_enumeration : value enumeration (Some param.Null) ≡ None
no_enumeration = refl

-- ---- lists

no_items : value references (Some (param.List [])) ≡ Some []
no_items = list_is reference_in []

two_references : value references (Some (param.List (seven ∷ param.Reference 8 ∷ [])))
    ≡ Some (7 ∷ 8 ∷ [])
two_references = list_is reference_in (seven ∷ param.Reference 8 ∷ [])

one_is_none : value references (Some (param.List (seven ∷ param.Null ∷ []))) ≡ None
one_is_none = list_is reference_in (seven ∷ param.Null ∷ [])

a_reference_is_no_list : value references (Some seven) ≡ None
a_reference_is_no_list =
    ap (λ f. option_and_then (each reference_in) (items_of f)) (outs-Reference 7)

an_integer_has_no_items : (form : Option Param → Option (List ℕ)) → list_of form (Some one) ≡ None
an_integer_has_no_items form =
    ap (λ f. option_and_then (each form) (items_of f)) (outs-Int (codes "1"))

three_coordinates : value coordinates (Some (param.List (one ∷ half ∷ one ∷ [])))
    ≡ Some (codes "1" ∷ codes ".5" ∷ codes "1" ∷ [])
three_coordinates = ap (only_if are_two_or_three) (list_is number_in (one ∷ half ∷ one ∷ []))

one_coordinate : value coordinates (Some (param.List (one ∷ []))) ≡ None
one_coordinate = ap (only_if are_two_or_three) (list_is number_in (one ∷ []))

four_coordinates : value coordinates (Some (param.List (one ∷ half ∷ one ∷ half ∷ []))) ≡ None
four_coordinates =
    ap (only_if are_two_or_three) (list_is number_in (one ∷ half ∷ one ∷ half ∷ []))

-- a list of two numbers is one pair
pair_is : (a b : List ℕ)
    → pair_in (Some (param.List (param.Int a ∷ param.Int b ∷ []))) ≡ Some (a ∷ b ∷ [])
pair_is a b = ap (only_if are_two) (list_is number_in (param.Int a ∷ param.Int b ∷ []))

a_pair : value pairs (Some (param.List (param.List (one ∷ one ∷ []) ∷ [])))
    ≡ Some ((codes "1" ∷ codes "1" ∷ []) ∷ [])
a_pair =
    list_is pair_in (param.List (one ∷ one ∷ []) ∷ [])
    ∙ ap (λ p. with_first p (Some [])) (pair_is (codes "1") (codes "1"))

numbers_are_no_pairs : value pairs (Some (param.List (one ∷ one ∷ []))) ≡ None
numbers_are_no_pairs =
    list_is pair_in (one ∷ one ∷ [])
    ∙ ap (λ list. with_first (only_if are_two list) (each pair_in (one ∷ [])))
    (an_integer_has_no_items number_in)
    ∙ refl

three_are_no_pair : value pairs (Some (param.List (param.List (one ∷ one ∷ one ∷ []) ∷ []))) ≡ None
three_are_no_pair =
    list_is pair_in (param.List (one ∷ one ∷ one ∷ []) ∷ [])
    ∙ ap (λ p. with_first (only_if are_two p) (Some [])) (list_is number_in (one ∷ one ∷ one ∷ []))

-- `IFCLINEINDEX((1,1))` and the like
abbrev typed : Param → Param
typed p = param.Typed (codes "IFCLINEINDEX") p

typed_is : (p : Param) → typed_list_in (Some (typed p))
    ≡ option_map (typed_list (codes "IFCLINEINDEX")) (list_of integer_in (Some p))
typed_is p = typed_gives (Some (typed p)) (codes "IFCLINEINDEX") (p ∷ []) (p, refl, refl)

a_typed_list : value typed_lists_or_none (Some (param.List (typed (param.List (one ∷ [])) ∷ [])))
    ≡ Some (Some (typed_list (codes "IFCLINEINDEX") (codes "1" ∷ []) ∷ []))
a_typed_list =
    ap (option_map Some)
    (list_is typed_list_in (typed (param.List (one ∷ [])) ∷ [])
    ∙ ap (λ t. with_first t (Some []))
    (typed_is (param.List (one ∷ []))
    ∙ ap (option_map (typed_list (codes "IFCLINEINDEX"))) (list_is integer_in (one ∷ []))))

no_typed_lists : value typed_lists_or_none (Some param.Null) ≡ Some None
no_typed_lists = refl

reals_are_no_integers :
    value typed_lists_or_none (Some (param.List (typed (param.List (half ∷ [])) ∷ []))) ≡ None
reals_are_no_integers =
    ap (option_map Some)
    (list_is typed_list_in (typed (param.List (half ∷ [])) ∷ [])
    ∙ ap (λ t. with_first t (Some []))
    (typed_is (param.List (half ∷ []))
    ∙ ap (option_map (typed_list (codes "IFCLINEINDEX"))) (list_is integer_in (half ∷ []))))

an_integer_is_no_list : value typed_lists_or_none (Some (param.List (typed one ∷ []))) ≡ None
an_integer_is_no_list =
    ap (option_map Some)
    (list_is typed_list_in (typed one ∷ [])
    ∙ ap (λ t. with_first t (Some []))
    (typed_is one
    ∙ ap (option_map (typed_list (codes "IFCLINEINDEX"))) (an_integer_has_no_items integer_in)))

-- ---- rows

a_placement : values rows.local_placement (param.Null ∷ seven ∷ []) ≡ Some (None, (7, tt))
a_placement = refl

exchanged : values rows.local_placement (seven ∷ param.Null ∷ []) ≡ None
exchanged = refl

one_fewer : values rows.local_placement (param.Null ∷ []) ≡ None
one_fewer = refl

one_more : values rows.local_placement (param.Null ∷ seven ∷ half ∷ []) ≡ Some (None, (7, tt))
one_more = refl

-- the two attributes that are read of a material layer, with the others of any form
a_layer : values rows.material_layer
    (param.Null ∷ one ∷ half ∷ seven ∷ param.Derived ∷ one ∷ param.Null ∷ [])
    ≡ Some (None, (codes "1", tt))
a_layer = refl

-- all that are read are there, and the last is not
six_of_seven : values rows.material_layer
    (param.Null ∷ one ∷ half ∷ seven ∷ param.Derived ∷ one ∷ []) ≡ None
six_of_seven = refl

-- ---- keywords

a_space : is_one_of rows.space.keywords (Some (codes "IFCSPACE")) ≡ true
a_space = refl

a_space_type : is_one_of rows.space.keywords (Some (codes "IFCSPACETYPE")) ≡ false
a_space_type = refl

the_front_of_a_keyword : is_one_of rows.space.keywords (Some (codes "IFCSPAC")) ≡ false
the_front_of_a_keyword = refl

a_complex_instance : is_one_of rows.space.keywords None ≡ false
a_complex_instance = refl

the_last_of_eight : is_one_of rows.product.keywords (Some (codes "IFCOPENINGELEMENT")) ≡ true
the_last_of_eight = refl
