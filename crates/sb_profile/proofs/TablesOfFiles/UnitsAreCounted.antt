-- The members of a list of units are counted one after another; what parameters say is read in their order.
use Rattle.std.proofs.Common.{◌≡◌, ◌↔◌, ℕ, Bool, true, false, List, [], ◌∷◌, Option, Some, None, IfSome, refl, sym, ap, ◌∙◌, slice_get, drop}
use Rattle.std.specs.Prelude.{filter, filter_map, codes, if◌then◌else◌}
use Rattle.std.proofs.lemmas.Option.{same_Some}
use Rattle.sb_step.specs.declared.parameters.param.Param.{Param}
use Rattle.sb_step.specs.declared.parameters.param.Param.TheVariants as param
use Rattle.sb_step.specs.declared.parameters.param.Param.TheViews.{out-Param, roll-Param, roll-out-Param, rolls-List, outs-List}
use Rattle.sb_step.specs.declared.parameters.param.Param.TheOpen as opened
use Rattle.sb_step.specs.declared.parameters.param.Param.TheOpen.{Param-F}
use Rattle.sb_step.specs.Cursors.Forms.{IsList, reference_in, enumeration_in, is_null_in}
use Rattle.sb_step.specs.Indexed.{Indexed}
use Rattle.sb_step.specs.Params.Parameters.{HasParameters, ParametersAreUnique}
use Rattle.sb_schema.specs.Forms.{items_of, items_in}
use Rattle.sb_schema.specs.Table.{is_one_of}
use Rattle.sb_profile.specs.declared.reading.units.Only.{Only}
use Rattle.sb_profile.specs.declared.reading.units.Only.TheVariants as only
use Rattle.sb_profile.specs.Contents.{Contents, Says}
use Rattle.sb_profile.specs.Units.{only_one, unit_by, unit_of}
use Rattle.sb_profile.specs.Steps.Counting.{one_more, counted, with_member, the_only}

-- ---- lists of parameters

-- what has items is a list of them
rolled_list : (f : Param-F Param) (ps : List Param) → items_of f ≡ Some ps
    → roll-Param f ≡ param.List ps
rolled_list (opened.List qs) ps is = rolls-List qs ∙ ap param.List (same_Some qs ps is)
rolled_list _ ps is = absurd (cc)

is_list : (first : Option Param) (ps : List Param) → items_in first ≡ Some ps → IsList first ps
is_list None ps is = absurd (cc)
is_list (Some p) ps is = ap Some (sym (roll-out-Param p) ∙ rolled_list (out-Param p) ps is)

-- the items that a cursor gives are those of the parameter
pub given_items : (first : Option Param) (result : Option (List Param)) → IfSome result (IsList first)
    → ((result ≡ None) ↔ ((ps : List Param) → ¬ IsList first ps)) → result ≡ items_in first
given_items first None some none = none_by (items_in first) refl
  where
    none_by : (found : Option (List Param)) → items_in first ≡ found → None ≡ items_in first
    none_by None is = sym is
    none_by (Some ps) is = absurd (none.0 refl ps (is_list first ps is))
given_items first (Some ps) some none = sym (ap items_in some ∙ ap items_of (outs-List ps))

-- the parameters that a cursor has are those of the instance
pub params_are : ParametersAreUnique → (indexed : Indexed) (n : ℕ) (result : Option (List Param))
    → IfSome result (HasParameters indexed n)
    → IfSome result (λ ps. (c : Contents) → Says indexed c → ps ≡ c.parameters n)
params_are unique indexed n None has = tt
params_are unique indexed n (Some ps) has = λ c says.
    unique indexed n ps (c.parameters n) has (says.parameters_are n has.record_of has.found)

-- ---- members

-- one member after another
pub counted_member : (test : ℕ → Bool) (found : Only) (items : List Param)
    → (items ≡ [] → ⊥)
    → counted (with_member test (reference_in (slice_get items 0)) found)
    (filter test (filter_map (λ p. reference_in (Some p)) (drop 1 items)))
    ≡ counted found (filter test (filter_map (λ p. reference_in (Some p)) items))
counted_member test found [] some = absurd (some refl)
counted_member test found (p ∷ ps) some = by_form (reference_in (Some p)) refl
  where
    later : List ℕ
    later = filter_map (λ q. reference_in (Some q)) ps

    by_test : (n : ℕ) (b : Bool) → test n ≡ b
        → counted (if test n then one_more n found else found) (filter test later)
        ≡ counted found (filter test (n ∷ later))
    by_test n true passes = rw passes refl
    by_test n false fails = rw fails refl

    by_form : (o : Option ℕ) → reference_in (Some p) ≡ o
        → counted (with_member test (reference_in (Some p)) found) (filter test later)
        ≡ counted found (filter test (filter_map (λ q. reference_in (Some q)) (p ∷ ps)))
    by_form None is = rw is refl
    by_form (Some n) is = rw is (by_test n (test n) refl)

-- several stay several
several : (ns : List ℕ) → counted only.Several ns ≡ only.Several
several [] = refl
several (n ∷ ns) = several ns

-- what is counted of a list is the only one of it
pub counted_only : (ns : List ℕ) → the_only (counted only.None ns) ≡ only_one ns
counted_only [] = refl
counted_only (n ∷ []) = refl
counted_only (n ∷ m ∷ ns) = ap the_only (several ns)

-- ---- in order

pub unit_tells : (ps : List Param) (none : Bool) (prefix name : Option (List ℕ)) (is_metre : Bool)
    → none ≡ is_null_in (slice_get (drop 1 (drop 1 ps)) 0)
    → prefix ≡ enumeration_in (slice_get (drop 1 (drop 1 ps)) 0)
    → name ≡ enumeration_in (slice_get (drop 1 (drop 1 (drop 1 ps))) 0)
    → is_metre ≡ is_one_of (codes "METRE" ∷ []) name
    → (if is_metre then unit_by none prefix else None) ≡ unit_of ps
unit_tells ps none prefix name is_metre null before after metre = by_places ps null before after
  where
    by_places : (ps : List Param) → none ≡ is_null_in (slice_get (drop 1 (drop 1 ps)) 0)
        → prefix ≡ enumeration_in (slice_get (drop 1 (drop 1 ps)) 0)
        → name ≡ enumeration_in (slice_get (drop 1 (drop 1 (drop 1 ps))) 0)
        → (if is_metre then unit_by none prefix else None) ≡ unit_of ps
    by_places [] null before after = rw (metre, after) refl
    by_places (p ∷ []) null before after = rw (metre, after) refl
    by_places (p ∷ q ∷ []) null before after = rw (metre, after) refl
    by_places (p ∷ q ∷ r ∷ []) null before after = rw (metre, after) refl
    by_places (p ∷ q ∷ r ∷ s ∷ later) null before after = rw (metre, after, null, before) refl
