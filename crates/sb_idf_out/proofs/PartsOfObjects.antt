-- An object is made of its parts: those before the field of the counterpart, this field, and those behind.
use Rattle.std.proofs.Common.{◌≡◌, ℕ, List, ◌++◌, Option, Result, Ok, Err, OnOk, codes, decimal, sym, ap, ◌∙◌, arith}
use Rattle.std.specs.List.{flat_map}
use Rattle.std.proofs.lemmas.Grind.{common_steps}
use Rattle.std.proofs.lemmas.List.{append_assoc}
use Rattle.std.proofs.lemmas.List.Folds.{flat_map-map}
use Rattle.sb_model.specs.declared.boundary.Boundary.{Boundary}
use Rattle.sb_model.specs.declared.patches.corner.Corners.{Corners}
use Rattle.sb_model.specs.declared.products.FillKind.{FillKind}
use Rattle.sb_idf_out.specs.Fields.{fields_text, corner_fields, condition_object, name_where, material_name}
use Rattle.sb_idf_out.specs.Objects.{surface_object, filling_object, construction_object}
use Rattle.sb_idf_out.specs.Steps.Surfaces.{surface_start, surface_rest, filling_start, filling_rest}

pub surface_parts : (construction id : ℕ) (b : Boundary) (cs : Option Corners)
    → surface_object construction id b cs
    ≡ surface_start construction id b.patch.face.space b.patch.face.kind b.walk.end
    ++ (condition_object b.walk.end b.pair ++ surface_rest b.walk.end (fields_text (corner_fields cs)))
unfolding surface_object
surface_parts construction id b cs = grind (arith, common_steps)

pub filling_parts : (id parent : ℕ) (pair : Option ℕ) (kind : FillKind) (cs : Option Corners)
    → filling_object id parent pair kind cs
    ≡ filling_start id parent kind ++ (name_where pair ++ filling_rest (fields_text (corner_fields cs)))
unfolding filling_object
filling_parts id parent pair kind cs = grind (arith, common_steps)

pub construction_parts : (k : ℕ) (ns : List ℕ)
    → construction_object k ns
    ≡ (codes "Construction,C_" ++ decimal k) ++ (flat_map (λ n. codes ",M_" ++ decimal n) ns ++ codes ";\n")
unfolding construction_object
construction_parts k ns =
    let names = flat_map-map (λ field. codes "," ++ field) material_name ns in
    grind (arith, common_steps, names)

-- three parts of a text, the last of which may have met want of memory
pub in_three : {E : Type 0} (r : Result (Unit {0}) E) (start first second last a b c whole : List ℕ)
    → first ≡ start ++ a → second ≡ first ++ b → OnOk r (last ≡ second ++ c) → whole ≡ a ++ (b ++ c)
    → OnOk r (last ≡ start ++ whole)
in_three (Ok u) start first second last a b c whole one two three parts =
    three
    ∙ (ap (λ l. l ++ c) (two ∙ ap (λ l. l ++ b) one)
    ∙ (append_assoc (start ++ a) b c
    ∙ (append_assoc start a (b ++ c) ∙ ap (λ l. start ++ l) (sym parts))))
in_three (Err e) start first second last a b c whole one two three parts = tt

-- four parts of a text, each appended to what stands
pub in_four : (first second third last a b c d : List ℕ)
    → first ≡ a → second ≡ first ++ b → third ≡ second ++ c → last ≡ third ++ d
    → last ≡ ((a ++ b) ++ c) ++ d
in_four first second third last a b c d one two three four =
    four ∙ ap (λ l. l ++ d) (three ∙ ap (λ l. l ++ c) (two ∙ ap (λ l. l ++ b) one))

-- a fifth behind them
pub in_five : (a b c d e : List ℕ) → (((a ++ b) ++ c) ++ d) ++ e ≡ (a ++ b) ++ ((c ++ d) ++ e)
in_five a b c d e =
    ap (λ l. l ++ e) (append_assoc (a ++ b) c d) ∙ append_assoc (a ++ b) (c ++ d) e
