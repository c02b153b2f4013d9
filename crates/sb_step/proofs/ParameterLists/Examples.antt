-- A small parameter list, what it says, and what it does not say. Each is found by computing.
use Rattle.sb_step.proofs.Names.{List, [], ◌∷◌, length, refl, ap, codes, Param, Lexeme, doubled, Encloses, AreParameters}
use Rattle.sb_lex.specs.declared.kinds.Kind.TheVariants as kind
use Rattle.sb_lex.specs.declared.kinds.Mark.TheVariants as mark
use Rattle.sb_step.specs.declared.parameters.param.Param.TheVariants as param
use Rattle.sb_step.specs.Params.Parameters.IsParameter.{value, list, typed}
use Rattle.sb_step.specs.Params.Parameters.AreParameters.{empty, some}
use Rattle.sb_step.specs.Params.Parameters.AreFurther.{last, more}
use Rattle.sb_step.proofs.Texts.SomeTextGoesOn.{lexeme_of, mark_of, keyword_of}
use Rattle.sb_step.proofs.ParameterLists.ParametersAreUnique.{parameters_are_unique}

-- `(1,'it''s',(),A(#2))`
abbrev pub written_list : List Lexeme
written_list =
    mark_of mark.Open ∷ lexeme_of kind.Integer (codes "1") ∷ mark_of mark.Comma
    ∷ lexeme_of kind.Str (codes "'it''s'") ∷ mark_of mark.Comma
    ∷ mark_of mark.Open ∷ mark_of mark.Close ∷ mark_of mark.Comma
    ∷ keyword_of (codes "A") ∷ mark_of mark.Open ∷ lexeme_of (kind.Name 2) (codes "#2")
    ∷ mark_of mark.Close ∷ mark_of mark.Close ∷ []

-- what it says
abbrev pub its_parameters : List Param
its_parameters =
    param.Int (codes "1") ∷ param.Str (codes "it's") ∷ param.List []
    ∷ param.Typed (codes "A") (param.Reference 2) ∷ []

says_its_parameters : AreParameters its_parameters written_list []
says_its_parameters =
    some refl (value refl)
    (more refl (value (codes "it's", record { whole = refl }, refl))
    (more refl (list (empty refl refl))
    (more refl (typed refl refl (value refl) refl) (last refl))))

-- the empty list is one of them
empty_list_stays : AreParameters (param.Int (codes "1") ∷ param.Str (codes "it's")
    ∷ param.Typed (codes "A") (param.Reference 2) ∷ []) written_list [] → ⊥
empty_list_stays says =
    let same = (parameters_are_unique _ its_parameters written_list [] [] says
    says_its_parameters).0 in
    let size = ap length same in
    absurd (cc)

-- the list ends where it is closed
nothing_follows : AreParameters its_parameters written_list (mark_of mark.Close ∷ []) → ⊥
nothing_follows says =
    let same = (parameters_are_unique its_parameters its_parameters written_list
    (mark_of mark.Close ∷ []) [] says says_its_parameters).1 in
    absurd (cc)

-- two apostrophes inside a string are one
two_are_one : Encloses (codes "'") (doubled (codes "it''s")) (codes "'it''s'") → ⊥
two_are_one e = let size = ap length e.whole in absurd (cc)
