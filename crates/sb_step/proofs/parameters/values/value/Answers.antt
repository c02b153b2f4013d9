use Rattle.sb_step.proofs.ParameterLists.InsidesOfTokens.{string_is, enumeration_is, binary_is, string_is_written, says_string, says_enumeration, says_binary}
use Rattle.sb_step.proofs.parameters.values.value.Goals as goal

pub inside-requires : goal.inside-requires
inside-requires c = (string_is c.requires.token c.in-Str.is).long

pub undoubled-requires : goal.undoubled-requires
undoubled-requires c = string_is_written c.requires.token c.in-Str.is c.inside.ensures

pub inside-requires-in-Enumeration : goal.inside-requires-in-Enumeration
inside-requires-in-Enumeration c = (enumeration_is c.requires.token c.in-Enumeration.is).long

pub inside-requires-in-Binary : goal.inside-requires-in-Binary
inside-requires-in-Binary c = (binary_is c.requires.token c.in-Binary.is).long

pub returns-in_ok-undoubled-in-Str : goal.returns-in_ok-undoubled-in-Str
returns-in_ok-undoubled-in-Str c =
    says_string c.requires.token c.in_ok-undoubled-in-Str.field-0 c.in-Str.is c.inside.ensures
    c.in_ok-undoubled-in-Str.ensures

pub returns-in_ok-of-in-Enumeration : goal.returns-in_ok-of-in-Enumeration
returns-in_ok-of-in-Enumeration c =
    says_enumeration c.requires.token c.in_ok-of-in-Enumeration.field-0 c.in-Enumeration.is
    c.inside-in-Enumeration.ensures c.in_ok-of-in-Enumeration.ensures

pub returns-in_ok-of-in-Binary : goal.returns-in_ok-of-in-Binary
returns-in_ok-of-in-Binary c =
    says_binary c.requires.token c.in_ok-of-in-Binary.field-0 c.in-Binary.is
    c.inside-in-Binary.ensures c.in_ok-of-in-Binary.ensures
