use Rattle.sb_lex.proofs.OneListOfTokens.{each_input_has_tokens, tokens_are_unique, tokens_follow, tokens_agree, calls_give_tokens, one_token_at_a_place}
use Rattle.sb_lex.proofs.laws.tokens_are_one_list.Goals as goal

pub returns-clause-exist : goal.returns-clause-exist
returns-clause-exist c = each_input_has_tokens

pub returns-clause-unique : goal.returns-clause-unique
returns-clause-unique c = tokens_are_unique

pub returns-clause-exist_from : goal.returns-clause-exist_from
returns-clause-exist_from c = tokens_follow

pub returns-clause-unique_from : goal.returns-clause-unique_from
returns-clause-unique_from c = tokens_agree

pub returns-clause-by_calls : goal.returns-clause-by_calls
returns-clause-by_calls c = calls_give_tokens

pub returns-clause-one_at_a_place : goal.returns-clause-one_at_a_place
returns-clause-one_at_a_place c = one_token_at_a_place
