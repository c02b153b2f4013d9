-- The names that most proofs cite, passed on from one place. Declares nothing.
pub use Rattle.std.proofs.Common.{Bool, Err, List, None, Ok, Option, Result, Some, [], ap, append-nil, append_assoc, ap₂, arith, cond, drop, drop-cons, drop-drop, eqb, false, get_or, get_or-drop, get_or-take, if◌then◌else◌, inl, inr, length, length-append, length-drop, length-take-le, map, refl, rules, subst, suc, sym, take, true, zero, ℕ, ⊎_elim, ◌%◌, ◌*◌, ◌++◌, ◌+◌, ◌-◌, ◌/◌, ◌<◌, ◌↔◌, ◌∙◌, ◌∷◌, ◌≡◌, ◌≤◌, ◌⊎◌}
pub use Rattle.std.proofs.Math.Nat.{mod-eq_of_lt}
pub use Rattle.std.proofs.Math.Seq.{drop-append_seam}
pub use Rattle.std.proofs.lemmas.Bool.{and_from, and_parts, cases_Bool, cases_lt, cond-false, cond-true, eq-eqb, eqb-true, false≢true, le-ltb, lt-ltb, ltb-true}
pub use Rattle.std.proofs.lemmas.List.{get_or-map, get_or_default, length-map, map-append}
pub use Rattle.std.proofs.lemmas.List.Elements.{filter-append}
pub use Rattle.std.proofs.lemmas.List.Sorted.{All-permutation, IsNonDecreasingBy-from_sort, answers_always, length_permutation, sum_by-IsPermutation}
pub use Rattle.std.proofs.lemmas.List.Sums.{sum_by-cons}
pub use Rattle.std.proofs.lemmas.Option.{none-some, option_and_then_some, same_Some}
pub use Rattle.std.proofs.lemmas.Result.{IfOk-weaker}
pub use Rattle.std.proofs.lemmas.Slice.Eq.{bytes_eq-Decides}
pub use Rattle.std.specs.List.{All, AllByRecursion, concat, count_by, filter}
pub use Rattle.std.specs.List.Sorted.{IsBinarySearchResult, IsPermutation}
pub use Rattle.std.specs.Map.{lookup}
pub use Rattle.std.specs.Option.{option_copied}
pub use Rattle.std.specs.Ordering.{nat_cmp, ordering_index}
pub use Rattle.std.specs.Prelude.{IsTrue, codes, is_some, nat_eq, nat_lt, not, option_and_then, option_map, replicate, slice_range, ◌&&◌, ◌==◌, ◌≢◌}
pub use Rattle.theory_bytes.proofs.InsidesAreBetween.{inside-between, slice_inside}
pub use Rattle.theory_bytes.proofs.JoinedHasParts.{around}
pub use Rattle.theory_bytes.specs.Sets.{Repeated, Text}
pub use Rattle.theory_lists.specs.Members.{Stands}
pub use Rattle.sb_lex.specs.Bytes.{apostrophe}
pub use Rattle.sb_lex.specs.Kinds.{HexDigits, IsOf, Letters, StringPiece, mark_byte}
pub use Rattle.sb_lex.specs.Tokens.{AreTokens, AreTokensFrom, EachInputHasTokens, IsBadFrom, IsCandidate, IsEnd, IsNext, IsToken, IsTokenAnswer, Reading, TokensAreUnique, TokensBehindAPlaceAreUnique, TokensFollowEachPlace, moved}
pub use Rattle.sb_lex.specs.declared.kinds.BadToken.{BadToken}
pub use Rattle.sb_lex.specs.declared.kinds.Kind.{Kind}
pub use Rattle.sb_lex.specs.declared.kinds.Mark.{Mark}
pub use Rattle.sb_lex.specs.declared.kinds.Token.{Token}
pub use Rattle.sb_step.specs.Described.{Described, Described-prop}
pub use Rattle.sb_step.specs.Faults.{BeginsText, EachIsFileOrFault, FaultsAreUnique, FilesAreUnique, GoesOn, IsFaultAt, IsFile, NoFileHasAFault}
pub use Rattle.sb_step.specs.Grammar.{BeginsComplex, BeginsSimple, EndOfData, File, InnerRecord, IsComplex, IsInstance, IsRecord, IsSimple, IsText, MoreParameters, Parameter, ParameterList, Sections, Semicolon, SemicolonAt, greatest_depth}
pub use Rattle.sb_step.specs.Index.Collects.{AreCollected}
pub use Rattle.sb_step.specs.Index.ListMoves.{Nest, brackets_of, by_want, parameter}
pub use Rattle.sb_step.specs.Index.Machines.{state_of}
pub use Rattle.sb_step.specs.Index.Progress.{Accepted, Accepts, IsFound, IsRead, Progress, TokensTo}
pub use Rattle.sb_step.specs.Index.SectionMoves.{enters, entity_of, finds, moves, record_of, section_move, section_ways, span_of}
pub use Rattle.sb_step.specs.Index.StoredInstances.{AreStored}
pub use Rattle.sb_step.specs.Index.Turns.{Ran, State, Turn, and_ran, begun, end_at, end_of, entities_of, file_of, instances_of, is_complex, next_turn, next_turn_at, plain, room_of, run, start, turn_of, turn_within}
pub use Rattle.sb_step.specs.Index.Ways.{Asked, Way, passes, pick, ◌⇢◌}
pub use Rattle.sb_step.specs.Index.Ways.Asked.{a_keyword, a_name, a_value, the, the_mark, the_word}
pub use Rattle.sb_step.specs.IndexAnswers.{HasDoubled, IsAnswer, IsHeld, IsInTime, IsIndexed}
pub use Rattle.sb_step.specs.Indexed.{Indexed}
pub use Rattle.sb_step.specs.KindTests.{is_comma, is_first, is_keyword, is_last, is_name, is_the, number_of}
pub use Rattle.sb_step.specs.Lexemes.{IsKeyword, IsMark, IsName, IsThe, IsValue, IsWord, Lexeme, closed, is_close, is_mark, is_open, is_value, lexeme_at, lexemes, opened}
pub use Rattle.sb_step.specs.Numbers.{AreApart, IsGreatest, IsGreatestUsed, IsLeastTwice, IsUsedTwice, numbers_of, uses}
pub use Rattle.sb_step.specs.Params.Parameters.{AreFurther, AreParameters, EachInstanceHasParameters, Encloses, HasParameters, HoldsByForm, HoldsParameters, IsParameter, ParametersAreUnique, SaysSimple, doubled, written}
pub use Rattle.sb_step.specs.Params.ParamsAnswers.{AwaitsByForm, Gives, HasMemory, IsParamsAnswer, ListSays, SaysByForm, reader_at}
pub use Rattle.sb_step.specs.Params.Readers.{AreAhead, AreInList, Awaits, Behind, HasNext, NextItem, Reads, ReadsItem, ReadsToken, behind}
pub use Rattle.sb_step.specs.Records.Rows.{AreUnlike, Finds, IsDoubledIn, IsFirstTwice, IsLast, IsRowOf, IsTable, Rises, numbered_from, row_of}
pub use Rattle.sb_step.specs.Records.Schema.{HasNoSchema, HasOneString, IsSchema, IsString, OneString, is_schema, is_spelled}
pub use Rattle.sb_step.specs.Records.SchemaReading.{marks, SchemaSays, behind_first, both_close, both_open, closes, first_of, inside, one_more, opens, text_in, with_entity, with_entity_by}
pub use Rattle.sb_step.specs.Records.Spans.{RecordLies, keyword_by, keyword_of}
pub use Rattle.sb_step.specs.Records.Table.{PlaceLies, form_of, place_at, place_by}
pub use Rattle.sb_step.specs.Rules.{Each, Many, One, Rule, SomeOf}
pub use Rattle.sb_step.specs.Rules.Many.{none}
pub use Rattle.sb_step.specs.declared.error.ParamsError.{ParamsError}
pub use Rattle.sb_step.specs.declared.error.StepError.{StepError}
pub use Rattle.sb_step.specs.declared.indexing.collected.Collected.{Collected}
pub use Rattle.sb_step.specs.declared.indexing.states.Bracket.{Bracket}
pub use Rattle.sb_step.specs.declared.indexing.states.Event.{Event}
pub use Rattle.sb_step.specs.declared.indexing.states.Move.{Move}
pub use Rattle.sb_step.specs.declared.indexing.states.Part.{Part}
pub use Rattle.sb_step.specs.declared.indexing.states.Section.{Section}
pub use Rattle.sb_step.specs.declared.indexing.states.Span.{Span}
pub use Rattle.sb_step.specs.declared.indexing.states.Want.{Want}
pub use Rattle.sb_step.specs.declared.parameters.param.Param.{Param}
pub use Rattle.sb_step.specs.declared.step_file.records.Form.{Form}
pub use Rattle.sb_step.specs.declared.step_file.records.Record.{Record}
pub use Rattle.sb_step.specs.declared.step_file.schema.Schema.{Schema}
pub use Rattle.sb_step.specs.declared.step_file.table.Place.{Place}
pub use Rattle.sb_step.specs.declared.step_file.table.Row.{Row}
