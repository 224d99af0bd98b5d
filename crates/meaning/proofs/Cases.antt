-- Every row of the table of document 01's P cases holds, by computing the definitions on it.
use mathlib.Core.Path.{◌≡◌, refl}
use mathlib.Core.Bool.{true}
use lib.Count.{ones, ones_in}
use Rattle.meaning.specs.Answers.{refuse◌at◌when◌otherwise◌, ◌and_then◌, ◌giving◌}
use Rattle.meaning.specs.RuleFile.{bytes2, bytes4, number2, number4, part, as_move, letter_move, tree_move, tree_start_move, class_of, is_states, is_letters, is_state, is_move, is_class, letter_record, tree_record, class_record, file_length, record_bytes, numbers_body, rule_bytes, rule_of, numbers_check, table_check, record_check, check_rule}
use Rattle.meaning.specs.FullReading.{event_of, fresh_reading, looked, no_move_number, look, new_level, full_turn, known_event, full_event, blank, innermost, outer, run_after, full_step, go_on, feed_by}
use Rattle.meaning.specs.SkipBook.{Still, none_or, Hold, any_below, all_below, listed, marked, goes_to, one_move, round, rounds, start_marks, end_round, ends_in, end_marks, only_state, reached_in, adds, rounds_used_up, reach_marks, still_marks, hold_marks, word_of, bit, book_of, in_still, in_hold, book_check, make_book, book_after}
use Rattle.meaning.specs.Skipping.{held, settled, passed, ends_level, settled_turn, skip_turn, skip_event}
use Rattle.meaning.specs.Calls.{open_call, top_of, stored_after, store_step, not_reading, reading_check, fed_from, feed_call, open_place, end_of, finish_call, finish_fed}
use Rattle.meaning.specs.Cases.{rule_a, rule_b, rule_no_start, rule_met_later, rule_spare, off_schema, reject, accept, with_looks, skipping_ends, full_ends, same_numbers, same_count, same_end, holds, all_hold, the_cases}

pub the-cases : all_hold the_cases ≡ true
unfolding ones ones_in refuse◌at◌when◌otherwise◌ ◌and_then◌ ◌giving◌ bytes2 bytes4 number2 number4 part as_move letter_move tree_move tree_start_move class_of is_states is_letters is_state is_move is_class letter_record tree_record class_record file_length record_bytes numbers_body rule_bytes rule_of numbers_check table_check record_check check_rule event_of fresh_reading looked no_move_number look new_level full_turn known_event full_event blank innermost outer run_after full_step go_on feed_by Still none_or Hold any_below all_below listed marked goes_to one_move round rounds start_marks end_round ends_in end_marks only_state reached_in adds rounds_used_up reach_marks still_marks hold_marks word_of bit book_of in_still in_hold book_check make_book book_after held settled passed ends_level settled_turn skip_turn skip_event open_call top_of stored_after store_step not_reading reading_check fed_from feed_call open_place end_of finish_call finish_fed rule_a rule_b rule_no_start rule_met_later rule_spare off_schema reject accept with_looks skipping_ends full_ends same_numbers same_count same_end holds all_hold the_cases
the-cases = refl
