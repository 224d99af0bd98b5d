-- Document 01's own run of the check program: rule A, the record of the events of A3, and the two lines, byte for byte, by
-- computing the definitions.
use mathlib.Core.Path.{◌≡◌, refl}
use mathlib.Core.List.{List, [], ◌∷◌, ◌++◌}
use Prim.Native.Nat.{ℕ}
use lib.Count.{ones, ones_in}
use Rattle.meaning.specs.Answers.{refuse◌at◌when◌otherwise◌, ◌and_then◌, ◌giving◌}
use Rattle.meaning.specs.RuleFile.{bytes2, bytes4, number2, number4, part, as_move, letter_move, tree_move, tree_start_move, class_of, is_states, is_letters, is_state, is_move, is_class, letter_record, tree_record, class_record, file_length, rule_of, numbers_check, table_check, record_check, check_rule}
use Rattle.meaning.specs.FullReading.{event_of, fresh_reading, looked, no_move_number, look, new_level, full_turn, known_event, full_event, blank, go_on, feed_by}
use Rattle.meaning.specs.SkipBook.{Still, none_or, Hold, any_below, all_below, listed, marked, goes_to, one_move, round, rounds, start_marks, end_round, ends_in, end_marks, only_state, reached_in, adds, reach_marks, still_marks, hold_marks, word_of, bit, book_of, in_still, in_hold, book_check}
use Rattle.meaning.specs.Skipping.{held, settled, passed, ends_level, settled_turn, skip_turn, skip_event}
use Rattle.meaning.specs.Calls.{top_of, stored_after, store_step, not_reading, reading_check, fed_from, feed_call, open_place, end_of, finish_call, finish_fed}
use Rattle.meaning.specs.CheckProgram.{events_in, events_header, events_body, events_place, front_check, input_check, line_from, program_fed, line_with, skip_line, full_line, digits_in, decimal, spaced, skip_word, full_word, class_word, line_end, line_bytes, printed_for, printed}
use Rattle.meaning.specs.Cases.{rule_a}

-- rule A, a header of kind 5 and length 12, and the events 0 3 2 2 1 2
unfoldable pub example_input : List ℕ
example_input =
    rule_a
    ++ (0x0C ∷ 0x00 ∷ 0x00 ∷ 0x00 ∷ 0x05 ∷ 0x00
    ∷ 0x00 ∷ 0x00 ∷ 0x03 ∷ 0x00 ∷ 0x02 ∷ 0x00 ∷ 0x02 ∷ 0x00 ∷ 0x01 ∷ 0x00 ∷ 0x02 ∷ 0x00 ∷ [])

-- skip accept 2 6 3, full accept 2 6 6
unfoldable pub example_output : List ℕ
example_output =
    0x73 ∷ 0x6B ∷ 0x69 ∷ 0x70 ∷ 0x20 ∷ 0x61 ∷ 0x63 ∷ 0x63 ∷ 0x65 ∷ 0x70 ∷ 0x74
    ∷ 0x20 ∷ 0x32 ∷ 0x20 ∷ 0x36 ∷ 0x20 ∷ 0x33 ∷ 0x0A
    ∷ 0x66 ∷ 0x75 ∷ 0x6C ∷ 0x6C ∷ 0x20 ∷ 0x61 ∷ 0x63 ∷ 0x63 ∷ 0x65 ∷ 0x70 ∷ 0x74
    ∷ 0x20 ∷ 0x32 ∷ 0x20 ∷ 0x36 ∷ 0x20 ∷ 0x36 ∷ 0x0A ∷ []

pub example-printed : printed example_input ≡ example_output
unfolding ones ones_in refuse◌at◌when◌otherwise◌ ◌and_then◌ ◌giving◌ bytes2 bytes4 number2 number4 part as_move letter_move tree_move tree_start_move class_of is_states is_letters is_state is_move is_class letter_record tree_record class_record file_length rule_of numbers_check table_check record_check check_rule event_of fresh_reading looked no_move_number look new_level full_turn known_event full_event blank go_on feed_by Still none_or Hold any_below all_below listed marked goes_to one_move round rounds start_marks end_round ends_in end_marks only_state reached_in adds reach_marks still_marks hold_marks word_of bit book_of in_still in_hold book_check held settled passed ends_level settled_turn skip_turn skip_event top_of stored_after store_step not_reading reading_check fed_from feed_call open_place end_of finish_call finish_fed events_in events_header events_body events_place front_check input_check line_from program_fed line_with skip_line full_line digits_in decimal spaced skip_word full_word class_word line_end line_bytes printed_for printed rule_a example_input example_output
example-printed = refl
