-- What is printed for an input, by what was read of it: the refusal of its front, bytes after the record, a record cut short, or
-- both lines.
use mathlib.Core.Path.{◌≡◌, sym, ap, ◌∙◌}
use mathlib.Core.List.{List, [], append-nil}
use Prim.Native.Nat.{ℕ, ◌+◌, ◌≤◌, ◌<◌}
use native.Mathlib.Omega.{arith}
use lib.ListN.{length, take, length-append, length-drop}
use lib.Seq.{take-length}
use borrow.Author.Tests.{lt-ltb, le-ltb}
use Rattle.meaning.specs.Answers.{given, refused}
use Rattle.meaning.specs.RuleFile.{header_length, part, rule_of, check_rule}
use Rattle.meaning.specs.CheckProgram.{front_length, front_check, events_in, events_body, input_check, program_fed, line_bytes, rule_word, printed_for, printed}
use Rattle.meaning.proofs.laws.Answered.{refuse-passes, refuse-stops, giving-passes, giving-stops}
use Rattle.meaning.proofs.rulefile.Accepted.{accepted-rule}
use Rattle.meaning.proofs.program.Fifth.{front-join, found, fifth-file, header-says}
use Rattle.program.specs.declared.body.Body.{Body}
use Rattle.program.specs.Bodies.{zero_book, both_lines, HasRead}
use Rattle.program.proofs.OwnBooks.{skip-alike, full-alike}

-- the line of a refusal
refused-prints : (input : List ℕ) {number place : ℕ} → input_check input ≡ refused number place
    → line_bytes rule_word (refused number place) ≡ printed input
unfolding printed printed_for
refused-prints input e = rw (e, printed_for)

-- a front that is refused
pub front-refused : (input : List ℕ) {number place : ℕ} → front_check (take front_length input) ≡ refused number place
    → line_bytes rule_word (refused number place) ≡ printed input
unfolding input_check
front-refused input e = refused-prints input (giving-stops _ (sym (front-join input) ∙ e))

module _ (file book : List ℕ) (size : ℕ) (body : Body) (input bytes rest : List ℕ) (read : HasRead file book size body input bytes rest) where
  abbrev start : ℕ
  start = length file + header_length

  there : front_check input ≡ given (record { place = length file; size = size })
  there = sym (front-join input) ∙ read.found

  start-in : start ≤ length input
  start-in = (header-says input (length file) (found input there).header).0

  input-length : length input ≡ start + (length bytes + length rest)
  input-length = omega (arith, start-in, length-drop start input, ap length read.body_is, length-append bytes rest)

  by-body : {number place : ℕ} → events_body input start size ≡ refused number place → input_check input ≡ refused number place
  unfolding input_check
  by-body e = giving-passes _ there ∙ giving-stops _ e

  -- bytes after the record
  pub after-prints : size < length bytes → line_bytes rule_word (refused 5 (start + size)) ≡ printed input
  unfolding events_body
  after-prints more =
      refused-prints input
      (by-body
      (refuse-passes 1 (length input) _ (le-ltb (length input) (start + size) (omega (arith, input-length)))
      ∙ refuse-stops 5 (start + size) _ (lt-ltb (start + size) (length input) (omega (arith, input-length)))))

  module _ (all : rest ≡ []) where
    read_length : length input ≡ start + length bytes
    read_length = omega (arith, input-length, ap length all)

    -- the record is cut short
    pub cut-prints : length bytes < size → line_bytes rule_word (refused 1 (start + length bytes)) ≡ printed input
    unfolding events_body
    cut-prints less =
        ap (λ n. line_bytes rule_word (refused 1 n)) (sym read_length)
        ∙ refused-prints input
        (by-body (refuse-stops 1 (length input) _ (lt-ltb (length input) (start + size) (omega (arith, read_length)))))

    body_bytes : length bytes ≡ size → part input start size ≡ bytes
    unfolding part
    body_bytes e = rw (read.body_is, all, append-nil) (ap (λ n. take n bytes) (sym e) ∙ take-length bytes)

    whole : length bytes ≡ size → input_check input ≡ given (record { file = file; events = events_in bytes })
    unfolding input_check events_body
    whole e =
        giving-passes _ there
        ∙ (giving-passes _
        (refuse-passes 1 (length input) _ (le-ltb (length input) (start + size) (omega (arith, read_length)))
        ∙ (refuse-passes 5 (start + size) _ (le-ltb (start + size) (length input) (omega (arith, read_length)))
        ∙ ap (λ b. given (events_in b)) (body_bytes e)))
        ∙ ap (λ f. given (record { file = f; events = events_in bytes })) (sym read.file_is))

    accepted : check_rule file ≡ given (rule_of file)
    accepted =
        let a : check_rule file ≡ given (rule_of input)
        = ap check_rule read.file_is ∙ fifth-file input (length file) (found input there).after in
        a ∙ ap given (sym (accepted-rule file a))

    -- both lines
    pub both-print : length bytes ≡ size
        → both_lines file book (program_fed file book (events_in bytes)) (program_fed file zero_book (events_in bytes)) ≡ printed input
    unfolding printed printed_for both_lines
    both-print e =
        rw (whole e, printed_for, read.book_is, skip-alike file accepted (events_in bytes), full-alike file accepted (events_in bytes))
