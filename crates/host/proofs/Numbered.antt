-- Where the first number of an answer is 0, the answer was given: no call refuses with the number 0. Each definition of a call
-- is built of refusals that have their numbers beside them, so one law for each word of the definitions is enough.
use Rattle.std.proofs.Common.{if◌then◌else◌}
use mathlib.Core.Path.{◌≡◌, refl}
use mathlib.Core.Bool.{Bool, true, false}
use mathlib.Core.List.{List, [], ◌∷◌}
use Prim.Native.Nat.{ℕ, suc, ◌<◌}
use native.Mathlib.Omega.{arith}
use lib.ListN.{get_or}
use Rattle.meaning.specs.Answers.{Answer, given, refused, refuse◌at◌when◌otherwise◌, ◌and_then◌, ◌giving◌}
use Rattle.meaning.specs.RuleFile as format
use Rattle.meaning.specs.RuleFile.{Move, no_move, to, numbers_check, table_check, record_check, check_rule, write_check}
use Rattle.meaning.specs.FullReading.{Event, opens, closes, letter, event_of, Turn, Table, letter_table, start_table, tree_table, no_move_number, look, full_turn, known_event, Went, go_on, feed_by}
use Rattle.meaning.specs.SkipBook.{book_check, make_book}
use Rattle.meaning.specs.Skipping.{settled_turn, ends_level, skip_turn, skip_event}
use Rattle.meaning.specs.Calls.{Stored, open_call, store_step, reading_check, fed_from, feed_call, end_of, finish_call, finish_fed, read_with, whole_from, whole_document}
use Rattle.meaning.specs.declared.Reading.{Reading}
use Rattle.meaning.specs.declared.Level.{Level}
use Rattle.meaning.specs.declared.Opening.{Opening}
use Rattle.rule.specs.Says.{check_answer}
use Rattle.host.specs.Numbers.{answer_numbers, fed_numbers}

pub data Numbered {A : Type 0} : Answer A → Type 0 where
  is_given : {a : A} → Numbered (given a)
  is_refused : {number place : ℕ} → 0 < number → Numbered (refused number place)

-- ---- one law for each word

refuses : {A : Type 0} (number place : ℕ) (b : Bool) (rest : Answer A) → 0 < number → Numbered rest
    → Numbered (refuse number at place when b otherwise rest)
unfolding refuse◌at◌when◌otherwise◌
refuses number place true rest h n = is_refused h
refuses number place false rest h n = n

follows : {A : Type 0} (check : Answer Unit) (rest : Answer A) → Numbered check → Numbered rest → Numbered (check and_then rest)
unfolding ◌and_then◌
follows (given u) rest n m = m
follows (refused number place) rest (is_refused h) m = is_refused h

gives : {A B : Type 0} (x : Answer A) (f : A → Answer B) → Numbered x → ((a : A) → Numbered (f a)) → Numbered (x giving f)
unfolding ◌giving◌
gives (given a) f n m = m a
gives (refused number place) f (is_refused h) m = is_refused h

either : {A : Type 0} (b : Bool) (x y : Answer A) → Numbered x → Numbered y → Numbered (if b then x else y)
either true x y n m = n
either false x y n m = m

-- ---- the rule file

table : (good : ℕ → Bool) (place : ℕ) (xs : List ℕ) → Numbered (table_check good place xs)
unfolding table_check
table good place [] = is_given
table good place (x ∷ xs) = refuses _ _ _ _ (omega arith) (table good (suc place) xs)

records : (file : List ℕ) (place kind size : ℕ) → Numbered (record_check file place kind size)
unfolding record_check
records file place kind size =
    refuses _ _ _ _ (omega arith) (refuses _ _ _ _ (omega arith) (refuses _ _ _ _ (omega arith) (refuses _ _ _ _ (omega arith) is_given)))

numbers : (R : format.Rule) → Numbered (numbers_check R)
unfolding numbers_check
numbers R =
    refuses _ _ _ _ (omega arith) (refuses _ _ _ _ (omega arith) (refuses _ _ _ _ (omega arith) (refuses _ _ _ _ (omega arith) is_given)))

pub rule-numbered : (file : List ℕ) → Numbered (check_rule file)
unfolding check_rule
rule-numbered file =
    follows _ _ (records file _ _ _)
    (follows _ _ (numbers _)
    (follows _ _ (records file _ _ _)
    (follows _ _ (table _ _ _)
    (follows _ _ (records file _ _ _)
    (follows _ _ (table _ _ _)
    (follows _ _ (records file _ _ _)
    (follows _ _ (table _ _ _)
    (refuses _ _ _ _ (omega arith) is_given))))))))

pub check-numbered : (file : List ℕ) → Numbered (check_answer file)
unfolding check_answer
check-numbered file = gives _ _ (rule-numbered file) (λ R. is_given)

pub write-numbered : (R : format.Rule) (room : ℕ) → Numbered (write_check R room)
unfolding write_check
write-numbered R room =
    follows _ _ (numbers R)
    (refuses _ _ _ _ (omega arith)
    (refuses _ _ _ _ (omega arith)
    (refuses _ _ _ _ (omega arith)
    (follows _ _ (table _ _ _)
    (follows _ _ (table _ _ _)
    (follows _ _ (table _ _ _)
    (refuses _ _ _ _ (omega arith) is_given)))))))

-- ---- open

short : (R : format.Rule) (book : List ℕ) → Numbered (book_check R book)
unfolding book_check
short R book = refuses _ _ _ _ (omega arith) is_given

made : (R : format.Rule) (book : List ℕ) → Numbered (make_book R book)
unfolding make_book
made R book = follows _ _ (short R book) (refuses _ _ _ _ (omega arith) is_given)

pub open-numbered : (file book : List ℕ) → Numbered (open_call file book)
unfolding open_call
open-numbered file book = gives _ _ (rule-numbered file) (λ R. gives _ _ (made R book) (λ count. is_given))

-- ---- one event

looks : (t : Table) (place : ℕ) (m : Move) (next : ℕ → Turn) → Numbered (look t place m next)
unfolding look no_move_number
looks letter_table place no_move next = is_refused {number = 11} (omega arith)
looks start_table place no_move next = is_refused {number = 17} (omega arith)
looks tree_table place no_move next = is_refused {number = 18} (omega arith)
looks t place (to q) next = is_given

full : (R : format.Rule) (room ceiling : ℕ) (r : Reading) (top : Level) (e : Event) → Numbered (full_turn R room ceiling r top e)
unfolding full_turn
full R room ceiling r top (letter a) = refuses _ _ _ _ (omega arith) (looks _ _ _ _)
full R room ceiling r top opens = refuses _ _ _ _ (omega arith) (refuses _ _ _ _ (omega arith) (looks _ _ _ _))
full R room ceiling r top closes = refuses _ _ _ _ (omega arith) (refuses _ _ _ _ (omega arith) (looks _ _ _ _))

level : (R : format.Rule) (book : List ℕ) (room ceiling : ℕ) (r : Reading) (top : Level) → Numbered (ends_level R book room ceiling r top)
unfolding ends_level
level R book room ceiling r top = either _ _ _ is_given (full R room ceiling r top closes)

settles : (R : format.Rule) (book : List ℕ) (room ceiling : ℕ) (r : Reading) (top : Level) (e : Event) → Numbered (settled_turn R book room ceiling r top e)
unfolding settled_turn
settles R book room ceiling r top (letter a) = is_given
settles R book room ceiling r top opens = is_given
settles R book room ceiling r top closes = either _ _ _ is_given (level R book room ceiling r top)

event : (R : format.Rule) (book : List ℕ) (room ceiling : ℕ) (r : Reading) (top : Level) (e : ℕ) → Numbered (skip_event R book room ceiling r top e)
unfolding skip_event known_event skip_turn
event R book room ceiling r top e =
    refuses _ _ _ _ (omega arith)
    (refuses _ _ _ _ (omega arith) (either _ _ _ (settles R book room ceiling r top (event_of e)) (full R room ceiling r top (event_of e))))

step : (R : format.Rule) (book : List ℕ) (ceiling : ℕ) (s : Stored) (e : ℕ) → Numbered (store_step R book ceiling s e)
unfolding store_step
step R book ceiling s e = gives _ _ (event R book _ ceiling _ _ e) (λ turn. is_given)

-- ---- feed, finish and the whole document

goes_on : {A : Type 0} (a : A) (x : Answer A) (rest : A → Went A) → Numbered x → ((b : A) → Numbered (rest b).ended)
    → Numbered (go_on a x rest).ended
unfolding go_on
goes_on a (given b) rest n m = m b
goes_on a (refused number place) rest (is_refused h) m = is_refused h

goes : {A : Type 0} (f : A → ℕ → Answer A) → ((a : A) (e : ℕ) → Numbered (f a e)) → (a : A) (es : List ℕ) → Numbered (feed_by f a es).ended
unfolding feed_by
goes f n a [] = is_given
goes f n a (e ∷ es) = goes_on a (f a e) _ (n a e) (λ b. goes f n b es)

reading : (file book : List ℕ) (r : Reading) (store : List Level) → Numbered (reading_check file book r store)
unfolding reading_check
reading file book r store =
    gives _ _ (rule-numbered file) (λ R. follows _ _ (short R book) (refuses _ _ _ _ (omega arith) is_given))

fed : (x : Answer format.Rule) (book : List ℕ) (ceiling : ℕ) (s : Stored) (events : List ℕ) → Numbered x → Numbered (fed_from x book ceiling s events).ended
unfolding fed_from
fed (given R) book ceiling s events n = goes _ (step R book ceiling) s events
fed (refused number place) book ceiling s events (is_refused h) = is_refused h

pub feed-numbered : (file book : List ℕ) (ceiling : ℕ) (r : Reading) (store : List Level) (events : List ℕ)
    → Numbered (feed_call file book ceiling r store events).ended
unfolding feed_call
feed-numbered file book ceiling r store events = fed _ book ceiling _ events (reading file book r store)

pub finish-numbered : (file book : List ℕ) (r : Reading) (store : List Level) → Numbered (finish_call file book r store)
unfolding finish_call end_of
finish-numbered file book r store =
    gives _ _ (reading file book r store) (λ R. refuses _ _ _ _ (omega arith) is_given)

whole : (x : Answer Opening) (file book : List ℕ) (store : List Level) (events : List ℕ) → Numbered x → Numbered (whole_from x file book store events).answer
unfolding whole_from read_with finish_fed
whole (given o) file book store events n =
    gives _ _ (feed-numbered file _ _ _ store events) (λ done. finish-numbered file _ _ _)
whole (refused number place) file book store events (is_refused h) = is_refused h

pub document-numbered : (file book : List ℕ) (store : List Level) (events : List ℕ) → Numbered (whole_document file book store events).answer
unfolding whole_document
document-numbered file book store events = whole _ file book store events (open-numbered file book)

-- ---- what a host may count on

pub zero-given : {A : Type 0} (values : A → List ℕ) (x : Answer A) → Numbered x → get_or (answer_numbers values x) 0 0 ≡ 0 → (a : A) × (x ≡ given a)
unfolding answer_numbers
zero-given values (given a) n e = (a, refl)
zero-given values (refused number place) (is_refused h) e = absurd (omega arith)

pub zero-fed : (x : Answer Unit) (took : ℕ) (r : Reading) → Numbered x → get_or (fed_numbers x took r) 0 0 ≡ 0 → x ≡ given tt
unfolding fed_numbers
zero-fed (given done) took r n e = refl
zero-fed (refused number place) took r (is_refused h) e = absurd (omega arith)
