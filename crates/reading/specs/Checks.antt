-- What feed and finish check first, as the code has it.
use Rattle.std.specs.Prelude.{ℕ, Bool, List, get_or}
use Rattle.meaning.specs.Answers.{Answer, given, ◌giving◌}
use Rattle.meaning.specs.RuleFile.{is_state}
use Rattle.meaning.specs.FullReading.{blank}
use Rattle.meaning.specs.SkipBook.{all_below}
use Rattle.meaning.specs.Calls.{reading_check}
use Rattle.meaning.specs.declared.Level.{Level}
use Rattle.meaning.specs.declared.Reading.{Reading}
use Rattle.rule.specs.Says.{numbers_of}
use Rattle.rule.specs.declared.Rule.{Rule}

-- the stored states below a depth are all below n
abbrev pub aboves_in : ℕ → ℕ → List Level → Bool
aboves_in n depth store = all_below depth (λ i. is_state n (get_or store i blank).above)

-- what feed and finish check first: rule, 6, 13; if all passes, the numbers of the rule
unfoldable pub reading_answer : List ℕ → List ℕ → Reading → List Level → Answer Rule
reading_answer file book r store = reading_check file book r store giving λ R. given (numbers_of R)
