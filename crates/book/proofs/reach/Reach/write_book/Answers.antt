use Rattle.std.proofs.Common.{◌≡◌, List, ◌≤◌, ◌+◌, ◌∷◌, ◌++◌, ℕ, length, take, drop, sym, ap, ◌∙◌, arith, rules}
use Rattle.meaning.specs.RuleFile.{rule_of}
use Rattle.rule.proofs.Said.{states-are}
use Rattle.book.proofs.BookWords.{book-written}
use Rattle.book.proofs.reach.Reach.write_book.Goals as goal

through : {a b : List ℕ} (m : List ℕ) → a ≡ m → m ≡ b → a ≡ b
through m e f = e ∙ f

pub returns-clause-book_after : goal.returns-clause-book_after
returns-clause-book_after c =
    let rule = c.args.self.now.ends.rule in
    let R = rule_of rule.file.now in
    let still = c.still-still in
    let holds = c.holds-holds in
    let rest = drop (rule.rule.states + 1) c.args.book.now in
    let long : R.states ≤ length holds.result = omega (arith, states-are rule.accepted, holds.ensures.long) in
    through (still.result ∷ (take rule.rule.states holds.result ++ rest)) (search rules)
    (ap (λ (n : ℕ). still.result ∷ (take n holds.result ++ rest)) (sym (states-are rule.accepted))
    ∙ book-written R still.result holds.result rest still.ensures long holds.ensures.holds)
