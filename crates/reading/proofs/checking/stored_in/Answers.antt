-- The records below the depth are asked one after the other.
use Rattle.std.proofs.Common.{◌≡◌, sym, ap, ◌∙◌, refl, ◌&&◌, Bool, ℕ, zero, suc, ◌≤◌, length, take, get_or, add-one, arith, rules}
use Rattle.std.specs.List.{list_all, range_with_len}
use Rattle.std.proofs.lemmas.Iterator.{YieldsList-from_range}
use Rattle.std.proofs.lemmas.Iterator.Search.{all_from_yields_List}
use Rattle.std.proofs.lemmas.List.Folds.{list_all_more}
use Rattle.std.proofs.lemmas.List.FromFn.{length-range_with_len, get_or-range_with_len}
use Rattle.std.proofs.Math.Seq.{take_all}
use borrow.Author.Tests.{tests}
use Rattle.meaning.specs.FullReading.{blank}
use Rattle.meaning.specs.RuleFile.{is_state}
use Rattle.meaning.specs.SkipBook.{all_below}
use Rattle.reading.proofs.checking.stored_in.Goals as goal

first_all : (f : ℕ → Bool) (n depth : ℕ) → depth ≤ n → list_all f (take depth (range_with_len 0 n)) ≡ all_below depth f
unfolding all_below
first_all f n zero within = refl
first_all f n (suc d) within =
    let here : get_or (range_with_len 0 n) d 0 ≡ d = omega (arith, get_or-range_with_len 0 n d 0 (omega arith)) in
    ap (λ (k : ℕ). list_all f (take k (range_with_len 0 n))) (sym (add-one d))
    ∙ (list_all_more f (range_with_len 0 n) d 0 (omega (arith, length-range_with_len 0 n))
    ∙ (ap (λ (b : Bool). b && f (get_or (range_with_len 0 n) d 0)) (first_all f n d (omega arith)) ∙ ap (λ (i : ℕ). all_below d f && f i) here))

pub returns : goal.returns
unfolding is_state
returns c =
    let store = c.args.levels.now in
    let depth : ℕ = c.args.depth in
    all_from_yields_List (λ (i : ℕ). is_state c.args.states (get_or store i blank).above) _ _ _ c.all.ensures.ran
    (YieldsList-from_range 0 depth depth refl (omega arith)) (λ x b q k. search (rules, tests))
    ∙ (ap (list_all _) (sym (take_all depth (range_with_len 0 depth) (omega (arith, length-range_with_len 0 depth)))) ∙ first_all _ depth depth (omega arith))
