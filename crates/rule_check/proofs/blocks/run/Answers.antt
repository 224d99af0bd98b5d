use Rattle.std.proofs.Common.{◌≡◌, ◌+◌, ◌-◌, ◌≤◌, ℕ, List, [], ◌++◌, length, take, drop, refl, ap, ◌∙◌, arith, length-drop}
use Rattle.std.proofs.lemmas.List.{drop-drop, take_rest}
use mathlib.Core.List.{append-nil}
use Rattle.std.specs.Io.KnownBytes.{IsAtEnd}
use Rattle.meaning.specs.CheckProgram.{printed}
use Rattle.program.proofs.Blocks.{carried-front}
use Rattle.rule_check.proofs.Glue.{start-in, file-accepted, run-read, of-all}
use Rattle.rule_check.proofs.blocks.run.Goals as goal

pub split_at-requires : goal.split_at-requires
split_at-requires g c = omega (arith, start-in c.args.front.now c.args.at.place c.args.at.size c.requires.events_there)

pub slice_bounds-carry-count : goal.slice_bounds-carry-count
slice_bounds-carry-count g c = omega (arith, c.split_at.ensures.back_len, start-in c.args.front.now c.args.at.place c.args.at.size c.requires.events_there)

pub slice_bounds-carry-start : goal.slice_bounds-carry-start
slice_bounds-carry-start g c = omega (arith, c.split_at.ensures.back_len, start-in c.args.front.now c.args.at.place c.args.at.size c.requires.events_there)

pub returns : goal.returns
returns g c =
    let a = c.args in
    let front : List ℕ = a.front.now in
    let start : ℕ = a.at.place + 6 in
    let file = c.split_at.ensures.front in
    let after : take (length c.split_at.result.1.now - 6) (drop 6 c.split_at.result.1.now) ≡ drop start front
    = take_rest c.split_at.result.1.now 6 ∙ ap (drop 6) c.split_at.ensures.back ∙ drop-drop 6 a.at.place front in
    let fits : length (take (length c.split_at.result.1.now - 6) (drop 6 c.split_at.result.1.now)) ≤ 65536
    = rw after (omega (arith, length-drop start front, c.requires.front_short)) in
    let laid = carried-front c.carry-there.ensures fits ∙ after in
    let took = c.begin-body.ensures a.at.size (c.open-opened.ensures.first_reading (file-accepted front a.at.place a.at.size c.requires.events_there _ file)) in
    let went = c.in_ok-read_body.ensures.went in
    let said : (rest : List ℕ) → (IsAtEnd (g.R.Read.remaining c.read_body.new.reader) → rest ≡ [])
    → c.text.result ≡ printed (front ++ (went.new ++ rest))
    = λ rest none.
    c.text.ensures _ _ _
    (run-read front a.at.place a.at.size c.requires.events_there _ c.begin-body.result _ _ _ _ refl file c.open-opened.ensures.own_book laid
    took went rest none) in
    record {
      as_read = (went.new, went.gave, said [] (λ e. refl) ∙ ap (λ l. printed (front ++ l)) (append-nil went.new));
      as_all = of-all _ _ went.new (λ l. c.text.result ≡ printed (front ++ l)) went.gave said;
      lost = tt;
    }
