-- `sound::rise` meets its contract. Assumes nothing.
use Rattle.std.proofs.Common.{◌≡◌, ℕ, ltb, rules, tests}
use Rattle.std.proofs.lemmas.List.Sorted.{answers_always}
use Rattle.std.specs.List.{IsAllAdjacentAnswer}
use Rattle.step.proofs.OnLists.Rising.{rising_answer}
use Rattle.monitor.proofs.sound.rise.Goals as goal

pub returns : goal.returns
returns c =
    let told : IsAllAdjacentAnswer (λ (x y : ℕ) b. b ≡ ltb x y) c.args.numbers.now c.is_sorted_by.result = c.is_sorted_by.ensures.cases ltb (answers_always _ _ _ (λ f a r g k. search (rules, tests))) in
    rising_answer c.args.numbers.now c.is_sorted_by.result told
