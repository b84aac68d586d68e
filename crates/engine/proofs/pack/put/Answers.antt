-- `pack::put` meets its contract. Assumes nothing.
use mathlib.Core.Path.{◌≡◌}
use borrow.Author.Rules.{rules}
use lib.ListN.{length}
use Rattle.engine.proofs.Packed.{put_nothing, put_there}
use Rattle.engine.proofs.pack.put.Goals as goal

pub returns-then-i-lt-CALLS : goal.returns-then-i-lt-CALLS
returns-then-i-lt-CALLS c =
    let a = c.args in
    let eight : length a.call.kept ≡ 8 = search rules in
    let four : length a.arms.numbers ≡ 4 = search rules in
    let number = c.from-number.ensures in
    let unit = c.from-unit.ensures in
    (put_there a.row.now a.i a.call a.arms c.if-i-lt-CALLS.true _ _ _ _ _ _ _ number unit c.from.ensures c.from-then-i-lt-CALLS.ensures c.from-then-i-lt-CALLS-2.ensures c.from-then-i-lt-CALLS-3.ensures c.from-then-i-lt-CALLS-4.ensures four eight, search rules, search rules, eight, four)

pub returns-else-i-lt-CALLS : goal.returns-else-i-lt-CALLS
returns-else-i-lt-CALLS c =
    let a = c.args in
    let eight : length a.call.kept ≡ 8 = search rules in
    let four : length a.arms.numbers ≡ 4 = search rules in
    let number = c.from-number.ensures in
    let unit = c.from-unit.ensures in
    (put_nothing a.row.now a.i a.call a.arms c.if-i-lt-CALLS.false, search rules, search rules, eight, four)
