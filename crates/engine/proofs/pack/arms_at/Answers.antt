-- `pack::arms_at` meets its contract. Assumes nothing.
use borrow.Author.Rules.{rules}
use lib.ListN.{length}
use mathlib.Core.Path.{◌≡◌}
use Rattle.engine.proofs.Packed.{no_arms_there, arms_there_lem}
use Rattle.engine.proofs.pack.arms_at.Goals as goal

pub returns-else-i-lt-CALLS : goal.returns-else-i-lt-CALLS
returns-else-i-lt-CALLS c = no_arms_there _ _ c.if-i-lt-CALLS.false

pub returns : goal.returns
returns c =
    let a = c.args in
    let long : length a.row.now ≡ 256 = search rules in
    arms_there_lem a.row.now a.i c.if-i-lt-CALLS.true long _ c.four-count.ensures.0 _ _ _ _ c.below.ensures c.below-2.ensures c.below-3.ensures c.below-4.ensures
