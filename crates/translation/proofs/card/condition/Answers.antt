-- `card::condition` meets its contract. Assumes nothing.
use native.Mathlib.Omega.{arith}
use Rattle.translation.proofs.Cards.Reaching.{few_conditions_lem, condition_is}
use Rattle.translation.proofs.card.condition.Goals as goal

pub bounds-net-from : goal.bounds-net-from
bounds-net-from c =
    let pre = c.requires in
    omega (arith, c.from.ensures, pre.1, few_conditions_lem pre.0)

pub put-requires : goal.put-requires
put-requires c =
    let pre = c.requires in
    rw (condition_is pre.0 _ _ c.from.ensures pre.1 _ c.condition_at-text.ensures) pre.2

pub returns : goal.returns
returns c =
    let pre = c.requires in
    rw (condition_is pre.0 _ _ c.from.ensures pre.1 _ c.condition_at-text.ensures) at c.put.ensures
