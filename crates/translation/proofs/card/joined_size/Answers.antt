-- `card::joined_size` meets its contract. Assumes nothing.
use native.Mathlib.Omega.{arith}
use mathlib.Core.List.{[]}
use Rattle.translation.proofs.Cards.Joining.{earlier_most}
use Rattle.translation.proofs.card.joined_size.Goals as goal

pub joined-requires : goal.joined-requires
joined-requires c =
    let pre = c.requires in
    let a = c.args in
    (pre.0, pre.1, pre.2, omega (arith, earlier_most pre.0 a.k a.t [] 0 pre.1))

pub returns : goal.returns
returns c =
    let pre = c.requires in
    let a = c.args in
    let w = c.joined.ensures.next in
    (omega (arith, w), omega (arith, w, earlier_most pre.0 a.k a.t [] 0 pre.1))
