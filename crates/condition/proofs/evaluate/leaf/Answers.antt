-- `evaluate::leaf` meets its contract. Assumes nothing.
use Rattle.std.proofs.Common.{arith}
use Rattle.condition.proofs.Evaluating.{leaf_short, leaf_none, leaf_literal, leaf_variable}
use Rattle.condition.proofs.evaluate.leaf.Goals as goal

pub returns-else-at-s : goal.returns-else-at-s
returns-else-at-s c = leaf_short _ _ _ c.requires.1 _ c.if-at-s.false

pub returns-then-o-eq16 : goal.returns-then-o-eq16
returns-then-o-eq16 c = leaf_literal _ _ _ c.requires.1 _ c.from-o.ensures c.requires.0 c.if-at-s.true _ _ _ c.if-o-eq16.true c.literal.ensures

pub returns-else-o-ge17 : goal.returns-else-o-ge17
returns-else-o-ge17 c = leaf_none _ _ _ c.requires.1 _ c.from-o.ensures _ c.if-o-eq16.false (λ e. omega (arith, c.if-o-ge17.false)) (λ e. omega (arith, c.if-o-ge17.false)) (λ e. omega (arith, c.if-o-ge17.false))

pub returns-else-o-le19 : goal.returns-else-o-le19
returns-else-o-le19 c = leaf_none _ _ _ c.requires.1 _ c.from-o.ensures _ c.if-o-eq16.false (λ e. omega (arith, c.if-o-le19.false)) (λ e. omega (arith, c.if-o-le19.false)) (λ e. omega (arith, c.if-o-le19.false))

pub bounds-e-o : goal.bounds-e-o
bounds-e-o c = omega (arith, c.if-o-le19.true)

pub returns : goal.returns
returns c = leaf_variable c.args.e.now _ _ _ c.requires.1 c.requires.0 c.if-at-s.true _ _ _ c.from-o.ensures c.if-o-ge17.true c.if-o-le19.true c.variable.ensures
