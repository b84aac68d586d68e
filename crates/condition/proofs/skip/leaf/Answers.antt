-- `skip::leaf` meets its contract. Assumes nothing.
use Rattle.std.proofs.Common.{refl, arith}
use Rattle.condition.proofs.Walking.{leaf_short, leaf_none, as_leaf, skips_literal, skips_program, skips_monitor, skips_entry}
use Rattle.condition.proofs.skip.leaf.Goals as goal

pub returns-else-at-s : goal.returns-else-at-s
returns-else-at-s c = leaf_short _ _ _ c.if-at-s.false

pub returns-in-16 : goal.returns-in-16
returns-in-16 c = as_leaf _ _ _ _ _ c.literal.ensures (skips_literal _ _ _ (omega arith) _ c.in-16.is refl)

pub returns-in-17 : goal.returns-in-17
returns-in-17 c = as_leaf _ _ _ _ _ c.variable.ensures (skips_program _ _ _ (omega arith) _ c.in-17.is refl)

pub returns-in-18 : goal.returns-in-18
returns-in-18 c = as_leaf _ _ _ _ _ c.variable-in-18.ensures (skips_monitor _ _ _ (omega arith) _ c.in-18.is refl)

pub returns-in-19 : goal.returns-in-19
returns-in-19 c = as_leaf _ _ _ _ _ c.variable-in-19.ensures (skips_entry _ _ _ (omega arith) _ c.in-19.is refl)

pub returns-in_default : goal.returns-in_default
returns-in_default c = leaf_none _ _ _ (λ e. omega arith) (λ e. omega arith) (λ e. omega arith) (λ e. omega arith)
