-- The cycle of `skip::condition` and `skip::value` meets its contracts: the remaining length falls at each call, and each operator's
-- arm is a law of Walking. Assumes nothing.
use Rattle.std.proofs.Common.{arith}
use Rattle.condition.proofs.Walking.{condition_nil, value_nil, skips_past, skips_true, skips_not, skips_and, skips_or, skips_compared, skips_within, skips_joined, skips_choose, skips_no_condition, no_condition_lem, operand}
use Rattle.condition.specs.Tree.{Condition, Value}
use Rattle.condition.specs.Walk.{condition_reader, value_reader}
use Rattle.condition.proofs.skip.+condition_value.Goals as goal
use Rattle.condition.proofs.skip.+condition_value.Goals.{value-in_default-via-else-this-lt20+else-this-lt22, value-in_default-via-then-this-lt20}

pub condition-returns-else-at-s : goal.condition-returns-else-at-s
condition-returns-else-at-s t c = skips_past Condition (condition_reader _) (condition_nil _) _ _ c.if-at-s.false c.requires.1

pub condition-value-last-requires : goal.condition-value-last-requires
condition-value-last-requires t c = let x = operand _ _ _ _ c.if-l-eq0.next c.leaf-l.ensures c.if-l-eq0.branch-raw (λ w. rw w.next-is w.value-next.ensures) (λ w. (w.if-l-eq0.false, w.next-is)) in omega (arith, x.low, x.high)

pub condition-value-requires : goal.condition-value-requires
condition-value-requires t c = let x = operand _ _ _ _ c.if-l-eq0.next c.leaf-l.ensures c.if-l-eq0.branch-raw (λ w. rw w.next-is w.value-next.ensures) (λ w. (w.if-l-eq0.false, w.next-is)) in omega (arith, x.low)

pub condition-value-requires-in-4 : goal.condition-value-requires-in-4
condition-value-requires-in-4 t c = let x = operand _ _ _ _ c.if-l-eq0-2.next c.leaf-l-in-4.ensures c.if-l-eq0-2.branch-raw (λ w. rw w.next-is w.value-next-then-l-eq0-2.ensures) (λ w. (w.if-l-eq0-2.false, w.next-is)) in omega (arith, x.low, x.high)

pub condition-returns-in-0 : goal.condition-returns-in-0
condition-returns-in-0 t c = skips_true _ _ _ c.if-at-s.true c.in-0.is

pub condition-returns-in-1 : goal.condition-returns-in-1
condition-returns-in-1 t c = skips_not _ _ _ c.if-at-s.true _ c.in-1.is c.condition.ensures

pub condition-returns-in-2 : goal.condition-returns-in-2
condition-returns-in-2 t c = skips_and _ _ _ c.if-at-s.true _ _ c.condition-in-2.ensures c.condition-in-2-2.ensures c.in-2.is

pub condition-returns-in-3 : goal.condition-returns-in-3
condition-returns-in-3 t c = skips_or _ _ _ c.if-at-s.true _ _ c.condition-in-3.ensures c.condition-in-3-2.ensures c.in-3.is

pub condition-returns-after-l-eq0 : goal.condition-returns-after-l-eq0
condition-returns-after-l-eq0 t c = skips_within _ _ _ c.if-at-s.true _ _ _ c.value-last.ensures c.value.ensures c.in-6.is (operand _ _ _ _ c.if-l-eq0.next c.leaf-l.ensures c.if-l-eq0.branch-raw (λ w. rw w.next-is w.value-next.ensures) (λ w. (w.if-l-eq0.false, w.next-is)))

pub condition-returns-after-l-eq0-2 : goal.condition-returns-after-l-eq0-2
condition-returns-after-l-eq0-2 t c = skips_compared _ _ _ c.if-at-s.true _ _ (operand _ _ _ _ c.if-l-eq0-2.next c.leaf-l-in-4.ensures c.if-l-eq0-2.branch-raw (λ w. rw w.next-is w.value-next-then-l-eq0-2.ensures) (λ w. (w.if-l-eq0-2.false, w.next-is))) c.value-in-4.ensures (omega arith) (omega arith)

pub condition-returns-in_default : goal.condition-returns-in_default
condition-returns-in_default t c = skips_no_condition _ _ _ c.if-at-s.true (no_condition_lem _ (λ e. omega arith) (λ e. omega arith) (λ e. omega arith) (λ e. omega arith) (λ e. omega arith) (λ e. omega arith) (λ e. omega arith))

pub value-returns-else-at-s : goal.value-returns-else-at-s
value-returns-else-at-s t c = skips_past Value (value_reader _) (value_nil _) _ _ c.if-at-s.false c.requires.1

pub value-value-requires-in-20 : goal.value-value-requires-in-20
value-value-requires-in-20 t c = let x = operand _ _ _ _ c.if-l-eq0.next c.leaf-l.ensures c.if-l-eq0.branch-raw (λ w. rw w.next-is w.value-next.ensures) (λ w. (w.if-l-eq0.false, w.next-is)) in omega (arith, x.low, x.high)

pub value-returns-in-22 : goal.value-returns-in-22
value-returns-in-22 t c = skips_choose _ _ _ c.if-at-s.true _ _ _ c.value-last.ensures c.value.ensures c.in-22.is c.condition-next.ensures

pub value-returns-after-l-eq0 : goal.value-returns-after-l-eq0
value-returns-after-l-eq0 t c = skips_joined _ _ _ c.if-at-s.true _ _ (operand _ _ _ _ c.if-l-eq0.next c.leaf-l.ensures c.if-l-eq0.branch-raw (λ w. rw w.next-is w.value-next.ensures) (λ w. (w.if-l-eq0.false, w.next-is))) c.value-in-20.ensures (omega arith) (omega arith)

pub value-returns-then-l-eq0-2 : goal.value-returns-then-l-eq0-2
value-returns-then-l-eq0-2 t c = c.leaf-l-in_default.ensures.none c.if-l-eq0-2.true (c.if-at-s.true, elim c.in_default.branch [ value-in_default-via-then-this-lt20 w ↦ (λ e. omega arith, (λ e. omega arith, λ e. omega arith)) | value-in_default-via-else-this-lt20+else-this-lt22 w ↦ (λ e. omega arith, (λ e. omega arith, λ e. omega arith)) ])

pub value-returns-else-l-eq0-2 : goal.value-returns-else-l-eq0-2
value-returns-else-l-eq0-2 t c = c.leaf-l-in_default.ensures.found c.if-l-eq0-2.false
