-- The cycle of `evaluate::condition` and `evaluate::value` meets its contracts: the remaining length falls at each call, and each
-- operator's arm is a law of Evaluating. Assumes nothing.
use Rattle.std.proofs.Common.{arith, rules}
use Rattle.condition.proofs.Walking.{no_condition_lem}
use Rattle.condition.proofs.Evaluating.{as_judged, as_packed, started, badly, condition_past, value_past, true_at, evaluates_not, and_right, and_left, or_right, or_left, evaluates_less, evaluates_equal, evaluates_within, no_condition_there, evaluates_plus, evaluates_minus, choose_left, choose_right, operand, sub_condition}
use Rattle.condition.proofs.evaluate.+condition_value.Goals as goal

pub condition-returns-else-at-s : goal.condition-returns-else-at-s
condition-returns-else-at-s t c = as_judged _ _ _ _ _ _ _ c.judged.ensures (badly _ _ _ _ c.requires.0 _ _ (condition_past _ _ _ _ c.if-at-s.false c.requires.1.0))

pub condition-leaf-l-requires-then-o-gt3 : goal.condition-leaf-l-requires-then-o-gt3
condition-leaf-l-requires-then-o-gt3 t c = let x = operand _ _ _ _ c.if-l-eq0.a (λ x. x.next) (λ x. x.word) c.leaf-l.ensures c.if-l-eq0.branch-raw (λ w. rw w.a-is (rw (w.opened-a.ensures.0, w.opened-a.ensures.1) w.value.ensures)) (λ w. (w.if-l-eq0.false, w.a-is)) in omega (arith, c.requires.0, x.few, x.skips.low, x.skips.high)

pub condition-value-requires-then-l-eq0-2 : goal.condition-value-requires-then-l-eq0-2
condition-value-requires-then-l-eq0-2 t c = let x = operand _ _ _ _ c.if-l-eq0.a (λ x. x.next) (λ x. x.word) c.leaf-l.ensures c.if-l-eq0.branch-raw (λ w. rw w.a-is (rw (w.opened-a.ensures.0, w.opened-a.ensures.1) w.value.ensures)) (λ w. (w.if-l-eq0.false, w.a-is)) in omega (arith, c.requires.0, x.few, x.skips.low, x.skips.high)

pub condition-less-requires : goal.condition-less-requires
condition-less-requires t c = let y = operand _ _ _ _ c.if-l-eq0-2.b (λ x. x.next) (λ x. x.word) c.leaf-l-then-o-gt3.ensures c.if-l-eq0-2.branch-raw (λ w. rw w.b-is (rw (w.opened-b.ensures.0, w.opened-b.ensures.1) w.value-then-l-eq0-2.ensures)) (λ w. (w.if-l-eq0-2.false, w.b-is)) in omega (arith, y.few, y.skips.high)

pub condition-returns-then-o-eq4 : goal.condition-returns-then-o-eq4
condition-returns-then-o-eq4 t c = as_judged _ _ _ _ _ _ _ c.less.ensures (evaluates_less _ _ _ _ c.if-at-s.true _ _ _ _ _ _ (started _ _ _ _ _ c.requires c.if-at-s.true _ _ _ (operand _ _ _ _ c.if-l-eq0.a (λ x. x.next) (λ x. x.word) c.leaf-l.ensures c.if-l-eq0.branch-raw (λ w. rw w.a-is (rw (w.opened-a.ensures.0, w.opened-a.ensures.1) w.value.ensures)) (λ w. (w.if-l-eq0.false, w.a-is)))) (operand _ _ _ _ c.if-l-eq0-2.b (λ x. x.next) (λ x. x.word) c.leaf-l-then-o-gt3.ensures c.if-l-eq0-2.branch-raw (λ w. rw w.b-is (rw (w.opened-b.ensures.0, w.opened-b.ensures.1) w.value-then-l-eq0-2.ensures)) (λ w. (w.if-l-eq0-2.false, w.b-is))) c.if-o-eq4.true)

pub condition-equal-requires : goal.condition-equal-requires
condition-equal-requires t c = let y = operand _ _ _ _ c.if-l-eq0-2.b (λ x. x.next) (λ x. x.word) c.leaf-l-then-o-gt3.ensures c.if-l-eq0-2.branch-raw (λ w. rw w.b-is (rw (w.opened-b.ensures.0, w.opened-b.ensures.1) w.value-then-l-eq0-2.ensures)) (λ w. (w.if-l-eq0-2.false, w.b-is)) in omega (arith, y.few, y.skips.high)

pub condition-returns-then-o-eq5 : goal.condition-returns-then-o-eq5
condition-returns-then-o-eq5 t c = as_judged _ _ _ _ _ _ _ c.equal.ensures (evaluates_equal _ _ _ _ c.if-at-s.true _ _ _ _ _ _ (started _ _ _ _ _ c.requires c.if-at-s.true _ _ _ (operand _ _ _ _ c.if-l-eq0.a (λ x. x.next) (λ x. x.word) c.leaf-l.ensures c.if-l-eq0.branch-raw (λ w. rw w.a-is (rw (w.opened-a.ensures.0, w.opened-a.ensures.1) w.value.ensures)) (λ w. (w.if-l-eq0.false, w.a-is)))) (operand _ _ _ _ c.if-l-eq0-2.b (λ x. x.next) (λ x. x.word) c.leaf-l-then-o-gt3.ensures c.if-l-eq0-2.branch-raw (λ w. rw w.b-is (rw (w.opened-b.ensures.0, w.opened-b.ensures.1) w.value-then-l-eq0-2.ensures)) (λ w. (w.if-l-eq0-2.false, w.b-is))) c.if-o-eq5.true)

pub condition-leaf-l-requires-then-o-gt3-2 : goal.condition-leaf-l-requires-then-o-gt3-2
condition-leaf-l-requires-then-o-gt3-2 t c = let x = operand _ _ _ _ c.if-l-eq0.a (λ x. x.next) (λ x. x.word) c.leaf-l.ensures c.if-l-eq0.branch-raw (λ w. rw w.a-is (rw (w.opened-a.ensures.0, w.opened-a.ensures.1) w.value.ensures)) (λ w. (w.if-l-eq0.false, w.a-is)) in let y = operand _ _ _ _ c.if-l-eq0-2.b (λ x. x.next) (λ x. x.word) c.leaf-l-then-o-gt3.ensures c.if-l-eq0-2.branch-raw (λ w. rw w.b-is (rw (w.opened-b.ensures.0, w.opened-b.ensures.1) w.value-then-l-eq0-2.ensures)) (λ w. (w.if-l-eq0-2.false, w.b-is)) in omega (arith, c.requires.0, x.skips.low, y.few, y.skips.low, y.skips.high)

pub condition-value-requires-then-l-eq0-3 : goal.condition-value-requires-then-l-eq0-3
condition-value-requires-then-l-eq0-3 t c = let x = operand _ _ _ _ c.if-l-eq0.a (λ x. x.next) (λ x. x.word) c.leaf-l.ensures c.if-l-eq0.branch-raw (λ w. rw w.a-is (rw (w.opened-a.ensures.0, w.opened-a.ensures.1) w.value.ensures)) (λ w. (w.if-l-eq0.false, w.a-is)) in let y = operand _ _ _ _ c.if-l-eq0-2.b (λ x. x.next) (λ x. x.word) c.leaf-l-then-o-gt3.ensures c.if-l-eq0-2.branch-raw (λ w. rw w.b-is (rw (w.opened-b.ensures.0, w.opened-b.ensures.1) w.value-then-l-eq0-2.ensures)) (λ w. (w.if-l-eq0-2.false, w.b-is)) in omega (arith, c.requires.0, x.skips.low, y.few, y.skips.low, y.skips.high)

pub condition-opened-t-requires : goal.condition-opened-t-requires
condition-opened-t-requires t c = omega (arith, c.requires.0)

pub condition-within-requires : goal.condition-within-requires
condition-within-requires t c = let z = operand _ _ _ _ c.if-l-eq0-3.t (λ x. x.next) (λ x. x.word) c.leaf-l-then-o-gt3-2.ensures c.if-l-eq0-3.branch-raw (λ w. rw w.t-is (rw (w.opened-t.ensures.0, w.opened-t.ensures.1) w.value-then-l-eq0-3.ensures)) (λ w. (w.if-l-eq0-3.false, w.t-is)) in omega (arith, c.requires.0, z.few, z.skips.high)

pub condition-overflow_add-s-else-o-eq6 : goal.condition-overflow_add-s-else-o-eq6
condition-overflow_add-s-else-o-eq6 t c = search (rules, c.requires.0)

pub condition-judged-requires-else-o-eq6 : goal.condition-judged-requires-else-o-eq6
condition-judged-requires-else-o-eq6 t c = omega (arith, c.requires.0)

pub condition-negate-requires : goal.condition-negate-requires
condition-negate-requires t c = omega (arith, c.condition.ensures.few, c.condition.ensures.skips.high)

pub condition-condition-requires-then-a-eq1 : goal.condition-condition-requires-then-a-eq1
condition-condition-requires-then-a-eq1 t c = let x = sub_condition _ _ _ _ c.if-q-eq0.a c.simple-q.ensures c.if-q-eq0.branch-raw (λ w. rw w.a-is w.condition-a.ensures) (λ w. (w.if-q-eq0.false, w.a-is)) in omega (arith, c.requires.0, x.few, x.skips.low, x.skips.high)

pub condition-pass_condition-requires : goal.condition-pass_condition-requires
condition-pass_condition-requires t c = let x = sub_condition _ _ _ _ c.if-q-eq0.a c.simple-q.ensures c.if-q-eq0.branch-raw (λ w. rw w.a-is w.condition-a.ensures) (λ w. (w.if-q-eq0.false, w.a-is)) in omega (arith, x.few, x.skips.high)

pub condition-judged-requires-else-a-eq1 : goal.condition-judged-requires-else-a-eq1
condition-judged-requires-else-a-eq1 t c = let x = sub_condition _ _ _ _ c.if-q-eq0.a c.simple-q.ensures c.if-q-eq0.branch-raw (λ w. rw w.a-is w.condition-a.ensures) (λ w. (w.if-q-eq0.false, w.a-is)) in omega (arith, x.few, x.skips.high, c.pass_condition.ensures.count)

pub condition-pass_condition-requires-then-a-eq1-2 : goal.condition-pass_condition-requires-then-a-eq1-2
condition-pass_condition-requires-then-a-eq1-2 t c = let x = sub_condition _ _ _ _ c.if-q-eq0.a c.simple-q.ensures c.if-q-eq0.branch-raw (λ w. rw w.a-is w.condition-a.ensures) (λ w. (w.if-q-eq0.false, w.a-is)) in omega (arith, x.few, x.skips.high)

pub condition-judged-requires-then-a-eq1-2 : goal.condition-judged-requires-then-a-eq1-2
condition-judged-requires-then-a-eq1-2 t c = let x = sub_condition _ _ _ _ c.if-q-eq0.a c.simple-q.ensures c.if-q-eq0.branch-raw (λ w. rw w.a-is w.condition-a.ensures) (λ w. (w.if-q-eq0.false, w.a-is)) in omega (arith, x.few, x.skips.high, c.pass_condition-then-a-eq1-2.ensures.count)

pub condition-condition-requires-else-a-eq1-2 : goal.condition-condition-requires-else-a-eq1-2
condition-condition-requires-else-a-eq1-2 t c = let x = sub_condition _ _ _ _ c.if-q-eq0.a c.simple-q.ensures c.if-q-eq0.branch-raw (λ w. rw w.a-is w.condition-a.ensures) (λ w. (w.if-q-eq0.false, w.a-is)) in omega (arith, c.requires.0, x.few, x.skips.low, x.skips.high)

pub condition-returns-then-o-eq6 : goal.condition-returns-then-o-eq6
condition-returns-then-o-eq6 t c = as_judged _ _ _ _ _ _ _ c.within.ensures (evaluates_within _ _ _ _ c.if-at-s.true _ _ _ _ _ _ (started _ _ _ _ _ c.requires c.if-at-s.true _ _ _ (operand _ _ _ _ c.if-l-eq0.a (λ x. x.next) (λ x. x.word) c.leaf-l.ensures c.if-l-eq0.branch-raw (λ w. rw w.a-is (rw (w.opened-a.ensures.0, w.opened-a.ensures.1) w.value.ensures)) (λ w. (w.if-l-eq0.false, w.a-is)))) (operand _ _ _ _ c.if-l-eq0-2.b (λ x. x.next) (λ x. x.word) c.leaf-l-then-o-gt3.ensures c.if-l-eq0-2.branch-raw (λ w. rw w.b-is (rw (w.opened-b.ensures.0, w.opened-b.ensures.1) w.value-then-l-eq0-2.ensures)) (λ w. (w.if-l-eq0-2.false, w.b-is))) _ _ _ c.if-o-eq6.true (operand _ _ _ _ c.if-l-eq0-3.t (λ x. x.next) (λ x. x.word) c.leaf-l-then-o-gt3-2.ensures c.if-l-eq0-3.branch-raw (λ w. rw w.t-is (rw (w.opened-t.ensures.0, w.opened-t.ensures.1) w.value-then-l-eq0-3.ensures)) (λ w. (w.if-l-eq0-3.false, w.t-is))))

pub condition-returns-else-o-eq6 : goal.condition-returns-else-o-eq6
condition-returns-else-o-eq6 t c = as_judged _ _ _ _ _ _ _ c.judged-else-o-eq6.ensures (badly _ _ _ _ c.requires.0 _ _ (no_condition_there _ _ _ _ c.if-at-s.true (no_condition_lem _ (λ e. omega arith) (λ e. omega arith) (λ e. omega arith) (λ e. omega arith) c.if-o-eq4.false c.if-o-eq5.false c.if-o-eq6.false)))

pub condition-returns-in-0 : goal.condition-returns-in-0
condition-returns-in-0 t c = as_judged _ _ _ _ _ _ _ c.judged-in-0.ensures (true_at _ _ _ c.requires c.if-at-s.true c.in-0.is)

pub condition-returns-in-1 : goal.condition-returns-in-1
condition-returns-in-1 t c = as_judged _ _ _ _ _ _ _ c.negate.ensures (evaluates_not _ _ _ _ c.if-at-s.true _ _ _ c.in-1.is (started _ _ _ _ _ c.requires c.if-at-s.true _ _ _ c.condition.ensures))

pub condition-returns-then-a-eq1 : goal.condition-returns-then-a-eq1
condition-returns-then-a-eq1 t c = and_right _ _ _ _ c.if-at-s.true _ _ _ _ _ (started _ _ _ _ _ c.requires c.if-at-s.true _ _ _ (sub_condition _ _ _ _ c.if-q-eq0.a c.simple-q.ensures c.if-q-eq0.branch-raw (λ w. rw w.a-is w.condition-a.ensures) (λ w. (w.if-q-eq0.false, w.a-is)))) _ c.if-o-eq2.true c.if-a-eq1.true c.condition-then-a-eq1.ensures

pub condition-returns-else-a-eq1 : goal.condition-returns-else-a-eq1
condition-returns-else-a-eq1 t c = as_judged _ _ _ _ _ _ _ c.judged-else-a-eq1.ensures (and_left _ _ _ _ c.if-at-s.true _ _ _ _ _ (started _ _ _ _ _ c.requires c.if-at-s.true _ _ _ (sub_condition _ _ _ _ c.if-q-eq0.a c.simple-q.ensures c.if-q-eq0.branch-raw (λ w. rw w.a-is w.condition-a.ensures) (λ w. (w.if-q-eq0.false, w.a-is)))) c.if-o-eq2.true c.if-a-eq1.false c.pass_condition.ensures.skips c.pass_condition.ensures.count)

pub condition-returns-then-a-eq1-2 : goal.condition-returns-then-a-eq1-2
condition-returns-then-a-eq1-2 t c = as_judged _ _ _ _ _ _ _ c.judged-then-a-eq1-2.ensures (or_left _ _ _ _ c.if-at-s.true _ _ _ _ _ (started _ _ _ _ _ c.requires c.if-at-s.true _ _ _ (sub_condition _ _ _ _ c.if-q-eq0.a c.simple-q.ensures c.if-q-eq0.branch-raw (λ w. rw w.a-is w.condition-a.ensures) (λ w. (w.if-q-eq0.false, w.a-is)))) (omega (arith, c.if-o-eq2.false)) c.if-a-eq1-2.true c.pass_condition-then-a-eq1-2.ensures.skips c.pass_condition-then-a-eq1-2.ensures.count)

pub condition-returns-else-a-eq1-2 : goal.condition-returns-else-a-eq1-2
condition-returns-else-a-eq1-2 t c = or_right _ _ _ _ c.if-at-s.true _ _ _ _ _ (started _ _ _ _ _ c.requires c.if-at-s.true _ _ _ (sub_condition _ _ _ _ c.if-q-eq0.a c.simple-q.ensures c.if-q-eq0.branch-raw (λ w. rw w.a-is w.condition-a.ensures) (λ w. (w.if-q-eq0.false, w.a-is)))) _ (omega (arith, c.if-o-eq2.false)) c.if-a-eq1-2.false c.condition-else-a-eq1-2.ensures

pub value-returns-else-at-s : goal.value-returns-else-at-s
value-returns-else-at-s t c = as_packed _ _ _ _ _ _ _ c.packed.ensures (badly _ _ _ _ c.requires.0 _ _ (value_past _ _ _ _ c.if-at-s.false c.requires.1.0))

pub value-leaf-l-requires-in-20 : goal.value-leaf-l-requires-in-20
value-leaf-l-requires-in-20 t c = let x = operand _ _ _ _ c.if-l-eq0.a (λ x. x.next) (λ x. x.word) c.leaf-l.ensures c.if-l-eq0.branch-raw (λ w. rw w.a-is (rw (w.opened-a.ensures.0, w.opened-a.ensures.1) w.value.ensures)) (λ w. (w.if-l-eq0.false, w.a-is)) in omega (arith, c.requires.0, x.few, x.skips.low, x.skips.high)

pub value-value-requires-then-l-eq0-2 : goal.value-value-requires-then-l-eq0-2
value-value-requires-then-l-eq0-2 t c = let x = operand _ _ _ _ c.if-l-eq0.a (λ x. x.next) (λ x. x.word) c.leaf-l.ensures c.if-l-eq0.branch-raw (λ w. rw w.a-is (rw (w.opened-a.ensures.0, w.opened-a.ensures.1) w.value.ensures)) (λ w. (w.if-l-eq0.false, w.a-is)) in omega (arith, c.requires.0, x.few, x.skips.low, x.skips.high)

pub value-plus-requires : goal.value-plus-requires
value-plus-requires t c = let y = operand _ _ _ _ c.if-l-eq0-2.b (λ x. x.next) (λ x. x.word) c.leaf-l-in-20.ensures c.if-l-eq0-2.branch-raw (λ w. rw w.b-is (rw (w.opened-b.ensures.0, w.opened-b.ensures.1) w.value-then-l-eq0-2.ensures)) (λ w. (w.if-l-eq0-2.false, w.b-is)) in omega (arith, y.few, y.skips.high)

pub value-leaf-l-requires-in-21-2 : goal.value-leaf-l-requires-in-21-2
value-leaf-l-requires-in-21-2 t c = let x = operand _ _ _ _ c.if-l-eq0-3.a (λ x. x.next) (λ x. x.word) c.leaf-l-in-21.ensures c.if-l-eq0-3.branch-raw (λ w. rw w.a-is (rw (w.opened-a-then-l-eq0-3.ensures.0, w.opened-a-then-l-eq0-3.ensures.1) w.value-then-l-eq0-3.ensures)) (λ w. (w.if-l-eq0-3.false, w.a-is)) in omega (arith, c.requires.0, x.few, x.skips.low, x.skips.high)

pub value-value-requires-then-l-eq0-4 : goal.value-value-requires-then-l-eq0-4
value-value-requires-then-l-eq0-4 t c = let x = operand _ _ _ _ c.if-l-eq0-3.a (λ x. x.next) (λ x. x.word) c.leaf-l-in-21.ensures c.if-l-eq0-3.branch-raw (λ w. rw w.a-is (rw (w.opened-a-then-l-eq0-3.ensures.0, w.opened-a-then-l-eq0-3.ensures.1) w.value-then-l-eq0-3.ensures)) (λ w. (w.if-l-eq0-3.false, w.a-is)) in omega (arith, c.requires.0, x.few, x.skips.low, x.skips.high)

pub value-minus-requires : goal.value-minus-requires
value-minus-requires t c = let y = operand _ _ _ _ c.if-l-eq0-4.b (λ x. x.next) (λ x. x.word) c.leaf-l-in-21-2.ensures c.if-l-eq0-4.branch-raw (λ w. rw w.b-is (rw (w.opened-b-then-l-eq0-4.ensures.0, w.opened-b-then-l-eq0-4.ensures.1) w.value-then-l-eq0-4.ensures)) (λ w. (w.if-l-eq0-4.false, w.b-is)) in omega (arith, y.few, y.skips.high)

pub value-value-a-requires : goal.value-value-a-requires
value-value-a-requires t c = omega (arith, c.requires.0, c.condition-d.ensures.few, c.condition-d.ensures.skips.low, c.condition-d.ensures.skips.high)

pub value-pass_value-requires : goal.value-pass_value-requires
value-pass_value-requires t c = omega (arith, c.value-a.ensures.few, c.value-a.ensures.skips.high)

pub value-packed-requires-then-d-eq1 : goal.value-packed-requires-then-d-eq1
value-packed-requires-then-d-eq1 t c = omega (arith, c.value-a.ensures.few, c.value-a.ensures.skips.high, c.pass_value.ensures.count)

pub value-pass_value-requires-else-d-eq1 : goal.value-pass_value-requires-else-d-eq1
value-pass_value-requires-else-d-eq1 t c = omega (arith, c.condition-d.ensures.few, c.condition-d.ensures.skips.high)

pub value-value-requires-else-d-eq1 : goal.value-value-requires-else-d-eq1
value-value-requires-else-d-eq1 t c = omega (arith, c.requires.0, c.pass_value-else-d-eq1.ensures.count, c.pass_value-else-d-eq1.ensures.skips.low, c.pass_value-else-d-eq1.ensures.skips.high, c.condition-d.ensures.few, c.condition-d.ensures.skips.low)

pub value-packed-requires-else-l-eq0-5 : goal.value-packed-requires-else-l-eq0-5
value-packed-requires-else-l-eq0-5 t c = let x = c.leaf-l-in_default.ensures.found c.if-l-eq0-5.false in omega (arith, x.few, x.skips.high)

pub value-returns-after-l-eq0-2 : goal.value-returns-after-l-eq0-2
value-returns-after-l-eq0-2 t c = as_packed _ _ _ _ _ _ _ c.plus.ensures (evaluates_plus _ _ _ _ c.if-at-s.true _ _ _ _ _ _ (started _ _ _ _ _ c.requires c.if-at-s.true _ _ _ (operand _ _ _ _ c.if-l-eq0.a (λ x. x.next) (λ x. x.word) c.leaf-l.ensures c.if-l-eq0.branch-raw (λ w. rw w.a-is (rw (w.opened-a.ensures.0, w.opened-a.ensures.1) w.value.ensures)) (λ w. (w.if-l-eq0.false, w.a-is)))) (operand _ _ _ _ c.if-l-eq0-2.b (λ x. x.next) (λ x. x.word) c.leaf-l-in-20.ensures c.if-l-eq0-2.branch-raw (λ w. rw w.b-is (rw (w.opened-b.ensures.0, w.opened-b.ensures.1) w.value-then-l-eq0-2.ensures)) (λ w. (w.if-l-eq0-2.false, w.b-is))) c.in-20.is)

pub value-returns-after-l-eq0-4 : goal.value-returns-after-l-eq0-4
value-returns-after-l-eq0-4 t c = as_packed _ _ _ _ _ _ _ c.minus.ensures (evaluates_minus _ _ _ _ c.if-at-s.true _ _ _ _ _ _ (started _ _ _ _ _ c.requires c.if-at-s.true _ _ _ (operand _ _ _ _ c.if-l-eq0-3.a (λ x. x.next) (λ x. x.word) c.leaf-l-in-21.ensures c.if-l-eq0-3.branch-raw (λ w. rw w.a-is (rw (w.opened-a-then-l-eq0-3.ensures.0, w.opened-a-then-l-eq0-3.ensures.1) w.value-then-l-eq0-3.ensures)) (λ w. (w.if-l-eq0-3.false, w.a-is)))) (operand _ _ _ _ c.if-l-eq0-4.b (λ x. x.next) (λ x. x.word) c.leaf-l-in-21-2.ensures c.if-l-eq0-4.branch-raw (λ w. rw w.b-is (rw (w.opened-b-then-l-eq0-4.ensures.0, w.opened-b-then-l-eq0-4.ensures.1) w.value-then-l-eq0-4.ensures)) (λ w. (w.if-l-eq0-4.false, w.b-is))) c.in-21.is)

pub value-returns-then-d-eq1 : goal.value-returns-then-d-eq1
value-returns-then-d-eq1 t c = as_packed _ _ _ _ _ _ _ (rw c.word_of.ensures at c.packed-then-d-eq1.ensures) (choose_left _ _ _ _ c.if-at-s.true _ _ _ _ _ _ (started _ _ _ _ _ c.requires c.if-at-s.true _ _ _ c.condition-d.ensures) _ _ c.in-22.is c.if-d-eq1.true c.value-a.ensures c.pass_value.ensures.skips c.pass_value.ensures.count)

pub value-returns-else-d-eq1 : goal.value-returns-else-d-eq1
value-returns-else-d-eq1 t c = choose_right _ _ _ _ c.if-at-s.true _ _ _ _ _ _ (started _ _ _ _ _ c.requires c.if-at-s.true _ _ _ c.condition-d.ensures) _ _ c.in-22.is c.if-d-eq1.false c.pass_value-else-d-eq1.ensures.skips c.pass_value-else-d-eq1.ensures.count c.value-else-d-eq1.ensures

pub value-returns-then-l-eq0-5 : goal.value-returns-then-l-eq0-5
value-returns-then-l-eq0-5 t c = as_packed _ _ _ _ _ _ _ c.packed-then-l-eq0-5.ensures (badly _ _ _ _ c.requires.0 _ _ (c.leaf-l-in_default.ensures.none c.if-l-eq0-5.true (c.if-at-s.true, (λ e. omega arith, (λ e. omega arith, λ e. omega arith)))))

pub value-returns-else-l-eq0-5 : goal.value-returns-else-l-eq0-5
value-returns-else-l-eq0-5 t c = as_packed _ _ _ _ _ _ _ c.packed-else-l-eq0-5.ensures (c.leaf-l-in_default.ensures.found c.if-l-eq0-5.false)
