-- `follow::follow` meets its contract. Assumes nothing.
use mathlib.Core.Path.{refl, ap, ◌∙◌}
use Prim.Native.Nat.{◌+◌, ◌*◌, ◌<◌}
use native.Mathlib.Omega.{arith}
use borrow.Author.Rules.{rules}
use Rattle.refusal.proofs.Numbers.{number_above}
use Rattle.sheet.specs.Log.{record_size}
use Rattle.step.proofs.OnEvents.Following.{log_length, follow_start, follow_end, follow_room}
use Rattle.engine.proofs.OverLogs.Followed.{works, started_words, clear_start, ends_refused, sum_fits, ends_violated, goes_on}
use Rattle.engine.proofs.follow.follow.Goals as goal

pub loop-at-init : goal.loop-at-init
loop-at-init c =
    let a = c.args in
    let p = c.requires in
    let there = c.word_at-end.ensures in
    record {
      following = follow_start (works a.s.now a.plan.now) a.programs a.log.now p.0 _ (started_words a.s.now _ c.started-run.ensures _ c.initial-variables.ensures) _ there (search rules);
      many = c.from-count.ensures;
      each = ap record_size c.from-count.ensures;
      whole = there ∙ log_length a.programs a.log.now p.0;
      few = omega (arith, c.from-count.ensures, p.1);
      clear = clear_start _;
    }

pub given_at-given-requires : goal.given_at-given-requires
given_at-given-requires c =
    let a = c.args in
    let g = c.loop-at.invariant in
    let room = follow_room (works a.s.now a.plan.now) a.programs a.log.now _ _ _ _ _ g.following c.loop-at-test.true in
    omega (arith, room, g.whole)

pub read_values-requires : goal.read_values-requires
read_values-requires c =
    let a = c.args in
    let g = c.loop-at.invariant in
    let room = follow_room (works a.s.now a.plan.now) a.programs a.log.now _ _ _ _ _ g.following c.loop-at-test.true in
    (omega (arith, room, g.whole, g.many), g.few)

pub overflow_add-i : goal.overflow_add-i
overflow_add-i c =
    let g = c.loop-at.invariant in
    let small : c.loop-at.i + 1 < 4294967296 = omega (arith, g.following.low, g.following.fits, c.loop-at-test.true) in
    search (rules, small)

pub returns-in-Err : goal.returns-in-Err
returns-in-Err c =
    let a = c.args in
    rw c.counted.ensures (let all = ends_refused a.s.now a.plan.now a.programs a.log.now _ _ _ _ _ _ _ _ _ _ c.loop-at.invariant c.loop-at-test.true _ c.given_at-given.ensures _ c.read_values.ensures _ c.in-Err.ensures.value (number_above _) in
    record { answer_value = all.0; count_value = all.1 })

pub overflow_add-total : goal.overflow_add-total
overflow_add-total c =
    let a = c.args in
    let small = sum_fits a.s.now a.plan.now a.programs a.log.now _ _ _ _ _ _ _ _ _ _ c.loop-at.invariant c.loop-at-test.true _ c.given_at-given.ensures _ c.read_values.ensures _ c.in-Ok.ensures.value refl _ c.from-total.ensures in
    search (rules, small)

pub returns-in-Some : goal.returns-in-Some
returns-in-Some c =
    let a = c.args in
    rw c.counted-in-Some.ensures (let all = ends_violated a.s.now a.plan.now a.programs a.log.now _ _ _ _ _ _ _ _ _ _ c.loop-at.invariant c.loop-at-test.true _ c.given_at-given.ensures _ c.read_values.ensures _ c.in-Ok.ensures.value refl _ c.from-total.ensures _ c.in-Some.is in
    record { answer_value = all.0; count_value = all.1 })

pub overflow_add-at-in-loop-at : goal.overflow_add-at-in-loop-at
overflow_add-at-in-loop-at c =
    let a = c.args in
    let g = c.loop-at.invariant in
    let room = follow_room (works a.s.now a.plan.now) a.programs a.log.now _ _ _ _ _ g.following c.loop-at-test.true in
    let small : c.loop-at.at + (4 + 4 * c.from-count.result) < 4294967296 = omega (arith, room, g.each, g.following.fits) in
    search (rules, small)

pub loop-at-smaller : goal.loop-at-smaller
loop-at-smaller c =
    let a = c.args in
    let g = c.loop-at.invariant in
    let room = follow_room (works a.s.now a.plan.now) a.programs a.log.now _ _ _ _ _ g.following c.loop-at-test.true in
    omega (arith, room, g.each, g.many)

pub loop-at-preserved : goal.loop-at-preserved
loop-at-preserved c =
    let a = c.args in
    goes_on a.s.now a.plan.now a.programs a.log.now _ _ _ _ _ _ _ _ _ _ c.loop-at.invariant c.loop-at-test.true _ c.given_at-given.ensures _ c.read_values.ensures _ c.in-Ok.ensures.value refl _ c.from-total.ensures (search rules) _ _ c.in-Ok.ensures.row_after

pub returns : goal.returns
returns c =
    let a = c.args in
    rw c.counted-2.ensures (let all = follow_end (works a.s.now a.plan.now) a.programs a.log.now _ _ _ _ _ c.loop-at.invariant.following c.loop-at-test.false in
    record { answer_value = all.0; count_value = all.1 })
