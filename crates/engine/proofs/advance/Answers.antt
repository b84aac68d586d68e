-- `advance` meets its contract. Assumes nothing.
use mathlib.Core.Path.{refl, sym}
use Prim.Native.Nat.{◌<◌}
use borrow.Author.Rules.{rules}
use native.Mathlib.Omega.{arith}
use Rattle.std.proofs.lemmas.Result.{err_from_is_err_and}
use Rattle.refusal.proofs.Numbers.{number_above}
use Rattle.engine.specs.Walk.{words}
use Rattle.engine.proofs.InWords.Refused.{allowed_early, allowed_entry, allowed_exit}
use Rattle.engine.proofs.InWords.Answering.{told, offer_crowded, offer_refused, offer_entry, offer_exit}
use Rattle.engine.proofs.advance.Goals as goal

pub returns-else-run-le-MOST_OPENED : goal.returns-else-run-le-MOST_OPENED
returns-else-run-le-MOST_OPENED c =
    let a = c.args in
    let all = told _ _ (words a.run a.row.now a.variables.now) _ _ (offer_crowded a.s.now a.plan.now a.run a.row.now a.variables.now a.given a.values.now c.if-run-le-MOST_OPENED.false) _ refl in
    record { value = all.0; row_after = all.1 }

pub returns-in_err-admit : goal.returns-in_err-admit
returns-in_err-admit c =
    let a = c.args in
    let all = told _ _ (words a.run a.row.now a.variables.now) _ _
    (offer_refused a.s.now a.plan.now a.run a.row.now a.variables.now a.given a.values.now c.if-run-le-MOST_OPENED.true _ c.from.ensures _ c.from-2.ensures _ c.place_of-place.ensures _ c.in_err-admit.ensures (number_above _)) _ refl in
    let e = err_from_is_err_and c.from_residual.result c.from_residual.ensures.1 in
    rw (e.1, e.2) record { value = all.0; row_after = all.1 }

pub entered-requires : goal.entered-requires
entered-requires c =
    let a = c.args in
    let free = sym c.in_ok-admit.ensures in
    let small : a.run.position < 4294967296 = search rules in
    (allowed_entry a.plan.now a.run a.row.now a.given _ free c.if-given-eq0.true, allowed_early a.plan.now a.run a.row.now a.given _ free small)

pub exited-requires : goal.exited-requires
exited-requires c =
    let a = c.args in
    let free = sym c.in_ok-admit.ensures in
    let small : a.run.position < 4294967296 = search rules in
    let there = allowed_exit a.plan.now a.run a.row.now a.given _ free c.if-given-eq0.false in
    (omega (arith, there, c.place_of-place.ensures), c.if-run-le-MOST_OPENED.true, allowed_early a.plan.now a.run a.row.now a.given _ free small)

pub returns-then-given-eq0 : goal.returns-then-given-eq0
returns-then-given-eq0 c =
    let a = c.args in
    let all = told _ _ (words c.entered.result.run _ _) _ _
    (offer_entry a.s.now a.plan.now a.run a.row.now a.variables.now a.given a.values.now c.if-run-le-MOST_OPENED.true _ c.from.ensures _ c.from-2.ensures _ c.place_of-place.ensures _ c.in_ok-admit.ensures refl _ _ c.if-given-eq0.true (c.entered.ensures.variables_after, c.entered.ensures.count_value)) _ refl in
    record { value = all.0; row_after = all.1 }

pub returns-else-given-eq0 : goal.returns-else-given-eq0
returns-else-given-eq0 c =
    let a = c.args in
    let all = told _ _ (words c.exited.result.run _ _) _ _
    (offer_exit a.s.now a.plan.now a.run a.row.now a.variables.now a.given a.values.now c.if-run-le-MOST_OPENED.true _ c.from.ensures _ c.from-2.ensures _ c.place_of-place.ensures _ c.in_ok-admit.ensures refl _ _ c.if-given-eq0.false (c.exited.ensures.variables_after, c.exited.ensures.count_value)) _ refl in
    record { value = all.0; row_after = all.1 }
