-- `row::place_of` meets its contract. Assumes nothing.
use mathlib.Core.Path.{◌≡◌, subst, ◌∙◌}
use Prim.Native.Nat.{ℕ, ◌+◌, ◌*◌}
use native.Mathlib.Omega.{arith}
use Rattle.engine.proofs.InWords.Rowing.{Looking, looking_start, looking_end, looking_found, looking_more}
use Rattle.engine.proofs.row.place_of.Goals as goal

pub loop-i-init : goal.loop-i-init
loop-i-init c = looking_start _ _ _

pub returns-then-row-i : goal.returns-then-row-i
returns-then-row-i c = looking_found _ _ _ _ c.loop-i.invariant (omega (arith, c.loop-i-test.true)) c.if-row-i.true

pub loop-i-preserved : goal.loop-i-preserved
loop-i-preserved c =
    let a = c.args in
    let e : 16 * c.loop-i.i + 16 ≡ 16 * (c.loop-i.i + 1) = omega arith in
    subst (λ (k : ℕ). Looking a.number a.opened a.row.now k) e (looking_more _ _ _ _ c.loop-i.invariant (omega (arith, c.loop-i-test.true)) c.if-row-i.false)

pub returns : goal.returns
returns c =
    let last : 16 * c.args.opened ≡ 16 * c.loop-i.i = omega (arith, c.loop-i-test.false, c.loop-i.auto.i-end) in
    last ∙ looking_end _ _ _ _ c.loop-i.invariant (omega (arith, c.loop-i-test.false))
