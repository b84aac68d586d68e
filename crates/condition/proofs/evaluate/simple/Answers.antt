-- `evaluate::simple` meets its contract. Assumes nothing.
use Rattle.std.proofs.Common.{arith}
use Rattle.condition.proofs.Walking.{tried_none}
use Rattle.condition.proofs.Evaluating.{as_simple, started, evaluates_less, evaluates_equal}
use Rattle.condition.proofs.evaluate.simple.Goals as goal

pub returns-else-at-s : goal.returns-else-at-s
returns-else-at-s c = tried_none tt

pub returns-then-a-eq0 : goal.returns-then-a-eq0
returns-then-a-eq0 c = tried_none tt

pub leaf-b-requires : goal.leaf-b-requires
leaf-b-requires c = let x = c.leaf-a.ensures.found c.if-a-eq0.false in omega (arith, x.few, x.skips.high)

pub returns-then-b-eq0 : goal.returns-then-b-eq0
returns-then-b-eq0 c = tried_none tt

pub less-requires : goal.less-requires
less-requires c = let y = c.leaf-b.ensures.found c.if-b-eq0.false in omega (arith, y.few, y.skips.high)

pub equal-requires : goal.equal-requires
equal-requires c = let y = c.leaf-b.ensures.found c.if-b-eq0.false in omega (arith, y.few, y.skips.high)

pub returns-in-4 : goal.returns-in-4
returns-in-4 c =
    let e = c.requires.1 in
    as_simple _ _ _ _ _ _ c.less.ensures c.if-b-eq0.false
    (evaluates_less _ _ _ _ (omega arith) _ _ _ _ _ _ (started _ _ _ _ _ c.requires.0 (omega arith) _ _ _ (c.leaf-a.ensures.found c.if-a-eq0.false)) (c.leaf-b.ensures.found c.if-b-eq0.false) (rw e at c.in-4.is))

pub returns-in-5 : goal.returns-in-5
returns-in-5 c =
    let e = c.requires.1 in
    as_simple _ _ _ _ _ _ c.equal.ensures c.if-b-eq0.false
    (evaluates_equal _ _ _ _ (omega arith) _ _ _ _ _ _ (started _ _ _ _ _ c.requires.0 (omega arith) _ _ _ (c.leaf-a.ensures.found c.if-a-eq0.false)) (c.leaf-b.ensures.found c.if-b-eq0.false) (rw e at c.in-5.is))

pub returns-in_default : goal.returns-in_default
returns-in_default c = tried_none tt
