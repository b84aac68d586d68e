-- `found_at` meets its contract. Assumes nothing.
use Rattle.condition.specs.Walk.{banks}
use Rattle.condition.proofs.Answering.{rest_all, place_past, place_long, place_answer, place_malformed}
use Rattle.condition.proofs.found_at.Goals as goal

pub returns-else-at-s : goal.returns-else-at-s
returns-else-at-s c = place_past _ _ _ c.if-at-s.false

pub returns-else-rest-le65534 : goal.returns-else-rest-le65534
returns-else-rest-le65534 c = place_long _ _ _ _ (rest_all c.args.s.now c.args.at) c.if-rest-le65534.false

pub returns-then-r-rest : goal.returns-then-r-rest
unfolding banks
returns-then-r-rest c = place_answer _ _ _ _ (rest_all c.args.s.now c.args.at) c.if-rest-le65534.true _ _ _ c.condition-r.ensures c.if-r-rest.true

pub returns-else-r-rest : goal.returns-else-r-rest
unfolding banks
returns-else-r-rest c = place_malformed _ _ _ _ (rest_all c.args.s.now c.args.at) c.if-rest-le65534.true _ _ _ c.condition-r.ensures c.if-r-rest.false
