-- `holds_at` meets its contract. Assumes nothing.
use Rattle.std.proofs.Common.{◌/◌, ◌<◌, arith, rules}
use Rattle.condition.specs.Meaning.{environment}
use Rattle.condition.proofs.Counting.{from_few}
use Rattle.condition.proofs.holds_at.Goals as goal

pub overflow_cast-result : goal.overflow_cast-result
overflow_cast-result c =
    let a = c.args in
    let small : c.found_at-r.result / 2 / 65536 < 4294967296 = omega (arith, c.found_at-r.ensures.1, from_few a.s.now a.at (environment a.program.now a.monitor.now a.kept.now)) in
    search (rules, small)

pub returns : goal.returns
returns c = c.found_at-r.ensures
