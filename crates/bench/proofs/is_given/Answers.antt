-- `is_given` meets its contract. Assumes nothing.
use borrow.Author.Rules.{rules}
use lib.ListN.{length}
use mathlib.Core.Path.{◌≡◌}
use Rattle.bench.proofs.Answering.{given_clear}
use Rattle.bench.proofs.is_given.Goals as goal

pub returns-then-accepts : goal.returns-then-accepts
returns-then-accepts c =
    let long : length c.args.given ≡ 8 = search rules in
    given_clear c.args.n c.args.given long c.requires c.accepts.ensures c.if-accepts.true c.clear_from.ensures
