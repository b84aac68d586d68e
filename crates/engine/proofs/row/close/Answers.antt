-- `row::close` meets its contract. Assumes nothing.
use mathlib.Core.Path.{◌≡◌, ◌∙◌}
use borrow.Author.Rules.{rules}
use native.Mathlib.Omega.{arith}
use lib.ListN.{length}
use Rattle.engine.proofs.InWords.Rowing.{closed_up}
use Rattle.engine.proofs.row.close.Goals as goal

pub returns : goal.returns
returns c =
    let long : length c.args.row.now ≡ 256 = search rules in
    c.copy_within.ensures.after ∙ closed_up c.args.row.now c.args.place c.args.opened c.requires.0 (omega (arith, long, c.requires.1))
