-- `row::put` meets its contract. Assumes nothing.
use mathlib.Core.Path.{◌≡◌}
use borrow.Author.Rules.{rules}
use lib.ListN.{length}
use Rattle.engine.proofs.InWords.Rowing.{put_there}
use Rattle.engine.proofs.row.put.Goals as goal

pub returns : goal.returns
returns c =
    let a = c.args in
    let long : length a.values.now ≡ 8 = search rules in
    put_there a.row.now a.at _ _ c.from.ensures _ _ c.from-2.ensures a.entry a.values.now long
