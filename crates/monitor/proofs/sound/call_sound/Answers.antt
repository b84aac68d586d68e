-- `sound::call_sound` meets its contract. Assumes nothing.
use mathlib.Core.Path.{◌≡◌}
use borrow.Author.Rules.{rules}
use lib.ListN.{length}
use Rattle.monitor.proofs.SoundTests.Checks.{call_is}
use Rattle.monitor.proofs.sound.call_sound.Goals as goal

pub returns : goal.returns
returns c =
    let a = c.args in
    let long : length a.arms.now.triples ≡ 4 = search rules in
    let kept : length a.call.now.kept ≡ 8 = search rules in
    call_is a.s.now a.t c.requires a.call.now a.arms.now long kept _ (search rules) _ c.rise.ensures _ c.of_unit.ensures _ c.of_one_state.ensures
