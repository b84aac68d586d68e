-- `sound::sound` meets its contract. Assumes nothing.
use mathlib.Core.Path.{◌≡◌}
use borrow.Author.Rules.{rules}
use lib.ListN.{length}
use Rattle.monitor.proofs.SoundTests.Checks.{length_mapped, sound_is, sound_crowded}
use Rattle.monitor.proofs.sound.sound.Goals as goal

pub returns-then-opened-gt-CALLS : goal.returns-then-opened-gt-CALLS
returns-then-opened-gt-CALLS c = sound_crowded _ _ (search rules)

pub returns : goal.returns
returns c =
    let w = c.args.state in
    let v : length w.variables ≡ 4 = search rules in
    let long : length w.calls ≡ 16 = search (rules, length_mapped) in
    let same : length w.arms ≡ 16 = search (rules, length_mapped) in
    sound_is c.args.s.now c.args.t c.requires w (search rules) (v, long, same) _ _ (search rules) (search rules) _ _ (search rules) (search rules)
    _ (search rules) _ (search rules) _ c.calls_clear.ensures _ c.arms_tidy.ensures
    _ c.arms_clear.ensures _ c.numbers_distinct.ensures _ c.entries_sound-entries.ensures _ c.calls_sound.ensures _ c.outcome_fits-rest.ensures
