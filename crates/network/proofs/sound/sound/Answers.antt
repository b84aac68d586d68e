-- `sound::sound` meets its contract. Assumes nothing.
use Rattle.std.proofs.Common.{◌≡◌, length, rules}
use Rattle.network.proofs.SoundTests.Checks.{sound_is, sound_crowded, sound_overrun}
use Rattle.network.proofs.SoundTests.Holding.{length_mapped}
use Rattle.network.proofs.sound.sound.Goals as goal

pub returns-then-opened-gt-CALLS : goal.returns-then-opened-gt-CALLS
returns-then-opened-gt-CALLS c = sound_crowded _ _ (search rules)

pub returns-then-living-gt-CHECKERS : goal.returns-then-living-gt-CHECKERS
returns-then-living-gt-CHECKERS c = sound_overrun _ _ (search rules)

pub returns : goal.returns
returns c =
    let w = c.args.state in
    let v : length w.variables ≡ 4 = search rules in
    let long : length w.calls ≡ 16 = search (rules, length_mapped) in
    let many : length w.checkers ≡ 64 = search (rules, length_mapped) in
    sound_is c.args.s.now c.args.t c.requires w (search rules) (search rules) (v, long, many) _ _ (search rules) (search rules) _ _ (search rules) (search rules)
    _ _ (search rules) (search rules) _ c.clear_from.ensures _ c.kept_clear.ensures _ c.calls_clear.ensures _ c.checkers_clear.ensures
    _ c.numbers_distinct.ensures _ c.entries_sound-entries.ensures _ c.units_below.ensures _ c.on_calls.ensures _ c.entries_carried.ensures _ c.four_a_call.ensures _ c.in_order.ensures _ c.outcome_fits-rest.ensures
