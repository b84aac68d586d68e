-- `accepted::offer_accepted` meets its contract. Assumes nothing.
use mathlib.Core.Path.{sym, ◌∙◌}
use Rattle.step.specs.Calls.{event_of}
use Rattle.monitor.proofs.Offers.Answering.{unsound}
use Rattle.monitor.proofs.Offers.Packed.{tables_there}
use Rattle.monitor.proofs.accepted.offer_accepted.Goals as goal

pub sound-requires : goal.sound-requires
sound-requires c = (c.requires.0, tables_there _ _ c.requires _ c.tables_of-t.ensures)

pub returns-else-sound : goal.returns-else-sound
returns-else-sound c =
    let a = c.args in
    let all = unsound a.s.now a.state (event_of a.event a.values.now) c.requires.0 (sym c.sound.ensures ∙ c.if-sound.false) in
    record { answer_value = all.0; state_value = all.1.0; count_value = all.1.1 }
