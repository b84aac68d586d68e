-- `accepted::offer_accepted` meets its contract. Assumes nothing.
use mathlib.Core.Path.{sym, ◌∙◌}
use Rattle.step.specs.Calls.{event_of}
use Rattle.network.proofs.Offers.Answering.{unsound}
use Rattle.network.proofs.Offers.Packed.{short_said, tables_there}
use Rattle.network.proofs.accepted.offer_accepted.Goals as goal

pub sound-requires : goal.sound-requires
sound-requires c = (c.requires.0, tables_there _ _ c.requires (λ i. (c.type_inv.s i).fits) _ c.tables_of-t.ensures)

pub offer_sound-requires : goal.offer_sound-requires
offer_sound-requires c = (c.requires.0, short_said _ _ c.requires (λ i. (c.type_inv.s i).fits), c.requires.1, sym c.sound.ensures ∙ c.if-sound.true)

pub returns-else-sound : goal.returns-else-sound
returns-else-sound c =
    let a = c.args in
    let all = unsound a.s.now a.state (event_of a.event a.values.now) c.requires.0 (sym c.sound.ensures ∙ c.if-sound.false) in
    record { answer_value = all.0; state_value = all.1.0; count_value = all.1.1 }
