-- `accepted::offer_sound` meets its contract. Assumes nothing.
use Rattle.std.proofs.Common.{refl, rules}
use Rattle.refusal.proofs.Numbers.{number_above}
use Rattle.monitor.proofs.Offers.Packed.{sound_opened, few_opened, offer_refused, offer_taken}
use Rattle.monitor.proofs.accepted.offer_sound.Goals as goal

pub row-row-requires : goal.row-row-requires
row-row-requires c = sound_opened _ _ c.requires.2

pub unpack-requires : goal.unpack-requires
unpack-requires c =
    let a = c.args in
    few_opened a.s.now a.plan.now a.state a.event a.values.now c.requires _ c.given-given.ensures _ c.eight-eight.ensures _ c.running-run.ensures _ c.row-row.ensures _ c.in-Ok.ensures.value

pub returns-in-Ok : goal.returns-in-Ok
returns-in-Ok c =
    let a = c.args in
    let all = offer_taken a.s.now a.plan.now a.state a.event a.values.now c.requires _ c.given-given.ensures _ c.eight-eight.ensures _ c.running-run.ensures _ c.row-row.ensures _ c.in-Ok.ensures.value
    refl _ _ c.in-Ok.ensures.row_after _ _ (search rules) (search rules) _ c.unpack.ensures in
    record { answer_value = all.0; state_value = all.1.0; count_value = all.1.1 }

pub returns-in-Err : goal.returns-in-Err
returns-in-Err c =
    let a = c.args in
    let all = offer_refused a.s.now a.plan.now a.state a.event a.values.now c.requires _ c.given-given.ensures _ c.eight-eight.ensures _ c.running-run.ensures _ c.row-row.ensures _ c.in-Err.ensures.value (number_above _) in
    record { answer_value = all.0; state_value = all.1.0; count_value = all.1.1 }
