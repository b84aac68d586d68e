-- `replay` meets its contract. Assumes nothing.
use borrow.Author.Rules.{rules}
use native.Mathlib.Omega.{arith}
use Rattle.translation.proofs.Cut.{written_short, written_cut}
use Rattle.replay.proofs.Replaying.{few_programs_lem, written_replayed, refused_turned_away}
use Rattle.replay.proofs.replay.Goals as goal

pub slice_bounds-buffer-end : goal.slice_bounds-buffer-end
slice_bounds-buffer-end c = omega (arith, written_short _ _ c.translate.result c.translate.ensures.0 c.in-Ok.n c.in-Ok.is)

pub slice_bounds-on_network-end : goal.slice_bounds-on_network-end
slice_bounds-on_network-end c = written_cut _ _ c.translate.result c.translate.ensures.0 _ (search rules) _ c.translate.ensures.1

pub on_network-requires : goal.on_network-requires
on_network-requires c = few_programs_lem _ _ c.translate.result c.translate.ensures.0 c.in-Ok.n c.in-Ok.is _ c.byte_at-programs.ensures

pub returns-in-Ok : goal.returns-in-Ok
returns-in-Ok c =
    let all = written_replayed _ _ c.translate.result c.translate.ensures.0 c.in-Ok.n c.in-Ok.is _ c.translate.ensures.1 _ _ c.byte_at-programs.ensures _ _ _ c.on_network.ensures in
    record { answer_value = all.0; state_value = all.1.0; answers_after = all.1.1 }

pub returns-in-Err : goal.returns-in-Err
returns-in-Err c =
    let all = refused_turned_away _ _ c.translate.result c.translate.ensures.0 (search rules) _ (search rules) _ _ c.turned_away.result c.turned_away.ensures in
    record { answer_value = all.0; state_value = all.1.0; answers_after = all.1.1 }
