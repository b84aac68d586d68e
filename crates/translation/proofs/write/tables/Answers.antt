-- `write::tables` meets its contract. Assumes nothing.
use native.Mathlib.Omega.{arith}
use Rattle.translation.proofs.Sheets.Tabling.{places_small, words_after, conditions_end, actions_end, added_few, room_first, next_first, room_second, next_second, read_second, room_true, next_true, room_third, next_third, room_empty, next_empty, room_fourth, next_fourth, room_fifth, next_fifth, room_sixth, tables_done}
use Rattle.translation.proofs.write.tables.Goals as goal

pub words-first-requires : goal.words-first-requires
words-first-requires c =
    let b = c in
    let p = b.requires.0 in
    let o = b.args.out.now in
    let at = b.args.at in
    let e = b.requires.1 in
    (omega arith, room_first p o at e)

pub texts-conditions-requires : goal.texts-conditions-requires
texts-conditions-requires c =
    let b = c in
    let p = b.requires.0 in
    let o = b.args.out.now in
    let at = b.args.at in
    let e = b.requires.1 in
    let g1 = next_first p o at e _ _ c.words-first.ensures in
    let k = words_after b.args.s.now _ _ c.from.ensures in
    (conditions_end p o at e _ k, (places_small p o at e).2, room_second p o at e _ _ g1 _ k)

pub put-second-requires : goal.put-second-requires
put-second-requires c =
    let b = c in
    let p = b.requires.0 in
    let o = b.args.out.now in
    let at = b.args.at in
    let e = b.requires.1 in
    let g1 = next_first p o at e _ _ c.words-first.ensures in
    let k = words_after b.args.s.now _ _ c.from.ensures in
    let g2 = next_second p o at e _ _ g1 _ k _ _ c.texts-conditions.ensures in
    room_true p o at e _ _ g2

pub texts-actions-requires : goal.texts-actions-requires
texts-actions-requires c =
    let b = c in
    let p = b.requires.0 in
    let o = b.args.out.now in
    let at = b.args.at in
    let e = b.requires.1 in
    let g1 = next_first p o at e _ _ c.words-first.ensures in
    let k = words_after b.args.s.now _ _ c.from.ensures in
    let g2 = next_second p o at e _ _ g1 _ k _ _ c.texts-conditions.ensures in
    let g3 = next_true p o at e _ _ g2 _ _ c.put-second.ensures in
    let m = read_second p o at e _ _ g1 _ k _ _ c.texts-conditions.ensures in
    (actions_end p o at e _ m, (places_small p o at e).2, room_third p o at e _ _ g3 _ m)

pub put-third-requires : goal.put-third-requires
put-third-requires c =
    let b = c in
    let p = b.requires.0 in
    let o = b.args.out.now in
    let at = b.args.at in
    let e = b.requires.1 in
    let g1 = next_first p o at e _ _ c.words-first.ensures in
    let k = words_after b.args.s.now _ _ c.from.ensures in
    let g2 = next_second p o at e _ _ g1 _ k _ _ c.texts-conditions.ensures in
    let g3 = next_true p o at e _ _ g2 _ _ c.put-second.ensures in
    let m = read_second p o at e _ _ g1 _ k _ _ c.texts-conditions.ensures in
    let g4 = next_third p o at e _ _ g3 _ m _ _ c.texts-actions.ensures in
    room_empty p o at e _ _ g4

pub transitions-fourth-requires : goal.transitions-fourth-requires
transitions-fourth-requires c =
    let b = c in
    let p = b.requires.0 in
    let o = b.args.out.now in
    let at = b.args.at in
    let e = b.requires.1 in
    let g1 = next_first p o at e _ _ c.words-first.ensures in
    let k = words_after b.args.s.now _ _ c.from.ensures in
    let g2 = next_second p o at e _ _ g1 _ k _ _ c.texts-conditions.ensures in
    let g3 = next_true p o at e _ _ g2 _ _ c.put-second.ensures in
    let m = read_second p o at e _ _ g1 _ k _ _ c.texts-conditions.ensures in
    let g4 = next_third p o at e _ _ g3 _ m _ _ c.texts-actions.ensures in
    let g5 = next_empty p o at e _ _ g4 _ _ c.put-third.ensures in
    ((places_small p o at e).0, (places_small p o at e).1, room_fourth p o at e _ _ g5)

pub states-last-requires : goal.states-last-requires
states-last-requires c =
    let b = c in
    let p = b.requires.0 in
    let o = b.args.out.now in
    let at = b.args.at in
    let e = b.requires.1 in
    let g1 = next_first p o at e _ _ c.words-first.ensures in
    let k = words_after b.args.s.now _ _ c.from.ensures in
    let g2 = next_second p o at e _ _ g1 _ k _ _ c.texts-conditions.ensures in
    let g3 = next_true p o at e _ _ g2 _ _ c.put-second.ensures in
    let m = read_second p o at e _ _ g1 _ k _ _ c.texts-conditions.ensures in
    let g4 = next_third p o at e _ _ g3 _ m _ _ c.texts-actions.ensures in
    let g5 = next_empty p o at e _ _ g4 _ _ c.put-third.ensures in
    let g6 = next_fourth p o at e _ _ g5 _ _ c.transitions-fourth.ensures in
    ((places_small p o at e).0, room_fifth p o at e _ _ g6, omega (arith, added_few p o at e))

pub templates-requires : goal.templates-requires
templates-requires c =
    let b = c in
    let p = b.requires.0 in
    let o = b.args.out.now in
    let at = b.args.at in
    let e = b.requires.1 in
    let g1 = next_first p o at e _ _ c.words-first.ensures in
    let k = words_after b.args.s.now _ _ c.from.ensures in
    let g2 = next_second p o at e _ _ g1 _ k _ _ c.texts-conditions.ensures in
    let g3 = next_true p o at e _ _ g2 _ _ c.put-second.ensures in
    let m = read_second p o at e _ _ g1 _ k _ _ c.texts-conditions.ensures in
    let g4 = next_third p o at e _ _ g3 _ m _ _ c.texts-actions.ensures in
    let g5 = next_empty p o at e _ _ g4 _ _ c.put-third.ensures in
    let g6 = next_fourth p o at e _ _ g5 _ _ c.transitions-fourth.ensures in
    let g7 = next_fifth p o at e _ _ g6 _ _ c.states-last.ensures in
    ((places_small p o at e).0, room_sixth p o at e _ _ g7)

pub returns : goal.returns
returns c =
    let b = c in
    let p = b.requires.0 in
    let o = b.args.out.now in
    let at = b.args.at in
    let e = b.requires.1 in
    let g1 = next_first p o at e _ _ c.words-first.ensures in
    let k = words_after b.args.s.now _ _ c.from.ensures in
    let g2 = next_second p o at e _ _ g1 _ k _ _ c.texts-conditions.ensures in
    let g3 = next_true p o at e _ _ g2 _ _ c.put-second.ensures in
    let m = read_second p o at e _ _ g1 _ k _ _ c.texts-conditions.ensures in
    let g4 = next_third p o at e _ _ g3 _ m _ _ c.texts-actions.ensures in
    let g5 = next_empty p o at e _ _ g4 _ _ c.put-third.ensures in
    let g6 = next_fourth p o at e _ _ g5 _ _ c.transitions-fourth.ensures in
    let g7 = next_fifth p o at e _ _ g6 _ _ c.states-last.ensures in
    tables_done p o at e _ _ g7 _ _ _ c.templates.ensures c.states-last.ensures.more
