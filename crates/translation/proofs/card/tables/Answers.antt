-- `card::tables` meets its contract. Assumes nothing.
use native.Mathlib.Omega.{arith}
use Rattle.translation.proofs.Sheets.Tabling.{words_after}
use Rattle.translation.proofs.Cards.CardTabling.{short, conditions_end, actions_end, guarded_end, last_end, counted, room_first, next_first, room_second, next_second, read_second, room_third, next_third, room_fourth, next_fourth, room_fifth, next_fifth, room_sixth, tables_done}
use Rattle.translation.proofs.card.tables.Goals as goal

pub words-first-requires : goal.words-first-requires
words-first-requires c =
    let b = c in
    (omega arith, room_first b.requires.0 b.args.out.now b.args.at b.requires.1)

pub overflow_mul-from : goal.overflow_mul-from
overflow_mul-from c =
    let p = c.requires.0 in
    let k = words_after c.args.net.now.n.now _ _ c.from.ensures in
    record { fits = omega (arith, k, conditions_end p, short p) }

pub overflow_add-from : goal.overflow_add-from
overflow_add-from c =
    let p = c.requires.0 in
    let k = words_after c.args.net.now.n.now _ _ c.from.ensures in
    record { fits = omega (arith, k, conditions_end p, short p) }

pub texts-old-requires : goal.texts-old-requires
texts-old-requires c =
    let b = c in
    let p = b.requires.0 in
    let o = b.args.out.now in
    let at = b.args.at in
    let e = b.requires.1 in
    let g1 = next_first p o at e _ _ c.words-first.ensures in
    let k = words_after b.args.net.now.n.now _ _ c.from.ensures in
    (rw k (conditions_end p), omega (arith, short p), room_second p o at e _ _ g1 _ k)

pub joined_texts-second-requires : goal.joined_texts-second-requires
joined_texts-second-requires c =
    let b = c in
    let p = b.requires.0 in
    let o = b.args.out.now in
    let at = b.args.at in
    let e = b.requires.1 in
    let g1 = next_first p o at e _ _ c.words-first.ensures in
    let k = words_after b.args.net.now.n.now _ _ c.from.ensures in
    let g2 = next_second p o at e _ _ g1 _ k _ _ c.texts-old.ensures in
    (p.network, (counted p).0, room_third p o at e _ _ g2)

pub texts-actions-requires : goal.texts-actions-requires
texts-actions-requires c =
    let b = c in
    let p = b.requires.0 in
    let o = b.args.out.now in
    let at = b.args.at in
    let e = b.requires.1 in
    let g1 = next_first p o at e _ _ c.words-first.ensures in
    let k = words_after b.args.net.now.n.now _ _ c.from.ensures in
    let g2 = next_second p o at e _ _ g1 _ k _ _ c.texts-old.ensures in
    let m = read_second p o at e _ _ g1 _ k _ _ c.texts-old.ensures in
    let g3 = next_third p o at e _ _ g2 _ _ c.joined_texts-second.ensures in
    (rw m (actions_end p), omega (arith, short p), room_fourth p o at e _ _ g3 _ m)

pub guarded_all-third-requires : goal.guarded_all-third-requires
guarded_all-third-requires c =
    let b = c in
    let p = b.requires.0 in
    let o = b.args.out.now in
    let at = b.args.at in
    let e = b.requires.1 in
    let g1 = next_first p o at e _ _ c.words-first.ensures in
    let k = words_after b.args.net.now.n.now _ _ c.from.ensures in
    let g2 = next_second p o at e _ _ g1 _ k _ _ c.texts-old.ensures in
    let m = read_second p o at e _ _ g1 _ k _ _ c.texts-old.ensures in
    let g3 = next_third p o at e _ _ g2 _ _ c.joined_texts-second.ensures in
    let g4 = next_fourth p o at e _ _ g3 _ m _ _ c.texts-actions.ensures in
    (guarded_end p, omega (arith, short p), (counted p).1, room_fifth p o at e _ _ g4)

pub put-requires : goal.put-requires
put-requires c =
    let b = c in
    let p = b.requires.0 in
    let o = b.args.out.now in
    let at = b.args.at in
    let e = b.requires.1 in
    let g1 = next_first p o at e _ _ c.words-first.ensures in
    let k = words_after b.args.net.now.n.now _ _ c.from.ensures in
    let g2 = next_second p o at e _ _ g1 _ k _ _ c.texts-old.ensures in
    let m = read_second p o at e _ _ g1 _ k _ _ c.texts-old.ensures in
    let g3 = next_third p o at e _ _ g2 _ _ c.joined_texts-second.ensures in
    let g4 = next_fourth p o at e _ _ g3 _ m _ _ c.texts-actions.ensures in
    let g5 = next_fifth p o at e _ _ g4 _ _ c.guarded_all-third.ensures in
    room_sixth p o at e _ _ g5 _ c.from-2.ensures

pub overflow_mul-from-2 : goal.overflow_mul-from-2
overflow_mul-from-2 c = record { fits = omega (arith, last_end c.requires.0, short c.requires.0, c.from-2.ensures) }

pub overflow_add-start : goal.overflow_add-start
overflow_add-start c = record { fits = omega (arith, last_end c.requires.0, short c.requires.0, c.from-2.ensures) }

pub slice_bounds-put-end : goal.slice_bounds-put-end
slice_bounds-put-end c = omega (arith, last_end c.requires.0, c.from-2.ensures)

pub returns : goal.returns
returns c =
    let b = c in
    let p = b.requires.0 in
    let o = b.args.out.now in
    let at = b.args.at in
    let e = b.requires.1 in
    let g1 = next_first p o at e _ _ c.words-first.ensures in
    let k = words_after b.args.net.now.n.now _ _ c.from.ensures in
    let g2 = next_second p o at e _ _ g1 _ k _ _ c.texts-old.ensures in
    let m = read_second p o at e _ _ g1 _ k _ _ c.texts-old.ensures in
    let g3 = next_third p o at e _ _ g2 _ _ c.joined_texts-second.ensures in
    let g4 = next_fourth p o at e _ _ g3 _ m _ _ c.texts-actions.ensures in
    let g5 = next_fifth p o at e _ _ g4 _ _ c.guarded_all-third.ensures in
    tables_done p o at e _ _ g5 _ c.from-2.ensures _ _ c.put.ensures
