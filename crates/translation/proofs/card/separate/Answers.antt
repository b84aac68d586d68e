-- `card::separate` meets its contract. Assumes nothing.
use borrow.Author.Rules.{rules}
use native.Mathlib.Omega.{arith}
use Rattle.translation.proofs.Cards.CardTabling.{counted}
use Rattle.translation.proofs.Cards.CardFilling.{opened_with, joined_long, whole_long, buffer_short, buffer_holds}
use Rattle.translation.proofs.card.separate.Goals as goal

pub all_short-requires : goal.all_short-requires
all_short-requires c =
    let pre = c.requires in
    let p = opened_with _ pre.0 pre.1 _ c.header_of.ensures _ c.network_places-p.ensures in
    (p.network, (counted p).0)

pub returns-then-not-all_short : goal.returns-then-not-all_short
returns-then-not-all_short c = joined_long _ _ (search (rules, c.all_short.ensures, c.if-not-all_short.true))

pub measure-size-requires : goal.measure-size-requires
measure-size-requires c = opened_with _ c.requires.0 c.requires.1 _ c.header_of.ensures _ c.network_places-p.ensures

pub returns-then-size-gt65535 : goal.returns-then-size-gt65535
returns-then-size-gt65535 c = whole_long _ _ _ c.measure-size.ensures.0 c.if-size-gt65535.true

pub returns-then-out-size : goal.returns-then-out-size
returns-then-out-size c = buffer_short _ _ _ c.measure-size.ensures.0 (search (rules, c.all_short.ensures, c.if-not-all_short.false)) c.if-size-gt65535.false c.if-out-size.true

pub fill-requires : goal.fill-requires
fill-requires c =
    let m = c.measure-size.ensures.0 in
    (opened_with _ c.requires.0 c.requires.1 _ c.header_of.ensures _ c.network_places-p.ensures, m, omega (arith, m, c.if-out-size.false))

pub returns : goal.returns
returns c = buffer_holds _ _ _ c.measure-size.ensures.0 (search (rules, c.all_short.ensures, c.if-not-all_short.false)) c.if-size-gt65535.false c.if-out-size.false _ c.fill.ensures
