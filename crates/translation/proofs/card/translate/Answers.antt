-- `card::translate` meets its contract. Assumes nothing.
use borrow.Author.Rules.{rules}
use native.Mathlib.Omega.{arith}
use Rattle.std.proofs.lemmas.Result.{err_from_is_err_and}
use Rattle.translation.proofs.Cut.{written_short, cut, written_cut}
use Rattle.translation.proofs.Cards.CardFilling.{narrow_network, carded, never_short}
use Rattle.translation.proofs.card.translate.Goals as goal

pub slice_bounds-room-end : goal.slice_bounds-room-end
slice_bounds-room-end c = omega (arith, written_short _ _ c.translate.result c.translate.ensures.0 _ c.in_ok-k.was)

pub slice_bounds-separate-end : goal.slice_bounds-separate-end
slice_bounds-separate-end c = written_cut _ _ c.translate.result c.translate.ensures.0 _ (search rules) _ c.translate.ensures.1

pub separate-requires : goal.separate-requires
separate-requires c = narrow_network _ c.requires _ (cut _ _ c.translate.result c.translate.ensures.0 _ c.in_ok-k.was _ c.translate.ensures.1)

pub returns : goal.returns
returns c = carded _ c.requires _ (cut _ _ c.translate.result c.translate.ensures.0 _ c.in_ok-k.was _ c.translate.ensures.1) _ _ _ c.separate.ensures

pub returns-in_err-k : goal.returns-in_err-k
returns-in_err-k c =
    let e = err_from_is_err_and c.from_residual.result c.from_residual.ensures.1 in
    rw (e.1, e.2) (never_short _ c.requires _ _ (search rules) c.translate.result c.translate.ensures.0 _ c.in_err-k.was)
