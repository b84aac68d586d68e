-- `card::joined_texts` meets its contract. Assumes nothing.
use native.Mathlib.Omega.{arith}
use Rattle.translation.proofs.Cards.Listing.{listing_start, next_small, next_there, listing_half, listing_room, listing_next, listing_end}
use Rattle.translation.proofs.Writing.{half_is}
use Rattle.translation.proofs.card.joined_texts.Goals as goal

pub loop-k-init : goal.loop-k-init
loop-k-init c = listing_start c.requires.0 _ _

pub joined_size-size-requires : goal.joined_size-size-requires
joined_size-size-requires c =
    let pre = c.requires in
    let there = next_there pre.0 _ _ (rw pre.1 at c.loop-k-test.true) c.loop-k.invariant.reached _ c.transition_at-t.ensures in
    (pre.0, there.0, there.1)

pub put-next-requires : goal.put-next-requires
put-next-requires c =
    let pre = c.requires in
    let g = c.loop-k.invariant in
    rw (half_is _ c.joined_size-size.ensures.1 _ c.to_be_bytes.ensures)
    (listing_half pre.0 _ _ (rw pre.1 at c.loop-k-test.true) g.reached _ c.transition_at-t.ensures _ _ _ _ g pre.2 _ c.joined_size-size.ensures.0)

pub joined-here-requires : goal.joined-here-requires
joined-here-requires c =
    let pre = c.requires in
    let g = c.loop-k.invariant in
    let h = rw pre.1 at c.loop-k-test.true in
    let t = c.transition_at-t.ensures in
    let there = next_there pre.0 _ _ h g.reached _ t in
    (pre.0, there.0, there.1, listing_room pre.0 _ _ h g.reached _ t _ _ _ _ g pre.2 _ c.joined_size-size.ensures.0 _ _ (rw (half_is _ c.joined_size-size.ensures.1 _ c.to_be_bytes.ensures) at c.put-next.ensures))

pub size_at-place-requires : goal.size_at-place-requires
size_at-place-requires c = (next_small c.requires.0 _ _ (rw c.requires.1 at c.loop-k-test.true) c.loop-k.invariant.reached).0

pub overflow_add-place : goal.overflow_add-place
overflow_add-place c = record { fits = omega (arith, (next_small c.requires.0 _ _ (rw c.requires.1 at c.loop-k-test.true) c.loop-k.invariant.reached).1, c.size_at-place.ensures.0) }

pub loop-k-preserved : goal.loop-k-preserved
loop-k-preserved c =
    let pre = c.requires in
    let g = c.loop-k.invariant in
    rw c.size_at-place.ensures.0
    (listing_next pre.0 _ _ (rw pre.1 at c.loop-k-test.true) g.reached _ c.transition_at-t.ensures _ _ _ _ g pre.2 _ c.joined_size-size.ensures.0 _ _ (rw (half_is _ c.joined_size-size.ensures.1 _ c.to_be_bytes.ensures) at c.put-next.ensures) _ _ c.joined-here.ensures)

pub returns : goal.returns
returns c = listing_end c.requires.0 _ _ _ _ _ _ c.loop-k.invariant (rw c.requires.1 at c.loop-k-test.false)
