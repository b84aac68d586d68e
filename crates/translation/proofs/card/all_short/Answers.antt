-- `card::all_short` meets its contract. Assumes nothing.
use native.Mathlib.Omega.{arith}
use Rattle.translation.proofs.Cards.Listing.{testing_start, next_small, next_there, testing_next, testing_end}
use Rattle.translation.proofs.card.all_short.Goals as goal

pub loop-k-init : goal.loop-k-init
loop-k-init c = testing_start c.requires.0

pub joined_size-requires : goal.joined_size-requires
joined_size-requires c =
    let pre = c.requires in
    let there = next_there pre.0 _ _ (rw pre.1 at c.loop-k-test.true) c.loop-k.invariant.reached _ c.transition_at-t.ensures in
    (pre.0, there.0, there.1)

pub size_at-place-requires : goal.size_at-place-requires
size_at-place-requires c = (next_small c.requires.0 _ _ (rw c.requires.1 at c.loop-k-test.true) c.loop-k.invariant.reached).0

pub overflow_add-place : goal.overflow_add-place
overflow_add-place c = record { fits = omega (arith, (next_small c.requires.0 _ _ (rw c.requires.1 at c.loop-k-test.true) c.loop-k.invariant.reached).1, c.size_at-place.ensures.0) }

pub loop-k-preserved : goal.loop-k-preserved
loop-k-preserved c =
    let pre = c.requires in
    let g = c.loop-k.invariant in
    rw c.size_at-place.ensures.0 (testing_next pre.0 _ _ (rw pre.1 at c.loop-k-test.true) g.reached _ c.transition_at-t.ensures _ g _ c.joined_size.ensures.0)

pub returns : goal.returns
returns c = testing_end c.requires.0 _ _ _ c.loop-k.invariant (rw c.requires.1 at c.loop-k-test.false)
