-- `plan::of_network` meets its contract. Assumes nothing.
use native.Mathlib.Omega.{arith}
use Rattle.engine.proofs.Plans.Preparing.{network_near, network_made}
use Rattle.engine.proofs.plan.of_network.Goals as goal

pub places-places-requires : goal.places-places-requires
places-places-requires c = (c.at_most-n.ensures.1, (network_near _ c.requires _ c.network_places-x.ensures).0)

pub posts-requires : goal.posts-requires
posts-requires c = (c.at_most.ensures.1, omega (arith, (network_near _ c.requires _ c.network_places-x.ensures).1), omega arith, omega arith)

pub returns : goal.returns
returns c =
    network_made _ _ _ _ _ c.at_most-n.ensures.0 c.at_most-n.ensures.1 c.header_of-h.ensures _ _ _ _ c.at_most.ensures.0 c.network_places-x.ensures c.places-places.ensures.0 c.heads.ensures
    c.transitions.ensures _ c.posts.ensures
