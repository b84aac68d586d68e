-- `plan::of_sheet` meets its contract. Assumes nothing.
use native.Mathlib.Omega.{arith}
use Rattle.engine.proofs.Plans.Preparing.{sheet_near, sheet_made}
use Rattle.engine.proofs.plan.of_sheet.Goals as goal

pub places-places-requires : goal.places-places-requires
places-places-requires c = (c.at_most-n.ensures.1, (sheet_near _ c.requires _ c.sheet_places-x.ensures).0)

pub triples-requires : goal.triples-requires
triples-requires c = (c.at_most-m.ensures.1, omega (arith, (sheet_near _ c.requires _ c.sheet_places-x.ensures).1))

pub posts-requires : goal.posts-requires
posts-requires c = (c.at_most-m.ensures.1, omega (arith, (sheet_near _ c.requires _ c.sheet_places-x.ensures).1), omega arith, omega arith)

pub returns : goal.returns
returns c =
    sheet_made _ _ _ _ _ c.at_most-n.ensures.0 c.at_most-n.ensures.1 c.header_of-h.ensures _ _ _ _ c.at_most-m.ensures.0 c.sheet_places-x.ensures c.places-places.ensures.0 c.heads.ensures
    c.transitions.ensures _ c.triples.ensures _ c.posts.ensures
