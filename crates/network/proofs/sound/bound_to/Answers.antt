-- `sound::bound_to` meets its contract. Assumes nothing.
use Rattle.std.proofs.Common.{◌∙◌, ap, length, rules, tests}
use Rattle.std.proofs.lemmas.Iterator.{YieldsList-from_slice}
use Rattle.std.proofs.lemmas.Iterator.Consumers.{count_from_yields_List, YieldsList-from_filter}
use Rattle.network.specs.Network.{bound_to}
use Rattle.network.proofs.SoundTests.Counting.{filter_keep}
use Rattle.network.proofs.sound.bound_to.Goals as goal

pub returns : goal.returns
returns c =
    let l = c.args.checkers.now in
    count_from_yields_List c.filter.result _ c.count.ensures.ran (YieldsList-from_filter _ (bound_to c.args.number) (YieldsList-from_slice l (cc)) c.filter.ensures.closure (λ x b q k. search (rules, tests)))
    ∙ ap length (filter_keep (bound_to c.args.number) l)
