-- `pack::bound_first` meets its contract. Assumes nothing.
use Rattle.std.proofs.Common.{◌≡◌, length, take, rules, tests}
use Rattle.std.specs.List.{prefix_len}
use Rattle.std.proofs.lemmas.Iterator.{YieldsList-from_slice, YieldsList-from_take}
use Rattle.std.proofs.lemmas.Iterator.Consumers.{count_from_yields_List}
use Rattle.std.proofs.lemmas.Iterator.Search.{YieldsList-from_take_while}
use Rattle.step.proofs.OnLists.Filling.{filling_start}
use Rattle.network.specs.Network.{bound_to}
use Rattle.network.proofs.Offers.Packing.{copying_next, copying_end}
use Rattle.network.proofs.pack.bound_first.Goals as goal

pub loop-i-init : goal.loop-i-init
loop-i-init c = filling_start _ _ _

pub loop-i-preserved : goal.loop-i-preserved
loop-i-preserved c =
    let p = bound_to c.args.number in
    let l = c.args.checkers.now in
    let few : c.count-count.result ≡ length (take (prefix_len p (take 4 l)) (take 4 l)) = count_from_yields_List c.take_while.result _ c.count-count.ensures.ran (YieldsList-from_take_while _ p (YieldsList-from_take 4 (YieldsList-from_slice l cc) cc) c.take_while.ensures.closure c.take_while.ensures.done (λ x b q k. search (rules, tests))) in
    copying_next c.args.number l c.count-count.result few _ _ c.loop-i.invariant c.loop-i-test.true _

pub returns : goal.returns
returns c =
    let p = bound_to c.args.number in
    let l = c.args.checkers.now in
    let few : c.count-count.result ≡ length (take (prefix_len p (take 4 l)) (take 4 l)) = count_from_yields_List c.take_while.result _ c.count-count.ensures.ran (YieldsList-from_take_while _ p (YieldsList-from_take 4 (YieldsList-from_slice l cc) cc) c.take_while.ensures.closure c.take_while.ensures.done (λ x b q k. search (rules, tests))) in
    copying_end c.args.number l c.count-count.result few _ _ c.loop-i.invariant c.loop-i-test.false
