-- `Names::pair_ranged` meets its contract. Assumes nothing.
use Rattle.sheet.proofs.Readers.Found.{pair_found}
use Rattle.sheet.proofs.names.Names.pair_ranged.Goals as goal

pub returns : goal.returns
returns c =
    let a = c.args in
    let n = a.self.now in
    pair_found n.s.now a.p a.t n.counts n.last n.templates _ _ c.from-k.ensures c.byte-unit.ensures
