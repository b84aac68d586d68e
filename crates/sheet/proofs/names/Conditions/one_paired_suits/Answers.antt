-- `Conditions::one_paired_suits` meets its contract. Assumes nothing.
use mathlib.Core.Path.{ap₂, ◌∙◌}
use mathlib.Core.Bool.{◌&&◌}
use Rattle.sheet.specs.Table.{every}
use Rattle.sheet.specs.Walk.{guard_suits, pair_suits}
use Rattle.sheet.proofs.Readers.Found.{paired_value}
use Rattle.sheet.proofs.names.Conditions.one_paired_suits.Goals as goal

pub returns : goal.returns
returns c =
    let a = c.args in
    ap₂ ◌&&◌ c.guard_suits.ensures c.pairs_suit.ensures
    ∙ paired_value (λ t ps. guard_suits a.self.now t && every (pair_suits a.self.now) ps) a.self.now.s.now a.at _ _ c.transition-t.ensures c.number-pairs.ensures.0
