-- `word::within` meets its contract. Assumes nothing.
use Rattle.std.proofs.Common.{ℕ, leb, ap, rules}
use Rattle.condition.specs.Word.{within_word}
use Rattle.condition.proofs.Words.{wraps_back}
use Rattle.condition.proofs.word.within.Goals as goal

pub returns : goal.returns
unfolding within_word
returns c =
    ap (λ (d : ℕ). leb d c.args.k)
    (wraps_back _ _ _ (search rules) c.ranges.a.fits c.ranges.b.fits c.wrapping_sub_u32-elapsed.ensures.value)
