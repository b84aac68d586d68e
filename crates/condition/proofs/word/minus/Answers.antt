-- `word::minus` meets its contract. Assumes nothing.
use Rattle.std.proofs.Common.{ℤ, sym, ap, ◌∙◌}
use Rattle.condition.specs.Word.{unsigned, clamp, minus_word}
use Rattle.condition.proofs.Ends.{minus_raised}
use Rattle.condition.proofs.word.minus.Goals as goal

pub returns : goal.returns
unfolding minus_word
returns c = rw (c.raised-2.ensures.0, c.raised.ensures.0) at c.clamped.ensures ∙ ap (λ (z : ℤ). unsigned (clamp z)) (sym (minus_raised _ _ c.ranges.a.fits c.ranges.b.fits))
