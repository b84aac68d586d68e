-- `follow::word_at` meets its contract. Assumes nothing.
use mathlib.Core.Path.{◌∙◌}
use native.Mathlib.Omega.{arith}
use Rattle.condition.specs.Word.{big_endian}
use Rattle.engine.proofs.follow.word_at.Goals as goal

pub returns : goal.returns
unfolding big_endian
returns c = c.from_be_bytes.ensures ∙ omega arith
