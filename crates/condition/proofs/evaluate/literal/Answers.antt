-- `evaluate::literal` meets its contract. Assumes nothing.
use mathlib.Core.Path.{◌∙◌}
use native.Mathlib.Omega.{arith}
use Rattle.condition.specs.Word.{big_endian}
use Rattle.condition.proofs.Evaluating.{literal_found}
use Rattle.condition.proofs.evaluate.literal.Goals as goal

pub returns-then-at-s : goal.returns-then-at-s
unfolding big_endian
returns-then-at-s c = literal_found c.args.s.now.now _ _ _ c.if-at-s.true (c.from_be_bytes.ensures ∙ omega arith)
