-- `bytes::word` meets its contract. Assumes nothing.
use mathlib.Core.Path.{ap}
use native.Mathlib.Nat.{add_assoc}
use native.Mathlib.Omega.{arith}
use Prim.Native.Nat.{ℕ}
use lib.ListN.{get_or}
use Rattle.condition.specs.Word.{big_endian}
use Rattle.sheet.proofs.bytes.word.Goals as goal

pub returns : goal.returns
unfolding big_endian
returns c = omega (arith, ap (λ (n : ℕ). get_or c.args.s.now n 0) (add_assoc c.args.at 2 1))
