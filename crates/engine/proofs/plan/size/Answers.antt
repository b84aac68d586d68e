-- `plan::size` meets its contract. Assumes nothing.
use borrow.Author.Rules.{rules}
use mathlib.Core.Path.{ap, ◌∙◌}
use Prim.Native.Nat.{ℕ, ◌+◌, ◌*◌}
use Rattle.sheet.proofs.Readers.Loops.{byte_past}
use Rattle.engine.proofs.plan.size.Goals as goal

pub returns-then-paired : goal.returns-then-paired
returns-then-paired c =
    let a = c.args in
    (rw c.if-paired.true (ap (λ (m : ℕ). 7 + 2 * m) (c.from.ensures ∙ c.byte_at.ensures ∙ byte_past a.s.now a.at 6)), search rules)
