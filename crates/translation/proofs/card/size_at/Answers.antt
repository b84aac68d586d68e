-- `card::size_at` meets its contract. Assumes nothing.
use borrow.Author.Rules.{rules}
use mathlib.Core.Path.{ap, ◌∙◌}
use Prim.Native.Nat.{ℕ, ◌+◌, ◌*◌}
use Rattle.sheet.proofs.Readers.Loops.{byte_past}
use Rattle.translation.proofs.card.size_at.Goals as goal

pub returns : goal.returns
returns c =
    let a = c.args in
    let count = c.from.ensures in
    (ap (λ (k : ℕ). 7 + 2 * k) (count ∙ c.byte_at.ensures ∙ byte_past a.n.now a.place 6), search rules)
