-- `table::numbers` meets its contract. Assumes nothing.
use mathlib.Core.Path.{◌≡◌}
use mathlib.Core.List.{map}
use Prim.Native.Nat.{ℕ, ◌+◌, ◌-◌, ◌*◌, ◌≤◌}
use lib.ListN.{length}
use lib.Seq.{sets}
use Rattle.sheet.specs.Table.{starts, fit}
use Rattle.sheet.proofs.table.numbers.Given as goal

-- Storing the numbers still to come gives them all, and the place has gone on by at most 65537 bytes a record.
abbrev pub invariant-loop-i : goal.invariant-loop-i
invariant-loop-i g l =
    ((f : ℕ → ℕ) → ((a b : ℕ) → goal.F-post g l.number a b → b ≡ f a) → sets l.out l.i (map f (starts (g.R.Records.form l.records) (l.n - l.i) l.s l.place)) ≡ fit g.row.W 0 (map f (starts (g.R.Records.form l.records) l.n l.s l.at)))
    × (l.place ≤ l.at + 65537 * l.i) × (length l.out ≡ g.row.W)
