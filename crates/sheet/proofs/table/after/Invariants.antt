-- `table::after` meets its contract. Assumes nothing.
use mathlib.Core.Path.{◌≡◌}
use Prim.Native.Nat.{◌+◌, ◌-◌, ◌*◌, ◌≤◌}
use Rattle.sheet.specs.Table.{after}
use Rattle.sheet.proofs.table.after.Given as goal

-- The records still to pass end where the table does, and the place has gone on by at most 65537 bytes a record.
abbrev pub invariant-loop : goal.invariant-loop
invariant-loop g l = (after (g.R.Records.form l.records) (l.n - l.counter) l.s l.place ≡ after (g.R.Records.form l.records) l.n l.s l.at) × (l.place ≤ l.at + 65537 * l.counter)
