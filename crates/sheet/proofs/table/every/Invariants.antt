use Rattle.std.proofs.Common.{◌≡◌, ◌≤◌, Bool, ℕ, drop, ◌+◌, ◌-◌, ◌*◌}
use Rattle.sheet.specs.Table.{table, every}
use Rattle.sheet.proofs.table.every.Given as goal

-- The test of the records still to come is the test of them all, and the place has gone on by at most 65537 bytes a record.
abbrev pub invariant-loop : goal.invariant-loop
invariant-loop g l =
    ((p : g.R.Records.Value → Bool) → ((a : ℕ) (b : Bool) → goal.F-post g l.test a b → b ≡ p ((g.R.Records.form l.records).value (drop a l.s))) → every p (table (g.R.Records.form l.records) (l.n - l.counter) l.s l.place) ≡ every p (table (g.R.Records.form l.records) l.n l.s l.at))
    × (l.place ≤ l.at + 65537 * l.counter)
