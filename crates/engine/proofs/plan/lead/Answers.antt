-- `plan::lead` meets its contract. Assumes nothing.
use mathlib.Core.Path.{sym, ◌∙◌}
use native.Mathlib.Omega.{arith}
use borrow.Author.Tests.{eq-eqb, ne_eqb}
use Rattle.sheet.specs.Bytes.{byte}
use Rattle.engine.proofs.plan.lead.Goals as goal

pub returns-then-byte_at-eq3 : goal.returns-then-byte_at-eq3
returns-then-byte_at-eq3 c = (rw (eq-eqb (byte c.args.s.now 2) 3 (sym c.byte_at.ensures ∙ c.if-byte_at-eq3.true)), omega arith)

pub returns-else-byte_at-eq3 : goal.returns-else-byte_at-eq3
returns-else-byte_at-eq3 c = (rw (ne_eqb (byte c.args.s.now 2) 3 (λ e. c.if-byte_at-eq3.false (c.byte_at.ensures ∙ e))), omega arith)
