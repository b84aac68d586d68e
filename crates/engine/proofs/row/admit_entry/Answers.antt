-- `row::admit_entry` meets its contract. Assumes nothing.
use Rattle.engine.proofs.InWords.Refused.{entry_again, entry_free, entry_full}
use Rattle.engine.proofs.row.admit_entry.Goals as goal

pub returns-then-place-opened : goal.returns-then-place-opened
returns-then-place-opened c = entry_again _ _ c.if-place-opened.true

pub returns-then-opened-lt-CALLS : goal.returns-then-opened-lt-CALLS
returns-then-opened-lt-CALLS c = entry_free _ _ c.if-place-opened.false c.if-opened-lt-CALLS.true

pub returns-else-opened-lt-CALLS : goal.returns-else-opened-lt-CALLS
returns-else-opened-lt-CALLS c = entry_full _ _ c.if-place-opened.false c.if-opened-lt-CALLS.false
