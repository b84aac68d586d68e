-- `walk::find_tables` meets its contract. Assumes nothing.
use Rattle.sheet.proofs.Readers.Found.{tables_found}
use Rattle.sheet.proofs.walk.find_tables.Goals as goal

pub returns : goal.returns
returns g c = tables_found (g.T.Records.form c.args.transitions_of) (g.R.Records.form c.args.last_of) c.args.s.now _ _ _ _ _ c.number.ensures.0 c.number-2.ensures.0 c.number-3.ensures.0 c.number-4.ensures.0 c.number-5.ensures.0 c.number.ensures.1 c.number-2.ensures.1 c.number-3.ensures.1 c.number-4.ensures.1 _ c.has_wide.ensures _ _ _ _ c.after-actions.ensures.place c.after-transitions.ensures.place c.after-last.ensures.place c.after-end.ensures.place c.after-actions.ensures.small c.after-transitions.ensures.small c.after-last.ensures.small
