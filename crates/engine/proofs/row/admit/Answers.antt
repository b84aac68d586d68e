-- `row::admit` meets its contract. Assumes nothing.
use native.Mathlib.Omega.{arith}
use Rattle.engine.proofs.InWords.Refused.{refused_judged, refused_form, refused_last, refused_entry, refused_exit}
use Rattle.engine.proofs.row.admit.Goals as goal

pub returns-then-is_judged : goal.returns-then-is_judged
returns-then-is_judged c = refused_judged _ _ _ _ _ _ c.is_judged.ensures c.if-is_judged.true

pub returns-else-given-from : goal.returns-else-given-from
returns-else-given-from c = refused_form _ _ _ _ _ _ c.is_judged.ensures c.if-is_judged.false _ c.from.ensures _ c.from-2.ensures _ c.from-3.ensures c.if-given-from.false

pub returns-then-run-eq4294967295 : goal.returns-then-run-eq4294967295
returns-then-run-eq4294967295 c = refused_last _ _ _ _ _ _ c.is_judged.ensures c.if-is_judged.false _ c.from.ensures _ c.from-2.ensures _ c.from-3.ensures c.if-given-from.true c.if-run-eq4294967295.true

pub admit_exit-requires : goal.admit_exit-requires
admit_exit-requires c =
    let opened = c.from-else-given-eq0.ensures in
    (omega (arith, c.requires.0, opened), λ h. c.requires.1 (omega (arith, h, opened)))

pub returns-then-given-eq0 : goal.returns-then-given-eq0
returns-then-given-eq0 c = refused_entry _ _ _ _ _ _ c.is_judged.ensures c.if-is_judged.false _ c.from.ensures _ c.from-2.ensures _ c.from-3.ensures c.if-given-from.true c.if-run-eq4294967295.false _ c.from-then-given-eq0.ensures _ c.if-given-eq0.true c.admit_entry.ensures

pub returns-else-given-eq0 : goal.returns-else-given-eq0
returns-else-given-eq0 c = refused_exit _ _ _ _ _ _ c.is_judged.ensures c.if-is_judged.false _ c.from.ensures _ c.from-2.ensures _ c.from-3.ensures c.if-given-from.true c.if-run-eq4294967295.false _ c.from-else-given-eq0.ensures _ c.if-given-eq0.false _ c.from-else-given-eq0-2.ensures c.admit_exit.ensures
