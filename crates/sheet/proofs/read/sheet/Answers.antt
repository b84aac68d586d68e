-- `read::sheet` meets its contract. Assumes nothing.
use mathlib.Core.Path.{sym, ap, ◌∙◌}
use mathlib.Core.Bool.{true, false}
use native.Mathlib.Omega.{arith}
use Rattle.sheet.specs.Reading.{sheet_layout}
use Rattle.sheet.specs.Answer.{answer}
use Rattle.sheet.proofs.Readers.Refusals.{refuse_1, refuse_2, refuse_3, refuse_4, refuse_5, refuse_6, refuse_7, refuse_8, refuse_none, counted_is, few_conditions_lem, spread_is, all_within}
use borrow.Author.Rules.{rules}
use Rattle.sheet.proofs.read.sheet.Goals as goal

pub returns-else-whole : goal.returns-else-whole
returns-else-whole c = ap answer (refuse_1 sheet_layout _ (sym c.whole.ensures ∙ c.if-whole.false))

pub returns-else-version_is : goal.returns-else-version_is
returns-else-version_is c = ap answer (refuse_2 sheet_layout _ (sym c.whole.ensures ∙ c.if-whole.true) (sym c.version_is.ensures ∙ c.if-version_is.false))

pub returns-else-counts_hold : goal.returns-else-counts_hold
returns-else-counts_hold c = ap answer (refuse_3 sheet_layout _ (sym c.whole.ensures ∙ c.if-whole.true) (sym c.version_is.ensures ∙ c.if-version_is.true) (counted_is sheet_layout _ false (sym c.counts_hold.ensures ∙ c.if-counts_hold.false)))

pub returns-else-sheet_tabled : goal.returns-else-sheet_tabled
returns-else-sheet_tabled c = ap answer (refuse_4 sheet_layout _ (sym c.whole.ensures ∙ c.if-whole.true) (sym c.version_is.ensures ∙ c.if-version_is.true) (counted_is sheet_layout _ true (sym c.counts_hold.ensures ∙ c.if-counts_hold.true)) (sym c.sheet_tabled.ensures ∙ c.if-sheet_tabled.false))

pub texts_formed-requires : goal.texts_formed-requires
texts_formed-requires c = let f = c.sheet_tables-t.ensures in (f.conditions, f.actions, f.small_conditions, f.small_actions)

pub returns-else-texts_formed : goal.returns-else-texts_formed
returns-else-texts_formed c = ap answer (refuse_5 sheet_layout _ (sym c.whole.ensures ∙ c.if-whole.true) (sym c.version_is.ensures ∙ c.if-version_is.true) (counted_is sheet_layout _ true (sym c.counts_hold.ensures ∙ c.if-counts_hold.true)) (sym c.sheet_tabled.ensures ∙ c.if-sheet_tabled.true) (sym c.texts_formed.ensures ∙ c.if-texts_formed.false))

pub returns-else-sheet_ranged : goal.returns-else-sheet_ranged
returns-else-sheet_ranged c = ap answer (refuse_6 sheet_layout _ (sym c.whole.ensures ∙ c.if-whole.true) (sym c.version_is.ensures ∙ c.if-version_is.true) (counted_is sheet_layout _ true (sym c.counts_hold.ensures ∙ c.if-counts_hold.true)) (sym c.sheet_tabled.ensures ∙ c.if-sheet_tabled.true) (sym c.texts_formed.ensures ∙ c.if-texts_formed.true) (sym c.sheet_ranged.ensures ∙ c.if-sheet_ranged.false))

pub sheet_roled-requires : goal.sheet_roled-requires
sheet_roled-requires c = (c.sheet_tables-t.ensures, few_conditions_lem c.args.s.now 64 32 64 (omega arith) (sym c.counts_hold.ensures ∙ c.if-counts_hold.true))

pub returns-else-sheet_roled : goal.returns-else-sheet_roled
returns-else-sheet_roled c = ap answer (refuse_7 sheet_layout _ (sym c.whole.ensures ∙ c.if-whole.true) (sym c.version_is.ensures ∙ c.if-version_is.true) (counted_is sheet_layout _ true (sym c.counts_hold.ensures ∙ c.if-counts_hold.true)) (sym c.sheet_tabled.ensures ∙ c.if-sheet_tabled.true) (sym c.texts_formed.ensures ∙ c.if-texts_formed.true) (sym c.sheet_ranged.ensures ∙ c.if-sheet_ranged.true) (sym c.sheet_roled.ensures ∙ c.if-sheet_roled.false))

pub spread-requires : goal.spread-requires
spread-requires c = (search rules, search rules, all_within c.args.s.now _ _ c.sheet_tables-t.ensures.last c.number.ensures.0 (sym c.counts_hold.ensures ∙ c.if-counts_hold.true) (sym c.sheet_ranged.ensures ∙ c.if-sheet_ranged.true))

pub returns-else-spread : goal.returns-else-spread
returns-else-spread c = ap answer (refuse_8 sheet_layout _ (sym c.whole.ensures ∙ c.if-whole.true) (sym c.version_is.ensures ∙ c.if-version_is.true) (counted_is sheet_layout _ true (sym c.counts_hold.ensures ∙ c.if-counts_hold.true)) (sym c.sheet_tabled.ensures ∙ c.if-sheet_tabled.true) (sym c.texts_formed.ensures ∙ c.if-texts_formed.true) (sym c.sheet_ranged.ensures ∙ c.if-sheet_ranged.true) (sym c.sheet_roled.ensures ∙ c.if-sheet_roled.true) (spread_is _ _ _ c.sheet_tables-t.ensures.last c.number.ensures.0 _ (sym c.spread.ensures ∙ c.if-spread.false)))

pub returns-then-spread : goal.returns-then-spread
returns-then-spread c = ap answer (refuse_none sheet_layout _ (sym c.whole.ensures ∙ c.if-whole.true) (sym c.version_is.ensures ∙ c.if-version_is.true) (counted_is sheet_layout _ true (sym c.counts_hold.ensures ∙ c.if-counts_hold.true)) (sym c.sheet_tabled.ensures ∙ c.if-sheet_tabled.true) (sym c.texts_formed.ensures ∙ c.if-texts_formed.true) (sym c.sheet_ranged.ensures ∙ c.if-sheet_ranged.true) (sym c.sheet_roled.ensures ∙ c.if-sheet_roled.true) (spread_is _ _ _ c.sheet_tables-t.ensures.last c.number.ensures.0 _ (sym c.spread.ensures ∙ c.if-spread.true)))
