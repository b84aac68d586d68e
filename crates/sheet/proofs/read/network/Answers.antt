-- `read::network` meets its contract. Assumes nothing.
use mathlib.Core.Path.{refl, sym, ap, ◌∙◌}
use Rattle.sheet.specs.Reading.{network_layout}
use Rattle.sheet.specs.Answer.{answer}
use Rattle.sheet.proofs.Readers.Refusals.{refuse_1, refuse_2, refuse_3, refuse_4, refuse_5, refuse_6, refuse_7, refuse_none, few_network}
use Rattle.sheet.proofs.read.network.Goals as goal

pub returns-else-whole : goal.returns-else-whole
returns-else-whole c = ap answer (refuse_1 network_layout _ (sym c.whole.ensures ∙ c.if-whole.false))

pub returns-else-version_is : goal.returns-else-version_is
returns-else-version_is c = ap answer (refuse_2 network_layout _ (sym c.whole.ensures ∙ c.if-whole.true) (sym c.version_is.ensures ∙ c.if-version_is.false))

pub returns-else-network_counts : goal.returns-else-network_counts
returns-else-network_counts c = ap answer (refuse_3 network_layout _ (sym c.whole.ensures ∙ c.if-whole.true) (sym c.version_is.ensures ∙ c.if-version_is.true) (sym c.network_counts.ensures ∙ c.if-network_counts.false))

pub returns-else-network_tabled : goal.returns-else-network_tabled
returns-else-network_tabled c = ap answer (refuse_4 network_layout _ (sym c.whole.ensures ∙ c.if-whole.true) (sym c.version_is.ensures ∙ c.if-version_is.true) (sym c.network_counts.ensures ∙ c.if-network_counts.true) (sym c.network_tabled.ensures ∙ c.if-network_tabled.false))

pub texts_formed-requires : goal.texts_formed-requires
texts_formed-requires c = let f = c.network_tables-t.ensures in (f.conditions, f.actions, f.small_conditions, f.small_actions)

pub returns-else-texts_formed : goal.returns-else-texts_formed
returns-else-texts_formed c = ap answer (refuse_5 network_layout _ (sym c.whole.ensures ∙ c.if-whole.true) (sym c.version_is.ensures ∙ c.if-version_is.true) (sym c.network_counts.ensures ∙ c.if-network_counts.true) (sym c.network_tabled.ensures ∙ c.if-network_tabled.true) (sym c.texts_formed.ensures ∙ c.if-texts_formed.false))

pub returns-else-network_ranged : goal.returns-else-network_ranged
returns-else-network_ranged c = ap answer (refuse_6 network_layout _ (sym c.whole.ensures ∙ c.if-whole.true) (sym c.version_is.ensures ∙ c.if-version_is.true) (sym c.network_counts.ensures ∙ c.if-network_counts.true) (sym c.network_tabled.ensures ∙ c.if-network_tabled.true) (sym c.texts_formed.ensures ∙ c.if-texts_formed.true) (sym c.network_ranged.ensures ∙ c.if-network_ranged.false))

pub network_roled-requires : goal.network_roled-requires
network_roled-requires c = (c.network_tables-t.ensures, few_network c.args.s.now (sym c.network_counts.ensures ∙ c.if-network_counts.true))

pub returns-else-network_roled : goal.returns-else-network_roled
returns-else-network_roled c = ap answer (refuse_7 network_layout _ (sym c.whole.ensures ∙ c.if-whole.true) (sym c.version_is.ensures ∙ c.if-version_is.true) (sym c.network_counts.ensures ∙ c.if-network_counts.true) (sym c.network_tabled.ensures ∙ c.if-network_tabled.true) (sym c.texts_formed.ensures ∙ c.if-texts_formed.true) (sym c.network_ranged.ensures ∙ c.if-network_ranged.true) (sym c.network_roled.ensures ∙ c.if-network_roled.false))

pub returns : goal.returns
returns c = ap answer (refuse_none network_layout _ (sym c.whole.ensures ∙ c.if-whole.true) (sym c.version_is.ensures ∙ c.if-version_is.true) (sym c.network_counts.ensures ∙ c.if-network_counts.true) (sym c.network_tabled.ensures ∙ c.if-network_tabled.true) (sym c.texts_formed.ensures ∙ c.if-texts_formed.true) (sym c.network_ranged.ensures ∙ c.if-network_ranged.true) (sym c.network_roled.ensures ∙ c.if-network_roled.true) refl)
