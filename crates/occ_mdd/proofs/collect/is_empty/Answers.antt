use Rattle.std.proofs.Common.{◌∙◌, sym, eqb-true, eq-eqb}
use Rattle.std.proofs.lemmas.Bool.{OnTrue_from, OnFalse_from, both_ways}
use Rattle.occ_mdd.proofs.Collecting.{empty_from, filled_from}
use Rattle.occ_mdd.proofs.collect.is_empty.Goals as goal

pub returns-clause-empty : goal.returns-clause-empty
returns-clause-empty c = OnTrue_from c.eq.result _ (λ e. empty_from c.args.store.now c.args.set c.empty.result c.empty.ensures (eqb-true _ _ (sym c.eq.ensures ∙ e)))

pub returns-clause-filled : goal.returns-clause-filled
returns-clause-filled c = OnFalse_from c.eq.result _ (λ e. filled_from c.args.store.now c.args.set c.empty.result c.requires c.empty.ensures (λ f. both_ways c.eq.result e (c.eq.ensures ∙ eq-eqb _ _ f)))
