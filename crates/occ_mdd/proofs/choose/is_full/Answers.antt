use Rattle.std.proofs.Common.{◌∙◌, sym, eqb-true, eq-eqb}
use Rattle.std.proofs.lemmas.Bool.{OnTrue_from, OnFalse_from, both_ways}
use Rattle.occ_mdd.proofs.Choosing.{full_from, full_is}
use Rattle.occ_mdd.proofs.choose.is_full.Goals as goal

pub returns-clause-full : goal.returns-clause-full
returns-clause-full c = OnTrue_from c.eq.result _ (λ e. full_from c.args.store.now c.args.set c.full.result c.full.ensures (eqb-true _ _ (sym c.eq.ensures ∙ e)))

pub returns-clause-other : goal.returns-clause-other
returns-clause-other c = OnFalse_from c.eq.result _ (λ e f. both_ways c.eq.result e (c.eq.ensures ∙ eq-eqb _ _ (full_is c.args.store.now c.args.set c.full.result c.requires c.full.ensures f)))
