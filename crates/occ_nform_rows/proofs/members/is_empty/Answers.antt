use Rattle.std.proofs.Common.{◌∙◌, sym, eqb-true}
use Rattle.std.proofs.lemmas.Bool.{OnTrue_from}
use Rattle.occ_compare.proofs.from_mdd.Collecting.{empty_from}
use Rattle.occ_nform_rows.proofs.members.is_empty.Goals as goal

pub returns : goal.returns
returns c = OnTrue_from c.eq.result _ (λ e. empty_from c.args.store.now c.args.set c.empty.result c.empty.ensures (eqb-true _ _ (sym c.eq.ensures ∙ e)))
