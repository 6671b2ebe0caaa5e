use Rattle.occ_law_alt.proofs.Begun.{not_halved}
use Rattle.occ_law_alt.proofs.case.halves.Goals as goal

pub returns-then-choices-ne2 : goal.returns-then-choices-ne2
returns-then-choices-ne2 c = λ b hs ks e. c.if-choices-ne2.true (not_halved c.args.choices.now _ _ _ _ e)
