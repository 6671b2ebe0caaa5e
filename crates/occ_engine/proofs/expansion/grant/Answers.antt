use Rattle.std.proofs.Common.{ap, sym, subst}
use Rattle.std.proofs.lemmas.Result.{IfErr-weaker}
use Rattle.std.specs.Option.{option_map}
use Rattle.occ_engine.proofs.Granting.{direct_ungranted}
use Rattle.occ_engine.specs.Granted.{IsNotGranted}
use Rattle.occ_engine.specs.Moved.{wish_for}
use Rattle.occ_syntax.specs.View.{tree}
use Rattle.occ_engine.proofs.expansion.grant.Goals as goal

pub returns-in-None-clause-stopped : goal.returns-in-None-clause-stopped
returns-in-None-clause-stopped c =
    let wish = c.args.wish.now in
    let program = c.args.program in
    IfErr-weaker c.direct.result _ _ (λ s h.
    subst (λ o. IsNotGranted program.params (tree program.body) (wish_for wish.law wish.dir wish.path o) s) (sym (ap (option_map tree) c.in-None.is))
    (direct_ungranted program wish.law wish.dir wish.path s h)) c.direct.ensures.stopped
