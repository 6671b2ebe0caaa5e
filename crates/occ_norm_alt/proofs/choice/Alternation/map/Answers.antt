use Rattle.std.proofs.lemmas.Result.{IfOk-weaker}
use Rattle.occ_norm_alt.proofs.Alternatives.{alternated_later}
use Rattle.occ_norm_alt.proofs.choice.Alternation.map.Goals as goal

pub returns-clause-after : goal.returns-clause-after
returns-clause-after c = IfOk-weaker c.finished.result _ _
    (λ r is layout keep closed Γ bs rest before. alternated_later c.args.world.now c.finished.new.self c.finished.ensures.extends layout keep closed Γ bs rest c.args.self.waiting c.args.self.ready r c.requires is before)
    c.finished.ensures.finished
