use Rattle.std.proofs.Common.{sym, subst}
use Rattle.occ_norm_frame.specs.Maps.{Extends, MayHaveNodes}
use Rattle.occ_norm_frame.proofs.normaliser.Normaliser.lift.Goals as goal

pub lift-requires-clause-a : goal.lift-requires-clause-a
lift-requires-clause-a c = subst (λ v. MayHaveNodes v c.args.a) (sym c.self.view_is) c.requires.a

pub lift-requires-clause-b : goal.lift-requires-clause-b
lift-requires-clause-b c = subst (λ v. MayHaveNodes v c.args.b) (sym c.self.view_is) c.requires.b

pub returns-clause-extends : goal.returns-clause-extends
returns-clause-extends c = subst (λ v. Extends v (record c.lift.new.self.weaver.world { maps = c.lift.new.maps })) c.self.view_is c.lift.ensures.extends

pub returns-clause-lifted : goal.returns-clause-lifted
returns-clause-lifted c = (c.self.inside.lifting.manner, c.lift.ensures.lifted)
