use Rattle.std.proofs.Common.{◌&&◌, refl, sym, subst}
use Rattle.std.proofs.lemmas.Result.{IfOk-weaker}
use Rattle.occ_bits.specs.occ_dd.Store.{IsKnown, IsSet, has}
use Rattle.occ_weave.proofs.from_node.Table.{rows-keeps}
use Rattle.occ_norm_frame.proofs.Worlds.{extends_sets, right_sets}
use Rattle.occ_norm_frame.proofs.normaliser.Normaliser.within.Goals as goal

pub and-requires-clause-a : goal.and-requires-clause-a
and-requires-clause-a c = subst (λ v. IsKnown v.store c.args.set) (sym c.self.view_is) c.requires.set

pub and-requires-clause-b : goal.and-requires-clause-b
and-requires-clause-b c = subst (λ v. IsKnown v.store c.args.other) (sym c.self.view_is) c.requires.other

pub invariant_of-self-inside : goal.invariant_of-self-inside
invariant_of-self-inside c =
    let w = c.self.inside.lifting.weaver.world in
    record { right = rows-keeps w.store c.and.new.self c.and.ensures.keeps w.rows.keys w.right }

pub invariant_of-self : goal.invariant_of-self
invariant_of-self c = right_sets c.self.inside.lifting _ c.and.ensures.keeps refl refl c.self.invariant

pub returns-clause-extends : goal.returns-clause-extends
returns-clause-extends c = extends_sets _ c.args.self.now _ c.self.view_is c.and.ensures.keeps refl refl

pub returns-clause-set : goal.returns-clause-set
returns-clause-set c = IfOk-weaker c.and.result _ _
    (λ r is. subst (λ v. IsSet c.and.new.self r (λ x. has v.store c.args.set x && has v.store c.args.other x)) c.self.view_is is) c.and.ensures.set
