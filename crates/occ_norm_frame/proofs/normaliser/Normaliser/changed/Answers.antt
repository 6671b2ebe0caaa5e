use Rattle.std.proofs.Common.{◌==◌, not, refl, sym, subst}
use Rattle.std.proofs.lemmas.Result.{IfOk-weaker}
use Rattle.std.specs.Int.{bit_at}
use Rattle.std.specs.Prelude.{if◌then◌else◌}
use Rattle.occ_bits.specs.occ_dd.Store.{IsKnown, IsSet, has}
use Rattle.occ_weave.proofs.from_node.Table.{rows-keeps}
use Rattle.occ_norm_frame.proofs.Worlds.{extends_sets, right_sets}
use Rattle.occ_norm_frame.proofs.normaliser.Normaliser.changed.Goals as goal

pub turned-requires-clause-set : goal.turned-requires-clause-set
turned-requires-clause-set c = subst (λ v. IsKnown v.store c.args.set) (sym c.self.view_is) c.requires.set

pub invariant_of-self-inside : goal.invariant_of-self-inside
invariant_of-self-inside c =
    let w = c.self.inside.lifting.weaver.world in
    record { right = rows-keeps w.store c.turned.new.store c.turned.ensures.keeps w.rows.keys w.right }

pub invariant_of-self : goal.invariant_of-self
invariant_of-self c = right_sets c.self.inside.lifting _ c.turned.ensures.keeps refl refl c.self.invariant

pub returns-clause-extends : goal.returns-clause-extends
returns-clause-extends c = extends_sets _ c.args.self.now _ c.self.view_is c.turned.ensures.keeps refl refl

pub returns-clause-set : goal.returns-clause-set
returns-clause-set c = IfOk-weaker c.turned.result _ _
    (λ r is. subst (λ v. IsSet c.turned.new.store r (λ x. if has v.store c.args.set x then not (bit_at x c.args.bit == 1) else bit_at x c.args.bit == 1)) c.self.view_is is) c.turned.ensures.set
