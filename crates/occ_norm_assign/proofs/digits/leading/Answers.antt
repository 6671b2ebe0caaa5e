use Rattle.std.proofs.Common.{refl, sym, subst}
use Rattle.occ_norm_frame.specs.occ_dd.Store.{IsKnown}
use Rattle.occ_norm_frame.specs.occ_bits.Digits.{AreDigits, KeepComposed}
use Rattle.occ_norm_frame.proofs.from_node.Table.{rows-keeps}
use Rattle.occ_norm_frame.proofs.Worlds.{extends_sets, right_sets}
use Rattle.occ_norm_assign.proofs.digits.leading.Goals as goal

pub leading-requires-clause-digits : goal.leading-requires-clause-digits
leading-requires-clause-digits c = subst (λ v. AreDigits v.store c.args.digits.now) (sym c.world.view_is) c.requires.digits

pub leading-requires-clause-set : goal.leading-requires-clause-set
leading-requires-clause-set c = subst (λ v. IsKnown v.store c.args.set) (sym c.world.view_is) c.requires.set

pub leading-requires-clause-memo : goal.leading-requires-clause-memo
leading-requires-clause-memo c = subst (λ v. KeepComposed v.store c.args.digits.now c.args.memo.now) (sym c.world.view_is) c.requires.memo

pub invariant_of-world-inside : goal.invariant_of-world-inside
invariant_of-world-inside c =
    let w = c.world.inside.lifting.weaver.world in
    record { right = rows-keeps w.store c.leading.new.store c.leading.ensures.keeps w.rows.keys w.right }

pub invariant_of-world : goal.invariant_of-world
invariant_of-world c = right_sets c.world.inside.lifting _ c.leading.ensures.keeps refl refl c.world.invariant

pub returns-clause-extends : goal.returns-clause-extends
returns-clause-extends c = extends_sets _ c.args.world.now _ c.world.view_is c.leading.ensures.keeps refl refl
