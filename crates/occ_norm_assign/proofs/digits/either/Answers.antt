use Rattle.std.proofs.Common.{refl, sym, subst}
use Rattle.occ_norm_frame.specs.occ_dd.Store.{IsKnown}
use Rattle.occ_norm_frame.specs.occ_bits.Digits.{AreDigits}
use Rattle.occ_norm_frame.proofs.from_node.Table.{rows-keeps}
use Rattle.occ_norm_frame.proofs.Worlds.{extends_sets, right_sets}
use Rattle.occ_norm_assign.proofs.digits.either.Goals as goal

pub either-requires-clause-set : goal.either-requires-clause-set
either-requires-clause-set c = subst (λ v. IsKnown v.store c.args.set) (sym c.world.view_is) c.requires.set

pub either-requires-clause-yes : goal.either-requires-clause-yes
either-requires-clause-yes c = subst (λ v. AreDigits v.store c.args.yes.now) (sym c.world.view_is) c.requires.yes

pub either-requires-clause-no : goal.either-requires-clause-no
either-requires-clause-no c = subst (λ v. AreDigits v.store c.args.no.now) (sym c.world.view_is) c.requires.no

pub invariant_of-world-inside : goal.invariant_of-world-inside
invariant_of-world-inside c =
    let w = c.world.inside.lifting.weaver.world in
    record { right = rows-keeps w.store c.either.new.store c.either.ensures.keeps w.rows.keys w.right }

pub invariant_of-world : goal.invariant_of-world
invariant_of-world c = right_sets c.world.inside.lifting _ c.either.ensures.keeps refl refl c.world.invariant

pub returns-clause-extends : goal.returns-clause-extends
returns-clause-extends c = extends_sets _ c.args.world.now _ c.world.view_is c.either.ensures.keeps refl refl
