use Rattle.std.proofs.Common.{refl, sym, subst}
use Rattle.occ_norm_frame.proofs.from_node.Table.{rows-keeps}
use Rattle.occ_norm_frame.proofs.Worlds.{extends_sets, right_sets}
use Rattle.occ_norm_par.specs.States.{AreStates}
use Rattle.occ_norm_par.proofs.limits.states_between.Goals as goal

pub between-requires-clause-from : goal.between-requires-clause-from
between-requires-clause-from c = subst (λ v. AreStates v.store c.args.frame.now.bits c.args.from) (sym c.world.view_is) c.requires.from

pub invariant_of-world-inside : goal.invariant_of-world-inside
invariant_of-world-inside c =
    let w = c.world.inside.lifting.weaver.world in
    record { right = rows-keeps w.store c.between.new.store c.between.ensures.keeps w.rows.keys w.right }

pub invariant_of-world : goal.invariant_of-world
invariant_of-world c = right_sets c.world.inside.lifting _ c.between.ensures.keeps refl refl c.world.invariant

pub returns-clause-extends : goal.returns-clause-extends
returns-clause-extends c = extends_sets _ c.args.world.now _ c.world.view_is c.between.ensures.keeps refl refl
