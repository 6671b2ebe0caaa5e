use Rattle.std.proofs.Common.{◌≡◌}
use Rattle.std.proofs.lemmas.Result.{IfOk-weaker}
use Rattle.occ_compare.specs.occ_node.declared.world.World.{World}
use Rattle.occ_norm_alt.specs.occ_norm_frame.Maps.{Extends}
use Rattle.occ_norm_alt.proofs.from_norm_frame.Worlds.{extends_at, extends_trans}
use Rattle.occ_norm.proofs.Rooted.{root-extends}
use Rattle.occ_norm.proofs.normal.states_in.Goals as goal

-- the worlds: before, the one that is taken, in an owner's hands before and after its work, and given back
given_back : (v u a b w : World) → u ≡ v → Extends u a → Extends a b → Extends b w → Extends v w
given_back v u a b w same taken made back = extends_trans v b w (extends_trans v a b (extends_at u v a same taken) made) back

pub returns-clause-grows : goal.returns-clause-grows
returns-clause-grows c = (given_back _ _ _ _ _ c.replace.ensures.value c.new-owner.ensures c.states_of-states.ensures.extends c.into_world.ensures).grows

pub returns-clause-maps : goal.returns-clause-maps
returns-clause-maps c = (given_back _ _ _ _ _ c.replace.ensures.value c.new-owner.ensures c.states_of-states.ensures.extends c.into_world.ensures).maps

pub returns-clause-root : goal.returns-clause-root
returns-clause-root c = IfOk-weaker c.states_of-states.result _ _
    (λ r is. root-extends _ _ c.into_world.ensures c.args.program.now.params _ r is) c.states_of-states.ensures.root
