-- The laws of a world with its tables, as it grows.
use Rattle.std.proofs.Common.{Option, refl, sym, ◌∙◌, subst}
use Rattle.occ_weave.specs.occ_node.declared.node.NodeId.{NodeId}
use Rattle.occ_norm_frame.specs.Earlier.{grows_so, leads_itself, leads_through, node_later}
use Rattle.occ_weave.specs.declared.manner.Manner.{Manner}
use Rattle.occ_norm_frame.specs.Lifted.{IsLifted}
use Rattle.occ_norm_frame.specs.Lifting.{Accepts, Goes, Relates}
use Rattle.occ_norm_frame.specs.declared.lifting.Lifting.{Lifting}
use Rattle.occ_norm_frame.specs.declared.step.Step.{Step}
use Rattle.occ_norm_frame.specs.Growth.{lifted_grow}

pub goes_refl : (f : Lifting) → Goes f f
goes_refl f = record { leads = leads_itself f.weaver.world; step = refl; manner = refl; right = λ h. h }

pub goes_trans : (f g h : Lifting) → Goes f g → Goes g h → Goes f h
goes_trans f g h k l = record {
  leads = leads_through f.weaver.world g.weaver.world h.weaver.world k.leads l.leads;
  step = l.step ∙ k.step;
  manner = l.manner ∙ k.manner;
  right = λ is. l.right (k.right is);
}

pub accepts_later : (f g : Lifting) (x : NodeId) → Goes f g → Accepts f x → Accepts g x
accepts_later f g x k is = record { node = node_later f.weaver.world g.weaver.world k.leads x is.node; right = k.right is.right }

pub relates_later : (f g : Lifting) (x y z : Option NodeId) → Goes f g → Relates f x y z → Relates g x y z
relates_later f g x y z k is =
    subst (λ (m : Manner). IsLifted m g.step g.weaver.world x y z) (sym k.manner)
    (subst (λ (s : Step). IsLifted f.manner s g.weaver.world x y z) (sym k.step)
    (lifted_grow f.weaver.world g.weaver.world (grows_so f.weaver.world g.weaver.world k.leads) f.manner f.step x y z is))
