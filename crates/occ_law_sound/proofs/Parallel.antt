-- The laws of PAR: a left side has one right side at one place.
use Rattle.std.proofs.Common.{List, refl}
use Rattle.occ_law.specs.occ_base.declared.names.Name.{Name}
use Rattle.occ_law_sound.proofs.Fronts.{IsOnce, par_parts}
use Rattle.occ_law.specs.Parallel.{ParAssign, ParExpand, ParFlat, ParIf, ParNone, ParOne, ParSkip, ParStop}
use Rattle.occ_law.specs.Parallel.{par_assign, par_expand, par_flat, par_if, par_none, par_one, par_skip, par_stop}
use Rattle.occ_law.specs.occ_syntax.declared.scope.Kind.{Kind}

pub par_none_once : IsOnce ParNone
par_none_once ks js l m r s e par_none par_none = (refl, λ n. refl)

pub par_one_once : IsOnce ParOne
par_one_once ks js l m r s e (par_one p) (par_one q) = (refl, λ n. cc)

pub par_flat_once : IsOnce ParFlat
par_flat_once ks js l m r s e (par_flat ps qs rs) (par_flat us vs ws) = (refl, λ n. par_parts ps us _ _ n e (λ f g. cc))

pub par_skip_once : IsOnce ParSkip
par_skip_once ks js l m r s e (par_skip ps qs) (par_skip us vs) = (refl, λ n. par_parts ps us _ _ n e (λ f g. cc))

pub par_stop_once : IsOnce ParStop
par_stop_once ks js l m r s e (par_stop p) (par_stop q) = (refl, λ n. cc)

pub par_assign_once : IsOnce ParAssign
par_assign_once ks js l m r s e (par_assign xs es ps p) (par_assign ys fs qs q) = (refl, λ n. cc)

pub par_if_once : (S : List (Name × Kind)) → IsOnce (ParIf S)
par_if_once S ks js l m r s e (par_if cs p _ _) (par_if ds q _ _) = (refl, λ n. cc)

pub par_expand_once : IsOnce ParExpand
par_expand_once ks js l m r s e (par_expand gs hs) (par_expand is os) = (refl, λ n. cc)
