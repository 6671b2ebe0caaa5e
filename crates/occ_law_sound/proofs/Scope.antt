-- The laws of declared variables and channels: a left side has one right side at one place.
use Rattle.std.proofs.Common.{refl}
use Rattle.occ_law_sound.proofs.Fronts.{IsOnce}
use Rattle.occ_law.specs.Scope.{ChanAlt, ChanIf, ChanPar, ChanSeq, ChanSwap, ChanUnused, VarAlt, VarAny, VarAssign, VarEnd}
use Rattle.occ_law.specs.Scope.{VarFirst, VarIf, VarLast, VarPar, VarSwap, VarUnused}
use Rattle.occ_law.specs.Scope.{chan_alt, chan_if, chan_par, chan_seq, chan_swap, chan_unused, swap_variables, swap_with_channel}
use Rattle.occ_law.specs.Scope.{var_alt, var_any, var_assign, var_end, var_first, var_if, var_last, var_par, var_unused}

-- ---- variables

pub var_unused_once : IsOnce VarUnused
var_unused_once ks js l m r s e (var_unused x v p _) (var_unused y w q _) = (refl, λ n. cc)

pub var_swap_once : IsOnce VarSwap
var_swap_once ks js l m r s e (swap_variables x y v w p) (swap_variables a b t u q) = (refl, λ n. cc)
var_swap_once ks js l m r s e (swap_variables x y v w p) (swap_with_channel a b t u q) = (refl, λ n. cc)
var_swap_once ks js l m r s e (swap_with_channel x y v w p) (swap_variables a b t u q) = (refl, λ n. cc)
var_swap_once ks js l m r s e (swap_with_channel x y v w p) (swap_with_channel a b t u q) = (refl, λ n. cc)

pub var_first_once : IsOnce VarFirst
var_first_once ks js l m r s e (var_first x v p q _) (var_first y w t u _) = (refl, λ n. cc)

pub var_last_once : IsOnce VarLast
var_last_once ks js l m r s e (var_last x v p q _) (var_last y w t u _) = (refl, λ n. cc)

pub var_if_once : IsOnce VarIf
var_if_once ks js l m r s e (var_if x v cs _) (var_if y w ds _) = (refl, λ n. cc)

pub var_alt_once : IsOnce VarAlt
var_alt_once ks js l m r s e (var_alt x v gs _) (var_alt y w hs _) = (refl, λ n. cc)

pub var_par_once : IsOnce VarPar
var_par_once ks js l m r s e (var_par x v p qs _) (var_par y w t us _) = (refl, λ n. cc)

pub var_any_once : IsOnce VarAny
var_any_once ks js l m r s e (var_any x v p) (var_any y w q) = (refl, λ n. cc)

pub var_assign_once : IsOnce VarAssign
var_assign_once ks js l m r s e (var_assign x v ys fs _) (var_assign y w zs gs _) = (refl, λ n. cc)

pub var_end_once : IsOnce VarEnd
var_end_once ks js l m r s e (var_end x v p ys fs) (var_end y w q zs gs) = (refl, λ n. cc)

-- ---- channels

pub chan_unused_once : IsOnce ChanUnused
chan_unused_once ks js l m r s e (chan_unused c v p _) (chan_unused d w q _) = (refl, λ n. cc)

pub chan_swap_once : IsOnce ChanSwap
chan_swap_once ks js l m r s e (chan_swap c d v w p) (chan_swap a b t u q) = (refl, λ n. cc)

pub chan_seq_once : IsOnce ChanSeq
chan_seq_once ks js l m r s e (chan_seq c v p q) (chan_seq d w t u) = (refl, λ n. cc)

pub chan_if_once : IsOnce ChanIf
chan_if_once ks js l m r s e (chan_if c v cs) (chan_if d w ds) = (refl, λ n. cc)

pub chan_alt_once : IsOnce ChanAlt
chan_alt_once ks js l m r s e (chan_alt c v gs) (chan_alt d w hs) = (refl, λ n. cc)

pub chan_par_once : IsOnce ChanPar
chan_par_once ks js l m r s e (chan_par c v p qs _) (chan_par d w t us _) = (refl, λ n. cc)
