-- The laws of SEQ, of assignment and of communication: a left side has one right side at one place.
use Rattle.std.proofs.Common.{refl}
use Rattle.occ_law_sound.proofs.Fronts.{IsOnce, seq_parts}
use Rattle.occ_law.specs.Sequence.{AssignAlt, AssignId, AssignIf, AssignJoin, IoAlt, SeqAlt, SeqFlat, SeqIf, SeqNone, SeqOne}
use Rattle.occ_law.specs.Sequence.{SeqSkip, SeqStop}
use Rattle.occ_law.specs.Sequence.{assign_alt, assign_id, assign_if, assign_join, input_alt, output_alt, seq_alt, seq_flat, seq_if}
use Rattle.occ_law.specs.Sequence.{seq_none, seq_one, seq_skip, seq_stop}

pub seq_none_once : IsOnce SeqNone
seq_none_once ks js l m r s e seq_none seq_none = (refl, λ n. refl)

pub seq_one_once : IsOnce SeqOne
seq_one_once ks js l m r s e (seq_one p) (seq_one q) = (refl, λ n. cc)

pub seq_flat_once : IsOnce SeqFlat
seq_flat_once ks js l m r s e (seq_flat ps qs rs) (seq_flat us vs ws) = (refl, λ n. seq_parts ps us _ _ n e (λ f g. cc))

pub seq_skip_once : IsOnce SeqSkip
seq_skip_once ks js l m r s e (seq_skip ps qs) (seq_skip us vs) = (refl, λ n. seq_parts ps us _ _ n e (λ f g. cc))

pub seq_stop_once : IsOnce SeqStop
seq_stop_once ks js l m r s e (seq_stop ps qs) (seq_stop us vs) = (refl, λ n. seq_parts ps us _ _ n e (λ f g. cc))

pub assign_id_once : IsOnce AssignId
assign_id_once ks js l m r s e (assign_id xs) (assign_id ys) = (refl, λ n. refl)

pub assign_join_once : IsOnce AssignJoin
assign_join_once ks js l m r s e (assign_join xs es fs) (assign_join ys gs hs) = (refl, λ n. cc)

pub assign_if_once : IsOnce AssignIf
assign_if_once ks js l m r s e (assign_if xs es cs) (assign_if ys fs ds) = (refl, λ n. cc)

pub assign_alt_once : IsOnce AssignAlt
assign_alt_once ks js l m r s e (assign_alt xs es gs spared) (assign_alt ys fs hs spared_too) = (refl, λ n. cc)

pub seq_if_once : IsOnce SeqIf
seq_if_once ks js l m r s e (seq_if cs qs) (seq_if ds us) = (refl, λ n. cc)

pub seq_alt_once : IsOnce SeqAlt
seq_alt_once ks js l m r s e (seq_alt gs qs) (seq_alt hs us) = (refl, λ n. cc)

pub io_alt_once : IsOnce IoAlt
io_alt_once ks js l m r s e (output_alt c f) (output_alt d g) = (refl, λ n. cc)
io_alt_once ks js l m r s e (output_alt c f) (input_alt d x) = (refl, λ n. cc)
io_alt_once ks js l m r s e (input_alt c x) (output_alt d g) = (refl, λ n. cc)
io_alt_once ks js l m r s e (input_alt c x) (input_alt d y) = (refl, λ n. cc)
