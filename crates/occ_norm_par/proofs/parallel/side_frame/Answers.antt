use Rattle.std.proofs.Common.{◌<◌, ◌^◌, sym, subst}
use Rattle.occ_norm_frame.proofs.Alone.{except_lt}
use Rattle.occ_norm_par.proofs.parallel.side_frame.Goals as goal

pub with-requires : goal.with-requires
with-requires c = subst (λ k. k < 2 ^ c.args.frame.now.bits) (sym c.except-keep.ensures) (except_lt c.args.frame.now.bits c.args.sides.now.all _ c.requires.all)
