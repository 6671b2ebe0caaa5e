use Rattle.std.proofs.Common.{◌<◌, ◌^◌, sym, subst}
use Rattle.occ_norm_alt.proofs.from_norm_frame.Alone.{except_lt}
use Rattle.occ_norm.proofs.normal.unwritten_frame.Goals as goal

pub with-requires : goal.with-requires
with-requires c = subst (λ k. k < 2 ^ c.args.whole.now.bits) (sym c.except-keep.ensures) (except_lt c.args.whole.now.bits c.args.whole.now.keep _ c.args.whole.now.inside)
