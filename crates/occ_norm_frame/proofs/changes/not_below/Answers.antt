use Rattle.std.proofs.Common.{◌≡◌, ◌-◌, ◌^◌, sym, subst}
use Rattle.std.specs.Int.Bits.{bit_and, bit_xor}
use Rattle.std.proofs.lemmas.Nat.{one_shl}
use Rattle.occ_norm_frame.proofs.Turning.{bits_parted}
use Rattle.occ_norm_frame.proofs.changes.not_below.Goals as goal

pub returns : goal.returns
returns c x = subst (λ p. bit_xor (bit_and x (bit_and c.args.bits (2 ^ c.args.bit - 1))) (bit_and x (bit_xor c.args.bits (bit_and c.args.bits (p - 1)))) ≡ bit_and x c.args.bits)
    (sym (one_shl c.args.bit 64 c.requires)) (bits_parted x c.args.bits c.args.bit)
