use Rattle.std.proofs.Common.{arith}
use Rattle.occ_parse_types.proofs.Numbers.{fits_wide}
use Rattle.occ_parse_types.proofs.asking.fits.Goals as goal

pub returns-then-bits-ge16 : goal.returns-then-bits-ge16
returns-then-bits-ge16 c = fits_wide c.args.width c.in-Word.bits c.args.value c.in-Word.is c.if-bits-ge16.true (omega arith)
