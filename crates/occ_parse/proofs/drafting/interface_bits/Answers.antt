use Rattle.std.proofs.Common.{min, ap, sym, ◌∙◌}
use Rattle.occ_parse.proofs.Counting.{bits_below_header}
use Rattle.occ_parse.proofs.drafting.interface_bits.Goals as goal

pub returns : goal.returns
returns c = c.parameter_bits.ensures ∙ ap (λ n. min 17 n) (sym (bits_below_header c.args.params.now))
