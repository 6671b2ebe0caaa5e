use Rattle.std.proofs.Common.{◌∙◌, ap, sym, min}
use Rattle.occ_parse_rules.specs.Forest.{forest}
use Rattle.occ_parse_unroll.proofs.Sized.{slot_process_size}
use Rattle.occ_parse_unroll.proofs.counting.controls.Goals as goal

pub returns : goal.returns
returns c = λ N Γ. c.first.ensures ∙ ap (λ n. min 4097 n) (sym (slot_process_size N Γ (forest c.args.nodes.now)))
