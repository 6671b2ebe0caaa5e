use Rattle.std.proofs.Common.{arith}
use Rattle.std.proofs.lemmas.List.{length-map}
use Rattle.occ_syntax.specs.occ_base.declared.names.Name.{Name}
use Rattle.occ_syntax.specs.View.{numbers}
use Rattle.occ_print.proofs.Counting.{names_length}
use Rattle.occ_print.proofs.widest.separated_names.Goals as goal

pub returns : goal.returns
returns c =
    omega (arith, c.saturating_mul.ensures, c.saturating_sub.ensures, names_length (numbers c.args.names.now), length-map c.args.names.now (λ (name : Name). name.0))
