use Rattle.std.proofs.Common.{◌≡◌, [], min, arith, sym, ◌∙◌}
use Rattle.occ_parse_rules.specs.Forest.{forest}
use Rattle.occ_parse_rules.specs.Limits.{bits_in_scope}
use Rattle.occ_parse_rules.specs.Places.{declared_in, param_entries}
use Rattle.occ_parse_unroll.proofs.Wide.{wide_line_same, wide_are, bits-params}
use Rattle.occ_parse_unroll.proofs.bits.bits_fault.Goals as goal

pub returns : goal.returns
returns c =
    let Γ = declared_in [] (param_entries c.args.params.now) in
    let e : min 25 c.bits_of.result ≡ min 25 (bits_in_scope Γ) = omega (arith, c.bits_of.ensures.sum, bits-params [] c.args.params.now) in
    c.wide.ensures ∙ wide_line_same _ _ _ _ (forest c.args.nodes.now) e e ∙ sym (wide_are Γ Γ (forest c.args.nodes.now))
