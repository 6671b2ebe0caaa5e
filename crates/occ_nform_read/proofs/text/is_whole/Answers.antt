use Rattle.std.proofs.Common.{◌≡◌, ◌*◌, ◌^◌, ◌%◌, ◌&&◌, length, sym, ap, ◌∙◌}
use Rattle.std.proofs.lemmas.Bool.{eq-eqb}
use Rattle.occ_nform_table.specs.occ_lex.Rows.{rows}
use Rattle.occ_syntax.specs.Counts.{bits_of_scope}
use Rattle.occ_nform_table.specs.Judging.{is_none}
use Rattle.occ_nform_table.proofs.Powers.{power_fits}
use Rattle.occ_nform_read.proofs.WholeText.{nothing_left}
use Rattle.occ_nform_read.proofs.text.is_whole.Goals as goal

pub returns-then-states-interface_bits : goal.returns-then-states-interface_bits
returns-then-states-interface_bits c =
    let count : length c.args.states.now ≡ 2 ^ bits_of_scope c.args.params.now = c.if-states-interface_bits.true ∙ ap (λ b. 1 * 2 ^ b % 18446744073709551616) c.interface_bits.ensures ∙ power_fits (bits_of_scope c.args.params.now) c.requires in
    c.is_empty.ensures ∙ sym (nothing_left c.args.rest.now)
    ∙ sym (ap (λ b. b && is_none (rows c.args.rest.now)) (eq-eqb (length c.args.states.now) (2 ^ bits_of_scope c.args.params.now) count))
