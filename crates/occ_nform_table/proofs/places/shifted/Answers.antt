use Rattle.std.proofs.Common.{◌≤◌, ◌*◌, ◌^◌, ◌%◌, ◌≡◌, ap, arith, ◌∙◌}
use Rattle.occ_nform_table.proofs.Powers.{power_fits, small_part}
use Rattle.occ_nform_table.proofs.places.shifted.Goals as goal

product : (c : goal.After-from) → c.from.result * (1 * 2 ^ c.args.bits % 18446744073709551616) ≡ c.args.value * 2 ^ c.args.bits
product c = ap (λ n. n * (1 * 2 ^ c.args.bits % 18446744073709551616)) c.from.ensures ∙ ap (λ n. c.args.value * n) (power_fits c.args.bits c.requires)

pub overflow_mul-result : goal.overflow_mul-result
overflow_mul-result c =
    let small : c.args.value * 2 ^ c.args.bits ≤ 16711680 = small_part c.args.value c.args.bits (omega (arith, c.ranges.value)) c.requires in
    omega (arith, product c, small)

pub returns : goal.returns
returns c =
    let small : c.args.value * 2 ^ c.args.bits ≤ 16711680 = small_part c.args.value c.args.bits (omega (arith, c.ranges.value)) c.requires in
    record { value = product c; within = omega (arith, product c, small) }
