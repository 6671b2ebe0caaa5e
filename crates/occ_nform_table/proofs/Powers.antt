-- Powers of two with few bits.
use Rattle.std.proofs.Common.{◌≡◌, ℕ, ◌*◌, ◌^◌, ◌<◌, ◌≤◌, ◌%◌, arith, ap, ◌∙◌}
use Rattle.std.proofs.Math.Nat.{pow-le-pow_right, mul-le-mul_left, mod-eq_of_lt}

pub small_power : (b : ℕ) → b ≤ 16 → 2 ^ b ≤ 65536
small_power b h = pow-le-pow_right {n = 2} (omega arith) {i = b} {j = 16} h

pub power_fits : (b : ℕ) → b ≤ 16 → 1 * 2 ^ b % 18446744073709551616 ≡ 2 ^ b
power_fits b h =
    let one : 1 * 2 ^ b ≡ 2 ^ b = omega arith in
    let small : 2 ^ b ≤ 65536 = small_power b h in
    ap (λ n. n % 18446744073709551616) one ∙ mod-eq_of_lt (omega (arith, small))

pub small_part : (v b : ℕ) → v < 256 → b ≤ 16 → v * 2 ^ b ≤ 16711680
small_part v b lt few =
    let first : v * 2 ^ b ≤ v * 65536 = mul-le-mul_left v (small_power b few) in
    omega (arith, first, lt)
