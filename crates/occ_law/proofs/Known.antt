-- A number is known by the law's name.
use Rattle.std.proofs.Common.{◌≡◌, ℕ, sym, ap, ◌∙◌}
use Rattle.occ_law.specs.Numbers.{number}
use Rattle.occ_law.specs.declared.variants.Law.{Law}

-- the number of the law of that name
pub by_name : (law : Law) {known : Law} {n : ℕ} → known ≡ law → number known ≡ n → n ≡ number law
by_name law e numbered = sym numbered ∙ ap number e
