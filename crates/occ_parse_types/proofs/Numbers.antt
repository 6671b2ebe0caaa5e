-- Tests over numbers in a row, and numbers of many bits.
use Rattle.std.proofs.Common.{◌≡◌, ℕ, suc, ◌+◌, ◌-◌, ◌<◌, ◌≤◌, ◌^◌, Bool, true, false, ◌||◌, leb, List, sym, ap, ◌∙◌, arith}
use Rattle.std.specs.List.{list_any}
use Rattle.std.proofs.Math.Nat.{pow-le-pow_right}
use Rattle.std.proofs.lemmas.Bool.{le-leb, lt-ltb}
use Rattle.occ_syntax.specs.occ_base.declared.width.Width.{Width}
use Rattle.occ_syntax.specs.occ_base.declared.width.Width.TheVariants.{Bool as TruthValue, Word}
use Rattle.occ_parse_rules.specs.Types.{fits}
use Rattle.occ_parse_rules.specs.Places.{numbers_from}

pub any_more : (f : ℕ → Bool) (v end : ℕ) → v < end → list_any f (numbers_from v (end - v)) ≡ (f v || list_any f (numbers_from (v + 1) (end - (v + 1))))
any_more f v end h = ap (λ n. list_any f (numbers_from v n)) (one_more v end h)
  where
    one_more : (v end : ℕ) → v < end → end - v ≡ suc (end - (v + 1))
    one_more v end h = omega arith

pub any_end : (f : ℕ → Bool) (v end : ℕ) → end ≤ v → list_any f (numbers_from v (end - v)) ≡ false
any_end f v end h = ap (λ n. list_any f (numbers_from v n)) (none_left v end h)
  where
    none_left : (v end : ℕ) → end ≤ v → end - v ≡ 0
    none_left v end h = omega arith

pub fits_wide : (w : Width) (bits value : ℕ) → w ≡ Word bits → 16 ≤ bits → value < 65536 → leb 16 bits ≡ fits w value
fits_wide TruthValue bits value e h k = cc
fits_wide (Word m) bits value e h k =
    let same : bits ≡ m = cc in
    let wide : 16 ≤ m = omega arith in
    let most : 2 ^ 16 ≤ 2 ^ m = pow-le-pow_right (omega arith) wide in
    le-leb 16 bits h ∙ sym (lt-ltb value (2 ^ m) (omega (arith, most)))

-- ---- a loop over the values of an index

pub turn_found : (f : ℕ → Bool) (v end : ℕ) (vs : List ℕ) (here total : Bool) → v < end → list_any f (numbers_from v (end - v)) ≡ list_any f vs → here ≡ f v → here ≡ true → total ≡ list_any f vs → true ≡ total
turn_found f v end vs here total h rest is holds all =
    sym (all ∙ sym rest ∙ any_more f v end h ∙ ap (λ b. b || list_any f (numbers_from (v + 1) (end - (v + 1)))) (sym is ∙ holds))

pub turn_passed : (f : ℕ → Bool) (v end : ℕ) (vs : List ℕ) (here : Bool) → v < end → list_any f (numbers_from v (end - v)) ≡ list_any f vs → here ≡ f v → here ≡ false → list_any f (numbers_from (v + 1) (end - (v + 1))) ≡ list_any f vs
turn_passed f v end vs here h rest is fails =
    sym (any_more f v end h ∙ ap (λ b. b || list_any f (numbers_from (v + 1) (end - (v + 1)))) (sym is ∙ fails)) ∙ rest

pub turns_over : (f : ℕ → Bool) (v end : ℕ) (vs : List ℕ) (total : Bool) → end ≤ v → list_any f (numbers_from v (end - v)) ≡ list_any f vs → total ≡ list_any f vs → false ≡ total
turns_over f v end vs total h rest all = sym (all ∙ sym rest ∙ any_end f v end h)
