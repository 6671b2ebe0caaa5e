-- A law has one direct result of a part: two least places are one place.
use Rattle.std.proofs.Common.{◌≡◌, ◌∙◌, ℕ, ◌==◌, ◌&&◌, arith, Bool, false, nat_lt, List, [], ◌∷◌, length, ap, refl, sym}
use Rattle.std.proofs.lemmas.Bool.{eq-eqb, ltb-false, or_parts}
use Rattle.occ_law.specs.occ_base.declared.names.Name.{Name}
use Rattle.occ_law_sound.proofs.Table.{direct_sides_once}
use Rattle.occ_law.specs.RuleTable.{DIRECT_SIDES, IsDirect, is_before}
use Rattle.occ_law.specs.occ_syntax.declared.scope.Kind.{Kind}
use Rattle.occ_law.specs.occ_syntax.Tree.{Tree}

-- lists of one length, neither of which is before the other, are one list
one_least : (ks js : List ℕ) → length ks ≡ length js → is_before ks js ≡ false → is_before js ks ≡ false → ks ≡ js
one_least [] [] n e f = refl
one_least [] (j ∷ js) n e f = absurd (omega (arith, n))
one_least (k ∷ ks) [] n e f = absurd (omega (arith, n))
one_least (k ∷ ks) (j ∷ js) n e f =
    let a = or_parts (nat_lt k j) (k == j && is_before ks js) e in
    let b = or_parts (nat_lt j k) (j == k && is_before js ks) f in
    let same : k ≡ j = omega (arith, ltb-false k j a.0, ltb-false j k b.0) in
    let c = behind k j (is_before ks js) same a.1 in
    let d = behind j k (is_before js ks) (sym same) b.1 in
    let rest : ks ≡ js = one_least ks js (omega (arith, n)) c d in cc
  where
    behind : (k j : ℕ) (b : Bool) → k ≡ j → (k == j && b) ≡ false → b ≡ false
    behind k j b same e = ap (λ c. c && b) (sym (eq-eqb k j same)) ∙ e

pub sides_once : (n : ℕ) (S : List (Name × Kind)) (ks : List ℕ) (l r s : Tree) → DIRECT_SIDES n S ks l r → DIRECT_SIDES n S ks l s → r ≡ s
sides_once n S ks l r s c d = (direct_sides_once n S ks ks l l r s refl c d).1 refl

pub direct_once : (n : ℕ) (S : List (Name × Kind)) (l r s : Tree) → IsDirect n S l r → IsDirect n S l s → r ≡ s
direct_once n S l r s c d =
    let one = direct_sides_once n S c.place d.place l l r s refl c.change.sides d.change.sides in
    one.1 (one_least c.place d.place one.0 (d.least c.place r c.change) (c.least d.place s d.change))
