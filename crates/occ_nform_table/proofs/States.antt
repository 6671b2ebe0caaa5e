-- States of an interface are told apart by their places.
use Rattle.std.proofs.Common.{◌≡◌, ℕ, ◌+◌, ◌*◌, ◌^◌, ◌<◌, ◌≤◌, true, ◌&&◌, ◌==◌, nat_lt, List, [], ◌∷◌, refl, sym, ap, ◌∙◌, subst, inl, inr, ◌⊎◌, arith}
use Rattle.std.proofs.lemmas.Nat.{pow-add, mul-add-lt}
use Rattle.std.proofs.lemmas.Bool.{and_parts, false≢true, ltb-true, eqb-true, cases_order}
use Rattle.std.proofs.Math.Nat.{mul-le-mul_right, zero-add}
use Rattle.occ_lex.specs.occ_base.declared.names.Name.{Name}
use Rattle.occ_lex.specs.occ_base.Width.{bits_of}
use Rattle.occ_syntax.specs.declared.scope.Kind.{Kind}
use Rattle.occ_syntax.specs.declared.scope.Kind.TheVariants.{Var, Chan}
use Rattle.occ_syntax.specs.Counts.{bits_of_scope}
use Rattle.occ_behaviour.specs.States.{is_state}
use Rattle.occ_nform_table.specs.Lines.{state_place}

-- a first digit and the rest below its unit are told by their sum
pub split_sum : (w a c b d : ℕ) → b < w → d < w → a * w + b ≡ c * w + d → (a ≡ c) × (b ≡ d)
split_sum w a c b d h k e = go (cases_order a c)
  where
    up : (x y : ℕ) → x < y → x * w + w ≤ y * w
    up x y l = let m : (x + 1) * w ≤ y * w = mul-le-mul_right w (omega (arith, l)) in omega (arith, m)

    go : (a ≡ c) ⊎ ((a < c) ⊎ (c < a)) → (a ≡ c) × (b ≡ d)
    go (inl f) = (f, omega (arith, e, ap (λ x. x * w) f))
    go (inr (inl l)) = absurd (omega (arith, e, up a c l))
    go (inr (inr l)) = absurd (omega (arith, e, up c a l))

pub place_below : (params : List (Name × Kind)) (s : List (Name × ℕ)) → is_state params s ≡ true → state_place params s < 2 ^ bits_of_scope params
place_below [] s h = omega arith
place_below ((name, Chan w d) ∷ params) s h = subst (λ n. state_place params s < 2 ^ n) (sym (zero-add (bits_of_scope params))) (place_below params s h)
place_below ((name, Var w) ∷ params) [] h = absurd (false≢true h)
place_below ((name, Var w) ∷ params) (v ∷ s) h =
    let both = and_parts (v.0.0 == name.0 && nat_lt v.1 (2 ^ bits_of w)) (is_state params s) h in
    let value : v.1 < 2 ^ bits_of w = ltb-true v.1 (2 ^ bits_of w) (and_parts (v.0.0 == name.0) (nat_lt v.1 (2 ^ bits_of w)) both.0).1 in
    let rest : state_place params s < 2 ^ bits_of_scope params = place_below params s both.1 in
    let e = pow-add 2 (bits_of w) (bits_of_scope params) in
    let l = mul-add-lt v.1 (2 ^ bits_of_scope params) (state_place params s) (2 ^ bits_of w) value rest in
    omega (arith, l, e)

pub same_state : (params : List (Name × Kind)) (s u : List (Name × ℕ)) → is_state params s ≡ true → is_state params u ≡ true → state_place params s ≡ state_place params u → s ≡ u
same_state [] [] [] h k e = refl
same_state [] [] (v ∷ u) h k e = absurd (false≢true k)
same_state [] (v ∷ s) u h k e = absurd (false≢true h)
same_state ((name, Chan w d) ∷ params) s u h k e = same_state params s u h k e
same_state ((name, Var w) ∷ params) [] u h k e = absurd (false≢true h)
same_state ((name, Var w) ∷ params) (v ∷ s) [] h k e = absurd (false≢true k)
same_state ((name, Var w) ∷ params) (v ∷ s) (x ∷ u) h k e =
    let hs = and_parts _ _ h in
    let ks = and_parts _ _ k in
    let split = split_sum (2 ^ bits_of_scope params) v.1 x.1 (state_place params s) (state_place params u) (place_below params s hs.1) (place_below params u ks.1) e in
    let first = eqb-true v.0.0 name.0 (and_parts _ _ hs.0).0 ∙ sym (eqb-true x.0.0 name.0 (and_parts _ _ ks.0).0) in
    let rest = same_state params s u hs.1 ks.1 split.1 in
    λ i. (record { 0 = first i }, split.0 i) ∷ rest i
