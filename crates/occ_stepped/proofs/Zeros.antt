-- The state in which each variable is 0.
use Rattle.std.proofs.Common.{ℕ, ◌≡◌, ◌∙◌, ◌++◌, ◌^◌, ◌<◌, ◌≤◌, ◌-◌, true, List, [], ◌∷◌, length, get_or, take, drop, Option, refl, sym, ap, eq-eqb, arith}
use Rattle.std.proofs.lemmas.Bool.{and_from, lt-ltb}
use Rattle.std.proofs.lemmas.Nat.{pow_pos}
use Rattle.std.proofs.lemmas.List.{append_assoc, append-nil}
use Rattle.std.proofs.lemmas.List.Elements.{All-cons, All-nil}
use Rattle.std.specs.List.{All}
use Rattle.std.specs.Prelude.{◌==◌, ◌&&◌, nat_lt}
use Rattle.occ_run.proofs.MeetingFronts.{front_is}
use Rattle.occ_run.specs.occ_behaviour.States.{is_state}
use Rattle.occ_syntax.specs.occ_base.Width.{bits_of}
use Rattle.occ_syntax.specs.occ_base.declared.event.Dir.{Dir}
use Rattle.occ_syntax.specs.occ_base.declared.names.Name.{Name}
use Rattle.occ_syntax.specs.occ_base.declared.width.Width.{Width}
use Rattle.occ_syntax.specs.declared.scope.Kind.{Kind}
use Rattle.occ_syntax.specs.declared.scope.Kind.TheVariants.{Var, Chan}

abbrev pub zeros_in : Name → Kind → List (Name × ℕ) → List (Name × ℕ)
zeros_in name (Var width) vs = (name, 0) ∷ vs
zeros_in name (Chan width dir) vs = vs

-- each variable of the parameters, in order, with 0
abbrev pub zeros : List (Name × Kind) → List (Name × ℕ)
zeros [] = []
zeros (entry ∷ params) = zeros_in entry.0 entry.1 (zeros params)

pub zeros_are_state : (params : List (Name × Kind)) → is_state params (zeros params) ≡ true
zeros_are_state [] = refl
zeros_are_state ((name, Var width) ∷ params) =
    and_from (name.0 == name.0 && nat_lt 0 (2 ^ bits_of width)) (is_state params (zeros params))
    (and_from (name.0 == name.0) (nat_lt 0 (2 ^ bits_of width)) (eq-eqb name.0 name.0 refl) (lt-ltb 0 (2 ^ bits_of width) (pow_pos (bits_of width))))
    (zeros_are_state params)
zeros_are_state ((name, Chan width dir) ∷ params) = zeros_are_state params

pub zeros_are_zero : (params : List (Name × Kind)) → All (λ (v : Name × ℕ). v.1 ≡ 0) (zeros params)
zeros_are_zero [] = All-nil (λ (v : Name × ℕ). v.1 ≡ 0)
zeros_are_zero ((name, Var width) ∷ params) = All-cons (λ (v : Name × ℕ). v.1 ≡ 0) (name, 0) (zeros params) refl (zeros_are_zero params)
zeros_are_zero ((name, Chan width dir) ∷ params) = zeros_are_zero params

-- ---- a loop over the parameters

in_front : (name : Name) (kind : Kind) (vs : List (Name × ℕ)) → zeros_in name kind [] ++ vs ≡ zeros_in name kind vs
in_front name (Var width) vs = refl
in_front name (Chan width dir) vs = refl

zeros_on : (params rest later : List (Name × Kind)) (entry : Name × Kind) (state : List (Name × ℕ)) → rest ≡ entry ∷ later
    → state ++ zeros rest ≡ zeros params → (state ++ zeros_in entry.0 entry.1 []) ++ zeros later ≡ zeros params
zeros_on params rest later entry state e h =
    append_assoc state (zeros_in entry.0 entry.1 []) (zeros later) ∙ ap (λ vs. state ++ vs) (in_front entry.0 entry.1 (zeros later) ∙ sym (ap zeros e)) ∙ h

-- a channel has no value
pub zeros_past : (params rest : List (Name × Kind)) (d : Name × Kind) (width : Width) (dir : Option Dir) (state : List (Name × ℕ)) → 1 ≤ length rest
    → (get_or rest 0 d).1 ≡ Chan width dir → state ++ zeros rest ≡ zeros params → state ++ zeros (take (length rest - 1) (drop 1 rest)) ≡ zeros params
zeros_past params rest d width dir state below is h =
    let later = take (length rest - 1) (drop 1 rest) in
    let first = get_or rest 0 d in
    let none : state ++ zeros_in first.0 first.1 [] ≡ state = ap (λ (k : Kind). state ++ zeros_in first.0 k []) is ∙ append-nil state in
    ap (λ vs. vs ++ zeros later) (sym none) ∙ zeros_on params rest later first state (front_is rest first below (first_is rest d first below)) h
  where
    first_is : (xs : List (Name × Kind)) (d other : Name × Kind) → 1 ≤ length xs → get_or xs 0 d ≡ get_or xs 0 other
    first_is [] d other l = absurd (omega (arith, l))
    first_is (x ∷ xs) d other l = refl

pub zeros_all : (params rest : List (Name × Kind)) (state : List (Name × ℕ)) → length rest < 1 → state ++ zeros rest ≡ zeros params → state ≡ zeros params
zeros_all params [] state l h = sym (append-nil state) ∙ h
zeros_all params (entry ∷ rest) state l h = absurd (omega (arith, l))
