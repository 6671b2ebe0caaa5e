-- What is asked about states, as comparisons of expressions under conditions.
use Rattle.std.proofs.Common.{◌≡◌, ℕ, ◌≤◌, ◌&&◌, ◌||◌, ◌↔◌, Bool, IsTrue, true, false, not, cond, List, [], ◌∷◌, Some, arith, refl, ap, sym, ◌∙◌, subst}
use Rattle.std.proofs.lemmas.Bool.{and_from, and_parts, eqb-true, eq-eqb}
use Rattle.occ_syntax.specs.occ_base.declared.names.Name.{Name}
use Rattle.occ_syntax.specs.occ_base.declared.width.Width.TheVariants.{Bool as TruthValue}
use Rattle.occ_law.proofs.from_meaning.Facts.{clash}
use Rattle.occ_law.proofs.from_meaning.Named.{not_condition}
use Rattle.occ_law.proofs.from_meaning.Typing.{condition_type}
use Rattle.occ_syntax.specs.declared.scope.Kind.{Kind}
use Rattle.occ_syntax.specs.Counts.{bits_of_scope}
use Rattle.occ_syntax.specs.Eval.{eval, is_true, one_if}
use Rattle.occ_syntax.specs.Names.{names, some_names}
use Rattle.occ_syntax.specs.Scopes.{Environment, IsState, Values, environment}
use Rattle.occ_syntax.specs.Tree.{Exp, truth}
use Rattle.occ_syntax.specs.Types.{agree, if_truth_value, is_condition}
use Rattle.occ_law.specs.occ_bits.Named.{IsEqualUnder, all_true, are_conditions, bits_named, named_part}
use Rattle.occ_law.specs.States.{AreFew, ExcludeEachOther, IsAlways, IsEqualAlways, IsEqualWhere, IsExhaustive, IsNever, some_true}
use Rattle.occ_law_shape.specs.Conditions.{IsNeverAll, negations}

-- ---- the bits that expressions name

-- lists that name the same variables name as many bits
bits_same : (S : List (Name × Kind)) (es fs : List Exp) → ((x : ℕ) → some_names es x ≡ some_names fs x) → bits_named S es ≡ bits_named S fs
bits_same [] es fs h = refl
bits_same (entry ∷ S) es fs h =
    ap (λ b. bits_of_scope (cond b (entry ∷ named_part S es) (named_part S es))) (h entry.0.0) ∙ choose (some_names fs entry.0.0) (bits_same S es fs h)
  where
    choose : (b : Bool) → bits_named S es ≡ bits_named S fs
        → bits_of_scope (cond b (entry ∷ named_part S es) (named_part S es)) ≡ bits_of_scope (cond b (entry ∷ named_part S fs) (named_part S fs))
    choose true rest = omega (arith, rest)
    choose false rest = rest

negations_name : (bs : List Exp) (x : ℕ) → some_names (negations bs) x ≡ some_names bs x
negations_name [] x = refl
negations_name (b ∷ bs) x = ap (λ z. names b x || z) (negations_name bs x)

bits_of_negations : (S : List (Name × Kind)) (bs : List Exp) → bits_named S (negations bs) ≡ bits_named S bs
bits_of_negations S bs = bits_same S (negations bs) bs (negations_name bs)

bits_behind : (S : List (Name × Kind)) (e f b : Exp) (bs : List Exp) → bits_named S (e ∷ f ∷ b ∷ negations bs) ≡ bits_named S (e ∷ f ∷ b ∷ bs)
bits_behind S e f b bs = bits_same S (e ∷ f ∷ b ∷ negations bs) (e ∷ f ∷ b ∷ bs) (λ x. ap (λ z. names e x || (names f x || (names b x || z))) (negations_name bs x))

-- ---- conditions turned

-- what is turned is a condition too
pub negations_typed : (Γ : Environment) (bs : List Exp) → are_conditions Γ bs ≡ true → are_conditions Γ (negations bs) ≡ true
negations_typed Γ [] h = refl
negations_typed Γ (b ∷ bs) h =
    let p = and_parts (is_condition Γ b) (are_conditions Γ bs) h in
    and_from _ _ (ap (λ o. agree (if_truth_value o) (Some TruthValue)) (condition_type Γ b p.0)) (negations_typed Γ bs p.1)

-- all are true turned where none is true
none_true : (Γ : Environment) (s : Values) → IsState Γ s → (bs : List Exp) → are_conditions Γ bs ≡ true → all_true Γ (negations bs) s ≡ not (some_true Γ bs s)
none_true Γ s state [] h = refl
none_true Γ s state (b ∷ bs) h =
    let p = and_parts (is_condition Γ b) (are_conditions Γ bs) h in
    ap (λ z. z && all_true Γ (negations bs) s) (not_condition Γ s state b p.0) ∙ ap (λ z. not (is_true Γ b s) && z) (none_true Γ s state bs p.1)
    ∙ neither (is_true Γ b s) (some_true Γ bs s)
  where
    neither : (a b : Bool) → (not a && not b) ≡ not (a || b)
    neither true b = refl
    neither false b = refl

-- ---- each question

-- TRUE and FALSE are one in no state
pub never_all : (S : List (Name × Kind)) (us : List Exp) (a : Bool)
    → (IsTrue a ↔ (AreFew S (truth true ∷ truth false ∷ us) × IsEqualUnder (environment S) us (truth true) (truth false))) → IsTrue a ↔ (AreFew S us × IsNeverAll (environment S) us)
never_all S us a test = (
  (λ t. let k = test.0 t in (k.0, λ s state. unless (all_true (environment S) us s) (k.1 s state))),
  (λ k. test.1 (k.0, λ s state t. clash (all_true (environment S) us s) t (k.1 s state))),
)
  where
    unless : (b : Bool) → (b ≡ true → one_if true ≡ one_if false) → b ≡ false
    unless true h = let e : one_if true ≡ one_if false = h refl in absurd (omega arith)
    unless false h = refl

pub always_asked : (S : List (Name × Kind)) (b : Exp) (us : List Exp) (a : Bool) → us ≡ []
    → (IsTrue a ↔ (AreFew S (b ∷ truth true ∷ us) × IsEqualUnder (environment S) us b (truth true))) → IsTrue a ↔ (AreFew S (b ∷ []) × IsAlways (environment S) b)
always_asked S b us a e asked = (
  (λ t. let k = test.0 t in (k.0, λ s state. eq-eqb (eval (environment S) b s) 1 (k.1 s state refl))),
  (λ k. test.1 (k.0, λ s state t. eqb-true (eval (environment S) b s) 1 (k.1 s state))),
)
  where
    test : IsTrue a ↔ (AreFew S (b ∷ truth true ∷ []) × IsEqualUnder (environment S) [] b (truth true))
    test = subst (λ z. IsTrue a ↔ (AreFew S (b ∷ truth true ∷ z) × IsEqualUnder (environment S) z b (truth true))) e asked

pub never_asked : (S : List (Name × Kind)) (b : Exp) (us : List Exp) (a : Bool) → us ≡ b ∷ []
    → (IsTrue a ↔ (AreFew S us × IsNeverAll (environment S) us)) → IsTrue a ↔ (AreFew S (b ∷ []) × IsNever (environment S) b)
never_asked S b us a e asked = (
  (λ t. let k = test.0 t in (k.0, λ s state. sym (alone (is_true (environment S) b s)) ∙ k.1 s state)),
  (λ k. test.1 (k.0, λ s state. alone (is_true (environment S) b s) ∙ k.1 s state)),
)
  where
    test : IsTrue a ↔ (AreFew S (b ∷ []) × IsNeverAll (environment S) (b ∷ []))
    test = subst (λ z. IsTrue a ↔ (AreFew S z × IsNeverAll (environment S) z)) e asked

    alone : (b : Bool) → (b && true) ≡ b
    alone true = refl
    alone false = refl

pub exclude_asked : (S : List (Name × Kind)) (b c : Exp) (us : List Exp) (a : Bool) → us ≡ b ∷ c ∷ []
    → (IsTrue a ↔ (AreFew S us × IsNeverAll (environment S) us)) → IsTrue a ↔ (AreFew S (b ∷ c ∷ []) × ExcludeEachOther (environment S) b c)
exclude_asked S b c us a e asked = (
  (λ t. let k = test.0 t in (k.0, λ s state. sym (alone (is_true (environment S) b s) (is_true (environment S) c s)) ∙ k.1 s state)),
  (λ k. test.1 (k.0, λ s state. alone (is_true (environment S) b s) (is_true (environment S) c s) ∙ k.1 s state)),
)
  where
    test : IsTrue a ↔ (AreFew S (b ∷ c ∷ []) × IsNeverAll (environment S) (b ∷ c ∷ []))
    test = subst (λ z. IsTrue a ↔ (AreFew S z × IsNeverAll (environment S) z)) e asked

    alone : (b c : Bool) → (b && (c && true)) ≡ (b && c)
    alone true true = refl
    alone true false = refl
    alone false c = refl

pub exhaustive_asked : (S : List (Name × Kind)) (bs us : List Exp) (a : Bool) → are_conditions (environment S) bs ≡ true → us ≡ negations bs
    → (IsTrue a ↔ (AreFew S us × IsNeverAll (environment S) us)) → IsTrue a ↔ (AreFew S bs × IsExhaustive (environment S) bs)
exhaustive_asked S bs us a typed e asked = (
  (λ t. let k = test.0 t in
      (subst (λ n. n ≤ 24) (bits_of_negations S bs) k.0, λ s state. turned (some_true (environment S) bs s) (sym (none_true (environment S) s state bs typed) ∙ k.1 s state))),
  (λ k. test.1 (subst (λ n. n ≤ 24) (sym (bits_of_negations S bs)) k.0, λ s state. none_true (environment S) s state bs typed ∙ ap not (k.1 s state))),
)
  where
    test : IsTrue a ↔ (AreFew S (negations bs) × IsNeverAll (environment S) (negations bs))
    test = subst (λ z. IsTrue a ↔ (AreFew S z × IsNeverAll (environment S) z)) e asked

    turned : (b : Bool) → not b ≡ false → b ≡ true
    turned true h = refl
    turned false h = sym h

pub equal_always_asked : (S : List (Name × Kind)) (e f : Exp) (us : List Exp) (a : Bool) → us ≡ []
    → (IsTrue a ↔ (AreFew S (e ∷ f ∷ us) × IsEqualUnder (environment S) us e f)) → IsTrue a ↔ IsEqualAlways S e f
equal_always_asked S e f us a is asked = (
  (λ t. let k = test.0 t in record { few = k.0; equal = λ s state. k.1 s state refl }),
  (λ k. test.1 (k.few, λ s state t. k.equal s state)),
)
  where
    test : IsTrue a ↔ (AreFew S (e ∷ f ∷ []) × IsEqualUnder (environment S) [] e f)
    test = subst (λ z. IsTrue a ↔ (AreFew S (e ∷ f ∷ z) × IsEqualUnder (environment S) z e f)) is asked

pub equal_where_asked : (S : List (Name × Kind)) (b : Exp) (bs : List Exp) (e f : Exp) (us : List Exp) (a : Bool) → are_conditions (environment S) bs ≡ true → us ≡ b ∷ negations bs
    → (IsTrue a ↔ (AreFew S (e ∷ f ∷ us) × IsEqualUnder (environment S) us e f)) → IsTrue a ↔ IsEqualWhere S b bs e f
equal_where_asked S b bs e f us a typed is_list asked = (
  (λ t. let k = test.0 t in record {
    few = subst (λ n. n ≤ 24) (bits_behind S e f b bs) k.0;
    equal = λ s state is not_before. k.1 s state (and_from _ _ is (none_true (environment S) s state bs typed ∙ ap not not_before));
  }),
  (λ k. test.1 (
    subst (λ n. n ≤ 24) (sym (bits_behind S e f b bs)) k.few,
    λ s state t.
        let p = and_parts (is_true (environment S) b s) (all_true (environment S) (negations bs) s) t in
        k.equal s state p.0 (turned (some_true (environment S) bs s) (sym (none_true (environment S) s state bs typed) ∙ p.1)),
  )),
)
  where
    test : IsTrue a ↔ (AreFew S (e ∷ f ∷ b ∷ negations bs) × IsEqualUnder (environment S) (b ∷ negations bs) e f)
    test = subst (λ z. IsTrue a ↔ (AreFew S (e ∷ f ∷ z) × IsEqualUnder (environment S) z e f)) is_list asked

    turned : (b : Bool) → not b ≡ true → b ≡ false
    turned true h = sym h
    turned false h = refl
