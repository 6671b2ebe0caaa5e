-- The bits of the variables that expressions name.
use Rattle.std.proofs.Common.{◌≡◌, ◌∙◌, ℕ, ◌==◌, ◌≤◌, ◌+◌, ◌*◌, Bool, true, false, ◌||◌, cond, inl, inr, List, [], ◌∷◌, length, is_none, arith, refl, sym, ap, subst}
use Rattle.std.proofs.lemmas.Bool.{and_parts, leb-true, or_cases, or_left, or_right}
use Rattle.std.proofs.lemmas.Bool.Decides.{eqb_tells}
use Rattle.occ_renamed.specs.occ_base.declared.names.Name.{Name}
use Rattle.occ_renamed.specs.occ_base.declared.width.Width.TheVariants.{Bool as TruthValue, Word}
use Rattle.occ_renamed.specs.occ_bits.Named.{bits_named, named_part}
use Rattle.occ_renamed.specs.occ_law.Lists.{variables}
use Rattle.occ_renamed.specs.occ_law.States.{AreFew}
use Rattle.occ_renamed.proofs.from_meaning.Facts.{false_not_true, name_at, name_off, off_turned, true_not_false}
use Rattle.occ_renamed.specs.occ_syntax.declared.scope.Kind.{Kind}
use Rattle.occ_renamed.specs.occ_syntax.declared.scope.Kind.TheVariants.{Chan, Var}
use Rattle.occ_renamed.specs.occ_syntax.Counts.{bits_of_kind, bits_of_scope}
use Rattle.occ_renamed.specs.occ_syntax.Names.{is_in, some_names}
use Rattle.occ_renamed.specs.occ_syntax.Scopes.{environment}
use Rattle.occ_renamed.specs.occ_syntax.Tree.{Exp, variable}
use Rattle.occ_renamed.specs.occ_syntax.Types.{can_declare, is_width, scope_kept, width_of_kind}

-- expressions that name no more have no more bits
pub bits_more : (S : List (Name × Kind)) (es fs : List Exp) → ((x : ℕ) → some_names es x ≡ true → some_names fs x ≡ true) → bits_named S es ≤ bits_named S fs
bits_more [] es fs f = omega arith
bits_more (entry ∷ S) es fs f = choose (some_names es entry.0.0) (some_names fs entry.0.0) (f entry.0.0) (bits_more S es fs f)
  where
    choose : (a b : Bool) → (a ≡ true → b ≡ true) → bits_named S es ≤ bits_named S fs
        → bits_of_scope (cond a (entry ∷ named_part S es) (named_part S es)) ≤ bits_of_scope (cond b (entry ∷ named_part S fs) (named_part S fs))
    choose true true g h = omega (arith, h)
    choose true false g h = false_not_true (g refl)
    choose false true g h = omega (arith, h)
    choose false false g h = h

-- of none there are none
no_bits : (S : List (Name × Kind)) → bits_named S [] ≡ 0
no_bits [] = refl
no_bits (entry ∷ S) = no_bits S

kind_within : (k : Kind) → is_width (width_of_kind k) ≡ true → bits_of_kind k ≤ 8
kind_within (Var TruthValue) h = omega arith
kind_within (Var (Word bits)) h = leb-true bits 8 (and_parts _ _ h).1
kind_within (Chan w d) h = omega arith

-- one variable more: an entry of the scope that isn't this variable, and the one that is
skip_entry : (entry : Name × Kind) (S : List (Name × Kind)) (x : ℕ) (es : List Exp) (n : ℕ) → (entry.0.0 == x) ≡ false
    → bits_named S (variable x ∷ es) ≤ n + bits_named S es → bits_named (entry ∷ S) (variable x ∷ es) ≤ n + bits_named (entry ∷ S) es
skip_entry entry S x es n e k =
    subst (λ b. bits_of_scope (cond (b || some_names es entry.0.0) (entry ∷ named_part S (variable x ∷ es)) (named_part S (variable x ∷ es)))
    ≤ n + bits_of_scope (cond (some_names es entry.0.0) (entry ∷ named_part S es) (named_part S es))) (sym e) (by (some_names es entry.0.0) k)
  where
    by : (a : Bool) → bits_named S (variable x ∷ es) ≤ n + bits_named S es
        → bits_of_scope (cond a (entry ∷ named_part S (variable x ∷ es)) (named_part S (variable x ∷ es)))
        ≤ n + bits_of_scope (cond a (entry ∷ named_part S es) (named_part S es))
    by true k = omega (arith, k)
    by false k = k

take_entry : (entry : Name × Kind) (S : List (Name × Kind)) (x : ℕ) (es : List Exp) → bits_of_kind entry.1 ≤ 8 → (entry.0.0 == x) ≡ true
    → bits_named S (variable x ∷ es) ≤ 0 + bits_named S es → bits_named (entry ∷ S) (variable x ∷ es) ≤ 8 + bits_named (entry ∷ S) es
take_entry entry S x es wide e k =
    subst (λ b. bits_of_scope (cond (b || some_names es entry.0.0) (entry ∷ named_part S (variable x ∷ es)) (named_part S (variable x ∷ es)))
    ≤ 8 + bits_of_scope (cond (some_names es entry.0.0) (entry ∷ named_part S es) (named_part S es))) (sym e) (by (some_names es entry.0.0) k)
  where
    by : (a : Bool) → bits_named S (variable x ∷ es) ≤ 0 + bits_named S es
        → bits_of_scope (entry ∷ named_part S (variable x ∷ es)) ≤ 8 + bits_of_scope (cond a (entry ∷ named_part S es) (named_part S es))
    by true k = omega (arith, k)
    by false k = omega (arith, k, wide)

-- a variable that isn't in scope has none
unknown_bits : (S : List (Name × Kind)) (x : ℕ) (es : List Exp) → is_none (environment S x) ≡ true
    → bits_named S (variable x ∷ es) ≤ 0 + bits_named S es
unknown_bits [] x es h = omega arith
unknown_bits (entry ∷ S) x es h = elim (eqb_tells entry.0.0 x) [
  | inl i ↦ true_not_false (sym (subst (λ z. is_none (environment (entry ∷ S) z) ≡ true) (sym i.1) h) ∙ ap is_none (name_at (environment S) entry.0.0 entry.1))
  | inr i ↦ skip_entry entry S x es 0 i.0
      (unknown_bits S x es (sym (ap is_none (name_off (environment S) entry.0.0 entry.1 x (off_turned entry.0.0 x i.0))) ∙ h))
]

-- one variable more has 8 bits more at most
one_more : (S : List (Name × Kind)) (x : ℕ) (es : List Exp) → scope_kept S ≡ true → bits_named S (variable x ∷ es) ≤ 8 + bits_named S es
one_more [] x es h = omega arith
one_more (entry ∷ S) x es h =
    let both = and_parts (can_declare (environment S) entry.0.0 (width_of_kind entry.1)) (scope_kept S) h in
    let declared = and_parts (is_none (environment S entry.0.0)) (is_width (width_of_kind entry.1)) both.0 in
    elim (eqb_tells entry.0.0 x) [
      | inl i ↦ take_entry entry S x es (kind_within entry.1 declared.1) i.0
          (unknown_bits S x es (subst (λ z. is_none (environment S z) ≡ true) i.1 declared.0))
      | inr i ↦ skip_entry entry S x es 8 i.0 (one_more S x es both.1)
    ]

variables_within : (S : List (Name × Kind)) (xs : List ℕ) → scope_kept S ≡ true → bits_named S (variables xs) ≤ 8 * length xs
variables_within S [] h = let none = no_bits S in omega (arith, none)
variables_within S (x ∷ xs) h =
    let more = one_more S x (variables xs) h in
    let rest = variables_within S xs h in
    omega (arith, more, rest)

named_among : (xs : List ℕ) (x : ℕ) → is_in xs x ≡ true → some_names (variables xs) x ≡ true
named_among [] x h = h
named_among (y ∷ xs) x h = elim (or_cases (x == y) (is_in xs x) h) [
  | inl i ↦ or_left (x == y) (some_names (variables xs) x) i
  | inr i ↦ or_right (x == y) (some_names (variables xs) x) (named_among xs x i)
]

-- expressions that name three variables at most
pub variables_few : (S : List (Name × Kind)) (es : List Exp) (xs : List ℕ) → scope_kept S ≡ true → length xs ≤ 3
    → ((x : ℕ) → some_names es x ≡ true → is_in xs x ≡ true) → AreFew S es
variables_few S es xs h n f =
    let more = bits_more S es (variables xs) (λ x k. named_among xs x (f x k)) in
    let all = variables_within S xs h in
    omega (arith, more, all, n)
