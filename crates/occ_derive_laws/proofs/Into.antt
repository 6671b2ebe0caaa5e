-- An assignment goes into the choices of an IF or the branches of an ALT behind it.
use Rattle.std.proofs.Common.{◌≡◌, ◌∙◌, ℕ, ◌==◌, Bool, true, false, ◌&&◌, not, if◌then◌else◌, List, [], ◌∷◌, Some, refl, ap}
use Rattle.std.proofs.lemmas.Bool.{and_from, or_from, or_parts}
use Rattle.occ_renamed.specs.occ_base.declared.event.Dir.TheVariants.{Output}
use Rattle.occ_renamed.specs.occ_base.declared.names.Name.{Name}
use Rattle.occ_renamed.specs.occ_base.declared.width.Width.TheVariants.{Bool as TruthValue}
use Rattle.occ_derive_laws.proofs.Pairs.{and_pair, assign_keeps, assign_pairs, first_pair}
use Rattle.occ_derive_laws.proofs.Turns.{first_keeps, none_keeps, rest_keeps, with_first}
use Rattle.occ_renamed.specs.occ_law.Lists.{assignment, names_without, values_without}
use Rattle.occ_renamed.specs.occ_law.Sequence.{assign_alt, assign_if, assigned_behind, each_assigned, each_guard_assigned, spare_inputs, spares_input, substituted_waiting}
use Rattle.occ_renamed.specs.occ_law.RuleTable.{LAW}
use Rattle.occ_renamed.proofs.from_meaning.Facts.{and_four, and_three, false_not_true}
use Rattle.occ_renamed.proofs.from_meaning.Substituting.{substituted_type}
use Rattle.occ_renamed.specs.occ_meaning.Parallel.{one, two}
use Rattle.occ_renamed.specs.occ_meaning.Substitution.{substituted}
use Rattle.occ_renamed.specs.occ_syntax.declared.scope.Kind.{Kind}
use Rattle.occ_renamed.specs.occ_syntax.Names.{is_in, some_names, names}
use Rattle.occ_renamed.specs.occ_syntax.Scopes.{Environment, allows, channel_width, environment, variable_width}
use Rattle.occ_renamed.specs.occ_syntax.Tree.{Branches, Cases, Exp, Tree, Waiting, alt, and_branch, and_case, assign, input, no_branch, no_case, output, ready, select, seq}
use Rattle.occ_renamed.specs.occ_syntax.Types.{agree, branches_kept, cases_kept, is_condition, pairs_kept, type_of, types_kept, waiting_kept}
use Rattle.occ_renamed.specs.occ_syntax.Usage.{Keeps}

-- ---- what stands behind the assignment

behind_one : (Γ : Environment) (p q : Tree) → Keeps Γ (seq (two p q)) → Keeps Γ q
behind_one Γ p q k = first_keeps Γ q _ (rest_keeps Γ p (one q) k)

two_keep : (Γ : Environment) (p q : Tree) → Keeps Γ p → Keeps Γ q → Keeps Γ (seq (two p q))
two_keep Γ p q k m = with_first Γ p (one q) k (with_first Γ q _ m (none_keeps Γ))

condition_substituted : (Γ : Environment) (xs : List ℕ) (es : List Exp) → pairs_kept Γ xs es ≡ true → (b : Exp) → is_condition Γ b ≡ true
    → is_condition Γ (substituted xs es b) ≡ true
condition_substituted Γ xs es h b k = ap (λ t. agree t (Some TruthValue)) (substituted_type Γ xs es h b) ∙ k

-- ---- choices

cases_assigned : (Γ : Environment) (xs : List ℕ) (es : List Exp) (cs : Cases) → Keeps Γ (assign xs es) → Keeps Γ (select cs)
    → Keeps Γ (select (each_assigned xs es cs))
cases_assigned Γ xs es no_case a k = record { types = refl; usage = tt }
cases_assigned Γ xs es (and_case b p cs) a k =
    let t = and_three (is_condition Γ b) (types_kept p Γ) (cases_kept cs Γ) k.types in
    let here = two_keep Γ (assign xs es) p a (record { types = t.1; usage = k.usage.0 }) in
    let rest = cases_assigned Γ xs es cs a (record { types = t.2; usage = k.usage.1 }) in
    record {
      types = and_from _ _ (and_from _ _ (condition_substituted Γ xs es (assign_pairs Γ xs es a) b t.0) here.types) rest.types;
      usage = (here.usage, rest.usage);
    }

pub if_behind_law : (S : List (Name × Kind)) (xs : List ℕ) (es : List Exp) (cs : Cases) → Keeps (environment S) (seq (two (assign xs es) (select cs)))
    → LAW 10 S (seq (two (assign xs es) (select cs))) (select (each_assigned xs es cs))
if_behind_law S xs es cs k = record {
  place = [];
  sides = assign_if xs es cs;
  left = k;
  right = cases_assigned (environment S) xs es cs (first_keeps (environment S) (assign xs es) (one (select cs)) k)
      (behind_one (environment S) (assign xs es) (select cs) k);
}

-- ---- branches

not_in_others : (x y : ℕ) (xs : List ℕ) → is_in xs y ≡ false → is_in (names_without x xs) y ≡ false
not_in_others x y [] h = refl
not_in_others x y (z ∷ xs) h =
    let p = or_parts (y == z) (is_in xs y) h in
    other (x == z) p.0 (not_in_others x y xs p.1)
  where
    other : (b : Bool) → (y == z) ≡ false → is_in (names_without x xs) y ≡ false
        → is_in (if b then names_without x xs else z ∷ names_without x xs) y ≡ false
    other true off h = h
    other false off h = or_from (y == z) (is_in (names_without x xs) y) off h

pub others_kept : (Γ : Environment) (x : ℕ) (xs : List ℕ) (es : List Exp) → pairs_kept Γ xs es ≡ true
    → pairs_kept Γ (names_without x xs) (values_without x xs es) ≡ true
others_kept Γ x [] [] h = refl
others_kept Γ x [] (e ∷ es) h = false_not_true h
others_kept Γ x (y ∷ ys) [] h = false_not_true h
others_kept Γ x (y ∷ ys) (e ∷ es) h = let k = first_pair Γ y ys e es h in choice (x == y) k.typed (not_in_others x y ys k.once) (others_kept Γ x ys es k.rest)
  where
    choice : (b : Bool) → agree (variable_width Γ y) (type_of Γ e) ≡ true → is_in (names_without x ys) y ≡ false
        → pairs_kept Γ (names_without x ys) (values_without x ys es) ≡ true
        → pairs_kept Γ (if b then names_without x ys else y ∷ names_without x ys) (if b then values_without x ys es else e ∷ values_without x ys es) ≡ true
    choice true t o r = r
    choice false t o r = and_pair Γ y (names_without x ys) e (values_without x ys es) (record { typed = t; once = o; rest = r })

some_kept : (Γ : Environment) (xs : List ℕ) (es : List Exp) → pairs_kept Γ xs es ≡ true → Keeps Γ (assignment xs es)
some_kept Γ [] es h = record { types = refl; usage = tt }
some_kept Γ (x ∷ xs) es h = assign_keeps Γ (x ∷ xs) es refl h

behind_guard_keeps : (Γ : Environment) (xs : List ℕ) (es : List Exp) (w : Waiting) → Keeps Γ (assign xs es) → Keeps Γ (assigned_behind xs es w)
behind_guard_keeps Γ xs es ready a = a
behind_guard_keeps Γ xs es (output c e) a = a
behind_guard_keeps Γ xs es (input c x) a =
    some_kept Γ (names_without x xs) (values_without x xs es) (others_kept Γ x xs es (assign_pairs Γ xs es a))

waiting_substituted : (Γ : Environment) (xs : List ℕ) (es : List Exp) → pairs_kept Γ xs es ≡ true → (w : Waiting) → waiting_kept Γ w ≡ true
    → waiting_kept Γ (substituted_waiting xs es w) ≡ true
waiting_substituted Γ xs es h ready k = k
waiting_substituted Γ xs es h (input c x) k = k
waiting_substituted Γ xs es h (output c e) k = ap (λ t. allows (Γ c) Output && agree (channel_width Γ c) t) (substituted_type Γ xs es h e) ∙ k

branches_assigned : (Γ : Environment) (xs : List ℕ) (es : List Exp) (gs : Branches) → Keeps Γ (assign xs es) → Keeps Γ (alt gs)
    → Keeps Γ (alt (each_guard_assigned xs es gs))
branches_assigned Γ xs es no_branch a k = record { types = refl; usage = tt }
branches_assigned Γ xs es (and_branch b w p gs) a k =
    let t = and_four (is_condition Γ b) (waiting_kept Γ w) (types_kept p Γ) (branches_kept gs Γ) k.types in
    let here = two_keep Γ (assigned_behind xs es w) p (behind_guard_keeps Γ xs es w a) (record { types = t.2; usage = k.usage.0 }) in
    let rest = branches_assigned Γ xs es gs a (record { types = t.3; usage = k.usage.1 }) in
    let pairs = assign_pairs Γ xs es a in
    record {
      types = and_from _ _ (and_from _ _ (and_from _ _ (condition_substituted Γ xs es pairs b t.0) (waiting_substituted Γ xs es pairs w t.1)) here.types) rest.types;
      usage = (here.usage, rest.usage);
    }

pub alt_behind_law : (S : List (Name × Kind)) (xs : List ℕ) (es : List Exp) (gs : Branches) → Keeps (environment S) (seq (two (assign xs es) (alt gs)))
    → spare_inputs xs es gs ≡ true → LAW 11 S (seq (two (assign xs es) (alt gs))) (alt (each_guard_assigned xs es gs))
alt_behind_law S xs es gs k s = record {
  place = [];
  sides = assign_alt xs es gs s;
  left = k;
  right = branches_assigned (environment S) xs es gs (first_keeps (environment S) (assign xs es) (one (alt gs)) k)
      (behind_one (environment S) (assign xs es) (alt gs) k);
}

-- ---- right sides that name nothing

none_kept : (x y : ℕ) (xs : List ℕ) (es : List Exp) → some_names es y ≡ false → some_names (values_without x xs es) y ≡ false
none_kept x y [] es h = refl
none_kept x y (z ∷ xs) [] h = refl
none_kept x y (z ∷ xs) (e ∷ es) h =
    let p = or_parts (names e y) (some_names es y) h in
    other (x == z) p.0 (none_kept x y xs es p.1)
  where
    other : (b : Bool) → names e y ≡ false → some_names (values_without x xs es) y ≡ false
        → some_names (if b then values_without x xs es else e ∷ values_without x xs es) y ≡ false
    other true off h = h
    other false off h = or_from (names e y) (some_names (values_without x xs es) y) off h

pub constants_spare : (xs : List ℕ) (es : List Exp) (gs : Branches) → ((x : ℕ) → some_names es x ≡ false) → spare_inputs xs es gs ≡ true
constants_spare xs es no_branch h = refl
constants_spare xs es (and_branch b w p gs) h = and_from (spares_input xs es w) (spare_inputs xs es gs) (here w) (constants_spare xs es gs h)
  where
    here : (w : Waiting) → spares_input xs es w ≡ true
    here ready = refl
    here (input c x) = ap not (none_kept x x xs es (h x))
    here (output c e) = refl
