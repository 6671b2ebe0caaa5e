-- The laws of declared variables that write out values, or take pairs out of assignments, between two sides that keep the rules.
use Rattle.std.proofs.Common.{◌≡◌, ◌∙◌, ◌≤◌, ◌<◌, ◌+◌, ◌^◌, ℕ, zero, suc, Bool, true, false, not, ◌&&◌, ◌==◌, List, [], ◌∷◌, ◌++◌, None, Some, if◌then◌else◌, nat_lt, arith, lt-ltb, refl, ap, subst, sym}
use Rattle.std.proofs.lemmas.Bool.{and_from, and_parts, not-true, not_from_false, or_from, or_parts}
use Rattle.occ_renamed.specs.occ_base.declared.names.Name.{Name}
use Rattle.occ_renamed.specs.occ_base.declared.width.Width.{Width}
use Rattle.occ_renamed.specs.occ_base.declared.width.Width.TheVariants.{Bool as TruthValue, Word}
use Rattle.occ_derive_laws.proofs.Elsewhere.{pairs_elsewhere, type_elsewhere}
use Rattle.occ_derive_laws.proofs.Opened.{agree_both, declared_width, may_declare, opened, two_types, types_of_two}
use Rattle.occ_renamed.specs.occ_law.Lists.{assigned_without, assignment, names_without, values_without}
use Rattle.occ_renamed.specs.occ_law.Scope.{each_value, values_of, var_any, var_assign, var_end, words_from}
use Rattle.occ_renamed.specs.occ_law.RuleTable.{LAW}
use Rattle.occ_renamed.proofs.from_meaning.Declared.{declared_off}
use Rattle.occ_renamed.proofs.from_meaning.Facts.{and_three, at_itself, false_not_true, if_false, if_true, off_turned}
use Rattle.occ_renamed.proofs.from_meaning.Typing.{names_in_scope, pairs_in_scope}
use Rattle.occ_renamed.specs.occ_meaning.Parallel.{two}
use Rattle.occ_renamed.specs.occ_syntax.declared.scope.Kind.{Kind}
use Rattle.occ_renamed.specs.occ_syntax.declared.scope.Kind.TheVariants.{Var}
use Rattle.occ_renamed.specs.occ_syntax.Names.{is_in, some_names}
use Rattle.occ_renamed.specs.occ_syntax.Scopes.{Environment, environment, variable_kind, variable_width, with_name}
use Rattle.occ_renamed.specs.occ_syntax.Tree.{Exp, Tree, alt, assign, declare, numeral, seq, truth}
use Rattle.occ_renamed.specs.occ_syntax.Types.{agree, branches_kept, can_declare, is_width, pairs_kept, type_of, types_kept}
use Rattle.occ_renamed.specs.occ_syntax.Usage.{BranchesKeepUsage, Keeps, KeepsUsage}

-- ---- all values

-- the process of the branch for one value
abbrev begun : ℕ → Width → Tree → Exp → Tree
begun x w p v = declare x w (seq (two (assign (x ∷ []) (v ∷ [])) p))

begun_types : (Γ : Environment) (x : ℕ) (w : Width) (p : Tree) (v : Exp) → can_declare Γ x w ≡ true → types_kept p (with_name Γ x (Var w)) ≡ true
    → type_of (with_name Γ x (Var w)) v ≡ Some w → types_kept (begun x w p v) Γ ≡ true
begun_types Γ x w p v can t e =
    let Δ = with_name Γ x (Var w) in
    let first = assign (x ∷ []) (v ∷ []) in
    let pair = agree_both (variable_width Δ x) (type_of Δ v) w (declared_width Γ x w) e in
    and_from (can_declare Γ x w) (types_kept (seq (two first p)) Δ) can
    (two_types Δ first p (and_from (agree (variable_width Δ x) (type_of Δ v) && true) true (and_from (agree (variable_width Δ x) (type_of Δ v)) true pair refl) refl) t)

word_type : (Γ : Environment) (bits v : ℕ) → is_width (Word bits) ≡ true → v < 2 ^ bits → type_of Γ (numeral bits v) ≡ Some (Word bits)
word_type Γ bits v width small =
    if_true (is_width (Word bits) && nat_lt v (2 ^ bits)) (Some (Word bits)) None (and_from (is_width (Word bits)) (nat_lt v (2 ^ bits)) width (lt-ltb v (2 ^ bits) small))

words_types : (Γ : Environment) (x : ℕ) (p : Tree) (bits v n : ℕ) → is_width (Word bits) ≡ true → can_declare Γ x (Word bits) ≡ true
    → types_kept p (with_name Γ x (Var (Word bits))) ≡ true → v + n ≤ 2 ^ bits → branches_kept (each_value x (Word bits) p (words_from bits v n)) Γ ≡ true
words_types Γ x p bits v zero width can t small = refl
words_types Γ x p bits v (suc n) width can t small =
    and_from (types_kept (begun x (Word bits) p (numeral bits v)) Γ) (branches_kept (each_value x (Word bits) p (words_from bits (v + 1) n)) Γ)
    (begun_types Γ x (Word bits) p (numeral bits v) can t (word_type (with_name Γ x (Var (Word bits))) bits v width (omega arith)))
    (words_types Γ x p bits (v + 1) n width can t (omega arith))

values_types : (Γ : Environment) (x : ℕ) (w : Width) (p : Tree) → is_width w ≡ true → can_declare Γ x w ≡ true → types_kept p (with_name Γ x (Var w)) ≡ true
    → branches_kept (each_value x w p (values_of w)) Γ ≡ true
values_types Γ x TruthValue p width can t =
    and_from (types_kept (begun x TruthValue p (truth false)) Γ) (types_kept (begun x TruthValue p (truth true)) Γ && true)
    (begun_types Γ x TruthValue p (truth false) can t refl)
    (and_from (types_kept (begun x TruthValue p (truth true)) Γ) true (begun_types Γ x TruthValue p (truth true) can t refl) refl)
values_types Γ x (Word bits) p width can t = words_types Γ x p bits 0 (2 ^ bits) width can t (omega arith)

values_usage : (x : ℕ) (w : Width) (p : Tree) (vs : List Exp) → KeepsUsage p → BranchesKeepUsage (each_value x w p vs)
values_usage x w p [] u = tt
values_usage x w p (v ∷ vs) u = ((tt, (u, tt)), values_usage x w p vs u)

pub any_value : (S : List (Name × Kind)) (x : ℕ) (w : Width) (p : Tree) → Keeps (environment S) (declare x w p)
    → LAW 54 S (declare x w p) (alt (each_value x w p (values_of w)))
any_value S x w p k =
    let Γ = environment S in
    let o = opened Γ x w (Var w) p k.types in
    record {
      place = [];
      sides = var_any x w p;
      left = k;
      right = record { types = values_types Γ x w p o.width o.can o.types; usage = values_usage x w p (values_of w) k.usage };
    }

-- ---- pairs for other variables

not_in_fewer : (x y : ℕ) (ys : List ℕ) → is_in ys y ≡ false → is_in (names_without x ys) y ≡ false
not_in_fewer x y [] h = refl
not_in_fewer x y (z ∷ zs) h = let k = or_parts (y == z) (is_in zs y) h in at (x == z) k.0 (not_in_fewer x y zs k.1)
  where
    at : (b : Bool) → (y == z) ≡ false → is_in (names_without x zs) y ≡ false → is_in (if b then names_without x zs else z ∷ names_without x zs) y ≡ false
    at true e rest = rest
    at false e rest = or_from (y == z) (is_in (names_without x zs) y) e rest

gone : (x : ℕ) (ys : List ℕ) → is_in (names_without x ys) x ≡ false
gone x [] = refl
gone x (z ∷ zs) = at (x == z) refl (gone x zs)
  where
    at : (b : Bool) → (x == z) ≡ b → is_in (names_without x zs) x ≡ false → is_in (if b then names_without x zs else z ∷ names_without x zs) x ≡ false
    at true e rest = rest
    at false e rest = or_from (x == z) (is_in (names_without x zs) x) e rest

fewer_pairs : (Γ : Environment) (x : ℕ) (ys : List ℕ) (fs : List Exp) → pairs_kept Γ ys fs ≡ true → pairs_kept Γ (names_without x ys) (values_without x ys fs) ≡ true
fewer_pairs Γ x [] [] t = refl
fewer_pairs Γ x [] (f ∷ fs) t = false_not_true t
fewer_pairs Γ x (y ∷ ys) [] t = false_not_true t
fewer_pairs Γ x (y ∷ ys) (f ∷ fs) t =
    let k = and_three (agree (variable_width Γ y) (type_of Γ f)) (not (is_in ys y)) (pairs_kept Γ ys fs) t in at (x == y) k.0 (not-true (is_in ys y) k.1) (fewer_pairs Γ x ys fs k.2)
  where
    at : (b : Bool) → agree (variable_width Γ y) (type_of Γ f) ≡ true → is_in ys y ≡ false → pairs_kept Γ (names_without x ys) (values_without x ys fs) ≡ true
        → pairs_kept Γ (if b then names_without x ys else y ∷ names_without x ys) (if b then values_without x ys fs else f ∷ values_without x ys fs) ≡ true
    at true a once rest = rest
    at false a once rest =
        and_from (agree (variable_width Γ y) (type_of Γ f) && not (is_in (names_without x ys) y)) (pairs_kept Γ (names_without x ys) (values_without x ys fs))
        (and_from (agree (variable_width Γ y) (type_of Γ f)) (not (is_in (names_without x ys) y)) a (not_from_false (is_in (names_without x ys) y) (not_in_fewer x y ys once))) rest

assignment_keeps : (Γ : Environment) (ys : List ℕ) (fs : List Exp) → pairs_kept Γ ys fs ≡ true → Keeps Γ (assignment ys fs)
assignment_keeps Γ [] fs t = record { types = refl; usage = tt }
assignment_keeps Γ (y ∷ ys) fs t = record { types = t; usage = tt }

pub pair_goes : (S : List (Name × Kind)) (x : ℕ) (w : Width) (ys : List ℕ) (fs : List Exp) → Keeps (environment S) (declare x w (assign ys fs))
    → some_names (values_without x ys fs) x ≡ false → LAW 55 S (declare x w (assign ys fs)) (assigned_without x ys fs)
pair_goes S x w ys fs k off =
    let Γ = environment S in
    let Δ = with_name Γ x (Var w) in
    let o = opened Γ x w (Var w) (assign ys fs) k.types in
    let ns = names_without x ys in
    let vs = values_without x ys fs in
    record {
      place = [];
      sides = var_assign x w ys fs off;
      left = k;
      right = assignment_keeps Γ ns vs (pairs_elsewhere x Γ Δ (declared_off Γ x (Var w)) ns vs (gone x ys) off ∙ fewer_pairs Δ x ys fs (and_parts _ _ o.types).1);
    }

-- the last assignment in the scope
pub last_pair_goes : (S : List (Name × Kind)) (x : ℕ) (w : Width) (p : Tree) (ys : List ℕ) (fs : List Exp) → Keeps (environment S) (declare x w (seq (two p (assign ys fs))))
    → LAW 56 S (declare x w (seq (two p (assign ys fs)))) (declare x w (seq (two p (assigned_without x ys fs))))
last_pair_goes S x w p ys fs k =
    let Γ = environment S in
    let Δ = with_name Γ x (Var w) in
    let o = opened Γ x w (Var w) (seq (two p (assign ys fs))) k.types in
    let t = types_of_two Δ p (assign ys fs) o.types in
    let last = assignment_keeps Δ (names_without x ys) (values_without x ys fs) (fewer_pairs Δ x ys fs (and_parts _ _ t.1).1) in
    record {
      place = [];
      sides = var_end x w p ys fs;
      left = k;
      right = record {
        types = and_from (can_declare Γ x w) (types_kept (seq (two p (assigned_without x ys fs))) Δ) o.can (two_types Δ p (assigned_without x ys fs) t.0 last.types);
        usage = (k.usage.0, (last.usage, tt));
      };
    }

-- ---- one pair more

names_but_last : (x : ℕ) (vs : List ℕ) → is_in vs x ≡ false → names_without x (vs ++ x ∷ []) ≡ vs
names_but_last x [] h = if_true (x == x) [] (x ∷ []) (at_itself x)
names_but_last x (v ∷ vs) h =
    let k = or_parts (x == v) (is_in vs x) h in
    if_false (x == v) (names_without x (vs ++ x ∷ [])) (v ∷ names_without x (vs ++ x ∷ [])) k.0 ∙ ap (λ l. v ∷ l) (names_but_last x vs k.1)

values_but_last : (Γ : Environment) (x : ℕ) (e : Exp) (vs : List ℕ) (es : List Exp) → pairs_kept Γ vs es ≡ true → is_in vs x ≡ false
    → values_without x (vs ++ x ∷ []) (es ++ e ∷ []) ≡ es
values_but_last Γ x e [] [] t h = if_true (x == x) [] (e ∷ []) (at_itself x)
values_but_last Γ x e [] (f ∷ fs) t h = false_not_true t
values_but_last Γ x e (v ∷ vs) [] t h = false_not_true t
values_but_last Γ x e (v ∷ vs) (f ∷ fs) t h =
    let k = or_parts (x == v) (is_in vs x) h in
    if_false (x == v) (values_without x (vs ++ x ∷ []) (fs ++ e ∷ [])) (f ∷ values_without x (vs ++ x ∷ []) (fs ++ e ∷ [])) k.0
    ∙ ap (λ l. f ∷ l) (values_but_last Γ x e vs fs (and_parts _ _ t).1 k.1)

not_in_one_more : (x y : ℕ) (vs : List ℕ) → is_in vs y ≡ false → (y == x) ≡ false → is_in (vs ++ x ∷ []) y ≡ false
not_in_one_more x y [] h off = or_from (y == x) false off refl
not_in_one_more x y (v ∷ vs) h off = let k = or_parts (y == v) (is_in vs y) h in or_from (y == v) (is_in (vs ++ x ∷ []) y) k.0 (not_in_one_more x y vs k.1 off)

one_more_pair : (Γ : Environment) (x : ℕ) (e : Exp) (vs : List ℕ) (es : List Exp) → pairs_kept Γ vs es ≡ true → is_in vs x ≡ false
    → agree (variable_width Γ x) (type_of Γ e) ≡ true → pairs_kept Γ (vs ++ x ∷ []) (es ++ e ∷ []) ≡ true
one_more_pair Γ x e [] [] t h a = and_from (agree (variable_width Γ x) (type_of Γ e) && true) true (and_from (agree (variable_width Γ x) (type_of Γ e)) true a refl) refl
one_more_pair Γ x e [] (f ∷ fs) t h a = false_not_true t
one_more_pair Γ x e (v ∷ vs) [] t h a = false_not_true t
one_more_pair Γ x e (v ∷ vs) (f ∷ fs) t h a =
    let k = and_three (agree (variable_width Γ v) (type_of Γ f)) (not (is_in vs v)) (pairs_kept Γ vs fs) t in
    let j = or_parts (x == v) (is_in vs x) h in
    let more = is_in (vs ++ x ∷ []) v in
    and_from (agree (variable_width Γ v) (type_of Γ f) && not more) (pairs_kept Γ (vs ++ x ∷ []) (fs ++ e ∷ []))
    (and_from (agree (variable_width Γ v) (type_of Γ f)) (not more) k.0
    (not_from_false more (not_in_one_more x v vs (not-true (is_in vs v) k.1) (off_turned x v j.0)))) (one_more_pair Γ x e vs fs k.2 j.1 a)

is_some_pair : (x : ℕ) (vs : List ℕ) (es : List Exp) (Γ : Environment) → pairs_kept Γ (vs ++ x ∷ []) es ≡ true → types_kept (assign (vs ++ x ∷ []) es) Γ ≡ true
is_some_pair x [] es Γ t = t
is_some_pair x (v ∷ vs) es Γ t = t

pub pair_comes : (S : List (Name × Kind)) (x : ℕ) (w : Width) (vs : List ℕ) (es : List Exp) (e : Exp) → environment S x ≡ None → is_width w ≡ true
    → pairs_kept (environment S) vs es ≡ true → type_of (environment S) e ≡ Some w
    → LAW 55 S (declare x w (assign (vs ++ x ∷ []) (es ++ e ∷ []))) (assignment vs es)
pair_comes S x w vs es e new width t typed =
    let Γ = environment S in
    let Δ = with_name Γ x (Var w) in
    let none : variable_width Γ x ≡ None = ap variable_kind new in
    let off = pairs_in_scope Γ x none vs es t in
    let inside = sym (pairs_elsewhere x Γ Δ (declared_off Γ x (Var w)) vs es off.0 off.1) ∙ t in
    let value = sym (type_elsewhere x Γ Δ (declared_off Γ x (Var w)) e (names_in_scope Γ x none e w typed)) ∙ typed in
    let more = one_more_pair Δ x e vs es inside off.0 (agree_both (variable_width Δ x) (type_of Δ e) w (declared_width Γ x w) value) in
    let ns : names_without x (vs ++ x ∷ []) ≡ vs = names_but_last x vs off.0 in
    let fs : values_without x (vs ++ x ∷ []) (es ++ e ∷ []) ≡ es = values_but_last Γ x e vs es t off.0 in
    subst (λ q. LAW 55 S (declare x w (assign (vs ++ x ∷ []) (es ++ e ∷ []))) q) (λ i. assignment (ns i) (fs i))
    (record {
      place = [];
      sides = var_assign x w (vs ++ x ∷ []) (es ++ e ∷ []) (ap (λ l. some_names l x) fs ∙ off.1);
      left = record {
        types = and_from (can_declare Γ x w) (types_kept (assign (vs ++ x ∷ []) (es ++ e ∷ [])) Δ) (may_declare Γ x w new width) (is_some_pair x vs (es ++ e ∷ []) Δ more);
        usage = tt;
      };
      right = subst (Keeps Γ) (λ i. assignment (sym ns i) (sym fs i)) (assignment_keeps Γ vs es t);
    })
