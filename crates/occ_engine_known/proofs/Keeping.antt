-- A process that keeps types names nothing but what is in scope and what it declares.
use Rattle.std.proofs.Common.{◌≡◌, ℕ, ◌<◌, ◌≤◌, ◌==◌, Bool, true, false, true≢false, cond, nat_lt, not, List, [], ◌∷◌, Option, Some, None, is_some, refl, sym, subst, arith}
use Rattle.std.specs.List.{AllByRecursion, list_any}
use Rattle.std.proofs.lemmas.Bool.{and_parts, and_from, eqb-true, ltb-true, lt-ltb}
use Rattle.occ_engine.specs.occ_base.declared.event.Dir.TheVariants.{Input, Output}
use Rattle.occ_engine.specs.occ_base.declared.names.Name.{Name}
use Rattle.occ_engine.specs.occ_base.declared.width.Width.{Width}
use Rattle.occ_engine.specs.occ_base.declared.width.Width.TheVariants.{Bool as TruthValue}
use Rattle.occ_engine_known.specs.Known.{IsKnownPart, NamesAreBelow}
use Rattle.occ_engine.proofs.from_meaning.Facts.{and_four, and_three}
use Rattle.occ_engine.specs.occ_parse.Known.{all_declare, branches_declare, cases_declare, declares, is_below, params_declare}
use Rattle.occ_engine.specs.occ_print.Known.{BranchesAreKnown, CasesAreKnown, ExpIsKnown, PartIsKnown, PartsAreKnown, WaitingIsKnown}
use Rattle.occ_engine.specs.occ_syntax.declared.expr.Op.{Op}
use Rattle.occ_engine.specs.occ_syntax.declared.scope.Kind.{Kind}
use Rattle.occ_engine.specs.occ_syntax.declared.scope.Kind.TheVariants.{Chan, Var}
use Rattle.occ_engine.specs.occ_syntax.Scopes.{Environment, allows, channel_kind, channel_width, environment, variable_kind, variable_width, with_name}
use Rattle.occ_engine.specs.occ_syntax.Tree.{Exp, variable, numeral, truth, negation, complement, operation, Waiting, ready, input, output, Tree, skip, stop, assign, receive, send, seq, par, select, alt, declare, connect, Trees, no_tree, and_tree, Cases, no_case, and_case, Branches, no_branch, and_branch}
use Rattle.occ_engine.specs.occ_syntax.Types.{agree, all_types_kept, branches_kept, can_declare, cases_kept, if_truth_value, if_word, input_kept, is_condition, is_pair, output_kept, pairs_kept, scope_kept, type_of, type_of_two, types_kept, waiting_kept}

-- ---- what is there

there_of_truth : (o : Option Width) → is_some (if_truth_value o) ≡ true → is_some o ≡ true
there_of_truth (Some w) h = refl
there_of_truth None h = h

there_of_word : (o : Option Width) → is_some (if_word o) ≡ true → is_some o ≡ true
there_of_word (Some w) h = refl
there_of_word None h = h

both_there : (op : Op) (a b : Option Width) → is_some (type_of_two op a b) ≡ true → (is_some a ≡ true) × (is_some b ≡ true)
both_there op (Some a) (Some b) h = (refl, refl)
both_there op (Some a) None h = absurd (true≢false (sym h))
both_there op None b h = absurd (true≢false (sym h))

agreeing : (a b : Option Width) → agree a b ≡ true → (is_some a ≡ true) × (is_some b ≡ true)
agreeing (Some a) (Some b) h = (refl, refl)
agreeing (Some a) None h = absurd (true≢false (sym h))
agreeing None b h = absurd (true≢false (sym h))

is_variable : (o : Option Kind) → is_some (variable_kind o) ≡ true → is_some o ≡ true
is_variable (Some k) h = refl
is_variable None h = h

is_channel : (o : Option Kind) → is_some (channel_kind o) ≡ true → is_some o ≡ true
is_channel (Some k) h = refl
is_channel None h = h

-- ---- names in scope below a number

abbrev IsWithin : ℕ → Environment → Type 0
IsWithin n Γ = (x : ℕ) → is_some (Γ x) ≡ true → x < n

nothing_within : (n : ℕ) → IsWithin n (λ x. None)
nothing_within n x h = absurd (true≢false (sym h))

one_within : (n x y : ℕ) (k : Kind) (o : Option Kind) (b : Bool) → (y == x) ≡ b → x < n → (is_some o ≡ true → y < n)
    → is_some (cond b (Some k) o) ≡ true → y < n
one_within n x y k o true e l f h = subst (λ z. z < n) (sym (eqb-true y x e)) l
one_within n x y k o false e l f h = f h

with_within : (n : ℕ) (Γ : Environment) (x : ℕ) (k : Kind) → IsWithin n Γ → x < n → IsWithin n (with_name Γ x k)
with_within n Γ x k f l y h = one_within n x y k (Γ y) (y == x) refl l (f y) h

scope_within : (n : ℕ) (S : List (Name × Kind)) → params_declare (is_below n) S ≡ true → IsWithin n (environment S)
scope_within n [] h = nothing_within n
scope_within n (s ∷ S) h =
    let a = and_parts (nat_lt s.0.0 n) (params_declare (is_below n) S) h in
    with_within n (environment S) s.0.0 s.1 (scope_within n S a.1) (ltb-true s.0.0 n a.0)

pub scope_known : (n : ℕ) (S : List (Name × Kind)) → params_declare (is_below n) S ≡ true
    → AllByRecursion (λ (p : Name × Kind). p.0.0 < n) S
scope_known n [] h = tt
scope_known n (s ∷ S) h =
    let a = and_parts (nat_lt s.0.0 n) (params_declare (is_below n) S) h in
    (ltb-true s.0.0 n a.0, scope_known n S a.1)

-- ---- the names of a process

module _ (n : ℕ) where
  exp_known : (Γ : Environment) → IsWithin n Γ → (e : Exp) → is_some (type_of Γ e) ≡ true → ExpIsKnown n e
  exp_known Γ f (variable x) h = f x (is_variable (Γ x) h)
  exp_known Γ f (numeral bits value) h = tt
  exp_known Γ f (truth b) h = tt
  exp_known Γ f (negation e) h = exp_known Γ f e (there_of_truth (type_of Γ e) h)
  exp_known Γ f (complement e) h = exp_known Γ f e (there_of_word (type_of Γ e) h)
  exp_known Γ f (operation op a b) h =
      let k = both_there op (type_of Γ a) (type_of Γ b) h in
      (exp_known Γ f a k.0, exp_known Γ f b k.1)

  condition_known : (Γ : Environment) → IsWithin n Γ → (e : Exp) → is_condition Γ e ≡ true → ExpIsKnown n e
  condition_known Γ f e h = exp_known Γ f e (agreeing (type_of Γ e) (Some TruthValue) h).0

  input_known : (Γ : Environment) → IsWithin n Γ → (c x : ℕ) → input_kept Γ c x ≡ true → (c < n) × (x < n)
  input_known Γ f c x h =
      let k =
      agreeing (channel_width Γ c) (variable_width Γ x)
      (and_parts (allows (Γ c) Input) (agree (channel_width Γ c) (variable_width Γ x)) h).1 in
      (f c (is_channel (Γ c) k.0), f x (is_variable (Γ x) k.1))

  output_known : (Γ : Environment) → IsWithin n Γ → (c : ℕ) (e : Exp) → output_kept Γ c e ≡ true → (c < n) × ExpIsKnown n e
  output_known Γ f c e h =
      let k = agreeing (channel_width Γ c) (type_of Γ e) (and_parts (allows (Γ c) Output) (agree (channel_width Γ c) (type_of Γ e)) h).1 in
      (f c (is_channel (Γ c) k.0), exp_known Γ f e k.1)

  waiting_known : (Γ : Environment) → IsWithin n Γ → (w : Waiting) → waiting_kept Γ w ≡ true → WaitingIsKnown n w
  waiting_known Γ f ready h = tt
  waiting_known Γ f (input c x) h = input_known Γ f c x h
  waiting_known Γ f (output c e) h = output_known Γ f c e h

  pairs_known : (Γ : Environment) → IsWithin n Γ → (xs : List ℕ) (es : List Exp) → pairs_kept Γ xs es ≡ true
      → AllByRecursion (λ (x : ℕ). x < n) xs × AllByRecursion (ExpIsKnown n) es
  pairs_known Γ f [] [] h = (tt, tt)
  pairs_known Γ f [] (e ∷ es) h = absurd (true≢false (sym h))
  pairs_known Γ f (x ∷ xs) [] h = absurd (true≢false (sym h))
  pairs_known Γ f (x ∷ xs) (e ∷ es) h =
      let a = and_three (agree (variable_width Γ x) (type_of Γ e)) (not (list_any (λ y. x == y) xs)) (pairs_kept Γ xs es) h in
      let k = agreeing (variable_width Γ x) (type_of Γ e) a.0 in
      let rest = pairs_known Γ f xs es a.2 in
      ((f x (is_variable (Γ x) k.0), rest.0), (exp_known Γ f e k.1, rest.1))

  mutual
    part_known : (p : Tree) (Γ : Environment) → IsWithin n Γ → types_kept p Γ ≡ true → declares (is_below n) p ≡ true → PartIsKnown n p
    part_known skip Γ f h d = tt
    part_known stop Γ f h d = tt
    part_known (assign xs es) Γ f h d = pairs_known Γ f xs es (and_parts (is_pair xs) (pairs_kept Γ xs es) h).1
    part_known (receive c x) Γ f h d = input_known Γ f c x h
    part_known (send c e) Γ f h d = output_known Γ f c e h
    part_known (seq ps) Γ f h d = parts_known ps Γ f h d
    part_known (par ps) Γ f h d = parts_known ps Γ f h d
    part_known (select cs) Γ f h d = cases_known cs Γ f h d
    part_known (alt bs) Γ f h d = branches_known bs Γ f h d
    part_known (declare x w p) Γ f h d =
        let a = and_parts (nat_lt x n) (declares (is_below n) p) d in
        let low = ltb-true x n a.0 in (
          low,
          part_known p (with_name Γ x (Var w)) (with_within n Γ x (Var w) f low)
              (and_parts (can_declare Γ x w) (types_kept p (with_name Γ x (Var w))) h).1 a.1,
        )
    part_known (connect c w p) Γ f h d =
        let a = and_parts (nat_lt c n) (declares (is_below n) p) d in
        let low = ltb-true c n a.0 in
        let k = Chan w None in (
          low,
          part_known p (with_name Γ c k) (with_within n Γ c k f low)
              (and_parts (can_declare Γ c w) (types_kept p (with_name Γ c k)) h).1 a.1,
        )

    parts_known : (ps : Trees) (Γ : Environment) → IsWithin n Γ → all_types_kept ps Γ ≡ true → all_declare (is_below n) ps ≡ true
        → PartsAreKnown n ps
    parts_known no_tree Γ f h d = tt
    parts_known (and_tree p ps) Γ f h d =
        let k = and_parts (types_kept p Γ) (all_types_kept ps Γ) h in
        let a = and_parts (declares (is_below n) p) (all_declare (is_below n) ps) d in
        (part_known p Γ f k.0 a.0, parts_known ps Γ f k.1 a.1)

    cases_known : (cs : Cases) (Γ : Environment) → IsWithin n Γ → cases_kept cs Γ ≡ true → cases_declare (is_below n) cs ≡ true
        → CasesAreKnown n cs
    cases_known no_case Γ f h d = tt
    cases_known (and_case e p cs) Γ f h d =
        let k = and_three (is_condition Γ e) (types_kept p Γ) (cases_kept cs Γ) h in
        let a = and_parts (declares (is_below n) p) (cases_declare (is_below n) cs) d in
        (condition_known Γ f e k.0, part_known p Γ f k.1 a.0, cases_known cs Γ f k.2 a.1)

    branches_known : (bs : Branches) (Γ : Environment) → IsWithin n Γ → branches_kept bs Γ ≡ true → branches_declare (is_below n) bs ≡ true
        → BranchesAreKnown n bs
    branches_known no_branch Γ f h d = tt
    branches_known (and_branch e w p bs) Γ f h d =
        let k = and_four (is_condition Γ e) (waiting_kept Γ w) (types_kept p Γ) (branches_kept bs Γ) h in
        let a = and_parts (declares (is_below n) p) (branches_declare (is_below n) bs) d in
        (condition_known Γ f e k.0, waiting_known Γ f w k.1, part_known p Γ f k.2 a.0, branches_known bs Γ f k.3 a.1)

pub kept_known : (n : ℕ) (S : List (Name × Kind)) (p : Tree) → scope_kept S ≡ true → types_kept p (environment S) ≡ true
    → NamesAreBelow n S p → IsKnownPart n S p
kept_known n S p h t names = record {
  known = part_known n p (environment S) (scope_within n S names.scope_names) t names.declared;
  scope_known = scope_known n S names.scope_names;
  scope_kept_is = h;
  types = t;
}

-- ---- a greater number

module _ (m n : ℕ) (l : m ≤ n) where
  still : (x : ℕ) → is_below m x ≡ true → is_below n x ≡ true
  still x h = let low : x < m = ltb-true x m h in lt-ltb x n (omega (arith, low, l))

  mutual
    declares_still : (p : Tree) → declares (is_below m) p ≡ true → declares (is_below n) p ≡ true
    declares_still skip h = refl
    declares_still stop h = refl
    declares_still (assign xs es) h = refl
    declares_still (receive c x) h = refl
    declares_still (send c e) h = refl
    declares_still (seq ps) h = all_still ps h
    declares_still (par ps) h = all_still ps h
    declares_still (select cs) h = cases_still cs h
    declares_still (alt bs) h = branches_still bs h
    declares_still (declare x w p) h =
        let a = and_parts (is_below m x) (declares (is_below m) p) h in
        and_from (is_below n x) (declares (is_below n) p) (still x a.0) (declares_still p a.1)
    declares_still (connect c w p) h =
        let a = and_parts (is_below m c) (declares (is_below m) p) h in
        and_from (is_below n c) (declares (is_below n) p) (still c a.0) (declares_still p a.1)

    all_still : (ps : Trees) → all_declare (is_below m) ps ≡ true → all_declare (is_below n) ps ≡ true
    all_still no_tree h = refl
    all_still (and_tree p ps) h =
        let a = and_parts (declares (is_below m) p) (all_declare (is_below m) ps) h in
        and_from (declares (is_below n) p) (all_declare (is_below n) ps) (declares_still p a.0) (all_still ps a.1)

    cases_still : (cs : Cases) → cases_declare (is_below m) cs ≡ true → cases_declare (is_below n) cs ≡ true
    cases_still no_case h = refl
    cases_still (and_case e p cs) h =
        let a = and_parts (declares (is_below m) p) (cases_declare (is_below m) cs) h in
        and_from (declares (is_below n) p) (cases_declare (is_below n) cs) (declares_still p a.0) (cases_still cs a.1)

    branches_still : (bs : Branches) → branches_declare (is_below m) bs ≡ true → branches_declare (is_below n) bs ≡ true
    branches_still no_branch h = refl
    branches_still (and_branch e w p bs) h =
        let a = and_parts (declares (is_below m) p) (branches_declare (is_below m) bs) h in
        and_from (declares (is_below n) p) (branches_declare (is_below n) bs) (declares_still p a.0) (branches_still bs a.1)

  scope_still : (S : List (Name × Kind)) → params_declare (is_below m) S ≡ true → params_declare (is_below n) S ≡ true
  scope_still [] h = refl
  scope_still (s ∷ S) h =
      let a = and_parts (is_below m s.0.0) (params_declare (is_below m) S) h in
      and_from (is_below n s.0.0) (params_declare (is_below n) S) (still s.0.0 a.0) (scope_still S a.1)

  pub names_still : (S : List (Name × Kind)) (p : Tree) → NamesAreBelow m S p → NamesAreBelow n S p
  names_still S p h = record { scope_names = scope_still S h.scope_names; declared = declares_still p h.declared }
