-- Declared variables under a name that stands nowhere else.
use Rattle.std.proofs.Common.{arith, ◌≡◌, ◌∙◌, ℕ, ◌+◌, ◌==◌, max, false, ◌||◌, if◌then◌else◌, List, [], ◌∷◌, ◌++◌, None, refl, ap, subst, sym}
use Rattle.std.proofs.lemmas.Bool.{or_parts}
use Rattle.occ_engine.specs.occ_base.declared.names.Name.{Name}
use Rattle.occ_engine.specs.occ_base.declared.width.Width.{Width}
use Rattle.occ_complete_states.specs.occ_derive_moves.Weight.{heaviest_branch, heaviest_case, weight, weight_of_all}
use Rattle.occ_complete_states.proofs.from_derive_laws.Opened.{apart_names, opened}
use Rattle.occ_complete_states.proofs.from_derive_laws.Renamed.{variable_renamed, variable_renamed_spares}
use Rattle.occ_complete_states.proofs.Fresh.{fresh_name}
use Rattle.occ_complete_states.proofs.Leading.{law_spares}
use Rattle.occ_complete_states.specs.Few.{AllFew, BranchesFew, CasesFew, IsFew}
use Rattle.occ_complete_states.specs.Leads.{LeadsSparing}
use Rattle.occ_complete_states.proofs.from_renamed.States.{few_under}
use Rattle.occ_complete_states.specs.occ_renamed.Scopes.{scope_renamed}
use Rattle.occ_engine.specs.occ_law.Lists.{conditions}
use Rattle.occ_engine.specs.occ_law.States.{AreFew}
use Rattle.occ_engine.proofs.from_meaning.Facts.{at_itself, if_false, if_true, name_off, off_turned}
use Rattle.occ_engine.proofs.from_meaning.Redeclared.{replaced_is_exchanged}
use Rattle.occ_engine.proofs.from_meaning.Renaming.{IsExchange, exchange_is}
use Rattle.occ_engine.specs.occ_meaning.Parallel.{two}
use Rattle.occ_engine.specs.occ_meaning.Rename.{all_renamed, branches_renamed, cases_renamed, exchanging, renamed, renamed_exp, renamed_exps, replacing, stands}
use Rattle.occ_engine.specs.occ_syntax.declared.scope.Kind.{Kind}
use Rattle.occ_engine.specs.occ_syntax.declared.scope.Kind.TheVariants.{Chan, Var}
use Rattle.occ_engine.specs.occ_syntax.Names.{names}
use Rattle.occ_engine.specs.occ_syntax.Scopes.{environment}
use Rattle.occ_engine.specs.occ_syntax.Tree.{Branches, Cases, Tree, Trees, alt, and_branch, and_case, and_tree, assign, connect, declare, no_branch, no_case, no_tree, par, receive, select, send, seq, skip, stop}
use Rattle.occ_engine.specs.occ_syntax.Usage.{Keeps}

-- ---- other names weigh the same

mutual
  weighs_same : (p : Tree) (f : ℕ → ℕ) → weight (renamed p f) ≡ weight p
  weighs_same skip f = refl
  weighs_same stop f = refl
  weighs_same (assign xs es) f = refl
  weighs_same (receive c x) f = refl
  weighs_same (send c e) f = refl
  weighs_same (seq ps) f = all_weigh_same ps f
  weighs_same (par ps) f = all_weigh_same ps f
  weighs_same (select cs) f = ap (λ n. 1 + max 1 n) (cases_weigh_same cs f)
  weighs_same (alt gs) f = ap (λ n. 1 + n) (branches_weigh_same gs f)
  weighs_same (declare x w p) f = ap (λ n. 2 + n) (weighs_same p f)
  weighs_same (connect c w p) f = weighs_same p f

  all_weigh_same : (ps : Trees) (f : ℕ → ℕ) → weight_of_all (all_renamed ps f) ≡ weight_of_all ps
  all_weigh_same no_tree f = refl
  all_weigh_same (and_tree p ps) f = let a = weighs_same p f in let b = all_weigh_same ps f in omega (arith, a, b)

  cases_weigh_same : (cs : Cases) (f : ℕ → ℕ) → heaviest_case (cases_renamed cs f) ≡ heaviest_case cs
  cases_weigh_same no_case f = refl
  cases_weigh_same (and_case b p cs) f = let a = weighs_same p f in let c = cases_weigh_same cs f in omega (arith, a, c)

  branches_weigh_same : (gs : Branches) (f : ℕ → ℕ) → heaviest_branch (branches_renamed gs f) ≡ heaviest_branch gs
  branches_weigh_same no_branch f = refl
  branches_weigh_same (and_branch b w p gs) f = let a = weighs_same p f in let c = branches_weigh_same gs f in omega (arith, a, c)

-- ---- under other names few bits are named, where the scope has these names too

conditions_under : (f : ℕ → ℕ) (cs : Cases) → conditions (cases_renamed cs f) ≡ renamed_exps f (conditions cs)
conditions_under f no_case = refl
conditions_under f (and_case b p cs) = ap (λ bs. renamed_exp f b ∷ bs) (conditions_under f cs)

one_more : (f : ℕ → ℕ) (S : List (Name × Kind)) (x : ℕ) (kind : Kind)
    → scope_renamed f (S ++ (record { 0 = x }, kind) ∷ []) ≡ scope_renamed f S ++ (record { 0 = f x }, kind) ∷ []
one_more f [] x kind = refl
one_more f (entry ∷ S) x kind = ap (λ T. (record { 0 = f entry.0.0 }, entry.1) ∷ T) (one_more f S x kind)

mutual
  is_few_under : (f : ℕ → ℕ) → IsExchange f → (S : List (Name × Kind)) (p : Tree) → IsFew S p → IsFew (scope_renamed f S) (renamed p f)
  is_few_under f inv S skip few = tt
  is_few_under f inv S stop few = tt
  is_few_under f inv S (assign xs es) few = tt
  is_few_under f inv S (receive c x) few = tt
  is_few_under f inv S (send c e) few = tt
  is_few_under f inv S (seq ps) few = all_few_under f inv S ps few
  is_few_under f inv S (par ps) few = all_few_under f inv S ps few
  is_few_under f inv S (select cs) few =
      (subst (AreFew (scope_renamed f S)) (sym (conditions_under f cs)) (few_under f inv S (conditions cs) few.0), cases_few_under f inv S cs few.1)
  is_few_under f inv S (alt gs) few = branches_few_under f inv S gs few
  is_few_under f inv S (declare x w p) few =
      subst (λ T. IsFew T (renamed p f)) (one_more f S x (Var w)) (is_few_under f inv (S ++ (record { 0 = x }, Var w) ∷ []) p few)
  is_few_under f inv S (connect c w p) few =
      subst (λ T. IsFew T (renamed p f)) (one_more f S c (Chan w None)) (is_few_under f inv (S ++ (record { 0 = c }, Chan w None) ∷ []) p few)

  all_few_under : (f : ℕ → ℕ) → IsExchange f → (S : List (Name × Kind)) (ps : Trees) → AllFew S ps → AllFew (scope_renamed f S) (all_renamed ps f)
  all_few_under f inv S no_tree few = tt
  all_few_under f inv S (and_tree p ps) few = (is_few_under f inv S p few.0, all_few_under f inv S ps few.1)

  cases_few_under : (f : ℕ → ℕ) → IsExchange f → (S : List (Name × Kind)) (cs : Cases) → CasesFew S cs → CasesFew (scope_renamed f S) (cases_renamed cs f)
  cases_few_under f inv S no_case few = tt
  cases_few_under f inv S (and_case b p cs) few = (is_few_under f inv S p few.0, cases_few_under f inv S cs few.1)

  branches_few_under : (f : ℕ → ℕ) → IsExchange f → (S : List (Name × Kind)) (gs : Branches) → BranchesFew S gs
      → BranchesFew (scope_renamed f S) (branches_renamed gs f)
  branches_few_under f inv S no_branch few = tt
  branches_few_under f inv S (and_branch b w p gs) few = (is_few_under f inv S p few.0, branches_few_under f inv S gs few.1)

-- a scope in which neither name is
scope_same : (S : List (Name × Kind)) (x y : ℕ) → environment S x ≡ None → environment S y ≡ None → scope_renamed (exchanging x y) S ≡ S
scope_same [] x y h k = refl
scope_same (entry ∷ S) x y h k =
    let n = entry.0.0 in
    let offx : (x == n) ≡ false = apart_names (environment S) n entry.1 x h in
    let offy : (y == n) ≡ false = apart_names (environment S) n entry.1 y k in
    let same : exchanging x y n ≡ n = if_false (n == x) y (if n == y then x else n) (off_turned x n offx) ∙ if_false (n == y) x n (off_turned y n offy) in
    ap (λ m. (record { 0 = m }, entry.1) ∷ scope_renamed (exchanging x y) S) same
    ∙ ap (λ T. entry ∷ T) (scope_same S x y (sym (name_off (environment S) n entry.1 x offx) ∙ h) (sym (name_off (environment S) n entry.1 y offy) ∙ k))

pub few_renamed : (S : List (Name × Kind)) (x y : ℕ) (kind : Kind) (p : Tree) → environment S x ≡ None → environment S y ≡ None → stands p y ≡ false
    → IsFew (S ++ (record { 0 = x }, kind) ∷ []) p → IsFew (S ++ (record { 0 = y }, kind) ∷ []) (renamed p (replacing x y))
few_renamed S x y kind p h k off few =
    let f = exchanging x y in
    subst (λ q. IsFew (S ++ (record { 0 = y }, kind) ∷ []) q) (sym (replaced_is_exchanged x y p off))
    (subst (λ z. IsFew (S ++ (record { 0 = z }, kind) ∷ []) (renamed p f)) (if_true (x == x) y (if x == y then x else x) (at_itself x))
    (subst (λ T. IsFew (T ++ (record { 0 = f x }, kind) ∷ []) (renamed p f)) (scope_same S x y h k)
    (subst (λ T. IsFew T (renamed p f)) (one_more f S x kind) (is_few_under f (exchange_is x y) (S ++ (record { 0 = x }, kind) ∷ []) p few))))

-- ---- a declaration under a name that stands nowhere in another part

pub record IsRenewed (S : List (Name × Kind)) (x : ℕ) (w : Width) (p q : Tree) : Type 0 where
  pub name : ℕ
  pub part : Tree
  pub leads : LeadsSparing S (declare x w p) (declare name w part)
  pub few : IsFew S (declare name w part)
  pub weighs : weight part ≡ weight p
  pub off : stands q name ≡ false

pub renewed : (S : List (Name × Kind)) (x : ℕ) (w : Width) (p q : Tree) → Keeps (environment S) (declare x w p) → IsFew S (declare x w p) → IsRenewed S x w p q
renewed S x w p q k few =
    let fresh = fresh_name S (seq (two p q)) in
    let y = fresh.name in
    let off = or_parts (stands p y) (stands q y || false) fresh.nowhere in
    record {
      name = y;
      part = renamed p (replacing x y);
      leads = law_spares S 47 (variable_renamed S x y w p k off.0 fresh.new) (variable_renamed_spares x y w p off.0);
      few = few_renamed S x y (Var w) p (opened (environment S) x w (Var w) p k.types).new fresh.new off.0 few;
      weighs = weighs_same p (replacing x y);
      off = (or_parts (stands q y) false off.1).0;
    }
