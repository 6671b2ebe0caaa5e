-- Each declared name is renamed to one that is none of some names.
use Rattle.std.proofs.Common.{arith, ◌≡◌, ◌∙◌, ℕ, suc, ◌+◌, ◌≤◌, max, Bool, true, false, ◌||◌, ◌==◌, List, [], ◌∷◌, ◌++◌, None, refl, sym, ap, subst}
use Rattle.std.proofs.lemmas.Bool.{and_from, and_parts, eqb-true, ne_eqb, or_from, or_parts}
use Rattle.occ_engine.specs.occ_base.declared.names.Name.{Name}
use Rattle.occ_engine.specs.occ_base.declared.width.Width.{Width}
use Rattle.occ_complete_states.specs.occ_derive_moves.Apart.{has_declared, some_branch_declares, some_case_declares, some_declare}
use Rattle.occ_complete.proofs.FreedRenaming.{declares_no_more}
use Rattle.occ_complete.proofs.Sparing.{AllSpare, BranchesSpare, CasesSpare, alt_spares, and_branch_spares, and_case_spares, and_spare, no_branch_spares, no_case_spares, none_spare, par_spares, select_spares, seq_spares}
use Rattle.occ_complete.specs.Freed.{IsFreed}
use Rattle.occ_complete.proofs.Renaming.{few_renamed}
use Rattle.occ_complete_states.proofs.from_derive_laws.Renamed.{channel_renamed, channel_renamed_spares, variable_renamed, variable_renamed_spares}
use Rattle.occ_complete_states.proofs.Fresh.{scope_below, stands_below, top_of, top_of_scope}
use Rattle.occ_complete_states.proofs.Leading.{connected_spares, declared_spares, law_spares, spares_itself, spares_keep, spares_on}
use Rattle.occ_complete_states.proofs.Scopes.{declared_keeps}
use Rattle.occ_complete_states.specs.Few.{AllFew, BranchesFew, CasesFew, IsFew}
use Rattle.occ_complete_states.specs.Leads.{LeadsSparing}
use Rattle.occ_engine.specs.occ_law.Lists.{conditions}
use Rattle.occ_engine.specs.occ_law.States.{AreFew}
use Rattle.occ_engine.proofs.from_meaning.Facts.{and_three, and_four, false_not_true}
use Rattle.occ_engine.specs.occ_meaning.Rename.{renamed, replacing, stands}
use Rattle.occ_engine.specs.occ_syntax.declared.scope.Kind.{Kind}
use Rattle.occ_engine.specs.occ_syntax.declared.scope.Kind.TheVariants.{Chan, Var}
use Rattle.occ_engine.specs.occ_syntax.Names.{is_in}
use Rattle.occ_engine.specs.occ_syntax.Scopes.{environment}
use Rattle.occ_engine.specs.occ_syntax.Tree.{Branches, Cases, Exp, Tree, Trees, Waiting, alt, and_branch, and_case, and_tree, assign, connect, declare, no_branch, no_case, no_tree, par, receive, select, send, seq, skip, stop}
use Rattle.occ_engine.specs.occ_syntax.Types.{all_types_kept, branches_kept, cases_kept, is_condition, scope_kept, types_kept, waiting_kept}
use Rattle.occ_engine.specs.occ_syntax.Usage.{AllKeepUsage, BranchesKeepUsage, CasesKeepUsage, Keeps}
use Rattle.occ_engine.proofs.from_script_lines.Scoping.{scope_kept-push}
use Rattle.occ_complete_states.proofs.from_derive_laws.Opened.{opened}
use Rattle.occ_engine.proofs.from_usage.Scoped.{environment-push}

-- ---- a name that is none of some

abbrev top_of_names : List ℕ → ℕ
top_of_names [] = 0
top_of_names (x ∷ xs) = max (suc x) (top_of_names xs)

among_below : (ts : List ℕ) (t : ℕ) → is_in ts t ≡ true → suc t ≤ top_of_names ts
among_below [] t e = false_not_true e
among_below (x ∷ ts) t e = at (t == x) refl (λ f. among_below ts t f) e
  where
    at : (b : Bool) → (t == x) ≡ b → (is_in ts t ≡ true → suc t ≤ top_of_names ts) → (b || is_in ts t) ≡ true → suc t ≤ max (suc x) (top_of_names ts)
    at true f further g = subst (λ z. suc z ≤ max (suc x) (top_of_names ts)) (sym (eqb-true t x f)) (omega arith)
    at false f further g = omega (arith, further g)

record IsOther (S : List (Name × Kind)) (ts : List ℕ) (p : Tree) : Type 0 where
  name : ℕ
  nowhere : stands p name ≡ false
  new : environment S name ≡ None
  other : (t : ℕ) → is_in ts t ≡ true → (t == name) ≡ false

other_name : (S : List (Name × Kind)) (ts : List ℕ) (p : Tree) → IsOther S ts p
other_name S ts p = record {
  name = top_of p + top_of_scope S + top_of_names ts;
  nowhere = stands_below p (top_of p + top_of_scope S + top_of_names ts) (omega arith);
  new = scope_below S (top_of p + top_of_scope S + top_of_names ts) (omega arith);
  other = λ t e. ne_eqb t (top_of p + top_of_scope S + top_of_names ts) (λ f. omega (arith, among_below ts t e, f));
}

-- ---- a declaration takes it

declared_freed : (S : List (Name × Kind)) (ts : List ℕ) (x : ℕ) (w : Width) (p : Tree) → scope_kept S ≡ true → Keeps (environment S) (declare x w p)
    → IsFreed (S ++ (record { 0 = x }, Var w) ∷ []) ts p → IsFreed S ts (declare x w p)
declared_freed S ts x w p h k f =
    let o = opened (environment S) x w (Var w) p k.types in
    let inner = declared_spares S x w f.leads in
    let kept = spares_keep S h k inner in
    let z = other_name S ts f.part in
    let law = law_spares S 47 (variable_renamed S x z.name w f.part kept z.nowhere z.new) (variable_renamed_spares x z.name w f.part z.nowhere) in
    record {
      part = declare z.name w (renamed f.part (replacing x z.name));
      leads = spares_on S inner law;
      none = λ t e. or_from (t == z.name) (has_declared (renamed f.part (replacing x z.name)) t) (z.other t e) (declares_no_more f.part x z.name t (z.other t e) (f.none t e));
      few = few_renamed S x z.name (Var w) f.part o.new z.new z.nowhere f.few;
    }

connected_freed : (S : List (Name × Kind)) (ts : List ℕ) (c : ℕ) (w : Width) (p : Tree) → scope_kept S ≡ true → Keeps (environment S) (connect c w p)
    → IsFreed (S ++ (record { 0 = c }, Chan w None) ∷ []) ts p → IsFreed S ts (connect c w p)
connected_freed S ts c w p h k f =
    let o = opened (environment S) c w (Chan w None) p k.types in
    let inner = connected_spares S c w f.leads in
    let kept = spares_keep S h k inner in
    let z = other_name S ts f.part in
    let law = law_spares S 58 (channel_renamed S c z.name w f.part kept z.nowhere z.new) (channel_renamed_spares c z.name w f.part z.nowhere) in
    record {
      part = connect z.name w (renamed f.part (replacing c z.name));
      leads = spares_on S inner law;
      none = λ t e. or_from (t == z.name) (has_declared (renamed f.part (replacing c z.name)) t) (z.other t e) (declares_no_more f.part c z.name t (z.other t e) (f.none t e));
      few = few_renamed S c z.name (Chan w None) f.part o.new z.new z.nowhere f.few;
    }

-- ---- all parts

record AllFreed (S : List (Name × Kind)) (ts : List ℕ) (ps : Trees) : Type 0 where
  parts : Trees
  spare : AllSpare S ps parts
  none : (t : ℕ) → is_in ts t ≡ true → some_declare parts t ≡ false
  few : AllFew S parts

record CasesFreed (S : List (Name × Kind)) (ts : List ℕ) (cs : Cases) : Type 0 where
  choices : Cases
  spare : CasesSpare S cs choices
  none : (t : ℕ) → is_in ts t ≡ true → some_case_declares choices t ≡ false
  few : CasesFew S choices
  same : conditions choices ≡ conditions cs

record BranchesFreed (S : List (Name × Kind)) (ts : List ℕ) (gs : Branches) : Type 0 where
  branches : Branches
  spare : BranchesSpare S gs branches
  none : (t : ℕ) → is_in ts t ≡ true → some_branch_declares branches t ≡ false
  few : BranchesFew S branches

alone : (S : List (Name × Kind)) (ts : List ℕ) (p : Tree) → ((t : ℕ) → has_declared p t ≡ false) → IsFew S p → IsFreed S ts p
alone S ts p n f = record { part = p; leads = spares_itself S p; none = λ t e. n t; few = f }

connected_keeps : (S : List (Name × Kind)) (c : ℕ) (w : Width) (p : Tree) → scope_kept S ≡ true → Keeps (environment S) (connect c w p)
    → Keeps (environment (S ++ (record { 0 = c }, Chan w None) ∷ [])) p
connected_keeps S c w p h k =
    let o = opened (environment S) c w (Chan w None) p k.types in
    record { types = ap (types_kept p) (environment-push S (record { 0 = c }) (Chan w None) o.new) ∙ o.types; usage = k.usage }

mutual
  pub part_freed : (S : List (Name × Kind)) (ts : List ℕ) (p : Tree) → scope_kept S ≡ true → Keeps (environment S) p → IsFew S p → IsFreed S ts p
  part_freed S ts skip h k f = alone S ts skip (λ t. refl) f
  part_freed S ts stop h k f = alone S ts stop (λ t. refl) f
  part_freed S ts (assign xs es) h k f = alone S ts (assign xs es) (λ t. refl) f
  part_freed S ts (receive c x) h k f = alone S ts (receive c x) (λ t. refl) f
  part_freed S ts (send c e) h k f = alone S ts (send c e) (λ t. refl) f
  part_freed S ts (seq ps) h k f =
      let a = all_freed S ts ps h k.types k.usage f in record { part = seq a.parts; leads = seq_spares S a.spare; none = a.none; few = a.few }
  part_freed S ts (par ps) h k f =
      let a = all_freed S ts ps h k.types k.usage.0 f in record { part = par a.parts; leads = par_spares S a.spare; none = a.none; few = a.few }
  part_freed S ts (select cs) h k f =
      let a = cases_freed S ts cs h k.types k.usage f.1 in
      record { part = select a.choices; leads = select_spares S a.spare; none = a.none; few = (subst (AreFew S) (sym a.same) f.0, a.few) }
  part_freed S ts (alt gs) h k f =
      let a = branches_freed S ts gs h k.types k.usage f in record { part = alt a.branches; leads = alt_spares S a.spare; none = a.none; few = a.few }
  part_freed S ts (declare x w p) h k f =
      let o = opened (environment S) x w (Var w) p k.types in
      declared_freed S ts x w p h k
      (part_freed (S ++ (record { 0 = x }, Var w) ∷ []) ts p (scope_kept-push S (record { 0 = x }) (Var w) h o.new o.width) (declared_keeps S x w p k) f)
  part_freed S ts (connect c w p) h k f =
      let o = opened (environment S) c w (Chan w None) p k.types in
      connected_freed S ts c w p h k
      (part_freed (S ++ (record { 0 = c }, Chan w None) ∷ []) ts p (scope_kept-push S (record { 0 = c }) (Chan w None) h o.new o.width) (connected_keeps S c w p h k) f)

  all_freed : (S : List (Name × Kind)) (ts : List ℕ) (ps : Trees) → scope_kept S ≡ true → all_types_kept ps (environment S) ≡ true → AllKeepUsage ps → AllFew S ps
      → AllFreed S ts ps
  all_freed S ts no_tree h t u f = record { parts = no_tree; spare = none_spare; none = λ t e. refl; few = tt }
  all_freed S ts (and_tree p ps) h t u f =
      let j = and_parts (types_kept p (environment S)) (all_types_kept ps (environment S)) t in
      let a = part_freed S ts p h (record { types = j.0; usage = u.0 }) f.0 in
      let b = all_freed S ts ps h j.1 u.1 f.1 in
      record {
        parts = and_tree a.part b.parts;
        spare = and_spare a.leads b.spare;
        none = λ t e. or_from (has_declared a.part t) (some_declare b.parts t) (a.none t e) (b.none t e);
        few = (a.few, b.few);
      }

  cases_freed : (S : List (Name × Kind)) (ts : List ℕ) (cs : Cases) → scope_kept S ≡ true → cases_kept cs (environment S) ≡ true → CasesKeepUsage cs → CasesFew S cs
      → CasesFreed S ts cs
  cases_freed S ts no_case h t u f = record { choices = no_case; spare = no_case_spares; none = λ t e. refl; few = tt; same = refl }
  cases_freed S ts (and_case b p cs) h t u f =
      let j = and_three (is_condition (environment S) b) (types_kept p (environment S)) (cases_kept cs (environment S)) t in
      let a = part_freed S ts p h (record { types = j.1; usage = u.0 }) f.0 in
      let r = cases_freed S ts cs h j.2 u.1 f.1 in
      record {
        choices = and_case b a.part r.choices;
        spare = and_case_spares a.leads r.spare;
        none = λ t e. or_from (has_declared a.part t) (some_case_declares r.choices t) (a.none t e) (r.none t e);
        few = (a.few, r.few);
        same = ap (λ bs. b ∷ bs) r.same;
      }

  branches_freed : (S : List (Name × Kind)) (ts : List ℕ) (gs : Branches) → scope_kept S ≡ true → branches_kept gs (environment S) ≡ true → BranchesKeepUsage gs → BranchesFew S gs
      → BranchesFreed S ts gs
  branches_freed S ts no_branch h t u f = record { branches = no_branch; spare = no_branch_spares; none = λ t e. refl; few = tt }
  branches_freed S ts (and_branch b w p gs) h t u f =
      let j = and_four (is_condition (environment S) b) (waiting_kept (environment S) w) (types_kept p (environment S)) (branches_kept gs (environment S)) t in
      let a = part_freed S ts p h (record { types = j.2; usage = u.0 }) f.0 in
      let r = branches_freed S ts gs h j.3 u.1 f.1 in
      record {
        branches = and_branch b w a.part r.branches;
        spare = and_branch_spares a.leads r.spare;
        none = λ t e. or_from (has_declared a.part t) (some_branch_declares r.branches t) (a.none t e) (r.none t e);
        few = (a.few, r.few);
      }
