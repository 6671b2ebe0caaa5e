-- What follows an IF or an ALT goes into its choices or branches, or out of them.
use Rattle.std.proofs.Common.{◌≡◌, Bool, true, false, ◌||◌, List, [], refl}
use Rattle.std.proofs.lemmas.Bool.{and_from, and_parts, or_right}
use Rattle.occ_renamed.specs.occ_base.declared.names.Name.{Name}
use Rattle.occ_derive_laws.proofs.Turns.{first_keeps, rest_keeps, with_first}
use Rattle.occ_renamed.specs.occ_law.Sequence.{each_branch_before, each_case_before, seq_alt, seq_if}
use Rattle.occ_renamed.specs.occ_law.RuleTable.{LAW}
use Rattle.occ_renamed.proofs.from_meaning.Facts.{and_four, and_three, false_not_true}
use Rattle.occ_renamed.specs.occ_syntax.declared.scope.Kind.{Kind}
use Rattle.occ_renamed.specs.occ_syntax.Names.{end_in_branches, end_in_cases, end_in_some, end_in_waiting, free, free_in_branches, free_in_cases, free_in_some, free_in_waiting, names, uses_end, written, written_in_branches, written_in_cases, written_in_some, written_in_waiting}
use Rattle.occ_renamed.specs.occ_syntax.Scopes.{Environment, environment}
use Rattle.occ_renamed.specs.occ_syntax.Tree.{Branches, Cases, Trees, alt, and_branch, and_case, and_tree, no_branch, no_case, select, seq}
use Rattle.occ_renamed.specs.occ_syntax.Types.{all_types_kept, branches_kept, cases_kept, is_condition, types_kept, waiting_kept}
use Rattle.occ_renamed.specs.occ_syntax.Usage.{Keeps}
use Rattle.occ_renamed.specs.occ_usage.Local.{UsesNoMore}

-- ---- choices

cases_go_on : (Γ : Environment) (cs : Cases) (qs : Trees) → Keeps Γ (select cs) → Keeps Γ (seq qs) → Keeps Γ (select (each_case_before cs qs))
cases_go_on Γ no_case qs k m = record { types = refl; usage = tt }
cases_go_on Γ (and_case b p cs) qs k m =
    let t = and_three (is_condition Γ b) (types_kept p Γ) (cases_kept cs Γ) k.types in
    let rest = cases_go_on Γ cs qs (record { types = t.2; usage = k.usage.1 }) m in
    record {
      types = and_from _ _ (and_from _ _ t.0 (and_from (types_kept p Γ) (all_types_kept qs Γ) t.1 m.types)) rest.types;
      usage = ((k.usage.0, m.usage), rest.usage);
    }

cases_end : (Γ : Environment) (cs : Cases) (qs : Trees) → Keeps Γ (select (each_case_before cs qs)) → Keeps Γ (select cs)
cases_end Γ no_case qs k = record { types = refl; usage = tt }
cases_end Γ (and_case b p cs) qs k =
    let t = and_three (is_condition Γ b) (types_kept (seq (and_tree p qs)) Γ) (cases_kept (each_case_before cs qs) Γ) k.types in
    let rest = cases_end Γ cs qs (record { types = t.2; usage = k.usage.1 }) in
    record {
      types = and_from _ _ (and_from _ _ t.0 (and_parts (types_kept p Γ) (all_types_kept qs Γ) t.1).0) rest.types;
      usage = (k.usage.0.0, rest.usage);
    }

pub if_law : (S : List (Name × Kind)) (cs : Cases) (qs : Trees) → Keeps (environment S) (seq (and_tree (select cs) qs))
    → LAW 12 S (seq (and_tree (select cs) qs)) (select (each_case_before cs qs))
if_law S cs qs k = record {
  place = [];
  sides = seq_if cs qs;
  left = k;
  right = cases_go_on (environment S) cs qs (first_keeps (environment S) (select cs) qs k) (rest_keeps (environment S) (select cs) qs k);
}

pub if_law_back : (S : List (Name × Kind)) (cs : Cases) (qs : Trees) → Keeps (environment S) (select (each_case_before cs qs))
    → Keeps (environment S) (seq qs) → LAW 12 S (seq (and_tree (select cs) qs)) (select (each_case_before cs qs))
if_law_back S cs qs k m = record {
  place = [];
  sides = seq_if cs qs;
  left = with_first (environment S) (select cs) qs (cases_end (environment S) cs qs k) m;
  right = k;
}

-- ---- branches

branches_go_on : (Γ : Environment) (gs : Branches) (qs : Trees) → Keeps Γ (alt gs) → Keeps Γ (seq qs) → Keeps Γ (alt (each_branch_before gs qs))
branches_go_on Γ no_branch qs k m = record { types = refl; usage = tt }
branches_go_on Γ (and_branch b w p gs) qs k m =
    let t = and_four (is_condition Γ b) (waiting_kept Γ w) (types_kept p Γ) (branches_kept gs Γ) k.types in
    let rest = branches_go_on Γ gs qs (record { types = t.3; usage = k.usage.1 }) m in
    record {
      types = and_from _ _ (and_from _ _ (and_from _ _ t.0 t.1) (and_from (types_kept p Γ) (all_types_kept qs Γ) t.2 m.types)) rest.types;
      usage = ((k.usage.0, m.usage), rest.usage);
    }

branches_end : (Γ : Environment) (gs : Branches) (qs : Trees) → Keeps Γ (alt (each_branch_before gs qs)) → Keeps Γ (alt gs)
branches_end Γ no_branch qs k = record { types = refl; usage = tt }
branches_end Γ (and_branch b w p gs) qs k =
    let t = and_four (is_condition Γ b) (waiting_kept Γ w) (types_kept (seq (and_tree p qs)) Γ) (branches_kept (each_branch_before gs qs) Γ) k.types in
    let rest = branches_end Γ gs qs (record { types = t.3; usage = k.usage.1 }) in
    record {
      types = and_from _ _ (and_from _ _ (and_from _ _ t.0 t.1) (and_parts (types_kept p Γ) (all_types_kept qs Γ) t.2).0) rest.types;
      usage = (k.usage.0.0, rest.usage);
    }

pub alt_law : (S : List (Name × Kind)) (gs : Branches) (qs : Trees) → Keeps (environment S) (seq (and_tree (alt gs) qs))
    → LAW 13 S (seq (and_tree (alt gs) qs)) (alt (each_branch_before gs qs))
alt_law S gs qs k = record {
  place = [];
  sides = seq_alt gs qs;
  left = k;
  right = branches_go_on (environment S) gs qs (first_keeps (environment S) (alt gs) qs k) (rest_keeps (environment S) (alt gs) qs k);
}

pub alt_law_back : (S : List (Name × Kind)) (gs : Branches) (qs : Trees) → Keeps (environment S) (alt (each_branch_before gs qs))
    → Keeps (environment S) (seq qs) → LAW 13 S (seq (and_tree (alt gs) qs)) (alt (each_branch_before gs qs))
alt_law_back S gs qs k m = record {
  place = [];
  sides = seq_alt gs qs;
  left = with_first (environment S) (alt gs) qs (branches_end (environment S) gs qs k) m;
  right = k;
}

-- ---- what is used

-- a process in a list, with what follows it, and the others
in_list : (a p q r s : Bool) → (r ≡ true → (s || q) ≡ true) → ((a || (p || q)) || r) ≡ true → (((a || p) || s) || q) ≡ true
in_list true p q r s f h = refl
in_list false true q r s f h = refl
in_list false false true r s f h = or_right s true refl
in_list false false false r s f h = f h

pub if_spares : (cs : Cases) (qs : Trees) → UsesNoMore (select (each_case_before cs qs)) (seq (and_tree (select cs) qs))
if_spares no_case qs = record { frees = λ x h. false_not_true h; writes = λ x h. false_not_true h; ends = λ c d h. false_not_true h }
if_spares (and_case b p cs) qs = let v = if_spares cs qs in record {
  frees = λ x h. in_list (names b x) (free p x) (free_in_some qs x) (free_in_cases (each_case_before cs qs) x) (free_in_cases cs x) (v.frees x) h;
  writes = λ x h. in_list false (written p x) (written_in_some qs x) (written_in_cases (each_case_before cs qs) x) (written_in_cases cs x) (v.writes x) h;
  ends = λ c d h. in_list false (uses_end p c d) (end_in_some qs c d) (end_in_cases (each_case_before cs qs) c d) (end_in_cases cs c d) (v.ends c d) h;
}

pub alt_spares : (gs : Branches) (qs : Trees) → UsesNoMore (alt (each_branch_before gs qs)) (seq (and_tree (alt gs) qs))
alt_spares no_branch qs = record { frees = λ x h. false_not_true h; writes = λ x h. false_not_true h; ends = λ c d h. false_not_true h }
alt_spares (and_branch b w p gs) qs = let v = alt_spares gs qs in record {
  frees = λ x h. in_list (names b x || free_in_waiting w x) (free p x) (free_in_some qs x) (free_in_branches (each_branch_before gs qs) x)
      (free_in_branches gs x) (v.frees x) h;
  writes = λ x h. in_list (written_in_waiting w x) (written p x) (written_in_some qs x) (written_in_branches (each_branch_before gs qs) x)
      (written_in_branches gs x) (v.writes x) h;
  ends = λ c d h. in_list (end_in_waiting w c d) (uses_end p c d) (end_in_some qs c d) (end_in_branches (each_branch_before gs qs) c d)
      (end_in_branches gs c d) (v.ends c d) h;
}
