-- A table that stands for a program stands for each that means the same.
use Rattle.std.proofs.Common.{◌≡◌, ◌↔◌, ℕ, true, List, get_or}
use Rattle.std.proofs.lemmas.Bool.{and_parts}
use Rattle.occ_syntax.specs.occ_base.declared.names.Name.{Name}
use Rattle.occ_tool_run.specs.occ_behaviour.States.{is_state}
use Rattle.occ_tool_run.proofs.from_run.Holding.{holds_state}
use Rattle.occ_tool_run.specs.occ_nform_table.Behaviours.{Stands}
use Rattle.occ_tool_run.specs.occ_nform_table.declared.table.TableRow.{TableRow}
use Rattle.occ_syntax.specs.declared.scope.Kind.{Kind}
use Rattle.occ_syntax.specs.Same.{SAME}
use Rattle.occ_syntax.specs.Scopes.{EventSet, Trace, allows, environment, in_scope, values}
use Rattle.occ_syntax.specs.Tree.{Tree}
use Rattle.occ_syntax.specs.Types.{scope_kept}

-- the table of a program is that of another that means the same
pub stands_for_same : (params : List (Name × Kind)) (rows : List TableRow) (states : List ℕ) (p q : Tree) → scope_kept params ≡ true
    → SAME (environment params) p q → Stands params rows states p → Stands params rows states q
stands_for_same params rows states p q scope same one = record {
  fails_so = λ s t X state of.
      let both = same.same_failures (values s) t X (holds_state params s state)
      (λ e k. (and_parts (in_scope (environment params) e) (allows (environment params e.chan.0) e.dir) (of.1 e k)).0) in
      let is = one.fails_so s t X state of in
      (λ f. both.0 (is.0 f), λ f. is.1 (both.1 f));
  ends_so = λ s u t state last of.
      let both = same.same_ends (values s) t (values u) (holds_state params s state) in
      let is = one.ends_so s u t state last of in
      (λ f. both.0 (is.0 f), λ f. is.1 (both.1 f));
}
