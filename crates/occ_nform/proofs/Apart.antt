-- Normal texts tell programs apart.
use Rattle.std.proofs.Common.{◌≡◌, ◌<◌, ◌^◌, ◌↔◌, ℕ, Bool, true, false, List, Result, Ok, Err, get_or, length, refl, sym, ap, ◌∙◌, subst}
use Rattle.std.proofs.lemmas.Bool.{and_parts}
use Rattle.occ_syntax.specs.occ_base.declared.names.Name.{Name}
use Rattle.occ_syntax.specs.declared.scope.Kind.{Kind}
use Rattle.occ_syntax.specs.Same.{SAME}
use Rattle.occ_syntax.specs.Scopes.{EventSet, Trace, allows, environment, in_scope, values}
use Rattle.occ_syntax.specs.Tree.{Tree}
use Rattle.occ_syntax.specs.Types.{scope_kept, types_kept}
use Rattle.occ_nform_rows.proofs.from_meaning.Interface.{same_over_interface}
use Rattle.occ_nform_rows.specs.occ_behaviour.States.{is_state}
use Rattle.occ_nform_rows.specs.occ_nform_table.declared.table.TableFault.{TableFault}
use Rattle.occ_nform_rows.specs.occ_nform_table.declared.table.TableRow.{TableRow}
use Rattle.occ_nform_rows.specs.occ_nform_table.Behaviours.{IsOfInterface, Stands, row_ends, row_fails}
use Rattle.occ_nform_rows.specs.occ_nform_table.Lines.{state_place}
use Rattle.occ_nform_rows.specs.occ_nform_table.Normal.{Parts}
use Rattle.occ_nform_rows.specs.occ_nform_table.Tables.{IsNormal}
use Rattle.occ_nform_rows.specs.occ_nform_table.Texts.{state_at_place, table_text}
use Rattle.occ_nform_rows.proofs.from_nform_table.Whole.{normal_text}
use Rattle.occ_nform_rows.proofs.from_nform_table.PlaceNames.{place_is_state, place_there}
use Rattle.occ_nform_rows.specs.occ_nform_table.Alike.{HaveSameBehaviours}
use Rattle.occ_nform_rows.proofs.from_nform_table.Unique.{one_normal_table}
use Rattle.occ_nform.specs.Written.{IsNormalText}
use Rattle.occ_nform.proofs.Programs.{ends_too, fails_too, state_values}

same_truth : (a b : Bool) → (a ≡ true → b ≡ true) → (b ≡ true → a ≡ true) → a ≡ b
same_truth true b h k = sym (h refl)
same_truth false true h k = k refl
same_truth false false h k = refl

abbrev pub parts : List (List ℕ) → List (Name × Kind) → List TableRow → List ℕ → Parts
parts names params rows states = record { names = names; params = params; rows = rows; states = states }

-- ---- programs that mean the same have one table
module _ (names : List (List ℕ)) (params : List (Name × Kind)) (scope : scope_kept params ≡ true) (p q : Tree) (r v : List TableRow) (u w : List ℕ) (one : Stands params r u p) (two : Stands params v w q) (same : SAME (environment params) p q) where
  rows_fail : (s : List (Name × ℕ)) (t : Trace) (X : EventSet) → is_state params s ≡ true → IsOfInterface params t X → row_fails r (get_or u (state_place params s) 0) t X ≡ row_fails v (get_or w (state_place params s) 0) t X
  rows_fail s t X state of =
      let both = same.same_failures (values s) t X (state_values params s scope state) (λ e k. (and_parts (in_scope (environment params) e) (allows (environment params e.chan.0) e.dir) (of.1 e k)).0) in
      same_truth (row_fails r (get_or u (state_place params s) 0) t X) (row_fails v (get_or w (state_place params s) 0) t X)
      (λ f. (two.fails_so s t X state of).1 (both.0 ((one.fails_so s t X state of).0 f)))
      (λ f. (one.fails_so s t X state of).1 (both.1 ((two.fails_so s t X state of).0 f)))

  rows_end : (s l : List (Name × ℕ)) (t : Trace) → is_state params s ≡ true → is_state params l ≡ true → IsOfInterface params t (λ e. false)
      → row_ends params r (get_or u (state_place params s) 0) t (state_place params l) ≡ row_ends params v (get_or w (state_place params s) 0) t (state_place params l)
  rows_end s l t state last of =
      let both = same.same_ends (values s) t (values l) (state_values params s scope state) in
      same_truth (row_ends params r (get_or u (state_place params s) 0) t (state_place params l)) (row_ends params v (get_or w (state_place params s) 0) t (state_place params l))
      (λ f. (two.ends_so s l t state last of).1 (both.0 ((one.ends_so s l t state last of).0 f)))
      (λ f. (one.ends_so s l t state last of).1 (both.1 ((two.ends_so s l t state last of).0 f)))

  tables_alike : HaveSameBehaviours (parts names params r u) (parts names params v w)
  tables_alike = record {
    same_fails = λ k t X within of.
        subst (λ n. row_fails r (get_or u n 0) t X ≡ row_fails v (get_or w n 0) t X) (place_there params k within) (rows_fail (state_at_place params k) t X (place_is_state params k) of);
    same_ends = λ k place t within small of.
        subst (λ n. row_ends params r (get_or u n 0) t place ≡ row_ends params v (get_or w n 0) t place) (place_there params k within)
        (subst (λ n. row_ends params r (get_or u (state_place params (state_at_place params k)) 0) t n ≡ row_ends params v (get_or w (state_place params (state_at_place params k)) 0) t n) (place_there params place small)
        (rows_end (state_at_place params k) (state_at_place params place) t (place_is_state params k) (place_is_state params place) of));
  }

  -- their normal tables are one
  one_normal : IsNormal (parts names params r u) → IsNormal (parts names params v w) → (r ≡ v) × (u ≡ w)
  one_normal hr hv = one_normal_table (parts names params r u) (parts names params v w) refl refl hr hv tables_alike

  one_text : IsNormal (parts names params r u) → IsNormal (parts names params v w) → table_text names params r u ≡ table_text names params v w
  one_text hr hv = let is = one_normal hr hv in λ i. table_text names params (is.0 i) (is.1 i)

-- a program has one normal table
pub one_table_of : (names : List (List ℕ)) (params : List (Name × Kind)) (p : Tree) (r v : List TableRow) (u w : List ℕ) → scope_kept params ≡ true
    → IsNormal (parts names params r u) → IsNormal (parts names params v w) → Stands params r u p → Stands params v w p → (r ≡ v) × (u ≡ w)
one_table_of names params p r v u w scope hr hv one two =
    one_normal names params scope p p r v u w one two (record { same_failures = λ s t X i k. (λ h. h, λ h. h); same_ends = λ s t z i. (λ h. h, λ h. h) }) hr hv

parts_are : (t : Parts) (names : List (List ℕ)) (params : List (Name × Kind)) → t.names ≡ names → t.params ≡ params → t ≡ parts names params t.rows t.states
parts_are t names params e f = λ i. record { names = e i; params = f i; rows = t.rows; states = t.states }

read_as : Parts → Result Parts TableFault → Parts
read_as t (Ok u) = u
read_as t (Err f) = t

-- ---- both ways
module _ (names : List (List ℕ)) (params : List (Name × Kind)) (p q : Tree) (scope : scope_kept params ≡ true) (hp : types_kept p (environment params) ≡ true) (hq : types_kept q (environment params) ≡ true) where
  whole : (r : Tree) (text : List ℕ) (small : length text < 2 ^ 64) (is : IsNormalText names params r text)
      → IsNormal (parts names params is.table.rows is.table.states) × (text ≡ table_text names params is.table.rows is.table.states)
  whole r text small is =
      let e = parts_are is.table names params is.names_are is.params_are in
      subst (λ t. IsNormal t × (text ≡ table_text t.names t.params t.rows t.states)) e (normal_text names text is.table small is.reads)

  same_texts : (one two : List ℕ) → length one < 2 ^ 64 → length two < 2 ^ 64 → IsNormalText names params p one → IsNormalText names params q two → SAME (environment params) p q → one ≡ two
  same_texts one two small less first second same =
      let a = whole p one small first in
      let b = whole q two less second in
      a.1 ∙ one_text names params scope p q first.table.rows second.table.rows first.table.states second.table.states first.stands second.stands same a.0 b.0 ∙ sym b.1

  same_programs : (rows : List TableRow) (states : List ℕ) → Stands params rows states p → Stands params rows states q → SAME (environment params) p q
  same_programs rows states one two = same_over_interface (environment params) p q hp hq
      (λ s t X state within. (fails_too params scope rows states p q hp hq one two s t X state within, fails_too params scope rows states q p hq hp two one s t X state within))
      (λ s t s' state. (ends_too params scope rows states p q hp hq one two s t s' state, ends_too params scope rows states q p hq hp two one s t s' state))

  one_table : (text : List ℕ) (first : IsNormalText names params p text) (second : IsNormalText names params q text) → first.table ≡ second.table
  unfolding read_as
  one_table text first second = ap (read_as first.table) (sym first.reads ∙ second.reads)

  of_one_text : (text : List ℕ) → IsNormalText names params p text → IsNormalText names params q text → SAME (environment params) p q
  of_one_text text first second = same_programs first.table.rows first.table.states first.stands
      (subst (λ (t : Parts). Stands params t.rows t.states q) (sym (one_table text first second)) second.stands)

  pub told_apart : (one two : List ℕ) → length one < 2 ^ 64 → length two < 2 ^ 64 → IsNormalText names params p one → IsNormalText names params q two → (one ≡ two) ↔ SAME (environment params) p q
  told_apart one two small less first second = (
    λ e. of_one_text two (subst (IsNormalText names params p) e first) second,
    same_texts one two small less first second,
  )
