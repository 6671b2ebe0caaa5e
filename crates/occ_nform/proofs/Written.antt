-- A table of a root stands for its program.
use Rattle.std.proofs.Common.{◌≡◌, ◌<◌, ◌≤◌, ◌^◌, ◌+◌, ◌↔◌, ℕ, true, List, [], ◌∷◌, Option, Some, None, Result, Ok, Err, IfOk, get_or, length, refl, sym, ap, ◌∙◌, subst, arith}
use Rattle.std.specs.Option.{IsSomeAnd}
use Rattle.std.specs.List.{AllByRecursion}
use Rattle.std.proofs.lemmas.List.Elements.{All-from_recursion}
use Rattle.occ_syntax.specs.occ_base.declared.names.Name.{Name}
use Rattle.occ_syntax.specs.declared.scope.Kind.{Kind}
use Rattle.occ_syntax.specs.Counts.{bits_of_scope}
use Rattle.occ_syntax.specs.Meaning.{fails as part_fails, ends as part_ends}
use Rattle.occ_syntax.specs.Scopes.{EventSet, Trace, environment, values}
use Rattle.occ_syntax.specs.Tree.{Tree}
use Rattle.occ_nform_rows.specs.occ_behaviour.States.{is_state}
use Rattle.occ_nform_rows.specs.occ_bits.Layout.{laid_out, state_of}
use Rattle.occ_nform_rows.specs.occ_mdd.Maps.{value}
use Rattle.occ_nform_rows.specs.occ_node.World.{IsNode}
use Rattle.occ_nform_rows.specs.occ_node.declared.node.NodeId.{NodeId}
use Rattle.occ_nform_rows.specs.occ_node.declared.root.Root.{Root}
use Rattle.occ_nform_rows.specs.occ_node.declared.world.World.{World}
use Rattle.occ_nform_rows.specs.occ_compare.Interface.{HasNodes}
use Rattle.occ_nform_rows.specs.occ_compare.Places.{assignment_at}
use Rattle.occ_nform_rows.proofs.from_compare.Found.{small_start}
use Rattle.occ_nform_rows.proofs.from_compare.Numbers.{small}
use Rattle.occ_nform_rows.specs.occ_nform_table.declared.table.TableRow.{TableRow}
use Rattle.occ_nform_rows.specs.occ_nform_table.Behaviours.{Stands, row_ends, row_fails}
use Rattle.occ_nform_rows.specs.occ_nform_table.Lines.{AreNamed, state_place}
use Rattle.occ_syntax.specs.occ_base.Names.{IsDistinct}
use Rattle.occ_nform_rows.specs.occ_nform_table.Normal.{text_read}
use Rattle.occ_nform_rows.specs.occ_nform_table.Tables.{AreRowsOf, IsNormal}
use Rattle.occ_nform_rows.specs.occ_nform_table.Texts.{table_text}
use Rattle.occ_nform_rows.specs.occ_nform_table.Rows.{RowIsNamed}
use Rattle.occ_nform.specs.Tabulated.{IsTabulated}
use Rattle.occ_nform_rows.proofs.from_nform_table.Named.{row_named}
use Rattle.occ_nform_rows.proofs.from_nform_table.States.{place_below}
use Rattle.occ_nform.specs.Written.{IsNormalText, IsRootOf}
use Rattle.occ_nform.specs.Lines.{RowsAreNamed}
use Rattle.occ_nform.proofs.Assignments.{values_there}
use Rattle.occ_nform.proofs.Plain.{reads}

is_there : (w : World) (o : Option NodeId) → IsSomeAnd o (IsNode w) → (a : NodeId) × (o ≡ Some a)
is_there w (Some a) h = (a, refl)
is_there w None h = absurd h

module _ (w : World) (root : Root) (rows : List TableRow) (states : List ℕ) (p : Tree) (few : bits_of_scope root.params ≤ 16) (nodes : HasNodes w root.states) (tabulated : IsTabulated w root rows states) (is : IsRootOf w root.params p root.states) where
  small_at : (s : List (Name × ℕ)) → is_state root.params s ≡ true → assignment_at root.params (state_place root.params s) < 2 ^ 64
  small_at s h = small_start root.params (assignment_at root.params (state_place root.params s)) (omega (arith, few)) (small root.params (state_place root.params s) (place_below root.params s h))

  fails_as : (s : List (Name × ℕ)) (t : Trace) (X : EventSet) → is_state root.params s ≡ true → (row_fails rows (get_or states (state_place root.params s) 0) t X ≡ true) ↔ part_fails (environment root.params) p (values s) t X
  fails_as s t X h =
      let k = state_place root.params s in
      let x = assignment_at root.params k in
      let a = is_there w (value w.maps root.states x) (nodes.nodes x (small_at s h)) in
      let both = is.root_fails x a.0 (small_at s h) a.1 t X in
      let same = tabulated.same_fails k a.0 t X (place_below root.params s h, a.1) in
      let there = values_there root.params s h in (
        λ f. subst (λ v. part_fails (environment root.params) p v t X) there (both.0 (sym same ∙ f)),
        λ d. same ∙ both.1 (subst (λ v. part_fails (environment root.params) p v t X) (sym there) d),
      )

  ends_as : (s u : List (Name × ℕ)) (t : Trace) → is_state root.params s ≡ true → is_state root.params u ≡ true
      → (row_ends root.params rows (get_or states (state_place root.params s) 0) t (state_place root.params u) ≡ true) ↔ part_ends (environment root.params) p (values s) t (values u)
  ends_as s u t h l =
      let k = state_place root.params s in
      let x = assignment_at root.params k in
      let z = assignment_at root.params (state_place root.params u) in
      let a = is_there w (value w.maps root.states x) (nodes.nodes x (small_at s h)) in
      let both = is.root_ends x a.0 (small_at s h) a.1 t z (small_at u l) in
      let same = tabulated.same_ends k a.0 t (state_place root.params u) (place_below root.params s h, a.1) (place_below root.params u l) in
      let there = values_there root.params s h in
      let last = values_there root.params u l in (
        λ f. subst (λ v. part_ends (environment root.params) p v t (values u)) there (subst (part_ends (environment root.params) p (state_of (laid_out 0 root.params) x) t) last (both.0 (sym same ∙ f))),
        λ d. same ∙ both.1 (subst (part_ends (environment root.params) p (state_of (laid_out 0 root.params) x) t) (sym last) (subst (λ v. part_ends (environment root.params) p v t (values u)) (sym there) d)),
      )

  pub stands_for : Stands root.params rows states p
  stands_for = record { fails_so = λ s t X h of. fails_as s t X h; ends_so = λ s u t h l of. ends_as s u t h l }

-- ---- names
all_named : (names : List (List ℕ)) (params : List (Name × Kind)) → AreNamed names params → (n : ℕ) (rows : List TableRow) → AreRowsOf params n rows → AllByRecursion (RowIsNamed names) rows
all_named names params named n [] h = tt
all_named names params named n (row ∷ rows) h = (row_named names params named n row h.0, all_named names params named (n + 1) rows h.1)

pub rows_named : (names : List (List ℕ)) (params : List (Name × Kind)) → AreNamed names params → (rows : List TableRow) → AreRowsOf params 0 rows → RowsAreNamed names rows
rows_named names params named rows h = All-from_recursion (RowIsNamed names) rows (all_named names params named 0 rows h)

-- ---- the text of the root's table
pub normal_text_of : (names : List (List ℕ)) (w : World) (root : Root) (params : List (Name × Kind)) (rows : List TableRow) (states : List ℕ) → bits_of_scope root.params ≤ 16 → HasNodes w root.states → params ≡ root.params → length rows < 2 ^ 64
    → IsNormal (record { names = names; params = params; rows = rows; states = states }) → IsTabulated w root rows states → (text : List ℕ) → text ≡ table_text names params rows states → (0 < length params → IsDistinct names)
    → (p : Tree) → IsRootOf w root.params p root.states → IsNormalText names root.params p text
normal_text_of names w root params rows states few nodes e small normal tabulated text is distinct p of = record {
  table = record { names = names; params = params; rows = rows; states = states };
  reads = ap (text_read names) is ∙ reads (record { names = names; params = params; rows = rows; states = states }) distinct normal (omega (arith, small));
  names_are = refl;
  params_are = e;
  stands = stands_for w root rows states p few nodes tabulated of;
}

pub if_ok : {V E : Type 0} {P Q R : V → Type 0} → (r : Result V E) → ((v : V) → P v → Q v → R v) → IfOk r P → IfOk r Q → IfOk r R
if_ok (Ok v) f h k = f v h k
if_ok (Err e) f h k = tt
