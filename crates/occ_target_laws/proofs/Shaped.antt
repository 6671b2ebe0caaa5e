-- The body of the normal program of a normal table has normal shape.
use Rattle.std.proofs.Common.{◌≡◌, ℕ, zero, suc, ◌+◌, ◌<◌, ◌≤◌, List, [], ◌∷◌, ◌++◌, length, map, get_or, refl, sym, ap, ◌∙◌, subst, inl, inr, ◌⊎◌, arith, length-append}
use Rattle.std.proofs.lemmas.Bool.{cases_lt}
use Rattle.std.proofs.lemmas.List.{get_or-map, get_or_append_left, get_or_push, length-map}
use Rattle.std.proofs.Math.Nat.{zero-add}
use Rattle.std.specs.List.{AllByRecursion}
use Rattle.occ_target.specs.occ_base.declared.names.Name.{Name}
use Rattle.occ_target.specs.occ_syntax.declared.scope.Kind.{Kind}
use Rattle.occ_target.specs.occ_syntax.Declarations.{declaring_all}
use Rattle.occ_target.specs.occ_syntax.Tree.{Tree, and_case, select, stop}
use Rattle.occ_target.specs.occ_nform_table.declared.table.TableRow.{TableRow}
use Rattle.occ_target.specs.occ_nform_table.Behaviours.{row_at}
use Rattle.occ_target.specs.occ_nform_table.Normal.{Parts}
use Rattle.occ_target.specs.occ_nform_table.Tables.{IsNormal}
use Rattle.occ_target.specs.occ_nform_table.Texts.{state_at_place}
use Rattle.occ_target.proofs.from_nform_table.Lists.{in_all, row_in}
use Rattle.occ_target.proofs.from_nform_table.Events.{IsProper}
use Rattle.occ_target.proofs.from_nform_table.Facts.{IsPlain, heights_of, plain_of, proper_of}
use Rattle.occ_target.specs.Inputs.{input_variables, input_widths}
use Rattle.occ_target.specs.Program.{normal_body, processes, state_choices}
use Rattle.occ_target.specs.Rows.{Frame, choices, part_at, row_process}
use Rattle.occ_target.specs.States.{condition}
use Rattle.occ_target_laws.specs.Bodies.{IsShapedBody, in_state}
use Rattle.occ_target_laws.specs.Shapes.{Header, IsShaped, numbered}
use Rattle.occ_target_laws.specs.Whole.{AreWhole, IsWhole, offered}
use Rattle.occ_target_laws.proofs.Fresh.{variables_free}
use Rattle.occ_target_laws.proofs.Processes.{IsGood, row_shaped}

-- the rows from the n-th on are good
abbrev pub AreGood : List (Name × Kind) → ℕ → List TableRow → Type 0
AreGood params n [] = Unit {0}
AreGood params n (row ∷ rows) = IsGood params n row × AreGood params (n + 1) rows

pub good_rows : (params : List (Name × Kind)) (n : ℕ) (rows : List TableRow) → ((i : ℕ) → i < length rows → IsGood params (n + i) (row_at rows i)) → AreGood params n rows
good_rows params n [] h = tt
good_rows params n (row ∷ rows) h =
    let first : n + 0 ≡ n = omega arith in (
      subst (λ m. IsGood params m row) first (h 0 (omega arith)),
      good_rows params (n + 1) rows (λ i l. (
          let moved : n + suc i ≡ n + 1 + i = omega arith in
          subst (λ m. IsGood params m (row_at rows i)) moved (h (suc i) (omega (arith, l)))
          )),
    )

module _ (params inputs : List (Name × Kind)) (proper : IsProper params) where
  abbrev pub head : Header
  head = record { params = params; inputs = inputs }

  abbrev pub AreShaped : List Tree → Type 0
  AreShaped parts = (n : ℕ) → n < length parts → IsShaped head (part_at parts n)

  abbrev pub frame : List Tree → Frame
  frame parts = record { params = params; inputs = inputs; parts = parts }

  pub one_more : (parts : List Tree) (p : Tree) → AreShaped parts → IsShaped head p → AreShaped (parts ++ p ∷ [])
  one_more parts p all shaped n l = go (cases_lt n (length parts))
    where
      go : (n < length parts) ⊎ (length parts ≤ n) → IsShaped head (part_at (parts ++ p ∷ []) n)
      go (inl k) = subst (IsShaped head) (sym (get_or_append_left parts (p ∷ []) stop n k)) (all n k)
      go (inr k) =
          let last : length parts ≡ n = (let s = length-append parts (p ∷ []) in omega (arith, l, k, s)) in
          subst (IsShaped head) (sym (get_or_push parts p stop n last)) shaped

  pub processes_shaped : (parts : List Tree) (rows : List TableRow) → AreShaped parts → AreGood params (length parts) rows
      → AreShaped (processes params inputs parts rows) × (length (processes params inputs parts rows) ≡ length parts + length rows)
  unfolding processes
  processes_shaped parts [] all good = (all, omega arith)
  processes_shaped parts (row ∷ rows) all good =
      let p : Tree = row_process (frame parts) row in
      let size : length (parts ++ p ∷ []) ≡ length parts + 1 = length-append parts (p ∷ []) in
      let rest = processes_shaped (parts ++ p ∷ []) rows (one_more parts p all (row_shaped (frame parts) proper row good.0 all)) (subst (λ n. AreGood params n rows) (sym size) good.1) in
      (rest.0, omega (arith, rest.1, size))

  pub same_choices : (parts : List Tree) (k : ℕ) (states : List ℕ) → choices (state_choices params parts k states) ≡ numbered (in_state head) k (map (part_at parts) states)
  unfolding state_choices
  same_choices parts k [] = refl
  same_choices parts k (n ∷ states) = ap (and_case (condition params (state_at_place params k)) (part_at parts n)) (same_choices parts (k + 1) states)

pub state_below : (most : ℕ) (states : List ℕ) → AllByRecursion (λ n. n < most) states → (k : ℕ) → k < length states → get_or states k 0 < most
state_below most [] h k l = absurd (omega (arith, l))
state_below most (n ∷ states) h zero l = h.0
state_below most (n ∷ states) h (suc k) l = state_below most states h.1 k (omega (arith, l))

pub programs_of_tables_are_shaped : (t : Parts) → IsNormal t → AreWhole t.params t.rows
    → IsShapedBody (record { params = t.params; inputs = input_variables t.names t.params }) (normal_body t.names t.params t.rows t.states)
programs_of_tables_are_shaped t normal whole =
    let inputs = input_variables t.names t.params in
    let proper = proper_of t normal in
    let plain : IsPlain t.names t.params t.rows (heights_of [] t.rows) = plain_of t normal in
    let good = good_rows t.params 0 t.rows (λ i l. (
    let wide = in_all (λ (row : TableRow). IsWhole t.params (offered row.offers) × AllByRecursion (IsWhole t.params) row.accepts) t.rows (row_at t.rows i) whole (row_in t.rows i l) in
    subst (λ n. IsGood t.params n (row_at t.rows i)) (sym (zero-add i))
    (record { form = plain.form i l; tidy = plain.tidy i l; full = plain.full i l; whole = wide.0; sets_whole = wide.1 })
    )) in
    let made = processes_shaped t.params inputs proper [] t.rows (λ n l. absurd (omega (arith, l))) good in
    let parts = processes t.params inputs [] t.rows in
    record {
      parts = map (part_at parts) t.states;
      count = length-map t.states (part_at parts) ∙ normal.count;
      shaped = λ k l. (
          let below : k < length t.states = omega (arith, l, length-map t.states (part_at parts)) in
          let known : get_or t.states k 0 < length parts = omega (arith, state_below (length t.rows) t.states normal.states k below, made.1) in
          subst (IsShaped (record { params = t.params; inputs = inputs })) (sym (get_or-map (part_at parts) t.states k 0 stop below)) (made.0 (get_or t.states k 0) known)
          );
      declared = variables_free t.params t.names (input_widths t.params) normal.interface.named;
      form = ap (λ cs. declaring_all inputs (select cs)) (same_choices t.params inputs proper parts 0 t.states);
    }
