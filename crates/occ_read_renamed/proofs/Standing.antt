-- A table under other names stands for the program under other names.
use Rattle.std.proofs.Common.{◌≡◌, ◌↔◌, ℕ, ◌==◌, Bool, true, false, not, ◌&&◌, if◌then◌else◌, List, [], ◌∷◌, map, get_or, Option, Some, None, slice_get, refl, sym, ap, ap₂, subst, ◌∙◌}
use Rattle.std.specs.List.{list_all, list_any}
use Rattle.std.proofs.lemmas.Option.{slice_get-map}
use Rattle.std.specs.Option.{option_map}
use mathlib.Core.Path.{fun_ext}
use Rattle.occ_nform.specs.occ_base.declared.event.Event.{Event}
use Rattle.occ_nform.specs.occ_base.declared.names.Name.{Name}
use Rattle.occ_nform.specs.occ_behaviour.States.{is_state}
use Rattle.occ_renamed.proofs.from_meaning.Facts.{false_not_true}
use Rattle.occ_renamed.specs.occ_meaning.Rename.{renamed, renamed_event, renamed_trace, under}
use Rattle.occ_read_renamed.proofs.Exchanges.{Exchanges, applied, back_and_there, carried, exchanges_one, unapplied}
use Rattle.occ_read_renamed.proofs.RenamedTables.{any_map, environment_same, events_renamed, every_map, interface_same, is_state_same, offer_renamed, row_renamed, rows_renamed, state_place_same, state_renamed}
use Rattle.occ_nform.specs.occ_nform_table.declared.table.TableRow.{TableRow}
use Rattle.occ_nform.specs.occ_nform_table.Behaviours.{IsOfInterface, Stands, goes_on, next_row, row_at, row_ends, row_fails, there}
use Rattle.occ_nform.specs.occ_nform_table.Lines.{state_place}
use Rattle.occ_renamed.specs.Renamed.{kinds_renamed}
use Rattle.occ_renamed.specs.Standing.{IsOneForOne}
use Rattle.occ_nform.specs.occ_syntax.Meaning.{ended, ends, fails, meaning, refusing}
use Rattle.occ_nform.specs.occ_syntax.Scopes.{Environment, EventSet, Trace, Values, environment, in_interface, same_dir, same_event, values}
use Rattle.occ_nform.specs.occ_syntax.Tree.{Tree}
use Rattle.occ_nform.specs.occ_syntax.declared.scope.Kind.{Kind}

module _ (f : ℕ → ℕ) (one : IsOneForOne f) where
  -- ---- what rows do

  row_at_same : (rows : List TableRow) (n : ℕ) → row_at (rows_renamed f rows) n ≡ row_renamed f (row_at rows n)
  row_at_same rows n = ap there (slice_get-map (row_renamed f) rows n) ∙ found (slice_get rows n)
    where
      found : (o : Option TableRow) → there (option_map (row_renamed f) o) ≡ row_renamed f (there o)
      found None = refl
      found (Some row) = refl

  event_same : (d e : Event) → same_event (renamed_event f d) (renamed_event f e) ≡ same_event d e
  event_same d e = ap (λ b. b && same_dir d.dir e.dir && d.value == e.value) (one d.chan.0 e.chan.0)

  next_same : (offers : List (Event × ℕ)) (e : Event) → next_row (map (offer_renamed f) offers) (renamed_event f e) ≡ next_row offers e
  unfolding next_row
  next_same [] e = refl
  next_same (o ∷ offers) e = ap₂ (λ b r. if b then Some o.1 else r) (event_same o.0 e) (next_same offers e)

  goes_same : (o : Option ℕ) (test test' : ℕ → Bool) → ((n : ℕ) → test' n ≡ test n) → goes_on o test' ≡ goes_on o test
  goes_same None test test' h = refl
  goes_same (Some n) test test' h = h n

  fails_same : (rows : List TableRow) (n : ℕ) (t : Trace) (X : EventSet)
      → row_fails (rows_renamed f rows) n (renamed_trace f t) X ≡ row_fails rows n t (λ e. X (renamed_event f e))
  unfolding row_fails
  fails_same rows n [] X =
      ap (λ (r : TableRow). list_any (list_all (λ e. not (X e))) r.accepts) (row_at_same rows n)
      ∙ any_map (events_renamed f) _ _ (λ set. every_map (renamed_event f) (λ e. not (X e)) (λ e. not (X (renamed_event f e))) (λ e. refl) set) (row_at rows n).accepts
  fails_same rows n (e ∷ t) X =
      ap (λ (r : TableRow). goes_on (next_row r.offers (renamed_event f e)) (λ m. row_fails (rows_renamed f rows) m (renamed_trace f t) X)) (row_at_same rows n)
      ∙ (ap (λ o. goes_on o (λ m. row_fails (rows_renamed f rows) m (renamed_trace f t) X)) (next_same (row_at rows n).offers e)
      ∙ goes_same (next_row (row_at rows n).offers e) _ _ (λ m. fails_same rows m t X))

  ends_same : (params : List (Name × Kind)) (rows : List TableRow) (n : ℕ) (t : Trace) (place : ℕ)
      → row_ends (kinds_renamed f params) (rows_renamed f rows) n (renamed_trace f t) place ≡ row_ends params rows n t place
  unfolding row_ends
  ends_same params rows n [] place =
      ap (λ (r : TableRow). list_any (λ state. state_place (kinds_renamed f params) state == place) r.ends) (row_at_same rows n)
      ∙ any_map (state_renamed f) _ _ (λ s. ap (λ k. k == place) (state_place_same f one params s)) (row_at rows n).ends
  ends_same params rows n (e ∷ t) place =
      ap (λ (r : TableRow). goes_on (next_row r.offers (renamed_event f e)) (λ m. row_ends (kinds_renamed f params) (rows_renamed f rows) m (renamed_trace f t) place)) (row_at_same rows n)
      ∙ (ap (λ o. goes_on o (λ m. row_ends (kinds_renamed f params) (rows_renamed f rows) m (renamed_trace f t) place)) (next_same (row_at rows n).offers e)
      ∙ goes_same (next_row (row_at rows n).offers e) _ _ (λ m. ends_same params rows m t place))

  values_same : (s : List (Name × ℕ)) (x : ℕ) → values (state_renamed f s) (f x) ≡ values s x
  values_same [] x = refl
  values_same (entry ∷ s) x = ap₂ (λ b v. if b then entry.1 else v) (one x entry.0.0) (values_same s x)

  trace_same : (params : List (Name × Kind)) (t : Trace) → list_all (in_interface (environment (kinds_renamed f params))) (renamed_trace f t) ≡ list_all (in_interface (environment params)) t
  trace_same params [] = refl
  trace_same params (e ∷ t) = ap₂ (λ b c. b && c) (interface_same f one params e) (trace_same params t)

-- ---- there and back

state_back : (f g : ℕ → ℕ) → ((x : ℕ) → f (g x) ≡ x) → (s : List (Name × ℕ)) → state_renamed f (state_renamed g s) ≡ s
state_back f g h [] = refl
state_back f g h (v ∷ s) = ap₂ (λ x r. (record { 0 = x }, v.1) ∷ r) (h v.0.0) (state_back f g h s)

pub event_back : (f g : ℕ → ℕ) → ((x : ℕ) → f (g x) ≡ x) → (e : Event) → renamed_event f (renamed_event g e) ≡ e
event_back f g h e = ap (λ x. record { chan = record { 0 = x }; dir = e.dir; value = e.value }) (h e.chan.0)

pub trace_back : (f g : ℕ → ℕ) → ((x : ℕ) → f (g x) ≡ x) → (t : Trace) → renamed_trace f (renamed_trace g t) ≡ t
trace_back f g h [] = refl
trace_back f g h (e ∷ t) = ap₂ ◌∷◌ (event_back f g h e) (trace_back f g h t)

-- ---- what the part does, and what its table says

module _ (pairs : Exchanges) (params : List (Name × Kind)) (rows : List TableRow) (states : List ℕ) (p : Tree) (h : Stands params rows states p) where
  abbrev f : ℕ → ℕ
  f = applied pairs

  abbrev back : ℕ → ℕ
  back = unapplied pairs

  one : IsOneForOne f
  one = exchanges_one pairs

  abbrev other : List (Name × Kind)
  other = kinds_renamed f params

  environment_is : under back (environment params) ≡ environment other
  environment_is = fun_ext (λ y. sym (environment_same f one params (back y)) ∙ ap (environment other) (back_and_there pairs y))

  values_are : (s : List (Name × ℕ)) → under back (values s) ≡ values (state_renamed f s)
  values_are s = fun_ext (λ y. sym (values_same f one s (back y)) ∙ ap (values (state_renamed f s)) (back_and_there pairs y))

  does_fail : (s : List (Name × ℕ)) (t : Trace) (X : EventSet) → fails (environment params) p (values s) t (λ e. X (renamed_event f e))
      ↔ fails (environment other) (renamed p f) (values (state_renamed f s)) (renamed_trace f t) X
  does_fail s t X =
      let Y : EventSet = λ e. X (renamed_event f e) in
      let P : Environment → Type 0 = λ Γ. fails (environment params) p (values s) t Y
      ↔ (meaning (renamed p f)).does Γ (under back (values s)) (renamed_trace f t) (refusing (λ e. Y (renamed_event back e))) in
      let Q : Values → Type 0 = λ v. fails (environment params) p (values s) t Y
      ↔ (meaning (renamed p f)).does (environment other) v (renamed_trace f t) (refusing (λ e. Y (renamed_event back e))) in
      let R : EventSet → Type 0 = λ Z. fails (environment params) p (values s) t Y
      ↔ (meaning (renamed p f)).does (environment other) (values (state_renamed f s)) (renamed_trace f t) (refusing Z) in
      subst R (fun_ext (λ e. ap X (event_back f back (back_and_there pairs) e)))
      (subst Q (values_are s) (subst P environment_is (carried pairs (environment params) p (values s) t (refusing Y))))

  does_end : (s u : List (Name × ℕ)) (t : Trace) → ends (environment params) p (values s) t (values u)
      ↔ ends (environment other) (renamed p f) (values (state_renamed f s)) (renamed_trace f t) (values (state_renamed f u))
  does_end s u t =
      let P : Environment → Type 0 = λ Γ. ends (environment params) p (values s) t (values u)
      ↔ (meaning (renamed p f)).does Γ (under back (values s)) (renamed_trace f t) (ended (under back (values u))) in
      let Q : Values → Type 0 = λ v. ends (environment params) p (values s) t (values u)
      ↔ (meaning (renamed p f)).does (environment other) v (renamed_trace f t) (ended (under back (values u))) in
      let R : Values → Type 0 = λ v. ends (environment params) p (values s) t (values u)
      ↔ (meaning (renamed p f)).does (environment other) (values (state_renamed f s)) (renamed_trace f t) (ended v) in
      subst R (values_are u) (subst Q (values_are s) (subst P environment_is (carried pairs (environment params) p (values s) t (ended (values u)))))

  fails_so : (s : List (Name × ℕ)) (t : Trace) (X : EventSet) → is_state other (state_renamed f s) ≡ true → IsOfInterface other (renamed_trace f t) X
      → (row_fails (rows_renamed f rows) (get_or states (state_place other (state_renamed f s)) 0) (renamed_trace f t) X ≡ true)
      ↔ fails (environment other) (renamed p f) (values (state_renamed f s)) (renamed_trace f t) X
  fails_so s t X state of =
      let Y : EventSet = λ e. X (renamed_event f e) in
      let inside : IsOfInterface params t Y =
      (sym (trace_same f one params t) ∙ of.0, λ e k. sym (interface_same f one params e) ∙ of.1 (renamed_event f e) k) in
      let first = h.fails_so s t Y (sym (is_state_same f one params s) ∙ state) inside in
      let second = does_fail s t X in
      let same : row_fails (rows_renamed f rows) (get_or states (state_place other (state_renamed f s)) 0) (renamed_trace f t) X
      ≡ row_fails rows (get_or states (state_place params s) 0) t Y =
      fails_same f one rows (get_or states (state_place other (state_renamed f s)) 0) t X ∙ ap (λ n. row_fails rows (get_or states n 0) t Y) (state_place_same f one params s) in
      (λ k. second.0 (first.0 (sym same ∙ k)), λ k. same ∙ first.1 (second.1 k))

  ends_so : (s u : List (Name × ℕ)) (t : Trace) → is_state other (state_renamed f s) ≡ true → is_state other (state_renamed f u) ≡ true
      → IsOfInterface other (renamed_trace f t) (λ e. false)
      → (row_ends other (rows_renamed f rows) (get_or states (state_place other (state_renamed f s)) 0) (renamed_trace f t) (state_place other (state_renamed f u)) ≡ true)
      ↔ ends (environment other) (renamed p f) (values (state_renamed f s)) (renamed_trace f t) (values (state_renamed f u))
  ends_so s u t state last of =
      let inside : IsOfInterface params t (λ e. false) = (sym (trace_same f one params t) ∙ of.0, λ e k. false_not_true k) in
      let first = h.ends_so s u t (sym (is_state_same f one params s) ∙ state) (sym (is_state_same f one params u) ∙ last) inside in
      let second = does_end s u t in
      let same : row_ends other (rows_renamed f rows) (get_or states (state_place other (state_renamed f s)) 0) (renamed_trace f t) (state_place other (state_renamed f u))
      ≡ row_ends params rows (get_or states (state_place params s) 0) t (state_place params u) =
      ends_same f one params rows (get_or states (state_place other (state_renamed f s)) 0) t (state_place other (state_renamed f u))
      ∙ ap₂ (λ m n. row_ends params rows (get_or states m 0) t n) (state_place_same f one params s) (state_place_same f one params u) in
      (λ k. second.0 (first.0 (sym same ∙ k)), λ k. same ∙ first.1 (second.1 k))

  abbrev FailsSo : List (Name × ℕ) → Trace → EventSet → Type 0
  FailsSo s t X = is_state other s ≡ true → IsOfInterface other t X
      → (row_fails (rows_renamed f rows) (get_or states (state_place other s) 0) t X ≡ true) ↔ fails (environment other) (renamed p f) (values s) t X

  abbrev EndsSo : List (Name × ℕ) → List (Name × ℕ) → Trace → Type 0
  EndsSo s u t = is_state other s ≡ true → is_state other u ≡ true → IsOfInterface other t (λ e. false)
      → (row_ends other (rows_renamed f rows) (get_or states (state_place other s) 0) t (state_place other u) ≡ true) ↔ ends (environment other) (renamed p f) (values s) t (values u)

  pub stands_so : Stands other (rows_renamed f rows) states (renamed p f)
  stands_so = record {
    fails_so = λ s t X.
        subst (λ z. FailsSo z t X) (state_back f back (back_and_there pairs) s)
        (subst (λ z. FailsSo (state_renamed f (state_renamed back s)) z X) (trace_back f back (back_and_there pairs) t) (fails_so (state_renamed back s) (renamed_trace back t) X));
    ends_so = λ s u t.
        subst (λ z. EndsSo z u t) (state_back f back (back_and_there pairs) s)
        (subst (λ z. EndsSo (state_renamed f (state_renamed back s)) z t) (state_back f back (back_and_there pairs) u)
        (subst (λ z. EndsSo (state_renamed f (state_renamed back s)) (state_renamed f (state_renamed back u)) z) (trace_back f back (back_and_there pairs) t)
        (ends_so (state_renamed back s) (state_renamed back u) (renamed_trace back t))));
  }
