-- A program of normal shape that means what a table says is the normal program of that table.
use Rattle.std.proofs.Common.{◌≡◌, ℕ, suc, ◌+◌, ◌<◌, ◌^◌, ◌==◌, Bool, true, false, ◌&&◌, nat_lt, List, [], ◌∷◌, length, map, get_or, None, Some, if◌then◌else◌, refl, sym, ap, ◌∙◌, subst, inl, inr, ◌⊎◌, arith}
use Rattle.std.proofs.lemmas.Bool.{and_parts, cases_Bool, eq-eqb, eqb-true, false≢true, or_cases}
use Rattle.std.proofs.lemmas.List.{ext_get_or, get_or-map, length-map}
use Rattle.std.proofs.Math.Nat.{zero-add}
use Rattle.std.specs.List.{list_all, list_any}
use Rattle.occ_target.specs.occ_base.declared.event.Event.{Event}
use Rattle.occ_target.specs.occ_base.declared.names.Name.{Name}
use Rattle.occ_target.specs.occ_base.Width.{bits_of}
use Rattle.occ_target.specs.occ_syntax.declared.scope.Kind.{Kind}
use Rattle.occ_target.specs.occ_syntax.declared.scope.Kind.TheVariants.{Var, Chan}
use Rattle.occ_target.specs.occ_syntax.Counts.{bits_of_scope}
use Rattle.occ_target.specs.occ_syntax.Declarations.{declaring_all}
use Rattle.occ_target.specs.occ_syntax.Meaning.{ended, ends, fails, meaning, refusing}
use Rattle.occ_target.specs.occ_syntax.Same.{SAME}
use Rattle.occ_target.specs.occ_syntax.Scopes.{EventSet, IsState, IsWithin, Trace, Values, allows, environment, in_interface, in_scope, values, variable_kind, variable_width}
use Rattle.occ_target.specs.occ_syntax.Tree.{Tree, select, stop}
use Rattle.occ_target.specs.occ_syntax.Types.{scope_kept, types_kept}
use Rattle.occ_target.specs.occ_behaviour.States.{is_state}
use Rattle.occ_target.proofs.from_meaning.Facts.{value_off}
use Rattle.occ_target.proofs.from_meaning.Frame.{part_value, written_in_scope}
use Rattle.occ_target.specs.occ_nform_table.declared.table.TableRow.{TableRow}
use Rattle.occ_target.specs.occ_nform_table.Behaviours.{IsOfInterface, Stands, row_at, row_ends, row_fails}
use Rattle.occ_target.specs.occ_nform_table.Judging.{reached}
use Rattle.occ_target.specs.occ_nform_table.Lines.{state_place}
use Rattle.occ_target.specs.occ_nform_table.Normal.{Parts}
use Rattle.occ_target.specs.occ_nform_table.Tables.{IsNormal}
use Rattle.occ_target.specs.occ_nform_table.Texts.{state_at_place}
use Rattle.occ_target.proofs.from_nform_table.PlaceNames.{place_is_state, place_there}
use Rattle.occ_target.specs.occ_nform_table.Lists.{In}
use Rattle.occ_target.proofs.from_nform_table.Lists.{any_in, place_of_in}
use Rattle.occ_target.proofs.from_nform_table.Events.{IsProper}
use Rattle.occ_target.proofs.from_nform_table.Facts.{IsPlain, all_reached, heights_of, plain_of, proper_of}
use Rattle.occ_target.specs.Inputs.{input_variables}
use Rattle.occ_target.specs.Program.{normal_body, processes}
use Rattle.occ_target.specs.Rows.{part_at}
use Rattle.occ_target.specs.States.{variables}
use Rattle.occ_target_laws.specs.Bodies.{IsShapedBody, in_state}
use Rattle.occ_target_laws.specs.Shapes.{Header, IsShaped, of_node, numbered, process_of}
use Rattle.occ_target_laws.proofs.Alike.{Acts, IsFair, Within}
use Rattle.occ_target_laws.proofs.Bodies.{body_in, body_out, start_state}
use Rattle.occ_target_laws.proofs.Initial.{Holds, holds_along, holds_itself}
use Rattle.occ_target_laws.proofs.Unique.{one_process}
use Rattle.occ_target_laws.proofs.Made.{one_offer}
use Rattle.occ_target_laws.proofs.Processes.{IsGood}
use Rattle.occ_target_laws.proofs.Shaped.{AreGood, frame, good_rows, processes_shaped, same_choices, state_below}
use Rattle.occ_target_laws.proofs.Acting.{DoesAs, IsMade, does_as, like_end, like_refusal, made_at}
use Rattle.occ_target_laws.proofs.Ends.{end_known, events_inside}
use Rattle.occ_target_laws.proofs.Whole.{follow, meet, row_whole}

-- ---- values that are known

in_or_not : (xs : List ℕ) (x : ℕ) → In x xs ⊎ (In x xs → ⊥)
in_or_not [] x = inr (λ i. i)
in_or_not (y ∷ xs) x = go (cases_Bool (x == y)) (in_or_not xs x)
  where
    off : (x == y) ≡ false → (In x xs → ⊥) → (x ≡ y) ⊎ In x xs → ⊥
    off t n (inl e) = false≢true (sym t ∙ eq-eqb x y e)
    off t n (inr i) = n i

    go : ((x == y) ≡ true) ⊎ ((x == y) ≡ false) → In x xs ⊎ (In x xs → ⊥) → ((x ≡ y) ⊎ In x xs) ⊎ ((x ≡ y) ⊎ In x xs → ⊥)
    go (inl t) k = inl (inl (eqb-true x y t))
    go (inr t) (inl i) = inl (inr i)
    go (inr t) (inr n) = inr (off t n)

no_variable : (params : List (Name × Kind)) (x : ℕ) → (In x (variables params) → ⊥) → variable_width (environment params) x ≡ None
no_variable [] x n = refl
no_variable ((name, kind) ∷ params) x n = go (cases_Bool (x == name.0)) kind n (no_variable params x)
  where
    go : ((x == name.0) ≡ true) ⊎ ((x == name.0) ≡ false) → (k : Kind) → (In x (variables ((name, k) ∷ params)) → ⊥) → ((In x (variables params) → ⊥) → variable_width (environment params) x ≡ None)
        → variable_kind (if x == name.0 then Some k else environment params x) ≡ None
    go (inl t) (Chan w d) m ih = ap (λ b. variable_kind (if b then Some (Chan w d) else environment params x)) t
    go (inl t) (Var w) m ih = absurd (m (inl (eqb-true x name.0 t)))
    go (inr t) (Chan w d) m ih = ap (λ b. variable_kind (if b then Some (Chan w d) else environment params x)) t ∙ ih m
    go (inr t) (Var w) m ih = ap (λ b. variable_kind (if b then Some (Var w) else environment params x)) t ∙ ih (λ i. m (inr i))

-- values that a state gives are zero elsewhere
zero_off : (params : List (Name × Kind)) (u : List (Name × ℕ)) → is_state params u ≡ true → (x : ℕ) → (In x (variables params) → ⊥) → values u x ≡ 0
zero_off [] [] is x n = refl
zero_off [] (v ∷ u) is x n = absurd (false≢true is)
zero_off ((name, Chan w d) ∷ params) u is x n = zero_off params u is x n
zero_off ((name, Var w) ∷ params) [] is x n = absurd (false≢true is)
zero_off ((name, Var w) ∷ params) (v ∷ u) is x n =
    let both = and_parts (v.0.0 == name.0 && nat_lt v.1 (2 ^ bits_of w)) (is_state params u) is in
    let named : v.0.0 ≡ name.0 = eqb-true v.0.0 name.0 (and_parts (v.0.0 == name.0) (nat_lt v.1 (2 ^ bits_of w)) both.0).0 in
    value_off (values u) v.0.0 v.1 x (go (cases_Bool (x == v.0.0)) named) ∙ zero_off params u both.1 x (λ i. n (inr i))
  where
    go : ((x == v.0.0) ≡ true) ⊎ ((x == v.0.0) ≡ false) → v.0.0 ≡ name.0 → (x == v.0.0) ≡ false
    go (inl t) named = absurd (n (inl (eqb-true x v.0.0 t ∙ named)))
    go (inr t) named = t

holds_agree : (params : List (Name × Kind)) (u : List (Name × ℕ)) (s r : Values) → Holds params u s → Holds params u r → (x : ℕ) → In x (variables params) → s x ≡ r x
holds_agree [] u s r h k x i = absurd i
holds_agree ((name, Chan w d) ∷ params) u s r h k x i = holds_agree params u s r h k x i
holds_agree ((name, Var w) ∷ params) [] s r h k x i = absurd h
holds_agree ((name, Var w) ∷ params) (v ∷ u) s r h k x (inl e) = ap s e ∙ h.0 ∙ sym k.0 ∙ ap r (sym e)
holds_agree ((name, Var w) ∷ params) (v ∷ u) s r h k x (inr i) = holds_agree params u s r h.1 k.1 x i

-- ---- processes that do what a row says

module _ (h : Header) (kept : scope_kept h.params ≡ true) (rows : List TableRow) (n : ℕ) (p q : Tree) (first : DoesAs h rows n p) (second : DoesAs h rows n q) (shaped : IsShaped h p) where
  within_row : Within h p q
  within_row t (refusing X) fair d =
      let int : IsOfInterface h.params t X = (events_inside h t p shaped (refusing X) d, fair) in
      (refusing X, second.fails_in t X int (first.fails_out t X int d), refl)
  within_row t (ended r) fair d =
      let inner = events_inside h t p shaped (ended r) d in
      let state = end_known h kept t p shaped r d in
      let there = second.ends_in t state.0 inner state.1 (first.ends_out t state.0 r inner state.1 d state.2) in
      (ended there.0, there.1, holds_agree h.params state.0 r there.0 state.2 there.2)

-- ---- each row is reached

module _ (P : ℕ → Type 0) (rows : List TableRow) (named : ℕ → Bool) (first : (k : ℕ) → named k ≡ true → P k)
    (next : (n : ℕ) → n < length rows → P n → (k : ℕ) → list_any (λ (o : Event × ℕ). o.1 == k) (row_at rows n).offers ≡ true → P k) where
  reached_have : (list : List TableRow) (n : ℕ) → ((i : ℕ) → i < length list → (n + i < length rows) × (row_at list i ≡ row_at rows (n + i))) → (k : ℕ) → reached named n list k ≡ true → P k
  unfolding reached
  reached_have [] n at k h = first k h
  reached_have (row ∷ list) n at k h =
      go (or_cases (reached named (n + 1) list k) (reached named (n + 1) list n && list_any (λ o. o.1 == k) row.offers) h)
      (reached_have list (n + 1) (λ i l. (
      let here = at (suc i) (omega (arith, l)) in
      let moved : n + suc i ≡ n + 1 + i = omega arith in
      (omega (arith, here.0), here.1 ∙ ap (row_at rows) moved)
      )))
    where
      go : (reached named (n + 1) list k ≡ true) ⊎ ((reached named (n + 1) list n && list_any (λ (o : Event × ℕ). o.1 == k) row.offers) ≡ true)
          → ((m : ℕ) → reached named (n + 1) list m ≡ true → P m) → P k
      go (inl r) ih = ih k r
      go (inr b) ih =
          let parts = and_parts (reached named (n + 1) list n) (list_any (λ (o : Event × ℕ). o.1 == k) row.offers) b in
          let here = at 0 (omega arith) in
          let sum : n + 0 ≡ n = omega arith in
          let is : row ≡ row_at rows n = here.1 ∙ ap (row_at rows) sum in
          next n (omega (arith, here.0)) (ih n parts.0) k (subst (λ (r : TableRow). list_any (λ (o : Event × ℕ). o.1 == k) r.offers ≡ true) is parts.1)

-- ---- a body of normal shape and a table

module _ (t : Parts) (p q : Tree) (normal : IsNormal t) (kept : scope_kept t.params ≡ true) (typed : types_kept p (environment t.params) ≡ true) (stands : Stands t.params t.rows t.states p)
    (same : SAME (environment t.params) p q) (body : IsShapedBody (record { params = t.params; inputs = input_variables t.names t.params }) q) where
  abbrev inputs : List (Name × Kind)
  inputs = input_variables t.names t.params

  abbrev h : Header
  h = record { params = t.params; inputs = inputs }

  proper : IsProper t.params
  proper = proper_of t normal

  plain : IsPlain t.names t.params t.rows (heights_of [] t.rows)
  plain = plain_of t normal

  abbrev start : ℕ → Values
  start k = values (state_at_place t.params k)

  -- what an end of the program leaves
  exact : (k : ℕ) (trace : Trace) (u : List (Name × ℕ)) (r : Values) → is_state t.params u ≡ true → ends (environment t.params) p (start k) trace r → Holds t.params u r → r ≡ values u
  exact k trace u r is d holds = λ i x. each x (in_or_not (variables t.params) x) i
    where
      each : (x : ℕ) → In x (variables t.params) ⊎ (In x (variables t.params) → ⊥) → r x ≡ values u x
      each x (inl i) = holds_agree t.params u r (values u) holds (holds_itself t.params kept u is) x i
      each x (inr n) =
          (part_value p (environment t.params) typed x (written_in_scope p (environment t.params) typed x (no_variable t.params x n))).value (environment t.params) (start k) trace r d
          ∙ zero_off t.params (state_at_place t.params k) (place_is_state t.params k) x n ∙ sym (zero_off t.params u is x n)

  in_environment : (X : EventSet) → IsFair h (refusing X) → IsWithin (environment t.params) X
  in_environment X fair e i = (and_parts (in_scope (environment t.params) e) (allows (environment t.params e.chan.0) e.dir) (fair e i)).0

  -- the process of each initial state does what the state's row says
  module _ (k : ℕ) (l : k < length body.parts) where
    below : k < 2 ^ bits_of_scope t.params
    below = omega (arith, l, body.count)

    abbrev part : Tree
    part = part_at body.parts k

    placed : state_place t.params (state_at_place t.params k) ≡ k
    placed = place_there t.params k below

    state : IsState (environment t.params) (start k)
    state = start_state h kept k

    fails_so : (trace : Trace) (X : EventSet) → IsOfInterface t.params trace X → (row_fails t.rows (get_or t.states k 0) trace X ≡ true → fails (environment t.params) p (start k) trace X)
        × (fails (environment t.params) p (start k) trace X → row_fails t.rows (get_or t.states k 0) trace X ≡ true)
    fails_so trace X int =
        let known = stands.fails_so (state_at_place t.params k) trace X (place_is_state t.params k) int in
        (λ f. known.0 (ap (λ n. row_fails t.rows (get_or t.states n 0) trace X) placed ∙ f), λ d. sym (ap (λ n. row_fails t.rows (get_or t.states n 0) trace X) placed) ∙ known.1 d)

    ends_so : (trace : Trace) (u : List (Name × ℕ)) → list_all (in_interface (environment t.params)) trace ≡ true → is_state t.params u ≡ true
        → (row_ends t.params t.rows (get_or t.states k 0) trace (state_place t.params u) ≡ true → ends (environment t.params) p (start k) trace (values u))
        × (ends (environment t.params) p (start k) trace (values u) → row_ends t.params t.rows (get_or t.states k 0) trace (state_place t.params u) ≡ true)
    ends_so trace u int is =
        let known = stands.ends_so (state_at_place t.params k) u trace (place_is_state t.params k) is (int, λ e i. absurd (false≢true i)) in (
          λ f. known.0 (ap (λ n. row_ends t.params t.rows (get_or t.states n 0) trace (state_place t.params u)) placed ∙ f),
          λ d. sym (ap (λ n. row_ends t.params t.rows (get_or t.states n 0) trace (state_place t.params u)) placed) ∙ known.1 d,
        )

    part_does : DoesAs h t.rows (get_or t.states k 0) part
    part_does = record {
      fails_in = λ trace X int f. (
          let d = (same.same_failures (start k) trace X state (in_environment X int.1)).0 ((fails_so trace X int).0 f) in
          let out = body_out h kept q body k l trace (refusing X) d in
          subst (λ o. Acts h part trace o) (like_refusal h X out.0 out.2) out.1
          );
      fails_out = λ trace X int d. (
          let inn = body_in h kept q body k l trace (refusing X) d in
          let there = subst (λ o. (meaning q).does (environment t.params) (start k) trace o) (like_refusal h X inn.0 inn.2) inn.1 in
          (fails_so trace X int).1 ((same.same_failures (start k) trace X state (in_environment X int.1)).1 there)
          );
      ends_in = λ trace u int is f. (
          let d = (same.same_ends (start k) trace (values u) state).0 ((ends_so trace u int is).0 f) in
          let out = body_out h kept q body k l trace (ended (values u)) d in
          let end = like_end h (values u) out.0 out.2 in
          (end.0, subst (λ o. Acts h part trace o) end.1 out.1, holds_along t.params u (values u) end.0 end.2 (holds_itself t.params kept u is))
          );
      ends_out = λ trace u r int is d holds. (
          let inn = body_in h kept q body k l trace (ended r) d in
          let end = like_end h r inn.0 inn.2 in
          let there : ends (environment t.params) q (start k) trace end.0 = subst (λ o. (meaning q).does (environment t.params) (start k) trace o) end.1 inn.1 in
          let own = (same.same_ends (start k) trace end.0 state).1 there in
          let is_it = exact k trace u end.0 is own (holds_along t.params u r end.0 end.2 holds) in
          (ends_so trace u int is).1 (subst (λ (s : Values). ends (environment t.params) p (start k) trace s) is_it own)
          );
    }

  -- ---- each row has a process that does what it says

  abbrev Had : ℕ → Type 0
  Had n = (r : Tree) × IsShaped h r × DoesAs h t.rows n r

  abbrev is_named : ℕ → Bool
  is_named i = list_any (λ s. s == i) t.states

  state_had : (i : ℕ) → is_named i ≡ true → Had i
  state_had i f =
      let found = any_in (λ s. s == i) t.states f in
      let at = place_of_in 0 t.states found.0 found.1 in
      let l : at.0 < length body.parts = omega (arith, at.1, normal.count, body.count) in
      let row : get_or t.states at.0 0 ≡ i = at.2 ∙ eqb-true found.0 i found.2 in
      (part_at body.parts at.0, body.shaped at.0 l, subst (λ n. DoesAs h t.rows n (part_at body.parts at.0)) row (part_does at.0 l))

  next_had : (n : ℕ) → n < length t.rows → Had n → (k : ℕ) → list_any (λ (o : Event × ℕ). o.1 == k) (row_at t.rows n).offers ≡ true → Had k
  next_had n l (r, of_node z m is fine next, does) k f =
      let found = any_in (λ (o : Event × ℕ). o.1 == k) (row_at t.rows n).offers f in
      let node_does : DoesAs h t.rows n (process_of h m) = subst (DoesAs h t.rows n) is does in
      let branch = meet h kept proper t.names t.rows (heights_of [] t.rows) plain n l m fine next node_does found.0.0 found.0.1 found.1 in
      let there = follow h kept proper t.names t.rows (heights_of [] t.rows) plain n l m fine next node_does branch.0 found.0.0 branch.1 branch.2 branch.3 in
      let one = one_offer (frame t.params inputs proper []) proper (row_at t.rows n).offers (plain.tidy n l).offers found.0.0 there.0 found.0.1 there.1 found.1 in
      (branch.1, next branch.0 found.0.0 branch.1 branch.2 branch.3, subst (λ m. DoesAs h t.rows m branch.1) (one ∙ eqb-true found.0.1 k found.2) there.2)

  had : (i : ℕ) → i < length t.rows → Had i
  had i l = reached_have Had t.rows is_named state_had next_had t.rows 0 (λ j m. (
      let sum : j ≡ 0 + j = omega arith in
      (omega (arith, m), ap (row_at t.rows) sum)
      )) i (all_reached t normal i l)

  good_row : (i : ℕ) → i < length t.rows → IsGood t.params i (row_at t.rows i)
  good_row i l = go (had i l)
    where
      go : Had i → IsGood t.params i (row_at t.rows i)
      go (r, of_node z m is fine next, does) =
          let whole = row_whole h kept proper t.names t.rows (heights_of [] t.rows) plain i l m fine next (subst (DoesAs h t.rows i) is does) in
          record { form = plain.form i l; tidy = plain.tidy i l; full = plain.full i l; whole = whole.0; sets_whole = whole.1 }

  -- ---- the normal program

  abbrev parts : List Tree
  parts = processes t.params inputs [] t.rows

  good : AreGood t.params 0 t.rows
  good = good_rows t.params 0 t.rows (λ i l. subst (λ n. IsGood t.params n (row_at t.rows i)) (sym (zero-add i)) (good_row i l))

  no_part : (n : ℕ) → n < 0 → IsShaped h (part_at [] n)
  no_part n l = absurd (omega (arith, l))

  part_of_row : (n : ℕ) → n < length t.rows → DoesAs h t.rows n (part_at parts n)
  part_of_row n l = does_as t.params inputs proper kept t.rows good_row
      (λ i m. subst (λ k. IsMade t.params inputs proper parts k (row_at t.rows i)) (zero-add i) (made_at t.params inputs proper [] t.rows no_part good i m)) n l

  same_part : (k : ℕ) → k < length body.parts → part_at body.parts k ≡ part_at (map (part_at parts) t.states) k
  same_part k l =
      let low : k < length t.states = omega (arith, l, body.count, normal.count) in
      let n : ℕ = get_or t.states k 0 in
      let row : n < length t.rows = state_below (length t.rows) t.states normal.states k low in
      let made = processes_shaped t.params inputs proper [] t.rows no_part good in
      let shaped : IsShaped h (part_at parts n) = made.0 n (omega (arith, row, made.1)) in
      let own = part_does k l in
      let other = part_of_row n row in
      one_process h kept (part_at body.parts k) (body.shaped k l) (part_at parts n) shaped
      (within_row h kept t.rows n (part_at body.parts k) (part_at parts n) own other (body.shaped k l))
      (within_row h kept t.rows n (part_at parts n) (part_at body.parts k) other own shaped)
      ∙ sym (get_or-map (part_at parts) t.states k 0 stop low)

  pub is_target : q ≡ normal_body t.names t.params t.rows t.states
  is_target =
      let count : length body.parts ≡ length (map (part_at parts) t.states) = body.count ∙ sym normal.count ∙ sym (length-map t.states (part_at parts)) in
      let same_parts : body.parts ≡ map (part_at parts) t.states = ext_get_or stop body.parts (map (part_at parts) t.states) count same_part in
      body.form ∙ ap (λ ps. declaring_all inputs (select (numbered (in_state h) 0 ps))) same_parts ∙ ap (λ cs. declaring_all inputs (select cs)) (sym (same_choices t.params inputs proper parts 0 t.states))

pub shaped_programs_are_targets : (t : Parts) (p q : Tree) → IsNormal t → scope_kept t.params ≡ true → types_kept p (environment t.params) ≡ true → Stands t.params t.rows t.states p
    → SAME (environment t.params) p q → IsShapedBody (record { params = t.params; inputs = input_variables t.names t.params }) q → q ≡ normal_body t.names t.params t.rows t.states
shaped_programs_are_targets t p q normal kept typed stands same body = is_target t p q normal kept typed stands same body
