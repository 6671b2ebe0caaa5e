-- The process of each row of a table does what the row says.
use Rattle.std.proofs.Common.{◌≡◌, ℕ, zero, suc, ◌+◌, ◌<◌, ◌^◌, ◌==◌, true, not, nat_lt, ◌&&◌, List, [], ◌∷◌, ◌++◌, length, None, Some, refl, sym, ap, ◌∙◌, subst, arith, length-append}
use Rattle.std.proofs.lemmas.Bool.{and_parts, eqb-true, eq-eqb, false≢true, ltb-true, not-true}
use Rattle.std.proofs.lemmas.List.{get_or_append_left, get_or_push}
use Rattle.std.specs.List.{list_all, list_any}
use Rattle.occ_target.specs.occ_base.declared.event.Event.{Event}
use Rattle.occ_target.specs.occ_base.declared.names.Name.{Name}
use Rattle.occ_target.specs.occ_base.Width.{bits_of}
use Rattle.occ_target.specs.occ_syntax.declared.scope.Kind.{Kind}
use Rattle.occ_target.specs.occ_syntax.declared.scope.Kind.TheVariants.{Var, Chan}
use Rattle.occ_target.specs.occ_syntax.Meaning.{IsQuiet, Outcome, ended, meaning, refusing}
use Rattle.occ_target.specs.occ_syntax.Scopes.{Environment, EventSet, Trace, Values, environment, in_interface}
use Rattle.occ_target.specs.occ_syntax.Tree.{Tree, Waiting, stop}
use Rattle.occ_target.specs.occ_syntax.Types.{scope_kept}
use Rattle.occ_target.specs.occ_behaviour.States.{is_state}
use Rattle.occ_target.proofs.from_meaning.Facts.{value_at, value_off}
use Rattle.occ_target.specs.occ_nform_table.declared.table.TableRow.{TableRow}
use Rattle.occ_target.specs.occ_nform_table.Behaviours.{IsOfInterface, next_row, row_at, row_ends, row_fails}
use Rattle.occ_target.specs.occ_nform_table.Lines.{state_place}
use Rattle.occ_target.specs.occ_nform_table.Lists.{In}
use Rattle.occ_target.proofs.from_nform_table.Lists.{any_in, in_all, in_any, test_all, test_in}
use Rattle.occ_target.proofs.from_nform_table.Events.{IsProper}
use Rattle.occ_target.proofs.from_nform_table.Rows.{ends_behind, ends_first, ends_now, fails_behind, fails_first, fails_now, offer_found, offered as offer_known}
use Rattle.occ_target.proofs.from_nform_table.States.{same_state}
use Rattle.occ_target.specs.Program.{processes}
use Rattle.occ_target.specs.Rows.{Frame, chosen, of_events, part_at, row_process}
use Rattle.occ_target.specs.States.{variables}
use Rattle.occ_target_laws.specs.Shapes.{Header, IsShaped, process_of}
use Rattle.occ_target_laws.proofs.Lists.{in_map, map_in}
use Rattle.occ_target_laws.proofs.Following.{after_lead, constant_value, lead_after, unready}
use Rattle.occ_target_laws.proofs.Nodes.{Does, does_so, left_by, left_in, moves, stops, stops_so, waits, waits_so}
use Rattle.occ_target_laws.proofs.Anywhere.{Like, anywhere}
use Rattle.occ_target_laws.proofs.Alike.{Acts, moved, onward, own_channels, zeros}
use Rattle.occ_target_laws.proofs.Finals.{first_apart, off_first}
use Rattle.occ_target_laws.proofs.Initial.{Holds, holds_along, holds_one}
use Rattle.occ_target_laws.proofs.Groups.{source}
use Rattle.occ_target_laws.proofs.Made.{follows, header_of, lead_for, one_offer, source_leads}
use Rattle.occ_target_laws.proofs.Processes.{IsGood, all_groups, formed, is_node, lower, node, row_shaped, same_process, set_events, set_formed, set_groups, set_of}
use Rattle.occ_target_laws.proofs.Shaped.{AreGood, AreShaped, frame, head, one_more}

-- ---- what an end leaves holds

pub left_holds : (params : List (Name × Kind)) → scope_kept params ≡ true → (state : List (Name × ℕ)) → is_state params state ≡ true → (Γ : Environment) (s : Values) → Holds params state (left_in params state Γ s)
left_holds [] kept state is Γ s = tt
left_holds ((name, Chan w d) ∷ params) kept state is Γ s = left_holds params (first_apart (name, Chan w d) params kept).1 state is Γ s
left_holds ((name, Var w) ∷ params) kept [] is Γ s = absurd (false≢true is)
left_holds ((name, Var w) ∷ params) kept (v ∷ state) is Γ s =
    let fresh = first_apart (name, Var w) params kept in
    let both = and_parts (v.0.0 == name.0 && nat_lt v.1 (2 ^ bits_of w)) (is_state params state) is in
    let below = ltb-true v.1 (2 ^ bits_of w) (and_parts (v.0.0 == name.0) (nat_lt v.1 (2 ^ bits_of w)) both.0).1 in (
      value_at (left_in params state Γ s) name.0 _ ∙ constant_value Γ s w v.1 below,
      holds_along params state (left_in params state Γ s) (left_in ((name, Var w) ∷ params) (v ∷ state) Γ s)
          (λ x i. sym (value_off (left_in params state Γ s) name.0 _ x (off_first params x name.0 fresh.0 i))) (left_holds params fresh.1 state both.1 Γ s),
    )

-- ---- outcomes

pub same_refused : {X Y : EventSet} → refusing X ≡ refusing Y → X ≡ Y
same_refused h = cc

not_refused : {A : Type 0} {s : Values} {X : EventSet} → refusing X ≡ ended s → A
not_refused h = absurd (cc)

pub same_ended : {s r : Values} → ended s ≡ ended r → s ≡ r
same_ended h = cc

no_event : {A : Type 0} {e : Event} {a : Trace} → [] ≡ e ∷ a → A
no_event h = absurd (cc)

-- an outcome like a refusal is that refusal
pub like_refusal : (h : Header) (X : EventSet) (o : Outcome) → Like h (refusing X) o → o ≡ refusing X
like_refusal h X (ended s) k = absurd k
like_refusal h X (refusing Y) k = ap refusing (sym k)

-- an outcome like an end is an end that agrees on the parameters
pub like_end : (h : Header) (s : Values) (o : Outcome) → Like h (ended s) o → (r : Values) × (o ≡ ended r) × ((x : ℕ) → In x (variables h.params) → s x ≡ r x)
like_end h s (ended r) k = (r, refl, k)
like_end h s (refusing Y) k = absurd k

-- ---- one row

module _ (f : Frame) (proper : IsProper f.params) (row : TableRow) (good : IsGood f.params (length f.parts) row)
    (shaped : (n : ℕ) → n < length f.parts → IsShaped (header_of f proper) (part_at f.parts n)) where
  abbrev h : Header
  h = header_of f proper

  abbrev Γ : Environment
  Γ = environment f.params

  -- what the process of the row does
  abbrev RowActs : Trace → Outcome → Type 0
  RowActs t o = Acts h (row_process f row) t o

  to_row : (t : Trace) (o : Outcome) → Acts h (process_of h (node f proper row good)) t o → RowActs t o
  to_row t o d = subst (λ (x : Tree). Acts h x t o) (sym (same_process f proper row good)) d

  of_row : (t : Trace) (o : Outcome) → RowActs t o → Acts h (process_of h (node f proper row good)) t o
  of_row t o d = subst (λ (x : Tree). Acts h x t o) (same_process f proper row good) d

  -- ---- failures at once

  quiet_so : (X : EventSet) (set : List Event) → In set row.accepts → list_all (λ e. not (X e)) set ≡ true → (b : Waiting × Tree) → In b (of_events f (chosen set row.offers)) → IsQuiet Γ zeros b.0 X
  quiet_so X set i all b j =
      let from = source f (chosen set row.offers) (of_events f (chosen set row.offers)) (set_groups f proper row good set i) b j in
      let form = source_leads f proper (chosen set row.offers) (set_formed f proper row good set) b from in
      record {
        not_ready = unready h b form.0 form.1 form.2;
        refused = λ e u after. (
            let here = after_lead h Γ (own_channels h) b form.0 form.1 form.2 zeros e u after in
            let offer = follows f proper (chosen set row.offers) (set_formed f proper row good set) b from e here.0 here.1 in
            let inside : In offer.0.0 set = subst (In offer.0.0) (set_events f proper row good set i) (in_map (λ (o : Event × ℕ). o.0) (chosen set row.offers) offer.0 offer.1) in
            not-true (X e) (subst (λ x. not (X x) ≡ true) offer.2 (test_in (λ x. not (X x)) set offer.0.0 all inside))
            );
      }

  all_quiet : (X : EventSet) (set : List Event) → In set row.accepts → ((b : Waiting × Tree) → In b (of_events f (chosen set row.offers)) → IsQuiet Γ zeros b.0 X) → list_all (λ e. not (X e)) set ≡ true
  all_quiet X set i quiet = test_all (λ e. not (X e)) set (λ e j. (
      let found = map_in (λ (o : Event × ℕ). o.0) (chosen set row.offers) e (subst (In e) (sym (set_events f proper row good set i)) j) in
      let lead = lead_for f proper (chosen set row.offers) (of_events f (chosen set row.offers)) (set_groups f proper row good set i) (set_formed f proper row good set) found.0 found.1 in
      let there = lead_after h Γ (own_channels h) lead.0 found.0.0 lead.1 lead.3 zeros in
      ap not (ap X found.2 ∙ (quiet lead.0 lead.2).refused found.0.0 there.0 there.1)
      ))

  waits_in : (X : EventSet) → list_any (list_all (λ e. not (X e))) row.accepts ≡ true → RowActs [] (refusing X)
  waits_in X some =
      let found = any_in (list_all (λ e. not (X e))) row.accepts some in
      to_row [] (refusing X) (waits_so h (node f proper row good) (is_node f proper row good) Γ zeros (of_events f (chosen found.0 row.offers)) X
      (in_map (λ set. of_events f (chosen set row.offers)) row.accepts found.0 found.1) (quiet_so X found.0 found.1 found.2))

  waits_out : (X : EventSet) → RowActs [] (refusing X) → list_any (list_all (λ e. not (X e))) row.accepts ≡ true
  waits_out X d = go (does_so h (node f proper row good) (is_node f proper row good) Γ zeros [] (refusing X) (of_row [] (refusing X) d))
    where
      go : Does h (node f proper row good) Γ zeros [] (refusing X) → list_any (list_all (λ e. not (X e))) row.accepts ≡ true
      go (waits bs Y i e same quiet) =
          let set = set_of f proper row good bs i in
          let is : X ≡ Y = same_refused same in
          in_any (list_all (λ e. not (X e))) row.accepts set.0 set.1 (all_quiet X set.0 set.1 (λ b j. subst (IsQuiet Γ zeros b.0) (sym is) (quiet b (subst (In b) (sym set.2) j))))
      go (stops state i e same) = not_refused same
      go (moves b e a u i same after j) = no_event same

  -- ---- ends at once

  stops_in : scope_kept f.params ≡ true → (u : List (Name × ℕ)) → is_state f.params u ≡ true → list_any (λ state. state_place f.params state == state_place f.params u) row.ends ≡ true
      → (r : Values) × RowActs [] (ended r) × Holds f.params u r
  stops_in kept u is some =
      let found = any_in (λ state. state_place f.params state == state_place f.params u) row.ends some in
      let form = in_all (λ state. is_state f.params state ≡ true) row.ends found.0 good.form.ends found.1 in
      let same : found.0 ≡ u = same_state f.params found.0 u form is (eqb-true (state_place f.params found.0) (state_place f.params u) found.2) in
      let r : Values = left_by h found.0 Γ zeros in
      (r, to_row [] (ended r) (stops_so h (node f proper row good) (is_node f proper row good) Γ zeros found.0 found.1), subst (λ x. Holds f.params x r) same (left_holds f.params kept found.0 form Γ zeros))

  stops_out : scope_kept f.params ≡ true → (u : List (Name × ℕ)) → is_state f.params u ≡ true → (r : Values) → RowActs [] (ended r) → Holds f.params u r
      → list_any (λ state. state_place f.params state == state_place f.params u) row.ends ≡ true
  stops_out kept u is r d holds = go (does_so h (node f proper row good) (is_node f proper row good) Γ zeros [] (ended r) (of_row [] (ended r) d))
    where
      go : Does h (node f proper row good) Γ zeros [] (ended r) → list_any (λ state. state_place f.params state == state_place f.params u) row.ends ≡ true
      go (waits bs Y i e same quiet) = not_refused (sym same)
      go (stops state i e same) =
          let form = in_all (λ z. is_state f.params z ≡ true) row.ends state good.form.ends i in
          let left : Holds f.params u (left_by h state Γ zeros) = subst (Holds f.params u) (same_ended same) holds in
          let is_it : state ≡ u = holds_one f.params state u form is (left_by h state Γ zeros) (left_holds f.params kept state form Γ zeros) left in
          in_any (λ z. state_place f.params z == state_place f.params u) row.ends state i (eq-eqb (state_place f.params state) (state_place f.params u) (ap (state_place f.params) is_it))
      go (moves b e a u i same after j) = no_event same

  -- ---- events

  moves_in : (e : Event) (m : ℕ) → In (e, m) row.offers → (t : Trace) (o : Outcome) → Acts h (part_at f.parts m) t o → (o' : Outcome) × RowActs (e ∷ t) o' × Like h o o'
  moves_in e m i t o d =
      let lead = lead_for f proper row.offers (of_events f row.offers) (all_groups f proper row good) (formed f proper row good) (e, m) i in
      let from = source f row.offers (of_events f row.offers) (all_groups f proper row good) lead.0 lead.2 in
      let offer = follows f proper row.offers (formed f proper row good) lead.0 from e lead.1 lead.3 in
      let same : offer.0.1 ≡ m = one_offer f proper row.offers good.tidy.offers e offer.0.1 m (subst (λ x. In (x, offer.0.1) row.offers) offer.2 offer.1) i in
      let next : part_at f.parts m ≡ lead.1 = ap (part_at f.parts) (sym same) ∙ sym offer.3 in
      let lead_shaped : IsShaped h lead.1 = subst (IsShaped h) next (shaped m (lower f proper row good (e, m) i)) in
      let on = onward h (node f proper row good) (is_node f proper row good) lead.0 e lead.1 lead.2 lead.3 lead_shaped t o (subst (λ (x : Tree). Acts h x t o) next d) in
      (on.0, to_row (e ∷ t) on.0 on.1, on.2)

  moves_out : (e : Event) (t : Trace) (o : Outcome) → RowActs (e ∷ t) o → (m : ℕ) × In (e, m) row.offers × (o' : Outcome) × Acts h (part_at f.parts m) t o' × Like h o o'
  moves_out e t o d =
      let found = moved h (node f proper row good) (is_node f proper row good) e t o (of_row (e ∷ t) o d) in
      let from = source f row.offers (of_events f row.offers) (all_groups f proper row good) found.0 found.3 in
      let offer = follows f proper row.offers (formed f proper row good) found.0 from e found.1 found.4 in
      let i : In (e, offer.0.1) row.offers = subst (λ x. In (x, offer.0.1) row.offers) offer.2 offer.1 in
      let last = anywhere h t (part_at f.parts offer.0.1) (shaped offer.0.1 (lower f proper row good (e, offer.0.1) i)) Γ Γ (own_channels h) (own_channels h) found.2 zeros o
      (subst (λ (x : Tree). (meaning x).does Γ found.2 t o) offer.3 found.5) in
      (offer.0.1, i, last.0, last.1, last.2)

-- ---- the rows of a table

-- how the process of a row is made
pub record IsMade (params inputs : List (Name × Kind)) (proper : IsProper params) (parts : List Tree) (n : ℕ) (row : TableRow) : Type 0 where
  pub before : List Tree
  pub count : length before ≡ n
  pub shaped : AreShaped params inputs proper before
  pub process : part_at parts n ≡ row_process (frame params inputs proper before) row
  pub kept : (m : ℕ) → m < n → part_at before m ≡ part_at parts m

-- over the events of the interface a process does what a row says
pub record DoesAs (h : Header) (rows : List TableRow) (n : ℕ) (p : Tree) : Type 0 where
  pub fails_in : (t : Trace) (X : EventSet) → IsOfInterface h.params t X → row_fails rows n t X ≡ true → Acts h p t (refusing X)
  pub fails_out : (t : Trace) (X : EventSet) → IsOfInterface h.params t X → Acts h p t (refusing X) → row_fails rows n t X ≡ true
  pub ends_in : (t : Trace) (u : List (Name × ℕ)) → list_all (in_interface (environment h.params)) t ≡ true → is_state h.params u ≡ true
      → row_ends h.params rows n t (state_place h.params u) ≡ true → (r : Values) × Acts h p t (ended r) × Holds h.params u r
  pub ends_out : (t : Trace) (u : List (Name × ℕ)) (r : Values) → list_all (in_interface (environment h.params)) t ≡ true → is_state h.params u ≡ true
      → Acts h p t (ended r) → Holds h.params u r → row_ends h.params rows n t (state_place h.params u) ≡ true

module _ (params inputs : List (Name × Kind)) (proper : IsProper params) where
  processes_kept : (front : List Tree) (rows : List TableRow) (m : ℕ) → m < length front → part_at (processes params inputs front rows) m ≡ part_at front m
  unfolding processes
  processes_kept front [] m l = refl
  processes_kept front (row ∷ rows) m l =
      let p : Tree = row_process (frame params inputs proper front) row in
      processes_kept (front ++ p ∷ []) rows m (omega (arith, l, length-append front (p ∷ []))) ∙ get_or_append_left front (p ∷ []) stop m l

  pub made_at : (front : List Tree) (rows : List TableRow) → AreShaped params inputs proper front → AreGood params (length front) rows → (i : ℕ) → i < length rows
      → IsMade params inputs proper (processes params inputs front rows) (length front + i) (row_at rows i)
  unfolding processes
  made_at front [] all good i l = absurd (omega (arith, l))
  made_at front (row ∷ rows) all good zero l =
      let p : Tree = row_process (frame params inputs proper front) row in
      let first : length front + 0 ≡ length front = omega arith in
      let size = length-append front (p ∷ []) in
      record {
        before = front;
        count = sym first;
        shaped = all;
        process = ap (part_at (processes params inputs (front ++ p ∷ []) rows)) first
            ∙ processes_kept (front ++ p ∷ []) rows (length front) (omega (arith, size)) ∙ get_or_push front p stop (length front) refl;
        kept = λ m lt. (let k : m < length front = omega (arith, lt, first) in
            sym (processes_kept (front ++ p ∷ []) rows m (omega (arith, k, size)) ∙ get_or_append_left front (p ∷ []) stop m k));
      }
  made_at front (row ∷ rows) all good (suc i) l =
      let p : Tree = row_process (frame params inputs proper front) row in
      let size : length (front ++ p ∷ []) ≡ length front + 1 = length-append front (p ∷ []) in
      let moved_on : length (front ++ p ∷ []) + i ≡ length front + suc i = omega (arith, size) in
      subst (λ n. IsMade params inputs proper (processes params inputs (front ++ p ∷ []) rows) n (row_at rows i)) moved_on
      (made_at (front ++ p ∷ []) rows (one_more params inputs proper front p all (row_shaped (frame params inputs proper front) proper row good.0 all)) (subst (λ n. AreGood params n rows) (sym size) good.1) i (omega (arith, l)))

  module _ (kept : scope_kept params ≡ true) (rows : List TableRow) (good_at : (i : ℕ) → i < length rows → IsGood params i (row_at rows i))
      (made : (i : ℕ) → i < length rows → IsMade params inputs proper (processes params inputs [] rows) i (row_at rows i)) where
    abbrev parts : List Tree
    parts = processes params inputs [] rows

    abbrev top : Header
    top = head params inputs proper

    -- the frame of a row
    abbrev at : (n : ℕ) → n < length rows → Frame
    at n l = frame params inputs proper (made n l).before

    good_here : (n : ℕ) (l : n < length rows) → IsGood params (length (made n l).before) (row_at rows n)
    good_here n l = subst (λ k. IsGood params k (row_at rows n)) (sym (made n l).count) (good_at n l)

    known : (n : ℕ) → n < length rows → (e : Event) (m : ℕ) → In (e, m) (row_at rows n).offers → m < n
    known n l e m i = (in_all (λ (x : Event × ℕ). (in_interface (environment params) x.0 ≡ true) × (x.1 < n)) (row_at rows n).offers (e, m) (good_at n l).form.offers i).1

    to_part : (n : ℕ) (l : n < length rows) (t : Trace) (o : Outcome) → Acts top (row_process (at n l) (row_at rows n)) t o → Acts top (part_at parts n) t o
    to_part n l t o d = subst (λ (x : Tree). Acts top x t o) (sym (made n l).process) d

    of_part : (n : ℕ) (l : n < length rows) (t : Trace) (o : Outcome) → Acts top (part_at parts n) t o → Acts top (row_process (at n l) (row_at rows n)) t o
    of_part n l t o d = subst (λ (x : Tree). Acts top x t o) (made n l).process d

    -- an event, and the part that follows it
    go_in : (n : ℕ) → n < length rows → (e : Event) (m : ℕ) → In (e, m) (row_at rows n).offers → (t : Trace) (o : Outcome) → Acts top (part_at parts m) t o → (o' : Outcome) × Acts top (part_at parts n) (e ∷ t) o' × Like top o o'
    go_in n l e m i t o d =
        let on = moves_in (at n l) proper (row_at rows n) (good_here n l) (made n l).shaped e m i t o (subst (λ (x : Tree). Acts top x t o) (sym ((made n l).kept m (known n l e m i))) d) in
        (on.0, to_part n l (e ∷ t) on.0 on.1, on.2)

    go_out : (n : ℕ) → n < length rows → (e : Event) (t : Trace) (o : Outcome) → Acts top (part_at parts n) (e ∷ t) o → (m : ℕ) × In (e, m) (row_at rows n).offers × (o' : Outcome) × Acts top (part_at parts m) t o' × Like top o o'
    go_out n l e t o d =
        let found = moves_out (at n l) proper (row_at rows n) (good_here n l) (made n l).shaped e t o (of_part n l (e ∷ t) o d) in
        (found.0, found.1, found.2, subst (λ (x : Tree). Acts top x t found.2) ((made n l).kept found.0 (known n l e found.0 found.1)) found.3, found.4)

    next_known : (n : ℕ) → n < length rows → (e : Event) (m : ℕ) → In (e, m) (row_at rows n).offers → next_row (row_at rows n).offers e ≡ Some m
    next_known n l e m i = offer_known params None (row_at rows n).offers (good_at n l).tidy.offers (e, m) i

    lower_row : (n : ℕ) → n < length rows → (e : Event) (m : ℕ) → In (e, m) (row_at rows n).offers → m < length rows
    lower_row n l e m i = omega (arith, l, known n l e m i)

    refusal : (p : Tree) (t : Trace) (X : EventSet) (o : Outcome) → Like top (refusing X) o → Acts top p t o → Acts top p t (refusing X)
    refusal p t X o like d = subst (λ x. Acts top p t x) (like_refusal top X o like) d

    row_fails_in : (t : Trace) (n : ℕ) → n < length rows → (X : EventSet) → row_fails rows n t X ≡ true → Acts top (part_at parts n) t (refusing X)
    row_fails_in [] n l X h = to_part n l [] (refusing X) (waits_in (at n l) proper (row_at rows n) (good_here n l) (made n l).shaped X (sym (fails_now rows n X) ∙ h))
    row_fails_in (e ∷ t) n l X h =
        let next = fails_first rows n e t X h in
        let i = offer_found (row_at rows n).offers e next.0 next.1 in
        let rest = row_fails_in t next.0 (lower_row n l e next.0 i) X (sym (fails_behind params rows n next.0 e next.1 t X) ∙ h) in
        let on = go_in n l e next.0 i t (refusing X) rest in
        refusal (part_at parts n) (e ∷ t) X on.0 on.2 on.1

    row_fails_out : (t : Trace) (n : ℕ) → n < length rows → (X : EventSet) → Acts top (part_at parts n) t (refusing X) → row_fails rows n t X ≡ true
    row_fails_out [] n l X d = fails_now rows n X ∙ waits_out (at n l) proper (row_at rows n) (good_here n l) (made n l).shaped X (of_part n l [] (refusing X) d)
    row_fails_out (e ∷ t) n l X d =
        let found = go_out n l e t (refusing X) d in
        let rest = row_fails_out t found.0 (lower_row n l e found.0 found.1) X (refusal (part_at parts found.0) t X found.2 found.4 found.3) in
        fails_behind params rows n found.0 e (next_known n l e found.0 found.1) t X ∙ rest

    row_ends_in : (t : Trace) (n : ℕ) → n < length rows → (u : List (Name × ℕ)) → is_state params u ≡ true → row_ends params rows n t (state_place params u) ≡ true
        → (r : Values) × Acts top (part_at parts n) t (ended r) × Holds params u r
    row_ends_in [] n l u is h =
        let found = stops_in (at n l) proper (row_at rows n) (good_here n l) (made n l).shaped kept u is (sym (ends_now params rows n (state_place params u)) ∙ h) in
        (found.0, to_part n l [] (ended found.0) found.1, found.2)
    row_ends_in (e ∷ t) n l u is h =
        let next = ends_first params rows n e t (state_place params u) h in
        let i = offer_found (row_at rows n).offers e next.0 next.1 in
        let rest = row_ends_in t next.0 (lower_row n l e next.0 i) u is (sym (ends_behind params rows n next.0 e next.1 t (state_place params u)) ∙ h) in
        let on = go_in n l e next.0 i t (ended rest.0) rest.1 in
        let end = like_end top rest.0 on.0 on.2 in
        (end.0, subst (λ x. Acts top (part_at parts n) (e ∷ t) x) end.1 on.1, holds_along params u rest.0 end.0 end.2 rest.2)

    row_ends_out : (t : Trace) (n : ℕ) → n < length rows → (u : List (Name × ℕ)) → is_state params u ≡ true → (r : Values) → Acts top (part_at parts n) t (ended r) → Holds params u r
        → row_ends params rows n t (state_place params u) ≡ true
    row_ends_out [] n l u is r d holds =
        ends_now params rows n (state_place params u) ∙ stops_out (at n l) proper (row_at rows n) (good_here n l) (made n l).shaped kept u is r (of_part n l [] (ended r) d) holds
    row_ends_out (e ∷ t) n l u is r d holds =
        let found = go_out n l e t (ended r) d in
        let end = like_end top r found.2 found.4 in
        let rest = row_ends_out t found.0 (lower_row n l e found.0 found.1) u is end.0 (subst (λ x. Acts top (part_at parts found.0) t x) end.1 found.3) (holds_along params u r end.0 end.2 holds) in
        ends_behind params rows n found.0 e (next_known n l e found.0 found.1) t (state_place params u) ∙ rest

    pub does_as : (n : ℕ) → n < length rows → DoesAs top rows n (part_at parts n)
    does_as n l = record {
      fails_in = λ t X int h. row_fails_in t n l X h;
      fails_out = λ t X int d. row_fails_out t n l X d;
      ends_in = λ t u int is h. row_ends_in t n l u is h;
      ends_out = λ t u r int is d holds. row_ends_out t n l u is r d holds;
    }
