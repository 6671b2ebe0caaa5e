-- The table of a process of normal shape has all inputs from a channel or none.
use Rattle.std.proofs.Common.{◌≡◌, ℕ, ◌+◌, ◌*◌, ◌<◌, ◌^◌, ◌==◌, true, false, not, List, [], ◌∷◌, length, None, Some, if◌then◌else◌, refl, sym, ap, ◌∙◌, subst, inl, inr, ◌⊎◌, arith}
use Rattle.std.proofs.lemmas.Bool.{and_from, and_parts, both_ways, cases_Bool, eqb-true, false≢true, not-true}
use Rattle.std.specs.List.{AllByRecursion, list_all, list_any}
use Rattle.occ_target.specs.occ_base.declared.event.Dir.{Dir}
use Rattle.occ_target.specs.occ_base.declared.event.Dir.TheVariants.{Input, Output}
use Rattle.occ_target.specs.occ_base.declared.event.Event.{Event}
use Rattle.occ_target.specs.occ_base.Width.{bits_of}
use Rattle.occ_target.specs.occ_syntax.declared.scope.Kind.TheVariants.{Chan}
use Rattle.occ_target.specs.occ_syntax.Meaning.{IsQuiet, Outcome, ended, meaning, refusing}
use Rattle.occ_target.specs.occ_syntax.Same.{none}
use Rattle.occ_target.specs.occ_syntax.Scopes.{EventSet, Trace, Values, environment, in_interface}
use Rattle.occ_target.specs.occ_syntax.Tree.{Tree, Waiting}
use Rattle.occ_target.specs.occ_syntax.Types.{scope_kept}
use Rattle.occ_target.specs.occ_behaviour.Places.{place_in}
use Rattle.occ_target.specs.occ_nform_table.declared.table.TableRow.{TableRow}
use Rattle.occ_target.specs.occ_nform_table.Behaviours.{IsOfInterface, next_row, row_at, row_ends, row_fails}
use Rattle.occ_target.specs.occ_nform_table.Judging.{contains, has_event}
use Rattle.occ_target.specs.occ_nform_table.Lines.{is_rising, rank, state_place}
use Rattle.occ_target.specs.occ_nform_table.Texts.{state_at_place}
use Rattle.occ_target.proofs.from_nform_table.PlaceNames.{place_is_state, place_there}
use Rattle.occ_target.specs.occ_nform_table.Lists.{In}
use Rattle.occ_target.proofs.from_nform_table.Lists.{any_in, in_all, in_any, test_all, test_in}
use Rattle.occ_target.proofs.from_nform_table.Events.{IsProper, same_rank}
use Rattle.occ_target.proofs.from_nform_table.Facts.{IsPlain}
use Rattle.occ_target.proofs.from_nform_table.Rows.{HasOne, a_failure, an_end, ends_behind, ends_first, fails_behind, fails_first, fails_now, has_one, offer_found, offered as offer_known}
use Rattle.occ_target.proofs.from_nform_table.Sets.{is_whole, outside as outside_set, ranked, refuse_outside, within_itself}
use Rattle.occ_target.specs.Rows.{is_input, part_at}
use Rattle.occ_target_laws.specs.Shapes.{Header, IsNode, IsReceived, IsShaped, Leads, Node, event, place, process_of}
use Rattle.occ_target_laws.proofs.Lists.{in_map, one_by_key}
use Rattle.occ_target_laws.proofs.Following.{entry, lead_after, leads_place, one_lead, two_ways}
use Rattle.occ_target_laws.proofs.Nodes.{Does, does_so, moves, stops, waits, waits_so}
use Rattle.occ_target_laws.proofs.Anywhere.{Like, anywhere}
use Rattle.occ_target_laws.proofs.Alike.{Acts, IsFair, begins, moved, onward, own_channels, zeros}
use Rattle.occ_target_laws.proofs.Initial.{holds_along}
use Rattle.occ_target_laws.proofs.Unique.{lead_inside, listed, on, outside, outside_within, quiet_outside, same_width}
use Rattle.occ_target_laws.specs.Whole.{IsWhole, offered}
use Rattle.occ_target_laws.proofs.Grouping.{in_offered, inside, inside_from}
use Rattle.occ_target_laws.proofs.Acting.{DoesAs, like_end, like_refusal, same_refused}
use Rattle.occ_target_laws.proofs.Ends.{end_known}

refused_ended : {A : Type 0} {s : Values} {X : EventSet} → refusing X ≡ ended s → A
refused_ended h = absurd (cc)

no_event : {A : Type 0} {e : Event} {a : Trace} → [] ≡ e ∷ a → A
no_event h = absurd (cc)

module _ (h : Header) (kept : scope_kept h.params ≡ true) (proper : IsProper h.params) where
  abbrev IsEvent : Event → Type 0
  IsEvent e = in_interface (environment h.params) e ≡ true

  empty_within : (t : Trace) → list_all (in_interface (environment h.params)) t ≡ true → IsOfInterface h.params t none
  empty_within t i = (i, λ e k. absurd (false≢true k))

  longer : (e : Event) (t : Trace) → IsEvent e → list_all (in_interface (environment h.params)) t ≡ true → list_all (in_interface (environment h.params)) (e ∷ t) ≡ true
  longer e t i k = and_from (in_interface (environment h.params) e) (list_all (in_interface (environment h.params)) t) i k

  -- ---- other events of a branch

  received_other : (b : Waiting × Tree) (e : Event) (q : Tree) → IsReceived h b e q → (v : ℕ) → IsEvent (event e.chan.0 Input v) → (r : Tree) × Leads h b (event e.chan.0 Input v) r
  received_other b e q k v inner =
      let here = inside h.params proper (event e.chan.0 Input v) inner in
      let width : here.0 ≡ k.width = same_width (sym here.1 ∙ k.channel) in
      (part_at k.parts v, inr (record { width = k.width; parts = k.parts; dir = refl; channel = k.channel; value = subst (λ w. v < 2 ^ bits_of w) width here.2; count = k.count; branch = k.branch; next = refl }))

  first_inside : (e : Event) → e.dir ≡ Input → IsEvent e → IsEvent (event e.chan.0 Input 0)
  first_inside e dir inner =
      let here = inside h.params proper e inner in
      inside_from h.params e.chan.0 here.0 Input 0 (here.1 ∙ ap (λ d. Some (Chan here.0 (Some d))) dir) (let l = here.2 in omega (arith, l))

  entry_in : (e : Event) → e.dir ≡ Input → rank h.params (entry e) ≡ rank h.params (event e.chan.0 Input 0)
  entry_in e dir = ap (λ d. 256 * place_in h.params e.chan + (if is_input d then 0 else e.value)) dir

  entry_out : (e : Event) → e.dir ≡ Output → rank h.params (entry e) ≡ rank h.params e
  entry_out e dir = ap (λ d. 256 * place_in h.params e.chan + (if is_input d then 0 else e.value)) dir

  -- an event that has the place of a branch is one of its events
  listed_leads : (b : Waiting × Tree) (e : Event) (q : Tree) → Leads h b e q → (d : Event) → IsEvent d → place h b ≡ rank h.params (entry d) → (r : Tree) × Leads h b d r
  listed_leads b e q l d inner at = go e.dir refl d.dir refl l
    where
      same : rank h.params (entry e) ≡ rank h.params (entry d)
      same = sym (leads_place h b e q l) ∙ at

      go : (x : Dir) → e.dir ≡ x → (y : Dir) → d.dir ≡ y → Leads h b e q → (r : Tree) × Leads h b d r
      go Output out Output way k =
          let is : e ≡ d = same_rank h.params proper e d (lead_inside h b e q l) inner (sym (entry_out e out) ∙ same ∙ entry_out d way) in
          (q, subst (λ z. Leads h b z q) is k)
      go Output out Input way k =
          let is : e ≡ event d.chan.0 Input 0 = same_rank h.params proper e (event d.chan.0 Input 0) (lead_inside h b e q l) (first_inside d way inner) (sym (entry_out e out) ∙ same ∙ entry_in d way) in
          two_ways out (ap (λ (z : Event). z.dir) is)
      go Input out Output way k =
          let is : event e.chan.0 Input 0 ≡ d = same_rank h.params proper (event e.chan.0 Input 0) d (first_inside e out (lead_inside h b e q l)) inner (sym (entry_in e out) ∙ same ∙ entry_out d way) in
          two_ways way (sym (ap (λ (z : Event). z.dir) is))
      go Input out Input way (inl k) = two_ways k.dir out
      go Input out Input way (inr k) =
          let is : event e.chan.0 Input 0 ≡ event d.chan.0 Input 0 =
          same_rank h.params proper (event e.chan.0 Input 0) (event d.chan.0 Input 0) (first_inside e out (lead_inside h b e q l)) (first_inside d way inner) (sym (entry_in e out) ∙ same ∙ entry_in d way) in
          let shape : d ≡ event e.chan.0 Input d.value = (λ i. record { chan = record { 0 = sym (ap (λ (z : Event). z.chan.0) is) i }; dir = way i; value = d.value }) in
          let other = received_other b e q k d.value (subst IsEvent shape inner) in
          (other.0, subst (λ z. Leads h b z other.0) (sym shape) other.1)

  -- ---- a process and its row

  module _ (names : List (List ℕ)) (rows : List TableRow) (heights : List ℕ) (plain : IsPlain names h.params rows heights) (n : ℕ) (l : n < length rows)
      (m : Node) (fine : IsNode h m) (next : (b : Waiting × Tree) (e : Event) (q : Tree) → In b m.events → Leads h b e q → IsShaped h q) (does : DoesAs h rows n (process_of h m)) where
    abbrev row : TableRow
    row = row_at rows n

    -- what comes after an event of the process comes after it in what follows
    back_to : (b : Waiting × Tree) (e : Event) (q : Tree) → In b m.events → Leads h b e q → (t : Trace) (o : Outcome) → Acts h (process_of h m) (e ∷ t) o → (o' : Outcome) × Acts h q t o' × Like h o o'
    back_to b e q i k t o d =
        let found = moved h m fine e t o d in
        let branch : found.0 ≡ b = one_by_key (place h) _ m.events fine.rising found.0 b found.3 i (leads_place h found.0 e found.1 found.4 ∙ sym (leads_place h b e q k)) in
        let same : found.1 ≡ q = one_lead h b e found.1 q (subst (λ (x : Waiting × Tree). Leads h x e found.1) branch found.4) k in
        anywhere h t q (next b e q i k) (environment h.params) (environment h.params) (own_channels h) (own_channels h) found.2 zeros o
        (subst (λ (x : Tree). (meaning x).does (environment h.params) found.2 t o) same found.5)

    refusal : (p : Tree) (t : Trace) (X : EventSet) (o : Outcome) → Like h (refusing X) o → Acts h p t o → Acts h p t (refusing X)
    refusal p t X o like d = subst (λ x. Acts h p t x) (like_refusal h X o like) d

    -- the row behind an event, and that what follows does as it says
    pub follow : (b : Waiting × Tree) (e : Event) (q : Tree) → In b m.events → Leads h b e q → (k : ℕ) × In (e, k) row.offers × DoesAs h rows k q
    follow b e q i lead = found (start.0) start.1 start.2
      where
        inner : IsEvent e
        inner = lead_inside h b e q lead

        start : (o : Outcome) × IsFair h o × Acts h q [] o
        start = begins h q (next b e q i lead)

        through : (t : Trace) (o : Outcome) → Acts h q t o → (o' : Outcome) × Acts h (process_of h m) (e ∷ t) o' × Like h o o'
        through t o d = onward h m fine b e q i lead (next b e q i lead) t o d

        known : (k : ℕ) → next_row row.offers e ≡ Some k → (k : ℕ) × In (e, k) row.offers × DoesAs h rows k q
        known k at = (
          k,
          offer_found row.offers e k at,
          record {
            fails_in = λ t X int f. (
                let here = does.fails_in (e ∷ t) X (longer e t inner int.0, int.1) (fails_behind h.params rows n k e at t X ∙ f) in
                let there = back_to b e q i lead t (refusing X) here in
                refusal q t X there.0 there.2 there.1
                );
            fails_out = λ t X int d. (
                let here = through t (refusing X) d in
                sym (fails_behind h.params rows n k e at t X) ∙ does.fails_out (e ∷ t) X (longer e t inner int.0, int.1) (refusal (process_of h m) (e ∷ t) X here.0 here.2 here.1)
                );
            ends_in = λ t u int is f. (
                let here = does.ends_in (e ∷ t) u (longer e t inner int) is (ends_behind h.params rows n k e at t (state_place h.params u) ∙ f) in
                let there = back_to b e q i lead t (ended here.0) here.1 in
                let end = like_end h here.0 there.0 there.2 in
                (end.0, subst (λ x. Acts h q t x) end.1 there.1, holds_along h.params u here.0 end.0 end.2 here.2)
                );
            ends_out = λ t u r int is d holds. (
                let here = through t (ended r) d in
                let end = like_end h r here.0 here.2 in
                sym (ends_behind h.params rows n k e at t (state_place h.params u))
                ∙ does.ends_out (e ∷ t) u end.0 (longer e t inner int) is (subst (λ x. Acts h (process_of h m) (e ∷ t) x) end.1 here.1) (holds_along h.params u r end.0 end.2 holds)
                );
          },
        )

        found : (o : Outcome) → IsFair h o → Acts h q [] o → (k : ℕ) × In (e, k) row.offers × DoesAs h rows k q
        found (refusing X) fair d =
            let here = through [] (refusing X) d in
            let row_does = does.fails_out (e ∷ []) X (longer e [] inner refl, fair) (refusal (process_of h m) (e ∷ []) X here.0 here.2 here.1) in
            let first = fails_first rows n e [] X row_does in
            known first.0 first.1
        found (ended r) fair d =
            let state = end_known h kept [] q (next b e q i lead) r d in
            let here = through [] (ended r) d in
            let end = like_end h r here.0 here.2 in
            let row_does = does.ends_out (e ∷ []) state.0 end.0 (longer e [] inner refl) state.1 (subst (λ x. Acts h (process_of h m) (e ∷ []) x) end.1 here.1) (holds_along h.params state.0 r end.0 end.2 state.2) in
            let first = ends_first h.params rows n e [] (state_place h.params state.0) row_does in
            known first.0 first.1

    -- an event that is offered is one of a branch
    pub meet : (e : Event) (k : ℕ) → In (e, k) row.offers → (b : Waiting × Tree) × (q : Tree) × In b m.events × Leads h b e q
    meet e k i = go (has_one h.params rows k (plain.form k below).ends (plain.full k below))
      where
        form : (in_interface (environment h.params) e ≡ true) × (k < n)
        form = in_all (λ (x : Event × ℕ). (in_interface (environment h.params) x.0 ≡ true) × (x.1 < n)) row.offers (e, k) (plain.form n l).offers i

        below : k < length rows
        below = omega (arith, l, form.1)

        at : next_row row.offers e ≡ Some k
        at = offer_known h.params None row.offers (plain.tidy n l).offers (e, k) i

        branch : (o : Outcome) → Acts h (process_of h m) (e ∷ []) o → (b : Waiting × Tree) × (q : Tree) × In b m.events × Leads h b e q
        branch o d = let found = moved h m fine e [] o d in (found.0, found.1, found.3, found.4)

        go : HasOne h.params rows k → (b : Waiting × Tree) × (q : Tree) × In b m.events × Leads h b e q
        go (an_end place low f) =
            let same : state_place h.params (state_at_place h.params place) ≡ place = place_there h.params place low in
            let here = does.ends_in (e ∷ []) (state_at_place h.params place) (longer e [] form.0 refl) (place_is_state h.params place)
            (ap (row_ends h.params rows n (e ∷ [])) same ∙ ends_behind h.params rows n k e at [] place ∙ f) in
            branch (ended here.0) here.1
        go (a_failure f) = branch (refusing none) (does.fails_in (e ∷ []) none (empty_within (e ∷ []) (longer e [] form.0 refl)) (fails_behind h.params rows n k e at [] none ∙ f))

    pub offers_whole : IsWhole h.params (offered row.offers)
    offers_whole c v w i inner =
        let from = in_offered row.offers (event c Input v) i in
        let there = meet (event c Input v) from.0 from.1 in
        other there.0 there.1 there.2 there.3
      where
        other : (b : Waiting × Tree) (q : Tree) → In b m.events → Leads h b (event c Input v) q → In (event c Input w) (offered row.offers)
        other b q j (inl k) = two_ways k.dir refl
        other b q j (inr k) =
            let lead = received_other b (event c Input v) q k w inner in
            let to = follow b (event c Input w) lead.0 j lead.1 in
            in_map (λ (o : Event × ℕ). o.0) row.offers (event c Input w, to.0) to.1

    -- ---- acceptances

    set_form : (set : List Event) → In set row.accepts → (list_all (in_interface (environment h.params)) set ≡ true) × (is_rising h.params 0 set ≡ true)
    set_form set i = in_all (λ s. (list_all (in_interface (environment h.params)) s ≡ true) × (is_rising h.params 0 s ≡ true)) row.accepts set (plain.form n l).accepts i

    contains_not : (set other : List Event) → In set row.accepts → In other row.accepts → contains h.params set other ≡ false
    contains_not set other i j = go (cases_Bool (contains h.params set other))
      where
        go : (contains h.params set other ≡ true) ⊎ (contains h.params set other ≡ false) → contains h.params set other ≡ false
        go (inl e) = absurd (both_ways (list_any (contains h.params set) row.accepts) (in_all (λ s. list_any (contains h.params s) row.accepts ≡ false) row.accepts set (plain.tidy n l).least i)
            (in_any (contains h.params set) row.accepts other j e))
        go (inr e) = e

    -- the branches of an acceptance of the process that lies within a set of the row
    abbrev Accepting : List Event → Type 0
    Accepting set = (bs : List (Waiting × Tree)) × In bs m.accepts × ((b : Waiting × Tree) → In b bs → IsQuiet (environment h.params) zeros b.0 (outside_set h.params proper set))

    accepting_in : (set : List Event) → In set row.accepts → Accepting set
    accepting_in set i =
        let fails : row_fails rows n [] (outside_set h.params proper set) ≡ true =
        fails_now rows n (outside_set h.params proper set) ∙ refuse_outside h.params proper set row.accepts set i (within_itself h.params proper set) in
        let d = does.fails_in [] (outside_set h.params proper set) (refl, λ e k. (and_parts (in_interface (environment h.params) e) (not (has_event h.params set e)) k).0) fails in
        go (does_so h m fine (environment h.params) zeros [] (refusing (outside_set h.params proper set)) d)
      where
        go : Does h m (environment h.params) zeros [] (refusing (outside_set h.params proper set)) → Accepting set
        go (waits bs Y j e same quiet) =
            let is = same_refused same in
            (bs, j, λ b k. subst (IsQuiet (environment h.params) zeros b.0) (sym is) (quiet b k))
        go (stops state j e same) = refused_ended same
        go (moves b e a u j same after d) = no_event same

    -- an event that is among the branches is one of the set
    accepted : (set : List Event) (bs : List (Waiting × Tree)) → In bs m.accepts → ((b : Waiting × Tree) → In b bs → IsQuiet (environment h.params) zeros b.0 (outside_set h.params proper set))
        → (b : Waiting × Tree) → In b bs → (e : Event) (q : Tree) → Leads h b e q → has_event h.params set e ≡ true
    accepted set bs j quiet b k e q lead =
        let there = lead_after h (environment h.params) (own_channels h) b e q lead zeros in
        on (in_interface (environment h.params) e) (has_event h.params set e) (lead_inside h b e q lead) ((quiet b k).refused e there.0 there.1)

    listed_branch : (bs : List (Waiting × Tree)) → In bs m.accepts → (e : Event) → IsEvent e → listed h bs e ≡ true → (b : Waiting × Tree) × (q : Tree) × In b bs × Leads h b e q
    listed_branch bs j e inner is =
        let found = any_in (λ b. place h b == rank h.params (entry e)) bs is in
        let form = fine.events found.0 (fine.within bs j found.0 found.1) in
        let lead = listed_leads found.0 form.0 form.1 form.2 e inner (eqb-true (place h found.0) (rank h.params (entry e)) found.2) in
        (found.0, lead.0, found.1, lead.1)

    -- each event of the set is among the branches
    set_listed : (set : List Event) (i : In set row.accepts) (bs : List (Waiting × Tree)) → In bs m.accepts
        → ((b : Waiting × Tree) → In b bs → IsQuiet (environment h.params) zeros b.0 (outside_set h.params proper set)) → (e : Event) → In e set → listed h bs e ≡ true
    set_listed set i bs j quiet =
        let waiting = waits_so h m fine (environment h.params) zeros bs (outside h bs) j (quiet_outside h m fine bs (fine.within bs j)) in
        let fails = sym (fails_now rows n (outside h bs)) ∙ does.fails_out [] (outside h bs) (refl, outside_within h bs) waiting in
        let found = any_in (list_all (λ e. not (outside h bs e))) row.accepts fails in
        let form = set_form set i in
        let other = set_form found.0 found.1 in
        let each : (e : Event) → In e found.0 → listed h bs e ≡ true =
        λ e k. on (in_interface (environment h.params) e) (listed h bs e) (test_in (in_interface (environment h.params)) found.0 e other.0 k)
        (not-true (outside h bs e) (test_in (λ x. not (outside h bs x)) found.0 e found.2 k)) in
        let within : list_all (has_event h.params set) found.0 ≡ true = test_all (has_event h.params set) found.0 (λ e k. (
        let branch = listed_branch bs j e (test_in (in_interface (environment h.params)) found.0 e other.0 k) (each e k) in
        accepted set bs j quiet branch.0 branch.2 e branch.1 branch.3
        )) in
        let same : found.0 ≡ set = is_whole h.params proper found.0 set other.0 form.0 other.1 form.1 within (contains_not set found.0 i found.1) in
        subst (λ s. (e : Event) → In e s → listed h bs e ≡ true) same each

    one_whole : (set : List Event) → In set row.accepts → IsWhole h.params set
    one_whole set i c v w k inner =
        let accepting = accepting_in set i in
        let form = set_form set i in
        let branch = listed_branch accepting.0 accepting.1 (event c Input v) (test_in (in_interface (environment h.params)) set (event c Input v) form.0 k) (set_listed set i accepting.0 accepting.1 accepting.2 (event c Input v) k) in
        let other = lead_other branch.0 branch.1 branch.3 in
        let has = ranked h.params proper set (event c Input w) (accepted set accepting.0 accepting.1 accepting.2 branch.0 branch.2 (event c Input w) other.0 other.1) in
        let same : event c Input w ≡ has.0 = same_rank h.params proper (event c Input w) has.0 inner (test_in (in_interface (environment h.params)) set has.0 form.0 has.1) has.2 in
        subst (λ x. In x set) (sym same) has.1
      where
        lead_other : (b : Waiting × Tree) (q : Tree) → Leads h b (event c Input v) q → (r : Tree) × Leads h b (event c Input w) r
        lead_other b q (inl j) = two_ways j.dir refl
        lead_other b q (inr j) = received_other b (event c Input v) q j w inner

    all_whole : (sets : List (List Event)) → ((s : List Event) → In s sets → In s row.accepts) → AllByRecursion (IsWhole h.params) sets
    all_whole [] sub = tt
    all_whole (s ∷ sets) sub = (one_whole s (sub s (inl refl)), all_whole sets (λ x j. sub x (inr j)))

    pub row_whole : IsWhole h.params (offered row.offers) × AllByRecursion (IsWhole h.params) row.accepts
    row_whole = (offers_whole, all_whole row.accepts (λ s i. i))
