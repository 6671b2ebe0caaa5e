-- Processes of normal shape that do the same are the same tree.
use Rattle.std.proofs.Common.{◌≡◌, ℕ, ◌<◌, ◌^◌, ◌==◌, Bool, true, false, not, ◌&&◌, List, [], ◌∷◌, length, map, Option, Some, refl, sym, ap, ◌∙◌, subst, inl, inr, arith}
use Rattle.std.proofs.lemmas.Bool.{and_from, and_parts, eqb-true, eq-eqb, false≢true, lt-ltb, true≢false}
use Rattle.std.proofs.lemmas.List.{ext_get_or}
use Rattle.std.specs.List.{list_any}
use Rattle.occ_target.specs.occ_base.declared.event.Dir.{Dir}
use Rattle.occ_target.specs.occ_base.declared.event.Dir.TheVariants.{Input, Output}
use Rattle.occ_target.specs.occ_base.declared.event.Event.{Event}
use Rattle.occ_target.specs.occ_base.declared.names.Name.{Name}
use Rattle.occ_target.specs.occ_base.declared.width.Width.{Width}
use Rattle.occ_target.specs.occ_base.Width.{bits_of}
use Rattle.occ_target.specs.occ_syntax.declared.scope.Kind.TheVariants.{Chan}
use Rattle.occ_target.specs.occ_syntax.Meaning.{IsQuiet, Outcome, ended, refusing}
use Rattle.occ_target.specs.occ_syntax.Scopes.{EventSet, Trace, allows, channel_kind, environment, has_width, in_interface, in_scope}
use Rattle.occ_target.specs.occ_syntax.Tree.{Tree, Waiting, input, output, select, stop}
use Rattle.occ_target.specs.occ_syntax.Types.{scope_kept}
use Rattle.occ_target.specs.occ_behaviour.States.{is_state}
use Rattle.occ_target.specs.occ_nform_table.Lines.{rank}
use Rattle.occ_target.specs.occ_nform_table.Lists.{In}
use Rattle.occ_target.proofs.from_nform_table.Lists.{IsStrict, any_in, in_all, in_any, same_chains}
use Rattle.occ_target.proofs.from_nform_table.Orders.{numbers_strict, text_never, text_onward}
use Rattle.occ_target.specs.Rows.{part_at, variable_of}
use Rattle.occ_target.specs.States.{constant, is_at}
use Rattle.occ_target_laws.specs.Shapes.{Header, IsNode, IsReceived, IsSent, IsShaped, Leads, Node, branch_less, end_less, event, numbered, of_node, place, process_of, set_less}
use Rattle.occ_target_laws.proofs.Lists.{one_by_key}
use Rattle.occ_target_laws.proofs.Following.{after_lead, entry, lead_after, leads_place, two_ways, unready}
use Rattle.occ_target_laws.proofs.Nodes.{Does, does_so, left_by, moves, stops, stops_so, waits, waits_so}
use Rattle.occ_target_laws.proofs.Anywhere.{Like}
use Rattle.occ_target_laws.proofs.Alike.{Within, after_within, own_channels, partner, zeros}
use Rattle.occ_target_laws.proofs.Finals.{one_end}

-- ---- branches

pub same_width : {v w : Width} {d : Option Dir} → Some (Chan v d) ≡ Some (Chan w d) → v ≡ w
same_width h = cc

-- what follows an event is the same in both
abbrev pub Agree : Header → Node → Node → Type 0
Agree h n m = (b c : Waiting × Tree) (e : Event) (p q : Tree) → In b n.events → In c m.events → Leads h b e p → Leads h c e q → p ≡ q

same_sent : (h : Header) (b c : Waiting × Tree) (e : Event) (p q : Tree) → IsSent h b e p → IsSent h c e q → p ≡ q → b ≡ c
same_sent h b c e p q k j same =
    let width : k.width ≡ j.width = same_width (sym k.channel ∙ j.channel) in
    k.branch ∙ (λ i. (output e.chan.0 (constant (width i) e.value), same i)) ∙ sym j.branch

same_received : (h : Header) (n m : Node) → Agree h n m → (b c : Waiting × Tree) (e : Event) (p q : Tree) → In b n.events → In c m.events → IsReceived h b e p → IsReceived h c e q → b ≡ c
same_received h n m agree b c e p q i j k l =
    let width : k.width ≡ l.width = same_width (sym k.channel ∙ l.channel) in
    let count : length k.parts ≡ length l.parts = k.count ∙ ap (λ w. 2 ^ bits_of w) width ∙ sym l.count in
    let each : (v : ℕ) → v < length k.parts → part_at k.parts v ≡ part_at l.parts v = λ v lt. agree b c (event e.chan.0 Input v) (part_at k.parts v) (part_at l.parts v) i j
    (inr (record { width = k.width; parts = k.parts; dir = refl; channel = k.channel; value = omega (arith, lt, k.count); count = k.count; branch = k.branch; next = refl }))
    (inr (record { width = l.width; parts = l.parts; dir = refl; channel = l.channel; value = omega (arith, lt, count, l.count); count = l.count; branch = l.branch; next = refl })) in
    let parts : k.parts ≡ l.parts = ext_get_or stop k.parts l.parts count each in
    k.branch ∙ (λ z. (input e.chan.0 (variable_of h.inputs (width z)), select (numbered (is_at (variable_of h.inputs (width z)) (width z)) 0 (parts z)))) ∙ sym l.branch

branch_in : (h : Header) (n m : Node) → IsNode h n → IsNode h m → ((b : Waiting × Tree) (e : Event) (q : Tree) → In b n.events → Leads h b e q → IsShaped h q)
    → Within h (process_of h n) (process_of h m) → Agree h n m → (b : Waiting × Tree) → In b n.events → In b m.events
branch_in h n m first second next forth agree b i =
    let form = first.events b i in
    let found = partner h n m first second forth b form.0 form.1 i form.2 (next b form.0 form.1 i form.2) in
    subst (λ x. In x m.events) (sym (go form.0 form.1 found.0 found.1 found.2 form.2 found.3)) found.2
  where
    go : (e : Event) (p : Tree) (c : Waiting × Tree) (q : Tree) → In c m.events → Leads h b e p → Leads h c e q → b ≡ c
    go e p c q j (inl k) (inl l) = same_sent h b c e p q k l (agree b c e p q i j (inl k) (inl l))
    go e p c q j (inl k) (inr l) = two_ways k.dir l.dir
    go e p c q j (inr k) (inl l) = two_ways l.dir k.dir
    go e p c q j (inr k) (inr l) = same_received h n m agree b c e p q i j k l

-- ---- acceptances

off : (x y : Bool) → y ≡ true → (x && not y) ≡ false
off true true e = refl
off true false e = absurd (false≢true e)
off false y e = refl

pub on : (x y : Bool) → x ≡ true → (x && not y) ≡ false → y ≡ true
on true true e k = refl
on true false e k = absurd (true≢false k)
on false y e k = absurd (false≢true e)

module _ (h : Header) where
  pub lead_inside : (b : Waiting × Tree) (e : Event) (q : Tree) → Leads h b e q → in_interface (environment h.params) e ≡ true
  lead_inside b e q (inl k) =
      and_from (in_scope (environment h.params) e) (allows (environment h.params e.chan.0) e.dir)
      (subst (λ z. has_width z e.value ≡ true) (sym (ap channel_kind k.channel)) (lt-ltb e.value (2 ^ bits_of k.width) k.value))
      (ap (λ z. allows z e.dir) k.channel ∙ ap (λ d. allows (Some (Chan k.width (Some Output))) d) k.dir)
  lead_inside b e q (inr k) =
      and_from (in_scope (environment h.params) e) (allows (environment h.params e.chan.0) e.dir)
      (subst (λ z. has_width z e.value ≡ true) (sym (ap channel_kind k.channel)) (lt-ltb e.value (2 ^ bits_of k.width) k.value))
      (ap (λ z. allows z e.dir) k.channel ∙ ap (λ d. allows (Some (Chan k.width (Some Input))) d) k.dir)

  -- the events of branches, by their places, and those of the interface that are none
  abbrev pub listed : List (Waiting × Tree) → Event → Bool
  listed set e = list_any (λ b. place h b == rank h.params (entry e)) set

  abbrev pub outside : List (Waiting × Tree) → EventSet
  outside set = λ e. in_interface (environment h.params) e && not (listed set e)

  pub outside_within : (set : List (Waiting × Tree)) (e : Event) → outside set e ≡ true → in_interface (environment h.params) e ≡ true
  outside_within set e k = (and_parts (in_interface (environment h.params) e) (not (listed set e)) k).0

  pub quiet_outside : (n : Node) → IsNode h n → (set : List (Waiting × Tree)) → ((b : Waiting × Tree) → In b set → In b n.events)
      → (b : Waiting × Tree) → In b set → IsQuiet (environment h.params) zeros b.0 (outside set)
  quiet_outside n fine set sub b i =
      let form = fine.events b (sub b i) in
      record {
        not_ready = unready h b form.0 form.1 form.2;
        refused = λ e u after. (
            let here = after_lead h (environment h.params) (own_channels h) b form.0 form.1 form.2 zeros e u after in
            off (in_interface (environment h.params) e) (listed set e)
            (in_any (λ x. place h x == rank h.params (entry e)) set b i (eq-eqb (place h b) (rank h.params (entry e)) (leads_place h b e here.0 here.1)))
            );
      }

  within_quiet : (m : Node) → IsNode h m → (set other : List (Waiting × Tree)) → ((b : Waiting × Tree) → In b set → In b m.events) → ((b : Waiting × Tree) → In b other → In b m.events)
      → ((b : Waiting × Tree) → In b other → IsQuiet (environment h.params) zeros b.0 (outside set)) → (b : Waiting × Tree) → In b other → In b set
  within_quiet m fine set other sub other_sub quiet b i =
      let form = fine.events b (other_sub b i) in
      let there = lead_after h (environment h.params) (own_channels h) b form.0 form.1 form.2 zeros in
      let inside = on (in_interface (environment h.params) form.0) (listed set form.0) (lead_inside b form.0 form.1 form.2) ((quiet b i).refused form.0 there.0 there.1) in
      let found = any_in (λ x. place h x == rank h.params (entry form.0)) set inside in
      let same : found.0 ≡ b = one_by_key (place h) _ m.events fine.rising found.0 b (sub found.0 found.1) (other_sub b i)
      (eqb-true (place h found.0) (rank h.params (entry form.0)) found.2 ∙ sym (leads_place h b form.0 form.1 form.2)) in
      subst (λ x. In x set) same found.1

  no_event : {e : Event} {a : Trace} → [] ≡ e ∷ a → ⊥
  no_event k = cc

  module _ (n m : Node) (first : IsNode h n) (second : IsNode h m) (forth : Within h (process_of h n) (process_of h m)) (sub : (b : Waiting × Tree) → In b n.events → In b m.events) where
    -- an acceptance has one of the other process within it
    smaller : (set : List (Waiting × Tree)) → In set n.accepts → (other : List (Waiting × Tree)) × In other m.accepts × ((b : Waiting × Tree) → In b other → In b set)
    smaller set i =
        let waiting = waits_so h n first (environment h.params) zeros set (outside set) i (quiet_outside n first set (first.within set i)) in
        let there = forth [] (refusing (outside set)) (outside_within set) waiting in
        go there.0 (does_so h m second (environment h.params) zeros [] there.0 there.1) there.2
      where
        go : (o : Outcome) → Does h m (environment h.params) zeros [] o → Like h (refusing (outside set)) o
            → (other : List (Waiting × Tree)) × In other m.accepts × ((b : Waiting × Tree) → In b other → In b set)
        go o (waits other X j e same quiet) like =
            let is : outside set ≡ X = subst (Like h (refusing (outside set))) same like in (
              other,
              j,
              within_quiet m second set other (λ b k. sub b (first.within set i b k)) (second.within other j)
                  (λ b k. subst (IsQuiet (environment h.params) zeros b.0) (sym is) (quiet b k)),
            )
        go o (stops state j e same) like = absurd (subst (Like h (refusing (outside set))) same like)
        go o (moves b e a u j same after d) like = absurd (no_event same)

    -- a final state of the one is one of the other
    end_in : scope_kept h.params ≡ true → (state : List (Name × ℕ)) → In state n.ends → In state m.ends
    end_in kept state i =
        let there = forth [] (ended (left_by h state (environment h.params) zeros)) tt (stops_so h n first (environment h.params) zeros state i) in
        go there.0 (does_so h m second (environment h.params) zeros [] there.0 there.1) there.2
      where
        go : (o : Outcome) → Does h m (environment h.params) zeros [] o → Like h (ended (left_by h state (environment h.params) zeros)) o → In state m.ends
        go o (waits other X j e same quiet) like = absurd (subst (Like h (ended (left_by h state (environment h.params) zeros))) same like)
        go o (stops other j e same) like =
            let agree = subst (Like h (ended (left_by h state (environment h.params) zeros))) same like in
            let is : state ≡ other = one_end h.params kept state other (in_all (λ z. is_state h.params z ≡ true) n.ends state first.states i)
            (in_all (λ z. is_state h.params z ≡ true) m.ends other second.states j) (environment h.params) zeros agree in
            subst (λ x. In x m.ends) (sym is) j
        go o (moves b e a u j same after d) like = absurd (no_event same)

  branches_strict : IsStrict (branch_less h)
  branches_strict = numbers_strict (place h)

  lists_strict : IsStrict (set_less h)
  lists_strict = record { never = λ x. text_never (map (place h) x); onward = λ x y z. text_onward (map (place h) x) (map (place h) y) (map (place h) z) }

  accept_in : (n m : Node) → IsNode h n → IsNode h m
      → ((set : List (Waiting × Tree)) → In set n.accepts → (other : List (Waiting × Tree)) × In other m.accepts × ((b : Waiting × Tree) → In b other → In b set))
      → ((set : List (Waiting × Tree)) → In set m.accepts → (other : List (Waiting × Tree)) × In other n.accepts × ((b : Waiting × Tree) → In b other → In b set))
      → (set : List (Waiting × Tree)) → In set n.accepts → In set m.accepts
  accept_in n m first second there back set i =
      let one = there set i in
      let two = back one.0 one.1 in
      let is : two.0 ≡ set = first.least set two.0 i two.1 (λ b k. one.2 b (two.2 b k)) in
      let same : set ≡ one.0 = same_chains (branch_less h) branches_strict _ _ set one.0 (first.accepts_in_order set i) (second.accepts_in_order one.0 one.1)
      (λ b k. two.2 b (subst (In b) (sym is) k)) one.2 in
      subst (λ x. In x m.accepts) (sym same) one.1

  -- ---- the whole process

  module _ (kept : scope_kept h.params ≡ true) where
    one_node : (n m : Node) → IsNode h n → IsNode h m → ((b : Waiting × Tree) → In b n.events → In b m.events) → ((b : Waiting × Tree) → In b m.events → In b n.events)
        → Within h (process_of h n) (process_of h m) → Within h (process_of h m) (process_of h n) → n ≡ m
    one_node n m first second sub sup forth back =
        let there = smaller n m first second forth sub in
        let here = smaller m n second first back sup in
        let events = same_chains (branch_less h) branches_strict _ _ n.events m.events first.rising second.rising sub sup in
        let accepts = same_chains (set_less h) lists_strict _ _ n.accepts m.accepts first.accepts_rising second.accepts_rising (accept_in n m first second there here) (accept_in m n second first here there) in
        let ends = same_chains (end_less h) (numbers_strict _) _ _ n.ends m.ends first.ends_rising second.ends_rising (end_in n m first second forth sub kept) (end_in m n second first back sup kept) in
        λ i. record { events = events i; accepts = accepts i; ends = ends i }

    pub one_process : (p : Tree) → IsShaped h p → (q : Tree) → IsShaped h q → Within h p q → Within h q p → p ≡ q
    one_process p (of_node y n is first next) q (of_node z m im second later) forth back =
        is ∙ ap (process_of h) (go (λ b c e r s i j l k there here. one_process r (next b e r i l) s (later c e s j k) there here)) ∙ sym im
      where
        over : Within h (process_of h n) (process_of h m)
        over = subst (λ (x : Tree). Within h x (process_of h m)) is (subst (λ (x : Tree). Within h p x) im forth)

        under : Within h (process_of h m) (process_of h n)
        under = subst (λ (x : Tree). Within h x (process_of h n)) im (subst (λ (x : Tree). Within h q x) is back)

        go : ((b c : Waiting × Tree) (e : Event) (r s : Tree) → In b n.events → In c m.events → Leads h b e r → Leads h c e s → Within h r s → Within h s r → r ≡ s) → n ≡ m
        go ih =
            let agree : Agree h n m = λ b c e r s i j l k. ih b c e r s i j l k
            (after_within h n m first second over b c e r s i j l k (next b e r i l) (later c e s j k))
            (after_within h m n second first under c b e s r j i k l (later c e s j k) (next b e r i l)) in
            let turned : Agree h m n = λ b c e r s i j l k. sym (agree c b e s r j i k l) in
            one_node n m first second (branch_in h n m first second next over agree) (branch_in h m n second first later under turned) over under
