-- Processes of normal shape of which one does what the other does, and what follows their events.
use Rattle.std.proofs.Common.{◌≡◌, ℕ, true, List, [], ◌∷◌, refl, sym, ap, ◌∙◌, subst, inl}
use Rattle.std.proofs.lemmas.Bool.{false≢true}
use Rattle.occ_target.specs.occ_base.declared.event.Event.{Event}
use Rattle.occ_target.specs.occ_base.declared.names.Name.{Name}
use Rattle.occ_target.specs.occ_syntax.Meaning.{After, Outcome, ended, meaning, refusing}
use Rattle.occ_target.specs.occ_syntax.Same.{none}
use Rattle.occ_target.specs.occ_syntax.Scopes.{EventSet, Trace, Values, channel_kind, environment, in_interface}
use Rattle.occ_target.specs.occ_syntax.Tree.{Tree, Waiting}
use Rattle.occ_target.specs.occ_nform_table.Lists.{In}
use Rattle.occ_target_laws.specs.Shapes.{Header, IsNode, IsShaped, Leads, Node, of_node, place, process_of}
use Rattle.occ_target_laws.proofs.Lists.{one_by_key}
use Rattle.occ_target_laws.proofs.Following.{HasChannels, after_lead, lead_after, leads_place, one_lead, unready}
use Rattle.occ_target_laws.proofs.Nodes.{Does, does_so, left_by, moves, moves_so, stops, stops_so, waits, waits_so}
use Rattle.occ_target_laws.proofs.Anywhere.{Like, anywhere, like_through, same_event_first, same_trace_then}

abbrev pub zeros : Values
zeros = λ x. 0

-- what a process does over the parameters, from the state of zeros; from each other state it does the same
abbrev pub Acts : Header → Tree → Trace → Outcome → Type 0
Acts h p t o = (meaning p).does (environment h.params) zeros t o

-- what it refuses are events of the interface
abbrev pub IsFair : Header → Outcome → Type 0
IsFair h (ended s) = Unit {0}
IsFair h (refusing X) = (e : Event) → X e ≡ true → in_interface (environment h.params) e ≡ true

-- the second does what the first does
abbrev pub Within : Header → Tree → Tree → Type 0
Within h p q = (t : Trace) (o : Outcome) → IsFair h o → Acts h p t o → (o' : Outcome) × Acts h q t o' × Like h o o'

pub fair_like : (h : Header) (o p : Outcome) → Like h o p → IsFair h o → IsFair h p
fair_like h (ended s) (ended u) k f = tt
fair_like h (ended s) (refusing X) k f = absurd k
fair_like h (refusing X) (ended u) k f = absurd k
fair_like h (refusing X) (refusing Y) k f = λ e i. f e (ap (λ (Z : EventSet). Z e) k ∙ i)

pub own_channels : (h : Header) → HasChannels h (environment h.params)
own_channels h c w d e = ap channel_kind e

no_trace : {e : Event} {a : Trace} → e ∷ a ≡ [] → ⊥
no_trace h = cc

module _ (h : Header) where
  -- at first it waits or is over
  pub begins : (p : Tree) → IsShaped h p → (o : Outcome) × IsFair h o × Acts h p [] o
  begins p (of_node z n is fine next) = go n.accepts n.ends refl refl
    where
      back : (o : Outcome) → Acts h (process_of h n) [] o → Acts h p [] o
      back o k = subst (λ (x : Tree). Acts h x [] o) (sym is) k

      go : (accepts : List (List (Waiting × Tree))) (ends : List (List (Name × ℕ))) → n.accepts ≡ accepts → n.ends ≡ ends → (o : Outcome) × IsFair h o × Acts h p [] o
      go [] [] e f = absurd (fine.full e f)
      go [] (state ∷ ends) e f = (
        ended (left_by h state (environment h.params) zeros),
        tt,
        back (ended (left_by h state (environment h.params) zeros)) (stops_so h n fine (environment h.params) zeros state (subst (In state) (sym f) (inl refl))),
      )
      go (set ∷ accepts) ends e f =
          let i : In set n.accepts = subst (In set) (sym e) (inl refl) in (
            refusing none,
            λ g k. absurd (false≢true k),
            back (refusing none) (waits_so h n fine (environment h.params) zeros set none i (λ b j.
                (let form = fine.events b (fine.within set i b j) in record { not_ready = unready h b form.0 form.1 form.2; refused = λ g u a. refl }))),
          )

  -- an event, and what follows it
  pub moved : (m : Node) → IsNode h m → (e : Event) (t : Trace) (o : Outcome) → Acts h (process_of h m) (e ∷ t) o
      → (b : Waiting × Tree) × (q : Tree) × (u : Values) × In b m.events × Leads h b e q × (meaning q).does (environment h.params) u t o
  moved m fine e t o d = go (does_so h m fine (environment h.params) zeros (e ∷ t) o d)
    where
      go : Does h m (environment h.params) zeros (e ∷ t) o
          → (b : Waiting × Tree) × (q : Tree) × (u : Values) × In b m.events × Leads h b e q × (meaning q).does (environment h.params) u t o
      go (waits set X i same f quiet) = absurd (no_trace same)
      go (stops state i same f) = absurd (no_trace same)
      go (moves b f a u i same after j) =
          let form = fine.events b i in
          let after_e : After (environment h.params) zeros b.0 e u = subst (λ x. After (environment h.params) zeros b.0 x u) (sym (same_event_first same)) after in
          let here = after_lead h (environment h.params) (own_channels h) b form.0 form.1 form.2 zeros e u after_e in
          (b, here.0, u, i, here.1, here.2 t o (subst (λ x. (meaning b.1).does (environment h.params) u x o) (sym (same_trace_then same)) j))

  -- an event by a branch, and what follows it
  pub onward : (n : Node) → IsNode h n → (b : Waiting × Tree) (e : Event) (p : Tree) → In b n.events → Leads h b e p → IsShaped h p → (t : Trace) (o : Outcome) → Acts h p t o
      → (o' : Outcome) × Acts h (process_of h n) (e ∷ t) o' × Like h o o'
  onward n fine b e p i l shaped t o d =
      let there = lead_after h (environment h.params) (own_channels h) b e p l zeros in
      let one = anywhere h t p shaped (environment h.params) (environment h.params) (own_channels h) (own_channels h) zeros there.0 o d in
      (one.0, moves_so h n fine (environment h.params) zeros b e t there.0 one.0 i there.1 (there.2 t one.0 one.1), one.2)

  module _ (n m : Node) (first : IsNode h n) (second : IsNode h m) (forth : Within h (process_of h n) (process_of h m)) where
    -- an event of the one is one of the other
    pub partner : (b : Waiting × Tree) (e : Event) (p : Tree) → In b n.events → Leads h b e p → IsShaped h p → (c : Waiting × Tree) × (q : Tree) × In c m.events × Leads h c e q
    partner b e p i l shaped =
        let start = begins p shaped in
        let here = onward n first b e p i l shaped [] start.0 start.2 in
        let there = forth (e ∷ []) here.0 (fair_like h start.0 here.0 here.2 start.1) here.1 in
        let found = moved m second e [] there.0 there.1 in
        (found.0, found.1, found.3, found.4)

    -- what follows it in the one does as well what follows it in the other
    pub after_within : (b c : Waiting × Tree) (e : Event) (p q : Tree) → In b n.events → In c m.events → Leads h b e p → Leads h c e q → IsShaped h p → IsShaped h q → Within h p q
    after_within b c e p q i j l k shaped other t o fair d =
        let here = onward n first b e p i l shaped t o d in
        let there = forth (e ∷ t) here.0 (fair_like h o here.0 here.2 fair) here.1 in
        let found = moved m second e t there.0 there.1 in
        let branch : found.0 ≡ c = one_by_key (place h) _ m.events second.rising found.0 c found.3 j (leads_place h found.0 e found.1 found.4 ∙ sym (leads_place h c e q k)) in
        let follows : found.1 ≡ q = one_lead h c e found.1 q (subst (λ (x : Waiting × Tree). Leads h x e found.1) branch found.4) k in
        let last = anywhere h t q other (environment h.params) (environment h.params) (own_channels h) (own_channels h) found.2 zeros there.0
        (subst (λ (x : Tree). (meaning x).does (environment h.params) found.2 t there.0) follows found.5) in
        (last.0, last.1, like_through h o there.0 last.0 (like_through h o here.0 there.0 here.2 there.2) last.2)
