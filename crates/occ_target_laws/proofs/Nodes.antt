-- What a process of normal shape does: it waits in an acceptance, is over in a final state, or goes on by an event.
use Rattle.std.proofs.Common.{◌≡◌, ℕ, List, [], ◌∷◌, ◌++◌, map, refl, subst, inl, inr, ◌⊎◌}
use Rattle.occ_target.specs.occ_base.declared.event.Event.{Event}
use Rattle.occ_target.specs.occ_base.declared.names.Name.{Name}
use Rattle.occ_target.specs.occ_syntax.declared.scope.Kind.{Kind}
use Rattle.occ_target.specs.occ_syntax.Meaning.{After, IsQuiet, Outcome, assigned, at_event, at_ready, ended, meaning, refusing}
use Rattle.occ_target.specs.occ_syntax.Scopes.{Environment, EventSet, Trace, Values}
use Rattle.occ_target.specs.occ_syntax.Tree.{Exp, Tree, Waiting, alt}
use Rattle.occ_target.specs.occ_nform_table.Lists.{In}
use Rattle.occ_target.specs.Rows.{guarded}
use Rattle.occ_target.specs.States.{assigning, constants, ending, variables}
use Rattle.occ_target_laws.specs.Shapes.{Header, IsNode, Node, accepting, ending_in, process_of}
use Rattle.occ_target_laws.proofs.Lists.{in_either, in_left, in_map, in_right, map_in, none_in}
use Rattle.occ_target_laws.proofs.Branches.{Takes, alt_goes, alt_takes, alt_waits, event_takes, ready_takes}
use Rattle.occ_target_laws.proofs.Following.{unready}

-- the values that the end in a state leaves
abbrev pub left_in : List (Name × Kind) → List (Name × ℕ) → Environment → Values → Values
left_in params state = assigned (variables params) (constants params state)

abbrev pub left_by : Header → List (Name × ℕ) → Environment → Values → Values
left_by h state = left_in h.params state

pub data Does (h : Header) (n : Node) (Γ : Environment) (s : Values) (t : Trace) (o : Outcome) : Type 0 where
  waits : (set : List (Waiting × Tree)) (X : EventSet) → In set n.accepts → t ≡ [] → o ≡ refusing X → ((b : Waiting × Tree) → In b set → IsQuiet Γ s b.0 X) → Does h n Γ s t o
  stops : (state : List (Name × ℕ)) → In state n.ends → t ≡ [] → o ≡ ended (left_by h state Γ s) → Does h n Γ s t o
  moves : (b : Waiting × Tree) (e : Event) (a : Trace) (u : Values) → In b n.events → t ≡ e ∷ a → After Γ s b.0 e u → (meaning b.1).does Γ u a o → Does h n Γ s t o

over : (xs : List ℕ) (es : List Exp) (Γ : Environment) (s : Values) (t : Trace) (o : Outcome) → (meaning (assigning xs es)).does Γ s t o
    → (t ≡ []) × (o ≡ ended (assigned xs es Γ s))
over [] es Γ s t o d = d
over (x ∷ xs) es Γ s t o d = d

is_over : (xs : List ℕ) (es : List Exp) (Γ : Environment) (s : Values) → (meaning (assigning xs es)).does Γ s [] (ended (assigned xs es Γ s))
is_over [] es Γ s = (refl, refl)
is_over (x ∷ xs) es Γ s = (refl, refl)

module _ (h : Header) (n : Node) (fine : IsNode h n) (Γ : Environment) (s : Values) where
  abbrev sets : List (Waiting × Tree)
  sets = map accepting n.accepts

  abbrev finals : List (Waiting × Tree)
  finals = map (ending_in h) n.ends

  from_event : (b : Waiting × Tree) (t : Trace) (o : Outcome) → In b n.events → Takes Γ s b t o → Does h n Γ s t o
  from_event b t o i k =
      let form = fine.events b i in
      let g = event_takes Γ s b t o k (unready h b form.0 form.1 form.2) in
      moves b g.0 g.1 g.2 i g.3 g.4 g.5

  from_set : (set : List (Waiting × Tree)) (t : Trace) (o : Outcome) → In set n.accepts → (meaning (alt (guarded set))).does Γ s t o → Does h n Γ s t o
  from_set set t o i d = elim (alt_takes Γ s set t o d) [ inl k ↦ waits set k.0 i k.1 k.2 k.3 | inr k ↦ from_event k.0 t o (fine.within set i k.0 k.1) k.2 ]

  from_state : (state : List (Name × ℕ)) (t : Trace) (o : Outcome) → In state n.ends → (meaning (ending h.params state)).does Γ s t o → Does h n Γ s t o
  from_state state t o i d = let k = over (variables h.params) (constants h.params state) Γ s t o d in stops state i k.0 k.1

  from_ready : (b : Waiting × Tree) (t : Trace) (o : Outcome) → In b sets ⊎ In b finals → Takes Γ s b t o → Does h n Γ s t o
  from_ready b t o (inl i) k =
      let m = map_in accepting n.accepts b i in
      from_set m.0 t o m.1 (ready_takes Γ s (alt (guarded m.0)) t o (subst (λ (x : Waiting × Tree). Takes Γ s x t o) m.2 k))
  from_ready b t o (inr i) k =
      let m = map_in (ending_in h) n.ends b i in
      from_state m.0 t o m.1 (ready_takes Γ s (ending h.params m.0) t o (subst (λ (x : Waiting × Tree). Takes Γ s x t o) m.2 k))

  from_branch : (b : Waiting × Tree) (t : Trace) (o : Outcome) → In b (n.events ++ sets ++ finals) → Takes Γ s b t o → Does h n Γ s t o
  from_branch b t o i k = elim (in_either (n.events ++ sets) finals b i) [
    | inl j ↦ elim (in_either n.events sets b j) [ inl l ↦ from_event b t o l k | inr l ↦ from_ready b t o (inl l) k ]
    | inr j ↦ from_ready b t o (inr j) k
  ]

  set_in : (set : List (Waiting × Tree)) → In set n.accepts → In (accepting set) (n.events ++ sets ++ finals)
  set_in set i = in_left (n.events ++ sets) finals (accepting set) (in_right n.events sets (accepting set) (in_map accepting n.accepts set i))

  final_in : (state : List (Name × ℕ)) → In state n.ends → In (ending_in h state) (n.events ++ sets ++ finals)
  final_in state i = in_right (n.events ++ sets) finals (ending_in h state) (in_map (ending_in h) n.ends state i)

  -- some branch is ready
  never_stable : (X : EventSet) → ((b : Waiting × Tree) → In b (n.events ++ sets ++ finals) → IsQuiet Γ s b.0 X) → ⊥
  never_stable X quiet = fine.full
      (none_in n.accepts (λ set i. (quiet (accepting set) (set_in set i)).not_ready refl))
      (none_in n.ends (λ state i. (quiet (ending_in h state) (final_in state i)).not_ready refl))

  pub does_so : (t : Trace) (o : Outcome) → (meaning (process_of h n)).does Γ s t o → Does h n Γ s t o
  does_so t o d = elim (alt_takes Γ s (n.events ++ sets ++ finals) t o d) [ inl k ↦ absurd (never_stable k.0 k.3) | inr k ↦ from_branch k.0 t o k.1 k.2 ]

  pub waits_so : (set : List (Waiting × Tree)) (X : EventSet) → In set n.accepts → ((b : Waiting × Tree) → In b set → IsQuiet Γ s b.0 X)
      → (meaning (process_of h n)).does Γ s [] (refusing X)
  waits_so set X i quiet = alt_goes Γ s (n.events ++ sets ++ finals) [] (refusing X) (accepting set) (set_in set i) (s, [], at_ready, alt_waits Γ s set X quiet)

  pub stops_so : (state : List (Name × ℕ)) → In state n.ends → (meaning (process_of h n)).does Γ s [] (ended (left_by h state Γ s))
  stops_so state i = alt_goes Γ s (n.events ++ sets ++ finals) [] (ended (left_by h state Γ s)) (ending_in h state) (final_in state i)
      (s, [], at_ready, is_over (variables h.params) (constants h.params state) Γ s)

  pub moves_so : (b : Waiting × Tree) (e : Event) (a : Trace) (u : Values) (o : Outcome) → In b n.events → After Γ s b.0 e u → (meaning b.1).does Γ u a o
      → (meaning (process_of h n)).does Γ s (e ∷ a) o
  moves_so b e a u o i after d = alt_goes Γ s (n.events ++ sets ++ finals) (e ∷ a) o b (in_left (n.events ++ sets) finals b (in_left n.events sets b i)) (u, a, at_event after, d)
