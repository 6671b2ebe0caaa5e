-- What is known of what a process of normal shape does: its events are of the interface, and it ends in states.
use Rattle.std.proofs.Common.{◌≡◌, ℕ, Bool, true, List, [], ◌∷◌, refl, sym, subst}
use Rattle.std.proofs.lemmas.Bool.{and_from}
use Rattle.std.specs.List.{list_all}
use Rattle.occ_target.specs.occ_base.declared.event.Event.{Event}
use Rattle.occ_target.specs.occ_base.declared.names.Name.{Name}
use Rattle.occ_target.specs.occ_syntax.Meaning.{Outcome, ended, refusing}
use Rattle.occ_target.specs.occ_syntax.Scopes.{Trace, Values, environment, in_interface}
use Rattle.occ_target.specs.occ_syntax.Tree.{Tree}
use Rattle.occ_target.specs.occ_syntax.Types.{scope_kept}
use Rattle.occ_target.specs.occ_behaviour.States.{is_state}
use Rattle.occ_target.proofs.from_nform_table.Lists.{in_all}
use Rattle.occ_target_laws.specs.Shapes.{Header, IsShaped, of_node}
use Rattle.occ_target_laws.proofs.Nodes.{Does, does_so, moves, stops, waits}
use Rattle.occ_target_laws.proofs.Anywhere.{anywhere}
use Rattle.occ_target_laws.proofs.Alike.{Acts, moved, own_channels, zeros}
use Rattle.occ_target_laws.proofs.Initial.{Holds, holds_along}
use Rattle.occ_target_laws.proofs.Unique.{lead_inside}
use Rattle.occ_target_laws.proofs.Acting.{left_holds, like_end, same_ended}

refused_ended : {A : Type 0} {s : Values} {X : Event → Bool} → ended s ≡ refusing X → A
refused_ended h = absurd (cc)

no_event : {A : Type 0} {e : Event} {a : Trace} → [] ≡ e ∷ a → A
no_event h = absurd (cc)

module _ (h : Header) where
  pub events_inside : (t : Trace) (p : Tree) → IsShaped h p → (o : Outcome) → Acts h p t o → list_all (in_interface (environment h.params)) t ≡ true
  events_inside [] p shaped o d = refl
  events_inside (e ∷ t) p (of_node z n is fine next) o d =
      let found = moved h n fine e t o (subst (λ (x : Tree). Acts h x (e ∷ t) o) is d) in
      let last = anywhere h t found.1 (next found.0 e found.1 found.3 found.4) (environment h.params) (environment h.params) (own_channels h) (own_channels h) found.2 zeros o found.5 in
      and_from (in_interface (environment h.params) e) (list_all (in_interface (environment h.params)) t) (lead_inside h found.0 e found.1 found.4)
      (events_inside t found.1 (next found.0 e found.1 found.3 found.4) last.0 last.1)

  -- it ends in the values of some state
  pub end_known : scope_kept h.params ≡ true → (t : Trace) (p : Tree) → IsShaped h p → (r : Values) → Acts h p t (ended r) → (u : List (Name × ℕ)) × (is_state h.params u ≡ true) × Holds h.params u r
  end_known kept [] p (of_node z n is fine next) r d = go (does_so h n fine (environment h.params) zeros [] (ended r) (subst (λ (x : Tree). Acts h x [] (ended r)) is d))
    where
      go : Does h n (environment h.params) zeros [] (ended r) → (u : List (Name × ℕ)) × (is_state h.params u ≡ true) × Holds h.params u r
      go (waits set X i e same quiet) = refused_ended same
      go (stops state i e same) =
          let form = in_all (λ x. is_state h.params x ≡ true) n.ends state fine.states i in
          (state, form, subst (Holds h.params state) (sym (same_ended same)) (left_holds h.params kept state form (environment h.params) zeros))
      go (moves b e a u i same after j) = no_event same
  end_known kept (e ∷ t) p (of_node z n is fine next) r d =
      let found = moved h n fine e t (ended r) (subst (λ (x : Tree). Acts h x (e ∷ t) (ended r)) is d) in
      let last = anywhere h t found.1 (next found.0 e found.1 found.3 found.4) (environment h.params) (environment h.params) (own_channels h) (own_channels h) found.2 zeros (ended r) found.5 in
      let end = like_end h r last.0 last.2 in
      let state = end_known kept t found.1 (next found.0 e found.1 found.3 found.4) end.0 (subst (λ x. Acts h found.1 t x) end.1 last.1) in
      (state.0, state.1, holds_along h.params state.0 end.0 r (λ x i. sym (end.2 x i)) state.2)
