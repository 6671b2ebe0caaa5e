-- The events of a channel's end that no step has, one value after another.
use Rattle.std.proofs.Common.{◌≡◌, ◌+◌, ◌++◌, ◌∷◌, [], ℕ, Bool, List, true, false, not, if◌then◌else◌, sym, ap, ◌∙◌, append_assoc, zero-add}
use Rattle.std.proofs.lemmas.List.{append-nil}
use Rattle.std.proofs.lemmas.List.FromFn.{filter_of_map_range_with_len_more}
use Rattle.std.specs.List.{filter}
use Rattle.occ_syntax.specs.occ_base.declared.event.Dir.{Dir}
use Rattle.occ_syntax.specs.occ_base.declared.event.Event.{Event}
use Rattle.occ_syntax.specs.occ_base.declared.names.Name.{Name}
use Rattle.occ_run.specs.Stands.{events_below}

-- those of a list that aren't heard
abbrev quiet : (Event → Bool) → List Event → List Event
quiet heard es = filter (λ e. not (heard e)) es

module _ (heard : Event → Bool) (end : Name × Dir) (n : ℕ) (old now : List Event) where
  event : Event
  event = record { chan = end.0; dir = end.1; value = n }

  more : quiet heard (events_below end (n + 1)) ≡ quiet heard (events_below end n) ++ (if not (heard event) then event ∷ [] else [])
  unfolding event
  more = filter_of_map_range_with_len_more (λ (e : Event). not (heard e)) (λ v. record { chan = end.0; dir = end.1; value = v }) 0 n n (zero-add n)

  -- an event that no step has is refused too
  pub kept_further : (new : List Event) → now ≡ old ++ quiet heard (events_below end n) → new ≡ now ++ (record { chan = end.0; dir = end.1; value = n }) ∷ []
      → heard (record { chan = end.0; dir = end.1; value = n }) ≡ false → new ≡ old ++ quiet heard (events_below end (n + 1))
  unfolding event
  kept_further new h e f =
      e ∙ ap (λ xs. xs ++ event ∷ []) h ∙ append_assoc old (quiet heard (events_below end n)) (event ∷ [])
      ∙ ap (λ xs. old ++ xs) (sym (more ∙ ap (λ (b : Bool). quiet heard (events_below end n) ++ (if not b then event ∷ [] else [])) f))

  -- one that a step has isn't
  pub left_further : now ≡ old ++ quiet heard (events_below end n) → heard (record { chan = end.0; dir = end.1; value = n }) ≡ true
      → now ≡ old ++ quiet heard (events_below end (n + 1))
  unfolding event
  left_further h f =
      h ∙ ap (λ xs. old ++ xs) (sym (more ∙ ap (λ (b : Bool). quiet heard (events_below end n) ++ (if not b then event ∷ [] else [])) f ∙ append-nil (quiet heard (events_below end n))))
