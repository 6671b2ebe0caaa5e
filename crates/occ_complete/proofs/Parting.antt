-- Settled branches as events, acceptances and ends, with the events of each acceptance among those of the ALT itself.
use Rattle.std.proofs.Common.{◌≡◌, ℕ, true, List, [], ◌∷◌, ◌++◌, sym, subst, inl, inr}
use Rattle.std.proofs.lemmas.List.{append-nil}
use Rattle.std.specs.List.{AllByRecursion}
use Rattle.occ_engine.specs.occ_base.declared.names.Name.{Name}
use Rattle.occ_complete_states.specs.occ_behaviour.States.{is_state}
use Rattle.occ_complete_states.specs.occ_derive_moves.Unified.{ending_cleared}
use Rattle.occ_complete_states.specs.Configured.{IsEventBranch, IsSettledBranch, acceptance, end, event}
use Rattle.occ_complete_states.specs.Headers.{IsHeader}
use Rattle.occ_complete_states.specs.States.{scope_of}
use Rattle.occ_complete.proofs.Blocks.{guards_wait}
use Rattle.occ_complete.proofs.Sets.{Same, Within, both_within, flat, flat_in, in_flat, same_both, same_itself, same_on, same_turned}
use Rattle.occ_complete.proofs.Turning.{Turns, acceptance_offers, are_all_events, each_turns, events_slide, same_turns, turns_on}
use Rattle.occ_engine.specs.occ_law.Choice.{are_events}
use Rattle.occ_complete_states.proofs.from_nform_table.Lists.{in_all}
use Rattle.occ_complete_states.specs.occ_nform_table.Lists.{In}
use Rattle.occ_engine.specs.occ_syntax.Tree.{Tree, Waiting, ready}
use Rattle.occ_complete_states.specs.occ_target.Rows.{guarded}
use Rattle.occ_complete_states.proofs.from_target_laws.Lists.{in_either, in_left, in_right}
use Rattle.occ_complete_states.specs.occ_target_laws.Shapes.{Header, accepting}

abbrev pub one_acceptance : List (Waiting × Tree) → List (Waiting × Tree)
one_acceptance A = accepting A ∷ []

abbrev pub one_end : Header → List (Name × ℕ) → List (Waiting × Tree)
one_end h s = (ready, ending_cleared h s) ∷ []

abbrev itself : List (Waiting × Tree) → List (Waiting × Tree)
itself A = A

abbrev offering : List (Waiting × Tree) → List (Waiting × Tree)
offering A = A ++ accepting A ∷ []

module _ (h : Header) (limit : ℕ) where
  abbrev pub AreEvents : List (Waiting × Tree) → Type 0
  AreEvents A = (b : Waiting × Tree) → In b A → IsEventBranch h limit b

  abbrev pub AreStates : List (List (Name × ℕ)) → Type 0
  AreStates ends = (s : List (Name × ℕ)) → In s ends → is_state h.params s ≡ true

  record Parts (bs : List (Waiting × Tree)) : Type 0 where
    events : List (Waiting × Tree)
    accepts : List (List (Waiting × Tree))
    ends : List (List (Name × ℕ))
    good : AreEvents events
    sets : (A : List (Waiting × Tree)) → In A accepts → AreEvents A
    states : AreStates ends
    same : Same bs (events ++ (flat one_acceptance accepts ++ flat (one_end h) ends))

  one_part : (b : Waiting × Tree) (bs : List (Waiting × Tree)) → IsSettledBranch h limit b → Parts bs → Parts (b ∷ bs)
  one_part b bs (event c e) r = record {
    events = c ∷ r.events;
    accepts = r.accepts;
    ends = r.ends;
    good = λ d i. elim i [ inl f ↦ subst (IsEventBranch h limit) (sym f) e | inr j ↦ r.good d j ];
    sets = r.sets;
    states = r.states;
    same = same_both (c ∷ []) (c ∷ []) bs (r.events ++ (flat one_acceptance r.accepts ++ flat (one_end h) r.ends)) (same_itself (c ∷ [])) r.same;
  }
  one_part b bs (acceptance A all) r =
      let rest = flat one_acceptance r.accepts ++ flat (one_end h) r.ends in
      record {
        events = r.events;
        accepts = A ∷ r.accepts;
        ends = r.ends;
        good = r.good;
        sets = λ B i. elim i [ inl f ↦ subst AreEvents (sym f) (λ d j. in_all (IsEventBranch h limit) A d all j) | inr j ↦ r.sets B j ];
        states = r.states;
        same = same_on (same_both (accepting A ∷ []) (accepting A ∷ []) bs (r.events ++ rest) (same_itself (accepting A ∷ [])) r.same) (same_turned (accepting A ∷ []) r.events rest);
      }
  one_part b bs (end p i) r =
      let sets = flat one_acceptance r.accepts in
      let rest = flat (one_end h) r.ends in
      let own : List (Waiting × Tree) = one_end h i.state in
      record {
        events = r.events;
        accepts = r.accepts;
        ends = i.state ∷ r.ends;
        good = r.good;
        sets = r.sets;
        states = λ s j. elim j [ inl f ↦ subst (λ z. is_state h.params z ≡ true) (sym f) i.is | inr k ↦ r.states s k ];
        same = subst (λ q. Same ((ready, q) ∷ bs) (r.events ++ (sets ++ (own ++ rest)))) (sym i.form)
            (same_on (same_both own own bs (r.events ++ (sets ++ rest)) (same_itself own) r.same)
            (same_on (same_turned own r.events (sets ++ rest))
            (same_both r.events r.events (own ++ (sets ++ rest)) (sets ++ (own ++ rest)) (same_itself r.events) (same_turned own sets rest))));
      }

  parts_of : (bs : List (Waiting × Tree)) → AllByRecursion (IsSettledBranch h limit) bs → Parts bs
  parts_of [] all = record {
    events = [];
    accepts = [];
    ends = [];
    good = λ b i. absurd i;
    sets = λ A i. absurd i;
    states = λ s i. absurd i;
    same = same_itself [];
  }
  parts_of (b ∷ bs) all = one_part b bs all.0 (parts_of bs all.1)

  -- ---- some acceptance or end is there, and the events of acceptances are the ALT's own

  pub record Stage (bs : List (Waiting × Tree)) : Type 0 where
    pub events : List (Waiting × Tree)
    pub accepts : List (List (Waiting × Tree))
    pub ends : List (List (Name × ℕ))
    pub good : AreEvents events
    pub inside : (A : List (Waiting × Tree)) → In A accepts → Within A events
    pub states : AreStates ends
    pub full : accepts ≡ [] → ends ≡ [] → ⊥
    pub turns : Turns (scope_of h) bs (events ++ (flat one_acceptance accepts ++ flat (one_end h) ends))

  wait : (A : List (Waiting × Tree)) → AreEvents A → are_events (guarded A) ≡ true
  wait A g = are_all_events A (λ b i. guards_wait h b.0 (g b i).guard)

  module _ (is : IsHeader h) where
    module _ (ev : List (Waiting × Tree)) (many : List (List (Waiting × Tree))) (D : List (Waiting × Tree)) where
      abbrev F : List (Waiting × Tree)
      F = flat one_acceptance many

      abbrev G : List (Waiting × Tree)
      G = flat offering many

      abbrev E : List (Waiting × Tree)
      E = ev ++ flat itself many

      from_offering : Within G (E ++ (F ++ D))
      from_offering b i =
          let r = flat_in offering many b i in
          elim (in_either r.0 (accepting r.0 ∷ []) b r.2) [
            | inl k ↦ in_left E (F ++ D) b (in_right ev (flat itself many) b (in_flat itself many r.0 b r.1 k))
            | inr k ↦ in_right E (F ++ D) b (in_left F D b (in_flat one_acceptance many r.0 b r.1 k))
          ]

      from_own : Within (flat itself many) (G ++ (ev ++ D))
      from_own b i = let r = flat_in itself many b i in in_left G (ev ++ D) b (in_flat offering many r.0 b r.1 (in_left r.0 (accepting r.0 ∷ []) b r.2))

      from_sets : Within F (G ++ (ev ++ D))
      from_sets b i = let r = flat_in one_acceptance many b i in in_left G (ev ++ D) b (in_flat offering many r.0 b r.1 (in_right r.0 (accepting r.0 ∷ []) b r.2))

      all_same : Same (G ++ (ev ++ D)) (E ++ (F ++ D))
      all_same = record {
        there = both_within G (ev ++ D) (E ++ (F ++ D)) from_offering (both_within ev D (E ++ (F ++ D))
            (λ b i. in_left E (F ++ D) b (in_left ev (flat itself many) b i)) (λ b i. in_right E (F ++ D) b (in_right F D b i)));
        back = both_within E (F ++ D) (G ++ (ev ++ D)) (both_within ev (flat itself many) (G ++ (ev ++ D)) (λ b i. in_right G (ev ++ D) b (in_left ev D b i)) from_own)
            (both_within F D (G ++ (ev ++ D)) from_sets (λ b i. in_right G (ev ++ D) b (in_right ev D b i)));
      }

      offered : ((A : List (Waiting × Tree)) → In A many → AreEvents A) → Turns (scope_of h) (ev ++ (F ++ D)) (E ++ (F ++ D))
      offered sets =
          turns_on (scope_of h) is.kept (same_turns (scope_of h) is.kept (same_turned ev F D))
          (turns_on (scope_of h) is.kept (each_turns (scope_of h) is.kept [] one_acceptance offering many (ev ++ D) (λ A i R. acceptance_offers (scope_of h) is.kept A R (wait A (sets A i))))
          (same_turns (scope_of h) is.kept all_same))

    own_events : (ev : List (Waiting × Tree)) (many : List (List (Waiting × Tree))) → AreEvents ev → ((A : List (Waiting × Tree)) → In A many → AreEvents A) → AreEvents (ev ++ flat itself many)
    own_events ev many g sets b i = elim (in_either ev (flat itself many) b i) [ inl k ↦ g b k | inr k ↦ (let r = flat_in itself many b k in sets r.0 r.1 b r.2) ]

    staged : (bs ev : List (Waiting × Tree)) (many : List (List (Waiting × Tree))) (ends : List (List (Name × ℕ))) → AreEvents ev
        → ((A : List (Waiting × Tree)) → In A many → AreEvents A) → AreStates ends → (many ≡ [] → ends ≡ [] → ⊥)
        → Turns (scope_of h) bs (ev ++ (flat one_acceptance many ++ flat (one_end h) ends)) → Stage bs
    staged bs ev many ends g sets states full t = record {
      events = ev ++ flat itself many;
      accepts = many;
      ends = ends;
      good = own_events ev many g sets;
      inside = λ A i b j. in_right ev (flat itself many) b (in_flat itself many A b i j);
      states = states;
      full = full;
      turns = turns_on (scope_of h) is.kept t (offered ev many (flat (one_end h) ends) sets);
    }

    filled : (bs ev : List (Waiting × Tree)) (many : List (List (Waiting × Tree))) (ends : List (List (Name × ℕ))) → AreEvents ev
        → ((A : List (Waiting × Tree)) → In A many → AreEvents A) → AreStates ends
        → Turns (scope_of h) bs (ev ++ (flat one_acceptance many ++ flat (one_end h) ends)) → Stage bs
    filled bs ev [] [] g sets states t =
        staged bs ev (ev ∷ []) [] g (λ A i. elim i [ inl e ↦ subst AreEvents (sym e) g | inr j ↦ absurd j ]) states (λ e f. cc)
        (turns_on (scope_of h) is.kept (subst (λ l. Turns (scope_of h) bs l) (append-nil ev) t) (events_slide (scope_of h) is.kept ev (wait ev g)))
    filled bs ev (A ∷ many) ends g sets states t = staged bs ev (A ∷ many) ends g sets states (λ e f. cc) t
    filled bs ev [] (s ∷ ends) g sets states t = staged bs ev [] (s ∷ ends) g sets states (λ e f. cc) t

    pub stage_of : (bs : List (Waiting × Tree)) → AllByRecursion (IsSettledBranch h limit) bs → Stage bs
    stage_of bs all = let r = parts_of bs all in filled bs r.events r.accepts r.ends r.good r.sets r.states (same_turns (scope_of h) is.kept r.same)
