-- The node of an ALT, from that which waits for its events and that of its ready guards.
use Rattle.std.proofs.Common.{◌≡◌, ◌<◌, ◌^◌, ℕ, Bool, true, false, ◌||◌, List, [], ◌∷◌, Option, Some, None, is_some, refl, sym, ap, ◌∙◌, inl, inr, ⊎_elim}
use Rattle.std.specs.Prelude.{◌↔◌, ◌⊎◌, bit_xor}
use Rattle.std.proofs.lemmas.Bool.{false≢true, or_cases, or_left, or_right}
use Rattle.std.proofs.lemmas.Option.{same_Some}
use Rattle.occ_syntax.specs.occ_base.declared.event.Event.{Event}
use Rattle.occ_syntax.specs.occ_base.declared.names.Name.{Name}
use Rattle.occ_syntax.specs.occ_base.declared.width.Width.{Width}
use Rattle.occ_syntax.specs.Meaning.{guards, refusing, stable}
use Rattle.occ_syntax.specs.Scopes.{Environment}
use Rattle.occ_syntax.specs.Tree.{Branches, alt, ready}
use Rattle.occ_norm_frame.specs.occ_bits.Layout.{state_of}
use Rattle.occ_norm_frame.specs.occ_choice.Joined.{maybe_fails, maybe_ends}
use Rattle.occ_norm_frame.specs.occ_mdd.declared.map.MapId.{MapId}
use Rattle.occ_norm_frame.specs.occ_node.World.{fails, ends}
use Rattle.occ_norm_frame.specs.occ_node.declared.node.NodeId.{NodeId}
use Rattle.occ_norm_frame.specs.occ_node.declared.world.World.{World}
use Rattle.occ_norm_frame.proofs.from_node.Behaviours.{fails_cons, ends_cons}
use Rattle.occ_norm_frame.specs.occ_weave.Weave.{off_channels}
use Rattle.occ_norm_frame.specs.Lifted.{Finished}
use Rattle.occ_norm_frame.specs.After.{QuietlyFails, Resumes, change_of}
use Rattle.occ_norm_alt.specs.Alternation.{EachEnabled, EndsThen, FailsThen, IsReadyAt, IsWaitingAt, Settles, SomeEnabled}
use Rattle.occ_norm_alt.specs.Offering.{Leads}
use Rattle.occ_norm_alt.proofs.Offering.{or_nothing}
use Rattle.occ_norm_alt.proofs.Branching.{alternates_out, came_quiet, came_resume, never_ready, quiet_event, quiet_ready, refuses_from, refuses_out, resume_event, resume_ready, some_elim, some_map}

nil_not_cons : (e : Event) (t : List Event) → [] ≡ e ∷ t → ⊥
nil_not_cons e t h = cc

-- ---- the one beside the other
module _ (w : World) (a b : NodeId) where
  beside_fails : (o : Option NodeId) → Finished w (Some a) o (Some b) → (e : Event) (t : List Event) (X : Event → Bool) → fails w b (e ∷ t) X ≡ (fails w a (e ∷ t) X || maybe_fails w o (e ∷ t) X)
  beside_fails None is e t X = ap (λ n. fails w n (e ∷ t) X) (same_Some b a is) ∙ sym (or_nothing w (fails w a (e ∷ t) X))
  beside_fails (Some q) is e t X = is.beside.both_fail (e ∷ t) X ∙ ap (λ c. c || fails w q (e ∷ t) X) (sym (fails_cons w a e t X))

  beside_ends : (o : Option NodeId) → Finished w (Some a) o (Some b) → (e : Event) (t : List Event) (z : ℕ) → ends w b (e ∷ t) z ≡ (ends w a (e ∷ t) z || maybe_ends w o (e ∷ t) z)
  beside_ends None is e t z = ap (λ n. ends w n (e ∷ t) z) (same_Some b a is) ∙ sym (or_nothing w (ends w a (e ∷ t) z))
  beside_ends (Some q) is e t z = is.beside.both_end (e ∷ t) z ∙ ap (λ c. c || ends w q (e ∷ t) z) (sym (ends_cons w a e t z))

  fails_now : (o : Option NodeId) → Finished w (Some a) o (Some b) → (X : Event → Bool) → (fails w b [] X ≡ true) ↔ (((is_some o ≡ true → ⊥) × (fails w a [] X ≡ true)) ⊎ (maybe_fails w o [] X ≡ true))
  fails_now None is X =
      let e : fails w b [] X ≡ fails w a [] X = ap (λ n. fails w n [] X) (same_Some b a is) in
      (λ h. inl (λ k. false≢true k, sym e ∙ h), ⊎_elim (λ k. e ∙ k.1) (λ k. absurd (false≢true k)))
  fails_now (Some q) is X =
      let e : fails w b [] X ≡ fails w q [] X = is.beside.both_fail [] X in
      (λ h. inr (sym e ∙ h), ⊎_elim (λ k. absurd (k.0 refl)) (λ k. e ∙ k))

  ends_now : (o : Option NodeId) → Finished w (Some a) o (Some b) → (z : ℕ) → ends w a [] z ≡ false → ends w b [] z ≡ maybe_ends w o [] z
  ends_now None is z h = ap (λ n. ends w n [] z) (same_Some b a is) ∙ h
  ends_now (Some q) is z h = is.beside.both_end [] z

-- ---- the ALT
module _ (w : World) (layout : List (Name × Width × ℕ)) (keep : ℕ) (closed : List Name) (Γ : Environment) (bs : Branches) (rest : MapId) (x : ℕ) where
  ready_fails_too : (t : List Event) (X : Event → Bool) → SomeEnabled Γ (state_of layout x) (λ wait p. (wait ≡ ready) × FailsThen w layout closed Γ rest p x t X) bs → FailsThen w layout closed Γ rest (alt bs) x t X
  ready_fails_too t X h = some_elim Γ (state_of layout x) (λ wait p. (wait ≡ ready) × FailsThen w layout closed Γ rest p x t X) (FailsThen w layout closed Γ rest (alt bs) x t X) bs h
      (λ wait p k inject. ⊎_elim
      (λ (q : QuietlyFails layout closed Γ p x t X). inl (quiet_ready layout closed Γ x bs t X (inject (λ wait p. (wait ≡ ready) × QuietlyFails layout closed Γ p x t X) (k.0, q))))
      (λ (r : Resumes w layout closed Γ p rest x (λ y m u. fails w m u X) t). inr (resume_ready layout closed Γ x bs w rest (λ y m u. fails w m u X) t (inject (λ wait p. (wait ≡ ready) × Resumes w layout closed Γ p rest x (λ y m u. fails w m u X) t) (k.0, r))))
      k.1)

  event_fails_too : (e : Event) (t : List Event) (X : Event → Bool) → SomeEnabled Γ (state_of layout x) (λ wait p. Leads layout closed Γ wait x e (λ y. FailsThen w layout closed Γ rest p y t X)) bs → FailsThen w layout closed Γ rest (alt bs) x (e ∷ t) X
  event_fails_too e t X h = some_elim Γ (state_of layout x) (λ wait p. Leads layout closed Γ wait x e (λ y. FailsThen w layout closed Γ rest p y t X)) (FailsThen w layout closed Γ rest (alt bs) x (e ∷ t) X) bs h
      (λ wait p k inject. ⊎_elim
      (λ (q : QuietlyFails layout closed Γ p k.y t X). inl (quiet_event layout closed Γ x bs e t X (inject (λ wait p. Leads layout closed Γ wait x e (λ y. QuietlyFails layout closed Γ p y t X))
      (record { seen = k.seen; y = k.y; below = k.below; after = k.after; behaved = q }))))
      (λ (r : Resumes w layout closed Γ p rest k.y (λ y m u. fails w m u X) t). inr (resume_event layout closed Γ x bs w rest (λ y m u. fails w m u X) e t (inject (λ wait p. Leads layout closed Γ wait x e (λ y. Resumes w layout closed Γ p rest y (λ y m u. fails w m u X) t))
      (record { seen = k.seen; y = k.y; below = k.below; after = k.after; behaved = r }))))
      k.behaved)

  module _ (each : EachEnabled Γ (state_of layout x) (λ wait p. Settles layout Γ x wait) bs) (a : NodeId) (o : Option NodeId) (b : NodeId) (waiting : IsWaitingAt w layout keep closed Γ bs rest x a)
      (readies : IsReadyAt w layout keep closed Γ bs rest x o) (is : Finished w (Some a) o (Some b)) where
    -- a failure of a branch is one of the node
    failed_ready : (t : List Event) (X : Event → Bool) → SomeEnabled Γ (state_of layout x) (λ wait p. (wait ≡ ready) × FailsThen w layout closed Γ rest p x t X) bs → fails w b t X ≡ true
    failed_ready [] X h = (fails_now w a b o is X).1 (inr ((readies.ready_fails [] X).1 h))
    failed_ready (e ∷ t) X h = beside_fails w a b o is e t X ∙ or_right (fails w a (e ∷ t) X) (maybe_fails w o (e ∷ t) X) ((readies.ready_fails (e ∷ t) X).1 h)

    failed_event : (e : Event) (t : List Event) (X : Event → Bool) → SomeEnabled Γ (state_of layout x) (λ wait p. Leads layout closed Γ wait x e (λ y. FailsThen w layout closed Γ rest p y t X)) bs → fails w b (e ∷ t) X ≡ true
    failed_event e t X h = beside_fails w a b o is e t X ∙ or_left (fails w a (e ∷ t) X) (maybe_fails w o (e ∷ t) X) ((waiting.fail_on e t X).1 h)

    failed : (t : List Event) (X : Event → Bool) → ((SomeEnabled Γ (state_of layout x) (λ wait p. (wait ≡ ready) × FailsThen w layout closed Γ rest p x t X) bs)
        ⊎ ((e : Event) × (u : List Event) × (t ≡ e ∷ u) × SomeEnabled Γ (state_of layout x) (λ wait p. Leads layout closed Γ wait x e (λ y. FailsThen w layout closed Γ rest p y u X)) bs)) → fails w b t X ≡ true
    failed t X h = elim h [ inl k ↦ failed_ready t X k | inr k ↦ ap (λ u. fails w b u X) k.2 ∙ failed_event k.0 k.1 X k.3 ]

    to_fails : (t : List Event) (X : Event → Bool) → FailsThen w layout closed Γ rest (alt bs) x t X → fails w b t X ≡ true
    to_fails t X h = ⊎_elim
        (λ (q : QuietlyFails layout closed Γ (alt bs) x t X). ⊎_elim
        (λ (r : (t ≡ []) × (guards bs).refuses Γ (state_of layout x) (off_channels closed X)).
        ap (λ u. fails w b u X) r.0 ∙ (fails_now w a b o is X).1 (inl (λ k. never_ready layout closed Γ x X bs r.1 (readies.there.0 k), (waiting.refuses X).1 (refuses_out layout closed Γ x X bs r.1))))
        (λ (g : (guards bs).goes Γ (state_of layout x) t (refusing (off_channels closed X))). failed t X (⊎_elim
        (λ k. inl (some_map Γ (state_of layout x) (λ wait p. (wait ≡ ready) × QuietlyFails layout closed Γ p x t X) (λ wait p. (wait ≡ ready) × FailsThen w layout closed Γ rest p x t X) (λ wait p l. (l.0, inl l.1)) bs k))
        (λ k. inr (
          k.0,
          k.1,
          k.2,
          some_map Γ (state_of layout x) (λ wait p. Leads layout closed Γ wait x k.0 (λ y. QuietlyFails layout closed Γ p y k.1 X)) (λ wait p. Leads layout closed Γ wait x k.0 (λ y. FailsThen w layout closed Γ rest p y k.1 X))
              (λ wait p l. record { seen = l.seen; y = l.y; below = l.below; after = l.after; behaved = inl l.behaved }) bs k.3,
        ))
        (came_quiet layout closed Γ x bs each t X q.0 g)))
        (alternates_out (guards bs) Γ (state_of layout x) t (off_channels closed X) q.1))
        (λ (r : Resumes w layout closed Γ (alt bs) rest x (λ y m u. fails w m u X) t). failed t X (⊎_elim
        (λ k. inl (some_map Γ (state_of layout x) (λ wait p. (wait ≡ ready) × Resumes w layout closed Γ p rest x (λ y m u. fails w m u X) t) (λ wait p. (wait ≡ ready) × FailsThen w layout closed Γ rest p x t X) (λ wait p l. (l.0, inr l.1)) bs k))
        (λ k. inr (
          k.0,
          k.1,
          k.2,
          some_map Γ (state_of layout x) (λ wait p. Leads layout closed Γ wait x k.0 (λ y. Resumes w layout closed Γ p rest y (λ y m u. fails w m u X) k.1)) (λ wait p. Leads layout closed Γ wait x k.0 (λ y. FailsThen w layout closed Γ rest p y k.1 X))
              (λ wait p l. record { seen = l.seen; y = l.y; below = l.below; after = l.after; behaved = inr l.behaved }) bs k.3,
        ))
        (came_resume layout closed Γ x bs each w rest (λ y m u. fails w m u X) t r)))
        h

    from_fails : (t : List Event) (X : Event → Bool) → fails w b t X ≡ true → FailsThen w layout closed Γ rest (alt bs) x t X
    from_fails [] X h = ⊎_elim
        (λ (k : (is_some o ≡ true → ⊥) × (fails w a [] X ≡ true)). inl (refl, stable (refuses_from layout closed Γ x X bs (λ r. k.0 (readies.there.1 r)) ((waiting.refuses X).0 k.1))))
        (λ (k : maybe_fails w o [] X ≡ true). ready_fails_too [] X ((readies.ready_fails [] X).0 k))
        ((fails_now w a b o is X).0 h)
    from_fails (e ∷ t) X h = ⊎_elim
        (λ (k : fails w a (e ∷ t) X ≡ true). event_fails_too e t X ((waiting.fail_on e t X).0 k))
        (λ (k : maybe_fails w o (e ∷ t) X ≡ true). ready_fails_too (e ∷ t) X ((readies.ready_fails (e ∷ t) X).0 k))
        (or_cases (fails w a (e ∷ t) X) (maybe_fails w o (e ∷ t) X) (sym (beside_fails w a b o is e t X) ∙ h))

    pub alternated_fails : (t : List Event) (X : Event → Bool) → (fails w b t X ≡ true) ↔ FailsThen w layout closed Γ rest (alt bs) x t X
    alternated_fails t X = (from_fails t X, to_fails t X)

    -- ---- ends
    ended_so : (t : List Event) (z : ℕ) → z < 2 ^ 64 → SomeEnabled Γ (state_of layout x) (λ wait p. (wait ≡ ready) × EndsThen w layout keep closed Γ rest x p x t z) bs
        ⊎ ((e : Event) × (u : List Event) × (t ≡ e ∷ u) × SomeEnabled Γ (state_of layout x) (λ wait p. Leads layout closed Γ wait x e (λ y. EndsThen w layout keep closed Γ rest x p y u z)) bs) → ends w b t z ≡ true
    ended_so [] z small h = elim h [
      | inl k ↦ ends_now w a b o is z (waiting.not_ended z small) ∙ (readies.ready_ends [] z small).1 k
      | inr k ↦ absurd (nil_not_cons k.0 k.1 k.2)
    ]
    ended_so (e ∷ t) z small h = elim h [
      | inl k ↦ beside_ends w a b o is e t z ∙ or_right (ends w a (e ∷ t) z) (maybe_ends w o (e ∷ t) z) ((readies.ready_ends (e ∷ t) z small).1 k)
      | inr k ↦ ap (λ u. ends w b u z) k.2 ∙ beside_ends w a b o is k.0 k.1 z ∙ or_left (ends w a (k.0 ∷ k.1) z) (maybe_ends w o (k.0 ∷ k.1) z) ((waiting.end_on k.0 k.1 z small).1 k.3)
    ]

    to_ends : (t : List Event) (z : ℕ) → z < 2 ^ 64 → EndsThen w layout keep closed Γ rest x (alt bs) x t z → ends w b t z ≡ true
    to_ends t z small r = ended_so t z small (came_resume layout closed Γ x bs each w rest (λ last m u. ends w m u (bit_xor z (change_of keep x last))) t r)

    from_ends : (t : List Event) (z : ℕ) → z < 2 ^ 64 → ends w b t z ≡ true → EndsThen w layout keep closed Γ rest x (alt bs) x t z
    from_ends [] z small h = resume_ready layout closed Γ x bs w rest (λ last m u. ends w m u (bit_xor z (change_of keep x last))) [] ((readies.ready_ends [] z small).0 (sym (ends_now w a b o is z (waiting.not_ended z small)) ∙ h))
    from_ends (e ∷ t) z small h = ⊎_elim
        (λ (k : ends w a (e ∷ t) z ≡ true). resume_event layout closed Γ x bs w rest (λ last m u. ends w m u (bit_xor z (change_of keep x last))) e t ((waiting.end_on e t z small).0 k))
        (λ (k : maybe_ends w o (e ∷ t) z ≡ true). resume_ready layout closed Γ x bs w rest (λ last m u. ends w m u (bit_xor z (change_of keep x last))) (e ∷ t) ((readies.ready_ends (e ∷ t) z small).0 k))
        (or_cases (ends w a (e ∷ t) z) (maybe_ends w o (e ∷ t) z) (sym (beside_ends w a b o is e t z) ∙ h))

    pub alternated_ends : (t : List Event) (z : ℕ) → z < 2 ^ 64 → (ends w b t z ≡ true) ↔ EndsThen w layout keep closed Γ rest x (alt bs) x t z
    alternated_ends t z small = (from_ends t z small, to_ends t z small)
