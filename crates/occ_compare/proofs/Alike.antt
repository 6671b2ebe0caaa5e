-- Processes that do the same have one first excess, and are stuck after the same traces.
use Rattle.std.proofs.Common.{◌≡◌, ◌⊎◌, ◌↔◌, true, false, not, List, [], ◌∷◌, refl, sym, ap, ◌∙◌, inl, inr, ⊎_elim}
use Rattle.std.specs.Ordering.{is_lt}
use Rattle.occ_syntax.specs.occ_base.declared.event.Event.{Event}
use Rattle.occ_syntax.specs.occ_base.declared.names.Name.{Name}
use Rattle.occ_syntax.specs.declared.scope.Kind.{Kind}
use Rattle.occ_syntax.specs.Scopes.{Trace, among}
use Rattle.occ_behaviour.specs.declared.behaviour.Last.{Last}
use Rattle.occ_behaviour.specs.declared.behaviour.Last.TheVariants.{Refuses, Ends}
use Rattle.occ_node.specs.occ_accept.Accept.{in_set}
use Rattle.occ_compare.specs.Views.{Values, Behaviours, after, HasTrace, Offers, Accepts, Stands, IsWithin, AreAlike}
use Rattle.occ_compare.specs.Excess.{EndsWithin, AcceptsWithin, OffersWithin, IsLeastEnd, StandsFirst, IsLeastSet, IsRefusal, IsLeastOffer, Stops, GoesAlone, GoesOn, IsFirstExcess}

pub turned : (a b : Behaviours) → AreAlike a b → AreAlike b a
turned a b h = record { fails = λ t X. ((h.fails t X).1, (h.fails t X).0); ends = λ t s. ((h.ends t s).1, (h.ends t s).0) }

pub alike_after : (a c : Behaviours) (e : Event) → AreAlike a c → AreAlike (after a e) (after c e)
alike_after a c e h = record { fails = λ t X. h.fails (e ∷ t) X; ends = λ t s. h.ends (e ∷ t) s }

pub stands_alike : (a c : Behaviours) → AreAlike a c → (t : Trace) (last : Last) → Stands a t last → Stands c t last
stands_alike a c h t (Refuses events) k = (h.fails t (among events)).0 k
stands_alike a c h t (Ends s) k = (h.ends t s).0 k

pub within_alike : (a b c d : Behaviours) → AreAlike a c → AreAlike b d → IsWithin b a → IsWithin d c
within_alike a b c d h k w = record {
  fails = λ t X p. (h.fails t X).0 (w.fails t X ((k.fails t X).1 p));
  ends = λ t s p. (h.ends t s).0 (w.ends t s ((k.ends t s).1 p));
}

pub offers_alike : (a c : Behaviours) → AreAlike a c → (e : Event) → Offers a e → Offers c e
offers_alike a c h e o = (
  o.0,
  ⊎_elim
      (λ (k : a.fails (e ∷ o.0) (λ f. false)). inl ((h.fails (e ∷ o.0) (λ f. false)).0 k))
      (λ (k : (s : Values) × a.ends (e ∷ o.0) s). inr (k.0, (h.ends (e ∷ o.0) k.0).0 k.1))
      o.1,
)

pub stands_first : (b d : Behaviours) → AreAlike b d → (last : Last) → StandsFirst b last → StandsFirst d last
stands_first b d k (Ends s) w = ((k.ends [] s).0 w.0, λ u less p. w.1 u less ((k.ends [] u).1 p))
stands_first b d k (Refuses events) w = (w.0, λ s p. w.1 s ((k.ends [] s).1 p))

module _ (ps : List (Name × Kind)) (a b c d : Behaviours) (h : AreAlike a c) (k : AreAlike b d) where
  ends_within : EndsWithin b a → EndsWithin d c
  ends_within w s p = (h.ends [] s).0 (w s ((k.ends [] s).1 p))

  accepts_within : AcceptsWithin b a → AcceptsWithin d c
  accepts_within w set p = (h.fails [] (λ e. not (in_set set e))).0 (w set ((k.fails [] (λ e. not (in_set set e))).1 p))

  offers_within : OffersWithin b a → OffersWithin d c
  offers_within w e p = offers_alike a c h e (w e (offers_alike d b (turned b d k) e p))

  pub refusal_alike : (set events : List Event) → IsRefusal ps a b set events → IsRefusal ps c d set events
  refusal_alike set events w = record {
    listed = w.listed;
    members = λ e. (
      λ m. (⊎_elim (λ (o : Offers a e). inl (offers_alike a c h e o)) (λ (o : Offers b e). inr (offers_alike b d k e o)) ((w.members e).0 m).0, ((w.members e).0 m).1),
      λ m. (w.members e).1 (⊎_elim (λ (o : Offers c e). inl (offers_alike c a (turned a c h) e o)) (λ (o : Offers d e). inr (offers_alike d b (turned b d k) e o)) m.0, m.1),
    );
  }

  stops : (last : Last) → Stops ps a b last → Stops ps c d last
  stops (Ends s) w = record {
    own = (k.ends [] s).0 w.own;
    other = λ p. w.other ((h.ends [] s).1 p);
    before = λ u less p. (h.ends [] u).0 (w.before u less ((k.ends [] u).1 p));
  }
  stops (Refuses events) w = (
    ends_within w.0,
    w.1,
    record {
      listed = w.2.listed;
      own = (k.fails [] (λ e. not (in_set w.1 e))).0 w.2.own;
      other = λ p. w.2.other ((h.fails [] (λ e. not (in_set w.1 e))).1 p);
      before = λ s listed less p. (h.fails [] (λ e. not (in_set s e))).0 (w.2.before s listed less ((k.fails [] (λ e. not (in_set s e))).1 p));
    },
    refusal_alike w.1 events w.3,
  )

  goes_alone : (e : Event) (last : Last) → GoesAlone ps a b e last → GoesAlone ps c d e last
  goes_alone e last w = (
    record {
      own = offers_alike b d k e w.0.own;
      other = λ p. w.0.other (offers_alike c a (turned a c h) e p);
      before = λ f less p. offers_alike a c h f (w.0.before f less (offers_alike d b (turned b d k) f p));
    },
    stands_first (after b e) (after d e) (alike_after b d e k) last w.1,
  )

  goes_on : (e : Event) → GoesOn ps a b e → GoesOn ps c d e
  goes_on e w = (offers_within w.0, λ f less. within_alike (after a f) (after b f) (after c f) (after d f) (alike_after a c f h) (alike_after b d f k) (w.1 f less))

-- what is the first excess of two processes is that of two that do the same
pub excess_alike : (ps : List (Name × Kind)) (t : Trace) (last : Last) (a b c d : Behaviours) → AreAlike a c → AreAlike b d → IsFirstExcess ps a b t last → IsFirstExcess ps c d t last
excess_alike ps [] last a b c d h k w = stops ps a b c d h k last w
excess_alike ps (e ∷ t) last a b c d h k w = (
  ends_within ps a b c d h k w.0,
  accepts_within ps a b c d h k w.1,
  ⊎_elim
      (λ (p : (t ≡ []) × GoesAlone ps a b e last). inl (p.0, goes_alone ps a b c d h k e last p.1))
      (λ (p : GoesOn ps a b e × IsFirstExcess ps (after a e) (after b e) t last). inr (
        goes_on ps a b c d h k e p.0,
        excess_alike ps t last (after a e) (after b e) (after c e) (after d e) (alike_after a c e h) (alike_after b d e k) p.1,
      ))
      w.2,
)
