-- A first difference is a first excess; processes that do the same have the same one; there is one, and it belongs to one side.
use Rattle.std.proofs.Common.{◌≡◌, ◌⊎◌, ◌↔◌, Bool, true, not, List, [], ◌∷◌, refl, sym, ap, ◌∙◌, subst, inl, inr, ⊎_elim}
use Rattle.std.specs.Ordering.{is_lt}
use Rattle.occ_syntax.specs.occ_base.declared.event.Event.{Event}
use Rattle.occ_syntax.specs.occ_base.declared.names.Name.{Name}
use Rattle.occ_syntax.specs.declared.scope.Kind.{Kind}
use Rattle.occ_syntax.specs.Scopes.{Trace}
use Rattle.occ_syntax.specs.Tree.{Tree}
use Rattle.occ_behaviour.specs.declared.behaviour.Behaviour.{Behaviour}
use Rattle.occ_behaviour.specs.declared.behaviour.Last.{Last}
use Rattle.occ_behaviour.specs.declared.behaviour.Last.TheVariants.{Refuses, Ends}
use Rattle.occ_node.specs.occ_accept.Accept.{in_set}
use Rattle.occ_compare.specs.Orders.{print_cmp}
use Rattle.occ_compare.specs.Views.{Values, Behaviours, after, Offers, IsWithin, AreAlike}
use Rattle.occ_compare.specs.Excess.{IsRefusal, IsFirstExcess}
use Rattle.occ_compare.specs.Excess.{Stops as ExcessStops, GoesAlone as ExcessAlone, GoesOn as ExcessOn}
use Rattle.occ_compare.specs.Difference.{IsLeastOnly, SameEnds, SameAccepts, SameOffers, AcceptsList, Stops, GoesAlone, GoesOn, IsFirstDifference}
use Rattle.occ_compare.specs.Programs.{behaviours_of, IsDifference}
use Rattle.occ_compare.proofs.Orders.{one_event, one_list, one_state}
use Rattle.occ_compare.proofs.Alike.{turned, alike_after, offers_alike, refusal_alike, stands_first}
use Rattle.occ_compare.proofs.One.{HasStates, excess_more, one_excess, same_behaviour}

-- ---- a difference is an excess
pub alike_itself : (a : Behaviours) → AreAlike a a
alike_itself a = record { fails = λ t X. (λ k. k, λ k. k); ends = λ t s. (λ k. k, λ k. k) }

-- of two that are alike the one is within the other
within_of : (a b : Behaviours) → AreAlike a b → IsWithin a b
within_of a b h = record { fails = λ t X. (h.fails t X).0; ends = λ t s. (h.ends t s).0 }

module _ (ps : List (Name × Kind)) where
  turned_refusal : (a b : Behaviours) (set events : List Event) → IsRefusal ps a b set events → IsRefusal ps b a set events
  turned_refusal a b set events is = record {
    listed = is.listed;
    members = λ e. (
      λ m. (⊎_elim (λ (o : Offers a e). inr o) (λ (o : Offers b e). inl o) ((is.members e).0 m).0, ((is.members e).0 m).1),
      λ m. (is.members e).1 (⊎_elim (λ (o : Offers b e). inr o) (λ (o : Offers a e). inl o) m.0, m.1),
    );
  }

  stops_excess : (a b : Behaviours) (last : Last) → Stops ps a b last → ExcessStops ps b a last
  stops_excess a b (Ends s) h = record { own = h.has; other = h.lacks; before = λ u less. (h.before u less).0 }
  stops_excess a b (Refuses events) h = (
    λ s. (h.0 s).0,
    h.1,
    record {
      listed = h.2.has.0;
      own = h.2.has.1;
      other = λ k. h.2.lacks (h.2.has.0, k);
      before = λ s listed less k. ((h.2.before s less).0 (listed, k)).1;
    },
    turned_refusal a b h.1 events h.3,
  )

  alone_excess : (a b : Behaviours) (e : Event) (last : Last) → GoesAlone ps a b e last → ExcessAlone ps b a e last
  alone_excess a b e last h = (record { own = h.0.has; other = h.0.lacks; before = λ f less. (h.0.before f less).0 }, h.1)

  on_excess : (a b : Behaviours) (e : Event) → GoesOn ps a b e → ExcessOn ps b a e
  on_excess a b e h = (λ f. (h.0 f).0, λ f less. within_of (after a f) (after b f) (h.1 f less))

  pub difference_excess : (t : Trace) (last : Last) (a b : Behaviours) → IsFirstDifference ps a b t last → IsFirstExcess ps b a t last
  difference_excess [] last a b h = stops_excess a b last h
  difference_excess (e ∷ t) last a b h = (
    λ s. (h.0 s).0,
    λ set. (h.1 set).0,
    ⊎_elim
        (λ (k : (t ≡ []) × GoesAlone ps a b e last). inl (k.0, alone_excess a b e last k.1))
        (λ (k : GoesOn ps a b e × IsFirstDifference ps (after a e) (after b e) t last). inr (on_excess a b e k.0, difference_excess t last (after a e) (after b e) k.1))
        h.2,
  )

-- ---- processes that do the same
carried : {A B C D : Type 0} → A ↔ C → B ↔ D → A ↔ B → C ↔ D
carried h k w = (λ p. k.0 (w.0 (h.1 p)), λ p. h.0 (w.1 (k.1 p)))

least_alike : {X : Type 0} {less : X → X → Bool} {A B C D : X → Type 0} → ((x : X) → A x ↔ C x) → ((x : X) → B x ↔ D x) → (x : X)
    → IsLeastOnly less A B x → IsLeastOnly less C D x
least_alike h k x w = record { has = (h x).0 w.has; lacks = λ p. w.lacks ((k x).1 p); before = λ y less. carried (h y) (k y) (w.before y less) }

offers_both : (a c : Behaviours) → AreAlike a c → (e : Event) → Offers a e ↔ Offers c e
offers_both a c h e = (offers_alike a c h e, offers_alike c a (turned a c h) e)

lists_both : (ps : List (Name × Kind)) (a c : Behaviours) → AreAlike a c → (set : List Event) → AcceptsList ps a set ↔ AcceptsList ps c set
lists_both ps a c h set = let same = h.fails [] (λ e. not (in_set set e)) in (λ p. (p.0, same.0 p.1), λ p. (p.0, same.1 p.1))

module _ (ps : List (Name × Kind)) (a b c d : Behaviours) (h : AreAlike a c) (k : AreAlike b d) where
  ends_same : SameEnds a b → SameEnds c d
  ends_same w s = carried (h.ends [] s) (k.ends [] s) (w s)

  accepts_same : SameAccepts a b → SameAccepts c d
  accepts_same w set = carried (h.fails [] (λ e. not (in_set set e))) (k.fails [] (λ e. not (in_set set e))) (w set)

  stops_alike : (last : Last) → Stops ps a b last → Stops ps c d last
  stops_alike (Ends s) w = least_alike (h.ends []) (k.ends []) s w
  stops_alike (Refuses events) w = (ends_same w.0, w.1, least_alike (lists_both ps a c h) (lists_both ps b d k) w.1 w.2, refusal_alike ps a b c d h k w.1 events w.3)

  alone_alike : (e : Event) (last : Last) → GoesAlone ps a b e last → GoesAlone ps c d e last
  alone_alike e last w = (least_alike (offers_both a c h) (offers_both b d k) e w.0, stands_first (after a e) (after c e) (alike_after a c e h) last w.1)

  -- what is alike to two that are alike is alike
  pub both_alike : AreAlike a b → AreAlike c d
  both_alike w = record { fails = λ t X. carried (h.fails t X) (k.fails t X) (w.fails t X); ends = λ t s. carried (h.ends t s) (k.ends t s) (w.ends t s) }

on_alike : (ps : List (Name × Kind)) (a b c d : Behaviours) → AreAlike a c → AreAlike b d → (e : Event) → GoesOn ps a b e → GoesOn ps c d e
on_alike ps a b c d h k e w = (
  λ f. carried (offers_both a c h f) (offers_both b d k f) (w.0 f),
  λ f less. both_alike ps (after a f) (after b f) (after c f) (after d f) (alike_after a c f h) (alike_after b d f k) (w.1 f less),
)

-- what is the first difference of two processes is that of two that do the same
pub difference_alike : (ps : List (Name × Kind)) (t : Trace) (last : Last) (a b c d : Behaviours) → AreAlike a c → AreAlike b d
    → IsFirstDifference ps a b t last → IsFirstDifference ps c d t last
difference_alike ps [] last a b c d h k w = stops_alike ps a b c d h k last w
difference_alike ps (e ∷ t) last a b c d h k w = (
  ends_same ps a b c d h k w.0,
  accepts_same ps a b c d h k w.1,
  ⊎_elim
      (λ (p : (t ≡ []) × GoesAlone ps a b e last). inl (p.0, alone_alike ps a b c d h k e last p.1))
      (λ (p : GoesOn ps a b e × IsFirstDifference ps (after a e) (after b e) t last). inr (
        on_alike ps a b c d h k e p.0,
        difference_alike ps t last (after a e) (after b e) (after c e) (after d e) (alike_after a c e h) (alike_after b d e k) p.1,
      ))
      w.2,
)

-- ---- it belongs to one side
-- nothing is the least that only the one has, while something is the least that only the other has
least_apart : {X : Type 0} {less : X → X → Bool} {A B : X → Type 0} (x y : X) → ((less x y ≡ true → ⊥) → (less y x ≡ true → ⊥) → x ≡ y)
    → IsLeastOnly less A B x → IsLeastOnly less B A y → ⊥
least_apart {X} {less} {A} {B} x y one h k =
    let same : x ≡ y = one (λ l. h.lacks ((k.before x l).1 h.has)) (λ l. k.lacks ((h.before y l).1 k.has)) in
    h.lacks (subst B (sym same) k.has)

module _ (ps : List (Name × Kind)) where
  stops_going : (a b : Behaviours) (last : Last) → Stops ps a b last → SameEnds b a → SameAccepts b a → ⊥
  stops_going a b (Ends s) h ends accepts = h.lacks ((ends s).1 h.has)
  stops_going a b (Refuses events) h ends accepts = h.2.lacks (h.2.has.0, (accepts h.1).1 h.2.has.1)

  stops_apart : (a b : Behaviours) → HasStates ps a → HasStates ps b → (l m : Last) → Stops ps a b l → Stops ps b a m → ⊥
  stops_apart a b own other (Ends s) (Ends u) h k = least_apart s u (one_state ps s u (own [] s h.has) (other [] u k.has)) h k
  stops_apart a b own other (Ends s) (Refuses events) h k = h.lacks ((k.0 s).1 h.has)
  stops_apart a b own other (Refuses events) (Ends u) h k = k.lacks ((h.0 u).1 k.has)
  stops_apart a b own other (Refuses events) (Refuses more) h k = least_apart h.1 k.1 (one_list ps h.1 k.1) h.2 k.2

  -- a difference of two that are alike
  pub difference_none : (t : Trace) (last : Last) (a b : Behaviours) → IsFirstDifference ps a b t last → AreAlike a b → ⊥
  difference_none t last a b h alike = excess_more ps t last b a (difference_excess ps t last a b h) (within_of a b alike)

  abbrev IsAlone : Behaviours → Behaviours → Event → Trace → Last → Type 0
  IsAlone a b e t last = (t ≡ []) × GoesAlone ps a b e last

  abbrev IsOn : Behaviours → Behaviours → Event → Trace → Last → Type 0
  IsOn a b e t last = GoesOn ps a b e × IsFirstDifference ps (after a e) (after b e) t last

  module _ (a b : Behaviours) (e f : Event) (t u : Trace) (l m : Last)
      (again : IsFirstDifference ps (after a e) (after b e) t l → IsFirstDifference ps (after b e) (after a e) u m → ⊥) where
    on_apart : IsOn a b e t l → IsOn b a f u m → ⊥
    on_apart h k =
        let event : e ≡ f = one_event ps e f
        (λ less. difference_none t l (after a e) (after b e) h.1 (turned (after b e) (after a e) (k.0.1 e less)))
        (λ less. difference_none u m (after b f) (after a f) k.1 (turned (after a f) (after b f) (h.0.1 f less))) in
        again h.1 (subst (λ (g : Event). IsFirstDifference ps (after b g) (after a g) u m) (sym event) k.1)

    step_apart : IsAlone a b e t l ⊎ IsOn a b e t l → IsAlone b a f u m ⊎ IsOn b a f u m → ⊥
    step_apart h k = ⊎_elim
        (λ (p : IsAlone a b e t l). ⊎_elim
        (λ (q : IsAlone b a f u m). least_apart e f (one_event ps e f) p.1.0 q.1.0)
        (λ (q : IsOn b a f u m). p.1.0.lacks ((q.0.0 e).1 p.1.0.has))
        k)
        (λ (p : IsOn a b e t l). ⊎_elim
        (λ (q : IsAlone b a f u m). q.1.0.lacks ((p.0.0 f).1 q.1.0.has))
        (λ (q : IsOn b a f u m). on_apart p q)
        k)
        h

  -- two processes haven't each a first difference
  pub differences_apart : (t u : Trace) (l m : Last) (a b : Behaviours) → HasStates ps a → HasStates ps b → IsFirstDifference ps a b t l
      → IsFirstDifference ps b a u m → ⊥
  differences_apart [] [] l m a b own other h k = stops_apart a b own other l m h k
  differences_apart [] (f ∷ u) l m a b own other h k = stops_going a b l h k.0 k.1
  differences_apart (e ∷ t) [] l m a b own other h k = stops_going b a m k h.0 h.1
  differences_apart (e ∷ t) (f ∷ u) l m a b own other h k = step_apart a b e f t u l m
      (λ p q. differences_apart t u l m (after a e) (after b e) (λ v s. own (e ∷ v) s) (λ v s. other (e ∷ v) s) p q) h.2 k.2

-- ---- one difference of programs
module _ (ps : List (Name × Kind)) where
  -- from the state of a difference, two programs aren't alike
  apart_there : (p q : Tree) (x : Behaviour) → IsDifference ps p q x → AreAlike (behaviours_of ps p x.state) (behaviours_of ps q x.state)
      → ⊥
  apart_there p q x h alike = difference_none ps x.trace x.last (behaviours_of ps p x.state) (behaviours_of ps q x.state) h.first alike

  pub one_difference : (p q : Tree) (x y : Behaviour) → IsDifference ps p q x → IsDifference ps p q y → x ≡ y
  one_difference p q x y h k =
      let state : x.state ≡ y.state = one_state ps x.state y.state h.within.state k.within.state
      (λ less. apart_there p q x h (k.before x.state h.within.state less))
      (λ less. apart_there p q y k (h.before y.state k.within.state less)) in
      let one = one_excess ps x.trace y.trace x.last y.last (behaviours_of ps q x.state) (behaviours_of ps p x.state) (λ t s e. e.0)
      (difference_excess ps x.trace x.last (behaviours_of ps p x.state) (behaviours_of ps q x.state) h.first)
      (difference_excess ps y.trace y.last (behaviours_of ps p x.state) (behaviours_of ps q x.state)
      (subst (λ (s : Values). IsFirstDifference ps (behaviours_of ps p s) (behaviours_of ps q s) y.trace y.last) (sym state) k.first)) in
      same_behaviour x y state one.0 one.1

  pub one_side : (p q : Tree) (x y : Behaviour) → IsDifference ps p q x → IsDifference ps q p y → ⊥
  one_side p q x y h k =
      let state : x.state ≡ y.state = one_state ps x.state y.state h.within.state k.within.state
      (λ less. apart_there p q x h (turned (behaviours_of ps q x.state) (behaviours_of ps p x.state) (k.before x.state h.within.state less)))
      (λ less. apart_there q p y k (turned (behaviours_of ps p y.state) (behaviours_of ps q y.state) (h.before y.state k.within.state less))) in
      differences_apart ps x.trace y.trace x.last y.last (behaviours_of ps p x.state) (behaviours_of ps q x.state) (λ t s e. e.0) (λ t s e. e.0) h.first
      (subst (λ (s : Values). IsFirstDifference ps (behaviours_of ps q s) (behaviours_of ps p s) y.trace y.last) (sym state) k.first)
