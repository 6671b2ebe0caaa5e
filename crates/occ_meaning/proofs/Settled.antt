-- Every part, run without more than a trace, comes to an end or to a stable point: so it has the empty trace, and its
-- traces are closed under fronts.
-- none of those events is in the set
use Rattle.occ_syntax.specs.occ_base.Event.{counterpart, other_direction}
use Rattle.occ_syntax.specs.occ_base.Width.{bits_of}
use Rattle.occ_syntax.specs.occ_base.declared.event.Dir.{Dir}
use Rattle.occ_syntax.specs.occ_base.declared.event.Dir.TheVariants.{Input, Output}
use Rattle.occ_syntax.specs.occ_base.declared.event.Event.{Event}
use Rattle.occ_syntax.specs.occ_base.declared.width.Width.{Width}
use Rattle.occ_meaning.proofs.Facts.{clash, event_itself, false_not_true, if_false, if_true, same_events, true_not_false}
use Rattle.occ_syntax.specs.Eval.{eval, is_true}
use Rattle.occ_syntax.specs.Meaning.{After, Alternates, Followed, Guards, Meaning, Outcome, Stopped, Taken, Together, Weave, WithChannel, WithVariable, alternatives, and_guard, answered, assigned, at_event, at_once, at_ready, at_the_same_time, beside, beside_all, both_done, both_ended, chosen, ended, first_choice, first_ended, followed, guards, in_first, in_second, in_turn, is_silent, join, meaning, neither_ended, never, no_guard, of_first, of_second, off_channel, over_channel, over_variable, refused_with, refusing, second_ended, stable, stopped, taken, together, unseen}
use Rattle.occ_syntax.specs.Same.{HasTrace}
use Rattle.occ_syntax.specs.Scopes.{Environment, EventSet, Trace, Values, among, channel_width, has_width, in_scope, same_event, with_name, with_value}
use Rattle.occ_syntax.specs.Tree.{Branches, Cases, Exp, Tree, Trees, Waiting, alt, and_branch, and_case, and_tree, assign, connect, declare, input, no_branch, no_case, no_tree, output, par, ready, receive, select, send, seq, skip, stop, truth}
use Rattle.occ_syntax.specs.declared.scope.Kind.TheVariants.{Chan, Var}
use Rattle.std.proofs.Common.{Bool, List, MatchBool, None, Option, Some, [], ap, append-nil, append_assoc, arith, false, if◌then◌else◌, inl, inr, not, refl, subst, suc, sym, true, zero, ℕ, ◌&&◌, ◌++◌, ◌<◌, ◌==◌, ◌^◌, ◌||◌, ◌∙◌, ◌∷◌, ◌≡◌, ◌≢◌, ◌⊎◌}
use Rattle.std.proofs.lemmas.Bool.{and_from, and_parts, cases_Bool, false_from_ne_true, lt-ltb, ltb-true, not-true, not_from_false, or_cases, or_parts}
use Rattle.std.proofs.lemmas.Bool.Decides.{eqb_tells}
use Rattle.std.proofs.lemmas.Nat.{pow_pos}

abbrev pub Avoids : List Event → EventSet → Type 0
Avoids us X = (e : Event) → X e ≡ true → among us e ≡ false

-- After the trace the behaviours D come to an end, or are stable with the events that they accept then, each of which
-- may follow.
pub data Settled (D : Trace → Outcome → Type 0) : Trace → Type 0 where
  at_last : {t : Trace} (s' : Values) → D t (ended s') → Settled D t
  waits : {t : Trace} (us : List Event) → ((X : EventSet) → Avoids us X → D t (refusing X))
      → ((e : Event) → among us e ≡ true → Settled D (t ++ e ∷ [])) → Settled D t

-- ---- lists of events

pub among_both : (us bs : List Event) (e : Event) → among (us ++ bs) e ≡ (among us e || among bs e)
among_both [] bs e = refl
among_both (f ∷ us) bs e = head (same_event e f) (among (us ++ bs) e) (among us e) (among bs e) (among_both us bs e)
  where
    head : (b x y z : Bool) → x ≡ (y || z) → (if b then true else x) ≡ ((if b then true else y) || z)
    head true x y z h = refl
    head false x y z h = h

among_head : (f : Event) (us : List Event) → among (f ∷ us) f ≡ true
among_head f us = if_true (same_event f f) true (among us f) (event_itself f)

among_tail : (f : Event) (us : List Event) (e : Event) → among us e ≡ true → among (f ∷ us) e ≡ true
among_tail f us e h = later (same_event e f) (among us e) h
  where
    later : (b x : Bool) → x ≡ true → (if b then true else x) ≡ true
    later true x k = refl
    later false x k = k

among_cases : (f : Event) (us : List Event) (e : Event) → among (f ∷ us) e ≡ true → (e ≡ f) ⊎ (among us e ≡ true)
among_cases f us e h = elim (cases_Bool (same_event e f))
    [ inl k ↦ inl (same_events e f k) | inr k ↦ inr (sym (if_false (same_event e f) true (among us e) k) ∙ h) ]

-- the first of those events whose counterpart is one of these, if there is one
meeting : (us bs : List Event)
    → ((e : Event) × (among us e ≡ true) × (among bs (counterpart e) ≡ true)) ⊎ ((e : Event) → among us e ≡ true → among bs (counterpart e) ≡ false)
meeting [] bs = inr (λ e h. false_not_true h)
meeting (f ∷ us) bs = elim (cases_Bool (among bs (counterpart f))) [
  | inl yes_f ↦ inl (f, among_head f us, yes_f)
  | inr no_f ↦ elim (meeting us bs) [
    | inl k ↦ inl (k.0, among_tail f us k.0 k.1, k.2)
    | inr k ↦ inr (λ e h. let P : Event → Type 0 = λ g. among bs (counterpart g) ≡ false in elim (among_cases f us e h) [ inl same ↦ subst P (sym same) no_f | inr rest ↦ k e rest ])
  ]
]

-- ---- settled behaviours of one operator in another

pub settled_in : (D E : Trace → Outcome → Type 0) → ((t : Trace) (s1 : Values) → D t (ended s1) → (s2 : Values) × E t (ended s2))
    → ((t : Trace) (X : EventSet) → D t (refusing X) → E t (refusing X)) → (t : Trace) → Settled D t → Settled E t
settled_in D E last rest t (at_last s' d) = let k = last t s' d in at_last k.0 k.1
settled_in D E last rest t (waits us d k) = waits us (λ X av. rest t X (d X av)) (λ e h. settled_in D E last rest (t ++ e ∷ []) (k e h))

pub settled_all : (D E : Trace → Outcome → Type 0) → ((t : Trace) (o : Outcome) → D t o → E t o) → (t : Trace) → Settled D t → Settled E t
settled_all D E into t h = settled_in D E (λ r s1 d. (s1, into r (ended s1) d)) (λ r X d. into r (refusing X) d) t h

-- behind a trace that is taken first
pub settled_behind : (D E : Trace → Outcome → Type 0) (t1 : Trace) → ((t : Trace) (o : Outcome) → D t o → E (t1 ++ t) o) → (t : Trace)
    → Settled D t → Settled E (t1 ++ t)
settled_behind D E t1 into t (at_last s' d) = at_last s' (into t (ended s') d)
settled_behind D E t1 into t (waits us d k) = waits us (λ X av. into t (refusing X) (d X av))
    (λ e h. let P : Trace → Type 0 = λ r. Settled E r in subst P (sym (append_assoc t1 t (e ∷ []))) (settled_behind D E t1 into (t ++ e ∷ []) (k e h)))

pub settled_at : (D : Trace → Outcome → Type 0) (a b : Trace) → a ≡ b → Settled D a → Settled D b
settled_at D a b e h = let P : Trace → Type 0 = λ r. Settled D r in subst P e h

no_front : (a b : Trace) → [] ≡ a ++ b → a ≡ []
no_front [] b h = refl
no_front (e ∷ a) b h = cc

-- two ways to cut one trace
pub cut_twice : (t1 t2 a b : Trace) → t1 ++ t2 ≡ a ++ b → ((c : Trace) × (t1 ≡ a ++ c)) ⊎ ((c : Trace) × (a ≡ t1 ++ c) × (t2 ≡ c ++ b))
cut_twice [] t2 a b h = inr (a, refl, h)
cut_twice (e ∷ t1) t2 [] b h = inl (e ∷ t1, refl)
cut_twice (e ∷ t1) t2 (f ∷ a) b h =
    let heads : e ≡ f = cc in
    let tails : t1 ++ t2 ≡ a ++ b = cc in
    elim (cut_twice t1 t2 a b tails)
    [ inl k ↦ inl (k.0, (let r = k.1 in cons_both e f t1 (a ++ k.0) heads r)) | inr k ↦ inr (k.0, cons_both f e a (t1 ++ k.0) (sym heads) k.1, k.2) ]
  where
    cons_both : (x y : Event) (u v : Trace) → x ≡ y → u ≡ v → x ∷ u ≡ y ∷ v
    cons_both x y u v hx hu = cc

-- ---- one operator at a time

pub record Settles (m : Meaning) : Type 0 where
  pub starts : (Γ : Environment) (s : Values) → Settled (m.does Γ s) []
  pub fronts : (Γ : Environment) (s : Values) (t : Trace) (o : Outcome) → m.does Γ s t o → (a b : Trace) → t ≡ a ++ b → Settled (m.does Γ s) a

once_settles : (f : Environment → Values → Values) → Settles (at_once f)
once_settles f = record {
  starts = λ Γ s. at_last (f Γ s) (refl, refl);
  fronts = λ Γ s t o d a b e. settled_at ((at_once f).does Γ s) [] a (sym (no_front a b (sym d.0 ∙ e))) (at_last (f Γ s) (refl, refl));
}

never_starts : (Γ : Environment) (s : Values) → Settled (never.does Γ s) []
never_starts Γ s = waits [] (λ X av. stopped) (λ e h. false_not_true h)

never_fronts : (Γ : Environment) (s : Values) (t : Trace) (o : Outcome) → Stopped t o → (a b : Trace) → t ≡ a ++ b → Settled (never.does Γ s) a
never_fronts Γ s t o stopped a b e = settled_at (never.does Γ s) [] a (sym (no_front a b e)) (never_starts Γ s)

never_settles : Settles never
never_settles = record { starts = never_starts; fronts = never_fronts }

followed_settled : (m n : Meaning) → Settles n → (Γ : Environment) (s : Values) (t : Trace) → Settled (m.does Γ s) t
    → Settled ((followed m n).does Γ s) t
followed_settled m n hn Γ s t (at_last s1 d) =
    settled_at ((followed m n).does Γ s) (t ++ []) t (append-nil t)
    (settled_behind (n.does Γ s1) ((followed m n).does Γ s) t (λ t2 o d2. in_second t t2 s1 refl d d2) [] (hn.starts Γ s1))
followed_settled m n hn Γ s t (waits us d k) = waits us (λ X av. in_first (d X av)) (λ e h. followed_settled m n hn Γ s (t ++ e ∷ []) (k e h))

followed_fronts : (m n : Meaning) → Settles m → Settles n → (Γ : Environment) (s : Values) (t : Trace) (o : Outcome) → Followed m n Γ s t o
    → (a b : Trace) → t ≡ a ++ b → Settled ((followed m n).does Γ s) a
followed_fronts m n hm hn Γ s t o (in_first {X = X} d) a b e = followed_settled m n hn Γ s a (hm.fronts Γ s t (refusing X) d a b e)
followed_fronts m n hm hn Γ s t o (in_second t1 t2 s1 i d1 d2) a b e = elim (cut_twice t1 t2 a b (sym i ∙ e)) [
  | inl k ↦ followed_settled m n hn Γ s a (hm.fronts Γ s t1 (ended s1) d1 a k.0 k.1)
  | inr k ↦ settled_at ((followed m n).does Γ s) (t1 ++ k.0) a (sym k.1)
      (settled_behind (n.does Γ s1) ((followed m n).does Γ s) t1 (λ r u d. in_second t1 r s1 refl d1 d) k.0 (hn.fronts Γ s1 t2 o d2 k.0 b k.2))
]

pub followed_settles : (m n : Meaning) → Settles m → Settles n → Settles (followed m n)
followed_settles m n hm hn = record { starts = λ Γ s. followed_settled m n hn Γ s [] (hm.starts Γ s); fronts = followed_fronts m n hm hn }

pub chosen_first : (b : Bool) (P Q : Type 0) → b ≡ true → P → MatchBool b P Q
chosen_first true P Q h p = p
chosen_first false P Q h p = false_not_true h

pub chosen_second : (b : Bool) (P Q : Type 0) → b ≡ false → Q → MatchBool b P Q
chosen_second true P Q h q = true_not_false h
chosen_second false P Q h q = q

pub first_of : (b : Bool) (P Q : Type 0) → b ≡ true → MatchBool b P Q → P
first_of true P Q h k = k
first_of false P Q h k = false_not_true h

pub second_of : (b : Bool) (P Q : Type 0) → b ≡ false → MatchBool b P Q → Q
second_of true P Q h k = true_not_false h
second_of false P Q h k = k

chosen_left : (e : Exp) (m n : Meaning) (Γ : Environment) (s : Values) → is_true Γ e s ≡ true → (t : Trace) → Settled (m.does Γ s) t
    → Settled ((chosen e m n).does Γ s) t
chosen_left e m n Γ s h t k = settled_all (m.does Γ s) ((chosen e m n).does Γ s) (λ r o d. chosen_first (is_true Γ e s) _ _ h d) t k

chosen_right : (e : Exp) (m n : Meaning) (Γ : Environment) (s : Values) → is_true Γ e s ≡ false → (t : Trace) → Settled (n.does Γ s) t
    → Settled ((chosen e m n).does Γ s) t
chosen_right e m n Γ s h t k = settled_all (n.does Γ s) ((chosen e m n).does Γ s) (λ r o d. chosen_second (is_true Γ e s) _ _ h d) t k

pub chosen_settles : (e : Exp) (m n : Meaning) → Settles m → Settles n → Settles (chosen e m n)
chosen_settles e m n hm hn = record {
  starts = λ Γ s. elim (cases_Bool (is_true Γ e s)) [ inl h ↦ chosen_left e m n Γ s h [] (hm.starts Γ s) | inr h ↦ chosen_right e m n Γ s h [] (hn.starts Γ s) ];
  fronts = λ Γ s t o d a b i. elim (cases_Bool (is_true Γ e s)) [
    | inl h ↦ chosen_left e m n Γ s h a (hm.fronts Γ s t o (first_of (is_true Γ e s) _ _ h d) a b i)
    | inr h ↦ chosen_right e m n Γ s h a (hn.fronts Γ s t o (second_of (is_true Γ e s) _ _ h d) a b i)
  ];
}

-- ---- guards

inputs_below : ℕ → ℕ → List Event
inputs_below c zero = []
inputs_below c (suc n) = record { chan = record { 0 = c }; dir = Input; value = n } ∷ inputs_below c n

abbrev inputs : ℕ → Option Width → List Event
inputs c (Some w) = inputs_below c (2 ^ bits_of w)
inputs c None = []

abbrev events_of : Environment → Values → Waiting → List Event
events_of Γ s ready = []
events_of Γ s (input c x) = inputs c (channel_width Γ c)
events_of Γ s (output c z) = record { chan = record { 0 = c }; dir = Output; value = eval Γ z s } ∷ []

input_there : (c v n : ℕ) → v < n → among (inputs_below c n) (record { chan = record { 0 = c }; dir = Input; value = v }) ≡ true
unfolding inputs_below
input_there c v zero lt = absurd (omega arith)
input_there c v (suc n) lt =
    let f : Event = record { chan = record { 0 = c }; dir = Input; value = n } in
    let g : Event = record { chan = record { 0 = c }; dir = Input; value = v } in
    elim (eqb_tells v n) [
      | inl k ↦ (let P : ℕ → Type 0 = λ u. among (f ∷ inputs_below c n) (record { chan = record { 0 = c }; dir = Input; value = u }) ≡ true in subst P (sym k.1) (among_head f (inputs_below c n)))
      | inr k ↦ among_tail f (inputs_below c n) g (input_there c v n (let ne : v ≢ n = k.1 in omega arith))
    ]

input_below : (c n : ℕ) (e : Event) → among (inputs_below c n) e ≡ true
    → (v : ℕ) × (v < n) × (e ≡ record { chan = record { 0 = c }; dir = Input; value = v })
unfolding inputs_below
input_below c zero e h = false_not_true h
input_below c (suc n) e h = elim (among_cases (record { chan = record { 0 = c }; dir = Input; value = n }) (inputs_below c n) e h)
    [ inl k ↦ (n, omega arith, k) | inr k ↦ (let r = input_below c n e k in (r.0, (let lt = r.1 in omega arith), r.2)) ]

width_there : (c v : ℕ) (o : Option Width) → has_width o v ≡ true
    → among (inputs c o) (record { chan = record { 0 = c }; dir = Input; value = v }) ≡ true
width_there c v (Some w) h = input_there c v (2 ^ bits_of w) (ltb-true v (2 ^ bits_of w) h)
width_there c v None h = false_not_true h

width_below : (c : ℕ) (o : Option Width) (e : Event) → among (inputs c o) e ≡ true
    → (v : ℕ) × (has_width o v ≡ true) × (e ≡ record { chan = record { 0 = c }; dir = Input; value = v })
width_below c (Some w) e h = let r = input_below c (2 ^ bits_of w) e h in (r.0, lt-ltb r.0 (2 ^ bits_of w) r.1, r.2)
width_below c None e h = false_not_true h

-- the list has the events behind the guard, and no others
after_there : (Γ : Environment) (s : Values) (w : Waiting) (e : Event) (u : Values) → After Γ s w e u → among (events_of Γ s w) e ≡ true
after_there Γ s ready e u a = absurd a
after_there Γ s (input c x) e u a = let P : Event → Type 0 = λ f. among (inputs c (channel_width Γ c)) f ≡ true in subst P (sym a.2) (width_there c a.0 (channel_width Γ c) a.1)
after_there Γ s (output c z) e u a =
    let f : Event = record { chan = record { 0 = c }; dir = Output; value = eval Γ z s } in
    let P : Event → Type 0 = λ g. among (f ∷ []) g ≡ true in subst P (sym a.0) (among_head f [])

there_after : (Γ : Environment) (s : Values) (w : Waiting) (e : Event) → among (events_of Γ s w) e ≡ true → (u : Values) × After Γ s w e u
there_after Γ s ready e h = false_not_true h
there_after Γ s (input c x) e h = let r = width_below c (channel_width Γ c) e h in (with_value s x r.0, (r.0, r.1, r.2, refl))
there_after Γ s (output c z) e h = elim (among_cases (record { chan = record { 0 = c }; dir = Output; value = eval Γ z s }) [] e h) [ inl k ↦ (s, (k, refl)) | inr k ↦ false_not_true k ]

-- what a list of branches offers at first, where no enabled guard is SKIP
record Offers (g : Guards) (Γ : Environment) (s : Values) : Type 0 where
  events : List Event
  quiet : (X : EventSet) → Avoids events X → g.refuses Γ s X
  each : (e : Event) → among events e ≡ true → Settled (g.goes Γ s) (e ∷ [])

record GuardsSettle (g : Guards) : Type 0 where
  starts : (Γ : Environment) (s : Values) → Settled (g.goes Γ s) [] ⊎ Offers g Γ s
  fronts : (Γ : Environment) (s : Values) (t : Trace) (o : Outcome) → g.goes Γ s t o → (a b : Trace) → t ≡ a ++ b → (a ≡ []) ⊎ Settled (g.goes Γ s) a

no_guard_settles : GuardsSettle no_guard
no_guard_settles = record {
  starts = λ Γ s. inr (record { events = []; quiet = λ X av. tt; each = λ e h. false_not_true h });
  fronts = λ Γ s t o d a b i. absurd d;
}

guard_goes : (e : Exp) (w : Waiting) (m : Meaning) (g : Guards) (Γ : Environment) (s u : Values) (t1 : Trace) → is_true Γ e s ≡ true
    → ((t : Trace) → Taken Γ s w (t1 ++ t) u t) → (t : Trace) → Settled (m.does Γ u) t → Settled ((and_guard e w m g).goes Γ s) (t1 ++ t)
guard_goes e w m g Γ s u t1 h took t k = settled_behind (m.does Γ u) ((and_guard e w m g).goes Γ s) t1 (λ r o d. inl (h, (u, r, took r, d))) t k

others_go : (e : Exp) (w : Waiting) (m : Meaning) (g : Guards) (Γ : Environment) (s : Values) (t : Trace) → Settled (g.goes Γ s) t
    → Settled ((and_guard e w m g).goes Γ s) t
others_go e w m g Γ s t k = settled_all (g.goes Γ s) ((and_guard e w m g).goes Γ s) (λ r o d. inr d) t k

disabled_offers : (e : Exp) (w : Waiting) (m : Meaning) (g : Guards) (Γ : Environment) (s : Values) → is_true Γ e s ≡ false → Offers g Γ s
    → Offers (and_guard e w m g) Γ s
disabled_offers e w m g Γ s h k = record {
  events = k.events;
  quiet = λ X av. (chosen_second (is_true Γ e s) _ _ h tt, k.quiet X av);
  each = λ f i. others_go e w m g Γ s (f ∷ []) (k.each f i);
}

enabled_offers : (e : Exp) (w : Waiting) (m : Meaning) (g : Guards) → Settles m → (Γ : Environment) (s : Values) → is_true Γ e s ≡ true
    → (w ≡ ready → ⊥) → Offers g Γ s → Offers (and_guard e w m g) Γ s
enabled_offers e w m g hm Γ s h unready k = record {
  events = events_of Γ s w ++ k.events;
  quiet = λ X av. (
    chosen_first (is_true Γ e s) _ _ h (record {
      not_ready = unready;
      refused = λ f u a. false_from_ne_true (X f) (λ i. clash (among (events_of Γ s w) f) (after_there Γ s w f u a) (or_parts (among (events_of Γ s w) f) (among k.events f) (sym (among_both (events_of Γ s w) k.events f) ∙ av f i)).0);
    }),
    k.quiet X (λ f i. (or_parts (among (events_of Γ s w) f) (among k.events f) (sym (among_both (events_of Γ s w) k.events f) ∙ av f i)).1),
  );
  each = λ f i. elim (or_cases (among (events_of Γ s w) f) (among k.events f) (sym (among_both (events_of Γ s w) k.events f) ∙ i)) [
    | inl j ↦ (let r = there_after Γ s w f j in guard_goes e w m g Γ s r.0 (f ∷ []) h (λ t. at_event r.1) [] (hm.starts Γ r.0))
    | inr j ↦ others_go e w m g Γ s (f ∷ []) (k.each f j)
  ];
}

enabled_starts : (e : Exp) (w : Waiting) (m : Meaning) (g : Guards) → Settles m → (Γ : Environment) (s : Values) → is_true Γ e s ≡ true
    → Settled (g.goes Γ s) [] ⊎ Offers g Γ s → Settled ((and_guard e w m g).goes Γ s) [] ⊎ Offers (and_guard e w m g) Γ s
enabled_starts e ready m g hm Γ s h k = inl (guard_goes e ready m g Γ s s [] h (λ t. at_ready) [] (hm.starts Γ s))
enabled_starts e (input c x) m g hm Γ s h k = elim k [ inl j ↦ inl (others_go e (input c x) m g Γ s [] j) | inr j ↦ inr (enabled_offers e (input c x) m g hm Γ s h (λ i. cc) j) ]
enabled_starts e (output c z) m g hm Γ s h k = elim k [ inl j ↦ inl (others_go e (output c z) m g Γ s [] j) | inr j ↦ inr (enabled_offers e (output c z) m g hm Γ s h (λ i. cc) j) ]

taken_fronts : (e : Exp) (w : Waiting) (m : Meaning) (g : Guards) → Settles m → (Γ : Environment) (s : Values) → is_true Γ e s ≡ true
    → (t : Trace) (u : Values) (r : Trace) (o : Outcome) → Taken Γ s w t u r → m.does Γ u r o → (a b : Trace) → t ≡ a ++ b
    → (a ≡ []) ⊎ Settled ((and_guard e w m g).goes Γ s) a
taken_fronts e w m g hm Γ s h t u r o (at_ready {t = l}) d a b i = inr (guard_goes e ready m g Γ s s [] h (λ j. at_ready) a (hm.fronts Γ s l o d a b i))
taken_fronts e w m g hm Γ s h t u r o (at_event {w = y} {e = f} {u = z} {t = l} after) d [] b i = inl refl
taken_fronts e w m g hm Γ s h t u r o (at_event {w = y} {e = f} {u = z} {t = l} after) d (x ∷ a) b i =
    let heads : f ≡ x = cc in
    let tails : l ≡ a ++ b = cc in
    let P : Event → Type 0 = λ q. Settled ((and_guard e y m g).goes Γ s) (q ∷ a) in
    inr (subst P heads (guard_goes e y m g Γ s z (f ∷ []) h (λ j. at_event after) a (hm.fronts Γ z l o d a b tails)))

and_guard_settles : (e : Exp) (w : Waiting) (m : Meaning) (g : Guards) → Settles m → GuardsSettle g → GuardsSettle (and_guard e w m g)
and_guard_settles e w m g hm hg = record {
  starts = λ Γ s. elim (cases_Bool (is_true Γ e s)) [
    | inl h ↦ enabled_starts e w m g hm Γ s h (hg.starts Γ s)
    | inr h ↦ elim (hg.starts Γ s) [ inl j ↦ inl (others_go e w m g Γ s [] j) | inr j ↦ inr (disabled_offers e w m g Γ s h j) ]
  ];
  fronts = λ Γ s t o d a b i. elim d [
    | inl k ↦ taken_fronts e w m g hm Γ s k.0 t k.1.0 k.1.1 o k.1.2 k.1.3 a b i
    | inr k ↦ elim (hg.fronts Γ s t o k a b i) [ inl j ↦ inl j | inr j ↦ inr (others_go e w m g Γ s a j) ]
  ];
}

alternates_start : (g : Guards) → GuardsSettle g → (Γ : Environment) (s : Values) → Settled ((alternatives g).does Γ s) []
alternates_start g hg Γ s = elim (hg.starts Γ s) [
  | inl k ↦ settled_all (g.goes Γ s) ((alternatives g).does Γ s) (λ t o d. taken d) [] k
  | inr k ↦ waits k.events (λ X av. stable (k.quiet X av)) (λ e h. settled_all (g.goes Γ s) ((alternatives g).does Γ s) (λ t o d. taken d) (e ∷ []) (k.each e h))
]

alternates_front : (g : Guards) → GuardsSettle g → (Γ : Environment) (s : Values) (t : Trace) (o : Outcome) → Alternates g Γ s t o
    → (a b : Trace) → t ≡ a ++ b → Settled ((alternatives g).does Γ s) a
alternates_front g hg Γ s t o (stable d) a b i = settled_at ((alternatives g).does Γ s) [] a (sym (no_front a b i)) (alternates_start g hg Γ s)
alternates_front g hg Γ s t o (taken d) a b i = elim (hg.fronts Γ s t o d a b i) [
  | inl k ↦ settled_at ((alternatives g).does Γ s) [] a (sym k) (alternates_start g hg Γ s)
  | inr k ↦ settled_all (g.goes Γ s) ((alternatives g).does Γ s) (λ r u j. taken j) a k
]

alternatives_settle : (g : Guards) → GuardsSettle g → Settles (alternatives g)
alternatives_settle g hg = record { starts = alternates_start g hg; fronts = alternates_front g hg }

-- ---- PAR

longer_first : (e : Event) (a b c : Trace) → Weave a b c → Weave (a ++ e ∷ []) b (c ++ e ∷ [])
longer_first e a b c both_done = of_first both_done
longer_first e a b c (of_first {e = f} {a = x} {b = y} {c = z} w) = of_first (longer_first e x y z w)
longer_first e a b c (of_second {e = f} {a = x} {b = y} {c = z} w) = of_second (longer_first e x y z w)
longer_first e a b c (unseen {e = f} {f = g} {a = x} {b = y} {c = z} i w) = unseen i (longer_first e x y z w)

longer_second : (e : Event) (a b c : Trace) → Weave a b c → Weave a (b ++ e ∷ []) (c ++ e ∷ [])
longer_second e a b c both_done = of_second both_done
longer_second e a b c (of_first {e = f} {a = x} {b = y} {c = z} w) = of_first (longer_second e x y z w)
longer_second e a b c (of_second {e = f} {a = x} {b = y} {c = z} w) = of_second (longer_second e x y z w)
longer_second e a b c (unseen {e = f} {f = g} {a = x} {b = y} {c = z} i w) = unseen i (longer_second e x y z w)

longer_both : (e : Event) (a b c : Trace) → Weave a b c → Weave (a ++ e ∷ []) (b ++ counterpart e ∷ []) c
longer_both e a b c both_done = unseen refl both_done
longer_both e a b c (of_first {e = f} {a = x} {b = y} {c = z} w) = of_first (longer_both e x y z w)
longer_both e a b c (of_second {e = f} {a = x} {b = y} {c = z} w) = of_second (longer_both e x y z w)
longer_both e a b c (unseen {e = f} {f = g} {a = x} {b = y} {c = z} i w) = unseen i (longer_both e x y z w)

first_at_last : (m n : Meaning) (Γ : Environment) (s s1 : Values) (t1 : Trace) → m.does Γ s t1 (ended s1) → (t2 : Trace)
    → Settled (n.does Γ s) t2 → (t : Trace) → Weave t1 t2 t → Settled ((beside m n).does Γ s) t
first_at_last m n Γ s s1 t1 d1 t2 (at_last s2 d2) t w = at_last (join s s1 s2) (together t1 t2 (ended s1) (ended s2) w (both_ended refl) d1 d2)
first_at_last m n Γ s s1 t1 d1 t2 (waits bs d2 k2) t w =
    waits bs (λ X av. together t1 t2 (ended s1) (refusing X) w first_ended d1 (d2 X av))
    (λ e h. first_at_last m n Γ s s1 t1 d1 (t2 ++ e ∷ []) (k2 e h) (t ++ e ∷ []) (longer_second e t1 t2 t w))

abbrev GoesOn : (m n : Meaning) (Γ : Environment) (s : Values) → List Event → Trace → Type 0
GoesOn m n Γ s us t1 = (e : Event) → among us e ≡ true → (t2 : Trace) → Settled (n.does Γ s) t2 → (t : Trace) → Weave (t1 ++ e ∷ []) t2 t → Settled ((beside m n).does Γ s) t

-- both refuse where no event that one accepts meets its counterpart of the other
both_quiet : (m n : Meaning) (Γ : Environment) (s : Values) (us bs : List Event) (t1 t2 t : Trace) → Weave t1 t2 t
    → ((X : EventSet) → Avoids us X → m.does Γ s t1 (refusing X)) → ((X : EventSet) → Avoids bs X → n.does Γ s t2 (refusing X))
    → ((e : Event) → among us e ≡ true → among bs (counterpart e) ≡ false) → (X : EventSet) → Avoids (us ++ bs) X → Together m n Γ s t (refusing X)
both_quiet m n Γ s us bs t1 t2 t w d1 d2 apart X av =
    let Y : EventSet = λ e. not (among us e) in
    together t1 t2 (refusing (refused_with Γ X Y)) (refusing (refused_with Γ X (answered Y))) w (neither_ended X Y)
    (d1 (refused_with Γ X Y) (λ e h. elim (or_cases (X e) (in_scope Γ e && Y e) h)
    [ inl k ↦ (or_parts (among us e) (among bs e) (sym (among_both us bs e) ∙ av e k)).0 | inr k ↦ not-true (among us e) (and_parts (in_scope Γ e) (Y e) k).1 ]))
    (d2 (refused_with Γ X (answered Y)) (λ e h. elim (or_cases (X e) (in_scope Γ e && answered Y e) h) [
      | inl k ↦ (or_parts (among us e) (among bs e) (sym (among_both us bs e) ∙ av e k)).1
      | inr k ↦ met e (and_parts (in_scope Γ e) (answered Y e) k).1
    ]))
  where
    turned : (e : Event) → counterpart (counterpart e) ≡ e
    turned e = ap (λ d. record { chan = e.chan; dir = d; value = e.value }) (twice e.dir)
      where
        twice : (d : Dir) → other_direction (other_direction d) ≡ d
        twice Input = refl
        twice Output = refl

    both_nots : (b : Bool) → not (not b) ≡ true → b ≡ true
    both_nots true h = refl
    both_nots false h = false_not_true h

    met : (e : Event) → not (not (among us (counterpart e))) ≡ true → among bs e ≡ false
    met e h = let P : Event → Type 0 = λ f. among bs f ≡ false in subst P (turned e) (apart (counterpart e) (both_nots (among us (counterpart e)) h))

second_turn : (m n : Meaning) (Γ : Environment) (s : Values) (us : List Event) (t1 : Trace)
    → ((X : EventSet) → Avoids us X → m.does Γ s t1 (refusing X)) → GoesOn m n Γ s us t1
    → (t2 : Trace) → Settled (n.does Γ s) t2 → (t : Trace) → Weave t1 t2 t → Settled ((beside m n).does Γ s) t
second_turn m n Γ s us t1 d1 on t2 (at_last s2 d2) t w =
    waits us (λ X av. together t1 t2 (refusing X) (ended s2) w second_ended (d1 X av) d2) (λ e h. on e h t2 (at_last s2 d2) (t ++ e ∷ []) (longer_first e t1 t2 t w))
second_turn m n Γ s us t1 d1 on t2 (waits bs d2 k2) t w = elim (meeting us bs) [
  | inl k ↦ on k.0 k.1 (t2 ++ counterpart k.0 ∷ []) (k2 (counterpart k.0) k.2) t (longer_both k.0 t1 t2 t w)
  | inr apart ↦ waits (us ++ bs) (both_quiet m n Γ s us bs t1 t2 t w d1 d2 apart)
      (λ e h. elim (or_cases (among us e) (among bs e) (sym (among_both us bs e) ∙ h)) [
        | inl k ↦ on e k t2 (waits bs d2 k2) (t ++ e ∷ []) (longer_first e t1 t2 t w)
        | inr k ↦ second_turn m n Γ s us t1 d1 on (t2 ++ e ∷ []) (k2 e k) (t ++ e ∷ []) (longer_second e t1 t2 t w)
      ])
]

both_settled : (m n : Meaning) (Γ : Environment) (s : Values) (t1 : Trace) → Settled (m.does Γ s) t1 → (t2 : Trace)
    → Settled (n.does Γ s) t2 → (t : Trace) → Weave t1 t2 t → Settled ((beside m n).does Γ s) t
both_settled m n Γ s t1 (at_last s1 d1) t2 k t w = first_at_last m n Γ s s1 t1 d1 t2 k t w
both_settled m n Γ s t1 (waits us d1 k1) t2 k t w = second_turn m n Γ s us t1 d1 (λ e h. both_settled m n Γ s (t1 ++ e ∷ []) (k1 e h)) t2 k t w

record Fronts (t1 t2 a : Trace) : Type 0 where
  a1 : Trace
  b1 : Trace
  a2 : Trace
  b2 : Trace
  first : t1 ≡ a1 ++ b1
  second : t2 ≡ a2 ++ b2
  woven : Weave a1 a2 a

woven_fronts : (t1 t2 t : Trace) → Weave t1 t2 t → (a b : Trace) → t ≡ a ++ b → Fronts t1 t2 a
woven_fronts t1 t2 t both_done a b i = record { a1 = []; b1 = []; a2 = []; b2 = []; first = refl; second = refl; woven = (let P : Trace → Type 0 = λ r. Weave [] [] r in subst P (sym (no_front a b i)) both_done) }
woven_fronts t1 t2 t (of_first {e = e} {a = x} {b = y} {c = z} w) [] b i = record { a1 = []; b1 = e ∷ x; a2 = []; b2 = y; first = refl; second = refl; woven = both_done }
woven_fronts t1 t2 t (of_first {e = e} {a = x} {b = y} {c = z} w) (f ∷ a) b i =
    let heads : e ≡ f = cc in
    let tails : z ≡ a ++ b = cc in
    let k = woven_fronts x y z w a b tails in
    let P : Event → Type 0 = λ q. Weave (e ∷ k.a1) k.a2 (q ∷ a) in
    record { a1 = e ∷ k.a1; b1 = k.b1; a2 = k.a2; b2 = k.b2; first = ap (λ r. e ∷ r) k.first; second = k.second; woven = subst P heads (of_first k.woven) }
woven_fronts t1 t2 t (of_second {e = e} {a = x} {b = y} {c = z} w) [] b i = record { a1 = []; b1 = x; a2 = []; b2 = e ∷ y; first = refl; second = refl; woven = both_done }
woven_fronts t1 t2 t (of_second {e = e} {a = x} {b = y} {c = z} w) (f ∷ a) b i =
    let heads : e ≡ f = cc in
    let tails : z ≡ a ++ b = cc in
    let k = woven_fronts x y z w a b tails in
    let P : Event → Type 0 = λ q. Weave k.a1 (e ∷ k.a2) (q ∷ a) in
    record { a1 = k.a1; b1 = k.b1; a2 = e ∷ k.a2; b2 = k.b2; first = k.first; second = ap (λ r. e ∷ r) k.second; woven = subst P heads (of_second k.woven) }
woven_fronts t1 t2 t (unseen {e = e} {f = f} {a = x} {b = y} {c = z} j w) a b i =
    let k = woven_fronts x y z w a b i in
    record { a1 = e ∷ k.a1; b1 = k.b1; a2 = f ∷ k.a2; b2 = k.b2; first = ap (λ r. e ∷ r) k.first; second = ap (λ r. f ∷ r) k.second; woven = unseen j k.woven }

together_fronts : (m n : Meaning) → Settles m → Settles n → (Γ : Environment) (s : Values) (t : Trace) (o : Outcome) → Together m n Γ s t o
    → (a b : Trace) → t ≡ a ++ b → Settled ((beside m n).does Γ s) a
together_fronts m n hm hn Γ s t o (together t1 t2 o1 o2 w c d1 d2) a b i =
    let k = woven_fronts t1 t2 t w a b i in
    both_settled m n Γ s k.a1 (hm.fronts Γ s t1 o1 d1 k.a1 k.b1 k.first) k.a2 (hn.fronts Γ s t2 o2 d2 k.a2 k.b2 k.second) a k.woven

pub beside_settles : (m n : Meaning) → Settles m → Settles n → Settles (beside m n)
beside_settles m n hm hn = record { starts = λ Γ s. both_settled m n Γ s [] (hm.starts Γ s) [] (hn.starts Γ s) [] both_done; fronts = together_fronts m n hm hn }

beside_all_settles : (ps : Trees) (m n : Meaning) → Settles m → Settles n → Settles (beside_all ps m n)
beside_all_settles no_tree m n hm hn = hm
beside_all_settles (and_tree p ps) m n hm hn = beside_settles m n hm hn

-- ---- declarations

variable_settled : (x : ℕ) (w : Width) (m : Meaning) (Γ : Environment) (s : Values) (v : ℕ) → v < 2 ^ bits_of w → (t : Trace)
    → Settled (m.does (with_name Γ x (Var w)) (with_value s x v)) t → Settled ((over_variable x w m).does Γ s) t
variable_settled x w m Γ s v lt t k =
    settled_in (m.does (with_name Γ x (Var w)) (with_value s x v)) ((over_variable x w m).does Γ s)
    (λ r s1 d. (with_value s1 x (s x), WithVariable.at_end v s1 lt refl d)) (λ r X d. WithVariable.at_rest v lt d) t k

variable_fronts : (x : ℕ) (w : Width) (m : Meaning) → Settles m → (Γ : Environment) (s : Values) (t : Trace) (o : Outcome)
    → WithVariable x w m Γ s t o → (a b : Trace) → t ≡ a ++ b → Settled ((over_variable x w m).does Γ s) a
variable_fronts x w m hm Γ s t o (WithVariable.at_end v s1 lt e d) a b i = variable_settled x w m Γ s v lt a (hm.fronts (with_name Γ x (Var w)) (with_value s x v) t (ended s1) d a b i)
variable_fronts x w m hm Γ s t o (WithVariable.at_rest {X = X} v lt d) a b i = variable_settled x w m Γ s v lt a (hm.fronts (with_name Γ x (Var w)) (with_value s x v) t (refusing X) d a b i)

pub variable_settles : (x : ℕ) (w : Width) (m : Meaning) → Settles m → Settles (over_variable x w m)
variable_settles x w m hm = record {
  starts = λ Γ s. variable_settled x w m Γ s 0 (pow_pos (bits_of w)) [] (hm.starts (with_name Γ x (Var w)) (with_value s x 0));
  fronts = variable_fronts x w m hm;
}

pub without : ℕ → List Event → List Event
without c [] = []
without c (e ∷ us) = if e.chan.0 == c then without c us else e ∷ without c us

without_of : (c : ℕ) (us : List Event) (e : Event) → among (without c us) e ≡ true → (among us e ≡ true) × ((e.chan.0 == c) ≡ false)
unfolding without
without_of c [] e h = false_not_true h
without_of c (f ∷ us) e h = elim (cases_Bool (f.chan.0 == c)) [
  | inl k ↦ (let P : List Event → Type 0 = λ l. among l e ≡ true in
      let r = without_of c us e (subst P (if_true (f.chan.0 == c) (without c us) (f ∷ without c us) k) h) in (among_tail f us e r.0, r.1))
  | inr k ↦ (let P : List Event → Type 0 = λ l. among l e ≡ true in
      elim (among_cases f (without c us) e (subst P (if_false (f.chan.0 == c) (without c us) (f ∷ without c us) k) h)) [
        | inl same ↦ (let Q : Event → Type 0 = λ g. (among (f ∷ us) g ≡ true) × ((g.chan.0 == c) ≡ false) in subst Q (sym same) (among_head f us, k))
        | inr rest ↦ (let r = without_of c us e rest in (among_tail f us e r.0, r.1))
      ])
]

into_without : (c : ℕ) (us : List Event) (e : Event) → (e.chan.0 == c) ≡ false → among us e ≡ true → among (without c us) e ≡ true
unfolding without
into_without c [] e off h = h
into_without c (f ∷ us) e off h =
    let P : List Event → Type 0 = λ l. among l e ≡ true in
    elim (cases_Bool (f.chan.0 == c)) [
      | inl k ↦ subst P (sym (if_true (f.chan.0 == c) (without c us) (f ∷ without c us) k))
          (elim (among_cases f us e h) [ inl same ↦ clash (f.chan.0 == c) k (let Q : Event → Type 0 = λ g. (g.chan.0 == c) ≡ false in subst Q same off) | inr rest ↦ into_without c us e off rest ])
      | inr k ↦ subst P (sym (if_false (f.chan.0 == c) (without c us) (f ∷ without c us) k))
          (elim (among_cases f us e h) [
            | inl same ↦ (let Q : Event → Type 0 = λ g. among (f ∷ without c us) g ≡ true in subst Q (sym same) (among_head f (without c us)))
            | inr rest ↦ among_tail f (without c us) e (into_without c us e off rest)
          ])
    ]

silent_longer : (c : ℕ) (t : Trace) (e : Event) → is_silent c t ≡ true → (e.chan.0 == c) ≡ false → is_silent c (t ++ e ∷ []) ≡ true
silent_longer c [] e h off = and_from (not (e.chan.0 == c)) true (not_from_false (e.chan.0 == c) off) refl
silent_longer c (f ∷ t) e h off = let k = and_parts (not (f.chan.0 == c)) (is_silent c t) h in and_from (not (f.chan.0 == c)) (is_silent c (t ++ e ∷ [])) k.0 (silent_longer c t e k.1 off)

silent_front : (c : ℕ) (a b : Trace) → is_silent c (a ++ b) ≡ true → is_silent c a ≡ true
silent_front c [] b h = refl
silent_front c (e ∷ a) b h = let k = and_parts (not (e.chan.0 == c)) (is_silent c (a ++ b)) h in and_from (not (e.chan.0 == c)) (is_silent c a) k.0 (silent_front c a b k.1)

channel_settled : (c : ℕ) (w : Width) (m : Meaning) (Γ : Environment) (s : Values) (t : Trace)
    → Settled (m.does (with_name Γ c (Chan w None)) s) t → is_silent c t ≡ true → Settled ((over_channel c w m).does Γ s) t
channel_settled c w m Γ s t (at_last s1 d) silent = at_last s1 (WithChannel.at_end silent d)
channel_settled c w m Γ s t (waits us d k) silent =
    waits (without c us)
    (λ X av. WithChannel.at_rest silent (d (off_channel c X) (λ e h.
    let j = and_parts (not (e.chan.0 == c)) (X e) h in
    false_from_ne_true (among us e) (λ i. clash (among (without c us) e) (into_without c us e (not-true (e.chan.0 == c) j.0) i) (av e j.1)))))
    (λ e h. let r = without_of c us e h in channel_settled c w m Γ s (t ++ e ∷ []) (k e r.0) (silent_longer c t e silent r.1))

channel_fronts : (c : ℕ) (w : Width) (m : Meaning) → Settles m → (Γ : Environment) (s : Values) (t : Trace) (o : Outcome)
    → WithChannel c w m Γ s t o → (a b : Trace) → t ≡ a ++ b → Settled ((over_channel c w m).does Γ s) a
channel_fronts c w m hm Γ s t o (WithChannel.at_end {s1 = r} silent d) a b i =
    channel_settled c w m Γ s a (hm.fronts (with_name Γ c (Chan w None)) s t (ended r) d a b i) (silent_front c a b (ap (is_silent c) (sym i) ∙ silent))
channel_fronts c w m hm Γ s t o (WithChannel.at_rest {X = X} silent d) a b i =
    channel_settled c w m Γ s a (hm.fronts (with_name Γ c (Chan w None)) s t (refusing (off_channel c X)) d a b i) (silent_front c a b (ap (is_silent c) (sym i) ∙ silent))

pub channel_settles : (c : ℕ) (w : Width) (m : Meaning) → Settles m → Settles (over_channel c w m)
channel_settles c w m hm = record { starts = λ Γ s. channel_settled c w m Γ s [] (hm.starts (with_name Γ c (Chan w None)) s) refl; fronts = channel_fronts c w m hm }

-- ---- the whole language

alone_settles : (w : Waiting) → Settles (alternatives (and_guard (truth true) w (at_once (λ Γ s. s)) no_guard))
alone_settles w = alternatives_settle (and_guard (truth true) w (at_once (λ Γ s. s)) no_guard) (and_guard_settles (truth true) w (at_once (λ Γ s. s)) no_guard (once_settles (λ Γ s. s)) no_guard_settles)

mutual
  pub part_settles : (p : Tree) → Settles (meaning p)
  part_settles skip = once_settles (λ Γ s. s)
  part_settles stop = never_settles
  part_settles (assign xs es) = once_settles (assigned xs es)
  part_settles (receive c x) = alone_settles (input c x)
  part_settles (send c e) = alone_settles (output c e)
  part_settles (seq ps) = turn_settles ps
  part_settles (par ps) = parallel_settles ps
  part_settles (select cs) = cases_settle cs
  part_settles (alt bs) = alternatives_settle (guards bs) (branches_settle bs)
  part_settles (declare x w p) = variable_settles x w (meaning p) (part_settles p)
  part_settles (connect c w p) = channel_settles c w (meaning p) (part_settles p)

  turn_settles : (ps : Trees) → Settles (in_turn ps)
  turn_settles no_tree = once_settles (λ Γ s. s)
  turn_settles (and_tree p ps) = followed_settles (meaning p) (in_turn ps) (part_settles p) (turn_settles ps)

  parallel_settles : (ps : Trees) → Settles (at_the_same_time ps)
  parallel_settles no_tree = once_settles (λ Γ s. s)
  parallel_settles (and_tree p ps) = beside_all_settles ps (meaning p) (at_the_same_time ps) (part_settles p) (parallel_settles ps)

  cases_settle : (cs : Cases) → Settles (first_choice cs)
  cases_settle no_case = never_settles
  cases_settle (and_case e p cs) = chosen_settles e (meaning p) (first_choice cs) (part_settles p) (cases_settle cs)

  branches_settle : (bs : Branches) → GuardsSettle (guards bs)
  branches_settle no_branch = no_guard_settles
  branches_settle (and_branch e w p bs) = and_guard_settles e w (meaning p) (guards bs) (part_settles p) (branches_settle bs)

-- ---- traces

settled_trace : (Γ : Environment) (p : Tree) (s : Values) (t : Trace) → Settled ((meaning p).does Γ s) t → HasTrace Γ p s t
settled_trace Γ p s t (at_last s' d) = inr (s', d)
settled_trace Γ p s t (waits us d k) = inl (d (λ e. false) (λ e h. false_not_true h))

pub empty_trace : (Γ : Environment) (p : Tree) (s : Values) → HasTrace Γ p s []
empty_trace Γ p s = settled_trace Γ p s [] ((part_settles p).starts Γ s)

pub front_trace : (Γ : Environment) (p : Tree) (s : Values) (a b : Trace) → HasTrace Γ p s (a ++ b) → HasTrace Γ p s a
front_trace Γ p s a b h = elim h [
  | inl k ↦ settled_trace Γ p s a ((part_settles p).fronts Γ s (a ++ b) (refusing (λ e. false)) k a b refl)
  | inr k ↦ settled_trace Γ p s a ((part_settles p).fronts Γ s (a ++ b) (ended k.0) k.1 a b refl)
]
