-- The steps of two meanings at once: those of each alone, and two events that meet.
use Rattle.occ_meaning.specs.occ_base.Event.{counterpart}
use Rattle.occ_meaning.specs.occ_base.declared.event.Event.{Event}
use Rattle.occ_meaning.proofs.Beside.{join_none, turned_twice}
use Rattle.occ_meaning.proofs.Facts.{and_second, clash, event_itself, false_not_true, same_events, true_not_false}
use Rattle.occ_run_steps.proofs.Changes.{IgnoresChanges, first_changed, first_changed_back, second_changed, second_changed_back}
use Rattle.occ_run_steps.proofs.Moves.{AtRest, Offers, Sound, Unfolded, Unfolds, ends, moves, waits}
use Rattle.occ_run_steps.specs.Step.{Step, answers, changed, outside, seen}
use Rattle.occ_meaning.specs.occ_syntax.Meaning.{Combines, Meaning, Outcome, Together, Weave, answered, beside, both_done, both_ended, ended, first_ended, join, neither_ended, of_first, of_second, refused_with, refusing, second_ended, together, unseen}
use Rattle.occ_meaning.specs.occ_syntax.Scopes.{Environment, EventSet, Trace, Values, in_scope, same_event}
use Rattle.std.proofs.Common.{Bool, List, None, Option, Some, [], ap, append-nil, false, not, refl, subst, sym, true, ℕ, ◌&&◌, ◌++◌, ◌||◌, ◌∙◌, ◌∷◌, ◌≡◌}
use Rattle.std.proofs.lemmas.Bool.{and_from, and_left, and_right, false_from_ne_true, not-false, not-true, not_from_false, not_from_true, or_from, or_parts}

-- of two steps that meet one changes nothing, and what it leaves ignores what the other changes
pub data OneChanges (p q : Meaning) : List (ℕ × ℕ) → List (ℕ × ℕ) → Type 0 where
  second_changes : {ds : List (ℕ × ℕ)} → IgnoresChanges p ds → OneChanges p q [] ds
  first_changes : {cs : List (ℕ × ℕ)} → IgnoresChanges q cs → OneChanges p q cs []

-- ---- back: what is done behind a step is done with it

seen_first : (v : Option Event) (a b t : Trace) → Weave a b t → Weave (seen v a) b (seen v t)
seen_first None a b t w = w
seen_first (Some e) a b t w = of_first w

seen_second : (v : Option Event) (a b t : Trace) → Weave a b t → Weave a (seen v b) (seen v t)
seen_second None a b t w = w
seen_second (Some e) a b t w = of_second w

first_behind : (Γ : Environment) (s : Values) (m n : Meaning) (v : Option Event) (cs : List (ℕ × ℕ)) (p : Meaning) → Sound Γ s m v cs p
    → IgnoresChanges n cs → (t : Trace) (o : Outcome) → Together p n Γ (changed cs s) t o → Together m n Γ s (seen v t) o
first_behind Γ s m n v cs p h i t o (together t1 t2 o1 o2 w c d1 d2) =
    let k = second_changed_back n Γ s t2 cs i o1 o2 o c d2 in
    together (seen v t1) t2 o1 k.other (seen_first v t1 t2 t w) k.combines (h.behind t1 o1 d1) k.does

-- a step of the first alone
pub first_sound : (Γ : Environment) (s : Values) (m n : Meaning) (v : Option Event) (cs : List (ℕ × ℕ)) (p : Meaning) → Sound Γ s m v cs p
    → IgnoresChanges n cs → Sound Γ s (beside m n) v cs (beside p n)
first_sound Γ s m n v cs p h i = record { behind = first_behind Γ s m n v cs p h i }

second_behind : (Γ : Environment) (s : Values) (m n : Meaning) (v : Option Event) (cs : List (ℕ × ℕ)) (q : Meaning) → Sound Γ s n v cs q
    → IgnoresChanges m cs → (t : Trace) (o : Outcome) → Together m q Γ (changed cs s) t o → Together m n Γ s (seen v t) o
second_behind Γ s m n v cs q h i t o (together t1 t2 o1 o2 w c d1 d2) =
    let k = first_changed_back m Γ s t1 cs i o1 o2 o c d1 in
    together t1 (seen v t2) k.other o2 (seen_second v t1 t2 t w) k.combines k.does (h.behind t2 o2 d2)

-- a step of the second alone
pub second_sound : (Γ : Environment) (s : Values) (m n : Meaning) (v : Option Event) (cs : List (ℕ × ℕ)) (q : Meaning) → Sound Γ s n v cs q
    → IgnoresChanges m cs → Sound Γ s (beside m n) v cs (beside m q)
second_sound Γ s m n v cs q h i = record { behind = second_behind Γ s m n v cs q h i }

-- what both leave does from the values that both change, both do with these events from their own
meeting_behind : (Γ : Environment) (s : Values) (m n : Meaning) (e : Event) (cs ds : List (ℕ × ℕ)) (p q : Meaning) → Sound Γ s m (Some e) cs p
    → Sound Γ s n (Some (counterpart e)) ds q → OneChanges p q cs ds → (t1 t2 t : Trace) (o1 o2 o : Outcome) → Weave t1 t2 t
    → Combines Γ (changed (cs ++ ds) s) o1 o2 o → p.does Γ (changed (cs ++ ds) s) t1 o1 → q.does Γ (changed (cs ++ ds) s) t2 o2 → Together m n Γ s t o
meeting_behind Γ s m n e cs ds p q h k (second_changes i) t1 t2 t o1 o2 o w c d1 d2 =
    let j = first_changed_back p Γ s t1 ds i o1 o2 o c d1 in
    together (e ∷ t1) (counterpart e ∷ t2) j.other o2 (unseen refl w) j.combines (h.behind t1 j.other j.does) (k.behind t2 o2 d2)
meeting_behind Γ s m n e cs ds p q h k (first_changes i) t1 t2 t o1 o2 o w c d1 d2 =
    let P : List (ℕ × ℕ) → Type 0 = λ es. Combines Γ (changed es s) o1 o2 o in
    let Q1 : List (ℕ × ℕ) → Type 0 = λ es. p.does Γ (changed es s) t1 o1 in
    let Q2 : List (ℕ × ℕ) → Type 0 = λ es. q.does Γ (changed es s) t2 o2 in
    let e2 : cs ++ [] ≡ cs = append-nil cs in
    let j = second_changed_back q Γ s t2 cs i o1 o2 o (subst P e2 c) (subst Q2 e2 d2) in
    together (e ∷ t1) (counterpart e ∷ t2) o1 j.other (unseen refl w) j.combines (h.behind t1 o1 (subst Q1 e2 d1)) (k.behind t2 j.other j.does)

meeting_together : (Γ : Environment) (s : Values) (m n : Meaning) (e : Event) (cs ds : List (ℕ × ℕ)) (p q : Meaning) → Sound Γ s m (Some e) cs p
    → Sound Γ s n (Some (counterpart e)) ds q → OneChanges p q cs ds → (t : Trace) (o : Outcome) → Together p q Γ (changed (cs ++ ds) s) t o
    → Together m n Γ s t o
meeting_together Γ s m n e cs ds p q h k one t o (together t1 t2 o1 o2 w c d1 d2) = meeting_behind Γ s m n e cs ds p q h k one t1 t2 t o1 o2 o w c d1 d2

-- two events that meet
pub meeting_sound : (Γ : Environment) (s : Values) (m n : Meaning) (e : Event) (cs ds : List (ℕ × ℕ)) (p q : Meaning) → Sound Γ s m (Some e) cs p
    → Sound Γ s n (Some (counterpart e)) ds q → OneChanges p q cs ds → Sound Γ s (beside m n) None (cs ++ ds) (beside p q)
meeting_sound Γ s m n e cs ds p q h k one = record { behind = meeting_together Γ s m n e cs ds p q h k one }

-- ---- forth: a behaviour of both comes of their steps

-- what the steps of one ignore of the other's, and that their events are in scope
pub record Clear (A B : Type 0) (f : A → Meaning) (g : B → Meaning) (M : Step A → Type 0) (N : Step B → Type 0) (Γ : Environment) (m n : Meaning) : Type 0 where
  pub first_aside : (k : Step A) → M k → IgnoresChanges n k.changes
  pub second_aside : (l : Step B) → N l → IgnoresChanges m l.changes
  pub both_aside : (k : Step A) (l : Step B) → M k → N l → answers k.event l.event ≡ true → OneChanges (f k.next) (g l.next) k.changes l.changes
  pub scope : (k : Step A) (e : Event) → M k → k.event ≡ Some e → in_scope Γ e ≡ true

-- a behaviour of both comes of rest, of a step of one, or of two events that meet
pub data TwoUnfolded (A B : Type 0) (f : A → Meaning) (g : B → Meaning) (M : Step A → Type 0) (N : Step B → Type 0) (m n : Meaning) (d : Bool)
    (Γ : Environment) (s : Values) : Trace → Outcome → Type 0 where
  both_end : d ≡ true → ((k : Step A) → M k → ⊥) → ((l : Step B) → N l → ⊥) → TwoUnfolded A B f g M N m n d Γ s [] (ended s)
  both_wait : {X : EventSet} → d ≡ false → ((k : Step A) → M k → outside X k.event ≡ true) → ((l : Step B) → N l → outside X l.event ≡ true)
      → ((k : Step A) (l : Step B) → M k → N l → answers k.event l.event ≡ true → ⊥) → TwoUnfolded A B f g M N m n d Γ s [] (refusing X)
  first_moves : {t : Trace} {o : Outcome} (k : Step A) (a : Trace) → M k → t ≡ seen k.event a → Together (f k.next) n Γ (changed k.changes s) a o
      → TwoUnfolded A B f g M N m n d Γ s t o
  second_moves : {t : Trace} {o : Outcome} (l : Step B) (a : Trace) → N l → t ≡ seen l.event a → Together m (g l.next) Γ (changed l.changes s) a o
      → TwoUnfolded A B f g M N m n d Γ s t o
  both_move : {t : Trace} {o : Outcome} (k : Step A) (l : Step B) → M k → N l → answers k.event l.event ≡ true
      → Together (f k.next) (g l.next) Γ (changed (k.changes ++ l.changes) s) t o → TwoUnfolded A B f g M N m n d Γ s t o

-- each does what it leaves from its own changes, so both do what both leave from all changes
both_joined : (p q : Meaning) (Γ : Environment) (s : Values) (cs ds : List (ℕ × ℕ)) → OneChanges p q cs ds → (t1 t2 t : Trace) (o1 o2 o : Outcome)
    → Weave t1 t2 t → Combines Γ s o1 o2 o → p.does Γ (changed cs s) t1 o1 → q.does Γ (changed ds s) t2 o2 → Together p q Γ (changed (cs ++ ds) s) t o
both_joined p q Γ s cs ds (second_changes i) t1 t2 t o1 o2 o w c d1 d2 =
    let k = first_changed p Γ s t1 ds i o1 o2 o c d1 in together t1 t2 k.other o2 w k.combines k.does d2
both_joined p q Γ s cs ds (first_changes i) t1 t2 t o1 o2 o w c d1 d2 =
    let k = second_changed q Γ s t2 cs i o1 o2 o c d2 in
    let P : List (ℕ × ℕ) → Type 0 = λ es. Together p q Γ (changed es s) t o in
    subst P (sym (append-nil cs)) (together t1 t2 o1 k.other w k.combines d1 k.does)

-- where each refuses what the other doesn't answer, no events of both meet
no_answer : (Γ : Environment) (X Y : EventSet) (u v : Option Event) → ((e : Event) → u ≡ Some e → in_scope Γ e ≡ true)
    → outside (refused_with Γ X Y) u ≡ true → outside (refused_with Γ X (answered Y)) v ≡ true → answers u v ≡ true → ⊥
no_answer Γ X Y None v scope h k a = false_not_true a
no_answer Γ X Y (Some e) None scope h k a = false_not_true a
no_answer Γ X Y (Some e) (Some f) scope h k a =
    let same : f ≡ counterpart e = same_events f (counterpart e) a in
    let first : (X e || (in_scope Γ e && Y e)) ≡ false = not-true (X e || (in_scope Γ e && Y e)) h in
    let quiet : Y e ≡ false = and_second (in_scope Γ e) (Y e) (or_parts (X e) (in_scope Γ e && Y e) first).1 (scope e refl) in
    let P : Event → Type 0 = λ z. not (X z || (in_scope Γ z && not (Y (counterpart z)))) ≡ true in
    let g : Event = counterpart e in
    let second : (X g || (in_scope Γ g && not (Y (counterpart g)))) ≡ false = not-true (X g || (in_scope Γ g && not (Y (counterpart g)))) (subst P same k) in
    let loud : not (Y (counterpart g)) ≡ false = and_second (in_scope Γ g) (not (Y (counterpart g))) (or_parts (X g) (in_scope Γ g && not (Y (counterpart g))) second).1 (scope e refl) in
    let Q : Event → Type 0 = λ z. not (Y z) ≡ false in
    clash (Y e) (not-false (Y e) (subst Q (turned_twice e) loud)) quiet

-- what is refused with more is refused alone
outside_less : (Γ : Environment) (X Y : EventSet) (v : Option Event) → outside (refused_with Γ X Y) v ≡ true → outside X v ≡ true
outside_less Γ X Y None h = h
outside_less Γ X Y (Some e) h = let k = or_parts (X e) (in_scope Γ e && Y e) (not-true (X e || (in_scope Γ e && Y e)) h) in ap not k.0

weave_done : (R : Trace → Type 0) (t : Trace) → Weave [] [] t → R [] → R t
weave_done R t both_done h = h

module _ (A B : Type 0) (f : A → Meaning) (g : B → Meaning) (M : Step A → Type 0) (N : Step B → Type 0) (m n : Meaning) (x1 x2 : Bool)
    (Γ : Environment) (s : Values) (clear : Clear A B f g M N Γ m n) where
  -- both rest
  rest_ends : (o : Outcome) → (r1 r2 : Values) → r1 ≡ s → r2 ≡ s → x1 ≡ true → x2 ≡ true → ((k : Step A) → M k → ⊥) → ((l : Step B) → N l → ⊥)
      → Combines Γ s (ended r1) (ended r2) o → TwoUnfolded A B f g M N m n (x1 && x2) Γ s [] o
  rest_ends o r1 r2 e1 e2 i j no1 idle2 (both_ended {s' = r} e) =
      let whole : s ≡ r = sym (e ∙ (ap (λ u. join s u r2) e1 ∙ (ap (λ u. join s s u) e2 ∙ join_none s s))) in
      let P : Values → Type 0 = λ u. TwoUnfolded A B f g M N m n (x1 && x2) Γ s [] (ended u) in
      subst P whole (both_end (and_from x1 x2 i j) no1 idle2)

  rest_first_ends : (X : EventSet) (o : Outcome) → (r : Values) → x2 ≡ false → ((k : Step A) → M k → ⊥)
      → ((l : Step B) → N l → outside X l.event ≡ true) → Combines Γ s (ended r) (refusing X) o → TwoUnfolded A B f g M N m n (x1 && x2) Γ s [] o
  rest_first_ends X o r j idle out first_ended = both_wait (and_right x1 x2 j) (λ k i. absurd (idle k i)) out (λ k l i h a. idle k i)

  rest_second_ends : (X : EventSet) (o : Outcome) → (r : Values) → x1 ≡ false → ((k : Step A) → M k → outside X k.event ≡ true)
      → ((l : Step B) → N l → ⊥) → Combines Γ s (refusing X) (ended r) o → TwoUnfolded A B f g M N m n (x1 && x2) Γ s [] o
  rest_second_ends X o r j out idle second_ended = both_wait (and_left x1 x2 j) out (λ l i. absurd (idle l i)) (λ k l i h a. idle l h)

  rest_waits : (Z W : EventSet) (o : Outcome) → x1 ≡ false → ((k : Step A) → M k → outside Z k.event ≡ true)
      → ((l : Step B) → N l → outside W l.event ≡ true) → Combines Γ s (refusing Z) (refusing W) o → TwoUnfolded A B f g M N m n (x1 && x2) Γ s [] o
  rest_waits Z W o j out1 out2 (neither_ended X Y) =
      both_wait (and_left x1 x2 j) (λ k i. outside_less Γ X Y k.event (out1 k i)) (λ l i. outside_less Γ X (answered Y) l.event (out2 l i))
      (λ k l i h a. no_answer Γ X Y k.event l.event (λ e c. clear.scope k e i c) (out1 k i) (out2 l h) a)

  -- one moves
  first_takes : (k : Step A) → M k → (a t2 b t : Trace) (o1 o2 o : Outcome) → t ≡ seen k.event b → Weave a t2 b → Combines Γ s o1 o2 o
      → (f k.next).does Γ (changed k.changes s) a o1 → n.does Γ s t2 o2 → TwoUnfolded A B f g M N m n (x1 && x2) Γ s t o
  first_takes k i a t2 b t o1 o2 o e w c dk d2 =
      let j = second_changed n Γ s t2 k.changes (clear.first_aside k i) o1 o2 o c d2 in
      first_moves k b i e (together a t2 o1 j.other w j.combines dk j.does)

  second_takes : (l : Step B) → N l → (t1 a b t : Trace) (o1 o2 o : Outcome) → t ≡ seen l.event b → Weave t1 a b → Combines Γ s o1 o2 o
      → m.does Γ s t1 o1 → (g l.next).does Γ (changed l.changes s) a o2 → TwoUnfolded A B f g M N m n (x1 && x2) Γ s t o
  second_takes l i t1 a b t o1 o2 o e w c d1 dl =
      let j = first_changed m Γ s t1 l.changes (clear.second_aside l i) o1 o2 o c d1 in
      second_moves l b i e (together t1 a j.other o2 w j.combines j.does dl)

  both_take : (k : Step A) (l : Step B) → M k → N l → (e h : Event) → k.event ≡ Some e → l.event ≡ Some h → h ≡ counterpart e
      → (a b t : Trace) (o1 o2 o : Outcome) → Weave a b t → Combines Γ s o1 o2 o
      → (f k.next).does Γ (changed k.changes s) a o1 → (g l.next).does Γ (changed l.changes s) b o2 → TwoUnfolded A B f g M N m n (x1 && x2) Γ s t o
  both_take k l i j e h ek el same a b t o1 o2 o w c dk dl =
      let P : Option Event → Type 0 = λ v. answers v l.event ≡ true in
      let Q : Option Event → Type 0 = λ v. answers (Some e) v ≡ true in
      let R : Event → Type 0 = λ z. same_event z (counterpart e) ≡ true in
      let meets : answers k.event l.event ≡ true = subst P (sym ek) (subst Q (sym el) (subst R (sym same) (event_itself (counterpart e)))) in
      both_move k l i j meets (both_joined (f k.next) (g l.next) Γ s k.changes l.changes (clear.both_aside k l i j meets) a b t o1 o2 o w c dk dl)

  -- both would move with an event
  both_seen : (k : Step A) (l : Step B) → M k → N l → (e h : Event) → k.event ≡ Some e → l.event ≡ Some h → (a b t : Trace) (o1 o2 o : Outcome)
      → Weave (e ∷ a) (h ∷ b) t → Combines Γ s o1 o2 o → m.does Γ s (e ∷ a) o1 → n.does Γ s (h ∷ b) o2
      → (f k.next).does Γ (changed k.changes s) a o1 → (g l.next).does Γ (changed l.changes s) b o2 → TwoUnfolded A B f g M N m n (x1 && x2) Γ s t o
  both_seen k l i j e h ek el a b t o1 o2 o (of_first {c = z} w) c d1 d2 dk dl = first_takes k i a (h ∷ b) z (e ∷ z) o1 o2 o (ap (λ v. seen v z) (sym ek)) w c dk d2
  both_seen k l i j e h ek el a b t o1 o2 o (of_second {c = z} w) c d1 d2 dk dl = second_takes l j (e ∷ a) b z (h ∷ z) o1 o2 o (ap (λ v. seen v z) (sym el)) w c d1 dl
  both_seen k l i j e h ek el a b t o1 o2 o (unseen same w) c d1 d2 dk dl = both_take k l i j e h ek el same a b t o1 o2 o w c dk dl

  -- the first would move with an event, the second moves
  second_after : (k : Step A) (l : Step B) → M k → N l → (e : Event) → k.event ≡ Some e → (v : Option Event) → l.event ≡ v → (a b t2 t : Trace)
      → (o1 o2 o : Outcome) → t2 ≡ seen v b → Weave (e ∷ a) t2 t → Combines Γ s o1 o2 o → m.does Γ s (e ∷ a) o1 → n.does Γ s t2 o2
      → (f k.next).does Γ (changed k.changes s) a o1 → (g l.next).does Γ (changed l.changes s) b o2 → TwoUnfolded A B f g M N m n (x1 && x2) Γ s t o
  second_after k l i j e ek None el a b t2 t o1 o2 o same w c d1 d2 dk dl =
      let P : Trace → Type 0 = λ r. Weave (e ∷ a) r t in
      second_takes l j (e ∷ a) b t t o1 o2 o (ap (λ v. seen v t) (sym el)) (subst P same w) c d1 dl
  second_after k l i j e ek (Some h) el a b t2 t o1 o2 o same w c d1 d2 dk dl =
      let P : Trace → Type 0 = λ r. Weave (e ∷ a) r t in
      let Q : Trace → Type 0 = λ r. n.does Γ s r o2 in
      both_seen k l i j e h ek el a b t o1 o2 o (subst P same w) c d1 (subst Q same d2) dk dl

  -- the first moves with an event where the second has none
  first_only : (k : Step A) → M k → (e : Event) → k.event ≡ Some e → (a t : Trace) (o1 o2 o : Outcome) → Weave (e ∷ a) [] t → Combines Γ s o1 o2 o
      → (f k.next).does Γ (changed k.changes s) a o1 → n.does Γ s [] o2 → TwoUnfolded A B f g M N m n (x1 && x2) Γ s t o
  first_only k i e ek a t o1 o2 o (of_first {c = z} w) c dk d2 = first_takes k i a [] z (e ∷ z) o1 o2 o (ap (λ v. seen v z) (sym ek)) w c dk d2

  second_only : (l : Step B) → N l → (e : Event) → l.event ≡ Some e → (b t : Trace) (o1 o2 o : Outcome) → Weave [] (e ∷ b) t → Combines Γ s o1 o2 o
      → m.does Γ s [] o1 → (g l.next).does Γ (changed l.changes s) b o2 → TwoUnfolded A B f g M N m n (x1 && x2) Γ s t o
  second_only l j e el b t o1 o2 o (of_second {c = z} w) c d1 dl = second_takes l j [] b z (e ∷ z) o1 o2 o (ap (λ v. seen v z) (sym el)) w c d1 dl

  second_alone : (l : Step B) → N l → (v : Option Event) → l.event ≡ v → (b t2 t : Trace) (o1 o2 o : Outcome) → t2 ≡ seen v b → Weave [] t2 t
      → Combines Γ s o1 o2 o → m.does Γ s [] o1 → (g l.next).does Γ (changed l.changes s) b o2 → TwoUnfolded A B f g M N m n (x1 && x2) Γ s t o
  second_alone l j None el b t2 t o1 o2 o same w c d1 dl =
      let P : Trace → Type 0 = λ r. Weave [] r t in
      second_takes l j [] b t t o1 o2 o (ap (λ v. seen v t) (sym el)) (subst P same w) c d1 dl
  second_alone l j (Some e) el b t2 t o1 o2 o same w c d1 dl =
      let P : Trace → Type 0 = λ r. Weave [] r t in second_only l j e el b t o1 o2 o (subst P same w) c d1 dl

  first_seen : (k : Step A) → M k → (e : Event) → k.event ≡ Some e → (a t2 t : Trace) (o1 o2 o : Outcome) → Weave (e ∷ a) t2 t → Combines Γ s o1 o2 o
      → m.does Γ s (e ∷ a) o1 → n.does Γ s t2 o2 → (f k.next).does Γ (changed k.changes s) a o1 → Unfolded B g N x2 Γ s t2 o2
      → TwoUnfolded A B f g M N m n (x1 && x2) Γ s t o
  first_seen k i e ek a t2 t o1 o2 o w c d1 d2 dk (ends h idle) = first_only k i e ek a t o1 o2 o w c dk d2
  first_seen k i e ek a t2 t o1 o2 o w c d1 d2 dk (waits h out) = first_only k i e ek a t o1 o2 o w c dk d2
  first_seen k i e ek a t2 t o1 o2 o w c d1 d2 dk (moves l b j same dl) = second_after k l i j e ek l.event refl a b t2 t o1 o2 o same w c d1 d2 dk dl

  first_at : (k : Step A) → M k → (v : Option Event) → k.event ≡ v → (a t1 t2 t : Trace) (o1 o2 o : Outcome) → t1 ≡ seen v a → Weave t1 t2 t
      → Combines Γ s o1 o2 o → m.does Γ s t1 o1 → n.does Γ s t2 o2 → (f k.next).does Γ (changed k.changes s) a o1 → Unfolded B g N x2 Γ s t2 o2
      → TwoUnfolded A B f g M N m n (x1 && x2) Γ s t o
  first_at k i None ek a t1 t2 t o1 o2 o same w c d1 d2 dk u =
      let P : Trace → Type 0 = λ r. Weave r t2 t in
      first_takes k i a t2 t t o1 o2 o (ap (λ v. seen v t) (sym ek)) (subst P same w) c dk d2
  first_at k i (Some e) ek a t1 t2 t o1 o2 o same w c d1 d2 dk u =
      let P : Trace → Type 0 = λ r. Weave r t2 t in
      let Q : Trace → Type 0 = λ r. m.does Γ s r o1 in
      first_seen k i e ek a t2 t o1 o2 o (subst P same w) c (subst Q same d1) d2 dk u

  -- the first is over, or waits
  after_end : (t2 t : Trace) (o2 o : Outcome) → x1 ≡ true → ((k : Step A) → M k → ⊥) → Weave [] t2 t → Combines Γ s (ended s) o2 o → m.does Γ s [] (ended s)
      → Unfolded B g N x2 Γ s t2 o2 → TwoUnfolded A B f g M N m n (x1 && x2) Γ s t o
  after_end t2 t o2 o i idle w c d1 (ends j idle2) = weave_done (λ r. TwoUnfolded A B f g M N m n (x1 && x2) Γ s r o) t w (rest_ends o s s refl refl i j idle idle2 c)
  after_end t2 t o2 o i idle w c d1 (waits {X = X} j out) = weave_done (λ r. TwoUnfolded A B f g M N m n (x1 && x2) Γ s r o) t w (rest_first_ends X o s j idle out c)
  after_end t2 t o2 o i idle w c d1 (moves l b j same dl) = second_alone l j l.event refl b t2 t (ended s) o2 o same w c d1 dl

  after_wait : (t2 t : Trace) (Z : EventSet) (o2 o : Outcome) → x1 ≡ false → ((k : Step A) → M k → outside Z k.event ≡ true) → Weave [] t2 t
      → Combines Γ s (refusing Z) o2 o → m.does Γ s [] (refusing Z) → Unfolded B g N x2 Γ s t2 o2 → TwoUnfolded A B f g M N m n (x1 && x2) Γ s t o
  after_wait t2 t Z o2 o i out w c d1 (ends j idle) = weave_done (λ r. TwoUnfolded A B f g M N m n (x1 && x2) Γ s r o) t w (rest_second_ends Z o s i out idle c)
  after_wait t2 t Z o2 o i out w c d1 (waits {X = W} j out2) = weave_done (λ r. TwoUnfolded A B f g M N m n (x1 && x2) Γ s r o) t w (rest_waits Z W o i out out2 c)
  after_wait t2 t Z o2 o i out w c d1 (moves l b j same dl) = second_alone l j l.event refl b t2 t (refusing Z) o2 o same w c d1 dl

  two_at : (t1 t2 t : Trace) (o1 o2 o : Outcome) → Weave t1 t2 t → Combines Γ s o1 o2 o → m.does Γ s t1 o1 → n.does Γ s t2 o2
      → Unfolded A f M x1 Γ s t1 o1 → Unfolded B g N x2 Γ s t2 o2 → TwoUnfolded A B f g M N m n (x1 && x2) Γ s t o
  two_at t1 t2 t o1 o2 o w c d1 d2 (ends i idle) u = after_end t2 t o2 o i idle w c d1 u
  two_at t1 t2 t o1 o2 o w c d1 d2 (waits {X = Z} i out) u = after_wait t2 t Z o2 o i out w c d1 u
  two_at t1 t2 t o1 o2 o w c d1 d2 (moves k a i e dk) u = first_at k i k.event refl a t1 t2 t o1 o2 o e w c d1 d2 dk u

  -- where the steps of each are all that each can do, these are all that both can do
  pub two_unfolds : Unfolds A f M x1 Γ s m → Unfolds B g N x2 Γ s n → (t : Trace) (o : Outcome) → Together m n Γ s t o
      → TwoUnfolded A B f g M N m n (x1 && x2) Γ s t o
  two_unfolds h1 h2 t o (together t1 t2 o1 o2 w c d1 d2) = two_at t1 t2 t o1 o2 o w c d1 d2 (h1.comes t1 o1 d1) (h2.comes t2 o2 d2)

-- ---- at rest

module _ (A B : Type 0) (M : Step A → Type 0) (N : Step B → Type 0) (Z : EventSet) (Γ : Environment) (s : Values) (m n : Meaning) where
  outside_more : (X Y : EventSet) (v : Option Event) → outside X v ≡ true → ((e : Event) → v ≡ Some e → Y e ≡ false) → outside (refused_with Γ X Y) v ≡ true
  outside_more X Y None h k = h
  outside_more X Y (Some e) h k = not_from_false (X e || (in_scope Γ e && Y e)) (or_from (X e) (in_scope Γ e && Y e) (not-true (X e) h) (and_right (in_scope Γ e) (Y e) (k e refl)))

  -- the counterpart of an event of the second is none of the first
  unanswered : Offers A M Z → (l : Step B) → N l → ((k : Step A) → M k → answers k.event l.event ≡ true → ⊥) → (e : Event) → l.event ≡ Some e
      → answered (λ z. not (Z z)) e ≡ false
  unanswered offers l j none e el = not_from_true (not (Z (counterpart e))) (not_from_false (Z (counterpart e)) (false_from_ne_true (Z (counterpart e)) (λ h.
      let k = offers.by_step (counterpart e) h in
      let P : Option Event → Type 0 = λ v. answers v l.event ≡ true in
      let Q : Option Event → Type 0 = λ v. answers (Some (counterpart e)) v ≡ true in
      let R : Event → Type 0 = λ z. same_event e z ≡ true in
      none k.0 k.1 (subst P (sym k.2) (subst Q (sym el) (subst R (sym (turned_twice e)) (event_itself e)))))))

  -- both rest where neither has a step that is seen in the set, and no two events meet
  pub two_at_rest : (x1 x2 : Bool) → AtRest A M x1 Γ s m → AtRest B N x2 Γ s n → Offers A M Z → (x1 && x2) ≡ false → (X : EventSet)
      → ((k : Step A) → M k → outside X k.event ≡ true) → ((l : Step B) → N l → outside X l.event ≡ true)
      → ((k : Step A) (l : Step B) → M k → N l → answers k.event l.event ≡ true → ⊥) → Together m n Γ s [] (refusing X)
  two_at_rest true true h1 h2 offers i X out1 out2 none = true_not_false i
  two_at_rest true false h1 h2 offers i X out1 out2 none = together [] [] (ended s) (refusing X) both_done first_ended (h1.over refl) (h2.refused refl X out2)
  two_at_rest false true h1 h2 offers i X out1 out2 none = together [] [] (refusing X) (ended s) both_done second_ended (h1.refused refl X out1) (h2.over refl)
  two_at_rest false false h1 h2 offers i X out1 out2 none =
      let Y : EventSet = λ z. not (Z z) in
      together [] [] (refusing (refused_with Γ X Y)) (refusing (refused_with Γ X (answered Y))) both_done (neither_ended X Y)
      (h1.refused refl (refused_with Γ X Y) (λ k j. outside_more X Y k.event (out1 k j) (λ e ek. not_from_true (Z e) (offers.offered k e j ek))))
      (h2.refused refl (refused_with Γ X (answered Y)) (λ l j. outside_more X (answered Y) l.event (out2 l j) (λ e el. unanswered offers l j (λ k i2 a. none k l i2 j a) e el)))

  -- both are over
  pub two_over : (x1 x2 : Bool) → AtRest A M x1 Γ s m → AtRest B N x2 Γ s n → (x1 && x2) ≡ true → Together m n Γ s [] (ended s)
  two_over true true h1 h2 i = together [] [] (ended s) (ended s) both_done (both_ended (sym (join_none s s))) (h1.over refl) (h2.over refl)
  two_over true false h1 h2 i = false_not_true i
  two_over false x2 h1 h2 i = false_not_true i
