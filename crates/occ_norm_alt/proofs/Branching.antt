-- What an ALT does by its branches, from the state of an assignment.
use Rattle.std.proofs.Common.{◌≡◌, ◌<◌, ◌^◌, ℕ, Bool, true, false, ◌&&◌, ◌++◌, List, [], ◌∷◌, MatchBool, refl, sym, ap, ◌∙◌, subst, inl, inr, ⊎_elim}
use Rattle.std.specs.Prelude.{◌↔◌, ◌⊎◌}
use Rattle.std.proofs.lemmas.Bool.{and_from, and_parts, cases_Bool, false≢true}
use Rattle.occ_syntax.specs.occ_base.declared.event.Event.{Event}
use Rattle.occ_syntax.specs.occ_base.declared.names.Name.{Name}
use Rattle.occ_syntax.specs.occ_base.declared.width.Width.{Width}
use Rattle.occ_syntax.specs.Eval.{is_true}
use Rattle.occ_syntax.specs.Meaning.{After, Alternates, Guards, IsQuiet, Outcome, Taken, at_event, at_ready, ended, guards, meaning, refusing, stable, taken}
use Rattle.occ_syntax.specs.Scopes.{Environment, EventSet, Trace, Values}
use Rattle.occ_syntax.specs.Tree.{Branches, Tree, Waiting, alt, and_branch, no_branch, ready}
use Rattle.occ_norm_frame.specs.occ_bits.Layout.{state_of}
use Rattle.occ_norm_frame.specs.occ_mdd.declared.map.MapId.{MapId}
use Rattle.occ_norm_frame.specs.occ_node.declared.node.NodeId.{NodeId}
use Rattle.occ_norm_frame.specs.occ_node.declared.world.World.{World}
use Rattle.occ_norm_frame.specs.occ_weave.Weave.{is_open, is_silent_on, off_channels}
use Rattle.occ_norm_frame.specs.After.{QuietlyFails, Resumes}
use Rattle.occ_norm_alt.specs.Alternation.{EachEnabled, Settles, SomeEnabled}
use Rattle.occ_norm_alt.specs.Offering.{Leads, Takes}

-- ---- some enabled branch
pub some_map : (Γ : Environment) (s : Values) (P Q : Waiting → Tree → Type 0) → ((wait : Waiting) (p : Tree) → P wait p → Q wait p) → (bs : Branches) → SomeEnabled Γ s P bs → SomeEnabled Γ s Q bs
some_map Γ s P Q f no_branch h = absurd h
some_map Γ s P Q f (and_branch e wait p bs) h = elim h [ inl k ↦ inl (k.0, f wait p k.1) | inr k ↦ inr (some_map Γ s P Q f bs k) ]

pub some_iff : (Γ : Environment) (s : Values) (P Q : Waiting → Tree → Type 0) → ((wait : Waiting) (p : Tree) → P wait p ↔ Q wait p) → (bs : Branches) → SomeEnabled Γ s P bs ↔ SomeEnabled Γ s Q bs
some_iff Γ s P Q f bs = (some_map Γ s P Q (λ wait p. (f wait p).0) bs, some_map Γ s Q P (λ wait p. (f wait p).1) bs)

-- what follows from one branch, of which anything else may be said
pub some_elim : (Γ : Environment) (s : Values) (P : Waiting → Tree → Type 0) (C : Type 0) (bs : Branches) → SomeEnabled Γ s P bs
    → ((wait : Waiting) (p : Tree) → P wait p → ((Q : Waiting → Tree → Type 0) → Q wait p → SomeEnabled Γ s Q bs) → C) → C
some_elim Γ s P C no_branch h f = absurd h
some_elim Γ s P C (and_branch e wait p bs) h f = elim h [
  | inl k ↦ f wait p k.1 (λ Q q. inl (k.0, q))
  | inr k ↦ some_elim Γ s P C bs k (λ v q l inject. f v q l (λ Q m. inr (inject Q m)))
]

-- ---- what a branch does
abbrev pub Goes : Environment → Values → Trace → Outcome → Waiting → Tree → Type 0
Goes Γ s t o wait p = (u : Values) × (a : Trace) × Taken Γ s wait t u a × (meaning p).does Γ u a o

pub goes_in : (Γ : Environment) (s : Values) (t : Trace) (o : Outcome) (bs : Branches) → SomeEnabled Γ s (Goes Γ s t o) bs → (guards bs).goes Γ s t o
goes_in Γ s t o no_branch h = absurd h
goes_in Γ s t o (and_branch e wait p bs) h = elim h [ inl k ↦ inl k | inr k ↦ inr (goes_in Γ s t o bs k) ]

pub ready_taken : (Γ : Environment) (s : Values) (wait : Waiting) (t : Trace) → wait ≡ ready → Taken Γ s wait t s t
ready_taken Γ s wait t e = subst (λ v. Taken Γ s v t s t) (sym e) at_ready

abbrev pub WentReady : Environment → Values → Trace → Outcome → Waiting → Tree → Type 0
WentReady Γ s t o wait p = (wait ≡ ready) × (meaning p).does Γ s t o

pub record WentOn (layout : List (Name × Width × ℕ)) (Γ : Environment) (s : Values) (t : Trace) (o : Outcome) (wait : Waiting) (p : Tree) : Type 0 where
  pub e : Event
  pub rest : Trace
  pub y : ℕ
  pub whole : t ≡ e ∷ rest
  pub below : y < 2 ^ 64
  pub after : After Γ s wait e (state_of layout y)
  pub done : (meaning p).does Γ (state_of layout y) rest o

went : (layout : List (Name × Width × ℕ)) (Γ : Environment) (s : Values) (t : Trace) (o : Outcome) (wait : Waiting) (p : Tree) (u : Values) (a : Trace)
    → ((e : Event) (v : Values) → After Γ s wait e v → (y : ℕ) × (y < 2 ^ 64) × (v ≡ state_of layout y)) → Taken Γ s wait t u a → (meaning p).does Γ u a o → WentReady Γ s t o wait p ⊎ WentOn layout Γ s t o wait p
went layout Γ s t o wait p u a settles at_ready d = inl (refl, d)
went layout Γ s t o wait p u a settles (at_event {w = b} {e = e} {u = r} k) d =
    let found = settles e r k in
    inr (record { e = e; rest = a; y = found.0; whole = refl; below = found.1; after = subst (λ v. After Γ s b e v) found.2 k; done = subst (λ v. (meaning p).does Γ v a o) found.2 d })

pub goes_out : (layout : List (Name × Width × ℕ)) (Γ : Environment) (x : ℕ) (t : Trace) (o : Outcome) (bs : Branches) → EachEnabled Γ (state_of layout x) (λ wait p. Settles layout Γ x wait) bs → (guards bs).goes Γ (state_of layout x) t o
    → SomeEnabled Γ (state_of layout x) (λ wait p. WentReady Γ (state_of layout x) t o wait p ⊎ WentOn layout Γ (state_of layout x) t o wait p) bs
goes_out layout Γ x t o no_branch each h = absurd h
goes_out layout Γ x t o (and_branch e wait p bs) each h = elim h [
  | inl k ↦ inl (k.0, went layout Γ (state_of layout x) t o wait p k.1.0 k.1.1 (each.0 k.0) k.1.2 k.1.3)
  | inr k ↦ inr (goes_out layout Γ x t o bs each.1 k)
]

pub alternates_out : (g : Guards) (Γ : Environment) (s : Values) (t : Trace) (Y : EventSet) → Alternates g Γ s t (refusing Y) → ((t ≡ []) × g.refuses Γ s Y) ⊎ g.goes Γ s t (refusing Y)
alternates_out g Γ s t Y (stable r) = inl (refl, r)
alternates_out g Γ s t Y (taken d) = inr d

pub alternates_end : (g : Guards) (Γ : Environment) (s : Values) (t : Trace) (u : Values) → Alternates g Γ s t (ended u) → g.goes Γ s t (ended u)
alternates_end g Γ s t u (taken d) = d

-- ---- what is refused before any event
match_from : (b : Bool) (A B : Type 0) → (b ≡ true → A) → (b ≡ false → B) → MatchBool b A B
match_from true A B f g = f refl
match_from false A B f g = g refl

match_true : (b : Bool) (A B : Type 0) → b ≡ true → MatchBool b A B → A
match_true true A B e h = h
match_true false A B e h = absurd (false≢true e)

module _ (layout : List (Name × Width × ℕ)) (closed : List Name) (Γ : Environment) (x : ℕ) (X : Event → Bool) where
  off_event : (e : Event) → (is_open closed e ≡ true → X e ≡ false) → off_channels closed X e ≡ false
  off_event e h = ⊎_elim
      (λ (t : is_open closed e ≡ true). ap (λ c. c && X e) t ∙ h t)
      (λ (t : is_open closed e ≡ false). ap (λ c. c && X e) t)
      (cases_Bool (is_open closed e))

  pub refuses_from : (bs : Branches) → (SomeEnabled Γ (state_of layout x) (λ wait p. wait ≡ ready) bs → ⊥)
      → ((e : Event) → SomeEnabled Γ (state_of layout x) (λ wait p. Takes layout closed Γ wait x e) bs → X e ≡ false) → (guards bs).refuses Γ (state_of layout x) (off_channels closed X)
  refuses_from no_branch none all = tt
  refuses_from (and_branch e wait p bs) none all = (
    match_from (is_true Γ e (state_of layout x)) (IsQuiet Γ (state_of layout x) wait (off_channels closed X)) (Unit {0})
        (λ on. record {
          not_ready = λ r. none (inl (on, r));
          refused = λ f u k. off_event f (λ seen. all f (inl (on, record { seen = seen; s = u; after = k })));
        })
        (λ off. tt),
    refuses_from bs (λ h. none (inr h)) (λ f h. all f (inr h)),
  )

  pub never_ready : (bs : Branches) → (guards bs).refuses Γ (state_of layout x) (off_channels closed X) → SomeEnabled Γ (state_of layout x) (λ wait p. wait ≡ ready) bs → ⊥
  never_ready no_branch r h = absurd h
  never_ready (and_branch e wait p bs) r h = elim h [
    | inl k ↦ (match_true (is_true Γ e (state_of layout x)) (IsQuiet Γ (state_of layout x) wait (off_channels closed X)) (Unit {0}) k.0 r.0).not_ready k.1
    | inr k ↦ never_ready bs r.1 k
  ]

  pub refuses_out : (bs : Branches) → (guards bs).refuses Γ (state_of layout x) (off_channels closed X) → (e : Event) → SomeEnabled Γ (state_of layout x) (λ wait p. Takes layout closed Γ wait x e) bs → X e ≡ false
  refuses_out no_branch r f h = absurd h
  refuses_out (and_branch e wait p bs) r f h = elim h [
    | inl k ↦ sym (ap (λ c. c && X f) k.1.seen) ∙ (match_true (is_true Γ e (state_of layout x)) (IsQuiet Γ (state_of layout x) wait (off_channels closed X)) (Unit {0}) k.0 r.0).refused f k.1.s k.1.after
    | inr k ↦ refuses_out bs r.1 f k
  ]

-- ---- from the branches to the ALT
module _ (layout : List (Name × Width × ℕ)) (closed : List Name) (Γ : Environment) (x : ℕ) (bs : Branches) where
  pub quiet_ready : (t : List Event) (X : Event → Bool) → SomeEnabled Γ (state_of layout x) (λ wait p. (wait ≡ ready) × QuietlyFails layout closed Γ p x t X) bs → QuietlyFails layout closed Γ (alt bs) x t X
  quiet_ready t X h = some_elim Γ (state_of layout x) (λ wait p. (wait ≡ ready) × QuietlyFails layout closed Γ p x t X) (QuietlyFails layout closed Γ (alt bs) x t X) bs h
      (λ wait p k inject. (k.1.0, taken (goes_in Γ (state_of layout x) t (refusing (off_channels closed X)) bs (inject (Goes Γ (state_of layout x) t (refusing (off_channels closed X))) (state_of layout x, t, ready_taken Γ (state_of layout x) wait t k.0, k.1.1)))))

  pub quiet_event : (e : Event) (t : List Event) (X : Event → Bool) → SomeEnabled Γ (state_of layout x) (λ wait p. Leads layout closed Γ wait x e (λ y. QuietlyFails layout closed Γ p y t X)) bs → QuietlyFails layout closed Γ (alt bs) x (e ∷ t) X
  quiet_event e t X h = some_elim Γ (state_of layout x) (λ wait p. Leads layout closed Γ wait x e (λ y. QuietlyFails layout closed Γ p y t X)) (QuietlyFails layout closed Γ (alt bs) x (e ∷ t) X) bs h
      (λ wait p k inject. (
        and_from (is_open closed e) (is_silent_on closed t) k.seen k.behaved.0,
        taken (goes_in Γ (state_of layout x) (e ∷ t) (refusing (off_channels closed X)) bs (inject (Goes Γ (state_of layout x) (e ∷ t) (refusing (off_channels closed X))) (state_of layout k.y, t, at_event k.after, k.behaved.1))),
      ))

  module _ (w : World) (rest : MapId) (behaves : ℕ → NodeId → List Event → Bool) where
    pub resume_ready : (t : List Event) → SomeEnabled Γ (state_of layout x) (λ wait p. (wait ≡ ready) × Resumes w layout closed Γ p rest x behaves t) bs → Resumes w layout closed Γ (alt bs) rest x behaves t
    resume_ready t h = some_elim Γ (state_of layout x) (λ wait p. (wait ≡ ready) × Resumes w layout closed Γ p rest x behaves t) (Resumes w layout closed Γ (alt bs) rest x behaves t) bs h
        (λ wait p k inject. record {
          t1 = k.1.t1;
          t2 = k.1.t2;
          y = k.1.y;
          m = k.1.m;
          whole = k.1.whole;
          below = k.1.below;
          silent = k.1.silent;
          ended = taken (goes_in Γ (state_of layout x) k.1.t1 (ended (state_of layout k.1.y)) bs (inject (Goes Γ (state_of layout x) k.1.t1 (ended (state_of layout k.1.y)))
              (state_of layout x, k.1.t1, ready_taken Γ (state_of layout x) wait k.1.t1 k.0, k.1.ended)));
          leads = k.1.leads;
          behaved = k.1.behaved;
        })

    pub resume_event : (e : Event) (t : List Event) → SomeEnabled Γ (state_of layout x) (λ wait p. Leads layout closed Γ wait x e (λ y. Resumes w layout closed Γ p rest y behaves t)) bs → Resumes w layout closed Γ (alt bs) rest x behaves (e ∷ t)
    resume_event e t h = some_elim Γ (state_of layout x) (λ wait p. Leads layout closed Γ wait x e (λ y. Resumes w layout closed Γ p rest y behaves t)) (Resumes w layout closed Γ (alt bs) rest x behaves (e ∷ t)) bs h
        (λ wait p k inject. record {
          t1 = e ∷ k.behaved.t1;
          t2 = k.behaved.t2;
          y = k.behaved.y;
          m = k.behaved.m;
          whole = ap (λ u. e ∷ u) k.behaved.whole;
          below = k.behaved.below;
          silent = and_from (is_open closed e) (is_silent_on closed k.behaved.t1) k.seen k.behaved.silent;
          ended = taken (goes_in Γ (state_of layout x) (e ∷ k.behaved.t1) (ended (state_of layout k.behaved.y)) bs (inject (Goes Γ (state_of layout x) (e ∷ k.behaved.t1) (ended (state_of layout k.behaved.y)))
              (state_of layout k.y, k.behaved.t1, at_event k.after, k.behaved.ended)));
          leads = k.behaved.leads;
          behaved = k.behaved.behaved;
        })

  -- ---- from the ALT to the branches
  module _ (each : EachEnabled Γ (state_of layout x) (λ wait p. Settles layout Γ x wait) bs) where
    -- a branch at once, or one after the first event
    abbrev pub Came : List Event → (Tree → ℕ → List Event → Type 0) → Type 0
    Came t what = SomeEnabled Γ (state_of layout x) (λ wait p. (wait ≡ ready) × what p x t) bs
        ⊎ ((e : Event) × (u : List Event) × (t ≡ e ∷ u) × SomeEnabled Γ (state_of layout x) (λ wait p. Leads layout closed Γ wait x e (λ y. what p y u)) bs)

    pub came_quiet : (t : List Event) (X : Event → Bool) → is_silent_on closed t ≡ true → (guards bs).goes Γ (state_of layout x) t (refusing (off_channels closed X)) → Came t (λ p y u. QuietlyFails layout closed Γ p y u X)
    came_quiet t X silent g = some_elim Γ (state_of layout x) (λ wait p. WentReady Γ (state_of layout x) t (refusing (off_channels closed X)) wait p ⊎ WentOn layout Γ (state_of layout x) t (refusing (off_channels closed X)) wait p)
        (Came t (λ p y u. QuietlyFails layout closed Γ p y u X)) bs (goes_out layout Γ x t (refusing (off_channels closed X)) bs each g)
        (λ wait p k inject. ⊎_elim
        (λ (h : WentReady Γ (state_of layout x) t (refusing (off_channels closed X)) wait p). inl (inject (λ wait p. (wait ≡ ready) × QuietlyFails layout closed Γ p x t X) (h.0, (silent, h.1))))
        (λ (h : WentOn layout Γ (state_of layout x) t (refusing (off_channels closed X)) wait p).
        let parts = and_parts (is_open closed h.e) (is_silent_on closed h.rest) (sym (ap (is_silent_on closed) h.whole) ∙ silent) in
        inr (
          h.e,
          h.rest,
          h.whole,
          inject (λ wait p. Leads layout closed Γ wait x h.e (λ y. QuietlyFails layout closed Γ p y h.rest X))
              (record { seen = parts.0; y = h.y; below = h.below; after = h.after; behaved = (parts.1, h.done) }),
        ))
        k)

    module _ (w : World) (rest : MapId) (behaves : ℕ → NodeId → List Event → Bool) where
      pub came_resume : (t : List Event) → Resumes w layout closed Γ (alt bs) rest x behaves t → Came t (λ p y u. Resumes w layout closed Γ p rest y behaves u)
      came_resume t r = some_elim Γ (state_of layout x) (λ wait p. WentReady Γ (state_of layout x) r.t1 (ended (state_of layout r.y)) wait p ⊎ WentOn layout Γ (state_of layout x) r.t1 (ended (state_of layout r.y)) wait p)
          (Came t (λ p y u. Resumes w layout closed Γ p rest y behaves u)) bs
          (goes_out layout Γ x r.t1 (ended (state_of layout r.y)) bs each (alternates_end (guards bs) Γ (state_of layout x) r.t1 (state_of layout r.y) r.ended))
          (λ wait p k inject. ⊎_elim
          (λ (h : WentReady Γ (state_of layout x) r.t1 (ended (state_of layout r.y)) wait p). inl (inject (λ wait p. (wait ≡ ready) × Resumes w layout closed Γ p rest x behaves t)
          (h.0, record { t1 = r.t1; t2 = r.t2; y = r.y; m = r.m; whole = r.whole; below = r.below; silent = r.silent; ended = h.1; leads = r.leads; behaved = r.behaved })))
          (λ (h : WentOn layout Γ (state_of layout x) r.t1 (ended (state_of layout r.y)) wait p).
          let parts = and_parts (is_open closed h.e) (is_silent_on closed h.rest) (sym (ap (is_silent_on closed) h.whole) ∙ r.silent) in
          inr (
            h.e,
            h.rest ++ r.t2,
            r.whole ∙ ap (λ v. v ++ r.t2) h.whole,
            inject (λ wait p. Leads layout closed Γ wait x h.e (λ y. Resumes w layout closed Γ p rest y behaves (h.rest ++ r.t2)))
                (record {
                  seen = parts.0;
                  y = h.y;
                  below = h.below;
                  after = h.after;
                  behaved = record { t1 = h.rest; t2 = r.t2; y = r.y; m = r.m; whole = refl; below = r.below; silent = parts.1; ended = h.done; leads = r.leads; behaved = r.behaved };
                }),
          ))
          k)
