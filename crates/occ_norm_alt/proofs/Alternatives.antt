-- Maps of ALTs, and of a guard alone.
use Rattle.std.proofs.Common.{◌≡◌, ◌<◌, ◌^◌, ℕ, Bool, true, false, ◌++◌, List, [], Option, Some, None, refl, sym, ap, ◌∙◌, subst, inl, inr, ⊎_elim}
use Rattle.std.specs.Prelude.{◌↔◌, ◌⊎◌}
use Rattle.std.specs.Option.{IfSome}
use Rattle.std.specs.Int.Bits.{bit_and, bit_xor, xor_self, xor_zero_r}
use Rattle.std.proofs.lemmas.Bool.{false≢true}
use Rattle.std.proofs.lemmas.Option.{same_Some}
use Rattle.occ_syntax.specs.occ_base.declared.event.Event.{Event}
use Rattle.occ_syntax.specs.occ_base.declared.names.Name.{Name}
use Rattle.occ_syntax.specs.occ_base.declared.width.Width.{Width}
use Rattle.occ_syntax.specs.declared.scope.Kind.{Kind}
use Rattle.occ_syntax.specs.Meaning.{Outcome, ended, meaning, refusing}
use Rattle.occ_syntax.specs.Scopes.{Environment, Trace, Values}
use Rattle.occ_syntax.specs.Tree.{Branches, Exp, Tree, Waiting, alt, and_branch, input, no_branch, output, ready, receive, send, skip, truth}
use Rattle.occ_norm_frame.specs.occ_bits.Layout.{state_of}
use Rattle.occ_norm_frame.specs.occ_mdd.Maps.{value}
use Rattle.occ_norm_frame.specs.occ_mdd.declared.map.MapId.{MapId}
use Rattle.occ_norm_frame.specs.occ_node.World.{IsNode, fails, ends}
use Rattle.occ_norm_frame.specs.occ_node.declared.node.NodeId.{NodeId}
use Rattle.occ_norm_frame.specs.occ_node.declared.world.World.{World}
use Rattle.occ_norm_frame.specs.occ_follow.Sequence.{HasNodes}
use Rattle.occ_norm_frame.specs.occ_weave.Weave.{off_channels}
use Rattle.occ_norm_frame.proofs.from_weave.Growth.{trans_iff, iff_of_same}
use Rattle.occ_norm_frame.specs.Growth.{maybe_fails-grow, maybe_ends-grow}
use Rattle.occ_norm_frame.specs.Lifted.{Finished}
use Rattle.occ_norm_frame.specs.Maps.{Extends, Lifts, MayHaveNodes}
use Rattle.occ_norm_frame.proofs.Worlds.{has_nodes-extends, may_have-extends}
use Rattle.occ_norm_frame.specs.After.{IsAfter, IsOver, QuietlyFails, Resumes, change_of}
use Rattle.occ_norm_frame.specs.Placed.{IsFrame}
use Rattle.occ_norm_alt.specs.Alternation.{AreHeld, EndsThen, FailsThen, IsAlternation, IsReadyAt, IsWaitingAt, KnowsRest, Settles}
use Rattle.occ_norm_alt.specs.Offering.{At, IsGuarded, IsGuardedAt, Leads}
use Rattle.occ_norm_alt.proofs.Offering.{sum_iff}
use Rattle.occ_norm_alt.proofs.Making.{offering_grow, offering_same}
use Rattle.occ_norm_alt.proofs.Branching.{some_iff}
use Rattle.occ_norm_alt.proofs.Alternating.{alternated_ends, alternated_fails}
use Rattle.occ_norm_alt.proofs.Joining.{leads_iff, then_ends, then_fails}
use Rattle.occ_norm_alt.proofs.Guarding.{same_at}

-- ---- in a later world
module _ (v w : World) (k : Extends v w) (layout : List (Name × Width × ℕ)) (keep : ℕ) (closed : List Name) (Γ : Environment) (rest : MapId) (has : HasNodes v rest) where
  node : (y : ℕ) → y < 2 ^ 64 → (m : NodeId) → value v.maps rest y ≡ Some m → IsNode v m
  node y h m e = let found = has.nodes y h in subst (IsNode v) (same_Some found.0 m (sym found.1 ∙ e)) found.2

  resumes_iff : (p : Tree) (x : ℕ) (F G : ℕ → NodeId → List Event → Bool) → ((y : ℕ) (m : NodeId) (u : List Event) → IsNode v m → G y m u ≡ F y m u) → (t : List Event) → Resumes v layout closed Γ p rest x F t ↔ Resumes w layout closed Γ p rest x G t
  resumes_iff p x F G alike t = (
    λ s. record {
      t1 = s.t1;
      t2 = s.t2;
      y = s.y;
      m = s.m;
      whole = s.whole;
      below = s.below;
      silent = s.silent;
      ended = s.ended;
      leads = k.maps.same rest s.y has.known ∙ s.leads;
      behaved = alike s.y s.m s.t2 (node s.y s.below s.m s.leads) ∙ s.behaved;
    },
    λ s. let led : value v.maps rest s.y ≡ Some s.m = sym (k.maps.same rest s.y has.known) ∙ s.leads in
        record {
          t1 = s.t1;
          t2 = s.t2;
          y = s.y;
          m = s.m;
          whole = s.whole;
          below = s.below;
          silent = s.silent;
          ended = s.ended;
          leads = led;
          behaved = sym (alike s.y s.m s.t2 (node s.y s.below s.m led)) ∙ s.behaved;
        },
  )

  fails_iff : (p : Tree) (y : ℕ) (t : List Event) (X : Event → Bool) → FailsThen v layout closed Γ rest p y t X ↔ FailsThen w layout closed Γ rest p y t X
  fails_iff p y t X = sum_iff (λ q. q, λ q. q) (resumes_iff p y (λ z m u. fails v m u X) (λ z m u. fails w m u X) (λ z m u l. k.grows.same_fails m u X l) t)

  ends_iff : (x : ℕ) (p : Tree) (y : ℕ) (t : List Event) (z : ℕ) → EndsThen v layout keep closed Γ rest x p y t z ↔ EndsThen w layout keep closed Γ rest x p y t z
  ends_iff x p y t z = resumes_iff p y (λ last m u. ends v m u (bit_xor z (change_of keep x last))) (λ last m u. ends w m u (bit_xor z (change_of keep x last))) (λ last m u l. k.grows.same_ends m u (bit_xor z (change_of keep x last)) l) t

  own_iff : {A B C : Type 0} → B ↔ C → (A × B) ↔ (A × C)
  own_iff f = (λ h. (h.0, f.0 h.1), λ h. (h.0, f.1 h.1))

  module _ (bs : Branches) where
    ready_grow : (x : ℕ) (o : Option NodeId) → IfSome o (IsNode v) → IsReadyAt v layout keep closed Γ bs rest x o → IsReadyAt w layout keep closed Γ bs rest x o
    ready_grow x o known is = record {
      there = is.there;
      ready_fails = λ t X. trans_iff (iff_of_same _ _ (maybe_fails-grow v w k.grows o known t X)) (trans_iff (is.ready_fails t X)
          (some_iff Γ (state_of layout x) (λ wait p. (wait ≡ ready) × FailsThen v layout closed Γ rest p x t X) (λ wait p. (wait ≡ ready) × FailsThen w layout closed Γ rest p x t X) (λ wait p. own_iff (fails_iff p x t X)) bs));
      ready_ends = λ t z small. trans_iff (iff_of_same _ _ (maybe_ends-grow v w k.grows o known t z)) (trans_iff (is.ready_ends t z small)
          (some_iff Γ (state_of layout x) (λ wait p. (wait ≡ ready) × EndsThen v layout keep closed Γ rest x p x t z) (λ wait p. (wait ≡ ready) × EndsThen w layout keep closed Γ rest x p x t z) (λ wait p. own_iff (ends_iff x p x t z)) bs));
    }

    some_grow : KnowsRest w bs rest → (waiting readies : MapId) → HasNodes v waiting → MayHaveNodes v readies → IsAlternation v layout keep closed Γ bs rest waiting readies → IsAlternation w layout keep closed Γ bs rest waiting readies
    some_grow knows waiting readies hw hr is = record {
      rest_known = knows;
      settled = is.settled;
      waits = λ x a h e.
          offering_same w a _ _ _ _ _ _ (offering_grow v w k.grows a _ _ _ (is.waits x a h (sym (k.maps.same waiting x hw.known) ∙ e)))
          (λ f. (λ l. l, λ l. l))
          (λ f t X. some_iff Γ (state_of layout x) (λ wait p. Leads layout closed Γ wait x f (λ y. FailsThen v layout closed Γ rest p y t X)) (λ wait p. Leads layout closed Γ wait x f (λ y. FailsThen w layout closed Γ rest p y t X))
          (λ wait p. leads_iff layout closed Γ wait x f _ _ (λ y l. fails_iff p y t X)) bs)
          (λ f t z small. some_iff Γ (state_of layout x) (λ wait p. Leads layout closed Γ wait x f (λ y. EndsThen v layout keep closed Γ rest x p y t z)) (λ wait p. Leads layout closed Γ wait x f (λ y. EndsThen w layout keep closed Γ rest x p y t z))
          (λ wait p. leads_iff layout closed Γ wait x f _ _ (λ y l. ends_iff x p y t z)) bs);
      readies = λ x h. subst (λ o. IsReadyAt w layout keep closed Γ bs rest x o) (sym (k.maps.same readies x hr.known)) (ready_grow x (value v.maps readies x) (hr.nodes x h) (is.readies x h));
    }

-- no branch says nothing of what follows
none_grow : (v w : World) → Extends v w → (layout : List (Name × Width × ℕ)) (keep : ℕ) (closed : List Name) (Γ : Environment) (rest waiting readies : MapId) → HasNodes v waiting → MayHaveNodes v readies
    → IsAlternation v layout keep closed Γ no_branch rest waiting readies → IsAlternation w layout keep closed Γ no_branch rest waiting readies
none_grow v w k layout keep closed Γ rest waiting readies hw hr is = record {
  rest_known = tt;
  settled = is.settled;
  waits = λ x a h e. offering_grow v w k.grows a _ _ _ (is.waits x a h (sym (k.maps.same waiting x hw.known) ∙ e));
  readies = λ x h. subst (λ o. IsReadyAt w layout keep closed Γ no_branch rest x o) (sym (k.maps.same readies x hr.known)) (ready x (value v.maps readies x) (hr.nodes x h) (is.readies x h));
}
  where
    ready : (x : ℕ) (o : Option NodeId) → IfSome o (IsNode v) → IsReadyAt v layout keep closed Γ no_branch rest x o → IsReadyAt w layout keep closed Γ no_branch rest x o
    ready x o known at = record {
      there = at.there;
      ready_fails = λ t X. trans_iff (iff_of_same _ _ (maybe_fails-grow v w k.grows o known t X)) (at.ready_fails t X);
      ready_ends = λ t z small. trans_iff (iff_of_same _ _ (maybe_ends-grow v w k.grows o known t z)) (at.ready_ends t z small);
    }

pub held-extends : (v w : World) → Extends v w → (waiting readies : MapId) → AreHeld v waiting readies → AreHeld w waiting readies
held-extends v w k waiting readies held = record { waiting = has_nodes-extends v w k waiting held.waiting; ready = may_have-extends v w k readies held.ready }

pub alternation_grow : (v w : World) → Extends v w → (layout : List (Name × Width × ℕ)) (keep : ℕ) (closed : List Name) (Γ : Environment) (bs : Branches) (rest waiting readies : MapId) → AreHeld v waiting readies
    → IsAlternation v layout keep closed Γ bs rest waiting readies → IsAlternation w layout keep closed Γ bs rest waiting readies
alternation_grow v w k layout keep closed Γ no_branch rest waiting readies held is = none_grow v w k layout keep closed Γ rest waiting readies held.waiting held.ready is
alternation_grow v w k layout keep closed Γ (and_branch e wait p bs) rest waiting readies held is =
    some_grow v w k layout keep closed Γ rest is.rest_known (and_branch e wait p bs) (has_nodes-extends v w k rest is.rest_known) waiting readies held.waiting held.ready is

-- ---- the map of an ALT
finished_at : (w : World) (a o b : Option NodeId) (p r : NodeId) → Finished w a o b → a ≡ Some p → b ≡ Some r → Finished w (Some p) o (Some r)
finished_at w a o b p r h e f = subst (λ b. Finished w (Some p) o b) f (subst (λ a. Finished w a o b) e h)

pub alternated : (w : World) (layout : List (Name × Width × ℕ)) (keep : ℕ) (closed : List Name) (Γ : Environment) (bs : Branches) (rest waiting readies r : MapId) → HasNodes w waiting
    → IsAlternation w layout keep closed Γ bs rest waiting readies → Lifts w waiting readies r (Finished w) → IsAfter w layout keep closed Γ (alt bs) rest r
alternated w layout keep closed Γ bs rest waiting readies r hw is finished = record {
  after_fails = λ x b h e t X. let a = hw.nodes x h in
      alternated_fails w layout keep closed Γ bs rest x (is.settled x h) a.0 (value w.maps readies x) b (is.waits x a.0 h a.1) (is.readies x h) (finished_at w _ _ _ a.0 b (finished.related x h) a.1 e) t X;
  after_ends = λ x b h e t z small. let a = hw.nodes x h in
      alternated_ends w layout keep closed Γ bs rest x (is.settled x h) a.0 (value w.maps readies x) b (is.waits x a.0 h a.1) (is.readies x h) (finished_at w _ _ _ a.0 b (finished.related x h) a.1 e) t z small;
}

pub alternated_later : (v w : World) → Extends v w → (layout : List (Name × Width × ℕ)) (keep : ℕ) (closed : List Name) (Γ : Environment) (bs : Branches) (rest waiting readies r : MapId) → AreHeld v waiting readies
    → Lifts w waiting readies r (Finished w) → IsAlternation v layout keep closed Γ bs rest waiting readies → IsAfter w layout keep closed Γ (alt bs) rest r
alternated_later v w k layout keep closed Γ bs rest waiting readies r held finished is =
    alternated w layout keep closed Γ bs rest waiting readies r (has_nodes-extends v w k waiting held.waiting) (alternation_grow v w k layout keep closed Γ bs rest waiting readies held is) finished

-- ---- a guard alone
module _ (w : World) (vars : List (Name × Kind)) (layout : List (Name × Width × ℕ)) (n : ℕ) (frame : IsFrame vars layout n) (keep : ℕ) (few : keep < 2 ^ n) (closed : List Name) (next : MapId) (over : IsOver w n next) (Γ : Environment) where
  same_state : (s u : Values) → ended s ≡ ended u → s ≡ u
  same_state s u h = cc

  not_ended : (X : Event → Bool) (s : Values) → refusing X ≡ ended s → ⊥
  not_ended X s h = cc

  -- the map of nothing, and then what the map has
  pub skip_after : IsAfter w layout keep closed Γ skip next next
  skip_after = record {
    after_fails = λ y m h e t X. (
      λ k. inr (record { t1 = []; t2 = t; y = y; m = m; whole = refl; below = h; silent = refl; ended = (refl, refl); leads = e; behaved = k }),
      ⊎_elim
          (λ (q : QuietlyFails layout closed Γ skip y t X). absurd (not_ended (off_channels closed X) (state_of layout y) q.1.1))
          (λ (s : Resumes w layout closed Γ skip next y (λ z m u. fails w m u X) t).
          let there : At w next y (λ q. fails w q s.t2 X) = (same_at w vars layout n frame keep few next over y s.y y s.below h (same_state (state_of layout s.y) (state_of layout y) s.ended.1) (λ c q. fails w q s.t2 X)).0 (record { m = s.m; leads = s.leads; behaved = s.behaved }) in
          (λ i. fails w m ((s.whole ∙ ap (λ u. u ++ s.t2) s.ended.0) i) X) ∙ ap (λ q. fails w q s.t2 X) (same_Some m there.m (sym e ∙ there.leads)) ∙ there.behaved),
    );
    after_ends = λ y m h e t z small. (
      λ k. record { t1 = []; t2 = t; y = y; m = m; whole = refl; below = h; silent = refl; ended = (refl, refl); leads = e; behaved = ap (λ c. ends w m t c) (no_change y z) ∙ k },
      λ s. let there : At w next y (λ q. ends w q s.t2 (bit_xor z (change_of keep y y))) = (same_at w vars layout n frame keep few next over y s.y y s.below h (same_state (state_of layout s.y) (state_of layout y) s.ended.1) (λ c q. ends w q s.t2 (bit_xor z c))).0 (record { m = s.m; leads = s.leads; behaved = s.behaved }) in
          (λ i. ends w m ((s.whole ∙ ap (λ u. u ++ s.t2) s.ended.0) i) (sym (no_change y z) i)) ∙ ap (λ q. ends w q s.t2 (bit_xor z (change_of keep y y))) (same_Some m there.m (sym e ∙ there.leads)) ∙ there.behaved,
    );
  }
    where
      no_change : (y z : ℕ) → bit_xor z (change_of keep y y) ≡ z
      no_change y z = ap (λ m. bit_xor z (bit_and m keep)) (xor_self y) ∙ xor_zero_r z

  module _ (wait : Waiting) (event : wait ≡ ready → ⊥) (settles : (x : ℕ) → x < 2 ^ 64 → Settles layout Γ x wait) where
    abbrev alone : Branches
    alone = and_branch (truth true) wait skip no_branch

    only : {A B : Type 0} → A ↔ B → A ↔ (((true ≡ true) × B) ⊎ ⊥)
    only f = (λ a. inl (refl, f.0 a), ⊎_elim (λ k. f.1 k.1) (λ k. absurd k))

    never : {A : Type 0} → (A → ⊥) → (false ≡ true) ↔ (((true ≡ true) × A) ⊎ ⊥)
    never f = (λ k. absurd (false≢true k), ⊎_elim (λ k. absurd (f k.1)) (λ k. absurd k))

    alone_waits : (x : ℕ) (a : NodeId) → x < 2 ^ 64 → IsGuardedAt w layout keep closed Γ wait next x a → IsWaitingAt w layout keep closed Γ alone next x a
    alone_waits x a h is = offering_same w a _ _ _ _ _ _ is
        (λ f. only (λ k. k, λ k. k))
        (λ f t X. only (leads_iff layout closed Γ wait x f _ _ (λ y l. then_fails w layout keep closed Γ skip next next over.has skip_after y l t X)))
        (λ f t z small. only (leads_iff layout closed Γ wait x f _ _ (λ y l. then_ends w layout keep closed Γ skip next next over.has skip_after x y h l t z small)))

    alone_readies : (x : ℕ) → IsReadyAt w layout keep closed Γ alone next x None
    alone_readies x = record { there = never event; ready_fails = λ t X. never (λ k. event k.0); ready_ends = λ t z small. never (λ k. event k.0) }

    module _ (q : Tree) (into : (s : Values) (t : Trace) (o : Outcome) → (meaning (alt alone)).does Γ s t o → (meaning q).does Γ s t o) (back : (s : Values) (t : Trace) (o : Outcome) → (meaning q).does Γ s t o → (meaning (alt alone)).does Γ s t o) where
      quiet_named : (x : ℕ) (t : List Event) (X : Event → Bool) → QuietlyFails layout closed Γ (alt alone) x t X ↔ QuietlyFails layout closed Γ q x t X
      quiet_named x t X = (λ k. (k.0, into (state_of layout x) t (refusing (off_channels closed X)) k.1), λ k. (k.0, back (state_of layout x) t (refusing (off_channels closed X)) k.1))

      resumes_named : (x : ℕ) (B : ℕ → NodeId → List Event → Bool) (t : List Event) → Resumes w layout closed Γ (alt alone) next x B t ↔ Resumes w layout closed Γ q next x B t
      resumes_named x B t = (
        λ s. record { t1 = s.t1; t2 = s.t2; y = s.y; m = s.m; whole = s.whole; below = s.below; silent = s.silent; ended = into (state_of layout x) s.t1 (ended (state_of layout s.y)) s.ended; leads = s.leads; behaved = s.behaved },
        λ s. record { t1 = s.t1; t2 = s.t2; y = s.y; m = s.m; whole = s.whole; below = s.below; silent = s.silent; ended = back (state_of layout x) s.t1 (ended (state_of layout s.y)) s.ended; leads = s.leads; behaved = s.behaved },
      )

      named_after : (r : MapId) → IsGuarded w layout keep closed Γ wait next r → IsAfter w layout keep closed Γ q next r
      named_after r is = record {
        after_fails = λ x a h e t X. trans_iff (alternated_fails w layout keep closed Γ alone next x (λ on. settles x h, tt) a None a (alone_waits x a h (is.guarded x a h e)) (alone_readies x) refl t X)
            (sum_iff (quiet_named x t X) (resumes_named x (λ y m u. fails w m u X) t));
        after_ends = λ x a h e t z small. trans_iff (alternated_ends w layout keep closed Γ alone next x (λ on. settles x h, tt) a None a (alone_waits x a h (is.guarded x a h e)) (alone_readies x) refl t z small)
            (resumes_named x (λ last m u. ends w m u (bit_xor z (change_of keep x last))) t);
      }

  pub receive_after : (c v : ℕ) (r : MapId) → ((x : ℕ) → x < 2 ^ 64 → Settles layout Γ x (input c v)) → IsGuarded w layout keep closed Γ (input c v) next r → IsAfter w layout keep closed Γ (receive c v) next r
  receive_after c v r settles is = named_after (input c v) (λ e. not_ready e) settles (receive c v) (λ s t o d. d) (λ s t o d. d) r is
    where
      not_ready : input c v ≡ ready → ⊥
      not_ready e = cc

  pub send_after : (c : ℕ) (z : Exp) (r : MapId) → ((x : ℕ) → x < 2 ^ 64 → Settles layout Γ x (output c z)) → IsGuarded w layout keep closed Γ (output c z) next r → IsAfter w layout keep closed Γ (send c z) next r
  send_after c z r settles is = named_after (output c z) (λ e. not_ready e) settles (send c z) (λ s t o d. d) (λ s t o d. d) r is
    where
      not_ready : output c z ≡ ready → ⊥
      not_ready e = cc
