-- Closed channels that a part doesn't use.
use Rattle.std.proofs.Common.{◌≡◌, ◌<◌, ◌≤◌, ℕ, suc, ◌==◌, ◌&&◌, ◌||◌, inl, inr, Bool, true, false, cond, not, nat_le, nat_lt, List, [], ◌∷◌, length, get_or, ⊎_elim, refl, sym, ap, ◌∙◌, subst, arith}
use Rattle.std.proofs.lemmas.Bool.{and_from, and_parts, cases_Bool, cases_lt, le-leb, lt-ltb, not-false, not-true, not_from_false, true≢false}
use Rattle.occ_syntax.specs.occ_base.declared.event.Dir.{Dir}
use Rattle.occ_syntax.specs.occ_base.declared.event.Event.{Event}
use Rattle.occ_syntax.specs.occ_base.declared.names.Name.{Name}
use Rattle.occ_syntax.specs.occ_base.declared.width.Width.{Width}
use Rattle.occ_norm_frame.specs.occ_bits.Layout.{state_of}
use Rattle.occ_norm_frame.proofs.from_meaning.Ends.{part_uses}
use Rattle.occ_norm_frame.proofs.from_meaning.Facts.{clash}
use Rattle.occ_norm_frame.proofs.from_meaning.Refusals.{part_more}
use Rattle.occ_norm_frame.specs.occ_meaning.Foundation.{AreOnEnds}
use Rattle.occ_norm_frame.specs.occ_mdd.declared.map.MapId.{MapId}
use Rattle.occ_norm_frame.specs.occ_node.declared.world.World.{World}
use Rattle.occ_syntax.specs.Meaning.{Outcome, ended, fails as part_fails, meaning, refusing}
use Rattle.occ_syntax.specs.Names.{is_in, uses_end}
use Rattle.occ_syntax.specs.Scopes.{Environment, EventSet, Trace, Values}
use Rattle.occ_syntax.specs.Tree.{Tree, par}
use Rattle.occ_syntax.specs.Types.{all_types_kept, types_kept}
use Rattle.occ_syntax.specs.View.{numbers, trees}
use Rattle.occ_syntax.specs.declared.proc.Proc.{Proc}
use Rattle.occ_norm_frame.specs.occ_weave.Weave.{is_open, is_silent_on, off_channels}
use Rattle.occ_norm_frame.specs.After.{QuietlyFails}
use Rattle.occ_norm_frame.specs.Alone.{IsPart, Stops}
use Rattle.occ_norm_par.specs.Sides.{AreUsers, IsUser, chans_of, closed_in}
use Rattle.occ_norm_par.specs.declared.users.Users.{Users}
use Rattle.occ_norm_par.proofs.Spanning.{uses_beyond}
use Rattle.occ_norm_par.proofs.Using.{some_end}

-- the part uses none of the channels that the second list has besides those of the first
module _ (Γ : Environment) (p : Tree) (typed : types_kept p Γ ≡ true) (few more : List Name) (within : (e : Event) → is_open more e ≡ true → is_open few e ≡ true)
    (unused : (e : Event) → is_open few e ≡ true → is_open more e ≡ false → (d : Dir) → uses_end p e.chan.0 d ≡ false) where
  silent_fewer : (t : Trace) → is_silent_on more t ≡ true → is_silent_on few t ≡ true
  silent_fewer [] h = refl
  silent_fewer (e ∷ t) h = let a = and_parts (is_open more e) (is_silent_on more t) h in and_from (is_open few e) (is_silent_on few t) (within e a.0) (silent_fewer t a.1)

  silent_more : (t : Trace) → AreOnEnds (uses_end p) t → is_silent_on few t ≡ true → is_silent_on more t ≡ true
  silent_more [] on h = refl
  silent_more (e ∷ t) on h =
      let a = and_parts (is_open few e) (is_silent_on few t) h in
      and_from (is_open more e) (is_silent_on more t)
      (⊎_elim (λ (o : is_open more e ≡ true). o) (λ (n : is_open more e ≡ false). clash (uses_end p e.chan.0 e.dir) on.0 (unused e a.0 n e.dir)) (cases_Bool (is_open more e)))
      (silent_more t on.1 a.1)

  on_used : (s : Values) (t : Trace) (o : Outcome) → (meaning p).does Γ s t o → AreOnEnds (uses_end p) t
  on_used s t o d = (part_uses p Γ typed).on_ends Γ s t o d

  fails_more : (s : Values) (t : Trace) (X : EventSet) → part_fails Γ p s t (off_channels few X) → part_fails Γ p s t (off_channels more X)
  fails_more s t X d = (part_more p Γ typed).more Γ s t (off_channels few X) (off_channels more X)
      (λ e h. let a = and_parts (is_open more e) (X e) h in inl (and_from (is_open few e) (X e) (within e a.0) a.1)) d

  fails_fewer : (s : Values) (t : Trace) (X : EventSet) → part_fails Γ p s t (off_channels more X) → part_fails Γ p s t (off_channels few X)
  fails_fewer s t X d = (part_more p Γ typed).more Γ s t (off_channels more X) (off_channels few X)
      (λ e h. let a = and_parts (is_open few e) (X e) h in
      ⊎_elim (λ (o : is_open more e ≡ true). inl (and_from (is_open more e) (X e) o a.1)) (λ (n : is_open more e ≡ false). inr (unused e a.0 n e.dir)) (cases_Bool (is_open more e))) d

  module _ (layout : List (Name × Width × ℕ)) (whole keep x : ℕ) where
    quiet_more : (t : Trace) (X : EventSet) → QuietlyFails layout few Γ p x t X → QuietlyFails layout more Γ p x t X
    quiet_more t X q = (silent_more t (on_used (state_of layout x) t (refusing (off_channels few X)) q.1) q.0, fails_more (state_of layout x) t X q.1)

    quiet_fewer : (t : Trace) (X : EventSet) → QuietlyFails layout more Γ p x t X → QuietlyFails layout few Γ p x t X
    quiet_fewer t X q = (silent_fewer t q.0, fails_fewer (state_of layout x) t X q.1)

    stops_more : (t : Trace) (z : ℕ) → Stops layout whole keep few Γ p x t z → Stops layout whole keep more Γ p x t z
    stops_more t z s = record { y = s.y; below = s.below; silent = silent_more t (on_used (state_of layout x) t (ended (state_of layout s.y)) s.ended) s.silent; ended = s.ended; changed = s.changed }

    stops_fewer : (t : Trace) (z : ℕ) → Stops layout whole keep more Γ p x t z → Stops layout whole keep few Γ p x t z
    stops_fewer t z s = record { y = s.y; below = s.below; silent = silent_fewer t s.silent; ended = s.ended; changed = s.changed }

  pub closed_more : (w : World) (layout : List (Name × Width × ℕ)) (whole keep : ℕ) (m : MapId) → IsPart w layout whole keep few Γ p m → IsPart w layout whole keep more Γ p m
  closed_more w layout whole keep m h = record {
    alone_fails = λ x a l v t X. (
      λ f. quiet_more layout whole keep x t X ((h.alone_fails x a l v t X).0 f),
      λ q. (h.alone_fails x a l v t X).1 (quiet_fewer layout whole keep x t X q),
    );
    alone_ends = λ x a l v t z b. (
      λ f. stops_more layout whole keep x t z ((h.alone_ends x a l v t z b).0 f),
      λ s. (h.alone_ends x a l v t z b).1 (stops_fewer layout whole keep x t z s),
    );
  }

-- ---- all closed channels
pub open_is : (closed : List Name) (e : Event) → is_open closed e ≡ not (is_in (numbers closed) e.chan.0)
open_is [] e = refl
open_is (c ∷ cs) e = ap (λ b. not (e.chan.0 == c.0) && b) (open_is cs e) ∙ both_not (e.chan.0 == c.0) (is_in (numbers cs) e.chan.0)
  where
    both_not : (a b : Bool) → (not a && not b) ≡ not (a || b)
    both_not true b = refl
    both_not false b = refl

users_open : (us : List Users) (n : ℕ) (e : Event) → ((u : Users) (k : ℕ) → k < length us → get_or us k u ≡ u → u.last < n) → is_open (closed_in 0 n us) e ≡ not (is_in (chans_of us) e.chan.0)
users_open [] n e low = refl
users_open (u ∷ us) n e low =
    let last : u.last < n = low u 0 (omega arith) refl in
    let wanted : (nat_le 0 u.first && nat_lt u.last n) ≡ true = and_from (nat_le 0 u.first) (nat_lt u.last n) (le-leb 0 u.first (omega arith)) (lt-ltb u.last n last) in
    ap (λ b. is_open (cond b (u.chan ∷ closed_in 0 n us) (closed_in 0 n us)) e) wanted
    ∙ ap (λ b. not (e.chan.0 == u.chan.0) && b) (users_open us n e (λ v k l is. low v (suc k) (omega (arith, l)) is)) ∙ both_not (e.chan.0 == u.chan.0) (is_in (chans_of us) e.chan.0)
  where
    both_not : (a b : Bool) → (not a && not b) ≡ not (a || b)
    both_not true b = refl
    both_not false b = refl

-- Closed channels that no part uses have no events, and may be refused.
pub closed_all : (w : World) (layout : List (Name × Width × ℕ)) (whole keep : ℕ) (m : MapId) (Γ : Environment) (ps : List Proc) (closed : List Name) (users : List Users)
    → AreUsers (trees ps) closed users → all_types_kept (trees ps) Γ ≡ true
    → IsPart w layout whole keep (closed_in 0 (length ps) users) Γ (par (trees ps)) m → IsPart w layout whole keep closed Γ (par (trees ps)) m
closed_all w layout whole keep m Γ ps closed users are typed h = closed_more Γ (par (trees ps)) typed (closed_in 0 (length ps) users) closed within unused w layout whole keep m h
  where
    last_there : (u : Users) (k : ℕ) → k < length users → get_or users k u ≡ u → u.last < length ps
    last_there u k l is =
        let user : IsUser (trees ps) u = subst (IsUser (trees ps)) is (are.each k u l) in
        ⊎_elim (λ (m : u.last < length ps). m) (λ (m : length ps ≤ u.last). absurd (true≢false (sym user.last_uses ∙ uses_beyond ps u.last u.chan.0 m))) (cases_lt u.last (length ps))

    open_users : (e : Event) → is_open (closed_in 0 (length ps) users) e ≡ not (is_in (chans_of users) e.chan.0)
    open_users e = users_open users (length ps) e last_there

    within : (e : Event) → is_open closed e ≡ true → is_open (closed_in 0 (length ps) users) e ≡ true
    within e o = open_users e ∙ not_from_false (is_in (chans_of users) e.chan.0)
        (⊎_elim
        (λ (t : is_in (chans_of users) e.chan.0 ≡ true). absurd (true≢false (sym (are.among e.chan.0 t) ∙ not-true (is_in (numbers closed) e.chan.0) (sym (open_is closed e) ∙ o))))
        (λ (f : is_in (chans_of users) e.chan.0 ≡ false). f)
        (cases_Bool (is_in (chans_of users) e.chan.0)))

    unused : (e : Event) → is_open (closed_in 0 (length ps) users) e ≡ true → is_open closed e ≡ false → (d : Dir) → uses_end (par (trees ps)) e.chan.0 d ≡ false
    unused e o n d = some_end (trees ps) e.chan.0
        (are.others e.chan.0 (not-false (is_in (numbers closed) e.chan.0) (sym (open_is closed e) ∙ n)) (not-true (is_in (chans_of users) e.chan.0) (sym (open_users e) ∙ o))) d
