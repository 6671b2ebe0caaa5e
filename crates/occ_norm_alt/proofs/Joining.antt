-- The two maps of an ALT with one more branch.
use Rattle.std.proofs.Common.{◌≡◌, ◌<◌, ◌+◌, ◌%◌, ◌^◌, ℕ, Bool, true, false, cond, min, List, Option, Some, None, is_some, refl, sym, ap, ◌∙◌, subst, inl, inr, ⊎_elim, arith}
use Rattle.std.specs.Prelude.{◌↔◌, ◌⊎◌}
use Rattle.std.specs.Int.{bit_at}
use Rattle.std.specs.Int.Bits.{bit_xor}
use Rattle.std.proofs.lemmas.Bool.{cases_Bool, both_ways, false≢true}
use Rattle.std.proofs.lemmas.Nat.{and_le_l, xor_lt}
use Rattle.std.proofs.lemmas.Nat.Bits.{bit_at_and, bit_at_xor, bit_at-lt, same_from_bits}
use Rattle.occ_syntax.specs.occ_base.declared.event.Event.{Event}
use Rattle.occ_syntax.specs.occ_base.declared.names.Name.{Name}
use Rattle.occ_syntax.specs.occ_base.declared.width.Width.{Width}
use Rattle.occ_syntax.specs.Eval.{is_true}
use Rattle.occ_syntax.specs.Scopes.{Environment}
use Rattle.occ_syntax.specs.Tree.{Branches, Exp, Tree, Waiting, and_branch, no_branch, ready}
use Rattle.occ_norm_frame.specs.occ_bits.Layout.{state_of}
use Rattle.occ_norm_frame.specs.occ_choice.Joined.{maybe_fails, maybe_ends}
use Rattle.occ_norm_frame.specs.occ_mdd.Maps.{IsMap, value}
use Rattle.occ_norm_frame.specs.occ_mdd.declared.map.MapId.{MapId}
use Rattle.occ_norm_frame.specs.occ_node.World.{fails, ends}
use Rattle.occ_norm_frame.specs.occ_node.declared.node.NodeId.{NodeId}
use Rattle.occ_norm_frame.specs.occ_node.declared.world.World.{World}
use Rattle.occ_norm_frame.specs.occ_follow.Sequence.{HasNodes}
use Rattle.occ_norm_frame.proofs.from_weave.Growth.{trans_iff, iff_of_same}
use Rattle.occ_norm_frame.specs.After.{IsAfter, Resumes, change_of}
use Rattle.occ_norm_alt.specs.Alternation.{EndsThen, FailsThen, IsAlternation, IsOffered, IsReadyAt, IsUnited, IsWaitingAt, OffersNothing, Settles, SomeEnabled}
use Rattle.occ_norm_alt.specs.Offering.{At, IsGuarded, IsGuardedAt, IsOffering, Leads, Takes}
use Rattle.occ_norm_alt.proofs.Offering.{or_iff}
use Rattle.occ_norm_alt.proofs.Making.{offering_merged, offering_same}

-- ---- changes
pub change_small : (keep x y : ℕ) → x < 2 ^ 64 → y < 2 ^ 64 → change_of keep x y < 2 ^ 64
change_small keep x y h k = omega (arith, and_le_l (bit_xor x y) keep, xor_lt 64 x y h k)

change_bit : (x y u k z : ℕ) → x < 2 → y < 2 → u < 2 → k < 2 → z < 2 → ((z + min ((x + y) % 2) k) % 2 + min ((y + u) % 2) k) % 2 ≡ (z + min ((x + u) % 2) k) % 2
change_bit x y u k z hx hy hu hk hz = omega arith

pub change_twice : (keep x y u z : ℕ) → bit_xor (bit_xor z (change_of keep x y)) (change_of keep y u) ≡ bit_xor z (change_of keep x u)
change_twice keep x y u z = same_from_bits _ _ each
  where
    turned : (a b i : ℕ) → bit_at (change_of keep a b) i ≡ min ((bit_at a i + bit_at b i) % 2) (bit_at keep i)
    turned a b i = bit_at_and (bit_xor a b) keep i ∙ ap (λ m. min m (bit_at keep i)) (bit_at_xor a b i)

    each : (i : ℕ) → bit_at (bit_xor (bit_xor z (change_of keep x y)) (change_of keep y u)) i ≡ bit_at (bit_xor z (change_of keep x u)) i
    each i = bit_at_xor (bit_xor z (change_of keep x y)) (change_of keep y u) i
        ∙ (λ j. ((bit_at_xor z (change_of keep x y) i ∙ ap (λ m. (bit_at z i + m) % 2) (turned x y i)) j + turned y u i j) % 2)
        ∙ change_bit (bit_at x i) (bit_at y i) (bit_at u i) (bit_at keep i) (bit_at z i) (bit_at-lt x i) (bit_at-lt y i) (bit_at-lt u i) (bit_at-lt keep i) (bit_at-lt z i)
        ∙ sym (bit_at_xor z (change_of keep x u) i ∙ ap (λ m. (bit_at z i + m) % 2) (turned x u i))

-- ---- what a guard leads to
pub leads_iff : (layout : List (Name × Width × ℕ)) (closed : List Name) (Γ : Environment) (wait : Waiting) (x : ℕ) (e : Event) (B C : ℕ → Type 0) → ((y : ℕ) → y < 2 ^ 64 → B y ↔ C y)
    → Leads layout closed Γ wait x e B ↔ Leads layout closed Γ wait x e C
leads_iff layout closed Γ wait x e B C f = (
  λ k. record { seen = k.seen; y = k.y; below = k.below; after = k.after; behaved = (f k.y k.below).0 k.behaved },
  λ k. record { seen = k.seen; y = k.y; below = k.below; after = k.after; behaved = (f k.y k.below).1 k.behaved },
)

module _ (w : World) (layout : List (Name × Width × ℕ)) (keep : ℕ) (closed : List Name) (Γ : Environment) (p : Tree) (rest next : MapId) (has : HasNodes w next) (is : IsAfter w layout keep closed Γ p rest next) where
  pub then_fails : (y : ℕ) → y < 2 ^ 64 → (t : List Event) (X : Event → Bool) → At w next y (λ m. fails w m t X) ↔ FailsThen w layout closed Γ rest p y t X
  then_fails y h t X = (
    λ k. (is.after_fails y k.m h k.leads t X).0 k.behaved,
    λ k. let found = has.nodes y h in record { m = found.0; leads = found.1; behaved = (is.after_fails y found.0 h found.1 t X).1 k },
  )

  along : (x y z : ℕ) (t : List Event) → Resumes w layout closed Γ p rest y (λ last m u. ends w m u (bit_xor (bit_xor z (change_of keep x y)) (change_of keep y last))) t → EndsThen w layout keep closed Γ rest x p y t z
  along x y z t s = record { t1 = s.t1; t2 = s.t2; y = s.y; m = s.m; whole = s.whole; below = s.below; silent = s.silent; ended = s.ended; leads = s.leads; behaved = ap (λ c. ends w s.m s.t2 c) (sym (change_twice keep x y s.y z)) ∙ s.behaved }

  back : (x y z : ℕ) (t : List Event) → EndsThen w layout keep closed Γ rest x p y t z → Resumes w layout closed Γ p rest y (λ last m u. ends w m u (bit_xor (bit_xor z (change_of keep x y)) (change_of keep y last))) t
  back x y z t s = record { t1 = s.t1; t2 = s.t2; y = s.y; m = s.m; whole = s.whole; below = s.below; silent = s.silent; ended = s.ended; leads = s.leads; behaved = ap (λ c. ends w s.m s.t2 c) (change_twice keep x y s.y z) ∙ s.behaved }

  pub then_ends : (x y : ℕ) → x < 2 ^ 64 → y < 2 ^ 64 → (t : List Event) (z : ℕ) → z < 2 ^ 64 → At w next y (λ m. ends w m t (bit_xor z (change_of keep x y))) ↔ EndsThen w layout keep closed Γ rest x p y t z
  then_ends x y g h t z small =
      let low : bit_xor z (change_of keep x y) < 2 ^ 64 = xor_lt 64 z (change_of keep x y) small (change_small keep x y g h) in (
        λ k. along x y z t ((is.after_ends y k.m h k.leads t (bit_xor z (change_of keep x y)) low).0 k.behaved),
        λ k. let found = has.nodes y h in record { m = found.0; leads = found.1; behaved = (is.after_ends y found.0 h found.1 t (bit_xor z (change_of keep x y)) low).1 (back x y z t k) },
      )

-- ---- one more branch
-- the first branch is enabled, or isn't
in_front : {A B C : Type 0} (on : Bool) → on ≡ true → B ↔ C → (A ⊎ B) ↔ (((on ≡ true) × C) ⊎ A)
in_front on h f = (⊎_elim (λ a. inr a) (λ b. inl (h, f.0 b)), ⊎_elim (λ k. inr (f.1 k.1)) (λ a. inl a))

not_in_front : {A C : Type 0} (on : Bool) → on ≡ false → (A ⊎ ⊥) ↔ (((on ≡ true) × C) ⊎ A)
not_in_front on h = (⊎_elim (λ a. inr a) (λ b. absurd b), ⊎_elim (λ k. absurd (both_ways on h k.0)) (λ a. inl a))

never_in_front : {A C : Type 0} (on : Bool) → (C → ⊥) → A ↔ (((on ≡ true) × C) ⊎ A)
never_in_front on never = (λ a. inr a, ⊎_elim (λ k. absurd (never k.1)) (λ a. a))

module _ (w : World) (layout : List (Name × Width × ℕ)) (keep : ℕ) (closed : List Name) (Γ : Environment) (bs : Branches) (e : Exp) (p : Tree) (rest waiting readies next : MapId)
    (is : IsAlternation w layout keep closed Γ bs rest waiting readies) (has_rest : HasNodes w rest) (has : HasNodes w next) (after : IsAfter w layout keep closed Γ p rest next)
    (test : ℕ → Bool) (enabled : (x : ℕ) → x < 2 ^ 64 → test x ≡ is_true Γ e (state_of layout x)) where
  module _ (wait : Waiting) (event : wait ≡ ready → ⊥) (settles : (x : ℕ) → x < 2 ^ 64 → Settles layout Γ x wait) (offered r : MapId) (hw : HasNodes w waiting) (ho : HasNodes w offered)
      (guarded : IsGuarded w layout keep closed Γ wait next offered) (joined : IsOffered w test waiting offered r) where
    waits_on : (x : ℕ) (a b c : NodeId) → x < 2 ^ 64 → is_true Γ e (state_of layout x) ≡ true → IsWaitingAt w layout keep closed Γ bs rest x a → IsGuardedAt w layout keep closed Γ wait next x b
        → IsOffering w c (λ f. SomeEnabled Γ (state_of layout x) (λ v q. Takes layout closed Γ v x f) bs ⊎ Takes layout closed Γ wait x f)
        (λ f t X. SomeEnabled Γ (state_of layout x) (λ v q. Leads layout closed Γ v x f (λ y. FailsThen w layout closed Γ rest q y t X)) bs ⊎ Leads layout closed Γ wait x f (λ y. At w next y (λ m. fails w m t X)))
        (λ f t z. SomeEnabled Γ (state_of layout x) (λ v q. Leads layout closed Γ v x f (λ y. EndsThen w layout keep closed Γ rest x q y t z)) bs ⊎ Leads layout closed Γ wait x f (λ y. At w next y (λ m. ends w m t (bit_xor z (change_of keep x y)))))
        → IsWaitingAt w layout keep closed Γ (and_branch e wait p bs) rest x c
    waits_on x a b c h on one other both = offering_same w c _ _ _ _ _ _ both
        (λ f. in_front (is_true Γ e (state_of layout x)) on (λ k. k, λ k. k))
        (λ f t X. in_front (is_true Γ e (state_of layout x)) on (leads_iff layout closed Γ wait x f _ _ (λ y l. then_fails w layout keep closed Γ p rest next has after y l t X)))
        (λ f t z small. in_front (is_true Γ e (state_of layout x)) on (leads_iff layout closed Γ wait x f _ _ (λ y l. then_ends w layout keep closed Γ p rest next has after x y h l t z small)))

    waits_off : (x : ℕ) (c : NodeId) → is_true Γ e (state_of layout x) ≡ false
        → IsOffering w c (λ f. SomeEnabled Γ (state_of layout x) (λ v q. Takes layout closed Γ v x f) bs ⊎ ⊥)
        (λ f t X. SomeEnabled Γ (state_of layout x) (λ v q. Leads layout closed Γ v x f (λ y. FailsThen w layout closed Γ rest q y t X)) bs ⊎ ⊥)
        (λ f t z. SomeEnabled Γ (state_of layout x) (λ v q. Leads layout closed Γ v x f (λ y. EndsThen w layout keep closed Γ rest x q y t z)) bs ⊎ ⊥)
        → IsWaitingAt w layout keep closed Γ (and_branch e wait p bs) rest x c
    waits_off x c off both = offering_same w c _ _ _ _ _ _ both
        (λ f. not_in_front (is_true Γ e (state_of layout x)) off)
        (λ f t X. not_in_front (is_true Γ e (state_of layout x)) off)
        (λ f t z small. not_in_front (is_true Γ e (state_of layout x)) off)

    waits_more : (x : ℕ) (c : NodeId) → x < 2 ^ 64 → value w.maps r x ≡ Some c → IsWaitingAt w layout keep closed Γ (and_branch e wait p bs) rest x c
    waits_more x c h there =
        let a = hw.nodes x h in
        let b = ho.nodes x h in
        let one = is.waits x a.0 h a.1 in
        let other = guarded.guarded x b.0 h b.1 in
        ⊎_elim
        (λ (on : test x ≡ true). waits_on x a.0 b.0 c h (sym (enabled x h) ∙ on) one other (offering_merged w a.0 b.0 c _ _ _ _ _ _ one other (joined.on x a.0 b.0 c h a.1 b.1 there on)))
        (λ (off : test x ≡ false). let n = joined.off x a.0 c h a.1 there off in
        waits_off x c (sym (enabled x h) ∙ off) (offering_merged w a.0 n.0 c _ _ _ _ _ _ one n.1 n.2))
        (cases_Bool (test x))

    readies_still : (x : ℕ) (o : Option NodeId) → IsReadyAt w layout keep closed Γ bs rest x o → IsReadyAt w layout keep closed Γ (and_branch e wait p bs) rest x o
    readies_still x o at = record {
      there = trans_iff at.there (never_in_front (is_true Γ e (state_of layout x)) event);
      ready_fails = λ t X. trans_iff (at.ready_fails t X) (never_in_front (is_true Γ e (state_of layout x)) (λ k. event k.0));
      ready_ends = λ t z small. trans_iff (at.ready_ends t z small) (never_in_front (is_true Γ e (state_of layout x)) (λ k. event k.0));
    }

    pub alternation_offering : IsAlternation w layout keep closed Γ (and_branch e wait p bs) rest r readies
    alternation_offering = record {
      rest_known = has_rest;
      settled = λ x h. (λ on. settles x h, is.settled x h);
      waits = waits_more;
      readies = λ x h. readies_still x (value w.maps readies x) (is.readies x h);
    }

  module _ (r : MapId) (united : IsUnited w test readies next r) where
    waits_still : (x : ℕ) (a : NodeId) → IsWaitingAt w layout keep closed Γ bs rest x a → IsWaitingAt w layout keep closed Γ (and_branch e ready p bs) rest x a
    waits_still x a at = offering_same w a _ _ _ _ _ _ at
        (λ f. never_in_front (is_true Γ e (state_of layout x)) (λ k. k.after))
        (λ f t X. never_in_front (is_true Γ e (state_of layout x)) (λ k. k.after))
        (λ f t z small. never_in_front (is_true Γ e (state_of layout x)) (λ k. k.after))

    -- what the new branch adds
    added : (x : ℕ) → x < 2 ^ 64 → (on : Bool) → is_true Γ e (state_of layout x) ≡ on → (B : Option NodeId → Bool) → B None ≡ false → (C : Type 0) → ((m : NodeId) → value w.maps next x ≡ Some m → (B (Some m) ≡ true) ↔ C)
        → (B (cond on (value w.maps next x) None) ≡ true) ↔ ((is_true Γ e (state_of layout x) ≡ true) × C)
    added x h true is_on B nothing C f =
        let found = has.nodes x h in
        (λ k. (is_on, (f found.0 found.1).0 (sym (ap B found.1) ∙ k)), λ k. ap B found.1 ∙ (f found.0 found.1).1 k.1)
    added x h false is_off B nothing C f = (λ k. absurd (both_ways (B None) nothing k), λ k. absurd (both_ways (is_true Γ e (state_of layout x)) is_off k.0))

    swapped : {A B C D : Type 0} → A ↔ B → C ↔ D → (A ⊎ C) ↔ (D ⊎ B)
    swapped f g = (⊎_elim (λ a. inr (f.0 a)) (λ c. inl (g.0 c)), ⊎_elim (λ d. inr (g.1 d)) (λ b. inl (f.1 b)))

    own : {A B : Type 0} → A ↔ B → A ↔ ((ready ≡ ready) × B)
    own f = (λ a. (refl, f.0 a), λ k. f.1 k.1)

    readies_more : (x : ℕ) → x < 2 ^ 64 → IsReadyAt w layout keep closed Γ (and_branch e ready p bs) rest x (value w.maps r x)
    readies_more x h =
        let at = is.readies x h in
        let u = united.united x h in
        let o = value w.maps readies x in
        let n = cond (test x) (value w.maps next x) None in
        let on : is_true Γ e (state_of layout x) ≡ test x = sym (enabled x h) in
        record {
          there = trans_iff (iff_of_same _ _ u.there) (trans_iff (or_iff (is_some o) (is_some n)) (swapped at.there
              (added x h (test x) on is_some refl (ready ≡ ready) (λ m k. (λ l. refl, λ l. refl)))));
          ready_fails = λ t X. trans_iff (iff_of_same _ _ (u.both_fail t X)) (trans_iff (or_iff (maybe_fails w o t X) (maybe_fails w n t X)) (swapped (at.ready_fails t X)
              (added x h (test x) on (λ q. maybe_fails w q t X) refl ((ready ≡ ready) × FailsThen w layout closed Γ rest p x t X) (λ m k. own (after.after_fails x m h k t X)))));
          ready_ends = λ t z small. trans_iff (iff_of_same _ _ (u.both_end t z)) (trans_iff (or_iff (maybe_ends w o t z) (maybe_ends w n t z)) (swapped (at.ready_ends t z small)
              (added x h (test x) on (λ q. maybe_ends w q t z) refl ((ready ≡ ready) × EndsThen w layout keep closed Γ rest x p x t z) (λ m k. own (after.after_ends x m h k t z small)))));
        }

    pub alternation_going : IsAlternation w layout keep closed Γ (and_branch e ready p bs) rest waiting r
    alternation_going = record {
      rest_known = has_rest;
      settled = λ x h. (λ on e s k. absurd k, is.settled x h);
      waits = λ x a h there. waits_still x a (is.waits x a h there);
      readies = readies_more;
    }

-- ---- no branch
pub alternation_none : (w : World) (waiting readies : MapId) → ((x : ℕ) (a : NodeId) → x < 2 ^ 64 → value w.maps waiting x ≡ Some a → OffersNothing w a) → IsMap w.maps readies (λ x. None)
    → (layout : List (Name × Width × ℕ)) (keep : ℕ) (closed : List Name) (Γ : Environment) (rest : MapId) → IsAlternation w layout keep closed Γ no_branch rest waiting readies
alternation_none w waiting readies nothing none layout keep closed Γ rest = record {
  rest_known = tt;
  settled = λ x h. tt;
  waits = λ x a h there. nothing x a h there;
  readies = λ x h. subst (λ o. IsReadyAt w layout keep closed Γ no_branch rest x o) (sym (none.values x)) (record {
    there = (λ k. false≢true k, λ k. absurd k);
    ready_fails = λ t X. (λ k. false≢true k, λ k. absurd k);
    ready_ends = λ t z small. (λ k. false≢true k, λ k. absurd k);
  });
}
