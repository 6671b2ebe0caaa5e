-- SKIP, STOP, one part after another, and the choices of an IF, as maps in front of what follows.
use Rattle.std.proofs.Common.{◌≡◌, ◌<◌, ◌^◌, ◌⊎◌, ◌++◌, ⊎_elim, inl, inr, ℕ, Bool, true, List, Some, refl, sym, ap, ◌∙◌, subst, append_assoc, bit_xor}
use Rattle.std.proofs.lemmas.Bool.{and_parts, and_from}
use Rattle.std.proofs.lemmas.List.Folds.{list_all-append}
use Rattle.occ_syntax.specs.occ_base.declared.event.Event.{Event}
use Rattle.occ_syntax.specs.occ_base.declared.names.Name.{Name}
use Rattle.occ_syntax.specs.occ_base.declared.width.Width.{Width}
use Rattle.occ_syntax.specs.Meaning.{Followed, ended, refusing, in_first, in_second, in_turn, meaning, fails as part_fails, ends as part_ends}
use Rattle.occ_syntax.specs.Scopes.{Environment, Values}
use Rattle.occ_syntax.specs.Tree.{Tree, Trees, seq, and_tree}
use Rattle.occ_compare.specs.occ_bits.Layout.{state_of}
use Rattle.occ_compare.specs.occ_mdd.Maps.{value}
use Rattle.occ_compare.specs.occ_mdd.declared.map.MapId.{MapId}
use Rattle.occ_compare.specs.occ_node.World.{fails, ends}
use Rattle.occ_compare.specs.occ_node.declared.node.NodeId.{NodeId}
use Rattle.occ_compare.specs.occ_node.declared.world.World.{World}
use Rattle.occ_norm_alt.specs.occ_follow.Sequence.{HasNodes}
use Rattle.occ_norm_alt.specs.occ_weave.Weave.{is_open, is_silent_on, off_channels}
use Rattle.occ_norm_alt.specs.occ_norm_frame.After.{QuietlyFails, Resumes, change_of}
use Rattle.occ_norm.specs.From.{IsAfterFrom}
use Rattle.occ_norm.proofs.Changing.{change_lt, change_twice}

-- from the state of an assignment the part ends in states of assignments alone
abbrev pub Reaches : List (Name × Width × ℕ) → Environment → Tree → Type 0
Reaches layout Γ p = (x : ℕ) (t : List Event) (s : Values) → x < 2 ^ 64 → part_ends Γ p (state_of layout x) t s → (y : ℕ) × (y < 2 ^ 64) × (s ≡ state_of layout y)

silent_both : (closed : List Name) (t u : List Event) → is_silent_on closed t ≡ true → is_silent_on closed u ≡ true → is_silent_on closed (t ++ u) ≡ true
silent_both closed t u h k = list_all-append (is_open closed) t u ∙ and_from _ _ h k

silent_parts : (closed : List Name) (t u : List Event) → is_silent_on closed (t ++ u) ≡ true → (is_silent_on closed t ≡ true) × (is_silent_on closed u ≡ true)
silent_parts closed t u h = and_parts _ _ (sym (list_all-append (is_open closed) t u) ∙ h)

-- ---- one part after another, at some assignments
-- the tests: where the map begins, and where the second is right
module _ (w : World) (layout : List (Name × Width × ℕ)) (keep : ℕ) (closed : List Name) (Γ : Environment) (from later : ℕ → Bool) (p : Tree) (ps : Trees) (rest map r : MapId)
    (small : keep < 2 ^ 64) (nodes : HasNodes w map) (reaches : Reaches layout Γ p)
    (carries : (x y : ℕ) (t : List Event) → from x ≡ true → part_ends Γ p (state_of layout x) t (state_of layout y) → later y ≡ true)
    (first : IsAfterFrom w layout keep closed Γ from p map r) (second : IsAfterFrom w layout keep closed Γ later (seq ps) rest map) where
  -- what the second has, after the first
  both_resume : (x y : ℕ) (t t1 t2 : List Event) (f : ℕ → NodeId → List Event → Bool) → t ≡ t1 ++ t2 → y < 2 ^ 64 → is_silent_on closed t1 ≡ true
      → part_ends Γ p (state_of layout x) t1 (state_of layout y) → Resumes w layout closed Γ (seq ps) rest y f t2 → Resumes w layout closed Γ (seq (and_tree p ps)) rest x f t
  both_resume x y t t1 t2 f e h q d s = record {
    t1 = t1 ++ s.t1;
    t2 = s.t2;
    y = s.y;
    m = s.m;
    whole = e ∙ ap (λ u. t1 ++ u) s.whole ∙ sym (append_assoc t1 s.t1 s.t2);
    below = s.below;
    silent = silent_both closed t1 s.t1 q s.silent;
    ended = in_second t1 s.t1 (state_of layout y) refl d s.ended;
    leads = s.leads;
    behaved = s.behaved;
  }

  both_quiet : (x y : ℕ) (t t1 t2 : List Event) (X : Event → Bool) → t ≡ t1 ++ t2 → is_silent_on closed t1 ≡ true
      → part_ends Γ p (state_of layout x) t1 (state_of layout y) → QuietlyFails layout closed Γ (seq ps) y t2 X → QuietlyFails layout closed Γ (seq (and_tree p ps)) x t X
  both_quiet x y t t1 t2 X e q d s = (ap (is_silent_on closed) e ∙ silent_both closed t1 t2 q s.0, in_second t1 t2 (state_of layout y) e d s.1)

  fails_out : (x : ℕ) (t : List Event) (X : Event → Bool) → from x ≡ true
      → QuietlyFails layout closed Γ p x t X ⊎ Resumes w layout closed Γ p map x (λ y m u. fails w m u X) t
      → QuietlyFails layout closed Γ (seq (and_tree p ps)) x t X ⊎ Resumes w layout closed Γ (seq (and_tree p ps)) rest x (λ y m u. fails w m u X) t
  fails_out x t X o (inl s) = inl (s.0, in_first s.1)
  fails_out x t X o (inr s) = ⊎_elim
      (λ (k : QuietlyFails layout closed Γ (seq ps) s.y s.t2 X). inl (both_quiet x s.y t s.t1 s.t2 X s.whole s.silent s.ended k))
      (λ (k : Resumes w layout closed Γ (seq ps) rest s.y (λ y m u. fails w m u X) s.t2). inr (both_resume x s.y t s.t1 s.t2 (λ y m u. fails w m u X) s.whole s.below s.silent s.ended k))
      ((second.after_fails s.y s.m s.below (carries x s.y s.t1 o s.ended) s.leads s.t2 X).0 s.behaved)

  -- the first, and then a behaviour of the map at its end
  step : (x : ℕ) (t t1 t2 : List Event) (s : Values) (f : ℕ → NodeId → List Event → Bool) → x < 2 ^ 64 → from x ≡ true → t ≡ t1 ++ t2 → is_silent_on closed t1 ≡ true
      → part_ends Γ p (state_of layout x) t1 s
      → ((y : ℕ) (m : NodeId) → y < 2 ^ 64 → later y ≡ true → s ≡ state_of layout y → value w.maps map y ≡ Some m → f y m t2 ≡ true)
      → Resumes w layout closed Γ p map x f t
  step x t t1 t2 s f hx o e q d behaves =
      let to = reaches x t1 s hx d in
      let at = nodes.nodes to.0 to.1 in
      let there = subst (part_ends Γ p (state_of layout x) t1) to.2 d in
      record {
        t1 = t1;
        t2 = t2;
        y = to.0;
        m = at.0;
        whole = e;
        below = to.1;
        silent = q;
        ended = there;
        leads = at.1;
        behaved = behaves to.0 at.0 to.1 (carries x to.0 t1 o there) to.2 at.1;
      }

  fails_quiet : (x : ℕ) (t : List Event) (X : Event → Bool) → x < 2 ^ 64 → from x ≡ true → is_silent_on closed t ≡ true
      → Followed (meaning p) (in_turn ps) Γ (state_of layout x) t (refusing (off_channels closed X))
      → QuietlyFails layout closed Γ p x t X ⊎ Resumes w layout closed Γ p map x (λ y m u. fails w m u X) t
  fails_quiet x t X hx o q (in_first d) = inl (q, d)
  fails_quiet x t X hx o q (in_second t1 t2 s e d1 d2) =
      let parts = silent_parts closed t1 t2 (sym (ap (is_silent_on closed) e) ∙ q) in
      inr (step x t t1 t2 s (λ y m u. fails w m u X) hx o e parts.0 d1
      (λ y m h g i at. (second.after_fails y m h g at t2 X).1 (inl (parts.1, subst (λ v. part_fails Γ (seq ps) v t2 (off_channels closed X)) i d2))))

  resumes_in : (x : ℕ) (t t1 t2 : List Event) (y : ℕ) (m : NodeId) (f g : ℕ → NodeId → List Event → Bool) → x < 2 ^ 64 → from x ≡ true → t ≡ t1 ++ t2 → y < 2 ^ 64 → is_silent_on closed t1 ≡ true
      → value w.maps rest y ≡ Some m → g y m t2 ≡ true
      → Followed (meaning p) (in_turn ps) Γ (state_of layout x) t1 (ended (state_of layout y))
      → ((u : ℕ) (n : NodeId) (a : List Event) → u < 2 ^ 64 → later u ≡ true → value w.maps map u ≡ Some n → Resumes w layout closed Γ (seq ps) rest u g a → f u n a ≡ true)
      → Resumes w layout closed Γ p map x f t
  resumes_in x t t1 t2 y m f g hx o e hy q led behaved (in_second u1 u2 s i d1 d2) gives =
      let parts = silent_parts closed u1 u2 (sym (ap (is_silent_on closed) i) ∙ q) in
      step x t u1 (u2 ++ t2) s f hx o (e ∙ ap (λ a. a ++ t2) i ∙ append_assoc u1 u2 t2) parts.0 d1
      (λ u n h z j at. gives u n (u2 ++ t2) h z at (record {
        t1 = u2;
        t2 = t2;
        y = y;
        m = m;
        whole = refl;
        below = hy;
        silent = parts.1;
        ended = subst (λ v. part_ends Γ (seq ps) v u2 (state_of layout y)) j d2;
        leads = led;
        behaved = behaved;
      }))

  fails_in : (x : ℕ) (t : List Event) (X : Event → Bool) → x < 2 ^ 64 → from x ≡ true
      → QuietlyFails layout closed Γ (seq (and_tree p ps)) x t X ⊎ Resumes w layout closed Γ (seq (and_tree p ps)) rest x (λ y m u. fails w m u X) t
      → QuietlyFails layout closed Γ p x t X ⊎ Resumes w layout closed Γ p map x (λ y m u. fails w m u X) t
  fails_in x t X hx o (inl s) = fails_quiet x t X hx o s.0 s.1
  fails_in x t X hx o (inr s) = inr (resumes_in x t s.t1 s.t2 s.y s.m (λ y m u. fails w m u X) (λ y m u. fails w m u X) hx o s.whole s.below s.silent s.leads s.behaved s.ended
      (λ u n a h z at k. (second.after_fails u n h z at a X).1 (inr k)))

  ends_out : (x : ℕ) (t : List Event) (z : ℕ) → x < 2 ^ 64 → from x ≡ true → z < 2 ^ 64
      → Resumes w layout closed Γ p map x (λ y m u. ends w m u (bit_xor z (change_of keep x y))) t
      → Resumes w layout closed Γ (seq (and_tree p ps)) rest x (λ y m u. ends w m u (bit_xor z (change_of keep x y))) t
  ends_out x t z hx o hz s =
      let k = (second.after_ends s.y s.m s.below (carries x s.y s.t1 o s.ended) s.leads s.t2 (bit_xor z (change_of keep x s.y)) (change_lt z keep x s.y hz hx s.below small)).0 s.behaved in
      both_resume x s.y t s.t1 s.t2 (λ y m u. ends w m u (bit_xor z (change_of keep x y))) s.whole s.below s.silent s.ended
      (record { t1 = k.t1; t2 = k.t2; y = k.y; m = k.m; whole = k.whole; below = k.below; silent = k.silent; ended = k.ended; leads = k.leads; behaved = ap (ends w k.m k.t2) (sym (change_twice z keep x s.y k.y)) ∙ k.behaved })

  ends_in : (x : ℕ) (t : List Event) (z : ℕ) → x < 2 ^ 64 → from x ≡ true → z < 2 ^ 64
      → Resumes w layout closed Γ (seq (and_tree p ps)) rest x (λ y m u. ends w m u (bit_xor z (change_of keep x y))) t
      → Resumes w layout closed Γ p map x (λ y m u. ends w m u (bit_xor z (change_of keep x y))) t
  ends_in x t z hx o hz s = resumes_in x t s.t1 s.t2 s.y s.m (λ y m u. ends w m u (bit_xor z (change_of keep x y))) (λ y m u. ends w m u (bit_xor z (change_of keep x y))) hx o s.whole s.below s.silent s.leads s.behaved s.ended
      (λ u n a h g at k. (second.after_ends u n h g at a (bit_xor z (change_of keep x u)) (change_lt z keep x u hz hx h small)).1
      (record { t1 = k.t1; t2 = k.t2; y = k.y; m = k.m; whole = k.whole; below = k.below; silent = k.silent; ended = k.ended; leads = k.leads; behaved = ap (ends w k.m k.t2) (change_twice z keep x u k.y) ∙ k.behaved }))

  pub seq_after : IsAfterFrom w layout keep closed Γ from (seq (and_tree p ps)) rest r
  seq_after = record {
    after_fails = λ x a hx o at t X. (
      λ h. fails_out x t X o ((first.after_fails x a hx o at t X).0 h),
      λ h. (first.after_fails x a hx o at t X).1 (fails_in x t X hx o h),
    );
    after_ends = λ x a hx o at t z hz. (
      λ h. ends_out x t z hx o hz ((first.after_ends x a hx o at t z hz).0 h),
      λ h. (first.after_ends x a hx o at t z hz).1 (ends_in x t z hx o hz h),
    );
  }
