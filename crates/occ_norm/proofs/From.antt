-- Maps of a part and of what follows it that are right at some assignments alone.
use Rattle.std.proofs.Common.{◌≡◌, ◌<◌, ◌^◌, ◌↔◌, inl, inr, ⊎_elim, ℕ, Bool, true, false, List, Some, MatchBool, cond, refl, sym, ap, ◌∙◌, subst, bit_xor}
use Rattle.occ_syntax.specs.occ_base.declared.event.Event.{Event}
use Rattle.occ_syntax.specs.occ_base.declared.names.Name.{Name}
use Rattle.occ_syntax.specs.occ_base.declared.width.Width.{Width}
use Rattle.occ_compare.specs.occ_bits.Layout.{state_of}
use Rattle.occ_syntax.specs.Meaning.{Outcome, meaning, refusing}
use Rattle.occ_syntax.specs.Scopes.{Environment}
use Rattle.occ_syntax.specs.Eval.{is_true}
use Rattle.occ_syntax.specs.Tree.{Exp, Tree, Cases, and_case, select}
use Rattle.occ_compare.specs.occ_mdd.Maps.{value}
use Rattle.occ_compare.specs.occ_mdd.declared.map.MapId.{MapId}
use Rattle.occ_compare.specs.occ_node.World.{IsNode, fails, ends}
use Rattle.occ_compare.specs.occ_node.declared.node.NodeId.{NodeId}
use Rattle.occ_compare.specs.occ_node.declared.world.World.{World}
use Rattle.occ_norm_alt.specs.occ_follow.Sequence.{HasNodes}
use Rattle.occ_norm_alt.specs.occ_norm_frame.Maps.{Extends}
use Rattle.occ_norm_alt.specs.occ_norm_frame.After.{IsAfter, QuietlyFails, Resumes, change_of}
use Rattle.occ_norm_alt.proofs.from_norm_frame.After.{map_node, value_is, value_was}
use Rattle.occ_norm_alt.specs.occ_weave.Weave.{off_channels}
use Rattle.occ_norm.specs.From.{IsAfterFrom}
use Rattle.occ_norm.proofs.Simple.{resumes_as}

module _ (w : World) (layout : List (Name × Width × ℕ)) (keep : ℕ) (closed : List Name) (Γ : Environment) (p : Tree) (rest r : MapId) where
  pub after_some : (from : ℕ → Bool) → IsAfter w layout keep closed Γ p rest r → IsAfterFrom w layout keep closed Γ from p rest r
  after_some from is = record { after_fails = λ x a hx o at t X. is.after_fails x a hx at t X; after_ends = λ x a hx o at t z hz. is.after_ends x a hx at t z hz }

  pub after_all : (from : ℕ → Bool) → ((x : ℕ) → from x ≡ true) → IsAfterFrom w layout keep closed Γ from p rest r → IsAfter w layout keep closed Γ p rest r
  after_all from all is = record { after_fails = λ x a hx at t X. is.after_fails x a hx (all x) at t X; after_ends = λ x a hx at t z hz. is.after_ends x a hx (all x) at t z hz }

  -- at fewer assignments, and another map with the same nodes there
  pub after_fewer : (from fewer : ℕ → Bool) (other : MapId) → ((x : ℕ) → fewer x ≡ true → from x ≡ true) → ((x : ℕ) → fewer x ≡ true → value w.maps other x ≡ value w.maps r x)
      → IsAfterFrom w layout keep closed Γ from p rest r → IsAfterFrom w layout keep closed Γ fewer p rest other
  after_fewer from fewer other inside same is = record {
    after_fails = λ x a hx o at t X. is.after_fails x a hx (inside x o) (sym (same x o) ∙ at) t X;
    after_ends = λ x a hx o at t z hz. is.after_ends x a hx (inside x o) (sym (same x o) ∙ at) t z hz;
  }

  -- parts that do the same from all states have the same maps
  pub after_alike : (from : ℕ → Bool) (q : Tree) → ((x : ℕ) (u : List Event) (o : Outcome) → (meaning q).does Γ (state_of layout x) u o ↔ (meaning p).does Γ (state_of layout x) u o)
      → IsAfterFrom w layout keep closed Γ from q rest r → IsAfterFrom w layout keep closed Γ from p rest r
  after_alike from q alike is = record {
    after_fails = λ x a hx o at t X. let iff = is.after_fails x a hx o at t X in (
      λ h. ⊎_elim
          (λ (s : QuietlyFails layout closed Γ q x t X). inl (s.0, (alike x t (refusing (off_channels closed X))).0 s.1))
          (λ (s : Resumes w layout closed Γ q rest x (λ y m u. fails w m u X) t). inr (resumes_as w layout closed Γ q p rest x (λ y m u. fails w m u X) t (λ u o. (alike x u o).0) s))
          (iff.0 h),
      ⊎_elim
          (λ (s : QuietlyFails layout closed Γ p x t X). iff.1 (inl (s.0, (alike x t (refusing (off_channels closed X))).1 s.1)))
          (λ (s : Resumes w layout closed Γ p rest x (λ y m u. fails w m u X) t). iff.1 (inr (resumes_as w layout closed Γ p q rest x (λ y m u. fails w m u X) t (λ u o. (alike x u o).1) s))),
    );
    after_ends = λ x a hx o at t z hz. let iff = is.after_ends x a hx o at t z hz in (
      λ h. resumes_as w layout closed Γ q p rest x (λ y m u. ends w m u (bit_xor z (change_of keep x y))) t (λ u o. (alike x u o).0) (iff.0 h),
      λ s. iff.1 (resumes_as w layout closed Γ p q rest x (λ y m u. ends w m u (bit_xor z (change_of keep x y))) t (λ u o. (alike x u o).1) s),
    );
  }

-- ---- as the world grows
module _ (v w : World) (k : Extends v w) (layout : List (Name × Width × ℕ)) (keep : ℕ) (closed : List Name) (Γ : Environment) (p : Tree) (rest r : MapId) (has : HasNodes v rest) (hr : HasNodes v r) where
  later : (x : ℕ) (F G : ℕ → NodeId → List Event → Bool) → ((y : ℕ) (m : NodeId) (u : List Event) → IsNode v m → G y m u ≡ F y m u) → (t : List Event)
      → Resumes v layout closed Γ p rest x F t → Resumes w layout closed Γ p rest x G t
  later x F G alike t s = record {
    t1 = s.t1;
    t2 = s.t2;
    y = s.y;
    m = s.m;
    whole = s.whole;
    below = s.below;
    silent = s.silent;
    ended = s.ended;
    leads = value_is v w k rest has s.y (Some s.m) s.leads;
    behaved = alike s.y s.m s.t2 (map_node v rest has s.y s.below s.m s.leads) ∙ s.behaved;
  }

  before : (x : ℕ) (F G : ℕ → NodeId → List Event → Bool) → ((y : ℕ) (m : NodeId) (u : List Event) → IsNode v m → G y m u ≡ F y m u) → (t : List Event)
      → Resumes w layout closed Γ p rest x G t → Resumes v layout closed Γ p rest x F t
  before x F G alike t s =
      let led : value v.maps rest s.y ≡ Some s.m = value_was v w k rest has s.y (Some s.m) s.leads in
      record {
        t1 = s.t1;
        t2 = s.t2;
        y = s.y;
        m = s.m;
        whole = s.whole;
        below = s.below;
        silent = s.silent;
        ended = s.ended;
        leads = led;
        behaved = sym (alike s.y s.m s.t2 (map_node v rest has s.y s.below s.m led)) ∙ s.behaved;
      }

  pub after_later : (from : ℕ → Bool) → IsAfterFrom v layout keep closed Γ from p rest r → IsAfterFrom w layout keep closed Γ from p rest r
  after_later from is = record {
    after_fails = λ x a h o e t X.
        let was = value_was v w k r hr x (Some a) e in
        let same_at = k.grows.same_fails a t X (map_node v r hr x h a was) in
        let F : ℕ → NodeId → List Event → Bool = λ y m u. fails v m u X in
        let G : ℕ → NodeId → List Event → Bool = λ y m u. fails w m u X in
        let alike : (y : ℕ) (m : NodeId) (u : List Event) → IsNode v m → G y m u ≡ F y m u = λ y m u l. k.grows.same_fails m u X l in (
          λ b. ⊎_elim (λ (q : QuietlyFails layout closed Γ p x t X). inl q) (λ (s : Resumes v layout closed Γ p rest x F t). inr (later x F G alike t s)) ((is.after_fails x a h o was t X).0 (sym same_at ∙ b)),
          λ s. same_at ∙ (is.after_fails x a h o was t X).1 (⊎_elim (λ (q : QuietlyFails layout closed Γ p x t X). inl q) (λ (z : Resumes w layout closed Γ p rest x G t). inr (before x F G alike t z)) s),
        );
    after_ends = λ x a h o e t z b.
        let was = value_was v w k r hr x (Some a) e in
        let same_at = k.grows.same_ends a t z (map_node v r hr x h a was) in
        let F : ℕ → NodeId → List Event → Bool = λ y m u. ends v m u (bit_xor z (change_of keep x y)) in
        let G : ℕ → NodeId → List Event → Bool = λ y m u. ends w m u (bit_xor z (change_of keep x y)) in
        let alike : (y : ℕ) (m : NodeId) (u : List Event) → IsNode v m → G y m u ≡ F y m u = λ y m u l. k.grows.same_ends m u (bit_xor z (change_of keep x y)) l in (
          λ c. later x F G alike t ((is.after_ends x a h o was t z b).0 (sym same_at ∙ c)),
          λ s. same_at ∙ (is.after_ends x a h o was t z b).1 (before x F G alike t s),
        );
  }

-- ---- the first choice of an IF
-- a map that has at each of the assignments the node of the map of a part that behaves so from there
pub from_as : (w : World) (layout : List (Name × Width × ℕ)) (keep : ℕ) (closed : List Name) (Γ : Environment) (from : ℕ → Bool) (q : Tree) (rest r : MapId)
    → ((x : ℕ) → x < 2 ^ 64 → from x ≡ true → (p : Tree) × (map : MapId) × (there : ℕ → Bool) × IsAfterFrom w layout keep closed Γ there p rest map × (there x ≡ true) × (value w.maps r x ≡ value w.maps map x)
    × ((u : List Event) (o : Outcome) → (meaning p).does Γ (state_of layout x) u o ↔ (meaning q).does Γ (state_of layout x) u o))
    → IsAfterFrom w layout keep closed Γ from q rest r
from_as w layout keep closed Γ from q rest r there = record {
  after_fails = λ x a hx o at t X. let k = there x hx o in let iff = k.3.after_fails x a hx k.4 (sym k.5 ∙ at) t X in (
    λ h. ⊎_elim
        (λ (s : QuietlyFails layout closed Γ k.0 x t X). inl (s.0, (k.6 t (refusing (off_channels closed X))).0 s.1))
        (λ (s : Resumes w layout closed Γ k.0 rest x (λ y m u. fails w m u X) t). inr (resumes_as w layout closed Γ k.0 q rest x (λ y m u. fails w m u X) t (λ u o. (k.6 u o).0) s))
        (iff.0 h),
    ⊎_elim
        (λ (s : QuietlyFails layout closed Γ q x t X). iff.1 (inl (s.0, (k.6 t (refusing (off_channels closed X))).1 s.1)))
        (λ (s : Resumes w layout closed Γ q rest x (λ y m u. fails w m u X) t). iff.1 (inr (resumes_as w layout closed Γ q k.0 rest x (λ y m u. fails w m u X) t (λ u o. (k.6 u o).1) s))),
  );
  after_ends = λ x a hx o at t z hz. let k = there x hx o in let iff = k.3.after_ends x a hx k.4 (sym k.5 ∙ at) t z hz in (
    λ h. resumes_as w layout closed Γ k.0 q rest x (λ y m u. ends w m u (bit_xor z (change_of keep x y))) t (λ u o. (k.6 u o).0) (iff.0 h),
    λ s. iff.1 (resumes_as w layout closed Γ q k.0 rest x (λ y m u. ends w m u (bit_xor z (change_of keep x y))) t (λ u o. (k.6 u o).1) s),
  );
}

-- the tests: where the whole begins, where its choice does, and where the others do
pub case_after : (w : World) (layout : List (Name × Width × ℕ)) (keep : ℕ) (closed : List Name) (Γ : Environment) (from here others : ℕ → Bool) (e : Exp) (p : Tree) (cs : Cases) (rest chosen map r : MapId) (test : ℕ → Bool)
    → ((x : ℕ) → x < 2 ^ 64 → test x ≡ is_true Γ e (state_of layout x)) → ((x : ℕ) → value w.maps r x ≡ cond (test x) (value w.maps chosen x) (value w.maps map x))
    → ((x : ℕ) → from x ≡ true → test x ≡ true → here x ≡ true) → ((x : ℕ) → from x ≡ true → test x ≡ false → others x ≡ true)
    → IsAfterFrom w layout keep closed Γ here p rest chosen → IsAfterFrom w layout keep closed Γ others (select cs) rest map → IsAfterFrom w layout keep closed Γ from (select (and_case e p cs)) rest r
case_after w layout keep closed Γ from here others e p cs rest chosen map r test tests is taken left first second = from_as w layout keep closed Γ from (select (and_case e p cs)) rest r (λ x hx o. at x hx o (test x) refl)
  where
    at : (x : ℕ) → x < 2 ^ 64 → from x ≡ true → (b : Bool) → test x ≡ b → (q : Tree) × (m : MapId) × (there : ℕ → Bool) × IsAfterFrom w layout keep closed Γ there q rest m × (there x ≡ true) × (value w.maps r x ≡ value w.maps m x)
        × ((u : List Event) (o : Outcome) → (meaning q).does Γ (state_of layout x) u o ↔ (meaning (select (and_case e p cs))).does Γ (state_of layout x) u o)
    at x hx o true h = (
      p,
      chosen,
      here,
      first,
      taken x o h,
      is x ∙ ap (λ c. cond c (value w.maps chosen x) (value w.maps map x)) h,
      λ u o. let b : true ≡ is_true Γ e (state_of layout x) = sym h ∙ tests x hx in
          let M : Bool → Type 0 = λ c. MatchBool c ((meaning p).does Γ (state_of layout x) u o) ((meaning (select cs)).does Γ (state_of layout x) u o) in
          (λ d. subst M b d, λ d. subst M (sym b) d),
    )
    at x hx o false h = (
      select cs,
      map,
      others,
      second,
      left x o h,
      is x ∙ ap (λ c. cond c (value w.maps chosen x) (value w.maps map x)) h,
      λ u o. let b : false ≡ is_true Γ e (state_of layout x) = sym h ∙ tests x hx in
          let M : Bool → Type 0 = λ c. MatchBool c ((meaning p).does Γ (state_of layout x) u o) ((meaning (select cs)).does Γ (state_of layout x) u o) in
          (λ d. subst M b d, λ d. subst M (sym b) d),
    )
