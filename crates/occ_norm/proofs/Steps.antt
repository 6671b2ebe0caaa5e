-- The operators of the language on maps, in every environment of the variables in scope.
use Rattle.std.proofs.Common.{◌≡◌, ◌<◌, ◌≤◌, ◌^◌, ◌&&◌, ℕ, Bool, true, false, List, Result, Ok, Err, IfOk, bit_or, cond, refl, sym, ap, ◌∙◌, subst, arith}
use Rattle.std.proofs.lemmas.Bool.{and_from, and_parts}
use Rattle.std.proofs.lemmas.Nat.{or_lt}
use Rattle.occ_syntax.specs.occ_base.declared.names.Name.{Name}
use Rattle.occ_syntax.specs.occ_base.declared.width.Width.{Width}
use Rattle.occ_compare.specs.occ_bits.Layout.{state_of}
use Rattle.occ_syntax.specs.declared.scope.Kind.{Kind}
use Rattle.occ_syntax.specs.Eval.{is_true}
use Rattle.occ_syntax.specs.Scopes.{Environment}
use Rattle.occ_syntax.specs.Tree.{Exp, Tree, Trees, Cases, skip, stop, seq, par, select, no_tree, and_tree, no_case, and_case}
use Rattle.occ_syntax.specs.Types.{all_types_kept, cases_kept, is_condition, types_kept}
use Rattle.occ_compare.specs.occ_mdd.Maps.{value}
use Rattle.occ_compare.specs.occ_mdd.declared.map.MapId.{MapId}
use Rattle.occ_compare.specs.occ_node.declared.world.World.{World}
use Rattle.occ_norm_alt.specs.occ_follow.Sequence.{HasNodes}
use Rattle.occ_norm_alt.specs.occ_norm_frame.Maps.{Extends, IsStop}
use Rattle.occ_norm_alt.specs.occ_norm_frame.After.{AgreeBelow, IsOver}
use Rattle.occ_norm_alt.specs.occ_norm_frame.Placed.{Fits, IsAround, IsFrame}
use Rattle.occ_norm_alt.proofs.from_norm_frame.After.{after-extends, after-over, state_back, states_reached}
use Rattle.occ_norm_alt.proofs.from_norm_frame.FrameBits.{pow_more}
use Rattle.occ_compare.proofs.from_meaning.Sequence.{all_of_followed, followed_all_of}
use Rattle.occ_compare.specs.occ_meaning.Parallel.{all_of}
use Rattle.occ_norm_alt.proofs.from_norm_frame.Worlds.{extends_trans, has_nodes-extends}
use Rattle.occ_norm_assign.proofs.Moving.{types_first}
use Rattle.occ_compare.specs.occ_dd.Store.{IsKnown, has as is_member}
use Rattle.occ_compare.specs.occ_dd.declared.set.SetId.{SetId}
use Rattle.occ_compare.specs.occ_dd.declared.store.Store.{Store}
use Rattle.occ_norm_par.specs.States.{EndsIn}
use Rattle.occ_norm.specs.Parts.{IsAfterIn}
use Rattle.occ_norm.specs.From.{IsAfterFromIn}
use Rattle.occ_norm.proofs.From.{after_alike, after_all, after_fewer, after_later, after_some, case_after}
use Rattle.occ_norm.proofs.Sequences.{Reaches, seq_after}
use Rattle.occ_norm.proofs.Simple.{after_as, skip_after, stop_after}

-- what an answer has, where that follows
pub if_ok : {A E : Type 0} (r : Result A E) (P Q : A → Type 0) → ((a : A) → P a → Q a) → IfOk r P → IfOk r Q
if_ok (Ok a) P Q f h = f a h
if_ok (Err e) P Q f h = h

pub if_both : {A E : Type 0} (r : Result A E) (P Q R : A → Type 0) → ((a : A) → P a → Q a → R a) → IfOk r P → IfOk r Q → IfOk r R
if_both (Ok a) P Q R f h k = f a h k
if_both (Err e) P Q R f h k = h

-- a part of another form
pub as_is : (w : World) (vars : List (Name × Kind)) (layout : List (Name × Width × ℕ)) (keep : ℕ) (closed : List Name) (p q : Tree) (rest r : MapId) → p ≡ q
    → IsAfterIn w vars layout keep closed q rest r → IsAfterIn w vars layout keep closed p rest r
as_is w vars layout keep closed p q rest r e is = subst (λ t. IsAfterIn w vars layout keep closed t rest r) (sym e) is

pub front_as : (w : World) (vars : List (Name × Kind)) (layout : List (Name × Width × ℕ)) (keep : ℕ) (closed : List Name) (from : ℕ → Bool) (p q : Tree) (rest r : MapId) → p ≡ q
    → IsAfterFromIn w vars layout keep closed from q rest r → IsAfterFromIn w vars layout keep closed from p rest r
front_as w vars layout keep closed from p q rest r e is = subst (λ t. IsAfterFromIn w vars layout keep closed from t rest r) (sym e) is

-- a map that is one everywhere
pub stop_over : (w : World) (n : ℕ) (r : MapId) → HasNodes w r → IsStop w r → IsOver w n r
stop_over w n r has is = record { has = has; same = λ x y hx hy agree. is.everywhere.values x ∙ sym (is.everywhere.values y) }

-- ---- as the world grows
pub in-extends : (v w : World) (k : Extends v w) (vars : List (Name × Kind)) (layout : List (Name × Width × ℕ)) (keep : ℕ) (closed : List Name) (p : Tree) (rest r : MapId)
    → HasNodes v rest → HasNodes v r → IsAfterIn v vars layout keep closed p rest r → IsAfterIn w vars layout keep closed p rest r
in-extends v w k vars layout keep closed p rest r has hr is Γ around types = after-extends v w k layout keep closed Γ p rest r has hr (is Γ around types)

pub from-extends : (v w : World) (k : Extends v w) (vars : List (Name × Kind)) (layout : List (Name × Width × ℕ)) (keep : ℕ) (closed : List Name) (from : ℕ → Bool) (p : Tree) (rest r : MapId)
    → HasNodes v rest → HasNodes v r → IsAfterFromIn v vars layout keep closed from p rest r → IsAfterFromIn w vars layout keep closed from p rest r
from-extends v w k vars layout keep closed from p rest r has hr is Γ around types = after_later v w k layout keep closed Γ p rest r has hr from (is Γ around types)

pub some_in : (w : World) (vars : List (Name × Kind)) (layout : List (Name × Width × ℕ)) (keep : ℕ) (closed : List Name) (from : ℕ → Bool) (p : Tree) (rest r : MapId)
    → IsAfterIn w vars layout keep closed p rest r → IsAfterFromIn w vars layout keep closed from p rest r
some_in w vars layout keep closed from p rest r is Γ around types = after_some w layout keep closed Γ p rest r from (is Γ around types)

pub all_in : (w : World) (vars : List (Name × Kind)) (layout : List (Name × Width × ℕ)) (keep : ℕ) (closed : List Name) (from : ℕ → Bool) (p : Tree) (rest r : MapId) → ((x : ℕ) → from x ≡ true)
    → IsAfterFromIn w vars layout keep closed from p rest r → IsAfterIn w vars layout keep closed p rest r
all_in w vars layout keep closed from p rest r all is Γ around types = after_all w layout keep closed Γ p rest r from all (is Γ around types)

pub fewer_in : (w : World) (vars : List (Name × Kind)) (layout : List (Name × Width × ℕ)) (keep : ℕ) (closed : List Name) (from fewer : ℕ → Bool) (p : Tree) (rest r other : MapId)
    → ((x : ℕ) → fewer x ≡ true → from x ≡ true) → ((x : ℕ) → fewer x ≡ true → value w.maps other x ≡ value w.maps r x)
    → IsAfterFromIn w vars layout keep closed from p rest r → IsAfterFromIn w vars layout keep closed fewer p rest other
fewer_in w vars layout keep closed from fewer p rest r other inside same is Γ around types = after_fewer w layout keep closed Γ p rest r from fewer other inside same (is Γ around types)

-- in the states of a set, as the world grows
pub front_later : (v w : World) (k : Extends v w) (vars : List (Name × Kind)) (layout : List (Name × Width × ℕ)) (keep : ℕ) (closed : List Name) (set : SetId) → IsKnown v.store set → (p : Tree) (rest r : MapId)
    → HasNodes v rest → HasNodes v r → IsAfterFromIn v vars layout keep closed (is_member v.store set) p rest r → IsAfterFromIn w vars layout keep closed (is_member w.store set) p rest r
front_later v w k vars layout keep closed set known p rest r has hr is =
    fewer_in w vars layout keep closed (is_member v.store set) (is_member w.store set) p rest r r (λ x h. sym (k.grows.stored.same set x known) ∙ h) (λ x h. refl)
    (from-extends v w k vars layout keep closed (is_member v.store set) p rest r has hr is)

-- a map that is limited to a set is right in its states; the worlds: before that, after it, and at the end
pub limited_in : (v u w : World) → Extends v u → Extends u w → (vars : List (Name × Kind)) (layout : List (Name × Width × ℕ)) (keep : ℕ) (closed : List Name) (a set : SetId) → a ≡ set → IsKnown v.store set → (p : Tree) (rest map r : MapId)
    → HasNodes v rest → HasNodes v map → HasNodes u r → ((x : ℕ) → is_member v.store a x ≡ true → value u.maps r x ≡ value v.maps map x)
    → IsAfterFromIn v vars layout keep closed (is_member v.store set) p rest map → IsAfterFromIn w vars layout keep closed (is_member w.store set) p rest r
limited_in v u w vu uw vars layout keep closed a set at known p rest map r rest_nodes nodes limited same is =
    let vw = extends_trans v u w vu uw in
    from-extends u w uw vars layout keep closed (is_member w.store set) p rest r (has_nodes-extends v u vu rest rest_nodes) limited
    (fewer_in u vars layout keep closed (is_member v.store set) (is_member w.store set) p rest map r
    (λ x h. sym (vw.grows.stored.same set x known) ∙ h)
    (λ x h. same x (ap (λ b. is_member v.store b x) at ∙ sym (vw.grows.stored.same set x known) ∙ h) ∙ sym (vu.maps.same map x nodes.known))
    (from-extends v u vu vars layout keep closed (is_member v.store set) p rest map rest_nodes nodes is))

pub keep_below : (keep needed both n : ℕ) → keep < 2 ^ n → needed < 2 ^ n → both ≡ bit_or keep needed → both < 2 ^ n
keep_below keep needed both n h k e = subst (λ b. b < 2 ^ n) (sym e) (or_lt n keep needed h k)

module _ (w : World) (vars : List (Name × Kind)) (layout : List (Name × Width × ℕ)) (n keep : ℕ) (closed : List Name) (frame : IsFrame vars layout n) (inside : keep < 2 ^ n) where
  few : n ≤ 24
  few = let e = frame.bits_are in let h = frame.few in omega (arith, e, h)

  small : keep < 2 ^ 64
  small = pow_more n 64 keep (omega (arith, few)) inside

  pub reaches_in : (Γ : Environment) (p : Tree) → IsAround Γ vars → types_kept p Γ ≡ true → Reaches layout Γ p
  reaches_in Γ p around types x t s h d = let k = states_reached vars layout n frame Γ around p types x t s d in (k.0, pow_more n 64 k.0 (omega (arith, few)) k.1, k.2)

  -- what follows, beyond a part that fits
  pub over_in : (p : Tree) (rest r : MapId) → Fits vars p → HasNodes w r → IsOver w n rest → IsAfterIn w vars layout keep closed p rest r → IsOver w n r
  over_in p rest r fits has over is = after-over w vars layout n frame keep inside closed fits.outer p rest r (is fits.outer fits.around fits.types) has

  pub skip_in : (rest : MapId) → IsOver w n rest → IsAfterIn w vars layout keep closed skip rest rest
  skip_in rest over Γ around types = skip_after w layout n keep closed Γ skip rest inside over (state_back vars layout n frame) (λ s t o. (λ d. d, λ d. d))

  pub none_in : (rest : MapId) → IsOver w n rest → IsAfterIn w vars layout keep closed (seq no_tree) rest rest
  none_in rest over Γ around types = skip_after w layout n keep closed Γ (seq no_tree) rest inside over (state_back vars layout n frame) (λ s t o. (λ d. d, λ d. d))

  pub empty_in : (rest : MapId) → IsOver w n rest → IsAfterIn w vars layout keep closed (par no_tree) rest rest
  empty_in rest over Γ around types = skip_after w layout n keep closed Γ (par no_tree) rest inside over (state_back vars layout n frame) (λ s t o. (λ d. d, λ d. d))

  pub stop_in : (rest r : MapId) → IsStop w r → IsAfterIn w vars layout keep closed stop rest r
  stop_in rest r is Γ around types = stop_after w layout keep closed Γ stop rest r is (λ s t o. (λ d. d, λ d. d))

  pub no_case_in : (rest r : MapId) → IsStop w r → IsAfterIn w vars layout keep closed (select no_case) rest r
  no_case_in rest r is Γ around types = stop_after w layout keep closed Γ (select no_case) rest r is (λ s t o. (λ d. d, λ d. d))

  -- one part and then others, at the states of a set: the others begin in those of another set
  pub seq_from_in : (s : Store) (a b : SetId) (p : Tree) (ps : Trees) (rest map r : MapId) → HasNodes w map → EndsIn s vars layout p a b
      → IsAfterFromIn w vars layout keep closed (is_member s b) (seq ps) rest map → IsAfterFromIn w vars layout keep closed (is_member s a) p map r
      → IsAfterFromIn w vars layout keep closed (is_member s a) (seq (and_tree p ps)) rest r
  seq_from_in s a b p ps rest map r nodes ends second first Γ around types =
      let t = and_parts (types_kept p Γ) (all_types_kept ps Γ) types in
      seq_after w layout keep closed Γ (is_member s a) (is_member s b) p ps rest map r small nodes (reaches_in Γ p around t.0) (λ x y u h d. ends Γ around t.0 x y u h d)
      (first Γ around t.0) (second Γ around t.1)

  -- some parts and then others, in the same way
  pub run_from_in : (s : Store) (a b : SetId) (qs ps : Trees) (rest map r : MapId) → HasNodes w map → EndsIn s vars layout (seq qs) a b
      → IsAfterFromIn w vars layout keep closed (is_member s b) (seq ps) rest map → IsAfterIn w vars layout keep closed (seq qs) map r
      → IsAfterFromIn w vars layout keep closed (is_member s a) (seq (all_of qs ps)) rest r
  run_from_in s a b qs ps rest map r nodes ends second first Γ around types =
      let t = types_first qs ps Γ types in
      after_alike w layout keep closed Γ (seq (all_of qs ps)) rest r (is_member s a) (seq (and_tree (seq qs) ps))
      (λ x u o. ((followed_all_of Γ qs ps).gives (state_of layout x) u o, (all_of_followed Γ qs ps).gives (state_of layout x) u o))
      (seq_from_in s a b (seq qs) ps rest map r nodes ends second (some_in w vars layout keep closed (is_member s a) (seq qs) map r first) Γ around (and_from _ _ t.0 t.1))

  pub one_in : (p : Tree) (rest r : MapId) → IsAfterIn w vars layout keep closed p rest r → IsAfterIn w vars layout keep closed (par (and_tree p no_tree)) rest r
  one_in p rest r is Γ around types =
      let t = and_parts (types_kept p Γ) (all_types_kept no_tree Γ) types in
      after_as w layout keep closed Γ (par (and_tree p no_tree)) rest r (λ x h. (p, r, is Γ around t.0, refl, λ u o. (λ d. d, λ d. d)))

  -- the tests: where the whole begins, where its first choice does, and where the others do
  pub case_in : (from here others : ℕ → Bool) (e : Exp) (p : Tree) (cs : Cases) (rest chosen map r : MapId) (test : ℕ → Bool)
      → ((Γ : Environment) → IsAround Γ vars → is_condition Γ e ≡ true → (x : ℕ) → x < 2 ^ 64 → test x ≡ is_true Γ e (state_of layout x))
      → ((x : ℕ) → value w.maps r x ≡ cond (test x) (value w.maps chosen x) (value w.maps map x))
      → ((x : ℕ) → from x ≡ true → test x ≡ true → here x ≡ true) → ((x : ℕ) → from x ≡ true → test x ≡ false → others x ≡ true)
      → IsAfterFromIn w vars layout keep closed here p rest chosen → IsAfterFromIn w vars layout keep closed others (select cs) rest map
      → IsAfterFromIn w vars layout keep closed from (select (and_case e p cs)) rest r
  case_in from here others e p cs rest chosen map r test tests is taken left first second Γ around types =
      let t = and_parts (is_condition Γ e && types_kept p Γ) (cases_kept cs Γ) types in
      let c = and_parts (is_condition Γ e) (types_kept p Γ) t.0 in
      case_after w layout keep closed Γ from here others e p cs rest chosen map r test (tests Γ around c.0) is taken left (first Γ around c.1) (second Γ around t.1)

  pub choice_over : (test : ℕ → Bool) (chosen map r : MapId) → ((x y : ℕ) → AgreeBelow n x y → test x ≡ test y)
      → ((x : ℕ) → value w.maps r x ≡ cond (test x) (value w.maps chosen x) (value w.maps map x)) → HasNodes w r → IsOver w n chosen → IsOver w n map → IsOver w n r
  choice_over test chosen map r same is has first second = record {
    has = has;
    same = λ x y hx hy agree. is x ∙ (λ i. cond (same x y agree i) (first.same x y hx hy agree i) (second.same x y hx hy agree i)) ∙ sym (is y);
  }

  -- ---- answers
  -- the part is of another form, and has its map at all assignments
  pub form_over : {E : Type 0} (p q : Tree) (rest : MapId) (r : Result MapId E) → p ≡ q → Fits vars p → IsOver w n rest → IfOk r (HasNodes w)
      → IfOk r (λ a. IsAfterIn w vars layout keep closed q rest a) → IfOk r (IsOver w n)
  form_over p q rest (Ok a) e fits over has is = over_in p rest a fits has over (as_is w vars layout keep closed p q rest a e is)
  form_over p q rest (Err x) e fits over has is = has

  pub form_front : {E : Type 0} (from : ℕ → Bool) (p q : Tree) (rest : MapId) (r : Result MapId E) → p ≡ q
      → IfOk r (λ a. IsAfterIn w vars layout keep closed q rest a) → IfOk r (λ a. IsAfterFromIn w vars layout keep closed from p rest a)
  form_front from p q rest (Ok a) e is = some_in w vars layout keep closed from p rest a (as_is w vars layout keep closed p q rest a e is)
  form_front from p q rest (Err x) e is = is
