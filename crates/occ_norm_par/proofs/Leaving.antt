-- The states that the choices of an IF leave, one after another.
use Rattle.std.proofs.Common.{◌≡◌, ◌++◌, ◌&&◌, ⊎_elim, ℕ, ◌+◌, ◌<◌, ◌≤◌, not, List, [], ◌∷◌, get_or, length, refl, sym, ap, ◌∙◌, subst, arith}
use Rattle.std.proofs.lemmas.Bool.{cases_lt}
use Rattle.std.proofs.lemmas.List.{get_or_append_left, get_or_push, length-append}
use Rattle.occ_syntax.specs.occ_base.declared.names.Name.{Name}
use Rattle.occ_syntax.specs.occ_base.declared.width.Width.{Width}
use Rattle.occ_norm_frame.specs.occ_bits.Layout.{environment_in, state_of}
use Rattle.occ_norm_frame.specs.occ_dd.Store.{Keeps, has}
use Rattle.occ_norm_frame.specs.occ_dd.declared.set.SetId.{SetId}
use Rattle.occ_norm_frame.specs.occ_dd.declared.store.Store.{Store}
use Rattle.occ_syntax.specs.Eval.{is_true}
use Rattle.occ_syntax.specs.View.{exp}
use Rattle.occ_syntax.specs.declared.expr.Expr.{Expr}
use Rattle.occ_syntax.specs.declared.proc.Proc.{Proc}
use Rattle.occ_norm_par.specs.States.{AreLeft, AreStates, set_at}
use Rattle.occ_norm_par.proofs.Freeing.{states-keeps}
use Rattle.occ_norm_par.proofs.Reaching.{other_default}

-- the sets so far stand in front of the first choices, so many, and behind the last of these
pub record LeftSoFar (s : Store) (layout : List (Name × Width × ℕ)) (n : ℕ) (from last : SetId) (choices : List (Expr × Proc)) (m : ℕ) (sets : List SetId) : Type 0 where
  pub count : length sets ≡ m + 1
  pub first : set_at sets 0 ≡ from
  pub end : set_at sets m ≡ last
  pub states : (i : ℕ) → i < length sets → AreStates s n (set_at sets i)
  pub left : (i : ℕ) (c : Expr × Proc) → i < m → i < length choices → c ≡ get_or choices i c → (x : ℕ)
      → has s (set_at sets (i + 1)) x ≡ (has s (set_at sets i) x && not (is_true (environment_in layout) (exp c.0) (state_of layout x)))

pub left_one : (s : Store) (layout : List (Name × Width × ℕ)) (n : ℕ) (from : SetId) (choices : List (Expr × Proc)) (sets : List SetId) → sets ≡ from ∷ [] → AreStates s n from
    → LeftSoFar s layout n from from choices 0 sets
left_one s layout n from choices sets e is = subst (LeftSoFar s layout n from from choices 0) (sym e) (record {
  count = refl;
  first = refl;
  end = refl;
  states = λ i h. let z : i ≡ 0 = omega (arith, h) in subst (λ m. AreStates s n (set_at (from ∷ []) m)) (sym z) is;
  left = λ i c h l at x. absurd (omega (arith, h));
})

pub left_more : (s t : Store) → Keeps s t → (layout : List (Name × Width × ℕ)) (n : ℕ) (from last next : SetId) (choices : List (Expr × Proc)) (m : ℕ) (sets new : List SetId) → new ≡ sets ++ next ∷ []
    → LeftSoFar s layout n from last choices m sets → AreStates t n next → (d : Expr × Proc) → d ≡ get_or choices m d
    → ((x : ℕ) → has t next x ≡ (has s last x && not (is_true (environment_in layout) (exp d.0) (state_of layout x)))) → LeftSoFar t layout n from next choices (m + 1) new
left_more s t k layout n from last next choices m sets new e is one d here step = subst (LeftSoFar t layout n from next choices (m + 1)) (sym e) (record {
  count = length-append sets (next ∷ []) ∙ ap (λ c. c + 1) count;
  first = old 0 (omega (arith, count)) ∙ is.first;
  end = latest (m + 1) (omega (arith, count));
  states = λ i h. ⊎_elim
      (λ (l : i < length sets). subst (AreStates t n) (sym (old i l)) (states-keeps s t k n (set_at sets i) (is.states i l)))
      (λ (l : length sets ≤ i). subst (AreStates t n) (sym (latest i (omega (arith, l, h, long)))) one)
      (cases_lt i (length sets));
  left = λ i c h l at x. ⊎_elim
      (λ (b : i < m). kept (i + 1) (omega (arith, count, b)) x ∙ is.left i c b l at x ∙ ap (λ v. v && not (is_true (environment_in layout) (exp c.0) (state_of layout x))) (sym (kept i (omega (arith, count, b)) x)))
      (λ (b : m ≤ i).
      let same : i ≡ m = omega (arith, b, h) in
      let other : d ≡ c = here ∙ ap (λ j. get_or choices j d) (sym same) ∙ other_default choices i d c l ∙ sym at in
      ap (λ a. has t a x) (latest (i + 1) (omega (arith, count, same))) ∙ step x
      ∙ (λ j. (ap (λ a. has s a x) (sym is.end) ∙ ap (λ j. has s (set_at sets j) x) (sym same) ∙ sym (kept i (omega (arith, count, same)) x)) j && not (is_true (environment_in layout) (exp (other j).0) (state_of layout x))))
      (cases_lt i m);
})
  where
    count : length sets ≡ m + 1
    count = is.count

    long : length (sets ++ next ∷ []) ≡ length sets + 1
    long = length-append sets (next ∷ [])

    old : (i : ℕ) → i < length sets → set_at (sets ++ next ∷ []) i ≡ set_at sets i
    old i h = get_or_append_left sets (next ∷ []) (record { 0 = 0 }) i h

    latest : (i : ℕ) → i ≡ length sets → set_at (sets ++ next ∷ []) i ≡ next
    latest i h = get_or_push sets next (record { 0 = 0 }) i (sym h)

    kept : (i : ℕ) → i < length sets → (x : ℕ) → has t (set_at (sets ++ next ∷ []) i) x ≡ has s (set_at sets i) x
    kept i h x = ap (λ a. has t a x) (old i h) ∙ k.same (set_at sets i) x (is.states i h).known

pub left_whole : (s : Store) (layout : List (Name × Width × ℕ)) (n : ℕ) (from last : SetId) (choices : List (Expr × Proc)) (m : ℕ) (sets : List SetId) → m ≡ length choices
    → LeftSoFar s layout n from last choices m sets → AreLeft s layout n from choices sets
left_whole s layout n from last choices m sets e is = record {
  count = is.count ∙ ap (λ c. c + 1) e;
  first = is.first;
  states = is.states;
  left = λ i c h at x. is.left i c (omega (arith, e, h)) h at x;
}

-- once they are made
pub left-keeps : (s t : Store) → Keeps s t → (layout : List (Name × Width × ℕ)) (n : ℕ) (from : SetId) (choices : List (Expr × Proc)) (sets : List SetId)
    → AreLeft s layout n from choices sets → AreLeft t layout n from choices sets
left-keeps s t k layout n from choices sets is = record {
  count = is.count;
  first = is.first;
  states = λ i h. states-keeps s t k n (set_at sets i) (is.states i h);
  left = λ i c h at x.
      let count = is.count in
      k.same (set_at sets (i + 1)) x (is.states (i + 1) (omega (arith, count, h))).known ∙ is.left i c h at x
      ∙ ap (λ v. v && not (is_true (environment_in layout) (exp c.0) (state_of layout x))) (sym (k.same (set_at sets i) x (is.states i (omega (arith, count, h))).known));
}
