-- The states that parts reach: what they write, STOP, the parts of a SEQ.
use Rattle.std.proofs.Common.{◌≡◌, ◌++◌, ⊎_elim, ℕ, zero, suc, ◌+◌, ◌<◌, ◌≤◌, Bool, true, false, List, [], ◌∷◌, drop, get_or, length, refl, sym, ap, ◌∙◌, subst, arith}
use Rattle.std.proofs.lemmas.Bool.{and_parts, cases_lt}
use Rattle.std.proofs.lemmas.List.{drop_more, get_or_append_left, get_or_push, length-append}
use Rattle.occ_syntax.specs.occ_base.declared.event.Event.{Event}
use Rattle.occ_syntax.specs.occ_base.declared.names.Name.{Name}
use Rattle.occ_syntax.specs.occ_base.declared.width.Width.{Width}
use Rattle.occ_norm_frame.specs.occ_bits.Layout.{state_of}
use Rattle.occ_norm_frame.specs.occ_dd.Store.{IsKnown, Keeps, has}
use Rattle.occ_norm_frame.specs.occ_dd.declared.set.SetId.{SetId}
use Rattle.occ_norm_frame.specs.occ_dd.declared.store.Store.{Store}
use Rattle.occ_syntax.specs.declared.proc.Proc.{Proc, Skip}
use Rattle.occ_syntax.specs.declared.scope.Kind.{Kind}
use Rattle.occ_syntax.specs.Meaning.{Outcome, Stopped, ended, refusing, in_second, stopped, ends as part_ends}
use Rattle.occ_syntax.specs.Scopes.{Trace, Values}
use Rattle.occ_syntax.specs.Tree.{Tree, Trees, and_tree, no_tree, seq, stop}
use Rattle.occ_syntax.specs.Types.{all_types_kept, types_kept}
use Rattle.occ_syntax.specs.View.{tree, trees}
use Rattle.occ_norm_frame.specs.Placed.{IsFrame}
use Rattle.occ_norm_frame.proofs.After.{state_back}
use Rattle.occ_norm_par.specs.Sides.{AreWritten}
use Rattle.occ_norm_par.proofs.Assignments.{end_state}
use Rattle.occ_norm_par.proofs.Writing.{writes_within}
use Rattle.occ_norm_par.specs.States.{AreBetween, AreStates, EndsIn, HasFreed, set_at}
use Rattle.occ_norm_par.proofs.Freeing.{states-keeps}
use Rattle.occ_norm_par.proofs.Valued.{same_end}

pub ends-keeps : (s t : Store) → Keeps s t → (vars : List (Name × Kind)) (layout : List (Name × Width × ℕ)) (p : Tree) (from to : SetId) → IsKnown s from → IsKnown s to
    → EndsIn s vars layout p from to → EndsIn t vars layout p from to
ends-keeps s t k vars layout p from to kf kt is Γ around types x y u hx d = k.same to y kt ∙ is Γ around types x y u (sym (k.same from x kf) ∙ hx) d

-- STOP never ends
at_rest_only : (t : Trace) (o : Outcome) → Stopped t o → (X : Event → Bool) × (t ≡ []) × (o ≡ refusing X)
at_rest_only t o (stopped {X = X}) = (X, refl, refl)

abbrev is_refusing : Outcome → Bool
is_refusing (ended s) = false
is_refusing (refusing X) = true

pub never_ended : (t : Trace) (s : Values) → Stopped t (ended s) → ⊥
never_ended t s d = let k = at_rest_only t (ended s) d in let f : false ≡ true = ap is_refusing k.2 in cc

module _ (s : Store) (vars : List (Name × Kind)) (layout : List (Name × Width × ℕ)) (n : ℕ) (frame : IsFrame vars layout n) where
  pub written_ends : (p : Tree) (bits : ℕ) (from r : SetId) → AreWritten layout p bits → HasFreed s n bits from r → EndsIn s vars layout p from r
  written_ends p bits from r are freed Γ around types x y t hx d = freed x y hx (writes_within vars layout n frame Γ around p types bits are x y t d)

  pub stop_ends : (p : Tree) (from r : SetId) → p ≡ stop → EndsIn s vars layout p from r
  stop_ends p from r e Γ around types x y t hx d = absurd (never_ended t (state_of layout y) (subst (λ q. part_ends Γ q (state_of layout x) t (state_of layout y)) e d))

  -- a state that stays
  pub stays : (from : SetId) (x y : ℕ) → AreStates s n from → has s from x ≡ true → state_of layout y ≡ state_of layout x → has s from y ≡ true
  stays from x y is hx e = is.same y x (state_back vars layout n frame y x e) ∙ hx

  -- ---- SEQ
  none_ends : (a : SetId) → AreStates s n a → EndsIn s vars layout (seq no_tree) a a
  none_ends a is Γ around types x y t hx d = stays a x y is hx (same_end (state_of layout y) (state_of layout x) d.1)

  more_ends : (p : Tree) (ps : Trees) (a b c : SetId) → EndsIn s vars layout p a b → EndsIn s vars layout (seq ps) b c → EndsIn s vars layout (seq (and_tree p ps)) a c
  more_ends p ps a b c first second Γ around types x y t hx (in_second t1 t2 s1 e d1 d2) =
      let kept = and_parts (types_kept p Γ) (all_types_kept ps Γ) types in
      let mid = end_state vars layout n frame Γ around p kept.0 x t1 s1 d1 in
      second Γ around kept.1 mid.y y t2
      (first Γ around kept.0 x mid.y t1 hx (subst (part_ends Γ p (state_of layout x) t1) mid.is d1))
      (subst (λ v. part_ends Γ (seq ps) v t2 (state_of layout y)) mid.is d2)

  dropped_all : {A : Type 0} (xs : List A) → drop (length xs) xs ≡ []
  dropped_all [] = refl
  dropped_all (x ∷ xs) = dropped_all xs

  seq_from : (ps : List Proc) (sets : List SetId) (from : SetId) → AreBetween s vars layout n from ps sets → (k i : ℕ) → i + k ≡ length ps
      → EndsIn s vars layout (seq (trees (drop i ps))) (set_at sets i) (set_at sets (length ps))
  seq_from ps sets from is zero i e =
      let last : length ps ≡ i = omega (arith, e) in
      let count = is.count in
      subst (λ m. EndsIn s vars layout (seq (trees (drop m ps))) (set_at sets m) (set_at sets (length ps))) last
      (subst (λ qs. EndsIn s vars layout (seq (trees qs)) (set_at sets (length ps)) (set_at sets (length ps))) (sym (dropped_all ps))
      (none_ends (set_at sets (length ps)) (is.states (length ps) (omega (arith, count)))))
  seq_from ps sets from is (suc k) i e =
      subst (λ qs. EndsIn s vars layout (seq (trees qs)) (set_at sets i) (set_at sets (length ps))) (sym (drop_more ps i Skip (omega (arith, e))))
      (more_ends (tree (get_or ps i Skip)) (trees (drop (i + 1) ps)) (set_at sets i) (set_at sets (i + 1)) (set_at sets (length ps))
      (is.ends i (omega (arith, e)))
      (seq_from ps sets from is k (i + 1) (omega (arith, e))))

  pub seq_ends : (p : Tree) (ps : List Proc) (sets : List SetId) (from : SetId) → p ≡ seq (trees ps) → AreBetween s vars layout n from ps sets → EndsIn s vars layout p from (set_at sets (length ps))
  seq_ends p ps sets from e is =
      subst (λ q. EndsIn s vars layout q from (set_at sets (length ps))) (sym e)
      (subst (λ a. EndsIn s vars layout (seq (trees ps)) a (set_at sets (length ps))) is.first (seq_from ps sets from is (length ps) 0 (omega arith)))

-- ---- sets in front of parts
-- the sets so far stand in front of the first parts, so many, and behind the last of these
pub record AreFirst (s : Store) (vars : List (Name × Kind)) (layout : List (Name × Width × ℕ)) (n : ℕ) (from last : SetId) (parts : List Proc) (m : ℕ) (sets : List SetId) : Type 0 where
  pub count : length sets ≡ m + 1
  pub first : set_at sets 0 ≡ from
  pub end : set_at sets m ≡ last
  pub states : (i : ℕ) → i < length sets → AreStates s n (set_at sets i)
  pub ends : (i : ℕ) → i < m → EndsIn s vars layout (tree (get_or parts i Skip)) (set_at sets i) (set_at sets (i + 1))

pub first_one : (s : Store) (vars : List (Name × Kind)) (layout : List (Name × Width × ℕ)) (n : ℕ) (from : SetId) (parts : List Proc) (sets : List SetId) → sets ≡ from ∷ [] → AreStates s n from
    → AreFirst s vars layout n from from parts 0 sets
first_one s vars layout n from parts sets e is = subst (AreFirst s vars layout n from from parts 0) (sym e) (record {
  count = refl;
  first = refl;
  end = refl;
  states = λ i h. let z : i ≡ 0 = omega (arith, h) in subst (λ m. AreStates s n (set_at (from ∷ []) m)) (sym z) is;
  ends = λ i h. absurd (omega (arith, h));
})

pub first_more : (s t : Store) → Keeps s t → (vars : List (Name × Kind)) (layout : List (Name × Width × ℕ)) (n : ℕ) (from last next : SetId) (parts : List Proc) (m : ℕ) (sets new : List SetId) → new ≡ sets ++ next ∷ []
    → AreFirst s vars layout n from last parts m sets → AreStates t n next → EndsIn t vars layout (tree (get_or parts m Skip)) last next → AreFirst t vars layout n from next parts (m + 1) new
first_more s t k vars layout n from last next parts m sets new e is one step = subst (AreFirst t vars layout n from next parts (m + 1)) (sym e) (record {
  count = length-append sets (next ∷ []) ∙ ap (λ c. c + 1) count;
  first = old 0 (omega (arith, count)) ∙ is.first;
  end = latest (m + 1) (omega (arith, count));
  states = λ i h. ⊎_elim
      (λ (l : i < length sets). subst (AreStates t n) (sym (old i l)) (states-keeps s t k n (set_at sets i) (is.states i l)))
      (λ (l : length sets ≤ i). subst (AreStates t n) (sym (latest i (omega (arith, l, h, long)))) one)
      (cases_lt i (length sets));
  ends = λ i h. ⊎_elim
      (λ (l : i < m).
      subst (λ b. EndsIn t vars layout (tree (get_or parts i Skip)) (set_at (sets ++ next ∷ []) i) b) (sym (old (i + 1) (omega (arith, count, l))))
      (subst (λ a. EndsIn t vars layout (tree (get_or parts i Skip)) a (set_at sets (i + 1))) (sym (old i (omega (arith, count, l))))
      (ends-keeps s t k vars layout (tree (get_or parts i Skip)) (set_at sets i) (set_at sets (i + 1))
      (is.states i (omega (arith, count, l))).known (is.states (i + 1) (omega (arith, count, l))).known (is.ends i l))))
      (λ (l : m ≤ i).
      let here : i ≡ m = omega (arith, l, h) in
      subst (λ j. EndsIn t vars layout (tree (get_or parts j Skip)) (set_at (sets ++ next ∷ []) j) (set_at (sets ++ next ∷ []) (j + 1))) (sym here)
      (subst (λ b. EndsIn t vars layout (tree (get_or parts m Skip)) (set_at (sets ++ next ∷ []) m) b) (sym (latest (m + 1) (omega (arith, count))))
      (subst (λ a. EndsIn t vars layout (tree (get_or parts m Skip)) a next) (sym (old m (omega (arith, count)) ∙ is.end)) step)))
      (cases_lt i m);
})
  where
    count : length sets ≡ m + 1
    count = is.count

    long : length (sets ++ next ∷ []) ≡ length sets + 1
    long = length-append sets (next ∷ [])

    old : (i : ℕ) → i < length sets → set_at (sets ++ next ∷ []) i ≡ set_at sets i
    old i h = get_or_append_left sets (next ∷ []) (record { 0 = 0 }) i h

    latest : (i : ℕ) → i ≡ length sets → set_at (sets ++ next ∷ []) i ≡ next
    latest i h = get_or_push sets next (record { 0 = 0 }) i (sym h)

pub first_whole : (s : Store) (vars : List (Name × Kind)) (layout : List (Name × Width × ℕ)) (n : ℕ) (from last : SetId) (parts : List Proc) (m : ℕ) (sets : List SetId) → m ≡ length parts
    → AreFirst s vars layout n from last parts m sets → AreBetween s vars layout n from parts sets
first_whole s vars layout n from last parts m sets e is = record {
  count = is.count ∙ ap (λ c. c + 1) e;
  first = is.first;
  states = is.states;
  ends = λ i h. is.ends i (omega (arith, e, h));
}

-- ---- once they are made
pub between-keeps : (s t : Store) → Keeps s t → (vars : List (Name × Kind)) (layout : List (Name × Width × ℕ)) (n : ℕ) (from : SetId) (parts : List Proc) (sets : List SetId)
    → AreBetween s vars layout n from parts sets → AreBetween t vars layout n from parts sets
between-keeps s t k vars layout n from parts sets is = record {
  count = is.count;
  first = is.first;
  states = λ i h. states-keeps s t k n (set_at sets i) (is.states i h);
  ends = λ i h.
      let count = is.count in
      ends-keeps s t k vars layout (tree (get_or parts i Skip)) (set_at sets i) (set_at sets (i + 1)) (is.states i (omega (arith, count, h))).known (is.states (i + 1) (omega (arith, count, h))).known (is.ends i h);
}

pub other_default : {A : Type 0} (xs : List A) (i : ℕ) (d e : A) → i < length xs → get_or xs i d ≡ get_or xs i e
other_default [] i d e h = absurd (omega (arith, h))
other_default (x ∷ xs) zero d e h = refl
other_default (x ∷ xs) (suc i) d e h = other_default xs i d e (omega (arith, h))

pub part_between : (s : Store) (vars : List (Name × Kind)) (layout : List (Name × Width × ℕ)) (n : ℕ) (from : SetId) (parts : List Proc) (sets : List SetId) (i : ℕ) (p : Proc) → AreBetween s vars layout n from parts sets
    → i < length parts → p ≡ get_or parts i p → EndsIn s vars layout (tree p) (set_at sets i) (set_at sets (i + 1))
part_between s vars layout n from parts sets i p is h e =
    subst (λ q. EndsIn s vars layout (tree q) (set_at sets i) (set_at sets (i + 1))) (sym (e ∙ other_default parts i p Skip h)) (is.ends i h)
