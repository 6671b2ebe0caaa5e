-- Lists of states that are made item by item, and the parts that they are made for.
use Rattle.std.proofs.Common.{◌≡◌, ◌<◌, ◌≤◌, ◌^◌, ◌%◌, ◌↔◌, ◌&&◌, ◌++◌, ◌⊎◌, inl, inr, ℕ, zero, suc, Bool, true, false, not, cond, List, [], ◌∷◌, MatchBool, Some, length, length-append, get_or, slice_get, take, refl, sym, ap, ◌∙◌, subst, arith, ⊎_elim, mod-lt, pow_pos}
use Rattle.std.proofs.Math.Seq.{take-suc}
use Rattle.std.proofs.lemmas.Bool.{and_parts, cases_lt}
use Rattle.std.proofs.lemmas.List.{get_or_append_left}
use Rattle.std.proofs.lemmas.Option.{same_Some}
use Rattle.occ_syntax.specs.occ_base.declared.event.Event.{Event}
use Rattle.occ_syntax.specs.occ_base.declared.names.Name.{Name}
use Rattle.occ_syntax.specs.occ_base.declared.width.Width.{Width}
use Rattle.occ_norm_frame.specs.occ_bits.Layout.{environment_in, state_of}
use Rattle.occ_norm_frame.specs.occ_bits.Words.{digit}
use Rattle.occ_norm_frame.proofs.from_bits.Arithmetic.{low_bit}
use Rattle.occ_norm_frame.specs.occ_dd.Assignment.{with_bit}
use Rattle.occ_norm_frame.proofs.from_dd.Callers.{known-keeps}
use Rattle.occ_norm_frame.specs.occ_dd.Store.{IsKnown, IsSet, has}
use Rattle.occ_norm_frame.specs.occ_dd.declared.set.SetId.{SetId}
use Rattle.occ_norm_frame.specs.occ_dd.declared.store.Store.{Store}
use Rattle.occ_norm_arrange.proofs.from_meaning.Sequence.{all_of_followed, followed_all_of}
use Rattle.occ_norm_arrange.specs.occ_meaning.Parallel.{all_of}
use Rattle.occ_norm_frame.specs.occ_node.declared.world.World.{World}
use Rattle.occ_norm_assign.specs.Written.{AreAssigned, onto}
use Rattle.occ_norm_assign.specs.declared.writes.Write.{Write}
use Rattle.occ_norm_assign.proofs.Assigning.{assigned_state}
use Rattle.occ_norm_assign.proofs.Written.{onto_append}
use Rattle.occ_norm_frame.specs.Placed.{IsAround, IsFrame}
use Rattle.occ_norm_frame.proofs.After.{state_below}
use Rattle.occ_norm_frame.specs.Maps.{Extends}
use Rattle.occ_syntax.specs.Eval.{is_true}
use Rattle.occ_syntax.specs.Meaning.{Followed, Outcome, assigned, ended, in_first, in_second, in_turn, meaning, refusing}
use Rattle.occ_syntax.specs.Scopes.{Environment, Values}
use Rattle.occ_syntax.specs.Tree.{Cases, Exp, Tree, Trees, and_case, and_tree, assign, no_case, no_tree, select, seq}
use Rattle.occ_syntax.specs.Types.{all_types_kept, cases_kept, is_condition, pairs_kept, types_kept}
use Rattle.occ_syntax.specs.declared.scope.Kind.{Kind}
use Rattle.occ_norm_assign.proofs.Choosing.{truth_here}
use Rattle.occ_norm_assign.proofs.Moving.{types_first}
use Rattle.occ_norm_assign.specs.Lists.{AreStates, ArePicked, ArePutOn, IsListed, MovesOn, StaySame, at}

-- ---- item by item
-- each item stands in a relation to its place
abbrev pub Each : (ℕ → ℕ → Type 0) → List ℕ → Type 0
Each P xs = (i : ℕ) → i < length xs → P i (at xs i)

pub each_none : (P : ℕ → ℕ → Type 0) (xs : List ℕ) → xs ≡ [] → Each P xs
each_none P xs e i h = absurd (let n = ap length e in omega (arith, h, n))

pub each_more : (P : ℕ → ℕ → Type 0) (xs : List ℕ) (y : ℕ) → Each P xs → P (length xs) y → Each P (xs ++ y ∷ [])
each_more P xs y is p i h = ⊎_elim
    (λ (l : i < length xs). subst (P i) (sym (get_or_append_left xs (y ∷ []) 0 i l)) (is i l))
    (λ (l : length xs ≤ i).
    let n = length-append xs (y ∷ []) in
    let e : i ≡ length xs = omega (arith, h, l, n) in
    subst (λ j. P j (at (xs ++ y ∷ []) j)) (sym e) (subst (P (length xs)) (sym (last xs y)) p))
    (cases_lt i (length xs))
  where
    last : (xs : List ℕ) (y : ℕ) → at (xs ++ y ∷ []) (length xs) ≡ y
    last [] y = refl
    last (x ∷ xs) y = last xs y

-- an item of a longer list is one of the shorter list or the last
pub got_more : {A : Type 0} (xs : List A) (y a : A) (i : ℕ) → slice_get (xs ++ y ∷ []) i ≡ Some a → (slice_get xs i ≡ Some a) ⊎ ((i ≡ length xs) × (a ≡ y))
got_more [] y a zero e = inr (refl, sym (same_Some y a e))
got_more [] y a (suc i) e = absurd (cc)
got_more (x ∷ xs) y a zero e = inl e
got_more (x ∷ xs) y a (suc i) e = ⊎_elim (λ l. inl l) (λ r. inr (ap suc r.0, r.1)) (got_more xs y a i e)

pub got_within : {A : Type 0} (xs : List A) (a : A) (i : ℕ) → slice_get xs i ≡ Some a → i < length xs
got_within [] a i e = absurd (cc)
got_within (x ∷ xs) a zero e = omega arith
got_within (x ∷ xs) a (suc i) e = let h = got_within xs a i e in omega (arith, h)

-- ---- states
pub states_whole : (n : ℕ) (list : List ℕ) → length list ≡ 2 ^ n → Each (λ i x. x ≡ i) list → AreStates n list × StaySame n list
states_whole n list size is = (
  record { count = size; below = λ i h. let e = is i (omega (arith, h, size)) in omega (arith, h, e) },
  λ i h. is i (omega (arith, h, size)),
)

-- ---- writes
pub written_more : (s : Store) (writes : List Write) (i : ℕ) (d : Write) (state made : ℕ) → i < length writes → made ≡ onto s (take i writes) state state
    → onto s (take (suc i) writes) state state ≡ with_bit made (get_or writes i d).bit (digit s (get_or writes i d).set state)
written_more s writes i d state made h e =
    ap (λ ws. onto s ws state state) (take-suc writes i d h) ∙ onto_append s (take i writes) (get_or writes i d ∷ []) state state
    ∙ ap (λ y. with_bit y (get_or writes i d).bit (digit s (get_or writes i d).set state)) (sym e)

pub put_whole : (s : Store) (n : ℕ) (writes : List Write) (before after : List ℕ) → AreStates n before → length after ≡ length before
    → Each (λ i z. z ≡ onto s writes (at before i) (at before i) % 2 ^ n) after → AreStates n after × ArePutOn s n writes before after
put_whole s n writes before after are size is = (
  record {
    count = size ∙ are.count;
    below = λ i h. subst (λ z. z < 2 ^ n) (sym (is i (let c = are.count in omega (arith, h, size, c)))) (mod-lt (onto s writes (at before i) (at before i)) (pow_pos n));
  },
  λ i h. is i (let c = are.count in omega (arith, h, size, c)),
)

pub picked_states : (s : Store) (n : ℕ) (set : SetId) (before there other after : List ℕ) → AreStates n before → AreStates n there → AreStates n other → length after ≡ length before → ArePicked s set before there other after → AreStates n after
picked_states s n set before there other after are first second size is = record {
  count = size ∙ are.count;
  below = λ i h. subst (λ z. z < 2 ^ n) (sym (is i (let c = are.count in omega (arith, h, c)))) (either (has s set (at before i)) (at there i) (at other i) (first.below i h) (second.below i h));
}
  where
    either : (b : Bool) (x y : ℕ) → x < 2 ^ n → y < 2 ^ n → cond b x y < 2 ^ n
    either true x y h k = h
    either false x y h k = k

-- ---- no parts, and one part more
pub none_listed : (vars : List (Name × Kind)) (layout : List (Name × Width × ℕ)) (n : ℕ) (before : List ℕ) → AreStates n before → IsListed vars layout n (seq no_tree) before before
none_listed vars layout n before are = record { are = are; moves = λ Γ around types i t o h. (λ d. d, λ d. d) }

module _ (layout : List (Name × Width × ℕ)) (n : ℕ) (Γ : Environment) (ps : Trees) (p : Tree) (a b c : List ℕ) (i : ℕ) (h : i < 2 ^ n)
    (first : MovesOn layout n Γ (seq ps) a b) (second : MovesOn layout n Γ p b c) where
  abbrev state : List ℕ → Values
  state list = state_of layout (at list i)

  last : (u : List Event) (o : Outcome) → Followed (meaning p) (in_turn no_tree) Γ (state b) u o → (u ≡ []) × (o ≡ ended (state c))
  last u o (in_first {X = X} d) = (second i u (refusing X) h).0 d
  last u o (in_second t1 t2 s1 e d1 d2) = let f = (second i t1 (ended s1) h).0 d1 in (e ∙ ap (λ r. r ++ t2) f.0 ∙ d2.0, d2.1 ∙ f.1)

  both : (t : List Event) (o : Outcome) → Followed (in_turn ps) (in_turn (and_tree p no_tree)) Γ (state a) t o → (t ≡ []) × (o ≡ ended (state c))
  both t o (in_first {X = X} d) = absurd (let e : refusing X ≡ ended (state b) = ((first i t (refusing X) h).0 d).1 in cc)
  both t o (in_second t1 t2 s1 e d1 d2) =
      let f = (first i t1 (ended s1) h).0 d1 in
      let g : ended s1 ≡ ended (state b) = f.1 in
      let same : s1 ≡ state b = cc in
      let l = last t2 o (subst (λ s. Followed (meaning p) (in_turn no_tree) Γ s t2 o) same d2) in
      (e ∙ ap (λ r. r ++ t2) f.0 ∙ l.0, l.1)

  more : (t : List Event) (o : Outcome) → (in_turn (all_of ps (and_tree p no_tree))).does Γ (state a) t o ↔ ((t ≡ []) × (o ≡ ended (state c)))
  more t o = (
    λ d. both t o ((all_of_followed Γ ps (and_tree p no_tree)).gives (state a) t o d),
    λ e. (followed_all_of Γ ps (and_tree p no_tree)).gives (state a) t o
        (in_second [] t (state b) refl ((first i [] (ended (state b)) h).1 (refl, refl)) (in_second [] t (state c) refl ((second i [] (ended (state c)) h).1 (refl, refl)) e)),
  )

pub listed_more : (vars : List (Name × Kind)) (layout : List (Name × Width × ℕ)) (n : ℕ) (ps qs : Trees) (p : Tree) (a b c : List ℕ) → qs ≡ all_of ps (and_tree p no_tree)
    → IsListed vars layout n (seq ps) a b → IsListed vars layout n p b c → IsListed vars layout n (seq qs) a c
listed_more vars layout n ps qs p a b c e first second = subst (λ rs. IsListed vars layout n (seq rs) a c) (sym e) (record {
  are = second.are;
  moves = λ Γ around types i t o h.
      let k = types_first ps (and_tree p no_tree) Γ types in
      more layout n Γ ps p a b c i h (first.moves Γ around k.0) (second.moves Γ around (and_parts (types_kept p Γ) (all_types_kept no_tree Γ) k.1).0) t o;
})

-- ---- an assignment
pub assigned_listed : (s : Store) (vars : List (Name × Kind)) (layout : List (Name × Width × ℕ)) (n : ℕ) → IsFrame vars layout n → (xs : List ℕ) (es : List Exp) → pairs_kept (environment_in layout) xs es ≡ true
    → (writes : List Write) → AreAssigned s layout xs es writes → (before after : List ℕ) → AreStates n after
    → ArePutOn s n writes before after → IsListed vars layout n (assign xs es) before after
assigned_listed s vars layout n frame xs es kept writes is before after are same = record {
  are = are;
  moves = λ Γ around types i t o h.
      let z : ℕ = onto s writes (at before i) (at before i) in
      let e : state_of layout (at after i) ≡ assigned xs es Γ (state_of layout (at before i)) =
      ap (state_of layout) (same i h) ∙ sym (state_below vars layout n frame z (z % 2 ^ n) (λ k l. sym (low_bit z n k l)))
      ∙ assigned_state s vars layout n frame xs es kept writes is Γ around (at before i) in
      (λ d. (d.0, d.1 ∙ ap ended (sym e)), λ d. (d.0, d.1 ∙ ap ended e));
}

-- ---- the choices of an IF
-- where the one list doesn't lead into a set, the part does nothing but end at once, where the other list leads
abbrev pub MovesOffOn : World → List (Name × Width × ℕ) → ℕ → Environment → Tree → List ℕ → List ℕ → SetId → Type 0
MovesOffOn w layout n Γ p before after beyond = (i : ℕ) (t : List Event) (o : Outcome) → i < 2 ^ n → has w.store beyond (at before i) ≡ false
    → (meaning p).does Γ (state_of layout (at before i)) t o ↔ ((t ≡ []) × (o ≡ ended (state_of layout (at after i))))

-- the same wherever the choices keep types
abbrev pub AreChosenOn : World → List (Name × Kind) → List (Name × Width × ℕ) → ℕ → Cases → List ℕ → List ℕ → SetId → Type 0
AreChosenOn w vars layout n cs before after beyond = (Γ : Environment) → IsAround Γ vars → cases_kept cs Γ ≡ true → MovesOffOn w layout n Γ (select cs) before after beyond

chosen_on_more : (w : World) (vars : List (Name × Kind)) (layout : List (Name × Width × ℕ)) (n : ℕ) → IsFrame vars layout n → (e : Exp) (p : Tree) (cs : Cases) (before there after next : List ℕ) (set beyond fewer : SetId)
    → length before ≡ 2 ^ n → ((x : ℕ) → has w.store set x ≡ is_true (environment_in layout) e (state_of layout x)) → IsListed vars layout n p before there → ArePicked w.store set before there after next
    → ((x : ℕ) → has w.store fewer x ≡ (has w.store beyond x && not (has w.store set x)))
    → AreChosenOn w vars layout n cs before after beyond → AreChosenOn w vars layout n (and_case e p cs) before next fewer
chosen_on_more w vars layout n frame e p cs before there after next set beyond fewer size test made merged off others Γ around types i t o h out = lead (has w.store set x) refl
  where
    x : ℕ
    x = at before i

    s : Values
    s = state_of layout x

    truth : (b : Bool) → has w.store set x ≡ b → b ≡ is_true Γ e s
    truth b q = sym q ∙ test x ∙ truth_here vars layout n frame Γ around e s

    kept : (is_condition Γ e && types_kept p Γ ≡ true) × (cases_kept cs Γ ≡ true)
    kept = and_parts (is_condition Γ e && types_kept p Γ) (cases_kept cs Γ) types

    led : (b : Bool) → has w.store set x ≡ b → cond b (at there i) (at after i) ≡ at next i
    led b q = ap (λ c. cond c (at there i) (at after i)) (sym q) ∙ sym (merged i (omega (arith, h, size)))

    taken : (b : Bool) → has w.store set x ≡ b → (y : ℕ) → y ≡ at next i → (MatchBool b ((meaning p).does Γ s t o) ((meaning (select cs)).does Γ s t o) ↔ ((t ≡ []) × (o ≡ ended (state_of layout y))))
        → (meaning (select (and_case e p cs))).does Γ s t o ↔ ((t ≡ []) × (o ≡ ended (state_of layout (at next i))))
    taken b q y j iff =
        let M : Bool → Type 0 = λ c. MatchBool c ((meaning p).does Γ s t o) ((meaning (select cs)).does Γ s t o) in (
          λ d. let f = iff.0 (subst M (sym (truth b q)) d) in (f.0, f.1 ∙ ap (λ z. ended (state_of layout z)) j),
          λ f. subst M (truth b q) (iff.1 (f.0, f.1 ∙ ap (λ z. ended (state_of layout z)) (sym j))),
        )

    lead : (b : Bool) → has w.store set x ≡ b → (meaning (select (and_case e p cs))).does Γ s t o ↔ ((t ≡ []) × (o ≡ ended (state_of layout (at next i))))
    lead true q = taken true q (at there i) (led true q) (made.moves Γ around (and_parts (is_condition Γ e) (types_kept p Γ) kept.0).1 i t o h)
    lead false q = taken false q (at after i) (led false q) (others Γ around kept.1 i t o h (still (has w.store beyond x) (sym (off x ∙ ap (λ b. has w.store beyond x && not b) q) ∙ out)))
      where
        still : (b : Bool) → b && true ≡ false → b ≡ false
        still true k = absurd (cc)
        still false k = refl

-- one choice more; the worlds: at first, after its part, its condition, and what is left beyond
pub chosen_on_step : (v a b w : World) → Extends v a → Extends a b → Extends b w → (vars : List (Name × Kind)) (layout : List (Name × Width × ℕ)) (n : ℕ) → IsFrame vars layout n
    → (e : Exp) (p : Tree) (cs : Cases) (before there after next : List ℕ) (set beyond fewer : SetId) → length before ≡ 2 ^ n → IsKnown v.store beyond
    → IsListed vars layout n p before there → IsSet b.store set (λ x. is_true (environment_in layout) e (state_of layout x)) → IsSet w.store fewer (λ x. has b.store beyond x && not (has b.store set x))
    → ArePicked w.store set before there after next
    → AreChosenOn v vars layout n cs before after beyond → AreChosenOn w vars layout n (and_case e p cs) before next fewer
chosen_on_step v a b w va ab bw vars layout n frame e p cs before there after next set beyond fewer size known made test left merged chosen =
    chosen_on_more w vars layout n frame e p cs before there after next set beyond fewer size
    (λ x. bw.grows.stored.same set x test.known ∙ test.members x) made merged
    (λ x. left.members x ∙ (λ i. sym (beyond_now x) i && not (sym (bw.grows.stored.same set x test.known) i)))
    (λ Γ around types i t o h out. chosen Γ around types i t o h (sym (beyond_then (at before i)) ∙ out))
  where
    there_b : IsKnown b.store beyond
    there_b = known-keeps a.store b.store ab.grows.stored beyond (known-keeps v.store a.store va.grows.stored beyond known)

    beyond_now : (x : ℕ) → has w.store beyond x ≡ has b.store beyond x
    beyond_now x = bw.grows.stored.same beyond x there_b

    beyond_then : (x : ℕ) → has w.store beyond x ≡ has v.store beyond x
    beyond_then x = beyond_now x ∙ ab.grows.stored.same beyond x (known-keeps v.store a.store va.grows.stored beyond known) ∙ va.grows.stored.same beyond x known

-- no choice, where all is beyond
pub none_chosen_on : (w : World) (vars : List (Name × Kind)) (layout : List (Name × Width × ℕ)) (n : ℕ) (before after : List ℕ) (beyond : SetId) → IsSet w.store beyond (λ x. true) → AreChosenOn w vars layout n no_case before after beyond
none_chosen_on w vars layout n before after beyond all Γ around types i t o h out = absurd (let e : true ≡ false = sym (all.members (at before i)) ∙ out in cc)

-- choices of which one is always taken
pub all_chosen_on : (w : World) (vars : List (Name × Kind)) (layout : List (Name × Width × ℕ)) (n : ℕ) (cs : Cases) (before after : List ℕ) (beyond none : SetId) → AreStates n after → IsSet w.store none (λ x. false) → beyond.0 ≡ none.0
    → AreChosenOn w vars layout n cs before after beyond → IsListed vars layout n (select cs) before after
all_chosen_on w vars layout n cs before after beyond none are empty e chosen = record {
  are = are;
  moves = λ Γ around types i t o h. chosen Γ around types i t o h (ap (λ m. has w.store (record { 0 = m }) (at before i)) e ∙ empty.members (at before i));
}
