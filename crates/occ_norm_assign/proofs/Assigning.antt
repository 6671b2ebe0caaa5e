-- From the writes and the map of what they make of a state to an assignment and what follows it.
use Rattle.std.proofs.Common.{◌≡◌, ℕ, suc, ◌<◌, ◌≤◌, ◌^◌, ◌⊎◌, ◌↔◌, ◌++◌, ◌==◌, inl, inr, Bool, true, false, cond, List, [], ◌∷◌, Some, length, get_or, take, lit<, refl, sym, ap, ◌∙◌, subst, arith}
use Rattle.std.proofs.Math.Seq.{take-suc}
use Rattle.std.proofs.lemmas.List.{take_all}
use Rattle.std.proofs.lemmas.Nat.{pow_below}
use Rattle.std.proofs.lemmas.Option.{same_Some}
use Rattle.std.specs.Int.{bit_at}
use Rattle.std.specs.Int.Bits.{bit_and, bit_xor, xor_zero_r}
use Rattle.std.proofs.lemmas.Nat.{xor_comm}
use Rattle.occ_syntax.specs.occ_base.declared.event.Event.{Event}
use Rattle.occ_syntax.specs.occ_base.declared.names.Name.{Name}
use Rattle.occ_syntax.specs.occ_base.declared.width.Width.{Width}
use Rattle.occ_norm_frame.specs.occ_bits.Layout.{environment_in, state_of}
use Rattle.occ_norm_frame.proofs.from_bits.Parts.{value_same}
use Rattle.occ_norm_frame.specs.occ_dd.Store.{IsSet, Keeps, has}
use Rattle.occ_norm_frame.specs.occ_dd.declared.set.SetId.{SetId}
use Rattle.occ_norm_frame.specs.occ_dd.declared.store.Store.{Store}
use Rattle.occ_norm_frame.specs.occ_mdd.Maps.{value}
use Rattle.occ_norm_frame.specs.occ_mdd.declared.map.MapId.{MapId}
use Rattle.occ_norm_frame.specs.occ_node.World.{fails, ends}
use Rattle.occ_norm_frame.specs.occ_node.declared.node.NodeId.{NodeId}
use Rattle.occ_norm_frame.specs.occ_node.declared.world.World.{World}
use Rattle.occ_norm_frame.specs.occ_follow.Sequence.{HasNodes}
use Rattle.occ_norm_frame.specs.occ_weave.Weave.{off_channels}
use Rattle.occ_norm_frame.specs.Lifted.{IsTurned}
use Rattle.occ_norm_frame.specs.Maps.{Extends}
use Rattle.occ_norm_frame.proofs.Worlds.{extends_trans, has_nodes-extends}
use Rattle.occ_syntax.specs.declared.scope.Kind.{Kind}
use Rattle.occ_syntax.specs.Meaning.{Outcome, assigned, ended, ends as part_ends, meaning, refusing}
use Rattle.occ_syntax.specs.Scopes.{Environment, Values, variable_width, with_value}
use Rattle.occ_syntax.specs.Tree.{Exp, Tree, assign}
use Rattle.occ_syntax.specs.Types.{pairs_kept}
use Rattle.occ_norm_frame.specs.After.{AgreeBelow, IsAfter, IsOver, QuietlyFails, Resumes, change_of}
use Rattle.occ_norm_frame.specs.Changes.{IsChanged}
use Rattle.occ_norm_frame.specs.Placed.{IsAround, IsFrame}
use Rattle.occ_norm_frame.proofs.After.{change_below, changed-extends, over-extends, state_back}
use Rattle.occ_norm_frame.proofs.Changing.{changed_by, changed_none, changed_twice}
use Rattle.occ_norm_frame.proofs.Placing.{frame_layout, width_here}
use Rattle.occ_norm_assign.specs.Writes.{AreWrites, IsWrite}
use Rattle.occ_norm_assign.specs.Written.{AreAssigned, AreDistinct, IsApplied, IsExchanged, IsSubstituted, Leads, change_by, differs, onto, step}
use Rattle.occ_norm_assign.specs.declared.writes.Write.{Write}
use Rattle.occ_norm_assign.proofs.Written.{assigned-keeps, put_assigned, state_all}
use Rattle.occ_norm_assign.proofs.Apart.{assigned_distinct, change_all, change_more}
use Rattle.occ_norm_assign.proofs.Substituted.{onto-keeps, onto_below}
use Rattle.occ_norm_assign.proofs.Keeping.{writes-extend}

-- ---- one write
pub step_none : (s : Store) (keep : ℕ) (write : Write) (x : ℕ) → (bit_at keep write.bit == 1) ≡ false → step s keep write x ≡ 0
step_none s keep write x e = ap (λ b. cond b (cond (differs (has s write.set x) (bit_at x write.bit)) (2 ^ write.bit) 0) 0) e

pub step_some : (s t : Store) (keep : ℕ) (write : Write) (set : SetId) (x : ℕ) → (bit_at keep write.bit == 1) ≡ true → IsSet t set (λ x. differs (has s write.set x) (bit_at x write.bit)) → cond (has t set x) (2 ^ write.bit) 0 ≡ step s keep write x
step_some s t keep write set x e is = ap (λ b. cond b (2 ^ write.bit) 0) (is.members x) ∙ sym (ap (λ b. cond b (cond (differs (has s write.set x) (bit_at x write.bit)) (2 ^ write.bit) 0) 0) e)

pub step_small : (s : Store) (keep : ℕ) (write : Write) (x : ℕ) → write.bit < 64 → step s keep write x < 2 ^ 64
step_small s keep write x h = small (bit_at keep write.bit == 1) (differs (has s write.set x) (bit_at x write.bit))
  where
    small : (a b : Bool) → cond a (cond b (2 ^ write.bit) 0) 0 < 2 ^ 64
    small true true = pow_below write.bit 64 h
    small true false = lit< tt
    small false b = lit< tt

pub step-keeps : (s t : Store) (keep : ℕ) (write : Write) (x : ℕ) → has t write.set x ≡ has s write.set x → step t keep write x ≡ step s keep write x
step-keeps s t keep write x e = ap (λ b. cond (bit_at keep write.bit == 1) (cond (differs b (bit_at x write.bit)) (2 ^ write.bit) 0) 0) e

pub change_by-keeps : (s t : Store) → Keeps s t → (keep : ℕ) (writes : List Write) → AreWrites s writes → (x : ℕ) → change_by s keep writes x ≡ change_by t keep writes x
change_by-keeps s t k keep [] are x = refl
change_by-keeps s t k keep (write ∷ writes) are x =
    (λ i. bit_xor (sym (step-keeps s t keep write x (k.same write.set x (are 0 write (omega arith)).known)) i) (change_by-keeps s t k keep writes (λ j d h. are (suc j) d (omega arith)) x i))

pub changed_start : (w : World) (s : Store) (keep : ℕ) (writes : List Write) (map : MapId) → HasNodes w map → IsChanged w (change_by s keep (take 0 writes)) map map
changed_start w s keep writes map has = changed_none w (change_by s keep (take 0 writes)) map has (λ x h. refl)

-- the worlds: that of the sets, before the step, after it
pub changed_more : (u v w : World) → Extends u v → Extends v w → (keep : ℕ) (writes : List Write) → AreWrites u.store writes → (i : ℕ) (write d : Write) (p q r : MapId) → i < length writes → write ≡ get_or writes i d
    → HasNodes v p → HasNodes v q → IsChanged v (change_by u.store keep (take i writes)) p q → IsChanged w (step v.store keep write) q r
    → IsChanged w (change_by u.store keep (take (suc i) writes)) p r
changed_more u v w j k keep writes are i write d p q r h is has_p has_q first second =
    changed_by w (λ x. bit_xor (change_by u.store keep (take i writes) x) (step v.store keep write x)) (change_by u.store keep (take (suc i) writes)) p r
    (λ x. ap (bit_xor (change_by u.store keep (take i writes) x)) (step-keeps u.store v.store keep write x (j.grows.stored.same write.set x here.known))
    ∙ sym (change_more u.store keep (take i writes) write x)
    ∙ ap (λ ws. change_by u.store keep ws x) (ap (λ (y : Write). take i writes ++ y ∷ []) is ∙ sym (take-suc writes i d h)))
    (changed_twice w (change_by u.store keep (take i writes)) (step v.store keep write) p q r (λ x l. step_small v.store keep write x here.within) (has_nodes-extends v w k q has_q)
    (changed-extends v w k (change_by u.store keep (take i writes)) p q has_p has_q first) second)
  where
    here : IsWrite u.store write
    here = subst (IsWrite u.store) (sym is) (are i d h)

-- ---- the meaning
assigned_around : (Γ Δ : Environment) → ((y : ℕ) → variable_width Γ y ≡ variable_width Δ y) → (xs : List ℕ) (es : List Exp) (s : Values) → assigned xs es Δ s ≡ assigned xs es Γ s
assigned_around Γ Δ same [] es s = refl
assigned_around Γ Δ same (x ∷ xs) [] s = refl
assigned_around Γ Δ same (x ∷ xs) (e ∷ es) s = (λ i. with_value (assigned_around Γ Δ same xs es s i) x (sym (value_same Γ Δ s s e (λ y h. same y) (λ y h. refl)) i))

same_change : (keep bits x y z : ℕ) → keep < 2 ^ bits → AgreeBelow bits y z → change_of keep x y ≡ change_of keep x z
same_change keep bits x y z h agree = ap (λ n. bit_and n keep) (xor_comm x y) ∙ change_below keep bits y z x h agree ∙ ap (λ n. bit_and n keep) (xor_comm z x)

-- a part that does nothing but end at once, in the state of another assignment
pub moved_after : (w : World) (layout : List (Name × Width × ℕ)) (bits keep : ℕ) (closed : List Name) (Γ : Environment) (p : Tree) (rest r : MapId) (to : ℕ → ℕ)
    → keep < 2 ^ bits → IsOver w bits rest → ((x : ℕ) → x < 2 ^ 64 → to x < 2 ^ 64)
    → ((x : ℕ) (t : List Event) (o : Outcome) → x < 2 ^ 64 → (meaning p).does Γ (state_of layout x) t o ↔ ((t ≡ []) × (o ≡ ended (state_of layout (to x)))))
    → ((y z : ℕ) → state_of layout y ≡ state_of layout z → AgreeBelow bits y z)
    → ((x : ℕ) (a : NodeId) → x < 2 ^ 64 → value w.maps r x ≡ Some a → Leads w rest (to x) (change_of keep x (to x)) a)
    → IsAfter w layout keep closed Γ p rest r
moved_after w layout bits keep closed Γ p rest r to small over below does tell each = record {
  after_fails = λ x a h e t X. (fails_to x a h e t X, fails_from x a h e t X);
  after_ends = λ x a h e t z l. (ends_to x a h e t z l, ends_from x a h e t z l);
}
  where
    fails_to : (x : ℕ) (a : NodeId) → x < 2 ^ 64 → value w.maps r x ≡ Some a → (t : List Event) (X : Event → Bool) → fails w a t X ≡ true
        → QuietlyFails layout closed Γ p x t X ⊎ Resumes w layout closed Γ p rest x (λ y m u. fails w m u X) t
    fails_to x a h e t X f =
        let n = each x a h e in
        inr (record { t1 = []; t2 = t; y = to x; m = n.m; whole = refl; below = below x h; silent = refl; ended = (does x [] (ended (state_of layout (to x))) h).1 (refl, refl); leads = n.leads; behaved = sym (n.turned.turned.same_fail t X) ∙ f })

    ends_to : (x : ℕ) (a : NodeId) → x < 2 ^ 64 → value w.maps r x ≡ Some a → (t : List Event) (z : ℕ) → z < 2 ^ 64 → ends w a t z ≡ true
        → Resumes w layout closed Γ p rest x (λ y m u. ends w m u (bit_xor z (change_of keep x y))) t
    ends_to x a h e t z l f =
        let n = each x a h e in
        record { t1 = []; t2 = t; y = to x; m = n.m; whole = refl; below = below x h; silent = refl; ended = (does x [] (ended (state_of layout (to x))) h).1 (refl, refl); leads = n.leads; behaved = sym (n.turned.turned.turned_end t z l) ∙ f }

    agree : (x y : ℕ) → ended (state_of layout y) ≡ ended (state_of layout (to x)) → AgreeBelow bits y (to x)
    agree x y e = tell y (to x) (let s : state_of layout y ≡ state_of layout (to x) = cc in s)

    there : (x y : ℕ) (t : List Event) → x < 2 ^ 64 → part_ends Γ p (state_of layout x) t (state_of layout y) → (t ≡ []) × AgreeBelow bits y (to x)
    there x y t h d = let e = (does x t (ended (state_of layout y)) h).0 d in (e.0, agree x y e.1)

    same_node : (x y : ℕ) (m n : NodeId) → x < 2 ^ 64 → y < 2 ^ 64 → AgreeBelow bits y (to x) → value w.maps rest y ≡ Some m → value w.maps rest (to x) ≡ Some n → m ≡ n
    same_node x y m n h l g e f = same_Some m n (sym e ∙ over.same y (to x) l (below x h) g ∙ f)

    fails_from : (x : ℕ) (a : NodeId) → x < 2 ^ 64 → value w.maps r x ≡ Some a → (t : List Event) (X : Event → Bool)
        → QuietlyFails layout closed Γ p x t X ⊎ Resumes w layout closed Γ p rest x (λ y m u. fails w m u X) t → fails w a t X ≡ true
    fails_from x a h e t X (inl q) = absurd (let c : refusing (off_channels closed X) ≡ ended (state_of layout (to x)) = ((does x t (refusing (off_channels closed X)) h).0 q.1).1 in cc)
    fails_from x a h e t X (inr s) =
        let n = each x a h e in
        let e = there x s.y s.t1 h s.ended in
        let same : s.m ≡ n.m = same_node x s.y s.m n.m h s.below e.1 s.leads n.leads in
        n.turned.turned.same_fail t X ∙ ap (λ u. fails w n.m u X) (s.whole ∙ ap (λ u. u ++ s.t2) e.0) ∙ ap (λ m. fails w m s.t2 X) (sym same) ∙ s.behaved

    ends_from : (x : ℕ) (a : NodeId) → x < 2 ^ 64 → value w.maps r x ≡ Some a → (t : List Event) (z : ℕ) → z < 2 ^ 64
        → Resumes w layout closed Γ p rest x (λ y m u. ends w m u (bit_xor z (change_of keep x y))) t → ends w a t z ≡ true
    ends_from x a h e t z l s =
        let n = each x a h e in
        let e = there x s.y s.t1 h s.ended in
        let g : AgreeBelow bits s.y (to x) = e.1 in
        let same : s.m ≡ n.m = same_node x s.y s.m n.m h s.below g s.leads n.leads in
        n.turned.turned.turned_end t z l ∙ ap (λ u. ends w n.m u (bit_xor z (change_of keep x (to x)))) (s.whole ∙ ap (λ u. u ++ s.t2) e.0)
        ∙ ap (λ c. ends w n.m s.t2 (bit_xor z c)) (sym (same_change keep bits x s.y (to x) small g)) ∙ ap (λ m. ends w m s.t2 (bit_xor z (change_of keep x s.y))) (sym same) ∙ s.behaved

-- the state that writes make, by the assignment
pub assigned_state : (s : Store) (vars : List (Name × Kind)) (layout : List (Name × Width × ℕ)) (bits : ℕ) → IsFrame vars layout bits → (xs : List ℕ) (es : List Exp) → pairs_kept (environment_in layout) xs es ≡ true
    → (writes : List Write) → AreAssigned s layout xs es writes → (Γ : Environment) → IsAround Γ vars → (x : ℕ) → state_of layout (onto s writes x x) ≡ assigned xs es Γ (state_of layout x)
assigned_state s vars layout bits frame xs es kept writes is Γ around x =
    state_all s layout (frame_layout vars layout bits frame) xs es writes is kept x x ∙ put_assigned xs es (environment_in layout) (state_of layout x)
    ∙ assigned_around Γ (environment_in layout) (width_here Γ vars layout bits frame around) xs es (state_of layout x)

-- the worlds: at first, once the writes are known, at the end
pub assign_after : (v u w : World) → Extends v u → Extends u w → (vars : List (Name × Kind)) (layout : List (Name × Width × ℕ)) (bits keep : ℕ) (closed : List Name) → IsFrame vars layout bits → keep < 2 ^ bits
    → (xs : List ℕ) (es : List Exp) (rest r : MapId) → pairs_kept (environment_in layout) xs es ≡ true → IsOver v bits rest
    → (writes : List Write) → AreWrites u.store writes → AreAssigned u.store layout xs es writes → IsApplied w writes keep rest r
    → (Γ : Environment) → IsAround Γ vars → IsAfter w layout keep closed Γ (assign xs es) rest r
assign_after v u w j k vars layout bits keep closed frame small xs es rest r kept over writes are is made Γ around =
    moved_after w layout bits keep closed Γ (assign xs es) rest r (λ x. onto w.store writes x x) small (over-extends v w (extends_trans v u w j k) bits rest over)
    (λ x h. onto_below w.store writes (writes-extend u w k writes are) x x h)
    (λ x t o h. (λ d. (d.0, d.1 ∙ ap ended (sym (state x))), λ d. (d.0, d.1 ∙ ap ended (state x))))
    (state_back vars layout bits frame)
    (λ x a h e. let l = made.each x a h e in record { m = l.m; leads = l.leads; turned = subst (λ c. IsTurned w c l.m a) (change_all w.store keep writes x distinct) l.turned })
  where
    later : AreAssigned w.store layout xs es writes
    later = assigned-keeps u.store w.store k.grows.stored layout xs es writes is

    distinct : AreDistinct writes
    distinct = assigned_distinct w.store layout (frame_layout vars layout bits frame) xs es writes later kept

    state : (x : ℕ) → state_of layout (onto w.store writes x x) ≡ assigned xs es Γ (state_of layout x)
    state = assigned_state w.store vars layout bits frame xs es kept writes later Γ around

-- ---- writes that are made one after another, or at once
-- the worlds: once the map of the states is made, at the end
pub applied_from : (u w : World) → Extends u w → (writes : List Write) → AreWrites u.store writes → (keep : ℕ) (rest start r : MapId) → IsSubstituted u writes (length writes) rest start
    → (n : ℕ) → length writes ≤ n → IsChanged w (change_by u.store keep (take n writes)) start r → IsApplied w writes keep rest r
applied_from u w k writes are keep rest start r made n all changed = record {
  each = λ x a h e. let found = made.has.nodes x h in record {
    m = found.0;
    leads = k.maps.same rest (onto w.store writes x x) made.known
        ∙ ap (value u.maps rest) (onto-keeps u.store w.store k.grows.stored writes are x x)
        ∙ ap (λ ws. value u.maps rest (onto u.store ws x x)) (sym (take_all (length writes) writes (omega arith))) ∙ sym (made.values x) ∙ found.1;
    turned = subst (λ c. IsTurned w c found.0 a) (ap (λ ws. change_by u.store keep ws x) (take_all n writes all) ∙ change_by-keeps u.store w.store k.grows.stored keep writes are x)
        (changed.changed x found.0 a h (k.maps.same start x made.has.known ∙ found.1) e);
  };
}

pub exchanged_all : (w : World) (writes : List Write) → AreWrites w.store writes → (keep : ℕ) (rest r : MapId) → HasNodes w rest → IsExchanged w writes keep (length writes) 0 rest r → IsApplied w writes keep rest r
exchanged_all w writes are keep rest r has made = record {
  each = λ x a h e. let found = has.nodes (onto w.store writes x x) (onto_below w.store writes are x x h) in record {
    m = found.0;
    leads = found.1;
    turned = subst (λ c. IsTurned w c found.0 a) (change x) (made.exchanged x found.0 a h (ap (λ ws. value w.maps rest (onto w.store ws x x)) whole ∙ found.1) e);
  };
}
  where
    whole : take (length writes) writes ≡ writes
    whole = take_all (length writes) writes (omega arith)

    change : (x : ℕ) → bit_xor 0 (change_by w.store keep (take (length writes) writes) x) ≡ change_by w.store keep writes x
    change x = xor_comm 0 (change_by w.store keep (take (length writes) writes) x) ∙ xor_zero_r (change_by w.store keep (take (length writes) writes) x) ∙ ap (λ ws. change_by w.store keep ws x) whole
