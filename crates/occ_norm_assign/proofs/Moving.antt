-- Parts that do nothing but end at once, one after another.
use Rattle.std.proofs.Common.{◌≡◌, ◌<◌, ◌^◌, ◌++◌, ◌↔◌, ℕ, suc, true, List, [], ◌∷◌, length, get_or, take, set, cond, refl, sym, ap, ◌∙◌, subst}
use Rattle.std.proofs.Math.Seq.{take-suc}
use Rattle.std.proofs.lemmas.Bool.{and_from, and_parts}
use Rattle.std.proofs.lemmas.List.Elements.{All-take}
use Rattle.occ_syntax.specs.occ_base.declared.event.Event.{Event}
use Rattle.occ_syntax.specs.occ_base.declared.names.Name.{Name}
use Rattle.occ_syntax.specs.occ_base.declared.width.Width.{Width}
use Rattle.occ_norm_frame.specs.occ_bits.Layout.{environment_in, state_of}
use Rattle.occ_norm_frame.specs.occ_bits.Words.{digit}
use Rattle.occ_norm_frame.specs.occ_dd.Assignment.{with_bit}
use Rattle.occ_norm_frame.specs.occ_dd.Store.{has}
use Rattle.occ_norm_frame.specs.occ_dd.declared.set.SetId.{SetId}
use Rattle.occ_norm_arrange.proofs.from_meaning.Sequence.{all_of_followed, followed_all_of}
use Rattle.occ_norm_arrange.specs.occ_meaning.Parallel.{all_of}
use Rattle.occ_norm_frame.specs.occ_node.declared.world.World.{World}
use Rattle.occ_norm_assign.specs.Writes.{AreWrites, IsWrite}
use Rattle.occ_norm_assign.specs.Written.{AreAssigned, onto}
use Rattle.occ_norm_assign.specs.declared.writes.Write.{Write}
use Rattle.occ_norm_assign.proofs.Assigning.{assigned_state}
use Rattle.occ_norm_assign.proofs.Substituted.{onto-keeps}
use Rattle.occ_norm_assign.proofs.Written.{onto_append}
use Rattle.occ_norm_frame.specs.Placed.{IsFrame}
use Rattle.occ_norm_frame.specs.Maps.{Extends}
use Rattle.occ_syntax.specs.Meaning.{Followed, Outcome, assigned, ended, in_first, in_second, in_turn, meaning, refusing}
use Rattle.occ_syntax.specs.Scopes.{Environment, Values}
use Rattle.occ_syntax.specs.Tree.{Exp, Tree, Trees, and_tree, assign, no_tree, seq}
use Rattle.occ_syntax.specs.Types.{all_types_kept, pairs_kept, types_kept}
use Rattle.occ_syntax.specs.declared.scope.Kind.{Kind}
use Rattle.occ_norm_frame.specs.occ_bits.Digits.{AreDigits, IsComposed, reached}
use Rattle.occ_norm_frame.proofs.from_bits.Reaching.{digits-keep}
use Rattle.occ_norm_assign.proofs.Putting.{reached-keeps, reached_all, reached_set}
use Rattle.occ_norm_assign.specs.Transfer.{ArePut, IsMade, Moves}

-- ---- as the world grows
pub moved-extends : (v w : World) → Extends v w → (layout : List (Name × Width × ℕ)) (Γ : Environment) (p : Tree) (before after : List SetId) → AreDigits v.store before → AreDigits v.store after → (x : ℕ) (t : List Event) (o : Outcome)
    → ((meaning p).does Γ (state_of layout (reached v.store before x)) t o ↔ ((t ≡ []) × (o ≡ ended (state_of layout (reached v.store after x)))))
    → (meaning p).does Γ (state_of layout (reached w.store before x)) t o ↔ ((t ≡ []) × (o ≡ ended (state_of layout (reached w.store after x))))
moved-extends v w k layout Γ p before after are others x t o iff =
    let b : reached w.store before x ≡ reached v.store before x = reached-keeps v.store w.store k.grows.stored before are x in
    let a : reached w.store after x ≡ reached v.store after x = reached-keeps v.store w.store k.grows.stored after others x in (
      λ d. let e = iff.0 (subst (λ y. (meaning p).does Γ (state_of layout y) t o) b d) in (e.0, e.1 ∙ ap (λ y. ended (state_of layout y)) (sym a)),
      λ e. subst (λ y. (meaning p).does Γ (state_of layout y) t o) (sym b) (iff.1 (e.0, e.1 ∙ ap (λ y. ended (state_of layout y)) a)),
    )

pub moves-extends : (v w : World) → Extends v w → (layout : List (Name × Width × ℕ)) (Γ : Environment) (p : Tree) (before after : List SetId) → AreDigits v.store before → AreDigits v.store after
    → Moves v layout Γ p before after → Moves w layout Γ p before after
moves-extends v w k layout Γ p before after are others is x t o h = moved-extends v w k layout Γ p before after are others x t o (is x t o h)

pub made-extends : (v w : World) → Extends v w → (vars : List (Name × Kind)) (layout : List (Name × Width × ℕ)) (p : Tree) (before after : List SetId) → AreDigits v.store before
    → IsMade v vars layout p before after → IsMade w vars layout p before after
made-extends v w k vars layout p before after are is = record {
  are = digits-keep v.store w.store k.grows.stored after is.are;
  moves = λ Γ around types. moves-extends v w k layout Γ p before after are is.are (is.moves Γ around types);
}

-- ---- no parts
pub none_made : (w : World) (vars : List (Name × Kind)) (layout : List (Name × Width × ℕ)) (before : List SetId) → AreDigits w.store before → IsMade w vars layout (seq no_tree) before before
none_made w vars layout before are = record { are = are; moves = λ Γ around types x t o h. (λ d. d, λ d. d) }

-- ---- one part more
module _ (w : World) (layout : List (Name × Width × ℕ)) (Γ : Environment) (ps : Trees) (p : Tree) (a b c : List SetId) (x : ℕ) (h : x < 2 ^ 64)
    (first : Moves w layout Γ (seq ps) a b) (second : Moves w layout Γ p b c) where
  abbrev at : List SetId → Values
  at digits = state_of layout (reached w.store digits x)

  last : (u : List Event) (o : Outcome) → Followed (meaning p) (in_turn no_tree) Γ (at b) u o → (u ≡ []) × (o ≡ ended (at c))
  last u o (in_first {X = X} d) = (second x u (refusing X) h).0 d
  last u o (in_second t1 t2 s1 e d1 d2) = let f = (second x t1 (ended s1) h).0 d1 in (e ∙ ap (λ r. r ++ t2) f.0 ∙ d2.0, d2.1 ∙ f.1)

  both : (t : List Event) (o : Outcome) → Followed (in_turn ps) (in_turn (and_tree p no_tree)) Γ (at a) t o → (t ≡ []) × (o ≡ ended (at c))
  both t o (in_first {X = X} d) = absurd (let e : refusing X ≡ ended (at b) = ((first x t (refusing X) h).0 d).1 in cc)
  both t o (in_second t1 t2 s1 e d1 d2) =
      let f = (first x t1 (ended s1) h).0 d1 in
      let g : ended s1 ≡ ended (at b) = f.1 in
      let same : s1 ≡ at b = cc in
      let l = last t2 o (subst (λ s. Followed (meaning p) (in_turn no_tree) Γ s t2 o) same d2) in
      (e ∙ ap (λ r. r ++ t2) f.0 ∙ l.0, l.1)

  more : (t : List Event) (o : Outcome) → (in_turn (all_of ps (and_tree p no_tree))).does Γ (at a) t o ↔ ((t ≡ []) × (o ≡ ended (at c)))
  more t o = (
    λ d. both t o ((all_of_followed Γ ps (and_tree p no_tree)).gives (at a) t o d),
    λ e. (followed_all_of Γ ps (and_tree p no_tree)).gives (at a) t o
        (in_second [] t (at b) refl ((first x [] (ended (at b)) h).1 (refl, refl)) (in_second [] t (at c) refl ((second x [] (ended (at c)) h).1 (refl, refl)) e)),
  )

pub types_first : (ps qs : Trees) (Γ : Environment) → all_types_kept (all_of ps qs) Γ ≡ true → (all_types_kept ps Γ ≡ true) × (all_types_kept qs Γ ≡ true)
types_first no_tree qs Γ h = (refl, h)
types_first (and_tree p ps) qs Γ h =
    let k = and_parts (types_kept p Γ) (all_types_kept (all_of ps qs) Γ) h in
    let l = types_first ps qs Γ k.1 in
    (and_from _ _ k.0 l.0, l.1)

pub made_more : (w : World) (vars : List (Name × Kind)) (layout : List (Name × Width × ℕ)) (ps qs : Trees) (p : Tree) (a b c : List SetId) → qs ≡ all_of ps (and_tree p no_tree)
    → IsMade w vars layout (seq ps) a b → IsMade w vars layout p b c → IsMade w vars layout (seq qs) a c
made_more w vars layout ps qs p a b c e first second = subst (λ rs. IsMade w vars layout (seq rs) a c) (sym e) (record {
  are = second.are;
  moves = λ Γ around types x t o h.
      let k = types_first ps (and_tree p no_tree) Γ types in
      more w layout Γ ps p a b c x h (first.moves Γ around k.0) (second.moves Γ around (and_parts (types_kept p Γ) (all_types_kept no_tree Γ) k.1).0) t o;
})

-- ---- an assignment
pub put_more : (v w : World) → Extends v w → (before after : List SetId) (writes : List Write) (i : ℕ) (d : Write) (c : SetId) → AreDigits v.store before → AreDigits v.store after → AreWrites v.store writes
    → i < length writes → (get_or writes i d).bit < 64 → IsComposed w.store before 64 (get_or writes i d).set c → ArePut v.store before (take i writes) after → ArePut w.store before (take (suc i) writes) (set after (get_or writes i d).bit c)
put_more v w k before after writes i d c are others all h few is put x =
    reached_set w.store after (get_or writes i d).bit c x others.count few
    ∙ (λ j. with_bit (was j) (get_or writes i d).bit (value j))
    ∙ sym (onto_append w.store (take i writes) (get_or writes i d ∷ []) y y)
    ∙ ap (λ ws. onto w.store ws y y) (sym (take-suc writes i d h))
  where
    y : ℕ
    y = reached w.store before x

    y_is : reached v.store before x ≡ y
    y_is = sym (reached-keeps v.store w.store k.grows.stored before are x)

    was : reached w.store after x ≡ onto w.store (take i writes) y y
    was = reached-keeps v.store w.store k.grows.stored after others x ∙ put x ∙ ap (λ z. onto v.store (take i writes) z z) y_is
        ∙ sym (onto-keeps v.store w.store k.grows.stored (take i writes) (All-take (IsWrite v.store) i writes all) y y)

    value : digit w.store c x ≡ digit w.store (get_or writes i d).set y
    value = ap (λ b. cond b 1 0) (is.members x ∙ ap (has w.store (get_or writes i d).set) (reached_all w.store before x (digits-keep v.store w.store k.grows.stored before are).count))

pub assigned_made : (w : World) (vars : List (Name × Kind)) (layout : List (Name × Width × ℕ)) (bits : ℕ) → IsFrame vars layout bits → (xs : List ℕ) (es : List Exp) → pairs_kept (environment_in layout) xs es ≡ true
    → (writes : List Write) → AreAssigned w.store layout xs es writes → (before after : List SetId) → AreDigits w.store after
    → ArePut w.store before writes after → IsMade w vars layout (assign xs es) before after
assigned_made w vars layout bits frame xs es kept writes is before after are same = record {
  are = are;
  moves = λ Γ around types x t o h.
      let e : state_of layout (reached w.store after x) ≡ assigned xs es Γ (state_of layout (reached w.store before x)) =
      ap (state_of layout) (same x) ∙ assigned_state w.store vars layout bits frame xs es kept writes is Γ around (reached w.store before x) in
      (λ d. (d.0, d.1 ∙ ap ended (sym e)), λ d. (d.0, d.1 ∙ ap ended e));
}
