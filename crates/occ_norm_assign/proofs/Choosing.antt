-- The choices of an IF as functions on states, and what a function makes of a map.
use Rattle.std.proofs.Common.{◌≡◌, ◌<◌, ◌^◌, ◌↔◌, ◌&&◌, ◌==◌, ℕ, Bool, true, false, not, cond, List, [], MatchBool, refl, sym, ap, ◌∙◌, subst}
use Rattle.std.proofs.lemmas.Bool.{and_parts}
use Rattle.occ_syntax.specs.occ_base.declared.event.Event.{Event}
use Rattle.occ_syntax.specs.occ_base.declared.names.Name.{Name}
use Rattle.occ_syntax.specs.occ_base.declared.width.Width.{Width}
use Rattle.occ_norm_frame.specs.occ_bits.Layout.{environment_in, state_of}
use Rattle.occ_norm_frame.proofs.from_dd.Callers.{known-keeps}
use Rattle.occ_norm_frame.specs.occ_dd.Store.{IsKnown, IsSet, has}
use Rattle.occ_norm_frame.specs.occ_dd.declared.set.SetId.{SetId}
use Rattle.occ_norm_arrange.proofs.from_meaning.Named.{eval_by_names}
use Rattle.occ_norm_frame.specs.occ_mdd.declared.map.MapId.{MapId}
use Rattle.occ_norm_frame.specs.occ_node.declared.world.World.{World}
use Rattle.occ_norm_assign.specs.Writes.{AreWrites}
use Rattle.occ_norm_assign.specs.Written.{AreDistinct, IsApplied, onto}
use Rattle.occ_norm_assign.specs.declared.writes.Write.{Write}
use Rattle.occ_norm_assign.proofs.Apart.{change_all}
use Rattle.occ_norm_assign.proofs.Assigning.{moved_after}
use Rattle.occ_norm_assign.proofs.Keeping.{writes-extend}
use Rattle.occ_norm_assign.proofs.Substituted.{onto-keeps, onto_below}
use Rattle.occ_norm_frame.specs.After.{IsAfter, IsOver}
use Rattle.occ_norm_frame.specs.Placed.{IsAround, IsFrame}
use Rattle.occ_norm_frame.proofs.After.{state_back}
use Rattle.occ_norm_frame.proofs.Placing.{width_here}
use Rattle.occ_norm_frame.proofs.Worlds.{extends_trans}
use Rattle.occ_norm_frame.specs.Lifted.{IsTurned}
use Rattle.occ_norm_frame.specs.Maps.{Extends}
use Rattle.occ_syntax.specs.Eval.{is_true}
use Rattle.occ_syntax.specs.Meaning.{Outcome, ended, meaning}
use Rattle.occ_syntax.specs.Scopes.{Environment, Values}
use Rattle.occ_syntax.specs.Tree.{Cases, Exp, Tree, and_case, no_case, select}
use Rattle.occ_syntax.specs.Types.{cases_kept, is_condition, types_kept}
use Rattle.occ_syntax.specs.declared.scope.Kind.{Kind}
use Rattle.occ_norm_frame.proofs.from_bits.Reaching.{digits-keep}
use Rattle.occ_norm_frame.specs.occ_bits.Digits.{AreDigits, IsComposed, IsEither, IsIdentity, reached}
use Rattle.occ_norm_assign.proofs.Moving.{made-extends, moved-extends}
use Rattle.occ_norm_assign.proofs.Putting.{reached-keeps, reached_all}
use Rattle.occ_norm_assign.specs.Transfer.{IsCondition, IsFunction, IsMade, SameWrites}

-- the truth of a condition doesn't depend on what else is in scope
pub truth_here : (vars : List (Name × Kind)) (layout : List (Name × Width × ℕ)) (n : ℕ) → IsFrame vars layout n → (Γ : Environment) → IsAround Γ vars → (e : Exp) (s : Values)
    → is_true (environment_in layout) e s ≡ is_true Γ e s
truth_here vars layout n frame Γ around e s =
    ap (λ v. v == 1) (eval_by_names (environment_in layout) Γ s s e (λ y h. sym (width_here Γ vars layout n frame around y)) (λ y h. refl))

-- where an assignment isn't in a set, the part does nothing but end at once, where the other list leads
abbrev pub MovesOff : World → List (Name × Width × ℕ) → Environment → Tree → List SetId → List SetId → SetId → Type 0
MovesOff w layout Γ p before after beyond = (x : ℕ) (t : List Event) (o : Outcome) → x < 2 ^ 64 → has w.store beyond x ≡ false
    → (meaning p).does Γ (state_of layout (reached w.store before x)) t o ↔ ((t ≡ []) × (o ≡ ended (state_of layout (reached w.store after x))))

-- the same wherever the choices keep types
abbrev pub AreChosen : World → List (Name × Kind) → List (Name × Width × ℕ) → Cases → List SetId → List SetId → SetId → Type 0
AreChosen w vars layout cs before after beyond = (Γ : Environment) → IsAround Γ vars → cases_kept cs Γ ≡ true → MovesOff w layout Γ (select cs) before after beyond

pub chosen_more : (w : World) (vars : List (Name × Kind)) (layout : List (Name × Width × ℕ)) (bits : ℕ) → IsFrame vars layout bits → (e : Exp) (p : Tree) (cs : Cases) (before there after next : List SetId) (set beyond fewer : SetId)
    → IsCondition w layout e before set → IsMade w vars layout p before there → IsEither w.store set there after next → ((x : ℕ) → has w.store fewer x ≡ (has w.store beyond x && not (has w.store set x)))
    → AreChosen w vars layout cs before after beyond → AreChosen w vars layout (and_case e p cs) before next fewer
chosen_more w vars layout bits frame e p cs before there after next set beyond fewer test made merged off others Γ around types x t o h out = at (has w.store set x) refl
  where
    s : Values
    s = state_of layout (reached w.store before x)

    truth : (b : Bool) → has w.store set x ≡ b → b ≡ is_true Γ e s
    truth b q = sym q ∙ test.members x ∙ truth_here vars layout bits frame Γ around e s

    kept : (is_condition Γ e && types_kept p Γ ≡ true) × (cases_kept cs Γ ≡ true)
    kept = and_parts (is_condition Γ e && types_kept p Γ) (cases_kept cs Γ) types

    led : (b : Bool) → has w.store set x ≡ b → cond b (reached w.store there x) (reached w.store after x) ≡ reached w.store next x
    led b q = ap (λ c. cond c (reached w.store there x) (reached w.store after x)) (sym q) ∙ sym (merged.leads x)

    taken : (b : Bool) → has w.store set x ≡ b → (y : ℕ) → y ≡ reached w.store next x → (MatchBool b ((meaning p).does Γ s t o) ((meaning (select cs)).does Γ s t o) ↔ ((t ≡ []) × (o ≡ ended (state_of layout y))))
        → (meaning (select (and_case e p cs))).does Γ s t o ↔ ((t ≡ []) × (o ≡ ended (state_of layout (reached w.store next x))))
    taken b q y i iff =
        let M : Bool → Type 0 = λ c. MatchBool c ((meaning p).does Γ s t o) ((meaning (select cs)).does Γ s t o) in (
          λ d. let f = iff.0 (subst M (sym (truth b q)) d) in (f.0, f.1 ∙ ap (λ z. ended (state_of layout z)) i),
          λ f. subst M (truth b q) (iff.1 (f.0, f.1 ∙ ap (λ z. ended (state_of layout z)) (sym i))),
        )

    at : (b : Bool) → has w.store set x ≡ b → (meaning (select (and_case e p cs))).does Γ s t o ↔ ((t ≡ []) × (o ≡ ended (state_of layout (reached w.store next x))))
    at true q = taken true q (reached w.store there x) (led true q) (made.moves Γ around (and_parts (is_condition Γ e) (types_kept p Γ) kept.0).1 x t o h)
    at false q = taken false q (reached w.store after x) (led false q) (others Γ around kept.1 x t o h (still (has w.store beyond x) (sym (off x ∙ ap (λ b. has w.store beyond x && not b) q) ∙ out)))
      where
        still : (b : Bool) → b && true ≡ false → b ≡ false
        still true k = absurd (cc)
        still false k = refl

-- ---- the condition of a choice
pub condition_from : (v w : World) → Extends v w → (layout : List (Name × Width × ℕ)) (e : Exp) (digits : List SetId) (set r : SetId) → AreDigits v.store digits → IsSet v.store set (λ x. is_true (environment_in layout) e (state_of layout x))
    → IsComposed w.store digits 64 set r → IsCondition w layout e digits r
condition_from v w k layout e digits set r are holds is = record {
  known = is.there;
  members = λ x. is.members x ∙ ap (has w.store set) (reached_all w.store digits x are.count) ∙ k.grows.stored.same set (reached w.store digits x) holds.known ∙ holds.members (reached w.store digits x);
}

-- ---- as the world grows
pub condition-extends : (v w : World) → Extends v w → (layout : List (Name × Width × ℕ)) (e : Exp) (digits : List SetId) (r : SetId) → AreDigits v.store digits → IsCondition v layout e digits r → IsCondition w layout e digits r
condition-extends v w k layout e digits r are is = record {
  known = known-keeps v.store w.store k.grows.stored r is.known;
  members = λ x. k.grows.stored.same r x is.known ∙ is.members x ∙ ap (λ y. is_true (environment_in layout) e (state_of layout y)) (sym (reached-keeps v.store w.store k.grows.stored digits are x));
}

pub chosen-extends : (v w : World) → Extends v w → (vars : List (Name × Kind)) (layout : List (Name × Width × ℕ)) (cs : Cases) (before after : List SetId) (beyond : SetId) → AreDigits v.store before → AreDigits v.store after → IsKnown v.store beyond
    → AreChosen v vars layout cs before after beyond → AreChosen w vars layout cs before after beyond
chosen-extends v w k vars layout cs before after beyond are others known is Γ around types x t o h out =
    moved-extends v w k layout Γ (select cs) before after are others x t o (is Γ around types x t o h (sym (k.grows.stored.same beyond x known) ∙ out))

-- one choice more; the worlds: at first, after its part, its condition, what is left beyond, and the digits of the choice
pub chosen_step : (v a b u w : World) → Extends v a → Extends a b → Extends b u → Extends u w → (vars : List (Name × Kind)) (layout : List (Name × Width × ℕ)) (bits : ℕ) → IsFrame vars layout bits
    → (e : Exp) (p : Tree) (cs : Cases) (before there after next : List SetId) (set beyond fewer : SetId) → AreDigits v.store before → AreDigits v.store after → IsKnown v.store beyond
    → IsMade a vars layout p before there → IsCondition b layout e before set → IsSet u.store fewer (λ x. has b.store beyond x && not (has b.store set x)) → IsEither w.store set there after next
    → AreChosen v vars layout cs before after beyond → AreChosen w vars layout (and_case e p cs) before next fewer
chosen_step v a b u w va ab bu uw vars layout bits frame e p cs before there after next set beyond fewer are others known made test left merged chosen =
    chosen_more w vars layout bits frame e p cs before there after next set beyond fewer
    (condition-extends b w bw layout e before set (digits-keep v.store b.store vb.grows.stored before are) test)
    (made-extends a w aw vars layout p before there (digits-keep v.store a.store va.grows.stored before are) made)
    merged off (chosen-extends v w vw vars layout cs before after beyond are others known chosen)
  where
    vb : Extends v b
    vb = extends_trans v a b va ab

    bw : Extends b w
    bw = extends_trans b u w bu uw

    aw : Extends a w
    aw = extends_trans a b w ab bw

    vw : Extends v w
    vw = extends_trans v a w va aw

    beyond_there : IsKnown b.store beyond
    beyond_there = known-keeps v.store b.store vb.grows.stored beyond known

    off : (x : ℕ) → has w.store fewer x ≡ (has w.store beyond x && not (has w.store set x))
    off x = uw.grows.stored.same fewer x left.known ∙ left.members x
        ∙ (λ i. sym (bw.grows.stored.same beyond x beyond_there) i && not (sym (bw.grows.stored.same set x test.known) i))

-- no choice, where all is beyond
pub none_chosen : (w : World) (vars : List (Name × Kind)) (layout : List (Name × Width × ℕ)) (before after : List SetId) (beyond : SetId) → IsSet w.store beyond (λ x. true) → AreChosen w vars layout no_case before after beyond
none_chosen w vars layout before after beyond all Γ around types x t o h out = absurd (let e : true ≡ false = sym (all.members x) ∙ out in cc)

-- choices of which one is always taken
pub all_chosen : (w : World) (vars : List (Name × Kind)) (layout : List (Name × Width × ℕ)) (cs : Cases) (before after : List SetId) (beyond none : SetId) → AreDigits w.store after → IsSet w.store none (λ x. false) → beyond.0 ≡ none.0
    → AreChosen w vars layout cs before after beyond → IsMade w vars layout (select cs) before after
all_chosen w vars layout cs before after beyond none are empty e chosen = record {
  are = are;
  moves = λ Γ around types x t o h. chosen Γ around types x t o h (ap (λ n. has w.store (record { 0 = n }) x) e ∙ empty.members x);
}

-- ---- what a function makes of a map
-- digits by those of each state as it is; the worlds: once these are made, and at the end
pub function_made : (v w : World) → Extends v w → (vars : List (Name × Kind)) (layout : List (Name × Width × ℕ)) (p : Tree) (before digits : List SetId) → IsIdentity v.store before → IsMade w vars layout p before digits → IsFunction w vars layout p digits
function_made v w k vars layout p before digits stays made = record {
  are = made.are;
  moves = λ Γ around types x t o h.
      let same : reached w.store before x ≡ x = reached-keeps v.store w.store k.grows.stored before stays.are x ∙ stays.stays x in
      subst (λ y. (meaning p).does Γ (state_of layout y) t o ↔ ((t ≡ []) × (o ≡ ended (state_of layout (reached w.store digits x))))) same (made.moves Γ around types x t o h);
}

-- the worlds: once the digits are known, once their writes are, and at the end
pub function_after : (v u w : World) → Extends v u → Extends u w → (vars : List (Name × Kind)) (layout : List (Name × Width × ℕ)) (bits keep : ℕ) (closed : List Name) → IsFrame vars layout bits → keep < 2 ^ bits → (p : Tree) (digits : List SetId) (writes : List Write)
    → (rest r : MapId) → IsFunction v vars layout p digits → SameWrites u.store digits writes → AreWrites u.store writes → AreDistinct writes → IsOver w bits rest → IsApplied w writes keep rest r
    → (Γ : Environment) → IsAround Γ vars → types_kept p Γ ≡ true → IsAfter w layout keep closed Γ p rest r
function_after v u w vu uw vars layout bits keep closed frame small p digits writes rest r made same are distinct over applied Γ around types =
    moved_after w layout bits keep closed Γ p rest r (λ x. onto w.store writes x x) small over (λ x h. onto_below w.store writes (writes-extend u w uw writes are) x x h) does (state_back vars layout bits frame)
    (λ x a h e. let l = applied.each x a h e in record { m = l.m; leads = l.leads; turned = subst (λ c. IsTurned w c l.m a) (change_all w.store keep writes x distinct) l.turned })
  where
    there : (x : ℕ) → reached v.store digits x ≡ onto w.store writes x x
    there x = sym (reached-keeps v.store u.store vu.grows.stored digits made.are x) ∙ sym (same x) ∙ sym (onto-keeps u.store w.store uw.grows.stored writes are x x)

    does : (x : ℕ) (t : List Event) (o : Outcome) → x < 2 ^ 64 → (meaning p).does Γ (state_of layout x) t o ↔ ((t ≡ []) × (o ≡ ended (state_of layout (onto w.store writes x x))))
    does x t o h = subst (λ y. (meaning p).does Γ (state_of layout x) t o ↔ ((t ≡ []) × (o ≡ ended (state_of layout y)))) (there x) (made.moves Γ around types x t o h)
