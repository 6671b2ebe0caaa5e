-- var-alt in the form with another variable, by its sides: the branch found in both lists, and what the types give.
use Rattle.std.proofs.Common.{◌≡◌, ℕ, ◌==◌, ◌↔◌, Bool, true, false, ◌||◌, ◌&&◌, Some, List, [], ◌∷◌, refl, ap, sym, ◌∙◌, subst, inl, inr}
use Rattle.std.proofs.lemmas.Bool.{and_parts}
use Rattle.std.proofs.lemmas.Bool.Decides.{eqb_tells}
use Rattle.occ_syntax.specs.occ_base.declared.event.Dir.TheVariants.{Input}
use Rattle.occ_syntax.specs.occ_base.declared.width.Width.{Width}
use Rattle.occ_law_shape.specs.occ_law.Lists.{all_branches, tally}
use Rattle.occ_law_shape.specs.occ_law.Scope.{VarAltInput, var_alt_input}
use Rattle.occ_names.proofs.from_meaning.Facts.{agreed, name_at, name_off, off_turned, true_not_false}
use Rattle.occ_syntax.specs.declared.scope.Kind.TheVariants.{Var}
use Rattle.occ_syntax.specs.Names.{free, free_in_branches, free_in_waiting, names}
use Rattle.occ_syntax.specs.Scopes.{Environment, allows, channel_width, variable_kind, variable_width, with_name}
use Rattle.occ_syntax.specs.Tree.{Exp, variable, Waiting, input, Tree, alt, declare, Branches, no_branch, and_branch}
use Rattle.occ_syntax.specs.Types.{agree, branches_kept, can_declare, input_kept, is_condition, types_kept, waiting_kept}
use Rattle.occ_law_scope.specs.Input.{AltInput, alt_input, InputHere, input_here, OtherInput, other_here, other_behind}
use Rattle.occ_law_scope.specs.Turns.{begun}

-- two lists with such an input in one place, parted there
record Found (z : ℕ) (L R : Branches) : Type 0 where
  gs : Branches
  hs : Branches
  b : Exp
  c : ℕ
  x : ℕ
  p : Tree
  differ : x == z ≡ false
  left : L ≡ all_branches gs (and_branch b (input c x) p hs)
  right : R ≡ all_branches gs (and_branch b (input c z) (begun x (variable z) p) hs)

found_here : (z : ℕ) (b : Exp) (v w : Waiting) (p q : Tree) (hs : Branches) → InputHere z v p w q → Found z (and_branch b v p hs) (and_branch b w q hs)
found_here z b v w p q hs (input_here c x r differ) = record { gs = no_branch; hs = hs; b = b; c = c; x = x; p = r; differ = differ; left = refl; right = refl }

found : (z : ℕ) (L R : Branches) → OtherInput z L R → Found z L R
found z L R (other_here b v w p q hs i) = found_here z b v w p q hs i
found z L R (other_behind b v p gs hs o) =
    let f = found z gs hs o in
    record { gs = and_branch b v p f.gs; hs = f.hs; b = f.b; c = f.c; x = f.x; p = f.p; differ = f.differ; left = ap (and_branch b v p) f.left; right = ap (and_branch b v p) f.right }

-- and put back
placed : (z : ℕ) (gs hs : Branches) (b : Exp) (c x : ℕ) (p : Tree) → x == z ≡ false
    → OtherInput z (all_branches gs (and_branch b (input c x) p hs)) (all_branches gs (and_branch b (input c z) (begun x (variable z) p) hs))
placed z no_branch hs b c x p differ = other_here b (input c x) (input c z) p (begun x (variable z) p) hs (input_here c x p differ)
placed z (and_branch d v q gs) hs b c x p differ =
    other_behind d v q (all_branches gs (and_branch b (input c x) p hs)) (all_branches gs (and_branch b (input c z) (begun x (variable z) p) hs)) (placed z gs hs b c x p differ)

-- ---- where a name isn't free

or_second : (a b c : Bool) → ((a || b) || c) ≡ (a || (b || c))
or_second true b c = refl
or_second false b c = refl

or_left : (a b : Bool) → (a || b) ≡ false → a ≡ false
or_left false b h = refl
or_left true b h = h

or_right : (a b : Bool) → (a || b) ≡ false → b ≡ false
or_right false b h = h
or_right true b h = absurd (cc)

or_none : (a b : Bool) → a ≡ false → b ≡ false → (a || b) ≡ false
or_none a b h k = ap (λ d. d || b) h ∙ k

free_joined : (gs hs : Branches) (z : ℕ) → free_in_branches (all_branches gs hs) z ≡ (free_in_branches gs z || free_in_branches hs z)
free_joined no_branch hs z = refl
free_joined (and_branch b v p gs) hs z = ap (λ d. ((names b z || free_in_waiting v z) || free p z) || d) (free_joined gs hs z) ∙ sym (or_second ((names b z || free_in_waiting v z) || free p z) _ _)

-- ---- what the types say

branches_behind : (Δ : Environment) (gs hs : Branches) → branches_kept (all_branches gs hs) Δ ≡ true → branches_kept hs Δ ≡ true
branches_behind Δ no_branch hs t = t
branches_behind Δ (and_branch b v p gs) hs t = branches_behind Δ gs hs (and_parts ((is_condition Δ b && waiting_kept Δ v) && types_kept p Δ) (branches_kept (all_branches gs hs) Δ) t).1

input_typed : (Δ : Environment) (gs hs : Branches) (b : Exp) (c x : ℕ) (p : Tree) → branches_kept (all_branches gs (and_branch b (input c x) p hs)) Δ ≡ true
    → (allows (Δ c) Input ≡ true) × (agree (channel_width Δ c) (variable_width Δ x) ≡ true)
input_typed Δ gs hs b c x p t =
    let k = branches_behind Δ gs (and_branch b (input c x) p hs) t in
    let i = and_parts ((is_condition Δ b && input_kept Δ c x) && types_kept p Δ) (branches_kept hs Δ) k in
    let j = and_parts (is_condition Δ b && input_kept Δ c x) (types_kept p Δ) i.0 in
    and_parts (allows (Δ c) Input) (agree (channel_width Δ c) (variable_width Δ x)) (and_parts (is_condition Δ b) (input_kept Δ c x) j.0).1

-- the channel of a guard isn't the declared variable
other_channel : (Γ : Environment) (z c : ℕ) (w : Width) → allows (with_name Γ z (Var w) c) Input ≡ true → (z == c) ≡ false
other_channel Γ z c w h = elim (eqb_tells z c) [
  | inl i ↦ true_not_false (sym h ∙ ap (λ k. allows k Input) (ap (with_name Γ z (Var w)) (sym i.1) ∙ name_at Γ z (Var w)))
  | inr i ↦ i.0
]

-- the two variables of the inputs have one width
one_width : (Γ : Environment) (z c x : ℕ) (w : Width) → x == z ≡ false → agree (channel_width (with_name Γ z (Var w)) c) (variable_width (with_name Γ z (Var w)) x) ≡ true
    → agree (channel_width (with_name Γ z (Var w)) c) (variable_width (with_name Γ z (Var w)) z) ≡ true → variable_width Γ x ≡ Some w
one_width Γ z c x w differ first second =
    let Δ = with_name Γ z (Var w) in
    let f = agreed (channel_width Δ c) (variable_width Δ x) first in
    let g = agreed (channel_width Δ c) (variable_width Δ z) second in
    let there : variable_width Δ z ≡ Some w = ap variable_kind (name_at Γ z (Var w)) in
    let same : Some f.0 ≡ Some w = sym f.1 ∙ g.1 ∙ sym g.2 ∙ there in
    sym (ap variable_kind (name_off Γ z (Var w) x differ)) ∙ f.2 ∙ same

-- ---- the law

record Kept (Γ : Environment) (z : ℕ) (w : Width) (L R : Branches) : Type 0 where
  left : branches_kept L (with_name Γ z (Var w)) ≡ true
  right : branches_kept R (with_name Γ z (Var w)) ≡ true

under_kept : (Γ : Environment) (l : Tree) (z : ℕ) (w : Width) (L : Branches) → declare z w (alt L) ≡ l → types_kept l Γ ≡ true → branches_kept L (with_name Γ z (Var w)) ≡ true
under_kept Γ l z w L e t = (and_parts (can_declare Γ z w) (branches_kept L (with_name Γ z (Var w))) (ap (λ q. types_kept q Γ) e ∙ t)).1

input_to_at : (Γ : Environment) (z : ℕ) (w : Width) (gs hs : Branches) (b : Exp) (c x : ℕ) (p : Tree) → x == z ≡ false
    → Kept Γ z w (all_branches gs (and_branch b (input c x) p hs)) (all_branches gs (and_branch b (input c z) (begun x (variable z) p) hs))
    → free_in_branches (all_branches gs (and_branch b (input c x) p hs)) z ≡ false
    → VarAltInput Γ (tally gs ∷ []) (declare z w (alt (all_branches gs (and_branch b (input c x) p hs)))) (declare z w (alt (all_branches gs (and_branch b (input c z) (begun x (variable z) p) hs))))
input_to_at Γ z w gs hs b c x p differ kept fresh =
    let Δ = with_name Γ z (Var w) in
    let i = input_typed Δ gs hs b c x p kept.left in
    let j = input_typed Δ gs hs b c z (begun x (variable z) p) kept.right in
    let f : (free_in_branches gs z || (((names b z || free_in_waiting (input c x) z) || free p z) || free_in_branches hs z)) ≡ false = sym (free_joined gs (and_branch b (input c x) p hs) z) ∙ fresh in
    let g = or_right (free_in_branches gs z) (((names b z || free_in_waiting (input c x) z) || free p z) || free_in_branches hs z) f in
    let h = or_left ((names b z || free_in_waiting (input c x) z) || free p z) (free_in_branches hs z) g in
    let k = or_left (names b z || free_in_waiting (input c x) z) (free p z) h in
    var_alt_input z w gs hs b c x p differ (one_width Γ z c x w differ i.1 j.1)
    (or_left (free_in_branches gs z) (((names b z || free_in_waiting (input c x) z) || free p z) || free_in_branches hs z) f)
    (or_left (names b z) (free_in_waiting (input c x) z) k) (or_right (names b z || free_in_waiting (input c x) z) (free p z) h)
    (or_right ((names b z || free_in_waiting (input c x) z) || free p z) (free_in_branches hs z) g)

input_to : (Γ : Environment) (z : ℕ) (w : Width) (L R : Branches) → Kept Γ z w L R → free_in_branches L z ≡ false → Found z L R → (place : List ℕ) × VarAltInput Γ place (declare z w (alt L)) (declare z w (alt R))
input_to Γ z w L R kept fresh f =
    let S = all_branches f.gs (and_branch f.b (input f.c f.x) f.p f.hs) in
    let T = all_branches f.gs (and_branch f.b (input f.c z) (begun f.x (variable z) f.p) f.hs) in
    let both : Kept Γ z w S T = record { left = ap (λ k. branches_kept k (with_name Γ z (Var w))) (sym f.left) ∙ kept.left; right = ap (λ k. branches_kept k (with_name Γ z (Var w))) (sym f.right) ∙ kept.right } in
    let law = input_to_at Γ z w f.gs f.hs f.b f.c f.x f.p f.differ both (ap (λ k. free_in_branches k z) (sym f.left) ∙ fresh) in (
      tally f.gs ∷ [],
      subst (λ k. VarAltInput Γ (tally f.gs ∷ []) (declare z w (alt k)) (declare z w (alt R))) (sym f.left)
          (subst (λ k. VarAltInput Γ (tally f.gs ∷ []) (declare z w (alt S)) (declare z w (alt k))) (sym f.right) law),
    )

alt_to : (Γ : Environment) (z : ℕ) (w : Width) (p q : Tree) → types_kept (declare z w p) Γ ≡ true → types_kept (declare z w q) Γ ≡ true → AltInput z p q
    → (place : List ℕ) × VarAltInput Γ place (declare z w p) (declare z w q)
alt_to Γ z w p q s t (alt_input gs hs fresh o) =
    input_to Γ z w gs hs (record { left = under_kept Γ (declare z w (alt gs)) z w gs refl s; right = under_kept Γ (declare z w (alt hs)) z w hs refl t }) fresh (found z gs hs o)

back_at : (Γ : Environment) (z : ℕ) (w : Width) (gs hs : Branches) (b : Exp) (c x : ℕ) (p : Tree) → x == z ≡ false → types_kept (declare z w (alt (all_branches gs (and_branch b (input c x) p hs)))) Γ ≡ true
    → free_in_branches gs z ≡ false → names b z ≡ false → free p z ≡ false → free_in_branches hs z ≡ false
    → AltInput z (alt (all_branches gs (and_branch b (input c x) p hs))) (alt (all_branches gs (and_branch b (input c z) (begun x (variable z) p) hs)))
back_at Γ z w gs hs b c x p differ t off_gs off_b off_p off_hs =
    let L = all_branches gs (and_branch b (input c x) p hs) in
    let i = input_typed (with_name Γ z (Var w)) gs hs b c x p (under_kept Γ (declare z w (alt L)) z w L refl t) in
    let off_guard = or_none (names b z) (free_in_waiting (input c x) z) off_b (or_none (z == c) (z == x) (other_channel Γ z c w i.0) (off_turned x z differ)) in
    let off_first = or_none (names b z || free_in_waiting (input c x) z) (free p z) off_guard off_p in
    let fresh = free_joined gs (and_branch b (input c x) p hs) z
    ∙ or_none (free_in_branches gs z) (((names b z || free_in_waiting (input c x) z) || free p z) || free_in_branches hs z) off_gs
    (or_none ((names b z || free_in_waiting (input c x) z) || free p z) (free_in_branches hs z) off_first off_hs) in
    alt_input L (all_branches gs (and_branch b (input c z) (begun x (variable z) p) hs)) fresh (placed z gs hs b c x p differ)

alt_back : (Γ : Environment) (z : ℕ) (w : Width) (p q l r : Tree) → declare z w p ≡ l → r ≡ declare z w q → types_kept l Γ ≡ true → (place : List ℕ) → VarAltInput Γ place l r → AltInput z p q
alt_back Γ z w p q l r e f t place (var_alt_input y v gs hs b c x s differ width off_gs off_b off_p off_hs) =
    let g : y ≡ z = cc in
    let h : p ≡ alt (all_branches gs (and_branch b (input c x) s hs)) = cc in
    let k : alt (all_branches gs (and_branch b (input c y) (begun x (variable y) s) hs)) ≡ q = cc in
    subst (λ n. AltInput n p q) g (subst (λ m. AltInput y m q) (sym h) (subst (λ m. AltInput y (alt (all_branches gs (and_branch b (input c x) s hs))) m) k
    (back_at Γ y v gs hs b c x s differ t off_gs off_b off_p off_hs)))

-- the law holds where what is under the two declarations is so
pub var_alt_input_law : (Γ : Environment) (l r p q : Tree) (z : ℕ) (w : Width) → declare z w p ≡ l → r ≡ declare z w q → types_kept l Γ ≡ true → types_kept r Γ ≡ true
    → AltInput z p q ↔ ((place : List ℕ) × VarAltInput Γ place l r)
var_alt_input_law Γ l r p q z w e f s t = (
  (λ h. let k = alt_to Γ z w p q (ap (λ m. types_kept m Γ) e ∙ s) (ap (λ m. types_kept m Γ) (sym f) ∙ t) h in
      (k.0, subst (λ m. VarAltInput Γ k.0 m r) e (subst (λ m. VarAltInput Γ k.0 (declare z w p) m) (sym f) k.1))),
  (λ k. alt_back Γ z w p q l r e f s k.0 k.1),
)

-- the free names of an ALT are those of its branches
pub alt_input_is : (z : ℕ) (p q : Tree) (gs hs : Branches) → alt gs ≡ p → alt hs ≡ q → (OtherInput z gs hs × (free p z ≡ false)) ↔ AltInput z p q
alt_input_is z p q gs hs e f = (
  (λ h. subst (λ m. AltInput z m q) e (subst (λ m. AltInput z (alt gs) m) f (alt_input gs hs (ap (λ m. free m z) e ∙ h.1) h.0))),
  (λ k. back z p q gs hs e f k),
)
  where
    back : (z : ℕ) (p q : Tree) (gs hs : Branches) → alt gs ≡ p → alt hs ≡ q → AltInput z p q → OtherInput z gs hs × (free p z ≡ false)
    back z p q gs hs e f (alt_input L R fresh o) =
        let g : L ≡ gs = cc in
        let h : R ≡ hs = cc in
        (subst (λ m. OtherInput z m hs) g (subst (λ m. OtherInput z L m) h o), fresh)
