-- Declarations one by one, from outside in.
use Rattle.std.proofs.Common.{◌≡◌, ◌<◌, ◌≤◌, ◌^◌, ◌/◌, ◌%◌, ◌+◌, ◌++◌, ◌==◌, ℕ, Bool, true, false, cond, List, [], ◌∷◌, Option, Some, None, is_none, refl, sym, ap, ◌∙◌, subst, arith}
use Rattle.std.proofs.lemmas.Bool.{and_parts, eqb-true}
use Rattle.occ_syntax.specs.occ_base.declared.names.Name.{Name}
use Rattle.occ_syntax.specs.occ_base.declared.width.Width.{Width}
use Rattle.occ_syntax.specs.occ_base.Width.{bits_of}
use Rattle.occ_compare.specs.occ_bits.Layout.{state_of}
use Rattle.occ_syntax.specs.declared.scope.Kind.{Kind}
use Rattle.occ_syntax.specs.declared.scope.Kind.TheVariants.{Var, Chan}
use Rattle.occ_syntax.specs.Counts.{bits_of_kind, bits_of_scope}
use Rattle.occ_syntax.specs.Declarations.{declaring}
use Rattle.occ_syntax.specs.Scopes.{Environment, environment, variable_kind, variable_width, with_name, with_value}
use Rattle.occ_syntax.specs.Tree.{Tree}
use Rattle.occ_syntax.specs.Types.{can_declare, is_width, types_kept}
use Rattle.occ_norm_alt.proofs.from_usage.Scoped.{environment-push}
use Rattle.occ_compare.specs.occ_mdd.declared.map.MapId.{MapId}
use Rattle.occ_compare.specs.occ_node.declared.world.World.{World}
use Rattle.occ_norm_alt.specs.occ_norm_frame.After.{AgreeBelow, IsOver}
use Rattle.occ_norm_alt.specs.occ_norm_frame.Placed.{IsAround, IsFrame, closed_by, entered}
use Rattle.occ_norm_alt.proofs.from_norm_frame.After.{state_back, state_below}
use Rattle.occ_norm_alt.proofs.from_norm_frame.FrameBits.{pow_more}
use Rattle.occ_norm.proofs.Laying.{IsFresh, fresh_laid, fresh_state, laid-push, state-push}
use Rattle.occ_norm.proofs.Opening.{IsAfterOpen, channel_from, variable_from}
use Rattle.occ_norm.proofs.Steps.{reaches_in}

pub over_more : (w : World) (m n : ℕ) (map : MapId) → m ≤ n → IsOver w m map → IsOver w n map
over_more w m n map h is = record { has = is.has; same = λ x y hx hy agree. is.same x y hx hy (λ k l. agree k (omega (arith, l, h))) }

none_is : {A : Type 0} (o : Option A) → is_none o ≡ true → o ≡ None
none_is None e = refl
none_is (Some a) e = absurd (let h : false ≡ true = e in cc)

-- ---- the environment inside
around_variable : (Γ : Environment) (vars : List (Name × Kind)) (x : Name) (wd : Width) → IsAround Γ vars → Γ x.0 ≡ None → IsAround (with_name Γ x.0 (Var wd)) (vars ++ (x, Var wd) ∷ [])
around_variable Γ vars x wd a fresh = record {
  same = λ y. inner (y == x.0) (Γ y) (environment vars y) (a.same y) ∙ ap (λ (Δ : Environment). variable_width Δ y) (sym pushed);
  none = λ y h. ap (λ (Δ : Environment). Δ y) pushed ∙ absent (y == x.0) (Γ y) (environment vars y) (a.none y) h;
}
  where
    pushed : environment (vars ++ (x, Var wd) ∷ []) ≡ with_name (environment vars) x.0 (Var wd)
    pushed = environment-push vars x (Var wd) (a.none x.0 fresh)

    inner : (b : Bool) (o i : Option Kind) → variable_kind o ≡ variable_kind i → variable_kind (cond b (Some (Var wd)) o) ≡ variable_kind (cond b (Some (Var wd)) i)
    inner true o i h = refl
    inner false o i h = h

    absent : (b : Bool) (o i : Option Kind) → (o ≡ None → i ≡ None) → cond b (Some (Var wd)) o ≡ None → cond b (Some (Var wd)) i ≡ None
    absent true o i f h = h
    absent false o i f h = f h

around_channel : (Γ : Environment) (vars : List (Name × Kind)) (c : Name) (wd : Width) → IsAround Γ vars → Γ c.0 ≡ None → IsAround (with_name Γ c.0 (Chan wd None)) vars
around_channel Γ vars c wd a fresh = record {
  same = λ y. inner y (y == c.0) refl;
  none = λ y h. absent (y == c.0) (Γ y) (environment vars y) (a.none y) h;
}
  where
    inner : (y : ℕ) (b : Bool) → (y == c.0) ≡ b → variable_kind (cond b (Some (Chan wd None)) (Γ y)) ≡ variable_width (environment vars) y
    inner y true h = sym (ap variable_kind (ap (environment vars) (eqb-true y c.0 h) ∙ a.none c.0 fresh))
    inner y false h = a.same y

    absent : (b : Bool) (o i : Option Kind) → (o ≡ None → i ≡ None) → cond b (Some (Chan wd None)) o ≡ None → i ≡ None
    absent true o i f h = absurd (let g : Some (Chan wd None) ≡ None = h in cc)
    absent false o i f h = f h

-- ---- from the part inside to the part outside
-- A map of the inner part, for some values of the bits from those of the inner frame on, is one of the outer part, for some values
-- of the bits from those of the outer frame on.
pub record Opens (vars : List (Name × Kind)) (layout : List (Name × Width × ℕ)) (n keep : ℕ) (closed : List Name) (p : Tree)
    (vars' : List (Name × Kind)) (layout' : List (Name × Width × ℕ)) (n' : ℕ) (closed' : List Name) (q : Tree) : Type 0 where
  pub opens : (w : World) (from : ℕ → Bool) (rest map : MapId) (top : ℕ) → ((x y : ℕ) → AgreeBelow n x y → from x ≡ true → from y ≡ true) → n' ≤ top → top ≤ 24 → IsOver w n rest
      → ((Γ : Environment) → IsAround Γ vars' → types_kept q Γ ≡ true → IsAfterOpen w n' top layout' keep closed' Γ from q rest map)
      → (Γ : Environment) → IsAround Γ vars → types_kept p Γ ≡ true → IsAfterOpen w n top layout keep closed Γ from p rest map

module _ (vars : List (Name × Kind)) (layout : List (Name × Width × ℕ)) (n keep : ℕ) (closed : List Name) (p : Tree) (inside : keep < 2 ^ n)
    (vars' : List (Name × Kind)) (layout' : List (Name × Width × ℕ)) (n' : ℕ) (closed' : List Name) (q : Tree) (frame : IsFrame vars' layout' n') (more : n ≤ n') where
  pushed_state : (x : Name) (wd : Width) (layout'' : List (Name × Width × ℕ)) (n'' : ℕ) → IsFrame (vars' ++ (x, Var wd) ∷ []) layout'' n'' → environment vars' x.0 ≡ None → (u : ℕ)
      → state_of layout'' u ≡ with_value (state_of layout' u) x.0 (u / 2 ^ n' % 2 ^ bits_of wd)
  pushed_state x wd layout'' n'' frame'' fresh u =
      ap (λ l. state_of l u) (frame''.layout_is ∙ laid-push 0 vars' x wd ∙ (λ i. sym frame.layout_is i ++ (x, wd, bits i) ∷ []))
      ∙ state-push layout' x wd n' u (subst (λ l. IsFresh l x.0) (sym frame.layout_is) (fresh_laid 0 vars' x.0 fresh))
    where
      bits : 0 + bits_of_scope vars' ≡ n'
      bits = let e = frame.bits_are in omega (arith, e)

  bits_next : (x : Name) (wd : Width) (layout'' : List (Name × Width × ℕ)) (n'' : ℕ) → IsFrame (vars' ++ (x, Var wd) ∷ []) layout'' n'' → n'' ≡ n' + bits_of wd
  bits_next x wd layout'' n'' frame'' = let a = frame.bits_are in let b = frame''.bits_are in omega (arith, a, b, bits-push vars' (x, Var wd))
    where
      bits-push : (es : List (Name × Kind)) (d : Name × Kind) → bits_of_scope (es ++ d ∷ []) ≡ bits_of_scope es + bits_of_kind d.1
      bits-push [] d = omega arith
      bits-push (e ∷ es) d = omega (arith, bits-push es d)

  pub opens_next : (x : Name) (k : Kind) (q' : Tree) (vars'' : List (Name × Kind)) (layout'' : List (Name × Width × ℕ)) (n'' : ℕ) (closed'' : List Name) → q ≡ declaring x.0 k q'
      → vars'' ≡ entered vars' x k → closed'' ≡ closed_by closed' x k → IsFrame vars'' layout'' n''
      → Opens vars layout n keep closed p vars' layout' n' closed' q → Opens vars layout n keep closed p vars'' layout'' n'' closed'' q'
  opens_next x (Var wd) q' vars'' layout'' n'' closed'' e v c f'' o = record {
    opens = λ w from rest map top stays h l over f.
        let frame'' : IsFrame (vars' ++ (x, Var wd) ∷ []) layout'' n'' = subst (λ vs. IsFrame vs layout'' n'') v f'' in
        let next : n'' ≡ n' + bits_of wd = bits_next x wd layout'' n'' frame'' in
        o.opens w from rest map top stays (omega (arith, next, h)) l over
        (λ Γ around types.
        let kept : types_kept (declaring x.0 (Var wd) q') Γ ≡ true = ap (λ t. types_kept t Γ) (sym e) ∙ types in
        let t = and_parts (can_declare Γ x.0 wd) (types_kept q' (with_name Γ x.0 (Var wd))) kept in
        let fresh : Γ x.0 ≡ None = none_is (Γ x.0) (and_parts (is_none (Γ x.0)) (is_width wd) t.0).0 in
        let inner_around = around_variable Γ vars' x wd around fresh in
        let given = f (with_name Γ x.0 (Var wd)) (subst (λ vs. IsAround (with_name Γ x.0 (Var wd)) vs) (sym v) inner_around) t.1 in
        let unnamed : environment vars' x.0 ≡ None = around.none x.0 fresh in
        let zero : (u : ℕ) → state_of layout' u x.0 ≡ 0 = λ u. fresh_state layout' x.0 u (subst (λ l. IsFresh l x.0) (sym frame.layout_is) (fresh_laid 0 vars' x.0 unnamed)) in
        subst (λ t. IsAfterOpen w n' top layout' keep closed' Γ from t rest map) (sym e)
        (variable_from w n' top layout' layout'' keep closed' Γ from x wd q' rest map (pow_more n n' keep more inside) (omega (arith, next, h)) (omega (arith, l)) (over_more w n n' rest more over)
        (pushed_state x wd layout'' n'' frame'' unnamed) (state_below vars' layout' n' frame) (state_back vars' layout' n' frame)
        (reaches_in w (vars' ++ (x, Var wd) ∷ []) layout'' n'' keep closed' frame'' (pow_more n n'' keep (omega (arith, next, more)) inside) (with_name Γ x.0 (Var wd)) q' inner_around t.1)
        (λ a b agree. stays a b (λ k l. agree k (omega (arith, l, more))))
        (subst (λ m. IsAfterOpen w m top layout'' keep closed' (with_name Γ x.0 (Var wd)) from q' rest map) next
        (subst (λ cs. IsAfterOpen w n'' top layout'' keep cs (with_name Γ x.0 (Var wd)) from q' rest map) c given))
        (λ a b. zero a ∙ sym (zero b))));
  }
  opens_next x (Chan wd d) q' vars'' layout'' n'' closed'' e v c f'' o = record {
    opens = λ w from rest map top stays h l over f.
        let frame'' : IsFrame vars' layout'' n'' = subst (λ vs. IsFrame vs layout'' n'') v f'' in
        let next : n'' ≡ n' = frame''.bits_are ∙ sym frame.bits_are in
        let laid : layout'' ≡ layout' = frame''.layout_is ∙ sym frame.layout_is in
        o.opens w from rest map top stays (omega (arith, next, h)) l over
        (λ Γ around types.
        let kept : types_kept (declaring x.0 (Chan wd d) q') Γ ≡ true = ap (λ t. types_kept t Γ) (sym e) ∙ types in
        let t = and_parts (can_declare Γ x.0 wd) (types_kept q' (with_name Γ x.0 (Chan wd None))) kept in
        let fresh : Γ x.0 ≡ None = none_is (Γ x.0) (and_parts (is_none (Γ x.0)) (is_width wd) t.0).0 in
        let given = f (with_name Γ x.0 (Chan wd None)) (subst (λ vs. IsAround (with_name Γ x.0 (Chan wd None)) vs) (sym v) (around_channel Γ vars' x wd around fresh)) t.1 in
        subst (λ t. IsAfterOpen w n' top layout' keep closed' Γ from t rest map) (sym e)
        (channel_from w n' top layout' keep closed' Γ from x wd q' rest map
        (subst (λ m. IsAfterOpen w m top layout' keep (closed' ++ x ∷ []) (with_name Γ x.0 (Chan wd None)) from q' rest map) next
        (subst (λ ls. IsAfterOpen w n'' top ls keep (closed' ++ x ∷ []) (with_name Γ x.0 (Chan wd None)) from q' rest map) laid
        (subst (λ cs. IsAfterOpen w n'' top layout'' keep cs (with_name Γ x.0 (Chan wd None)) from q' rest map) c given)))));
  }

-- a declaration takes no bits away
pub bits_grow : (vars' : List (Name × Kind)) (layout' : List (Name × Width × ℕ)) (n' : ℕ) (vars'' : List (Name × Kind)) (layout'' : List (Name × Width × ℕ)) (n'' : ℕ) (x : Name) (k : Kind)
    → IsFrame vars' layout' n' → IsFrame vars'' layout'' n'' → vars'' ≡ entered vars' x k → (n : ℕ) → n ≤ n' → n ≤ n''
bits_grow vars' layout' n' vars'' layout'' n'' x (Var wd) f g v n h =
    let a = f.bits_are in let b = g.bits_are in let e = ap bits_of_scope v in omega (arith, a, b, e, bits-push vars' (x, Var wd), h)
  where
    bits-push : (es : List (Name × Kind)) (d : Name × Kind) → bits_of_scope (es ++ d ∷ []) ≡ bits_of_scope es + bits_of_kind d.1
    bits-push [] d = omega arith
    bits-push (e ∷ es) d = omega (arith, bits-push es d)
bits_grow vars' layout' n' vars'' layout'' n'' x (Chan wd d) f g v n h =
    let a = f.bits_are in let b = g.bits_are in let e = ap bits_of_scope v in omega (arith, a, b, e, h)
