-- Declared variables for inputs, taken off: what the process in them does.
use Rattle.std.proofs.Common.{◌≡◌, ℕ, ◌==◌, true, false, List, [], ◌∷◌, None, Some, refl, sym, ap, ◌∙◌, inl, inr, ◌⊎◌}
use Rattle.std.proofs.lemmas.Bool.{cases_Bool, eqb-true}
use Rattle.std.proofs.lemmas.Nat.{pow_pos}
use Rattle.std.specs.List.{AllByRecursion}
use Rattle.occ_target.specs.occ_base.declared.names.Name.{Name}
use Rattle.occ_target.specs.occ_base.declared.width.Width.{Width}
use Rattle.occ_target.specs.occ_base.Width.{bits_of}
use Rattle.occ_target.specs.occ_syntax.declared.scope.Kind.{Kind}
use Rattle.occ_target.specs.occ_syntax.declared.scope.Kind.TheVariants.{Var, Chan}
use Rattle.occ_target.specs.occ_syntax.Declarations.{declaring_all}
use Rattle.occ_target.specs.occ_syntax.Meaning.{Outcome, WithVariable, ended, meaning, refusing}
use Rattle.occ_target.specs.occ_syntax.Scopes.{Environment, Trace, Values, channel_kind, environment, with_name, with_value}
use Rattle.occ_target.specs.occ_syntax.Tree.{Tree}
use Rattle.occ_target.proofs.from_meaning.Facts.{name_off, value_off}
use Rattle.occ_target.specs.occ_nform_table.Lists.{In}
use Rattle.occ_target.specs.States.{variables}
use Rattle.occ_target_laws.specs.Bodies.{AreDeclared, IsVariable}
use Rattle.occ_target_laws.specs.Shapes.{Header}
use Rattle.occ_target_laws.proofs.Following.{HasChannels}
use Rattle.occ_target_laws.proofs.Anywhere.{Like, like_itself, like_through}
use Rattle.occ_target_laws.proofs.Finals.{off_first}

-- the environment and the values inside declarations
abbrev pub inside : List (Name × Kind) → Environment → Environment
inside [] Γ = Γ
inside (d ∷ ds) Γ = inside ds (with_name Γ d.0.0 d.1)

abbrev pub cleared : List (Name × Kind) → Values → Values
cleared [] s = s
cleared (d ∷ ds) s = cleared ds (with_value s d.0.0 0)

module _ (h : Header) where
  abbrev pub AreFree : List (Name × Kind) → Type 0
  AreFree ds = AllByRecursion (λ (t : Name × Kind). IsVariable t.1 × (environment h.params t.0.0 ≡ None)) ds

  -- values that agree on the parameters
  abbrev pub Agreeing : Values → Values → Type 0
  Agreeing s r = (x : ℕ) → In x (variables h.params) → s x ≡ r x

  one_off : (s : Values) (y v : ℕ) → environment h.params y ≡ None → Agreeing (with_value s y v) s
  one_off s y v free x i = value_off s y v x (off_first h.params x y free i)

  pub cleared_agrees : (ds : List (Name × Kind)) → AreFree ds → (s : Values) → Agreeing (cleared ds s) s
  cleared_agrees [] free s x i = refl
  cleared_agrees (d ∷ ds) free s x i = cleared_agrees ds free.1 (with_value s d.0.0 0) x i ∙ one_off s d.0.0 0 free.0.1 x i

  some_not_none : {k : Kind} → None ≡ Some k → ⊥
  some_not_none e = cc

  -- the channels of the header stay as they are
  inside_channel : (ds : List (Name × Kind)) → AreFree ds → (Γ : Environment) (c : ℕ) (k : Kind) → environment h.params c ≡ Some k → Γ c ≡ Some k → inside ds Γ c ≡ Some k
  inside_channel [] free Γ c k known e = e
  inside_channel (d ∷ ds) free Γ c k known e = inside_channel ds free.1 (with_name Γ d.0.0 d.1) c k known (name_off Γ d.0.0 d.1 c (go (cases_Bool (c == d.0.0))) ∙ e)
    where
      go : ((c == d.0.0) ≡ true) ⊎ ((c == d.0.0) ≡ false) → (c == d.0.0) ≡ false
      go (inl t) = absurd (some_not_none (sym free.0.1 ∙ ap (environment h.params) (sym (eqb-true c d.0.0 t)) ∙ known))
      go (inr t) = t

  pub inside_channels : AreDeclared h → HasChannels h (inside h.inputs (environment h.params))
  inside_channels declared c w d e = ap channel_kind (inside_channel h.inputs declared (environment h.params) c (Chan w d) e e)

  -- ---- one declaration

  one_in : (x : ℕ) (w : Width) → environment h.params x ≡ None → (p : Tree) (Γ : Environment) (s : Values) (t : Trace) (o : Outcome)
      → (meaning p).does (with_name Γ x (Var w)) (with_value s x 0) t o → (o' : Outcome) × WithVariable x w (meaning p) Γ s t o' × Like h o o'
  one_in x w free p Γ s t (ended s1) d =
      (ended (with_value s1 x (s x)), WithVariable.at_end 0 s1 (pow_pos (bits_of w)) refl d, λ y i. sym (one_off s1 x (s x) free y i))
  one_in x w free p Γ s t (refusing X) d = (refusing X, WithVariable.at_rest 0 (pow_pos (bits_of w)) d, refl)

  one_out : (x : ℕ) (w : Width) → environment h.params x ≡ None → (p : Tree) (Γ : Environment) (s : Values) (t : Trace) (o : Outcome) → WithVariable x w (meaning p) Γ s t o
      → (r : Values) × (o' : Outcome) × (meaning p).does (with_name Γ x (Var w)) r t o' × Like h o o' × Agreeing r s
  one_out x w free p Γ s t o (WithVariable.at_end {s' = s2} v s1 below e d) =
      (with_value s x v, ended s1, d, λ y i. ap (λ r. r y) e ∙ one_off s1 x (s x) free y i, one_off s x v free)
  one_out x w free p Γ s t o (WithVariable.at_rest {X = X} v below d) = (with_value s x v, refusing X, d, refl, one_off s x v free)

  -- ---- all of them

  pub declared_in : (ds : List (Name × Kind)) → AreFree ds → (p : Tree) (Γ : Environment) (s : Values) (t : Trace) (o : Outcome)
      → (meaning p).does (inside ds Γ) (cleared ds s) t o → (o' : Outcome) × (meaning (declaring_all ds p)).does Γ s t o' × Like h o o'
  declared_in [] free p Γ s t o d = (o, d, like_itself h o)
  declared_in ((x, Chan w m) ∷ ds) free p Γ s t o d = absurd free.0.0
  declared_in ((x, Var w) ∷ ds) free p Γ s t o d =
      let rest = declared_in ds free.1 p (with_name Γ x.0 (Var w)) (with_value s x.0 0) t o d in
      let one = one_in x.0 w free.0.1 (declaring_all ds p) Γ s t rest.0 rest.1 in
      (one.0, one.1, like_through h o rest.0 one.0 rest.2 one.2)

  pub declared_out : (ds : List (Name × Kind)) → AreFree ds → (p : Tree) (Γ : Environment) (s : Values) (t : Trace) (o : Outcome) → (meaning (declaring_all ds p)).does Γ s t o
      → (r : Values) × (o' : Outcome) × (meaning p).does (inside ds Γ) r t o' × Like h o o' × Agreeing r s
  declared_out [] free p Γ s t o d = (s, o, d, like_itself h o, λ x i. refl)
  declared_out ((x, Chan w m) ∷ ds) free p Γ s t o d = absurd free.0.0
  declared_out ((x, Var w) ∷ ds) free p Γ s t o d =
      let one = one_out x.0 w free.0.1 (declaring_all ds p) Γ s t o d in
      let rest = declared_out ds free.1 p (with_name Γ x.0 (Var w)) one.0 t one.1 one.2 in
      (rest.0, rest.1, rest.2, like_through h o one.1 rest.1 one.3 rest.3, λ y i. rest.4 y i ∙ one.4 y i)
