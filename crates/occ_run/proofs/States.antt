-- The values of variables after changes.
use Rattle.std.proofs.Common.{◌≡◌, ◌==◌, ◌||◌, ℕ, Bool, true, false, not, List, [], ◌∷◌, ◌++◌, if◌then◌else◌, inl, inr, refl, sym, ap, ◌∙◌}
use Rattle.std.specs.List.{filter, list_any}
use Rattle.std.proofs.lemmas.Bool.Decides.{eqb_tells}
use mathlib.Core.Path.{fun_ext}
use Rattle.occ_syntax.specs.occ_base.declared.names.Name.{Name}
use Rattle.occ_run_steps.proofs.from_meaning.Facts.{false_not_true, if_false, if_true, off_turned}
use Rattle.occ_syntax.specs.Scopes.{Values, values, with_value}
use Rattle.occ_run_steps.specs.Step.{changed}
use Rattle.occ_run.specs.Effects.{changes_of}

-- whether a variable is among changes
abbrev pub is_among : List (Name × ℕ) → ℕ → Bool
is_among cs y = list_any (λ (c : Name × ℕ). c.0.0 == y) cs

values_in_front : (cs es : List (Name × ℕ)) → values (cs ++ es) ≡ changed (changes_of cs) (values es)
values_in_front [] es = refl
values_in_front (c ∷ cs) es = ap (λ s. with_value s c.0.0 c.1) (values_in_front cs es)

-- changes of values that differ in what is changed alone
changed_alike : (cs : List (Name × ℕ)) (y : ℕ) (s r : Values) → (is_among cs y ≡ false → s y ≡ r y) → changed (changes_of cs) s y ≡ changed (changes_of cs) r y
changed_alike [] y s r h = h refl
changed_alike (c ∷ cs) y s r h = elim (eqb_tells y c.0.0) [
  | inl k ↦ if_true (y == c.0.0) c.1 (changed (changes_of cs) s y) k.0 ∙ sym (if_true (y == c.0.0) c.1 (changed (changes_of cs) r y) k.0)
  | inr k ↦ ap (λ n. if y == c.0.0 then c.1 else n) (changed_alike cs y s r (λ f. h (ap (λ (b : Bool). b || is_among cs y) (off_turned y c.0.0 k.0) ∙ f)))
]

kept_by : (cs : List (Name × ℕ)) (v : Name × ℕ) (vs ws : List (Name × ℕ)) (y : ℕ) → is_among cs y ≡ false → values ws y ≡ values vs y → (b : Bool) → is_among cs v.0.0 ≡ b
    → values (if not b then v ∷ ws else ws) y ≡ values (v ∷ vs) y
kept_by cs v vs ws y off h false e = ap (λ n. if y == v.0.0 then v.1 else n) h
kept_by cs v vs ws y off h true e = elim (eqb_tells y v.0.0) [
  | inl k ↦ false_not_true (sym off ∙ ap (is_among cs) k.1 ∙ e)
  | inr k ↦ h ∙ sym (if_false (y == v.0.0) v.1 (values vs y) k.0)
]

kept_values : (cs state : List (Name × ℕ)) (y : ℕ) → is_among cs y ≡ false → values (filter (λ (v : Name × ℕ). not (is_among cs v.0.0)) state) y ≡ values state y
kept_values cs [] y off = refl
kept_values cs (v ∷ vs) y off = kept_by cs v vs (filter (λ (u : Name × ℕ). not (is_among cs u.0.0)) vs) y off (kept_values cs vs y off) (is_among cs v.0.0) refl

-- changes in front of what they don't change
pub changed_values : (cs state new : List (Name × ℕ)) → new ≡ cs ++ filter (λ (v : Name × ℕ). not (is_among cs v.0.0)) state → values new ≡ changed (changes_of cs) (values state)
changed_values cs state new e =
    ap values e ∙ values_in_front cs (filter (λ (v : Name × ℕ). not (is_among cs v.0.0)) state)
    ∙ fun_ext (λ y. changed_alike cs y (values (filter (λ (v : Name × ℕ). not (is_among cs v.0.0)) state)) (values state) (kept_values cs state y))
