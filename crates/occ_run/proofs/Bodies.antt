-- The steps in the body of a VAR and of CHANs.
use Rattle.std.proofs.Common.{◌≡◌, ◌==◌, ℕ, None, List, [], ◌∷◌, map, if◌then◌else◌, refl, ap, sym, subst, ◌∙◌}
use Rattle.std.specs.List.{filter}
use Rattle.std.proofs.Common.{Result, Ok, Err, IfOk}
use Rattle.occ_syntax.specs.Tree.{Trees}
use Rattle.occ_syntax.specs.occ_base.declared.names.Name.{Name}
use Rattle.occ_syntax.specs.occ_base.declared.width.Width.{Width}
use Rattle.occ_syntax.specs.declared.scope.Kind.TheVariants.{Chan, Var}
use Rattle.occ_syntax.specs.Scopes.{Environment, Values, with_name, with_value}
use Rattle.occ_run_steps.proofs.from_meaning.Facts.{value_at}
use Rattle.occ_run_steps.specs.Control.{Control, after, channel, local}
use Rattle.occ_run_steps.specs.Step.{Step, changed, is_off, leaving, off, step, changes_but}
use Rattle.occ_run_steps.specs.Steps.{within}
use Rattle.occ_run.specs.View.{in_channels, with_channels}
use Rattle.occ_run.specs.Effects.{Effect, applied, in_body, off_all, off_channels, value_after}
use Rattle.occ_run.specs.Offers.{Gives}
use Rattle.occ_run.proofs.Lists.{filter_all, filter_map, filter_twice, map_after, map_ways}

-- the value of a variable after changes
pub held_after : (cs : List (ℕ × ℕ)) (s : Values) (x v : ℕ) → changed cs (with_value s x v) x ≡ value_after cs x v
held_after [] s x v = value_at s x v
held_after (c ∷ cs) s x v = ap (λ n. if x == c.0 then c.1 else n) (held_after cs s x v)

-- the steps of a control in a VAR, by those in the body
pub gives_local : (Γ : Environment) (s : Values) (x : ℕ) (w : Width) (v : ℕ) (C : Control) (ks : List (Step Effect))
    → Gives (with_name Γ x (Var w)) (with_value s x v) C ks → Gives Γ s (local x w v C) (map (in_body x v) ks)
gives_local Γ s x w v C ks h =
    map_ways (leaving (applied (local x w v C))) (in_body x v) (within x w (with_value s x v)) (leaving (applied C))
    (λ k. ap (λ n. step k.event (changes_but x k.changes) (local x w n (applied C k.next))) (sym (held_after k.changes s x v))) ks
    ∙ ap (map (within x w (with_value s x v))) h

-- the steps of a control in CHANs in a row, by those in the body
pub gives_channels : (Γ : Environment) (s : Values) (cs : List (Name × Width)) (C : Control) (ks : List (Step Effect))
    → Gives (with_channels Γ cs) s C ks → Gives Γ s (in_channels cs C) (off_channels cs ks)
gives_channels Γ s [] C ks h = ap (map (leaving (applied C))) (filter_all ks) ∙ h
gives_channels Γ s (c ∷ cs) C ks h =
    let Δ = with_name Γ c.0.0 (Chan c.1 None) in
    let D = in_channels cs C in
    let ls = off_channels cs ks in
    let one : List (Step Effect) = filter (λ (k : Step Effect). off c.0.0 k.event) ls in
    ap (map (leaving (applied (in_channels (c ∷ cs) C)))) (sym (filter_twice (λ (k : Step Effect). off c.0.0 k.event) (λ (k : Step Effect). off_all cs k.event) ks))
    ∙ sym (map_after (leaving (channel c.0.0 c.1)) (leaving (applied D)) (leaving (applied (in_channels (c ∷ cs) C))) (λ k. refl) one)
    ∙ ap (map (leaving (channel c.0.0 c.1))) (sym (filter_map (leaving (applied D)) (is_off c.0.0) (λ (k : Step Effect). off c.0.0 k.event) (λ k. refl) ls)
    ∙ ap (filter (is_off c.0.0)) (gives_channels Δ s cs C ks h))

-- the steps of a control before processes in turn, by its own
pub gives_after : (Γ : Environment) (s : Values) (C : Control) (ps : Trees) (ks : List (Step Effect)) → Gives Γ s C ks → Gives Γ s (after C ps) ks
gives_after Γ s C ps ks h =
    sym (map_after (leaving (λ D. after D ps)) (leaving (applied C)) (leaving (applied (after C ps))) (λ k. refl) ks) ∙ ap (map (leaving (λ D. after D ps))) h

-- what holds of a control at a place holds of the same control at the same place
pub at_place : (P : Environment → Values → Control → Type 0) (Γ Δ : Environment) (s u : Values) (C D : Control) → Δ ≡ Γ → u ≡ s → D ≡ C → P Δ u D → P Γ s C
at_place P Γ Δ s u C D e f g h =
    let O : Environment → Type 0 = λ Θ. P Θ u D in
    let Q : Values → Type 0 = λ q. P Γ q D in
    let R : Control → Type 0 = λ E. P Γ s E in
    subst R g (subst Q f (subst O e h))

-- what holds of a result at hand, and what comes of it
pub on_ok : {A E : Type 0} {P Q : A → Type 0} (r : Result A E) → ((x : A) → P x → Q x) → IfOk r P → IfOk r Q
on_ok (Ok x) f h = f x h
on_ok (Err e) f h = tt
