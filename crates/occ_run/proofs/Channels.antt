-- CHANs in a row, taken one by one.
use Rattle.std.proofs.Common.{◌≡◌, ◌≤◌, Bool, true, false, None, List, [], ◌∷◌, ◌++◌, if◌then◌else◌, refl, ap, sym, subst, ◌∙◌, append_assoc, arith}
use Rattle.std.proofs.lemmas.Bool.{and_from, and_parts}
use Rattle.occ_syntax.specs.occ_base.declared.names.Name.{Name}
use Rattle.occ_syntax.specs.occ_base.declared.width.Width.{Width}
use Rattle.occ_syntax.specs.declared.scope.Kind.{Kind}
use Rattle.occ_syntax.specs.declared.scope.Kind.TheVariants.{Chan}
use Rattle.occ_syntax.specs.Scopes.{Environment, Values, environment, with_name}
use Rattle.occ_syntax.specs.Tree.{Tree, connect}
use Rattle.occ_syntax.specs.Types.{can_declare, scope_kept, types_kept}
use Rattle.occ_syntax.proofs.Weights.{weight}
use Rattle.occ_run_steps.specs.Control.{Control, done, unbegun, after, both, local, channel, is_done}
use Rattle.occ_run_steps.specs.Kept.{types_held}
use Rattle.occ_run_steps.specs.Settled.{begun, in_channel, settled}
use Rattle.occ_run.specs.View.{can_connect, connecting, in_channels, round, with_channels}

-- ---- the row of a process

connecting_more : (cs : List (Name × Width)) (c : Name × Width) (p : Tree) → connecting (cs ++ c ∷ []) p ≡ connecting cs (connect c.0.0 c.1 p)
connecting_more [] c p = refl
connecting_more (d ∷ cs) c p = ap (connect d.0.0 d.1) (connecting_more cs c p)

-- one more CHAN is looked through
pub one_through : (cs ds : List (Name × Width)) (c : Name × Width) (p q w : Tree) → ds ≡ cs ++ c ∷ [] → p ≡ connect c.0.0 c.1 q → connecting cs p ≡ w → connecting ds q ≡ w
one_through cs ds c p q w e f g = ap (λ es. connecting es q) e ∙ connecting_more cs c q ∙ ap (connecting cs) (sym f) ∙ g

-- what a row governs is no heavier than the whole
pub weight_connecting : (cs : List (Name × Width)) (p : Tree) → weight p ≤ weight (connecting cs p)
unfolding weight
weight_connecting [] p = omega arith
weight_connecting (c ∷ cs) p = let h = weight_connecting cs p in omega arith

-- a row that is typed may be declared, and what it governs is typed within
pub connecting_kept : (Γ : Environment) (cs : List (Name × Width)) (p : Tree) → types_kept (connecting cs p) Γ ≡ true
    → (can_connect Γ cs ≡ true) × (types_kept p (with_channels Γ cs) ≡ true)
connecting_kept Γ [] p h = (refl, h)
connecting_kept Γ (c ∷ cs) p h =
    let Δ = with_name Γ c.0.0 (Chan c.1 None) in
    let k = and_parts (can_declare Γ c.0.0 c.1) (types_kept (connecting cs p) Δ) h in
    let r = connecting_kept Δ cs p k.1 in
    (and_from (can_declare Γ c.0.0 c.1) (can_connect Δ cs) k.0 r.0, r.1)

pub held_in_channels : (Γ : Environment) (cs : List (Name × Width)) (C : Control) → types_held (in_channels cs C) Γ ≡ true
    → (can_connect Γ cs ≡ true) × (types_held C (with_channels Γ cs) ≡ true)
held_in_channels Γ [] C h = (refl, h)
held_in_channels Γ (c ∷ cs) C h =
    let Δ = with_name Γ c.0.0 (Chan c.1 None) in
    let k = and_parts (can_declare Γ c.0.0 c.1) (types_held (in_channels cs C) Δ) h in
    let r = held_in_channels Δ cs C k.1 in
    (and_from (can_declare Γ c.0.0 c.1) (can_connect Δ cs) k.0 r.0, r.1)

-- a control in a row, of which a part has been read
pub held_row : (Γ : Environment) (c : Name × Width) (more seen : List (Name × Width)) (C B : Control) → C ≡ in_channels (c ∷ more) B → seen ≡ more → types_held C Γ ≡ true
    → (can_connect Γ (c ∷ seen) ≡ true) × (types_held B (with_channels Γ (c ∷ seen)) ≡ true)
held_row Γ c more seen C B e f h =
    let P : List (Name × Width) → Type 0 = λ cs. (can_connect Γ (c ∷ cs) ≡ true) × (types_held B (with_channels Γ (c ∷ cs)) ≡ true) in
    subst P (sym f) (held_in_channels Γ (c ∷ more) B (sym (ap (λ D. types_held D Γ) e) ∙ h))

-- ---- a row round a control

not_done : (cs : List (Name × Width)) (C : Control) → is_done C ≡ false → is_done (in_channels cs C) ≡ false
not_done [] C e = e
not_done (c ∷ cs) C e = refl

round_case : (b : Bool) (c : Name × Width) (cs : List (Name × Width)) (C : Control) → is_done C ≡ b
    → in_channel c.0.0 c.1 (if b then done else in_channels cs C) ≡ (if b then done else channel c.0.0 c.1 (in_channels cs C))
round_case true c cs C e = refl
round_case false c cs C e = ap (λ (d : Bool). if d then done else channel c.0.0 c.1 (in_channels cs C)) (not_done cs C e)

round_again : (c : Name × Width) (cs : List (Name × Width)) (C : Control) → in_channel c.0.0 c.1 (round cs C) ≡ round (c ∷ cs) C
round_again c cs C = round_case (is_done C) c cs C refl

round_none : (C : Control) → C ≡ round [] C
round_none done = refl
round_none (unbegun p) = refl
round_none (after C ps) = refl
round_none (both Cs) = refl
round_none (local x w v C) = refl
round_none (channel c w C) = refl

-- a row begins at once, and so does what it governs
pub begun_connecting : (Γ : Environment) (s : Values) (cs : List (Name × Width)) (p : Tree) → begun Γ s (connecting cs p) ≡ round cs (begun (with_channels Γ cs) s p)
begun_connecting Γ s [] p = round_none (begun Γ s p)
begun_connecting Γ s (c ∷ cs) p =
    let Δ = with_name Γ c.0.0 (Chan c.1 None) in
    ap (in_channel c.0.0 c.1) (begun_connecting Δ s cs p) ∙ round_again c cs (begun (with_channels Δ cs) s p)

pub settled_in_channels : (Γ : Environment) (s : Values) (cs : List (Name × Width)) (C : Control) → settled Γ s (in_channels cs C) ≡ round cs (settled (with_channels Γ cs) s C)
settled_in_channels Γ s [] C = round_none (settled Γ s C)
settled_in_channels Γ s (c ∷ cs) C =
    let Δ = with_name Γ c.0.0 (Chan c.1 None) in
    ap (in_channel c.0.0 c.1) (settled_in_channels Δ s cs C) ∙ round_again c cs (settled (with_channels Δ cs) s C)

-- ---- the scope within a row

-- a scope with the channels of a row in front, the last foremost
abbrev pub on_top : List (Name × Width) → List (Name × Kind) → List (Name × Kind)
on_top [] scope = scope
on_top (c ∷ cs) scope = on_top cs ((c.0, Chan c.1 None) ∷ scope)

pub on_top_scope : (cs : List (Name × Width)) (scope : List (Name × Kind)) → environment (on_top cs scope) ≡ with_channels (environment scope) cs
on_top_scope [] scope = refl
on_top_scope (c ∷ cs) scope = on_top_scope cs ((c.0, Chan c.1 None) ∷ scope)

pub on_top_kept : (cs : List (Name × Width)) (scope : List (Name × Kind)) → can_connect (environment scope) cs ≡ true → scope_kept scope ≡ true
    → scope_kept (on_top cs scope) ≡ true
on_top_kept [] scope h k = k
on_top_kept (c ∷ cs) scope h k =
    let j = and_parts (can_declare (environment scope) c.0.0 c.1) (can_connect (with_name (environment scope) c.0.0 (Chan c.1 None)) cs) h in
    on_top_kept cs ((c.0, Chan c.1 None) ∷ scope) j.1 (and_from (can_declare (environment scope) c.0.0 c.1) (scope_kept scope) j.0 k)

on_top_more : (cs : List (Name × Width)) (c : Name × Width) (scope : List (Name × Kind)) → on_top (cs ++ c ∷ []) scope ≡ (c.0, Chan c.1 None) ∷ on_top cs scope
on_top_more [] c scope = refl
on_top_more (d ∷ cs) c scope = on_top_more cs c ((d.0, Chan d.1 None) ∷ scope)

-- one more channel comes behind those that are there
pub one_on_top : (xs ys : List (Name × Kind)) (ds es : List (Name × Width)) (c : Name × Width) (scope whole : List (Name × Kind)) → ds ≡ es ++ c ∷ []
    → ys ≡ xs ++ (c.0, Chan c.1 None) ∷ [] → xs ++ on_top ds scope ≡ whole → ys ++ on_top es scope ≡ whole
one_on_top xs ys ds es c scope whole e f g =
    ap (λ zs. zs ++ on_top es scope) f ∙ append_assoc xs ((c.0, Chan c.1 None) ∷ []) (on_top es scope)
    ∙ sym (ap (λ zs. xs ++ zs) (ap (λ zs. on_top zs scope) e ∙ on_top_more es c scope)) ∙ g

-- the whole scope, once no channel is left
pub scope_made : (xs : List (Name × Kind)) (rest : List (Name × Width)) (all : List (Name × Kind)) (first : Name × Width) (more : List (Name × Width)) (base : List (Name × Kind))
    → all ≡ (xs ++ (first.0, Chan first.1 None) ∷ []) ++ base → rest ≡ [] → ((scope : List (Name × Kind)) → xs ++ on_top rest scope ≡ on_top more scope) → all ≡ on_top (first ∷ more) base
scope_made xs rest all first more base e none h =
    let entry : Name × Kind = (first.0, Chan first.1 None) in
    e ∙ append_assoc xs (entry ∷ []) base ∙ sym (ap (λ cs. xs ++ on_top cs (entry ∷ base)) none) ∙ h (entry ∷ base)
