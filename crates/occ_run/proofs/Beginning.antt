-- Processes as they begin, one after another.
use Rattle.std.proofs.Common.{◌≡◌, ◌-◌, ◌<◌, ◌≤◌, Bool, true, false, List, ◌∷◌, length, get_or, take, drop, if◌then◌else◌, Result, IfOk, sym, ap, subst, ◌∙◌, arith}
use Rattle.std.proofs.lemmas.Bool.{and_parts}
use Rattle.occ_syntax.specs.occ_base.declared.memory.Memory.{Memory}
use Rattle.occ_syntax.specs.occ_base.declared.names.Name.{Name}
use Rattle.occ_syntax.specs.occ_base.declared.width.Width.{Width}
use Rattle.occ_syntax.specs.declared.expr.Expr.{Expr}
use Rattle.occ_syntax.specs.declared.proc.Proc.{Proc}
use Rattle.occ_syntax.specs.Scopes.{Environment, Values}
use Rattle.occ_syntax.specs.Tree.{Tree, connect}
use Rattle.occ_syntax.specs.Types.{all_types_kept, cases_kept, is_condition, types_kept}
use Rattle.occ_syntax.specs.View.{cases, exp, tree, trees}
use Rattle.occ_syntax.proofs.Weights.{weight, weight_of_all, weight_of_cases, weight_in_all, weight_in_cases}
use Rattle.occ_syntax.specs.Eval.{is_true}
use Rattle.occ_run_steps.proofs.from_meaning.Facts.{and_three}
use Rattle.occ_run_steps.specs.Control.{Control as Left, after, is_done}
use Rattle.occ_run_steps.specs.Settled.{begun, begun_choice, begun_turn, settled}
use Rattle.occ_run.specs.declared.control.Control.{Control}
use Rattle.occ_run.specs.View.{can_connect, connecting, control, in_channels, round, with_channels}
use Rattle.occ_run.proofs.Channels.{begun_connecting, connecting_kept, settled_in_channels, weight_connecting}
use Rattle.occ_run.proofs.Bodies.{on_ok}
use Rattle.occ_run.proofs.Fronts.{front_is}

-- the row of CHANs that a process begins with
module _ (c : Name × Width) (more : List (Name × Width)) (seen : List (Name × Width)) (p q : Tree) (whole : p ≡ connect c.0.0 c.1 (connecting more q)) where
  pub row_weight : weight q < weight p
  unfolding weight
  row_weight = let e = ap weight whole in let h = weight_connecting more q in omega arith

  pub row_kept : (Γ : Environment) → seen ≡ more → types_kept p Γ ≡ true → (can_connect Γ (c ∷ seen) ≡ true) × (types_kept q (with_channels Γ (c ∷ seen)) ≡ true)
  row_kept Γ e h =
      let P : List (Name × Width) → Type 0 = λ cs. (can_connect Γ (c ∷ cs) ≡ true) × (types_kept q (with_channels Γ (c ∷ cs)) ≡ true) in
      subst P (sym e) (connecting_kept Γ (c ∷ more) q (sym (ap (λ r. types_kept r Γ) whole) ∙ h))

-- the first of processes, and the others, are typed
pub all_front : (Γ : Environment) (ps : List Proc) (p : Proc) → 0 < length ps → p ≡ get_or ps 0 p → all_types_kept (trees ps) Γ ≡ true
    → (types_kept (tree p) Γ ≡ true) × (all_types_kept (trees (take (length ps - 1) (drop 1 ps))) Γ ≡ true)
all_front Γ ps p some is h =
    and_parts (types_kept (tree p) Γ) (all_types_kept (trees (take (length ps - 1) (drop 1 ps))) Γ) (sym (ap (λ qs. all_types_kept (trees qs) Γ) (front_is ps p some is)) ∙ h)

pub lighter_part : (ps : List Proc) (p : Proc) → 0 < length ps → p ≡ get_or ps 0 p → weight (tree p) < weight_of_all (trees ps)
lighter_part ps p some is = weight_in_all ps 0 p some is

-- what a row of CHANs begins as
pub begun_row : (Γ : Environment) (s : Values) (Δ : Environment) (u : Values) (c : Name × Width) (more seen : List (Name × Width)) (p q : Tree) (body : Control) (r : Result Control Memory)
    → p ≡ connect c.0.0 c.1 (connecting more q) → seen ≡ more → Δ ≡ with_channels Γ (c ∷ seen) → u ≡ s → control body ≡ begun Δ u q
    → IfOk r (λ made. control made ≡ round (c ∷ more) (control body)) → IfOk r (λ made. control made ≡ begun Γ s p)
begun_row Γ s Δ u c more seen p q body r whole e f g b h =
    let inner : control body ≡ begun (with_channels Γ (c ∷ more)) s q = b ∙ ap (λ Θ. begun Θ u q) (f ∙ ap (λ cs. with_channels Γ (c ∷ cs)) e) ∙ ap (λ v. begun (with_channels Γ (c ∷ more)) v q) g in
    on_ok r (λ x k. k ∙ ap (round (c ∷ more)) inner ∙ sym (begun_connecting Γ s (c ∷ more) q) ∙ sym (ap (begun Γ s) whole)) h

-- ---- in turn

lighter_rest : (ps : List Proc) (p : Proc) (later : List Proc) → ps ≡ p ∷ later → weight_of_all (trees later) ≤ weight_of_all (trees ps)
unfolding weight weight_of_all
lighter_rest ps p later e = let w = ap (λ qs. weight_of_all (trees qs)) e in omega arith

-- the processes behind the first weigh no more
pub lighter_later : (ps : List Proc) (p : Proc) → 0 < length ps → p ≡ get_or ps 0 p → weight_of_all (trees (take (length ps - 1) (drop 1 ps))) ≤ weight_of_all (trees ps)
lighter_later ps p some is = lighter_rest ps p (take (length ps - 1) (drop 1 ps)) (front_is ps p some is)

-- where the first of processes in turn has come to nothing, they come to what the others do
pub turn_over : (Γ : Environment) (s : Values) (ps : List Proc) (p : Proc) (C whole : Left) → 0 < length ps → p ≡ get_or ps 0 p → C ≡ begun Γ s (tree p) → is_done C ≡ true
    → begun_turn Γ s (trees ps) ≡ whole → begun_turn Γ s (trees (take (length ps - 1) (drop 1 ps))) ≡ whole
turn_over Γ s ps p C whole some is e over h =
    let later = take (length ps - 1) (drop 1 ps) in
    sym (ap (λ qs. begun_turn Γ s (trees qs)) (front_is ps p some is)
    ∙ ap (λ (b : Bool). if b then begun_turn Γ s (trees later) else after (begun Γ s (tree p)) (trees later)) (ap is_done (sym e) ∙ over)) ∙ h

-- ---- choices

-- the first of choices, and the others, are typed
pub case_front : (Γ : Environment) (cs : List (Expr × Proc)) (d : Expr × Proc) → 0 < length cs → d ≡ get_or cs 0 d → cases_kept (cases cs) Γ ≡ true
    → (is_condition Γ (exp d.0) ≡ true) × (types_kept (tree d.1) Γ ≡ true) × (cases_kept (cases (take (length cs - 1) (drop 1 cs))) Γ ≡ true)
case_front Γ cs d some is h =
    and_three (is_condition Γ (exp d.0)) (types_kept (tree d.1) Γ) (cases_kept (cases (take (length cs - 1) (drop 1 cs))) Γ) (sym (ap (λ ds. cases_kept (cases ds) Γ) (front_is cs d some is)) ∙ h)

pub lighter_case : (cs : List (Expr × Proc)) (d : Expr × Proc) → 0 < length cs → d ≡ get_or cs 0 d → weight (tree d.1) < weight_of_cases (cases cs)
lighter_case cs d some is = weight_in_cases cs 0 d some is

lighter_cases : (cs : List (Expr × Proc)) (d : Expr × Proc) (later : List (Expr × Proc)) → cs ≡ d ∷ later → weight_of_cases (cases later) ≤ weight_of_cases (cases cs)
unfolding weight weight_of_cases
lighter_cases cs d later e = let w = ap (λ ds. weight_of_cases (cases ds)) e in omega arith

pub lighter_choices : (cs : List (Expr × Proc)) (d : Expr × Proc) → 0 < length cs → d ≡ get_or cs 0 d → weight_of_cases (cases (take (length cs - 1) (drop 1 cs))) ≤ weight_of_cases (cases cs)
lighter_choices cs d some is = lighter_cases cs d (take (length cs - 1) (drop 1 cs)) (front_is cs d some is)

-- where the first condition is false, choices come to what the others do
pub choice_over : (Γ : Environment) (s : Values) (cs : List (Expr × Proc)) (d : Expr × Proc) (whole : Left) → 0 < length cs → d ≡ get_or cs 0 d → is_true Γ (exp d.0) s ≡ false
    → begun_choice Γ s (cases cs) ≡ whole → begun_choice Γ s (cases (take (length cs - 1) (drop 1 cs))) ≡ whole
choice_over Γ s cs d whole some is f h =
    let later = take (length cs - 1) (drop 1 cs) in
    sym (ap (λ ds. begun_choice Γ s (cases ds)) (front_is cs d some is) ∙ ap (λ (b : Bool). if b then begun Γ s (tree d.1) else begun_choice Γ s (cases later)) f) ∙ h

-- what a control in a row of CHANs comes to
pub settled_row : (Γ : Environment) (s : Values) (Δ : Environment) (u : Values) (c : Name × Width) (more seen copied : List (Name × Width)) (C B : Left) (body : Control) (r : Result Control Memory)
    → C ≡ in_channels (c ∷ more) B → copied ≡ more → seen ≡ more → Δ ≡ with_channels Γ (c ∷ seen) → u ≡ s → control body ≡ settled Δ u B
    → IfOk r (λ made. control made ≡ round (c ∷ copied) (control body)) → IfOk r (λ made. control made ≡ settled Γ s C)
settled_row Γ s Δ u c more seen copied C B body r whole d e f g b h =
    let inner : control body ≡ settled (with_channels Γ (c ∷ more)) s B = b ∙ ap (λ Θ. settled Θ u B) (f ∙ ap (λ cs. with_channels Γ (c ∷ cs)) e) ∙ ap (λ v. settled (with_channels Γ (c ∷ more)) v B) g in
    on_ok r (λ x k. k ∙ ap (λ cs. round (c ∷ cs) (control body)) d ∙ ap (round (c ∷ more)) inner ∙ sym (settled_in_channels Γ s (c ∷ more) B) ∙ sym (ap (settled Γ s) whole)) h
