use Rattle.std.proofs.Common.{◌≡◌, ◌≤◌, ◌-◌, ℕ, List, drop, length, length-drop, take, sym, subst, arith}
use Rattle.std.proofs.lemmas.List.{take_all}
use Rattle.occ_norm_frame.specs.Placed.{FitAll}
use Rattle.occ_syntax.specs.Tree.{seq}
use Rattle.occ_syntax.specs.View.{trees}
use Rattle.occ_syntax.specs.declared.proc.Proc.{Proc}
use Rattle.occ_norm_assign.specs.Transfer.{IsMapOf}
use Rattle.occ_norm_assign.proofs.Runs.{fit_from, some_found}
use Rattle.occ_norm_assign.proofs.run.straight.Goals as goal

all_behind : (ps : List Proc) (n : ℕ) → n ≤ length ps → take (length ps - n) (drop n ps) ≡ drop n ps
all_behind ps n h = take_all (length ps - n) (drop n ps) (let e = length-drop n ps in omega (arith, e, h))

pub behind-requires-clause-parts : goal.behind-requires-clause-parts
behind-requires-clause-parts c = subst (λ ps. FitAll c.args.frame.now.vars (trees ps)) (sym (all_behind c.args.parts.now c.run_start-start.result c.run_start-start.ensures)) (fit_from c.args.frame.now.vars c.args.parts.now c.run_start-start.result c.requires.parts)

pub returns-clause-behind : goal.returns-clause-behind
returns-clause-behind c =
    let parts = c.args.parts.now in
    let start = c.run_start-start.result in
    let w = c.behind.new.world in
    let made = subst (λ ps. IsMapOf w c.args.frame.now (seq (trees ps)) c.args.rest c.in-Some.map) (all_behind parts start c.run_start-start.ensures) (some_found _ c.in_ok-map.field-0 c.in-Some.map c.in-Some.is c.in_ok-map.ensures.after) in
    record { within = omega (arith, c.run_start-start.ensures, c.if-parts-start-lt2.false); nodes = made.nodes; after = made.after }
