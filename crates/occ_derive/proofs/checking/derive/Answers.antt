use Rattle.std.proofs.Common.{◌≤◌, ℕ, List, length, ap, arith, subst, sym}
use Rattle.occ_derive.proofs.Targets.{derived_grows}
use Rattle.occ_derive.specs.Derived.{IsDerivation}
use Rattle.occ_derive_search.specs.occ_derive_moves.Steps.{Derivable}
use Rattle.occ_script_back.specs.occ_lex.Growth.{GrowsByNames}
use Rattle.occ_syntax.specs.Tree.{Tree}
use Rattle.occ_syntax.specs.View.{tree}
use Rattle.occ_script_back.proofs.from_usage.Law.{faultless_keeps}
use Rattle.occ_derive.proofs.checking.derive.Goals as goal

pub derive_to-requires : goal.derive_to-requires
derive_to-requires c =
    let p = c.args.accepted.now.program in
    let t = c.args.table.now in
    subst (Derivable p.params (tree p.body)) (sym c.in-Ok.ensures.body)
    (c.normal_programs_are_derivable.ensures p (record { names = c.args.names.now; params = t.params; rows = t.rows; states = t.states })
    (faultless_keeps p c.args.accepted.now.kept) c.requires.params c.requires.normal c.requires.stands)

pub returns-clause-derived : goal.returns-clause-derived
returns-clause-derived c =
    subst (λ (b : Tree). IsDerivation c.args.accepted.now.program b c.in_ok-outcome.outcome) c.in-Ok.ensures.body c.in_ok-outcome.ensures.derived

pub returns-clause-grown : goal.returns-clause-grown
returns-clause-grown c =
    let count : length c.args.table.now.params ≤ 16 =
    let few = (faultless_keeps c.args.accepted.now.program c.args.accepted.now.kept).typed.parameters in
    omega (arith, few, ap length c.requires.params) in
    derived_grows c.args.table.now.params c.args.names.now c.target.new.names c.derive_to.new.names count c.in-Ok.ensures.names c.in_ok-outcome.ensures.grown

pub returns-clause-named : goal.returns-clause-named
returns-clause-named c = subst (λ (n : List (List ℕ)). GrowsByNames n c.derive_to.new.names) c.in-Ok.ensures.names c.in_ok-outcome.ensures.grown
