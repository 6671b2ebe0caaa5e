use Rattle.std.proofs.Common.{subst}
use Rattle.occ_derive.proofs.Known.{can_be_written}
use Rattle.occ_derive.specs.Derived.{AreBelow}
use Rattle.occ_script_back.proofs.from_lex.Growing.{grows_on}
use Rattle.occ_syntax.specs.declared.scope.Program.{Program}
use Rattle.occ_syntax.specs.View.{tree}
use Rattle.occ_derive.proofs.checking.derive_to.Goals as goal

pub returns-clause-grown : goal.returns-clause-grown
returns-clause-grown c = grows_on c.args.names.now c.derivation.new.names c.cover.new.names c.derivation.ensures.grown c.cover.ensures.grown

pub returns-clause-writable : goal.returns-clause-writable
returns-clause-writable c =
    can_be_written c.parts_are_known_up_to_their_greatest_name.ensures c.cover.new.names c.last_name.result c.args.accepted.now.program
    (tree c.args.normal.now.body) c.in_ok-outcome.outcome c.in_ok-cover.ensures.within c.in_ok-outcome.ensures.derived
    (subst (λ (p : Program). AreBelow c.last_name.result p c.in_ok-outcome.outcome) c.program.ensures.same c.last_name.ensures)
