use Rattle.std.proofs.Common.{sym, subst}
use Rattle.std.specs.List.{AllByRecursion}
use Rattle.occ_script.specs.occ_lex.Placed.{IsLineOf}
use Rattle.occ_script.proofs.from_lex.Placed.{lines_placed}
use Rattle.occ_script_tests.proofs.parts.read.Goals as goal

pub form-requires : goal.form-requires
form-requires c = subst (AllByRecursion (IsLineOf c.args.text.now)) (sym c.deref.ensures.value) (lines_placed _ _ c.in-Ok.ensures)
