use Rattle.std.proofs.Common.{◌≡◌, map, take}
use Rattle.occ_syntax.specs.View.{exp, exps}
use Rattle.occ_meaning.specs.Rename.{replacing, renamed_exp}
use Rattle.occ_names.proofs.replace.Replace.exprs.Given as goal

abbrev pub invariant-loop-expr : goal.invariant-loop-expr
invariant-loop-expr l = exps l.made ≡ map (λ e. renamed_exp (replacing l.self.old.0 l.self.new.0) (exp e)) (take l.expr-index l.exprs)
