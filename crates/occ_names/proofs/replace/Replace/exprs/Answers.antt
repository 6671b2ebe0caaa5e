use Rattle.std.proofs.Common.{map, ap, sym, ◌∙◌}
use Rattle.std.proofs.lemmas.List.{take_all}
use Rattle.occ_syntax.specs.View.{exp}
use Rattle.occ_meaning.specs.Rename.{replacing, renamed_exp}
use Rattle.occ_names.proofs.Replaced.{renamed_values}
use Rattle.occ_names.proofs.replace.Replace.exprs.Goals as goal

pub returns : goal.returns
returns c =
    let r = replacing c.args.self.old.0 c.args.self.new.0 in
    c.loop-expr.invariant ∙ ap (map (λ e. renamed_exp r (exp e))) (take_all _ _ c.loop-expr-test.false) ∙ sym (renamed_values r _)
