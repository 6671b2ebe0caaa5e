use Rattle.std.proofs.Common.{ap, sym, ◌∙◌}
use Rattle.occ_syntax.specs.Tree.{operation}
use Rattle.occ_syntax.specs.View.{exp}
use Rattle.occ_names.specs.Mentions.{reads}
use Rattle.occ_names.proofs.Collected.{ok_more}
use Rattle.occ_names.proofs.collect.Collector.+read.Goals as goal

pub returns-in_ok-read-in-Two-clause-found : goal.returns-in_ok-read-in-Two-clause-found
returns-in_ok-read-in-Two-clause-found t c =
    let two = c.in-Two in
    let e = ap exp two.is ∙ ap (λ p. operation two.field-0 (exp p) (exp two.right.value)) (sym c.deref.ensures) ∙ ap (λ p. operation two.field-0 (exp c.deref.result.now) (exp p)) (sym c.deref-in-Two.ensures) in
    ok_more c.read-in-Two.result _ _ _ _ c.read-in-Two.new.self.found _ _ _ (ap reads e) c.in_ok-read-in-Two.ensures.bound c.in_ok-read-in-Two.ensures.found c.read-in-Two.ensures.found
