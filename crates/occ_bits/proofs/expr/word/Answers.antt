use Rattle.std.proofs.Common.{◌≤◌, subst, sym}
use Rattle.occ_syntax.specs.View.{exp}
use Rattle.occ_bits.specs.Layout.{scope_in}
use Rattle.occ_bits.specs.Words.{IsValue}
use Rattle.occ_bits.proofs.Values.{bits_within}
use Rattle.occ_bits.proofs.expr.word.Goals as goal

pub new-requires-clause-least : goal.new-requires-clause-least
new-requires-clause-least c =
    let is : IsValue c.value.new.store c.args.layout.now (exp c.args.expr.now) c.in_ok-digits.digits = subst (λ es. IsValue c.value.new.store es (exp c.args.expr.now) c.in_ok-digits.digits) c.items.ensures.items c.in_ok-digits.ensures.value in
    subst (λ n. 1 ≤ n) (sym is.digits) (bits_within (scope_in c.args.layout.now) c.items.ensures.laid.scope (exp c.args.expr.now) c.requires.typed).0
