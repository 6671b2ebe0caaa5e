use Rattle.std.proofs.lemmas.Slice.Zip.{zip_turn}
use Rattle.occ_syntax.specs.View.{exp}
use Rattle.occ_syntax.proofs.Rows.{alike_at, refuted_by}
use Rattle.occ_syntax.proofs.same.same_exprs.Goals as goal

pub returns-then-not-same_expr : goal.returns-then-not-same_expr
returns-then-not-same_expr c =
    let z = zip_turn c.args.left.now c.args.right.now c.loop-expr.yielded c.into_iter-expr-iterator.result c.loop-expr.expr-iterator c.next.new.self c.next.result (cc) (cc) c.loop-expr.yielded_by (c.in-Some.expr, c.in-Some.other) c.in-Some.is c.next.ensures.steps in
    refuted_by (alike_at exp _ _ _ _ _ z.0 z.1 (z.2 _) (z.3 _)) c.if-not-same_expr.ensures
