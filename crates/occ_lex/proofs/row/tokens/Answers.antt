use Rattle.std.proofs.Common.{ap, sym, ◌∙◌, ◌≡◌, ◌+◌, ◌-◌, length, drop, Ok, Err, arith}
use Rattle.std.proofs.lemmas.List.{take_rest, length-drop, length-take-le}
use Rattle.std.proofs.lemmas.Result.{err_from_is_err_and}
use Rattle.occ_lex.specs.Tokens.{tokens, first_token}
use Rattle.occ_lex.proofs.TokenLemmas.{with_front, space_turn, token_turn, fault_turn, tokens_end, tokens_start}
use Rattle.occ_lex.proofs.row.tokens.Goals as goal

pub loop-at-init : goal.loop-at-init
loop-at-init c = record { within = omega arith; so_far = ap (λ found. with_front found (tokens (c.args.first + 0) 0 c.args.code.now)) c.new-found.ensures ∙ tokens_start c.args.first c.args.code.now }

pub loop-at-preserved-then-code-at-eq32 : goal.loop-at-preserved-then-code-at-eq32
loop-at-preserved-then-code-at-eq32 c = record {
  within = omega arith;
  so_far = space_turn c.loop-at.found c.args.first c.loop-at.at c.args.code.now (tokens c.args.first 0 c.args.code.now) (omega arith) c.if-code-at-eq32.true c.loop-at.invariant.so_far;
}

pub returns-in_err-kind : goal.returns-in_err-kind
returns-in_err-kind c =
    let p = err_from_is_err_and c.from_residual.result c.from_residual.ensures.1 in
    let at_rest : first_token (drop c.loop-at.at c.args.code.now) ≡ Err c.in_err-kind.field-0.0 = ap first_token (sym (take_rest c.args.code.now c.loop-at.at)) ∙ sym c.in_err-kind.ensures.token in
    rw (p.1, p.2) (fault_turn c.loop-at.found c.args.first c.loop-at.at c.args.code.now (tokens c.args.first 0 c.args.code.now) c.in_err-kind.field-0.0 (omega arith) c.if-code-at-eq32.false at_rest c.loop-at.invariant.so_far)

pub loop-at-preserved : goal.loop-at-preserved
loop-at-preserved c =
    let at_rest : first_token (drop c.loop-at.at c.args.code.now) ≡ Ok (c.in_ok-kind.kind, c.in_ok-kind.len) = ap first_token (sym (take_rest c.args.code.now c.loop-at.at)) ∙ sym c.in_ok-kind.ensures.token in
    record {
      within = omega (arith, c.in_ok-kind.ensures.within.1, length-take-le (length c.args.code.now - c.loop-at.at) (drop c.loop-at.at c.args.code.now) (omega (arith, length-drop c.loop-at.at c.args.code.now)), length-drop c.loop-at.at c.args.code.now);
      so_far = ap (λ found. with_front found (tokens (c.args.first + (c.loop-at.at + c.in_ok-kind.len)) 0 (drop (c.loop-at.at + c.in_ok-kind.len) c.args.code.now))) c.in_ok-push.ensures.ok ∙ token_turn c.loop-at.found c.args.first c.loop-at.at c.args.code.now (tokens c.args.first 0 c.args.code.now) c.in_ok-kind.kind c.in_ok-kind.len (omega arith) c.if-code-at-eq32.false at_rest c.in_ok-kind.ensures.within.0 c.loop-at.invariant.so_far;
    }

pub returns : goal.returns
returns c = tokens_end c.loop-at.found c.args.first c.loop-at.at c.args.code.now (tokens c.args.first 0 c.args.code.now) (omega arith) c.loop-at.invariant.so_far
