use Rattle.std.proofs.Common.{ap, sym, subst, take, ◌<◌, ◌≤◌, length, ◌∙◌}
use Rattle.std.specs.Prelude.{IfOk}
use Rattle.occ_lex.specs.Spelling.{kind_of}
use Rattle.occ_lex.specs.Tokens.{first_token, judged}
use Rattle.occ_lex.proofs.TokenLemmas.{judged_within}
use Rattle.occ_lex.proofs.scan.first_token.Goals as goal

pub returns-clause-token : goal.returns-clause-token
unfolding first_token
returns-clause-token c = c.judged.ensures ∙ ap (λ n. judged (kind_of (take n c.args.bytes.now)) (take n c.args.bytes.now)) c.token_len.ensures.longest

pub returns-clause-within : goal.returns-clause-within
returns-clause-within c = subst (λ r. IfOk r (λ token. (0 < token.1) × (token.1 ≤ length c.args.bytes.now))) (sym c.judged.ensures) (judged_within c.args.bytes.now c.token_len.result c.token_len.ensures.within)
