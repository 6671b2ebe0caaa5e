use Rattle.occ_derive_search.proofs.Lists.{alt_more}
use Rattle.occ_syntax.specs.View.{tree}
use Rattle.occ_derive_search.proofs.longer.with_alternative.Goals as goal

pub returns-in_ok-push-in-Alt : goal.returns-in_ok-push-in-Alt
returns-in_ok-push-in-Alt c =
    λ next h. alt_more c.in-Alt.alternatives c.push.new.self c.args.guard c.args.part (tree c.args.whole) next c.in-Alt.ensures c.in_ok-push-in-Alt.ensures.ok h
