use Rattle.std.proofs.Common.{ap, ◌∙◌, sym, arith, get_or}
use Rattle.occ_parse_rules.specs.Places.{declares_some}
use Rattle.occ_parse_scopes.proofs.Walk.{starts, test_steps, older_falls, declares_some_off}
use Rattle.occ_parse_scopes.proofs.scopes.Scopes.has_elements.Goals as goal

pub loop-k-init : goal.loop-k-init
loop-k-init c =
    let h = starts c.self.inside.chain.items c.args.name.0 c.newest_of-k.result (c.newest_of-k.ensures ∙ ap (λ xs. get_or xs c.args.name.0 0) c.deref.ensures.value ∙ c.self.invariant.1 c.args.name.0) in
    (h.at, h.tests (λ d. declares_some d c.args.name.0) (λ d off. declares_some_off d c.args.name.0 off))

pub loop-k-smaller : goal.loop-k-smaller
loop-k-smaller c = older_falls c.self.inside.chain.items c.args.name.0 c.loop-k.k c.index-linked.result.now (omega arith) c.self.invariant.0 c.index-linked.ensures c.loop-k.invariant.0

pub loop-k-preserved : goal.loop-k-preserved
loop-k-preserved c = test_steps c.self.inside.chain.items c.args.name.0 c.loop-k.k (λ d. declares_some d c.args.name.0) c.index-linked.result.now (λ d off. declares_some_off d c.args.name.0 off) (omega arith) c.self.invariant.0 c.index-linked.ensures (sym c.declares_some.ensures ∙ c.if-declares_some.false) c.loop-k.invariant
