use Rattle.std.proofs.Common.{ap, ◌∙◌, sym, arith, get_or}
use Rattle.occ_parse_scopes.proofs.Walk.{starts, sort_steps, older_falls}
use Rattle.occ_parse_scopes.proofs.scopes.Scopes.sort.Goals as goal

pub loop-k-init : goal.loop-k-init
loop-k-init c =
    let h = starts c.self.inside.chain.items c.args.name.0 c.newest_of-k.result (c.newest_of-k.ensures ∙ ap (λ xs. get_or xs c.args.name.0 0) c.deref.ensures.value ∙ c.self.invariant.1 c.args.name.0) in
    (h.at, h.sorts c.args.element)

pub loop-k-smaller : goal.loop-k-smaller
loop-k-smaller c = older_falls c.self.inside.chain.items c.args.name.0 c.loop-k.k c.index-linked.result.now (omega arith) c.self.invariant.0 c.index-linked.ensures c.loop-k.invariant.0

pub loop-k-preserved : goal.loop-k-preserved
loop-k-preserved c = sort_steps c.self.inside.chain.items c.args.name.0 c.loop-k.k c.args.element c.index-linked.result.now (omega arith) c.self.invariant.0 c.index-linked.ensures (sym c.declares.ensures ∙ c.if-declares.false) c.loop-k.invariant
