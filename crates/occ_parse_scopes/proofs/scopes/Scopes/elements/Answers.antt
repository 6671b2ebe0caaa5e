use Rattle.std.proofs.Common.{ap, ◌∙◌, arith, get_or, replicate, false, Some, is_some}
use Rattle.occ_parse_rules.specs.Places.{sort_at}
use Rattle.occ_parse_scopes.proofs.Walk.{starts, marked_start, marked_steps, marked_all, older_falls, none_marked}
use Rattle.occ_parse_scopes.proofs.scopes.Scopes.elements.Goals as goal

pub loop-k-init : goal.loop-k-init
loop-k-init c =
    let chain = c.self.inside.chain.items in
    let h = starts chain c.args.name.0 c.newest_of-k.result (c.newest_of-k.ensures ∙ ap (λ xs. get_or xs c.args.name.0 0) c.deref.ensures.value ∙ c.self.invariant.1 c.args.name.0) in
    (h.at, marked_start chain c.args.name.0 c.newest_of-k.result (replicate 256 false) h (λ j b. none_marked 256 j b))

pub loop-k-smaller : goal.loop-k-smaller
loop-k-smaller c = older_falls c.self.inside.chain.items c.args.name.0 c.loop-k.k c.index-linked.result.now (omega arith) c.self.invariant.0 c.index-linked.ensures c.loop-k.invariant.0

pub loop-k-preserved : goal.loop-k-preserved
loop-k-preserved c = marked_steps c.self.inside.chain.items c.args.name.0 c.loop-k.k c.index-linked.result.now c.loop-k.table c.mark.new.table (omega arith) c.self.invariant.0 c.index-linked.ensures c.mark.ensures c.loop-k.invariant.0 c.loop-k.invariant.1

pub returns : goal.returns
returns c = λ j h. marked_all c.self.inside.chain.items c.args.name.0 c.loop-k.k c.loop-k.table (omega arith) c.loop-k.invariant.1 j h ∙ ap (λ q. is_some (sort_at q c.args.name.0 (Some j))) c.self.view_is
