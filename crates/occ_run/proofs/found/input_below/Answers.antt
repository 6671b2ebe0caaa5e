use Rattle.std.proofs.Common.{[], ◌+◌, ◌∷◌, ◌++◌, ap, ◌∙◌, arith}
use Rattle.occ_run.specs.Effects.{changes_of, leaf, next_left}
use Rattle.occ_run.proofs.Processes.{input_here, inputs_past}
use Rattle.occ_run.proofs.found.input_below.Goals as goal

pub returns-then-number-count : goal.returns-then-number-count
returns-then-number-count c =
    inputs_past c.args.wanted.hidden.now c.args.wanted.only c.args.names.0 c.args.names.1.0 (leaf (next_left c.args.next)) c.args.size c.values_asked-first.result.0 c.values_asked-first.result.1 c.args.wanted.number
    (c.values_asked-first.ensures.whole c.args.names.1.0 (leaf (next_left c.args.next))) c.if-number-count.true

pub returns : goal.returns
returns c =
    input_here c.args.wanted.hidden.now c.args.wanted.only c.args.names.0 c.args.names.1.0 (leaf (next_left c.args.next)) c.args.size c.values_asked-first.result.0 c.values_asked-first.result.1 c.args.wanted.number
    (c.values_asked-first.ensures.whole c.args.names.1.0 (leaf (next_left c.args.next))) (omega (arith, c.if-number-count.false)) (changes_of c.push.new.self.items)
    (ap changes_of (c.in_ok-push.ensures.items ∙ ap (λ xs. xs ++ (c.args.names.1, c.values_asked-first.result.0 + c.args.wanted.number) ∷ []) c.new-changes.ensures.items)) c.one_found.result c.one_found.ensures
