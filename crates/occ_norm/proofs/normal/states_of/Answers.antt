use Rattle.std.proofs.Common.{◌≡◌, ◌<◌, ◌^◌, ℕ, sym, ap, ◌∙◌, subst}
use Rattle.std.specs.Int.{bit_at}
use Rattle.occ_syntax.specs.Counts.{bits_of_scope}
use Rattle.occ_syntax.specs.View.{tree}
use Rattle.occ_norm_alt.proofs.from_norm_frame.Worlds.{extends_trans, has_nodes-extends}
use Rattle.occ_norm_alt.proofs.from_norm_frame.Alone.{ending_later, ending_over}
use Rattle.occ_norm.proofs.Rooting.{root_of}
use Rattle.occ_norm.proofs.Steps.{in-extends}
use Rattle.occ_norm.proofs.normal.states_of.Goals as goal

pub after-requires-clause-rest : goal.after-requires-clause-rest
after-requires-clause-rest c =
    let frame = c.in_ok-frame.frame in
    let whole = c.in_ok-whole.whole in
    let same : whole.bits ≡ frame.bits = whole.kept.bits_are ∙ ap bits_of_scope (sym c.in_ok-frame.ensures.vars) ∙ sym frame.kept.bits_are in
    ending_over c.ending.new.world frame.bits whole.keep frame.keep c.in_ok-ended.ended c.in_ok-ended.ensures.nodes c.in_ok-ended.ensures.ending (subst (λ n. whole.keep < 2 ^ n) same whole.inside)

pub returns-clause-root : goal.returns-clause-root
returns-clause-root c =
    let program = c.args.program.now in
    let frame = c.in_ok-frame.frame in
    let whole = c.in_ok-whole.whole in
    let ended = c.in_ok-ended.ended in
    let v = c.ending.new.world in
    let u = c.after.new.world in
    let w = c.rebased.new.world in
    let grow = extends_trans v u w c.after.ensures.extends c.rebased.ensures.extends in
    let there = has_nodes-extends v u c.after.ensures.extends ended c.in_ok-ended.ensures.nodes in
    let same : whole.bits ≡ frame.bits = whole.kept.bits_are ∙ ap bits_of_scope (sym c.in_ok-frame.ensures.vars) ∙ sym frame.kept.bits_are in
    root_of w program.params frame.vars frame.layout frame.bits whole.keep frame.keep frame.closed.items (tree program.body) ended c.in_ok-changes.changes c.in_ok-states.states
    (c.in_ok-frame.ensures.vars ∙ c.in_ok-whole.ensures.vars) c.in_ok-frame.ensures.closed frame.kept
    (subst (λ n. (k : ℕ) → k < n → bit_at whole.keep k ≡ 1) same c.in_ok-whole.ensures.keep) c.requires.rules.keeps.types
    (has_nodes-extends v w grow ended c.in_ok-ended.ensures.nodes)
    (ending_later v w grow ended c.in_ok-ended.ensures.nodes whole.keep frame.keep c.in_ok-ended.ensures.ending)
    (has_nodes-extends u w c.rebased.ensures.extends c.in_ok-changes.changes c.in_ok-changes.ensures.nodes)
    c.in_ok-states.ensures.nodes
    (in-extends u w c.rebased.ensures.extends frame.vars frame.layout frame.keep frame.closed.items (tree program.body) ended c.in_ok-changes.changes there c.in_ok-changes.ensures.nodes c.in_ok-changes.ensures.after)
    c.in_ok-states.ensures.changed
