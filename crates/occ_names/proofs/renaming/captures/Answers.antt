use Rattle.std.proofs.Common.{◌+◌, ◌||◌, drop, ap, sym, ◌∙◌}
use Rattle.std.specs.List.{list_any}
use Rattle.std.proofs.lemmas.List.{at_drop_more, at_drop_all}
use Rattle.occ_syntax.specs.View.{tree}
use Rattle.occ_names.specs.declared.mention.Mention.TheVariants.{Read}
use Rattle.occ_names.specs.Captures.{is_captured}
use Rattle.occ_names.specs.Mentions.{called}
use Rattle.occ_names.proofs.Members.{captures_is}
use Rattle.occ_names.proofs.renaming.captures.Goals as goal

pub loop-mention-preserved : goal.loop-mention-preserved
loop-mention-preserved c =
    let test = is_captured c.args.old.0 c.args.new.0 in
    let e = at_drop_more (list_any test) _ _ (Read (called 0)) c.loop-mention-test.true in
    let f = ap (λ b. b || list_any test (drop (c.loop-mention.mention-index + 1) c.items-mention-items.result.now)) (sym c.is_capture.ensures ∙ c.if-is_capture.false) in
    sym (e ∙ f) ∙ c.loop-mention.invariant

pub returns-then-is_capture : goal.returns-then-is_capture
returns-then-is_capture c =
    let test = is_captured c.args.old.0 c.args.new.0 in
    let e = at_drop_more (list_any test) _ _ (Read (called 0)) c.loop-mention-test.true in
    let f = ap (λ b. b || list_any test (drop (c.loop-mention.mention-index + 1) c.items-mention-items.result.now)) (sym c.is_capture.ensures ∙ c.if-is_capture.true) in
    sym (e ∙ f) ∙ c.loop-mention.invariant ∙ ap (list_any test) (c.items-mention-items.ensures ∙ c.in_ok-mentions.ensures) ∙ captures_is (tree c.args.part.now) c.args.old.0 c.args.new.0

pub returns : goal.returns
returns c =
    let test = is_captured c.args.old.0 c.args.new.0 in
    sym (at_drop_all (list_any test) _ _ c.loop-mention-test.false) ∙ c.loop-mention.invariant ∙ ap (list_any test) (c.items-mention-items.ensures ∙ c.in_ok-mentions.ensures) ∙ captures_is (tree c.args.part.now) c.args.old.0 c.args.new.0
