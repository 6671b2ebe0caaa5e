use Rattle.std.proofs.Common.{List, ◌∙◌, rules}
use Rattle.std.proofs.lemmas.Fn.{always_returns_same}
use Rattle.std.specs.Cmp.Lexicographic.{slice_cmp}
use Rattle.occ_syntax.specs.occ_base.declared.event.Event.{Event}
use Rattle.occ_node.specs.occ_accept.Order.{event_cmp}
use Rattle.occ_node.proofs.from_accept.Events.{sets_total}
use Rattle.occ_node.proofs.from_accept.Search.{searched}
use Rattle.occ_compare.proofs.sets.is_among.Goals as goal

pub returns : goal.returns
returns c = c.is_ok.ensures.value ∙ searched sets_total (λ (s : List Event). s) c.args.sets.now c.args.set.now c.binary_search_by.result c.binary_search_by.ensures.bound
    (c.binary_search_by.ensures.position (λ (s : List Event). slice_cmp event_cmp s c.args.set.now) (always_returns_same _ _ _ (λ a r f' k. (search rules, search rules)))) c.requires
