use Rattle.std.proofs.Common.{◌≡◌, drop}
use Rattle.std.specs.List.{list_any}
use Rattle.occ_parse_forms.specs.Shape.{all_said}
use Rattle.occ_parse_rules.specs.Names.{items_in_all}
use Rattle.occ_parse_scopes.specs.Checking.{fails}
use Rattle.occ_parse_scopes.proofs.uses.Check.fails_in_some.Given as goal

-- what the expressions that are left say is what all of them say
abbrev pub invariant-loop-phrase : goal.invariant-loop-phrase
invariant-loop-phrase l = list_any (fails l.self l.scopes) (items_in_all (all_said (drop l.phrase-index l.phrases))) ≡ list_any (fails l.self l.scopes) (items_in_all (all_said l.phrases))
