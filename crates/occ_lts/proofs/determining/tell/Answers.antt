use Rattle.std.proofs.Common.{◌<◌, Some, None, length, refl, subst}
use Rattle.std.proofs.lemmas.List.Elements.{All-from_recursion}
use Rattle.occ_syntax.specs.occ_base.declared.names.Name.{Name}
use Rattle.occ_syntax.specs.declared.scope.Kind.{Kind}
use Rattle.occ_traces.specs.Choices.{IsAnswer, UndeterminedIsNamed}
use Rattle.occ_tool_run.specs.Stored.{seen}
use Rattle.occ_lts.proofs.determining.tell.Goals as goal

pub found_text-requires : goal.found_text-requires
found_text-requires c =
    let ps = c.args.accepted.now.program.params in
    let names = c.args.names.now in
    subst (UndeterminedIsNamed ps) c.in-Some.is c.in_ok-found.ensures.named names
    (All-from_recursion (λ (entry : Name × Kind). entry.0.0 < length names) ps c.requires.interface.named)

pub returns-in_default-clause-told : goal.returns-in_default-clause-told
returns-in_default-clause-told c = record {
  found = None;
  is = subst (IsAnswer (seen c.args.accepted.now.program).params (seen c.args.accepted.now.program).body) c.in_default.is c.in_ok-found.ensures.answer;
  status_is = refl;
  text_is = c.in_ok-plain.ensures.items;
}

pub returns-clause-told : goal.returns-clause-told
returns-clause-told c = record {
  found = Some c.in-Some.found;
  is = subst (IsAnswer (seen c.args.accepted.now.program).params (seen c.args.accepted.now.program).body) c.in-Some.is c.in_ok-found.ensures.answer;
  status_is = refl;
  text_is = c.in_ok-text.ensures;
}
