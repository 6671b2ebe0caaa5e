use Rattle.std.proofs.Common.{length, ◌++◌, ap, sym, ◌∙◌}
use Rattle.std.proofs.lemmas.List.{append-nil, drop_all}
use Rattle.occ_parse_forms.proofs.from_lex.Interned.{extends_trans, longer}
use Rattle.occ_parse_unroll.specs.Known.{IsKnownParam}
use Rattle.occ_parse_unroll.specs.Numbers.{number_in}
use Rattle.occ_parse_unroll.proofs.Declaring.{one_param, one_param_scope}
use Rattle.occ_parse_unroll.proofs.Known.{all_at_or, declared_known}
use Rattle.occ_parse_forms.specs.declared.form.Param.{Param}
use Rattle.occ_parse_rules.specs.Places.{places}
use Rattle.occ_parse_rules.specs.Unrolled.{params_named}
use Rattle.occ_parse_unroll.specs.Elements.{with_element}
use Rattle.occ_parse_unroll.proofs.Elements.{one_more}
use Rattle.occ_parse_unroll.proofs.program.declare_params.Goals as goal

pub name_places-requires : goal.name_places-requires
name_places-requires c =
    λ n. declared_known _ _ _ (longer _ _ c.loop-param.invariant.grown)
    (all_at_or (IsKnownParam (length c.args.names.now)) c.args.params.now c.loop-param.param-index _ c.requires c.loop-param-test.true)

pub loop-param-preserved : goal.loop-param-preserved
loop-param-preserved c = record {
  scopes = one_param_scope _ _ _ _ _ _ c.loop-param-test.true c.sort_of.ensures c.in_ok-declare.ensures.ok ∙ c.loop-param.invariant.scopes;
  values = c.loop-param.invariant.values;
  names = λ t f. one_param (number_in t) _ _ _ _ _ c.loop-param-test.true (c.in_ok-name_places.ensures.waiting t f)
      ∙ c.loop-param.invariant.names t (extends_trans _ _ _ c.in_ok-name_places.ensures.extends f);
  table = one_more with_element (λ (p : Param). places p.declared) c.args.params.now _ _ _ _ c.loop-param-test.true c.in_ok-name_places.ensures.table ∙ c.loop-param.invariant.table;
  grown = extends_trans _ _ _ c.loop-param.invariant.grown c.in_ok-name_places.ensures.extends;
}

pub returns-clause-params : goal.returns-clause-params
returns-clause-params c = λ t f.
    let scope = c.loop-param.scope in
    sym (append-nil scope)
    ∙ sym (ap (λ ps. scope ++ params_named (number_in t) ps) (drop_all c.loop-param.param-index c.args.params.now c.loop-param-test.false))
    ∙ c.loop-param.invariant.names t f
