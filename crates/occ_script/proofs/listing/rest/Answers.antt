use Rattle.std.proofs.lemmas.Result.{err_from_is_err_and}
use Rattle.occ_script_lines.proofs.from_lex.Interned.{extends_trans}
use Rattle.occ_script.proofs.Listed.{all_orders, bad_order, next_order}
use Rattle.occ_script.proofs.listing.rest.Goals as goal
use Rattle.occ_script_lines.specs.Left.{left}
use Rattle.occ_script_lines.specs.Sections.{section}

pub returns-in_err-order-clause-refused : goal.returns-in_err-order-clause-refused
returns-in_err-order-clause-refused c =
    let p = err_from_is_err_and c.from_residual.result c.from_residual.ensures.1 in
    rw (p.1, p.2) (bad_order c.args.names.now c.loop-section.names (left c.args.sections) (left c.loop-section.sections) (left c.next.new.self) (section c.in-Some.section) c.loop-section.orders c.in_err-order.field-0.0
    c.loop-section.invariant.behind c.in-Some.ensures c.in_err-order.ensures.refused)

pub loop-section-preserved : goal.loop-section-preserved
loop-section-preserved c = record {
  behind = next_order c.args.names.now c.loop-section.names c.order.new.names (left c.args.sections) (left c.loop-section.sections) (left c.next.new.self) (section c.in-Some.section) c.loop-section.orders c.push.new.self
      c.in_ok-order.field-0 c.loop-section.invariant.behind c.in-Some.ensures c.in_ok-order.ensures.found c.in_ok-push.ensures.ok;
  extends = extends_trans c.args.names.now c.loop-section.names c.order.new.names c.loop-section.invariant.extends c.order.ensures.extends;
}

pub returns-clause-found : goal.returns-clause-found
returns-clause-found c = all_orders c.args.names.now c.loop-section.names (left c.args.sections) (left c.loop-section.sections) c.loop-section.orders c.loop-section.invariant.behind c.in_default.ensures
