use Rattle.std.proofs.Common.{length, ap, arith}
use Rattle.occ_nform_table.specs.occ_lex.Rows.{rows}
use Rattle.occ_nform_read.proofs.WholeText.{header_count, body_few, body_marks, body_forms, tail_left, tail_below}
use Rattle.occ_nform_read.proofs.text.behind_version.Goals as goal

pub rows_in-requires-clause-short : goal.rows_in-requires-clause-short
rows_in-requires-clause-short c =
    omega (arith, c.requires.short, c.requires.behind, header_count c.args.names.now c.params_in.new.names c.in_ok-params.params (rows c.args.lines.now) (rows c.in_ok-params.rest.now) c.in_ok-params.ensures.header)

pub states_in-requires-clause-number : goal.states_in-requires-clause-number
states_in-requires-clause-number c =
    omega (
      arith,
      c.requires.short,
      c.requires.behind,
      ap length c.items-2.ensures,
      header_count c.args.names.now c.params_in.new.names c.in_ok-params.params (rows c.args.lines.now) (rows c.in_ok-params.rest.now) c.in_ok-params.ensures.header,
      body_few c.params_in.new.names c.in_ok-params.params c.items.result.now (rows c.in_ok-params.rest.now) (rows c.in_ok-found.rest.now) c.in_ok-found.found c.items.ensures c.in_ok-found.ensures,
    )

pub line_at-line-requires-clause-rest : goal.line_at-line-requires-clause-rest
line_at-line-requires-clause-rest c =
    omega (
      arith,
      c.requires.short,
      c.requires.behind,
      header_count c.args.names.now c.params_in.new.names c.in_ok-params.params (rows c.args.lines.now) (rows c.in_ok-params.rest.now) c.in_ok-params.ensures.header,
      body_few c.params_in.new.names c.in_ok-params.params c.items.result.now (rows c.in_ok-params.rest.now) (rows c.in_ok-found.rest.now) c.in_ok-found.found c.items.ensures c.in_ok-found.ensures,
      tail_left c.in_ok-params.params c.items-3.result.now c.in_ok-found.found c.items-2.result.now (rows c.in_ok-found.rest.now) (rows c.in_ok-states.rest.now) c.in_ok-states.states c.items-3.ensures c.items-2.ensures c.in_ok-states.ensures,
    )

pub judged-requires-clause-rows : goal.judged-requires-clause-rows
judged-requires-clause-rows c = body_forms c.params_in.new.names c.in_ok-params.params c.items.result.now (rows c.in_ok-params.rest.now) (rows c.in_ok-found.rest.now) c.in_ok-found.found c.items.ensures c.in_ok-found.ensures c.in_ok-params.ensures.apart

pub judged-requires-clause-lines : goal.judged-requires-clause-lines
judged-requires-clause-lines c =
    omega (
      arith,
      c.requires.short,
      c.requires.behind,
      header_count c.args.names.now c.params_in.new.names c.in_ok-params.params (rows c.args.lines.now) (rows c.in_ok-params.rest.now) c.in_ok-params.ensures.header,
      body_marks c.params_in.new.names c.in_ok-params.params c.items.result.now (rows c.in_ok-params.rest.now) (rows c.in_ok-found.rest.now) c.in_ok-found.found c.items.ensures c.in_ok-found.ensures,
    )

pub judged-requires-clause-states : goal.judged-requires-clause-states
judged-requires-clause-states c =
    tail_below c.in_ok-params.params c.items-3.result.now c.in_ok-found.found c.items-2.result.now (rows c.in_ok-found.rest.now) (rows c.in_ok-states.rest.now) c.in_ok-states.states c.items-3.ensures c.items-2.ensures c.in_ok-states.ensures
