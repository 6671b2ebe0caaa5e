use Rattle.std.proofs.Common.{ap, sym, ◌∙◌, inl}
use Rattle.occ_parse_rules.specs.Forest.{forest, in_nodes}
use Rattle.occ_parse.specs.Drafts.{header_params, header_below, draft_fault}
use Rattle.occ_parse.specs.Reading.{too_long, in_draft}
use Rattle.occ_parse_rules.proofs.from_lex.Interned.{extends_same}
use Rattle.occ_parse.proofs.Knowing.{name_known, params_known, lines_known}
use Rattle.occ_parse.proofs.Checked.{typed_from}
use Rattle.occ_parse.proofs.Declared.{known_of}
use Rattle.occ_parse.proofs.Forests.{read_from}
use Rattle.occ_parse.proofs.reading.parse.Goals as goal

pub returns-then-is_too_long-clause-refused : goal.returns-then-is_too_long-clause-refused
returns-then-is_too_long-clause-refused c = inl (too_long (sym c.is_too_long.ensures ∙ c.if-is_too_long.true))

pub returns-in-Some-clause-refused : goal.returns-in-Some-clause-refused
returns-in-Some-clause-refused c =
    inl (in_draft (forest (in_nodes c.in_ok-nodes.nodes)) c.in-Some.fault c.in_ok-nodes.ensures.found
    (ap (λ nodes. draft_fault c.args.bound (forest nodes)) (sym c.items.ensures) ∙ sym c.in_ok-fault.ensures ∙ c.in-Some.is))

pub unroll-requires-clause-params : goal.unroll-requires-clause-params
unroll-requires-clause-params c =
    params_known c.args.bound c.args.text.now c.args.names.now c.laid_out.new.names (forest (in_nodes c.in_ok-nodes.nodes)) c.in_ok-nodes.ensures.found c.in_ok-nodes.ensures.table
    c.header_of-header.result.params.now (c.header_of-header.ensures.params ∙ ap (λ nodes. header_params (forest nodes)) c.items-2.ensures)

pub unroll-requires-clause-lines : goal.unroll-requires-clause-lines
unroll-requires-clause-lines c =
    lines_known c.args.bound c.args.text.now c.args.names.now c.laid_out.new.names (forest (in_nodes c.in_ok-nodes.nodes)) c.in_ok-nodes.ensures.found c.in_ok-nodes.ensures.table
    (forest c.header_of-header.result.below.now) (c.header_of-header.ensures.below ∙ ap (λ nodes. header_below (forest nodes)) c.items-2.ensures)

pub returns-clause-found : goal.returns-clause-found
returns-clause-found c =
    let new = c.unroll.new.names in
    read_from c.args.bound c.args.text.now c.args.names.now c.laid_out.new.names new (forest (in_nodes c.in_ok-nodes.nodes)) (forest c.items.result.now) (forest c.items-2.result.now) c.in_ok-fault.field-0
    c.header_of-header.result.params.now (forest c.header_of-header.result.below.now) _ _ _ _ c.in_ok-nodes.ensures.found c.in_ok-nodes.ensures.table
    (ap (λ nodes. forest nodes) c.items.ensures) c.in_ok-fault.ensures c.in_default.is
    (ap (λ nodes. forest nodes) c.items-2.ensures) c.header_of-header.ensures.name c.header_of-header.ensures.params c.header_of-header.ensures.below
    c.in_ok-unrolled.ensures.table (c.in_ok-unrolled.ensures.params new (extends_same new)) (c.in_ok-unrolled.ensures.body new (extends_same new)) c.in_ok-unrolled.ensures.lines

pub text-requires : goal.text-requires
text-requires c =
    name_known c.args.bound c.args.text.now c.args.names.now c.laid_out.new.names (forest (in_nodes c.in_ok-nodes.nodes)) c.in_ok-nodes.ensures.found c.in_ok-nodes.ensures.table
    (forest c.items-2.result.now) c.header_of-header.result.name (ap (λ nodes. forest nodes) c.items-2.ensures) c.header_of-header.ensures.name

pub returns-clause-typed : goal.returns-clause-typed
returns-clause-typed c = λ limited.
    typed_from c.args.bound c.args.text.now c.args.names.now c.laid_out.new.names c.unroll.new.names (forest (in_nodes c.in_ok-nodes.nodes)) (forest c.items.result.now) (forest c.items-2.result.now)
    c.in_ok-fault.field-0 c.header_of-header.result.params.now (forest c.header_of-header.result.below.now) _ c.in_ok-nodes.ensures.found c.in_ok-nodes.ensures.table c.text.ensures.distinct
    (ap (λ nodes. forest nodes) c.items.ensures) c.in_ok-fault.ensures c.in_default.is
    (ap (λ nodes. forest nodes) c.items-2.ensures) c.header_of-header.ensures.params c.header_of-header.ensures.below
    c.in_ok-unrolled.ensures.table limited c.in_ok-unrolled.ensures.params c.in_ok-unrolled.ensures.body

pub returns-clause-known : goal.returns-clause-known
returns-clause-known c =
    known_of c.args.bound c.args.text.now c.args.names.now c.laid_out.new.names c.unroll.new.names (forest (in_nodes c.in_ok-nodes.nodes)) (forest c.items-2.result.now)
    c.header_of-header.result.params.now (forest c.header_of-header.result.below.now) _ c.in_ok-nodes.ensures.found c.in_ok-nodes.ensures.table
    (ap (λ nodes. forest nodes) c.items-2.ensures) c.header_of-header.ensures.params c.header_of-header.ensures.below
    c.in_ok-unrolled.ensures.table c.in_ok-unrolled.ensures.params c.in_ok-unrolled.ensures.body
