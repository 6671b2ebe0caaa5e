use Rattle.std.proofs.Common.{sym, ◌∙◌}
use Rattle.occ_run.specs.Effects.{behind, next_left}
use Rattle.occ_run.specs.Places.{names_at}
use Rattle.occ_syntax.specs.Scopes.{channel_width}
use Rattle.occ_run.proofs.Interfaces.{wide_channel}
use Rattle.occ_run.proofs.Processes.{inputs_found}
use Rattle.occ_run.proofs.found.input_found.Goals as goal

pub size_of-requires : goal.size_of-requires
size_of-requires c = wide_channel c.args.place.now.scope.items c.args.names.0.0 c.in-Some.width c.args.place.now.kept (sym c.width.ensures ∙ c.in-Some.is)

pub returns-in-Some : goal.returns-in-Some
returns-in-Some c =
    inputs_found c.args.wanted.hidden.now c.args.wanted.only c.args.names.0 c.args.names.1.0 (channel_width (names_at c.args.place.now) c.args.names.0.0) c.in-Some.width c.size_of.result c.args.wanted.number
    (behind c.args.part) (next_left c.behind.result) c.input_below.result (sym c.width.ensures ∙ c.in-Some.is) c.size_of.ensures.size c.behind.ensures c.input_below.ensures
