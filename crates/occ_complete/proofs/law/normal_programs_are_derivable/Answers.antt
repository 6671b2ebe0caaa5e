use Rattle.occ_engine.specs.occ_syntax.View.{tree}
use Rattle.occ_complete_states.specs.occ_target.Program.{normal_body}
use Rattle.occ_complete.proofs.law.normal_programs_are_derivable.Goals as goal

pub returns : goal.returns
returns c = λ program t accepted params normal stands.
    let leads = c.derivations_exist.ensures program t accepted params normal stands in
    let end = normal_body t.names t.params t.rows t.states in
    record { moves = leads.moves; steps = c.rows_make_steps.ensures program.params (tree program.body) end leads.moves accepted.typed.scope accepted.keeps leads.row }
