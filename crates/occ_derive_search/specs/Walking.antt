-- One step of a derivation: a part put in, and where the step leads.
use Rattle.std.specs.Prelude.{◌≡◌, Option, None, Some}
use Rattle.occ_derive_search.specs.declared.exchange.Exchange.{Exchange}
use Rattle.occ_derive_search.specs.declared.walk.Walk.{Walk}
use Rattle.occ_derive_moves.specs.Steps.{IsStep}
use Rattle.occ_derive_moves.specs.occ_replay_rules.Moves.{Move}
use Rattle.occ_derive_moves.specs.occ_meaning.Context.{part_at, put}
use Rattle.occ_derive_moves.specs.occ_script_lines.Places.{IsPutIn}
use Rattle.occ_engine.specs.occ_script_write.declared.writing.Done.{Done}
use Rattle.occ_syntax.specs.declared.scope.Program.{Program}
use Rattle.occ_syntax.specs.Scopes.{environment}
use Rattle.occ_syntax.specs.Usage.{Keeps}
use Rattle.occ_syntax.specs.View.{tree}
use Rattle.occ_engine.specs.occ_usage.Accepted.{KeepsRules}

-- The part of the step is put in, and the whole keeps all rules.
pub record IsIn (program : Program) (step : Done) (exchange : Exchange) : Type 0 where
  pub whole : IsPutIn program step.path (tree step.part) exchange.whole
  pub old : part_at step.path (tree program.body) ≡ Some (tree exchange.old)
  pub kept : KeepsRules exchange.whole

-- it is; or the whole would break a rule
abbrev pub IsExchange : Program → Done → Option Exchange → Type 0
IsExchange program step None = Keeps (environment program.params) (put step.path (tree program.body) (tree step.part)) → ⊥
IsExchange program step (Some exchange) = IsIn program step exchange

-- a step leads on, or it isn't one
abbrev pub IsNext : Program → Move → Option Walk → Type 0
IsNext here move (Some walk) = IsStep here.params (tree here.body) move × IsPutIn here move.path move.part walk.here
IsNext here move None = IsStep here.params (tree here.body) move → ⊥
