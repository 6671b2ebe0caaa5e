-- A part put into a program, where it may be.
use Rattle.std.specs.Prelude.{ℕ, ◌≡◌, List, Option, None, Some}
use Rattle.occ_engine.specs.declared.exchange.Exchange.{Exchange}
use Rattle.occ_replay_rules.specs.Moves.{IsAdmitted}
use Rattle.occ_script_write.specs.occ_meaning.Context.{part_at}
use Rattle.occ_script_write.specs.occ_script_lines.Places.{IsPutIn}
use Rattle.occ_syntax.specs.declared.scope.Program.{Program}
use Rattle.occ_syntax.specs.Tree.{Tree}
use Rattle.occ_syntax.specs.View.{tree}

-- The part may be put in, and is.
pub record IsIn (program : Program) (path : List ℕ) (new : Tree) (exchange : Exchange) : Type 0 where
  pub admitted : IsAdmitted program.params (tree program.body) path new
  pub whole : IsPutIn program path new exchange.whole
  pub old : part_at path (tree program.body) ≡ Some (tree exchange.old)
  pub new_is : tree exchange.new ≡ new

-- it is; or it may not be put in
abbrev pub IsExchange : Program → List ℕ → Tree → Option Exchange → Type 0
IsExchange program path new None = IsAdmitted program.params (tree program.body) path new → ⊥
IsExchange program path new (Some exchange) = IsIn program path new exchange
