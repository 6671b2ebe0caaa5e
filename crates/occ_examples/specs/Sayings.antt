-- What the examples say of programs.
use Rattle.std.specs.Prelude.{ℕ, ◌≡◌, List}
use Rattle.occ_run_steps.specs.Control.{done}
use Rattle.occ_run_steps.specs.Leads.{Leads, start}
use Rattle.occ_law.specs.occ_syntax.Meaning.{ends}
use Rattle.occ_law.specs.occ_syntax.Scopes.{Trace, Values}
use Rattle.occ_law.specs.occ_syntax.Tree.{Tree}
use Rattle.occ_examples.specs.Programs.{here, x, y}

-- After the trace the program can have ended with these values of x and y.
pub record CanEnd (p : Tree) (s : Values) (t : Trace) (u v : ℕ) : Type 0 where
  pub last : Values
  pub ends : ends here p s t last
  pub of_x : last x ≡ u
  pub of_y : last y ≡ v

-- The steps of these numbers, each taken in turn, show the trace, and then the program is done with these values of x and y.
pub record IsDoneAfter (p : Tree) (s : Values) (numbers : List ℕ) (t : Trace) (u v : ℕ) : Type 0 where
  pub last : Values
  pub leads : Leads here s (start here s p) numbers t last done
  pub of_x : last x ≡ u
  pub of_y : last y ≡ v
