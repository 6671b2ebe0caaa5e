-- The program's own types under other names.
use Rattle.std.specs.Prelude.{ℕ, List, map}
use Rattle.occ_engine_known.specs.occ_base.declared.names.Name.{Name}
use Rattle.occ_renamed.specs.Scopes.{scope_renamed}
use Rattle.occ_engine_known.specs.occ_script_write.declared.writing.Done.{Done}
use Rattle.occ_engine_known.specs.occ_syntax.declared.expr.Expr.{Expr, Var, Word, Bool as TruthValue, Not', Flip', Two'}
use Rattle.occ_engine_known.specs.occ_syntax.declared.expr.Guard.{Guard}
use Rattle.occ_engine_known.specs.occ_syntax.declared.expr.Wait.{Wait}
use Rattle.occ_engine_known.specs.occ_syntax.declared.expr.Wait.TheVariants.{Skip as Ready, Get, Put}
use Rattle.occ_engine_known.specs.occ_syntax.declared.proc.Proc.{Proc, Skip, Stop, Assign, Input, Output, Seq', Par', If', Alt', Var', Chan', Row_of-Proc, end_of-Proc, more_of-Proc, Row_of-Choices-list-2, end_of-Choices-list-2, more_of-Choices-list-2, Row_of-Alternatives-list-2, end_of-Alternatives-list-2, more_of-Alternatives-list-2}
use Rattle.occ_engine_known.specs.occ_syntax.declared.scope.Program.{Program}

abbrev pub name_renamed : (ℕ → ℕ) → Name → Name
name_renamed f name = record { 0 = f name.0 }

abbrev pub expr_renamed : (ℕ → ℕ) → Expr → Expr
expr_renamed f (Var name) = Var (name_renamed f name)
expr_renamed f (Word bits value) = Word bits value
expr_renamed f (TruthValue b) = TruthValue b
expr_renamed f (Not' p e) = Not' p (expr_renamed f e)
expr_renamed f (Flip' p e) = Flip' p (expr_renamed f e)
expr_renamed f (Two' op p left q right) = Two' op p (expr_renamed f left) q (expr_renamed f right)

abbrev pub wait_renamed : (ℕ → ℕ) → Wait → Wait
wait_renamed f Ready = Ready
wait_renamed f (Get chan var) = Get (name_renamed f chan) (name_renamed f var)
wait_renamed f (Put chan value) = Put (name_renamed f chan) (expr_renamed f value)

abbrev pub guard_renamed : (ℕ → ℕ) → Guard → Guard
guard_renamed f guard = record { condition = expr_renamed f guard.condition; wait = wait_renamed f guard.wait }

-- every occurrence of a name in a process, declarations too
unfoldable mutual
  pub proc_renamed : (ℕ → ℕ) → Proc → Proc
  proc_renamed f Skip = Skip
  proc_renamed f Stop = Stop
  proc_renamed f (Assign vars values) = Assign (map (name_renamed f) vars) (map (expr_renamed f) values)
  proc_renamed f (Input chan var) = Input (name_renamed f chan) (name_renamed f var)
  proc_renamed f (Output chan value) = Output (name_renamed f chan) (expr_renamed f value)
  proc_renamed f (Seq' shape parts) = Seq' shape (row_renamed f parts)
  proc_renamed f (Par' shape parts) = Par' shape (row_renamed f parts)
  proc_renamed f (If' shape choices) = If' shape (choices_renamed f choices)
  proc_renamed f (Alt' shape branches) = Alt' shape (alternatives_renamed f branches)
  proc_renamed f (Var' name width p body) = Var' (name_renamed f name) width p (proc_renamed f body)
  proc_renamed f (Chan' name width p body) = Chan' (name_renamed f name) width p (proc_renamed f body)

  pub row_renamed : {m : _} → (ℕ → ℕ) → Row_of-Proc m → Row_of-Proc m
  row_renamed f end_of-Proc = end_of-Proc
  row_renamed f (more_of-Proc part rest) = more_of-Proc (proc_renamed f part) (row_renamed f rest)

  pub choices_renamed : {m : _} → (ℕ → ℕ) → Row_of-Choices-list-2 m → Row_of-Choices-list-2 m
  choices_renamed f end_of-Choices-list-2 = end_of-Choices-list-2
  choices_renamed f (more_of-Choices-list-2 condition part rest) = more_of-Choices-list-2 (expr_renamed f condition) (proc_renamed f part) (choices_renamed f rest)

  pub alternatives_renamed : {m : _} → (ℕ → ℕ) → Row_of-Alternatives-list-2 m → Row_of-Alternatives-list-2 m
  alternatives_renamed f end_of-Alternatives-list-2 = end_of-Alternatives-list-2
  alternatives_renamed f (more_of-Alternatives-list-2 guard part rest) = more_of-Alternatives-list-2 (guard_renamed f guard) (proc_renamed f part) (alternatives_renamed f rest)

-- a program, and a step that was taken
abbrev pub program_renamed : (ℕ → ℕ) → Program → Program
program_renamed f program = record { name = name_renamed f program.name; params = scope_renamed f program.params; body = proc_renamed f program.body }

abbrev pub done_renamed : (ℕ → ℕ) → Done → Done
done_renamed f done = record { law = done.law; dir = done.dir; path = done.path; part = proc_renamed f done.part }

abbrev pub steps_renamed : (ℕ → ℕ) → List Done → List Done
steps_renamed f steps = map (done_renamed f) steps
