-- A part put into a program, and a step that is taken or isn't.
use Rattle.std.specs.Prelude.{◌≡◌, List, Option, None, Some}
use Rattle.occ_syntax.specs.occ_base.declared.names.Name.{Name}
use Rattle.occ_law_any.specs.occ_meaning.Context.{part_at}
use Rattle.occ_script.specs.occ_parse_part.Parts.{Part}
use Rattle.occ_script.specs.occ_parse_part.Resolving.{part_fault, part_process}
use Rattle.occ_replay.specs.declared.change.Change.{Change}
use Rattle.occ_replay.specs.declared.change.Stopped.{Stopped}
use Rattle.occ_replay.specs.declared.change.Stopped.TheVariants as stopped
use Rattle.occ_replay_rules.specs.Steps.{IsAcceptable, IsGoodStep, Lacks, Step, new_part, new_whole, no_law, no_path, not_accepted, not_instance, scope_there}
use Rattle.occ_syntax.specs.declared.scope.Kind.{Kind}
use Rattle.occ_syntax.specs.declared.scope.Program.{Program}
use Rattle.occ_syntax.specs.Tree.{Tree}
use Rattle.occ_syntax.specs.View.{tree}

-- the process that a part is in a scope, where it has no fault there
pub record IsResolved (S : List (Name × Kind)) (part : Part) (p : Tree) : Type 0 where
  pub faultless : part_fault part S ≡ None
  pub process : p ≡ part_process part S

-- or it has a fault; out of memory says nothing
abbrev pub IsUnresolved : List (Name × Kind) → Part → Stopped → Type 0
IsUnresolved S part stopped.NotAccepted = part_fault part S ≡ None → ⊥
IsUnresolved S part stopped.Memory = Unit {0}
IsUnresolved S part stopped.NoLaw = ⊥
IsUnresolved S part stopped.NoPath = ⊥
IsUnresolved S part stopped.NotInstance = ⊥

-- The part of a step is put into a program, where it may be.
pub record IsChange (program : Program) (step : Step) (change : Change) : Type 0 where
  pub acceptable : IsAcceptable program.params (tree program.body) step
  pub scope : change.scope ≡ scope_there program.params (tree program.body) step
  pub old : part_at step.path (tree program.body) ≡ Some (tree change.old)
  pub name : change.whole.name ≡ program.name
  pub params : change.whole.params ≡ program.params
  pub body : tree change.whole.body ≡ new_whole program.params (tree program.body) step

-- or it may not be
abbrev pub IsRefused : Program → Step → Stopped → Type 0
IsRefused program step stopped.NotAccepted = IsAcceptable program.params (tree program.body) step → ⊥
IsRefused program step stopped.Memory = Unit {0}
IsRefused program step stopped.NoLaw = ⊥
IsRefused program step stopped.NoPath = ⊥
IsRefused program step stopped.NotInstance = ⊥

-- A good step leads from one program to another.
pub record IsTaken (program : Program) (step : Step) (next : Program) : Type 0 where
  pub good : IsGoodStep program.params (tree program.body) step
  pub name : next.name ≡ program.name
  pub params : next.params ≡ program.params
  pub body : tree next.body ≡ new_whole program.params (tree program.body) step

-- or a step lacks what it needs
abbrev pub IsStopped : Program → Step → Stopped → Type 0
IsStopped program step stopped.NoLaw = Lacks program.params (tree program.body) step no_law
IsStopped program step stopped.NoPath = Lacks program.params (tree program.body) step no_path
IsStopped program step stopped.NotAccepted = Lacks program.params (tree program.body) step not_accepted
IsStopped program step stopped.NotInstance = Lacks program.params (tree program.body) step not_instance
IsStopped program step stopped.Memory = Unit {0}
