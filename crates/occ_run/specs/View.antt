-- What a machine's own types say: control trees as those of the definitions.
use Rattle.std.specs.Prelude.{Bool, true, ◌&&◌, None, List, [], ◌∷◌, if◌then◌else◌}
use Rattle.std.specs.declared.rc.Rc.{Rc}
use Rattle.std.specs.declared.alloc.Global.{Global}
use Rattle.occ_syntax.specs.occ_base.declared.names.Name.{Name}
use Rattle.occ_syntax.specs.occ_base.declared.width.Width.{Width}
use Rattle.occ_syntax.specs.Tree.{Waiting, truth, input, output, Tree, skip, stop, alt, connect, no_branch, and_branch}
use Rattle.occ_syntax.specs.View.{exp, tree, trees}
use Rattle.occ_syntax.specs.Scopes.{Environment, with_name}
use Rattle.occ_syntax.specs.Types.{can_declare}
use Rattle.occ_syntax.specs.declared.scope.Kind.TheVariants.{Chan}
use Rattle.occ_run_steps.specs.Control.{Control as Left, is_done, done, unbegun, after, both, local, channel}
use Rattle.occ_run_steps.specs.Control.{Controls, no_control, and_control}
use Rattle.occ_run.specs.declared.control.Control.{Control, Done, Ready, Stuck, Unbegun, Input, Output, After', Both', Local', Channels'}
use Rattle.occ_run.specs.declared.control.Control.{Row_of-Control-Both-0-1, end_of-Control-Both-0-1, more_of-Control-Both-0-1}

-- an input or an output as the ALT of that one guard and SKIP
abbrev pub guarded : Waiting → Left
guarded w = unbegun (alt (and_branch (truth true) w skip no_branch))

-- a control tree within CHANs in a row, the first outermost
abbrev pub in_channels : List (Name × Width) → Left → Left
in_channels [] C = C
in_channels (c ∷ cs) C = channel c.0.0 c.1 (in_channels cs C)

-- which are over with it
abbrev pub round : List (Name × Width) → Left → Left
round cs C = if is_done C then done else in_channels cs C

-- a process within CHANs in a row, the first outermost
abbrev pub connecting : List (Name × Width) → Tree → Tree
connecting [] p = p
connecting (c ∷ cs) p = connect c.0.0 c.1 (connecting cs p)

-- the scope within CHANs in a row
abbrev pub with_channels : Environment → List (Name × Width) → Environment
with_channels Γ [] = Γ
with_channels Γ (c ∷ cs) = with_channels (with_name Γ c.0.0 (Chan c.1 None)) cs

-- whether each may be declared within those before it
abbrev pub can_connect : Environment → List (Name × Width) → Bool
can_connect Γ [] = true
can_connect Γ (c ∷ cs) = can_declare Γ c.0.0 c.1 && can_connect (with_name Γ c.0.0 (Chan c.1 None)) cs

abbrev mutual
  pub control : Control → Left
  control Done = done
  control Ready = unbegun skip
  control Stuck = unbegun stop
  control (Unbegun part) = unbegun (tree part.now)
  control (Input chan var) = guarded (input chan.0 var.0)
  control (Output chan value) = guarded (output chan.0 (exp value.now))
  control (After' p body rest) = after (control body) (trees rest.now)
  control (Both' shape parts) = both (row_controls parts)
  control (Local' name width value p body) = local name.0 width value (control body)
  control (Channels' first more p body) = channel first.0.0 first.1 (in_channels more.items (control body))

  pub row_controls : {m : _} → Row_of-Control-Both-0-1 m → Controls
  row_controls end_of-Control-Both-0-1 = no_control
  row_controls (more_of-Control-Both-0-1 p part rest) = and_control (control part) (row_controls rest)

-- the same over lists, as code sees them
abbrev pub controls : List (Rc Control Global) → Controls
controls [] = no_control
controls (part ∷ rest) = and_control (control part.value) (controls rest)
