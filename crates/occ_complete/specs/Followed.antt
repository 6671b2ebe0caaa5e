-- What follows an event in a normal program.
use Rattle.std.specs.Prelude.{ℕ, ◌≡◌, ◌<◌, ◌^◌, List, length, map, Some}
use Rattle.std.specs.List.{AllByRecursion}
use Rattle.occ_engine.specs.occ_base.declared.event.Dir.TheVariants.{Input, Output}
use Rattle.occ_engine.specs.occ_base.declared.width.Width.{Width}
use Rattle.occ_engine.specs.occ_base.Width.{bits_of}
use Rattle.occ_engine.specs.occ_syntax.declared.scope.Kind.TheVariants.{Chan}
use Rattle.occ_engine.specs.occ_syntax.Scopes.{environment}
use Rattle.occ_engine.specs.occ_syntax.Tree.{Waiting, input, output, Tree, select}
use Rattle.occ_complete_states.specs.occ_target.Rows.{variable_of}
use Rattle.occ_complete_states.specs.occ_target.States.{constant, is_at}
use Rattle.occ_complete_states.specs.occ_target_laws.Shapes.{Header, IsShaped, Node, numbered}

-- Behind an output stands a process of normal shape; behind an input a choice of one for each value.
pub data IsFollowed (h : Header) : Waiting → Tree → Type 0 where
  after_output : (c : ℕ) (w : Width) (v : ℕ) (p : Tree) → environment h.params c ≡ Some (Chan w (Some Output)) → v < 2 ^ bits_of w
      → IsShaped h p → IsFollowed h (output c (constant w v)) p
  after_input : (c : ℕ) (w : Width) (parts : List Tree) → environment h.params c ≡ Some (Chan w (Some Input)) → length parts ≡ 2 ^ bits_of w
      → AllByRecursion (IsShaped h) parts
      → IsFollowed h (input c (variable_of h.inputs w)) (select (numbered (is_at (variable_of h.inputs w) w) 0 parts))

-- the branch with another process, which is told of the branch
abbrev pub with_next : (Waiting × Tree → Tree) → Waiting × Tree → Waiting × Tree
with_next f b = (b.0, f b)

-- the node with these processes behind its events, in acceptances too
abbrev pub renewed : (Waiting × Tree → Tree) → Node → Node
renewed f n = record { events = map (with_next f) n.events; accepts = map (map (with_next f)) n.accepts; ends = n.ends }
