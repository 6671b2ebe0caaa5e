-- What is seen of a script: its programs with trees as bodies, the lines of the one behind FROM, and of each step what it says; and
-- what is seen of an order.
use Rattle.std.specs.Prelude.{ℕ, List, map, Option, option_map}
use Rattle.occ_syntax.specs.occ_base.declared.names.Name.{Name}
use Rattle.occ_law.specs.declared.table.LawId.{LawId}
use Rattle.occ_parse_part.specs.Parts.{Part}
use Rattle.occ_parse_part.specs.Shown.{part_of}
use Rattle.occ_script_lines.specs.declared.direction.Direction.{Direction}
use Rattle.occ_syntax.specs.declared.scope.Kind.{Kind}
use Rattle.occ_syntax.specs.declared.scope.Program.{Program}
use Rattle.occ_syntax.specs.Tree.{Tree}
use Rattle.occ_syntax.specs.View.{tree}
use Rattle.occ_script.specs.declared.script.Order.{Order}
use Rattle.occ_script.specs.declared.script.Script.{Script}
use Rattle.occ_script.specs.declared.script.Step.{Step}

pub record ShownProgram : Type 0 where
  pub name : Name
  pub params : List (Name × Kind)
  pub body : Tree

pub record ShownStep : Type 0 where
  pub law : Option LawId
  pub dir : Direction
  pub path : List ℕ
  pub part : Part

pub record ShownScript : Type 0 where
  pub from : ShownProgram
  pub lines : List ℕ
  pub steps : List ShownStep
  pub to : ShownProgram

abbrev pub shown_program : Program → ShownProgram
shown_program p = record { name = p.name; params = p.params; body = tree p.body }

abbrev pub shown_step : Step → ShownStep
shown_step s = record { law = s.law; dir = s.dir; path = s.path; part = part_of s.part }

abbrev pub shown : Script → ShownScript
shown s = record { from = shown_program s.from.program; lines = s.from.lines; steps = map shown_step s.steps; to = shown_program s.to }

-- ---- orders

pub record ShownOrder : Type 0 where
  pub law : Option LawId
  pub dir : Direction
  pub path : List ℕ
  pub part : Option Part

abbrev pub shown_order : Order → ShownOrder
shown_order o = record { law = o.law; dir = o.dir; path = o.path; part = option_map part_of o.part }
