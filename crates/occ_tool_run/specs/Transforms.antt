-- The answers to a program and orders, and to a program and the path of a PAR.
use Rattle.std.specs.Prelude.{ℕ, ◌≡◌, ◌≤◌, ◌<◌, List, length, None, Vec}
use Rattle.std.specs.declared.alloc.Global.{Global}
use Rattle.occ_run_schedule.specs.occ_behaviour.declared.behaviour.Side.TheVariants.{Second}
use Rattle.occ_engine_written.specs.occ_engine.Moved.{moves_of, orders_of}
use Rattle.occ_replay.specs.occ_replay_rules.Expansion.{IsBlocked, IsExpanded, IsNoPar}
use Rattle.occ_replay.specs.occ_replay_rules.Orders.{Follows, Lack, Stops, no_law, no_path, not_accepted, not_applicable}
use Rattle.occ_run_schedule.specs.occ_meaning.Context.{part_at}
use Rattle.occ_replay.specs.occ_script.declared.fault.ScriptFault.{ScriptFault}
use Rattle.occ_replay.specs.occ_script.declared.script.Order.{Order}
use Rattle.occ_replay.specs.occ_script.Orders.{IsOrders, IsOrdersFault}
use Rattle.occ_derive.specs.occ_script_write.declared.writing.Done.{Done}
use Rattle.occ_derive.specs.occ_script_write.Text.{script_text}
use Rattle.occ_syntax.specs.declared.scope.Program.{Program}
use Rattle.occ_syntax.specs.Same.{SAME}
use Rattle.occ_syntax.specs.Scopes.{environment}
use Rattle.occ_syntax.specs.View.{tree}
use Rattle.occ_tool_run.specs.declared.answer.Answer.{Answer}
use Rattle.occ_tool_run.specs.declared.answer.Answer.TheVariants.{RefusedOrder, RefusedOrders, RefusedPath, TooLong, Written}
use Rattle.occ_tool_run.specs.declared.reason.Reason.{Reason}
use Rattle.occ_tool_run.specs.declared.reason.Reason.TheVariants.{NoLaw, NoPath, NotPar, NotAccepted, NotApplicable}
use Rattle.occ_call.specs.Files.{most_script_bytes}

-- The steps lead from one program to another, which has the same name and the same parameters, and means the same; and the answer is
-- the script that says so.
pub record IsScriptOf (names : List (List ℕ)) (from : Program) (steps : List Done) (to : Program) (answer : Answer) : Type 0 where
  pub name : to.name ≡ from.name
  pub params : to.params ≡ from.params
  pub same : SAME (environment from.params) (tree from.body) (tree to.body)
  pub text : Vec ℕ Global
  pub text_is : text.items ≡ script_text names from steps to
  pub answer_is : answer ≡ Written text

-- ---- orders

-- why an order can't be followed, as it is told
abbrev pub reason_of : Lack → Reason
reason_of no_law = NoLaw
reason_of no_path = NoPath
reason_of not_accepted = NotAccepted
reason_of not_applicable = NotApplicable

-- The answer to an accepted program and the bytes of a file that is to hold orders. Its names are read with those of the program in
-- the table.
pub data IsTransformed (bytes : List ℕ) (names : List (List ℕ)) (p : Program) (answer : Answer) : Type 0 where
  too_long_orders : most_script_bytes < length bytes → answer ≡ TooLong Second → IsTransformed bytes names p answer
  faulty_orders : (fault : ScriptFault) → length bytes ≤ most_script_bytes → IsOrdersFault bytes names fault → answer ≡ RefusedOrders fault
      → IsTransformed bytes names p answer
  stopped_orders : (new : List (List ℕ)) (orders : List Order) (number : ℕ) (lack : Lack) → length bytes ≤ most_script_bytes
      → IsOrders bytes names new orders
      → Stops p.params (tree p.body) (orders_of orders) number lack → answer ≡ RefusedOrder number (reason_of lack)
      → IsTransformed bytes names p answer
  followed_orders : (new : List (List ℕ)) (orders : List Order) (steps : List Done) (to : Program) → length bytes ≤ most_script_bytes
      → IsOrders bytes names new orders
      → Follows p.params (tree p.body) (orders_of orders) (moves_of steps) (tree to.body) → IsScriptOf new p steps to answer
      → IsTransformed bytes names p answer

-- ---- an expansion

-- The answer to an accepted program and the path of a PAR that is to be expanded.
pub data IsExpandedTo (path : List ℕ) (names : List (List ℕ)) (p : Program) (answer : Answer) : Type 0 where
  no_part : part_at path (tree p.body) ≡ None → answer ≡ RefusedPath NoPath → IsExpandedTo path names p answer
  no_par : IsNoPar (tree p.body) path → answer ≡ RefusedPath NotPar → IsExpandedTo path names p answer
  blocked : IsBlocked p.params (tree p.body) path → answer ≡ RefusedPath NotAccepted → IsExpandedTo path names p answer
  expanded : (steps : List Done) (to : Program) → IsExpanded p.params (tree p.body) path (moves_of steps) (tree to.body)
      → IsScriptOf names p steps to answer
      → IsExpandedTo path names p answer
