-- Parts that don't communicate as functions on states: digits lead from an assignment before them to one behind them.
use Rattle.std.specs.Prelude.{ℕ, ◌<◌, ◌≡◌, ◌^◌, ◌↔◌, true, List, [], length, drop}
use Rattle.occ_syntax.specs.occ_base.declared.event.Event.{Event}
use Rattle.occ_syntax.specs.occ_base.declared.names.Name.{Name}
use Rattle.occ_syntax.specs.occ_base.declared.width.Width.{Width}
use Rattle.occ_norm_frame.specs.occ_bits.Layout.{state_of}
use Rattle.occ_norm_frame.specs.occ_dd.Store.{IsKnown, has}
use Rattle.occ_norm_frame.specs.occ_dd.declared.set.SetId.{SetId}
use Rattle.occ_norm_frame.specs.occ_dd.declared.store.Store.{Store}
use Rattle.occ_norm_frame.specs.occ_follow.Sequence.{HasNodes}
use Rattle.occ_norm_frame.specs.occ_mdd.declared.map.MapId.{MapId}
use Rattle.occ_norm_frame.specs.occ_node.declared.world.World.{World}
use Rattle.occ_norm_frame.specs.occ_bits.Digits.{AreDigits, reached}
use Rattle.occ_norm_assign.specs.Written.{onto}
use Rattle.occ_norm_assign.specs.declared.writes.Write.{Write}
use Rattle.occ_norm_frame.specs.After.{IsAfter}
use Rattle.occ_norm_frame.specs.Placed.{IsAround}
use Rattle.occ_norm_frame.specs.declared.frame.Frame.{Frame}
use Rattle.occ_syntax.specs.declared.proc.Proc.{Proc}
use Rattle.occ_syntax.specs.declared.scope.Kind.{Kind}
use Rattle.occ_syntax.specs.Eval.{is_true}
use Rattle.occ_syntax.specs.Meaning.{Outcome, ended, meaning}
use Rattle.occ_syntax.specs.Scopes.{Environment}
use Rattle.occ_norm_frame.specs.occ_bits.Layout.{environment_in}
use Rattle.occ_syntax.specs.Tree.{Exp, Tree, seq}
use Rattle.occ_syntax.specs.Types.{types_kept}
use Rattle.occ_syntax.specs.View.{trees}

-- the members of r are those from which digits lead to states in which the condition is TRUE
pub record IsCondition (w : World) (layout : List (Name × Width × ℕ)) (e : Exp) (digits : List SetId) (r : SetId) : Type 0 where
  pub known : IsKnown w.store r
  pub members : (x : ℕ) → has w.store r x ≡ is_true (environment_in layout) e (state_of layout (reached w.store digits x))

-- from the state where the one list leads the part does nothing but end at once, where the other leads
abbrev pub Moves : World → List (Name × Width × ℕ) → Environment → Tree → List SetId → List SetId → Type 0
Moves w layout Γ p before after = (x : ℕ) (t : List Event) (o : Outcome) → x < 2 ^ 64
    → (meaning p).does Γ (state_of layout (reached w.store before x)) t o
    ↔ ((t ≡ []) × (o ≡ ended (state_of layout (reached w.store after x))))

-- the same wherever the part keeps types among these variables
pub record IsMade (w : World) (vars : List (Name × Kind)) (layout : List (Name × Width × ℕ)) (p : Tree)
    (before after : List SetId) : Type 0 where
  pub are : AreDigits w.store after
  pub moves : (Γ : Environment) → IsAround Γ vars → types_kept p Γ ≡ true → Moves w layout Γ p before after

-- the digits lead where others lead and then the writes
abbrev pub ArePut : Store → List SetId → List Write → List SetId → Type 0
ArePut s before writes after = (x : ℕ) → reached s after x ≡ onto s writes (reached s before x) (reached s before x)

-- the writes make what the digits make
abbrev pub SameWrites : Store → List SetId → List Write → Type 0
SameWrites s digits writes = (x : ℕ) → onto s writes x x ≡ reached s digits x

-- from each state the part does nothing but end at once, where the digits lead, wherever it keeps types among these variables
pub record IsFunction (w : World) (vars : List (Name × Kind)) (layout : List (Name × Width × ℕ)) (p : Tree)
    (digits : List SetId) : Type 0 where
  pub are : AreDigits w.store digits
  pub moves : (Γ : Environment) → IsAround Γ vars → types_kept p Γ ≡ true → (x : ℕ) (t : List Event) (o : Outcome) → x < 2 ^ 64
      → (meaning p).does Γ (state_of layout x) t o ↔ ((t ≡ []) × (o ≡ ended (state_of layout (reached w.store digits x))))

-- The map is that of the part and then what the map `rest` has.
pub record IsMapOf (w : World) (frame : Frame) (p : Tree) (rest map : MapId) : Type 0 where
  pub nodes : HasNodes w map
  pub after : (Γ : Environment) → IsAround Γ frame.vars → types_kept p Γ ≡ true → IsAfter w frame.layout frame.keep frame.closed.items Γ p rest map

-- The map is that of the parts from a place on, and then what the map `rest` has.
pub record IsBehind (w : World) (frame : Frame) (parts : List Proc) (rest : MapId) (start : ℕ) (map : MapId) : Type 0 where
  pub within : start < length parts
  pub nodes : HasNodes w map
  pub after : (Γ : Environment) → IsAround Γ frame.vars → types_kept (seq (trees (drop start parts))) Γ ≡ true
      → IsAfter w frame.layout frame.keep frame.closed.items Γ (seq (trees (drop start parts))) rest map
