-- Laws on texts by how they are written, and what a program's normal text and table are by them.
use Rattle.std.proofs.Common.{◌≡◌, ◌<◌, ◌≤◌, ◌^◌, ◌↔◌, ◌∙◌, ℕ, true, List, [], length, None, Ok, Err, Vec, Global, refl, sym, subst, arith}
use Rattle.occ_syntax.specs.occ_base.Names.{IsDistinct}
use Rattle.occ_syntax.specs.occ_base.declared.names.Name.{Name}
use Rattle.occ_run_schedule.specs.occ_behaviour.declared.behaviour.Behaviour.{Behaviour}
use Rattle.occ_run_schedule.specs.occ_behaviour_read.Claims.{bare_lines, claim_read}
use Rattle.occ_tool_words.specs.occ_gen.declared.shape.Shape.{Shape}
use Rattle.occ_replay.specs.occ_lex.Rows.{rows}
use Rattle.occ_read_renamed.specs.occ_nform.Written.{IsNormalText}
use Rattle.occ_read_renamed.specs.occ_nform.declared.figures.Counts.{Counts}
use Rattle.occ_read_renamed.specs.occ_nform.Counted.{HasCounts}
use Rattle.occ_run_schedule.specs.occ_nform_table.Behaviours.{Stands}
use Rattle.occ_run_schedule.specs.occ_nform_table.Normal.{Parts, table_fault, text_read}
use Rattle.occ_run_schedule.specs.occ_nform_table.Tables.{IsInterface, IsNormal, are_params}
use Rattle.occ_run_schedule.specs.occ_nform_table.Texts.{table_text}
use Rattle.occ_run_schedule.specs.occ_nform_table.declared.table.TableFault.{TableFault}
use Rattle.occ_run_schedule.specs.occ_nform_table.declared.table.TableRow.{TableRow}
use Rattle.occ_run_schedule.specs.occ_behaviour_read.Behaviours.{AreBehaviourLines, IsBehaviourText}
use Rattle.occ_run_schedule.specs.occ_behaviour_read.Stops.{StopsAt}
use Rattle.occ_run_schedule.specs.occ_behaviour_read.Tables.{IsTableFault, IsTableOf, IsTableText, IsTextOf}
use Rattle.occ_syntax.specs.Tree.{Tree}
use Rattle.occ_syntax.specs.Types.{scope_kept}
use Rattle.occ_syntax.specs.declared.scope.Kind.{Kind}
use Rattle.occ_tool_run.specs.Answers.{IsStressed}
use Rattle.occ_call.specs.Files.{most_table_bytes}
use Rattle.occ_tool_run.specs.declared.answer.Answer.TheVariants.{Stressed}
use Rattle.occ_tool_run.specs.Accepts.{Program}

-- a normal text is read as the table that it writes
abbrev pub TablesLaw : Type 0
TablesLaw = (text : List ℕ) (t : Parts) → length text < 2 ^ 32 → (text_read [] text ≡ Ok t) ↔ (IsTableText t (rows text) × (table_fault t ≡ None))

-- or refused where no table's text goes on, or for the first fault of its table
abbrev pub TableFaultsLaw : Type 0
TableFaultsLaw = (text : List ℕ) (why : TableFault) → length text < 2 ^ 32 → (text_read [] text ≡ Err why) ↔ IsTableFault (rows text) why

-- a behaviour text is read as the behaviour that it writes
abbrev pub BehavioursLaw : Type 0
BehavioursLaw = (names : List (List ℕ)) (params : List (Name × Kind)) (text : List ℕ) (b : Behaviour) → IsDistinct names → IsInterface names params → are_params names [] params ≡ true
    → (claim_read names params text ≡ Ok b) ↔ IsBehaviourText names params b (bare_lines text)

-- or refused where no behaviour's text goes on
abbrev pub BehaviourFaultsLaw : Type 0
BehaviourFaultsLaw = (names : List (List ℕ)) (params : List (Name × Kind)) (text : List ℕ) (line : ℕ) → IsDistinct names → IsInterface names params → are_params names [] params ≡ true
    → (claim_read names params text ≡ Err line) ↔ StopsAt (AreBehaviourLines names params) (bare_lines text) line

-- these laws, and that a program has one table
pub record AreAsWritten : Type 0 where
  pub tables : TablesLaw
  pub table_faults : TableFaultsLaw
  pub behaviours : BehavioursLaw
  pub behaviour_faults : BehaviourFaultsLaw
  pub one_table : (names : List (List ℕ)) (params : List (Name × Kind)) (p : Tree) (r v : List TableRow) (u w : List ℕ) → scope_kept params ≡ true
      → IsNormal (record { names = names; params = params; rows = r; states = u }) → IsNormal (record { names = names; params = params; rows = v; states = w })
      → Stands params r u p → Stands params v w p → (r ≡ v) × (u ≡ w)

-- a normal text that may be read has few bytes
pub few_bytes : (bytes : List ℕ) → length bytes ≤ most_table_bytes → length bytes < 2 ^ 32
few_bytes bytes short = let few : length bytes ≤ 67108864 = short in omega (arith, few)

-- ---- normal texts of programs

-- a normal text is that of its table
abbrev pub TextLaw : Type 0
TextLaw = (names : List (List ℕ)) (text : List ℕ) (t : Parts) → length text < 2 ^ 64 → text_read names text ≡ Ok t → IsNormal t × (text ≡ table_text t.names t.params t.rows t.states)

table_of : (names : List (List ℕ)) (params : List (Name × Kind)) (p : Tree) (t : Parts) → IsNormal t → t.names ≡ names → t.params ≡ params → Stands params t.rows t.states p
    → IsTableOf names params p t.rows t.states
table_of names params p t is n e s =
    let P : List (List ℕ) × List (Name × Kind) → Type 0 = λ q. IsTableOf q.0 q.1 p t.rows t.states in
    subst P {x = (t.names, t.params)} (λ i. (n i, e i)) (record {
      rows_are = is.rows;
      count = is.count;
      low = is.states;
      fine = is.fine;
      stands = subst (λ ps. Stands ps t.rows t.states p) (sym e) s;
    })

pub text_of_program : TextLaw → (names : List (List ℕ)) (p : Program) (text : Vec ℕ Global) → IsNormalText names p.params p.body text.items
    → IsTextOf names p.params p.body text.items
text_of_program law names p text is =
    let t = is.table in
    let short : length text.items < 2 ^ 64 = omega (arith, text.ok, text.small) in
    let own = law names text.items t short is.reads in
    record {
      rows = t.rows;
      states = t.states;
      table = table_of names p.params p.body t own.0 is.names_are is.params_are is.stands;
      written = own.1 ∙ (λ i. table_text (is.names_are i) (is.params_are i) t.rows t.states);
    }

-- the figures of a normal text are those of that table
pub measured_as : TextLaw → (shape : Shape) (stages : ℕ) (names : List (List ℕ)) (p : Program) (counts : Counts) → HasCounts names p.params p.body counts
    → IsStressed shape stages names p (Stressed shape stages counts)
measured_as law shape stages names p counts has =
    let is = has.is in
    let t = is.table in
    record {
      counts = counts;
      rows = t.rows;
      states = t.states;
      is = table_of names p.params p.body t (law names has.text t has.short is.reads).0 is.names_are is.params_are is.stands;
      counts_are = has.counts_are;
      answer_is = refl;
    }
