-- The parts that steps of scripts put in are printed as texts that read back.
use Rattle.std.proofs.Common.{◌≡◌, ℕ, ◌≤◌, true, List, [], ◌∷◌, ◌++◌, length, map, sym, subst, arith}
use Rattle.std.specs.List.{AllByRecursion}
use Rattle.occ_engine_known.specs.occ_base.declared.names.Name.{Name}
use Rattle.occ_engine_known.specs.Known.{NamesAreBelow}
use Rattle.occ_engine_known.proofs.Given.{part_low}
use Rattle.occ_engine_known.proofs.Keeping.{names_still}
use Rattle.occ_engine_known.proofs.Putting.{put_pass}
use Rattle.occ_engine_written.proofs.Printed.{names_below}
use Rattle.occ_renamed.proofs.from_lex.Interned.{longer}
use Rattle.occ_renamed.specs.occ_meaning.Context.{environment_at}
use Rattle.occ_renamed.proofs.from_meaning.Contexts.{part_types}
use Rattle.occ_renamed.proofs.from_meaning.Places.{put_scope, put_there}
use Rattle.occ_renamed.specs.occ_parse.Known.{declares, is_below}
use Rattle.occ_renamed.specs.occ_parse_part.Resolving.{part_process, scope_of}
use Rattle.occ_renamed.specs.occ_parse_part.Shown.{elements_of, lines_of, part_of}
use Rattle.occ_renamed.specs.occ_parse_part.Elements.{numbers}
use Rattle.occ_renamed.specs.occ_parse.declared.bound.Bound.TheVariants as bound
use Rattle.occ_engine_written.specs.Accepted.{IsLeft, IsReached, PartPrintsBack, behind_script}
use Rattle.occ_engine_written.proofs.Parts.{PartLaw, reads_back_there}
use Rattle.occ_script_table.specs.occ_script_back.Part.{PartIsNarrow}
use Rattle.occ_renamed.specs.occ_replay_rules.Steps.{Derives, Step, and_step, new_part, new_whole, no_step, scope_there}
use Rattle.occ_engine_known.specs.occ_script.declared.script.Script.{Script}
use Rattle.occ_engine_known.specs.occ_script.declared.script.Step.{Step as Read}
use Rattle.occ_engine_known.specs.occ_script.Lines.{named_in}
use Rattle.occ_engine_known.specs.occ_script.Scripts.{IsScript}
use Rattle.occ_engine_known.specs.occ_script.Steps.{AreSteps, IsStep, and_step as and_read, no_step as none_read}
use Rattle.occ_script_table.proofs.Scripts.{lines_there, named_grow, program_grows, step_grows}
use Rattle.occ_script_table.specs.occ_script_back.Joined.{step_of}
use Rattle.occ_renamed.specs.occ_script_lines.Sections.{Section, reading_in, upto}
use Rattle.occ_engine_known.specs.occ_syntax.declared.scope.Kind.{Kind}
use Rattle.occ_engine_known.specs.occ_syntax.Scopes.{Environment, environment}
use Rattle.occ_engine_known.specs.occ_syntax.Tree.{Tree}
use Rattle.occ_engine_known.specs.occ_syntax.Types.{types_kept}
use Rattle.occ_engine_known.specs.occ_syntax.Usage.{Keeps}
use Rattle.occ_engine_known.specs.occ_syntax.View.{tree}

-- ---- the parts that are read declare names of the table

-- whatever process the part is in a scope, the names that it declares are below n
abbrev IsLow : ℕ → Step → Type 0
IsLow n step = (scope : List (Name × Kind)) → declares (is_below n) (part_process step.part scope) ≡ true

abbrev AreLow : ℕ → List Step → Type 0
AreLow n steps = AllByRecursion (IsLow n) steps

step_low : (n : ℕ) (old new : List (List ℕ)) (s : Section) (step : Read) → IsStep old new s step → length new ≤ n → IsLow n (step_of step)
step_low n old new s step h l scope =
    part_low (upto s) (named_in s old) (reading_in s).0 (lines_of step.part) new (elements_of step.part) n (lines_there s) h.part.lines h.part.table
    h.part.elements l (scope_of (part_of step.part) scope)

-- the steps that are read with a table that stays within n, and that table as it was in front of them
steps_low : (n : ℕ) (old new : List (List ℕ)) (ss rest : List Section) (steps : List Read) → AreSteps old new ss rest steps → length new ≤ n
    → AreLow n (map step_of steps) × (length old ≤ n)
steps_low n old new ss rest steps (none_read a r) l = (tt, l)
steps_low n old new ss rest steps (and_read a t b s others r step later line h further) l =
    let behind = steps_low n t b others r later further l in
    ((step_low n a t s step h behind.1, behind.0), omega (arith, longer a t (step_grows a t s step h), behind.1))

script_low : (text : List ℕ) (old new : List (List ℕ)) (script : Script) → IsScript text old new script → AreLow (length new) (map step_of script.steps)
script_low text old new script h =
    let first = longer h.formed_table h.between (program_grows bound.First h.from h.formed_table h.between script.from.program script.from.lines h.is_from) in
    let last = longer h.between new (program_grows bound.Script h.to h.between new script.to h.numbers h.is_to) in
    let d = h.formed.derivation in
    let end = d.is_end in
    let t = end.between in
    let target = subst (λ (u : List (List ℕ)). length t ≤ length u) (sym end.table) (longer t (named_in end.target t) (named_grow end.target t)) in
    (steps_low (length new) (named_in d.source (named_in h.formed.head old)) t d.rest (end.target ∷ []) script.steps end.are_steps
    (omega (arith, target, first, last))).0

-- ---- what good steps lead to

both : (n : ℕ) (before after : List Step) (step : Step) → AreLow n (before ++ step ∷ after) → AreLow n before × IsLow n step
both n [] after step h = (tt, h.0)
both n (s ∷ before) after step h = let rest = both n before after step h.1 in ((h.0, rest.0), rest.1)

module _ (n : ℕ) (S : List (Name × Kind)) where
  -- a process that keeps the rules and declares names below n, and so it stays
  record IsWell (p : Tree) : Type 0 where
    keeps : Keeps (environment S) p
    names : NamesAreBelow n S p

  derived_well : (p q : Tree) (steps : List Step) → Derives S p steps q → AreLow n steps → IsWell p → IsWell q
  derived_well p q steps (no_step a) low well = well
  derived_well p q steps (and_step a b step others good rest) low well =
      derived_well (new_whole S a step) b others rest low.1 (record {
        keeps = good.acceptable.keeps;
        names = record {
          scope_names = well.names.scope_names;
          declared = put_pass (is_below n) step.path a (new_part S a step) well.names.declared (low.0 (scope_there S a step));
        };
      })

-- the part of a step that may be put in, behind good steps
pub step_reads_back : PartLaw → (text : List ℕ) (old new : List (List ℕ)) (script : Script) (here : Tree) (step : Step) → IsLeft old
    → IsScript text old new script → IsReached script here step → PartIsNarrow (new_part script.from.program.params here step)
    → PartPrintsBack new (scope_there script.from.program.params here step) (new_part script.from.program.params here step)
step_reads_back law text old new script here step left read is narrow =
    let from = script.from.program in
    let S = from.params in
    let n = length new in
    let grows = longer read.between new (program_grows bound.Script read.to read.between new script.to read.numbers read.is_to) in
    let below : NamesAreBelow n S (tree from.body) =
    names_still (length read.between) n grows S (tree from.body) (names_below bound.First read.from read.formed_table read.between from script.from.lines read.is_from) in
    let low = both n is.before is.after step (subst (AreLow n) is.steps_are (script_low text old new script read)) in
    let well : IsWell n S here = derived_well n S (tree from.body) here is.before is.derived low.0 (record { keeps = is.accepted.keeps; names = below }) in
    let part = new_part S here step in
    let Γ = environment S in
    let types : types_kept part (environment_at step.path Γ here) ≡ true =
    subst (λ (Δ : Environment). types_kept part Δ ≡ true) (put_scope step.path Γ here is.old part is.there)
    (part_types step.path Γ (new_whole S here step) part is.acceptable.keeps.types (put_there step.path here is.old part is.there)) in
    reads_back_there law new (behind_script text old new script left read) step.path S here part is.accepted.typed.scope well.keeps.types well.names types
    (low.1 (scope_there S here step)) narrow
