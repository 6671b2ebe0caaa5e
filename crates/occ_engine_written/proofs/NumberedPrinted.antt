-- Written moves join where their script is read with an empty table.
use Rattle.std.proofs.Common.{ℕ, ◌≤◌, List, [], ◌++◌, length, refl, sym, subst, ◌∙◌}
use Rattle.occ_engine_known.specs.occ_base.declared.names.Name.{Name}
use Rattle.occ_renamed.specs.occ_lex.Rows.{reading_of}
use Rattle.occ_renamed.specs.occ_lex.Symbols.{Extends}
use Rattle.occ_renamed.proofs.from_lex.Interned.{extends_all, extends_same, extends_trans}
use Rattle.occ_renamed.specs.occ_parse.declared.bound.Bound.TheVariants as bound
use Rattle.occ_renamed.specs.occ_parse.Reading.{names_in}
use Rattle.occ_renamed.specs.occ_parse_rules.Places.{Place}
use Rattle.occ_script_table.specs.occ_script_back.Back.{PartReadsBack}
use Rattle.occ_script_table.specs.occ_script_back.Part.{IsPrintablePart, PartIsNarrow}
use Rattle.occ_script_table.specs.occ_script_back.Tables.{IsGrown}
use Rattle.occ_engine_known.specs.occ_script.declared.fault.ScriptFault.{ScriptFault}
use Rattle.occ_engine_known.specs.occ_script.declared.script.Script.{Script}
use Rattle.occ_engine_known.specs.occ_script.declared.script.Step.{Step}
use Rattle.occ_engine_known.specs.occ_script.Lines.{named_in}
use Rattle.occ_engine_known.specs.occ_script.Refusals.{IsBadEnd, IsNoDerivation, IsScriptFault, IsUnformed, another_word, bad_head, behind_head, behind_source, behind_step, in_from, in_source, in_step, in_target, in_to, no_line, no_source, no_target, too_long, unformed}
use Rattle.occ_engine_known.specs.occ_script.Scripts.{IsFormed, IsProgram, IsScript}
use Rattle.occ_engine_known.proofs.from_script.Once.{IsOnce}
use Rattle.occ_script_table.proofs.Scripts.{derivation_refused, end_refused, formed_again, program_grows, script_again, script_refused, unformed_refused}
use Rattle.occ_script_table.specs.occ_script_back.Joined.{AreWrittenMoves, IsJoined}
use Rattle.occ_renamed.specs.occ_script_lines.Sections.{Section, last_line_of}
use Rattle.occ_engine_written.specs.Front.{AreWrittenBehind}
use Rattle.occ_engine_written.proofs.Behind.{AreGood}
use Rattle.occ_engine_written.proofs.Covered.{IsCovered, nowhere}
use Rattle.occ_engine_written.proofs.Joining.{AreJoined, AreKept}
use Rattle.occ_engine_written.proofs.Reaching.{behind_covered, formed_covered, named_covered, names_covered, part_covered, program_covered}
use Rattle.occ_engine_known.specs.occ_script_write.declared.writing.Done.{Done}
use Rattle.occ_engine_known.specs.occ_script_write.Text.{script_text}
use Rattle.occ_script_table.proofs.from_script_back.Formed.{IsFormedOf, formed_is, source, source_back, target_back}
use Rattle.occ_engine_known.specs.occ_syntax.declared.scope.Kind.{Kind}
use Rattle.occ_engine_known.specs.occ_syntax.declared.scope.Program.{Program}
use Rattle.occ_engine_known.specs.occ_syntax.Tree.{Tree}

abbrev Table : Type 0
Table = List (List ℕ)

-- printed parts read back
abbrev pub PartsReadBack : Type 0
PartsReadBack = (names : List (List ℕ)) (P : ℕ → Place) (scope : List (Name × Kind)) (part : Tree) (front : List ℕ) (number : ℕ)
    → IsPrintablePart names P scope part → PartIsNarrow part → PartReadsBack names P scope front number part

module _ (once : IsOnce) (back : PartsReadBack) (good : AreGood) (names : Table) (P : ℕ → Place) (from to : Program) (steps : List Done)
    (w : AreWrittenMoves names P from steps to) where
  abbrev text : List ℕ
  text = script_text names from steps to

  abbrev count : ℕ
  count = length steps

  abbrev Covered : Table → Type 0
  Covered t = IsCovered text count t

  start : Covered []
  start = record {
    single = λ i j t h k. nowhere t h;
    names = names;
    places = P;
    from = from;
    steps = steps;
    to = to;
    moves = w;
    text_is = refl;
    as_many = refl;
    has = λ i t h. nowhere t h;
  }

  -- ---- the programs, with a table that begins with all names of the lines

  module _ (F : Table) (from_text to_text : List ℕ) (read : List Step) (formed : IsFormed text [] F from_text read to_text) where
    all_covered : Covered F
    all_covered = formed_covered good text count text [] F from_text read to_text formed start

    module _ (t : Table) (e : Extends F t) (b : AreWrittenBehind t text count) where
      abbrev T : Table
      T = t ++ b.rest

      whole : IsFormed (script_text T b.from b.steps b.to) T T from_text read to_text
      whole = subst (λ s. IsFormed s T T from_text read to_text) (sym b.text_is)
          (formed_again text [] F from_text read to_text formed T (extends_trans F t T e (b.rest, refl)))

      is : IsFormedOf T b.places (source once back T b.places b.from b.steps b.to (good T b.places b.from b.to b.steps b.moves)) b.to b.steps T from_text read to_text
      is = formed_is once back T b.places b.from b.steps b.to (good T b.places b.from b.to b.steps b.moves) T from_text read to_text whole

      same : IsGrown T b.places T b.places
      same = record { table = b.moves.from_is.table; extends = extends_same T; same = λ x h. refl }

      first_reads : (program : Program) × (numbers : List ℕ) × IsProgram bound.First from_text T T program numbers
      first_reads =
          let p = source_back once back T b.places b.from b.steps b.to (good T b.places b.from b.to b.steps b.moves) T b.places same in
          (b.from, p.numbers, subst (λ s. IsProgram bound.First s T T b.from p.numbers) (sym is.from_text_is) p.reads)

      last_reads : (program : Program) × (numbers : List ℕ) × IsProgram bound.Script to_text T T program numbers
      last_reads =
          let p = target_back once back T b.places b.from b.steps b.to (good T b.places b.from b.to b.steps b.moves) T b.places same is.target is.target_is in
          (b.to, p.numbers, subst (λ s. IsProgram bound.Script s T T b.to p.numbers) (sym is.to_text_is) p.reads)

    module _ (between : Table) (program : Program) (numbers : List ℕ) (r : IsProgram bound.First from_text F between program numbers) where
      from_covered : Covered between
      from_covered =
          program_covered good text count once.form bound.First from_text F between program numbers r
          (λ b. first_reads (names_in from_text F) (extends_all from_text F (reading_of from_text).0) b) all_covered

      to_extends : Extends F (names_in to_text between)
      to_extends =
          extends_trans F between (names_in to_text between) (program_grows bound.First from_text F between program numbers r)
          (extends_all to_text between (reading_of to_text).0)

      to_covered : (new : Table) (last : Program) (ns : List ℕ) → IsProgram bound.Script to_text between new last ns → Covered new
      to_covered new last ns s =
          program_covered good text count once.form bound.Script to_text between new last ns s (λ b. last_reads (names_in to_text between) to_extends b) from_covered

  pub joined : AreJoined → (new : Table) (script : Script) → IsScript text [] new script → IsJoined steps script
  joined joins new script is =
      let c : Covered new =
      to_covered is.formed_table is.from is.to script.steps is.formed is.between script.from.program script.from.lines is.is_from new script.to is.numbers is.is_to in
      let b = behind_covered good text count new c in
      let all = new ++ b.rest in
      let read : IsScript text all all script = script_again text [] new all script is (b.rest, refl) in
      let j : IsJoined b.steps script = joins all b.places b.from b.to b.steps b.moves all script (subst (λ s. IsScript s all all script) (sym b.text_is) read) in
      record { derivation = j.derivation; as_many = j.as_many ∙ b.as_many }

  -- ---- no fault

  end_covered : (last : ℕ) (old : Table) (ss : List Section) (e : ScriptFault) (h : IsBadEnd last old ss e) → Covered old → Covered ((end_refused last old ss e h).reached)
  unfolding end_refused
  end_covered last old ss e (no_target a) c = c
  end_covered last old ss e (in_step a s others d line bad) c = named_covered good text count s a c
  end_covered last old ss e (behind_step a t s others step d line h bad) c =
      end_covered last t others d bad (part_covered good text count a t s step.part h.part c)
  end_covered last old ss e (in_target a s others d line bad) c = named_covered good text count s a c

  derivation_covered : (last : ℕ) (old : Table) (ss : List Section) (e : ScriptFault) (h : IsNoDerivation last old ss e) → Covered old
      → Covered ((derivation_refused last old ss e h).reached)
  unfolding derivation_refused
  derivation_covered last old ss e no_source c = c
  derivation_covered last old ss e (another_word s others line) c = c
  derivation_covered last old ss e (in_source s others d line bad) c = named_covered good text count s old c
  derivation_covered last old ss e (behind_source source_text s others d line lines bad) c =
      end_covered last (named_in s old) others d bad (named_covered good text count s old c)

  unformed_covered : (e : ScriptFault) (h : IsUnformed text [] e) → Covered ((unformed_refused text [] e h).reached)
  unfolding unformed_refused
  unformed_covered e (no_line h) = start
  unformed_covered e (bad_head head rest d h bad) = named_covered good text count head [] start
  unformed_covered e (behind_head head rest d h line bad) =
      derivation_covered (last_line_of text) (named_in head []) rest d bad (named_covered good text count head [] start)

  fault_covered : (e : ScriptFault) (h : IsScriptFault text [] e) → Covered ((script_refused text [] e h).reached)
  unfolding script_refused
  fault_covered e (too_long h) = start
  fault_covered e (unformed d h bad) = unformed_covered d bad
  fault_covered e (in_from t from_text to_text read d h formed bad) =
      names_covered good text count from_text t (all_covered t from_text to_text read formed)
  fault_covered e (in_to t between from_text to_text read program numbers d h formed r bad) =
      names_covered good text count to_text between (from_covered t from_text to_text read formed between program numbers r)

  pub kept : AreKept → length text ≤ 4194304 → (e : ScriptFault) → IsScriptFault text [] e → ⊥
  kept keeps short e bad =
      let r = script_refused text [] e bad in
      let b = behind_covered good text count r.reached (fault_covered e bad) in
      let all = r.reached ++ b.rest in
      let here : IsScriptFault text all e = r.holds all (b.rest, refl) in
      keeps all b.places b.from b.to b.steps b.moves (subst (λ s. length s ≤ 4194304) (sym b.text_is) short) e (subst (λ s. IsScriptFault s all e) (sym b.text_is) here)
