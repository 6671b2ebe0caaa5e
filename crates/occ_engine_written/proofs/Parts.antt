-- Parts of programs are printed as texts that read back in the scopes where they stand.
use Rattle.std.proofs.Common.{◌≡◌, ℕ, true, List, length, Some, sym, subst}
use Rattle.occ_engine_known.specs.occ_base.declared.names.Name.{Name}
use Rattle.occ_engine_known.specs.Known.{IsKnownPart, NamesAreBelow}
use Rattle.occ_engine_known.proofs.Keeping.{kept_known}
use Rattle.occ_engine_known.proofs.Putting.{part_pass, scope_pass}
use Rattle.occ_renamed.specs.occ_lex.Symbols.{Extends}
use Rattle.occ_renamed.specs.occ_meaning.Context.{environment_at, part_at}
use Rattle.occ_renamed.proofs.from_meaning.Contexts.{part_types}
use Rattle.occ_renamed.specs.occ_parse.Known.{declares, is_below}
use Rattle.occ_renamed.specs.occ_parse.declared.bound.Bound.{Bound}
use Rattle.occ_renamed.specs.occ_parse_rules.Places.{Place}
use Rattle.occ_engine_written.specs.Accepted.{IsAcceptedText, IsLeft, PartPrintsBack}
use Rattle.occ_engine_written.proofs.Left.{left_places}
use Rattle.occ_engine_written.proofs.Programs.{names_there}
use Rattle.occ_script_table.specs.occ_script_back.Back.{PartReadsBack}
use Rattle.occ_script_table.specs.occ_script_back.Part.{IsPrintablePart, PartIsNarrow}
use Rattle.occ_renamed.specs.occ_script_lines.Places.{scope_list}
use Rattle.occ_renamed.proofs.from_script_lines.Scoping.{scopes}
use Rattle.occ_engine_known.specs.occ_syntax.declared.scope.Kind.{Kind}
use Rattle.occ_engine_known.specs.occ_syntax.declared.scope.Program.{Program}
use Rattle.occ_engine_known.specs.occ_syntax.Scopes.{Environment, environment}
use Rattle.occ_engine_known.specs.occ_syntax.Tree.{Tree}
use Rattle.occ_engine_known.specs.occ_syntax.Types.{scope_kept, types_kept}
use Rattle.occ_engine_known.specs.occ_syntax.View.{tree}

-- the law of printed parts
abbrev pub PartLaw : Type 0
PartLaw = (names : List (List ℕ)) (P : ℕ → Place) (scope : List (Name × Kind)) (part : Tree) (front : List ℕ) (number : ℕ) → IsPrintablePart names P scope part
    → PartIsNarrow part → PartReadsBack names P scope front number part

-- a process that keeps types where a part of another one stands, with names of the table, reads back there
pub reads_back_there : PartLaw → (names : List (List ℕ)) → IsLeft names → (path : List ℕ) (S : List (Name × Kind)) (p part : Tree) → scope_kept S ≡ true
    → types_kept p (environment S) ≡ true → NamesAreBelow (length names) S p → types_kept part (environment_at path (environment S) p) ≡ true
    → declares (is_below (length names)) part ≡ true → PartIsNarrow part → PartPrintsBack names (scope_list path S p) part
reads_back_there law names left path S p part kept types below part_types_kept declared narrow =
    let there = left_places names left in
    let s = scopes path S p kept types in
    let scope = scope_list path S p in
    let here = subst (λ (Γ : Environment). types_kept part Γ ≡ true) (sym s.gives) part_types_kept in
    let known : IsKnownPart (length names) scope part = kept_known (length names) scope part s.kept here (record {
      scope_names = scope_pass (is_below (length names)) path S p below.scope_names below.declared;
      declared = declared;
    }) in
    let printable : IsPrintablePart names there.0 scope part = record {
      table = there.1;
      known = known.known;
      scope_known = known.scope_known;
      scope_kept_is = known.scope_kept_is;
      types = known.types;
    } in
    (there.0, there.1, λ front number. law names there.0 scope part front number printable narrow)

pub part_reads_back : PartLaw → (b : Bound) (names all : List (List ℕ)) (program : Program) (path : List ℕ) (part : Tree) → IsAcceptedText b names program
    → IsLeft all → Extends names all → part_at path (tree program.body) ≡ Some part → PartIsNarrow part
    → PartPrintsBack all (scope_list path program.params (tree program.body)) part
part_reads_back law b names all program path part is left e there narrow =
    let t = is.accepted.typed in
    let below = names_there b names all program is e in
    reads_back_there law all left path program.params (tree program.body) part t.scope t.types below
    (part_types path (environment program.params) (tree program.body) part t.types there)
    (part_pass (is_below (length all)) path (tree program.body) part there below.declared) narrow
