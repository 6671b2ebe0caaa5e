-- A program that was read can be printed, from each table of places that begins with the one that reading left.
use Rattle.std.proofs.Common.{◌≡◌, ℕ, ◌<◌, true, List, length, None, sym, subst, arith}
use Rattle.std.specs.List.{AllByRecursion}
use Rattle.occ_engine_known.specs.occ_base.declared.names.Name.{Name}
use Rattle.occ_engine_known.specs.Known.{IsKnownPart, NamesAreBelow}
use Rattle.occ_engine_written.proofs.Known.{grown, names_known}
use Rattle.occ_engine_written.proofs.Plain.{by_itself, header_marked, name_plain}
use Rattle.occ_renamed.specs.occ_lex.Symbols.{Extends}
use Rattle.occ_renamed.proofs.from_lex.Interned.{extends_trans, longer}
use Rattle.occ_renamed.specs.occ_parse_forms.Lines.{IsMarked}
use Rattle.occ_renamed.specs.occ_parse.declared.bound.Bound.{Bound}
use Rattle.occ_renamed.specs.occ_parse.Reading.{IsRead, names_in}
use Rattle.occ_renamed.specs.occ_parse_rules.Places.{Place}
use Rattle.occ_renamed.specs.occ_parse_unroll.Numbers.{number_in}
use Rattle.occ_script_table.specs.occ_print_back.Placed.{IsTable}
use Rattle.occ_script_table.specs.occ_print_back.Program.{IsPrintable}
use Rattle.occ_engine_known.specs.occ_syntax.declared.scope.Kind.{Kind}
use Rattle.occ_engine_known.specs.occ_syntax.declared.scope.Program.{Program}
use Rattle.occ_engine_known.specs.occ_syntax.Scopes.{environment}
use Rattle.occ_engine_known.specs.occ_syntax.Tree.{Tree}
use Rattle.occ_engine_known.specs.occ_syntax.Types.{scope_kept, types_kept}
use Rattle.occ_engine_known.specs.occ_syntax.View.{tree}
use Rattle.occ_renamed.specs.occ_usage.Accepted.{IsTyped}

abbrev pub Table : Type 0
Table = List (List ℕ)

-- ---- the laws that this stands on

abbrev pub NameLaw : Type 0
NameLaw = (b : Bound) (text : List ℕ) (old new : Table) (name : Name) (params : List (Name × Kind)) (body : Tree) (numbers : List ℕ)
    → IsRead b text old new name params body numbers → name.0 < length new

abbrev pub KeptLaw : Type 0
KeptLaw = (n : ℕ) (S : List (Name × Kind)) (p : Tree) → scope_kept S ≡ true → types_kept p (environment S) ≡ true → NamesAreBelow n S p → IsKnownPart n S p

module _ (b : Bound) (text : List ℕ) (old names : Table) (from : Program) (lines : List ℕ)
    (r : IsRead b text old names from.name from.params (tree from.body) lines) where
  pub names_below : NamesAreBelow (length names) from.params (tree from.body)
  names_below = let known = names_known b text old names from lines r in record { scope_names = known.params; declared = known.body }

  module _ (all : Table) (P : ℕ → Place) (table : IsTable all P) (e : Extends names all) where
    text_names : Extends (names_in text old) all
    text_names = extends_trans (names_in text old) names all (grown b text old names from.name from.params (tree from.body) lines r) e

    pub printable : NameLaw → KeptLaw → IsTyped from → NamesAreBelow (length all) from.params (tree from.body) → IsPrintable all P from.name.0 from.params (tree from.body)
    printable name kept typed below =
        let known = kept (length all) from.params (tree from.body) typed.scope typed.types below in
        let low = name b text old names from.name from.params (tree from.body) lines r in
        let plain = name_plain b text old all r.draft r.laid_out text_names in
        record {
          table = table;
          known = record { name_is = omega (arith, low, longer names all e); params_are = known.scope_known; body_is = known.known };
          plain = subst (λ (n : Name). (P n.0).element ≡ None) (sym r.name_is) (by_itself all P table _ plain);
          marked = subst (AllByRecursion (λ (q : Name × Kind). IsMarked q.1)) (sym r.params_are) (header_marked b text old all r.draft r.laid_out text_names (number_in names));
          scope = typed.scope;
          types = typed.types;
        }
