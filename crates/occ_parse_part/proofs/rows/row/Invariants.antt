use Rattle.std.proofs.Common.{◌≡◌, ◌-◌, ◌++◌, ℕ, List}
use Rattle.occ_parse_forms.specs.occ_lex.Symbols.{Extends}
use Rattle.occ_parse_rules.specs.Places.{elements_from}
use Rattle.occ_parse.specs.occ_parse_unroll.Elements.{with_places}
use Rattle.occ_parse_part.specs.Elements.{row_in}
use Rattle.occ_parse_part.proofs.rows.row.Given as goal

-- the names so far and those of the elements that are left are all
abbrev pub invariant-loop-k : goal.invariant-loop-k
invariant-loop-k l = record {
  whole : (t : List (List ℕ)) → Extends l.names t → l.row.items ++ row_in t l.array.0 l.k (l.count - l.k) ≡ row_in t l.array.0 0 l.count;
  table : with_places l.names (elements_from l.array.0 l.k (l.count - l.k)) ≡ with_places l.fn.names (elements_from l.array.0 0 l.count);
  grown : Extends l.fn.names l.names;
}
