use Rattle.std.proofs.Common.{◌≡◌, ◌<◌, ℕ, List, drop}
use Rattle.occ_syntax.specs.occ_base.Names.{IsDistinct}
use Rattle.occ_parse_forms.specs.occ_lex.Symbols.{Extends}
use Rattle.occ_parse_part.specs.Elements.{elements_in, with_arrays, with_arrays_in}
use Rattle.occ_parse_part.specs.Seen.{seen}
use Rattle.occ_parse_part.proofs.rows.elements.Given as goal

-- the elements so far and those of the arrays that are left are all
abbrev pub invariant-loop-array : goal.invariant-loop-array
invariant-loop-array l = record {
  whole : (t : List (List ℕ)) → Extends l.names t → with_arrays_in t (seen l.elements) (drop l.array-index l.arrays) ≡ elements_in t l.arrays;
  table : with_arrays l.names (drop l.array-index l.arrays) ≡ with_arrays l.fn.names l.arrays;
  grown : Extends l.fn.names l.names;
  distinct : 0 < l.array-index → IsDistinct l.names;
}
