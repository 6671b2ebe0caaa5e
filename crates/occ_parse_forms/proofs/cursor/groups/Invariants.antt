use Rattle.std.proofs.Common.{◌≡◌, ◌≤◌, ◌-◌, ◌++◌, map, take, drop}
use Rattle.occ_parse_forms.specs.Symbols.{groups_of, is_comma, split}
use Rattle.occ_parse_forms.proofs.cursor.groups.Given as goal

-- the groups so far, and those of the symbols from the open group on, are those of all
abbrev pub invariant-loop-i : goal.invariant-loop-i
invariant-loop-i l = record {
  within : l.start ≤ l.i;
  groups : map (λ group. group.now) l.groups.items ++ split is_comma (take (l.i - l.start) (drop l.start l.symbols)) (drop l.i l.symbols) ≡ groups_of l.symbols;
}
