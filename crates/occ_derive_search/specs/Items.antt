-- A process with items, taken apart.
use Rattle.std.specs.Prelude.{◌≡◌, Bool, true, false}
use Rattle.occ_derive_search.specs.declared.longer.Items.{Items}
use Rattle.occ_derive_search.specs.declared.longer.Items.TheVariants as items
use Rattle.occ_syntax.specs.Tree.{Tree, assign, seq, par, select, alt}
use Rattle.occ_syntax.specs.View.{branches, cases, exps, in_alternatives, in_choices, in_procs, numbers, trees}

-- it may have items
abbrev pub has_items : Tree → Bool
has_items (assign xs es) = true
has_items (seq ps) = true
has_items (par ps) = true
has_items (select cs) = true
has_items (alt bs) = true
has_items _ = false

abbrev pub IsOpened : Items → Tree → Type 0
IsOpened (items.Assign vars values) p = p ≡ assign (numbers vars) (exps values)
IsOpened (items.Seq parts) p = p ≡ seq (trees (in_procs parts))
IsOpened (items.Par parts) p = p ≡ par (trees (in_procs parts))
IsOpened (items.If choices) p = p ≡ select (cases (in_choices choices))
IsOpened (items.Alt alternatives) p = p ≡ alt (branches (in_alternatives alternatives))
IsOpened items.Other p = has_items p ≡ false
