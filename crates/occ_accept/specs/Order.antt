use Rattle.std.specs.Prelude.{ℕ, Bool, true, List, [], ◌∷◌, ◌&&◌}
use Rattle.std.specs.List.{list_all, list_any}
use Rattle.std.specs.Ordering.{is_lt, eq_by_cmp, nat_cmp, on, then_cmp}
use Rattle.std.specs.declared.cmp.Ordering.{Ordering}
use Rattle.occ_base.specs.declared.event.Dir.{Dir}
use Rattle.occ_base.specs.declared.event.Dir.TheVariants.{Input, Output}
use Rattle.occ_base.specs.declared.event.Event.{Event}

-- Input goes before Output
abbrev pub dir_number : Dir → ℕ
dir_number Input = 0
dir_number Output = 1

-- events by the number of the channel's name, then Input before Output, then by value
abbrev pub event_cmp : Event → Event → Ordering
event_cmp = then_cmp (on (λ e. e.chan.0) nat_cmp) (then_cmp (on (λ e. dir_number e.dir) nat_cmp) (on (λ e. e.value) nat_cmp))

-- each item goes before all later ones
abbrev pub strict : {A : Type 0} → (A → A → Ordering) → List A → Bool
strict R [] = true
strict R (x ∷ xs) = list_all (λ y. is_lt (R x y)) xs && strict R xs

-- the item is in the list
abbrev pub is_in : {A : Type 0} → (A → A → Ordering) → List A → A → Bool
is_in R xs x = list_any (eq_by_cmp R x) xs
