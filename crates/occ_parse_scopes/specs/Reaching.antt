-- The elements that an item reaches as its index takes its values, by arithmetic alone.
use Rattle.std.specs.Prelude.{ℕ, ◌+◌, ◌-◌, ◌==◌, Bool, false, ◌&&◌, ◌||◌, nat_lt, nat_le, if◌then◌else◌, List, [], ◌∷◌, Option, Some, None, is_none}
use Rattle.std.specs.List.{list_any}
use Rattle.occ_syntax.specs.occ_base.declared.names.Name.{Name}
use Rattle.occ_parse_forms.specs.declared.form.Item.{Item}
use Rattle.occ_parse_forms.specs.declared.phrase.Index.{Index}
use Rattle.occ_parse_forms.specs.declared.phrase.Index.TheVariants as index
use Rattle.occ_parse_rules.specs.declared.sort.Sort.{Sort}
use Rattle.occ_parse_rules.specs.declared.sort.Sort.TheVariants as sort
use Rattle.occ_parse_rules.specs.Places.{Sorts, sort_at, element_at, sort_of_place, numbers_from}
use Rattle.occ_parse_scopes.specs.declared.reach.Reach.{Reach}

abbrev pub at_least_one : ℕ → ℕ
at_least_one n = if n == 0 then 1 else n

-- an item whose index names a replicator of that sort, with what is added to it and what is taken from it
abbrev pub counter_reach : Name → Name → ℕ → ℕ → Option Sort → Option Reach
counter_reach x i more less (Some (sort.Counter b n)) = Some (record { name = x; index = Some i; base = b; count = at_least_one n; more = more; less = less })
counter_reach x i more less (Some (sort.Variable width)) = None
counter_reach x i more less (Some (sort.Channel width mark)) = None
counter_reach x i more less None = None

abbrev pub reach_by : Sorts → Name → Option Index → Option Reach
reach_by Γ x None = None
reach_by Γ x (Some (index.Number k)) = Some (record { name = x; index = None; base = 0; count = 1; more = k; less = 0 })
reach_by Γ x (Some (index.Name i)) = counter_reach x i 0 0 (sort_at Γ i.0 None)
reach_by Γ x (Some (index.Plus i k)) = counter_reach x i k 0 (sort_at Γ i.0 None)
reach_by Γ x (Some (index.Minus i k)) = counter_reach x i 0 k (sort_at Γ i.0 None)

-- what an item reaches; None where its index doesn't count as one
abbrev pub reach_of : Sorts → Item → Option Reach
reach_of Γ i = reach_by Γ i.name i.index

-- the element at a value, where it isn't below zero
abbrev pub reached : Reach → ℕ → Option ℕ
reached r v = if nat_le r.less (v + r.more) then Some (v + r.more - r.less) else None

-- the element at a value isn't in scope
abbrev pub misses : Sorts → Reach → ℕ → Bool
misses Γ r v = is_none (sort_of_place Γ (element_at r.name.0 (reached r v)))

abbrev pub leaves : Sorts → Reach → Bool
leaves Γ r = list_any (misses Γ r) (numbers_from r.base r.count)

abbrev pub leaves_if : Sorts → Option Reach → Bool
leaves_if Γ None = false
leaves_if Γ (Some r) = leaves Γ r

-- ---- two items

abbrev pub same_index : Option Name → Option Name → Bool
same_index None j = false
same_index (Some i) None = false
same_index (Some i) (Some j) = i.0 == j.0

-- one element at one value of the index of both
abbrev pub meet_together : Reach → Reach → Bool
meet_together a b = (a.more + b.less == b.more + a.less) && nat_lt a.less (a.base + a.count + a.more)

-- One element at a value of each. Both sides are moved by what is taken from them, so that nothing is below zero.
abbrev pub meet_apart : Reach → Reach → Bool
meet_apart a b =
    let first = a.base + a.more + b.less in
    let second = b.base + b.more + a.less in
    let none = a.less + b.less in
    (nat_lt first (second + b.count) && nat_lt second (first + a.count)) && (nat_lt none (first + a.count) && nat_lt none (second + b.count))

abbrev pub meets : Reach → Reach → Bool
meets a b = a.name.0 == b.name.0 && (if same_index a.index b.index then meet_together a b else meet_apart a b)

abbrev pub may_meet_any : Option Reach → Option Reach → Bool
may_meet_any None o = false
may_meet_any (Some a) None = false
may_meet_any (Some a) (Some b) = meets a b

-- two of a list that may meet
abbrev pub some_pair : List (Option Reach) → Bool
some_pair [] = false
some_pair (o ∷ os) = list_any (may_meet_any o) os || some_pair os
