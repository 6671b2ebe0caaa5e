-- The layout of lines doesn't see names.
use Rattle.std.proofs.Common.{◌≡◌, ℕ, ◌+◌, ◌==◌, Bool, true, false, not, ◌&&◌, ◌||◌, nat_le, nat_lt, if◌then◌else◌, List, [], ◌∷◌, map, Some, None, refl, ap, ap₂, ◌∙◌}
use Rattle.std.specs.List.{list_any}
use Rattle.occ_renamed.specs.occ_parse_forms.Shape.{Shape, header, close, skip, stop, assign, receive, send, group, declare, condition, guard, nothing}
use Rattle.occ_renamed.specs.occ_parse_layout.declared.placed.Frame.{Frame}
use Rattle.occ_renamed.specs.occ_parse_layout.declared.placed.Frame.TheVariants as frame
use Rattle.occ_renamed.specs.occ_parse_layout.Layout.{closes, fits, has_child, has_process, is_close, is_declaration, is_free, is_good, is_header, is_placed, is_served, kind_of, least_bad, least_bad_behind, may_repeat, needs_child, outermost, room_at, stands_outermost, takes}
use Rattle.occ_renamed.specs.Renamed.{shape_renamed}
use Rattle.occ_renamed.specs.occ_parse_rules.Forest.{Laid}
use Rattle.occ_read_renamed.proofs.Laid.{laid_renamed}

module _ (f : ℕ → ℕ) where
  abbrev Ren : List Laid → List Laid
  Ren ls = map (laid_renamed f) ls

  kind_same : (s : Shape) → kind_of (shape_renamed f s) ≡ kind_of s
  kind_same (header name params) = refl
  kind_same close = refl
  kind_same skip = refl
  kind_same stop = refl
  kind_same (assign xs es) = refl
  kind_same (receive c x) = refl
  kind_same (send c e) = refl
  kind_same (group g None) = refl
  kind_same (group g (Some times)) = refl
  kind_same (declare k ds) = refl
  kind_same (condition e) = refl
  kind_same (guard e w) = refl
  kind_same nothing = refl

  closes_same : (q : Laid) → closes (laid_renamed f q) ≡ closes q
  closes_same q = ap (λ k. q.level == 0 && is_close k) (kind_same q.shape)

  any_closes : (ls : List Laid) → list_any closes (Ren ls) ≡ list_any closes ls
  any_closes [] = refl
  any_closes (q ∷ ls) = ap₂ (λ b c. b || c) (closes_same q) (any_closes ls)

  room_same : (g : Frame) (before : List Laid) (level : ℕ) → room_at g (Ren before) level ≡ room_at g before level
  room_same g [] level = refl
  room_same g (q ∷ before) level =
      let here = room_same g before level in
      let above = room_same g before q.level in
      let k = kind_same q.shape in
      λ i. if nat_le level q.level then here i else (if level == q.level + 1 then takes (above i) (k i) else outermost frame.Program 0)

  free_same : (before : List Laid) (level : ℕ) → is_free (Ren before) level ≡ is_free before level
  free_same [] level = refl
  free_same (q ∷ before) level =
      ap₂ (λ k b. if nat_lt q.level level then true else (if q.level == level && not (is_declaration k) then false else b)) (kind_same q.shape) (free_same before level)

  outermost_same : (g : Frame) (before : List Laid) (s : Shape) → stands_outermost g (Ren before) (kind_of (shape_renamed f s)) ≡ stands_outermost g before (kind_of s)
  outermost_same frame.Part before s = refl
  outermost_same frame.Program [] s = ap (λ k. is_header k) (kind_same s)
  outermost_same frame.Program (q ∷ before) s = ap₂ (λ k b. is_close k && not b) (kind_same s) (any_closes (q ∷ before))
  outermost_same frame.Plain [] s = ap (λ k. is_header k) (kind_same s)
  outermost_same frame.Plain (q ∷ before) s = ap₂ (λ k b. is_close k && not b) (kind_same s) (any_closes (q ∷ before))

  placed_same : (g : Frame) (before : List Laid) (level : ℕ) (s : Shape) → is_placed g (Ren before) level (kind_of (shape_renamed f s)) ≡ is_placed g before level (kind_of s)
  placed_same g before level s =
      let outer = outermost_same g before s in
      let room = room_same g before level in
      let free = free_same before level in
      let k = kind_same s in
      λ i. if level == 0 then outer i else fits (room i) (free i) (k i) && may_repeat g (k i)

  child_same : (more : Bool) (level : ℕ) (after : List Laid) → has_child more level (Ren after) ≡ has_child more level after
  child_same more level [] = refl
  child_same more level (q ∷ after) = ap (λ b. if nat_le q.level level then false else (if q.level == level + 1 then true else b)) (child_same more level after)

  process_same : (more : Bool) (level : ℕ) (after : List Laid) → has_process more level (Ren after) ≡ has_process more level after
  process_same more level [] = refl
  process_same more level (q ∷ after) =
      ap₂ (λ k b. if nat_lt q.level level then false else (if q.level == level && not (is_declaration k) then true else b)) (kind_same q.shape) (process_same more level after)

  module _ (g : Frame) (more : Bool) (before : List Laid) (level : ℕ) (after : List Laid) where
    other_served : (s : Shape) → (if needs_child (takes (room_at g before level) (kind_of s)) then has_child more level (Ren after) else true)
        ≡ (if needs_child (takes (room_at g before level) (kind_of s)) then has_child more level after else true)
    other_served s = ap (λ b. if needs_child (takes (room_at g before level) (kind_of s)) then b else true) (child_same more level after)

    served_behind : (s : Shape) → is_served more (takes (room_at g before level) (kind_of s)) (kind_of s) level (Ren after)
        ≡ is_served more (takes (room_at g before level) (kind_of s)) (kind_of s) level after
    served_behind (header name params) = ap₂ (λ b c. b && (more || c)) (child_same more level after) (any_closes after)
    served_behind close = other_served close
    served_behind skip = other_served skip
    served_behind stop = other_served stop
    served_behind (assign xs es) = other_served (assign xs es)
    served_behind (receive c x) = other_served (receive c x)
    served_behind (send c e) = other_served (send c e)
    served_behind (group w times) = other_served (group w times)
    served_behind (declare k ds) = process_same more level after
    served_behind (condition e) = other_served (condition e)
    served_behind (guard e w) = other_served (guard e w)
    served_behind nothing = other_served nothing

  good_same : (g : Frame) (more : Bool) (before : List Laid) (r : Laid) (after : List Laid)
      → is_good g more (Ren before) (laid_renamed f r) (Ren after) ≡ is_good g more before r after
  good_same g more before r after =
      let placed = placed_same g before r.level r.shape in
      let room = room_same g before r.level in
      let k = kind_same r.shape in
      let moved : is_served more (takes (room_at g (Ren before) r.level) (kind_of (shape_renamed f r.shape))) (kind_of (shape_renamed f r.shape)) r.level (Ren after)
      ≡ is_served more (takes (room_at g before r.level) (kind_of r.shape)) (kind_of r.shape) r.level (Ren after) =
      λ i. is_served more (takes (room i) (k i)) (k i) r.level (Ren after) in
      ap₂ (λ b c. b && c) placed
      (moved ∙ served_behind g more before r.level after r.shape)

  behind_same : (g : Frame) (more : Bool) (before after : List Laid) → least_bad_behind g more (Ren before) (Ren after) ≡ least_bad_behind g more before after
  behind_same g more before [] = refl
  behind_same g more before (r ∷ after) =
      ap₂ (λ b o. if b then o else Some r.number) (good_same g more before r after) (behind_same g more (r ∷ before) after)

  pub least_same : (g : Frame) (more : Bool) (ls : List Laid) → least_bad g more (Ren ls) ≡ least_bad g more ls
  least_same g more [] = refl
  least_same g more (r ∷ ls) = behind_same g more [] (r ∷ ls)
