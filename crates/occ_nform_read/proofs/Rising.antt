-- Events whose ranks increase, one after another.
use Rattle.std.proofs.Common.{◌≡◌, ℕ, suc, ◌+◌, ◌<◌, ◌≤◌, Bool, true, false, leb, ◌&&◌, List, length, get_or, drop, sym, ap, ◌∙◌, arith}
use Rattle.std.proofs.Math.Seq.{drop-cons}
use Rattle.std.proofs.lemmas.Bool.{le-leb, lt-leb}
use Rattle.std.proofs.lemmas.List.{drop_all}
use Rattle.occ_syntax.specs.occ_base.declared.event.Event.{Event}
use Rattle.occ_syntax.specs.occ_base.declared.names.Name.{Name}
use Rattle.occ_syntax.specs.declared.scope.Kind.{Kind}
use Rattle.occ_nform_table.specs.Lines.{rank, is_rising}

rising_step : (params : List (Name × Kind)) (floor : ℕ) (events : List Event) (i : ℕ) (e : Event) → i < length events
    → is_rising params floor (drop i events) ≡ (leb floor (rank params (get_or events i e)) && is_rising params (rank params (get_or events i e) + 1) (drop (suc i) events))
unfolding is_rising
rising_step params floor events i e within = ap (is_rising params floor) (drop-cons events i e within)

pub rising_stops : (params : List (Name × Kind)) (floor : ℕ) (events : List Event) (i : ℕ) (e : Event) (r : ℕ) (whole : Bool) → i < length events → r ≡ rank params (get_or events i e) → r < floor
    → is_rising params floor (drop i events) ≡ whole → false ≡ whole
rising_stops params floor events i e r whole within is low so_far =
    let less : leb floor (rank params (get_or events i e)) ≡ false = lt-leb floor (rank params (get_or events i e)) (omega (arith, is, low)) in
    sym (rising_step params floor events i e within ∙ ap (λ b. b && is_rising params (rank params (get_or events i e) + 1) (drop (suc i) events)) less) ∙ so_far

pub rising_goes : (params : List (Name × Kind)) (floor : ℕ) (events : List Event) (i : ℕ) (e : Event) (r : ℕ) (whole : Bool) → i < length events → r ≡ rank params (get_or events i e) → floor ≤ r
    → is_rising params floor (drop i events) ≡ whole → is_rising params (r + 1) (drop (i + 1) events) ≡ whole
rising_goes params floor events i e r whole within is high so_far =
    let more : leb floor (rank params (get_or events i e)) ≡ true = le-leb floor (rank params (get_or events i e)) (omega (arith, is, high)) in
    let one_more : i + 1 ≡ suc i = omega arith in
    ap (λ n. is_rising params (n + 1) (drop (i + 1) events)) is
    ∙ ap (λ n. is_rising params (rank params (get_or events i e) + 1) (drop n events)) one_more
    ∙ sym (rising_step params floor events i e within ∙ ap (λ b. b && is_rising params (rank params (get_or events i e) + 1) (drop (suc i) events)) more) ∙ so_far

pub rising_ends : (params : List (Name × Kind)) (floor : ℕ) (events : List Event) (i : ℕ) (whole : Bool) → length events ≤ i → is_rising params floor (drop i events) ≡ whole → true ≡ whole
unfolding is_rising
rising_ends params floor events i whole past so_far = sym (ap (is_rising params floor) (drop_all i events past)) ∙ so_far
