-- A control tree that names, writes and uses no more than another, and what keeps the rules with it.
use Rattle.occ_meaning.specs.occ_base.declared.event.Dir.{Dir}
use Rattle.occ_meaning.specs.occ_base.declared.width.Width.{Width}
use Rattle.occ_meaning.proofs.Facts.{clash, false_not_true}
use Rattle.occ_run_steps.specs.Control.{Control, Controls, after, all_done, and_control, both, channel, done, local, no_control, unbegun}
use Rattle.occ_run_steps.specs.Kept.{IsApart, names_free, some_name_free, some_use, some_write, uses, writes}
use Rattle.occ_run_steps.specs.Settled.{all_settled, begun, begun_all, begun_choice, begun_turn, in_channel, in_variable, settled, side_by_side, then_turn}
use Rattle.occ_meaning.specs.occ_syntax.Eval.{is_true}
use Rattle.occ_meaning.specs.occ_syntax.Names.{names as names_of, end_in_cases, end_in_some, free, free_in_cases, free_in_some, uses_end, written, written_in_cases, written_in_some}
use Rattle.occ_meaning.specs.occ_syntax.Scopes.{Environment, Values, with_name, with_value}
use Rattle.occ_meaning.specs.occ_syntax.Tree.{Cases, Tree, Trees, alt, and_case, and_tree, assign, connect, declare, no_case, no_tree, par, receive, select, send, seq, skip, stop}
use Rattle.occ_meaning.specs.occ_syntax.declared.scope.Kind.TheVariants.{Chan, Var}
use Rattle.std.proofs.Common.{Bool, None, false, if◌then◌else◌, inl, inr, not, refl, true, ℕ, ◌&&◌, ◌==◌, ◌||◌, ◌≡◌}
use Rattle.std.proofs.lemmas.Bool.{and_from, and_parts, false_from_ne_true, or_cases, or_left, or_right}

-- the first names, writes and uses no more than the second
pub record Less (D C : Control) : Type 0 where
  pub names : (x : ℕ) → names_free D x ≡ true → names_free C x ≡ true
  pub writing : (x : ℕ) → writes D x ≡ true → writes C x ≡ true
  pub using : (c : ℕ) (d : Dir) → uses D c d ≡ true → uses C c d ≡ true

-- each is so of itself
pub less_itself : (C : Control) → Less C C
less_itself C = record { names = λ x h. h; writing = λ x h. h; using = λ c d h. h }

-- one below a second below a third
pub less_through : (B C D : Control) → Less B C → Less C D → Less B D
less_through B C D h k = record { names = λ x i. k.names x (h.names x i); writing = λ x i. k.writing x (h.writing x i); using = λ c d i. k.using c d (h.using c d i) }

-- what is over names nothing
pub done_less : (C : Control) → Less done C
done_less C = record { names = λ x h. false_not_true h; writing = λ x h. false_not_true h; using = λ c d h. false_not_true h }

or_more : (a b p q : Bool) → (a ≡ true → p ≡ true) → (b ≡ true → q ≡ true) → (a || b) ≡ true → (p || q) ≡ true
or_more a b p q f g h = elim (or_cases a b h) [ inl k ↦ or_left p q (f k) | inr k ↦ or_right p q (g k) ]

and_more : (a b c : Bool) → (b ≡ true → c ≡ true) → (a && b) ≡ true → (a && c) ≡ true
and_more a b c f h = let k = and_parts a b h in and_from a c k.0 (f k.1)

-- with processes behind
pub less_after : (D C : Control) (ps : Trees) → Less D C → Less (after D ps) (after C ps)
less_after D C ps h = record {
  names = λ x i. or_more (names_free D x) (free_in_some ps x) (names_free C x) (free_in_some ps x) (h.names x) (λ j. j) i;
  writing = λ x i. or_more (writes D x) (written_in_some ps x) (writes C x) (written_in_some ps x) (h.writing x) (λ j. j) i;
  using = λ c d i. or_more (uses D c d) (end_in_some ps c d) (uses C c d) (end_in_some ps c d) (h.using c d) (λ j. j) i;
}

-- under a variable
pub less_local : (D C : Control) (x : ℕ) (w : Width) (v u : ℕ) → Less D C → Less (local x w v D) (local x w u C)
less_local D C x w v u h = record {
  names = λ y i. and_more (not (y == x)) (names_free D y) (names_free C y) (h.names y) i;
  writing = λ y i. and_more (not (y == x)) (writes D y) (writes C y) (h.writing y) i;
  using = λ c d i. and_more (not (c == x)) (uses D c d) (uses C c d) (h.using c d) i;
}

-- under a channel
pub less_channel : (D C : Control) (x : ℕ) (w : Width) → Less D C → Less (channel x w D) (channel x w C)
less_channel D C x w h = record {
  names = λ y i. and_more (not (y == x)) (names_free D y) (names_free C y) (h.names y) i;
  writing = λ y i. and_more (not (y == x)) (writes D y) (writes C y) (h.writing y) i;
  using = λ c d i. and_more (not (c == x)) (uses D c d) (uses C c d) (h.using c d) i;
}

-- at once
pub less_both : (D C : Control) (Ds Cs : Controls) → Less D C → Less (both Ds) (both Cs) → Less (both (and_control D Ds)) (both (and_control C Cs))
less_both D C Ds Cs h k = record {
  names = λ x i. or_more (names_free D x) (some_name_free Ds x) (names_free C x) (some_name_free Cs x) (h.names x) (k.names x) i;
  writing = λ x i. or_more (writes D x) (some_write Ds x) (writes C x) (some_write Cs x) (h.writing x) (k.writing x) i;
  using = λ c d i. or_more (uses D c d) (some_use Ds c d) (uses C c d) (some_use Cs c d) (h.using c d) (k.using c d) i;
}

-- trees that are apart stay so as they shrink
pub apart_less : (B C D E : Control) → Less B C → Less D E → IsApart C E → IsApart B D
apart_less B C D E h k apart = record {
  first_writes = λ x i. false_from_ne_true (names_free D x) (λ j. clash (names_free E x) (k.names x j) (apart.first_writes x (h.writing x i)));
  second_writes = λ x i. false_from_ne_true (names_free B x) (λ j. clash (names_free C x) (h.names x j) (apart.second_writes x (k.writing x i)));
  ends = λ c d i. false_from_ne_true (uses D c d) (λ j. clash (uses E c d) (k.using c d j) (apart.ends c d (h.using c d i)));
}

-- ---- settling names no more

then_less : (C B : Control) (ps : Trees) (next : Control) → Less C B → Less next (unbegun (seq ps)) → Less (then_turn C ps next) (after B ps)
then_less done B ps next h k = record {
  names = λ x i. or_right (names_free B x) (free_in_some ps x) (k.names x i);
  writing = λ x i. or_right (writes B x) (written_in_some ps x) (k.writing x i);
  using = λ c d i. or_right (uses B c d) (end_in_some ps c d) (k.using c d i);
}
then_less (unbegun p) B ps next h k = less_after (unbegun p) B ps h
then_less (after C qs) B ps next h k = less_after (after C qs) B ps h
then_less (both Cs) B ps next h k = less_after (both Cs) B ps h
then_less (local x w v C) B ps next h k = less_after (local x w v C) B ps h
then_less (channel c w C) B ps next h k = less_after (channel c w C) B ps h

side_case : (b : Bool) (Cs : Controls) → Less (if b then done else both Cs) (both Cs)
side_case true Cs = done_less (both Cs)
side_case false Cs = less_itself (both Cs)

in_variable_less : (x : ℕ) (w : Width) (v : ℕ) (C : Control) → Less (in_variable x w v C) (local x w v C)
in_variable_less x w v done = done_less (local x w v done)
in_variable_less x w v (unbegun p) = less_itself (local x w v (unbegun p))
in_variable_less x w v (after C qs) = less_itself (local x w v (after C qs))
in_variable_less x w v (both Cs) = less_itself (local x w v (both Cs))
in_variable_less x w v (local y u n C) = less_itself (local x w v (local y u n C))
in_variable_less x w v (channel c u C) = less_itself (local x w v (channel c u C))

in_channel_less : (c : ℕ) (w : Width) (C : Control) → Less (in_channel c w C) (channel c w C)
in_channel_less c w done = done_less (channel c w done)
in_channel_less c w (unbegun p) = less_itself (channel c w (unbegun p))
in_channel_less c w (after C qs) = less_itself (channel c w (after C qs))
in_channel_less c w (both Cs) = less_itself (channel c w (both Cs))
in_channel_less c w (local y u n C) = less_itself (channel c w (local y u n C))
in_channel_less c w (channel b u C) = less_itself (channel c w (channel b u C))

either_less : (b : Bool) (C D B : Control) → Less C B → Less D B → Less (if b then C else D) B
either_less true C D B h k = h
either_less false C D B h k = k

-- an input or an output is an ALT of that guard
guard_more : (a : Bool) → (((false || a) || false) || false) ≡ true → a ≡ true
guard_more true h = refl
guard_more false h = h

guard_writes : (a : Bool) → ((a || false) || false) ≡ true → a ≡ true
guard_writes true h = refl
guard_writes false h = h

mutual
  -- a process begins as a tree that names no more
  pub begun_less : (Γ : Environment) (s : Values) (p : Tree) → Less (begun Γ s p) (unbegun p)
  begun_less Γ s skip = done_less (unbegun skip)
  begun_less Γ s stop = less_itself (unbegun stop)
  begun_less Γ s (assign xs es) = less_itself (unbegun (assign xs es))
  begun_less Γ s (receive c y) = record {
    names = λ x h. guard_more (x == c || x == y) h;
    writing = λ x h. guard_writes (x == y) h;
    using = λ b d h. guard_writes (uses_end (receive c y) b d) h;
  }
  begun_less Γ s (send c e) = record {
    names = λ x h. guard_more (free (send c e) x) h;
    writing = λ x h. false_not_true h;
    using = λ b d h. guard_writes (uses_end (send c e) b d) h;
  }
  begun_less Γ s (seq ps) = turn_less Γ s ps
  begun_less Γ s (par ps) = let Cs : Controls = begun_all Γ s ps in
      less_through (side_by_side Cs) (both Cs) (unbegun (par ps)) (side_case (all_done Cs) Cs) (all_begun_less Γ s ps)
  begun_less Γ s (select cs) = choice_less Γ s cs
  begun_less Γ s (alt bs) = less_itself (unbegun (alt bs))
  begun_less Γ s (declare x w p) = less_itself (unbegun (declare x w p))
  begun_less Γ s (connect c w p) =
      let C : Control = begun (with_name Γ c (Chan w None)) s p in
      let k = less_through (in_channel c w C) (channel c w C) (channel c w (unbegun p)) (in_channel_less c w C) (less_channel C (unbegun p) c w (begun_less (with_name Γ c (Chan w None)) s p)) in
      record { names = k.names; writing = k.writing; using = k.using }

  turn_less : (Γ : Environment) (s : Values) (ps : Trees) → Less (begun_turn Γ s ps) (unbegun (seq ps))
  turn_less Γ s no_tree = done_less (unbegun (seq no_tree))
  turn_less Γ s (and_tree p ps) =
      let k = then_less (begun Γ s p) (unbegun p) ps (begun_turn Γ s ps) (begun_less Γ s p) (turn_less Γ s ps) in
      record { names = k.names; writing = k.writing; using = k.using }

  -- and so do processes at once
  pub all_begun_less : (Γ : Environment) (s : Values) (ps : Trees) → Less (both (begun_all Γ s ps)) (unbegun (par ps))
  all_begun_less Γ s no_tree = record { names = λ x h. h; writing = λ x h. h; using = λ c d h. h }
  all_begun_less Γ s (and_tree p ps) =
      let h = begun_less Γ s p in
      let k = all_begun_less Γ s ps in
      let C : Control = begun Γ s p in
      let Cs : Controls = begun_all Γ s ps in
      record {
        names = λ x i. or_more (names_free C x) (some_name_free Cs x) (free p x) (free_in_some ps x) (h.names x) (k.names x) i;
        writing = λ x i. or_more (writes C x) (some_write Cs x) (written p x) (written_in_some ps x) (h.writing x) (k.writing x) i;
        using = λ c d i. or_more (uses C c d) (some_use Cs c d) (uses_end p c d) (end_in_some ps c d) (h.using c d) (k.using c d) i;
      }

  choice_less : (Γ : Environment) (s : Values) (cs : Cases) → Less (begun_choice Γ s cs) (unbegun (select cs))
  choice_less Γ s no_case = record { names = λ x h. h; writing = λ x h. h; using = λ c d h. h }
  choice_less Γ s (and_case e p cs) =
      let h = begun_less Γ s p in
      let k = choice_less Γ s cs in
      either_less (is_true Γ e s) (begun Γ s p) (begun_choice Γ s cs) (unbegun (select (and_case e p cs)))
      (record {
        names = λ x i. or_left (names_of e x || free p x) (free_in_cases cs x) (or_right (names_of e x) (free p x) (h.names x i));
        writing = λ x i. or_left (written p x) (written_in_cases cs x) (h.writing x i);
        using = λ c d i. or_left (uses_end p c d) (end_in_cases cs c d) (h.using c d i);
      })
      (record {
        names = λ x i. or_right (names_of e x || free p x) (free_in_cases cs x) (k.names x i);
        writing = λ x i. or_right (written p x) (written_in_cases cs x) (k.writing x i);
        using = λ c d i. or_right (uses_end p c d) (end_in_cases cs c d) (k.using c d i);
      })

mutual
  -- a tree comes to one that names no more
  pub settled_less : (Γ : Environment) (s : Values) (C : Control) → Less (settled Γ s C) C
  settled_less Γ s done = less_itself done
  settled_less Γ s (unbegun p) = begun_less Γ s p
  settled_less Γ s (after C ps) = then_less (settled Γ s C) C ps (begun_turn Γ s ps) (settled_less Γ s C) (turn_less Γ s ps)
  settled_less Γ s (both Cs) = let Ds : Controls = all_settled Γ s Cs in
      less_through (side_by_side Ds) (both Ds) (both Cs) (side_case (all_done Ds) Ds) (all_settled_less Γ s Cs)
  settled_less Γ s (local x w v C) = let D : Control = settled (with_name Γ x (Var w)) (with_value s x v) C in
      less_through (in_variable x w v D) (local x w v D) (local x w v C) (in_variable_less x w v D) (less_local D C x w v v (settled_less (with_name Γ x (Var w)) (with_value s x v) C))
  settled_less Γ s (channel c w C) = let D : Control = settled (with_name Γ c (Chan w None)) s C in
      less_through (in_channel c w D) (channel c w D) (channel c w C) (in_channel_less c w D) (less_channel D C c w (settled_less (with_name Γ c (Chan w None)) s C))

  -- and so do trees at once
  pub all_settled_less : (Γ : Environment) (s : Values) (Cs : Controls) → Less (both (all_settled Γ s Cs)) (both Cs)
  all_settled_less Γ s no_control = less_itself (both no_control)
  all_settled_less Γ s (and_control C Cs) = less_both (settled Γ s C) C (all_settled Γ s Cs) Cs (settled_less Γ s C) (all_settled_less Γ s Cs)
