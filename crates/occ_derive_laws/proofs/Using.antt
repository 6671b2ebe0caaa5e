-- Parts that use no more than others: an order in which what has several parts uses no more than each part may. And separate parts of it.
use Rattle.std.proofs.Common.{◌≡◌, ◌∙◌, ℕ, Bool, true, false, not, ◌&&◌, ◌||◌, ◌==◌, inl, inr, refl, ap}
use Rattle.std.proofs.lemmas.Bool.{and_from, not_from_false, or_left, or_right}
use Rattle.std.proofs.lemmas.Bool.Decides.{eqb_tells}
use Rattle.occ_renamed.specs.occ_base.declared.width.Width.{Width}
use Rattle.occ_renamed.proofs.from_meaning.Facts.{clash, false_not_true}
use Rattle.occ_renamed.proofs.from_meaning.Free.{no_end, not_written}
use Rattle.occ_renamed.specs.occ_meaning.Parallel.{one, two}
use Rattle.occ_renamed.specs.occ_syntax.Names.{end_in_branches, end_in_cases, end_in_some, end_in_waiting, free, free_in_branches, free_in_cases, free_in_some, free_in_waiting, names, uses_end, written, written_in_branches, written_in_cases, written_in_some, written_in_waiting}
use Rattle.occ_renamed.specs.occ_syntax.Tree.{Branches, Cases, Exp, Tree, Trees, Waiting, alt, and_branch, and_case, and_tree, connect, no_branch, no_case, no_tree, par, select, seq, skip}
use Rattle.occ_renamed.specs.occ_syntax.Usage.{IsSeparate}
use Rattle.occ_renamed.specs.occ_usage.Local.{UsesNoMore}

pub either_way : (a b c : Bool) → (a ≡ true → c ≡ true) → (b ≡ true → c ≡ true) → (a || b) ≡ true → c ≡ true
either_way true b c f g h = f refl
either_way false b c f g h = g h

-- ---- an order

pub uses_itself : (p : Tree) → UsesNoMore p p
uses_itself p = record { frees = λ x h. h; writes = λ x h. h; ends = λ c d h. h }

pub uses_through : (p q r : Tree) → UsesNoMore p q → UsesNoMore q r → UsesNoMore p r
uses_through p q r v w = record { frees = λ x h. w.frees x (v.frees x h); writes = λ x h. w.writes x (v.writes x h); ends = λ c d h. w.ends c d (v.ends c d h) }

-- SKIP uses nothing
pub nothing_used : (r : Tree) → UsesNoMore skip r
nothing_used r = record { frees = λ x h. false_not_true h; writes = λ x h. false_not_true h; ends = λ c d h. false_not_true h }

-- ---- parts of SEQ and PAR: as of a PAR

pub seq_as_par : (ps : Trees) → UsesNoMore (seq ps) (par ps)
seq_as_par ps = record { frees = λ x h. h; writes = λ x h. h; ends = λ c d h. h }

pub par_as_seq : (ps : Trees) → UsesNoMore (par ps) (seq ps)
par_as_seq ps = record { frees = λ x h. h; writes = λ x h. h; ends = λ c d h. h }

pub parts_use : (p : Tree) (ps : Trees) (r : Tree) → UsesNoMore p r → UsesNoMore (par ps) r → UsesNoMore (par (and_tree p ps)) r
parts_use p ps r v w = record {
  frees = λ x. either_way (free p x) (free_in_some ps x) (free r x) (v.frees x) (w.frees x);
  writes = λ x. either_way (written p x) (written_in_some ps x) (written r x) (v.writes x) (w.writes x);
  ends = λ c d. either_way (uses_end p c d) (end_in_some ps c d) (uses_end r c d) (v.ends c d) (w.ends c d);
}

no_part_used : (r : Tree) → UsesNoMore (par no_tree) r
no_part_used r = record { frees = λ x h. false_not_true h; writes = λ x h. false_not_true h; ends = λ c d h. false_not_true h }

pub one_uses : (p r : Tree) → UsesNoMore p r → UsesNoMore (par (one p)) r
one_uses p r v = parts_use p no_tree r v (no_part_used r)

pub two_use : (p q r : Tree) → UsesNoMore p r → UsesNoMore q r → UsesNoMore (par (two p q)) r
two_use p q r v w = parts_use p (one q) r v (one_uses q r w)

pub first_part : (p : Tree) (ps : Trees) → UsesNoMore p (par (and_tree p ps))
first_part p ps = record {
  frees = λ x. or_left (free p x) (free_in_some ps x);
  writes = λ x. or_left (written p x) (written_in_some ps x);
  ends = λ c d. or_left (uses_end p c d) (end_in_some ps c d);
}

pub later_parts : (p : Tree) (ps : Trees) → UsesNoMore (par ps) (par (and_tree p ps))
later_parts p ps = record {
  frees = λ x. or_right (free p x) (free_in_some ps x);
  writes = λ x. or_right (written p x) (written_in_some ps x);
  ends = λ c d. or_right (uses_end p c d) (end_in_some ps c d);
}

pub second_part : (p q : Tree) → UsesNoMore q (par (two p q))
second_part p q = uses_through q (par (one q)) (par (two p q)) (first_part q no_tree) (later_parts p (one q))

pub first_of_seq : (p : Tree) (ps : Trees) → UsesNoMore p (seq (and_tree p ps))
first_of_seq p ps = uses_through p (par (and_tree p ps)) (seq (and_tree p ps)) (first_part p ps) (par_as_seq (and_tree p ps))

pub rest_of_seq : (p : Tree) (ps : Trees) → UsesNoMore (seq ps) (seq (and_tree p ps))
rest_of_seq p ps = let v = later_parts p ps in record { frees = v.frees; writes = v.writes; ends = v.ends }

-- ---- choices

-- an IF of that condition alone, and an ALT of that guard alone
abbrev pub choice : Exp → Tree
choice b = select (and_case b skip no_case)

abbrev pub guard : Exp → Waiting → Tree
guard b w = alt (and_branch b w skip no_branch)

pub cases_use : (b : Exp) (p : Tree) (cs : Cases) (r : Tree) → UsesNoMore (choice b) r → UsesNoMore p r → UsesNoMore (select cs) r
    → UsesNoMore (select (and_case b p cs)) r
cases_use b p cs r u v w = record {
  frees = λ x. either_way (names b x || free p x) (free_in_cases cs x) (free r x)
      (either_way (names b x) (free p x) (free r x) (λ h. u.frees x (or_left (names b x || false) false (or_left (names b x) false h))) (v.frees x)) (w.frees x);
  writes = λ x. either_way (written p x) (written_in_cases cs x) (written r x) (v.writes x) (w.writes x);
  ends = λ c d. either_way (uses_end p c d) (end_in_cases cs c d) (uses_end r c d) (v.ends c d) (w.ends c d);
}

pub no_case_used : (r : Tree) → UsesNoMore (select no_case) r
no_case_used r = record { frees = λ x h. false_not_true h; writes = λ x h. false_not_true h; ends = λ c d h. false_not_true h }

pub first_condition : (b : Exp) (p : Tree) (cs : Cases) → UsesNoMore (choice b) (select (and_case b p cs))
first_condition b p cs = record {
  frees = λ x. either_way (names b x || false) false ((names b x || free p x) || free_in_cases cs x)
      (either_way (names b x) false ((names b x || free p x) || free_in_cases cs x)
      (λ h. or_left (names b x || free p x) (free_in_cases cs x) (or_left (names b x) (free p x) h)) (λ h. false_not_true h)) (λ h. false_not_true h);
  writes = λ x h. false_not_true h;
  ends = λ c d h. false_not_true h;
}

pub first_case : (b : Exp) (p : Tree) (cs : Cases) → UsesNoMore p (select (and_case b p cs))
first_case b p cs = record {
  frees = λ x h. or_left (names b x || free p x) (free_in_cases cs x) (or_right (names b x) (free p x) h);
  writes = λ x. or_left (written p x) (written_in_cases cs x);
  ends = λ c d. or_left (uses_end p c d) (end_in_cases cs c d);
}

pub later_cases : (b : Exp) (p : Tree) (cs : Cases) → UsesNoMore (select cs) (select (and_case b p cs))
later_cases b p cs = record {
  frees = λ x. or_right (names b x || free p x) (free_in_cases cs x);
  writes = λ x. or_right (written p x) (written_in_cases cs x);
  ends = λ c d. or_right (uses_end p c d) (end_in_cases cs c d);
}

pub branches_use : (b : Exp) (w : Waiting) (p : Tree) (gs : Branches) (r : Tree) → UsesNoMore (guard b w) r → UsesNoMore p r → UsesNoMore (alt gs) r
    → UsesNoMore (alt (and_branch b w p gs)) r
branches_use b w p gs r t u v = record {
  frees = λ x. either_way ((names b x || free_in_waiting w x) || free p x) (free_in_branches gs x) (free r x)
      (either_way (names b x || free_in_waiting w x) (free p x) (free r x)
      (λ h. t.frees x (or_left ((names b x || free_in_waiting w x) || false) false (or_left (names b x || free_in_waiting w x) false h))) (u.frees x)) (v.frees x);
  writes = λ x. either_way (written_in_waiting w x || written p x) (written_in_branches gs x) (written r x)
      (either_way (written_in_waiting w x) (written p x) (written r x)
      (λ h. t.writes x (or_left (written_in_waiting w x || false) false (or_left (written_in_waiting w x) false h))) (u.writes x)) (v.writes x);
  ends = λ c d. either_way (end_in_waiting w c d || uses_end p c d) (end_in_branches gs c d) (uses_end r c d)
      (either_way (end_in_waiting w c d) (uses_end p c d) (uses_end r c d)
      (λ h. t.ends c d (or_left (end_in_waiting w c d || false) false (or_left (end_in_waiting w c d) false h))) (u.ends c d)) (v.ends c d);
}

pub no_branch_used : (r : Tree) → UsesNoMore (alt no_branch) r
no_branch_used r = record { frees = λ x h. false_not_true h; writes = λ x h. false_not_true h; ends = λ c d h. false_not_true h }

alone : (a b c : Bool) → ((a || false) || false) ≡ true → ((a || b) || c) ≡ true
alone true b c h = refl
alone false b c h = false_not_true h

pub first_guard : (b : Exp) (w : Waiting) (p : Tree) (gs : Branches) → UsesNoMore (guard b w) (alt (and_branch b w p gs))
first_guard b w p gs = record {
  frees = λ x. alone (names b x || free_in_waiting w x) (free p x) (free_in_branches gs x);
  writes = λ x. alone (written_in_waiting w x) (written p x) (written_in_branches gs x);
  ends = λ c d. alone (end_in_waiting w c d) (uses_end p c d) (end_in_branches gs c d);
}

pub first_branch : (b : Exp) (w : Waiting) (p : Tree) (gs : Branches) → UsesNoMore p (alt (and_branch b w p gs))
first_branch b w p gs = record {
  frees = λ x h. or_left ((names b x || free_in_waiting w x) || free p x) (free_in_branches gs x) (or_right (names b x || free_in_waiting w x) (free p x) h);
  writes = λ x h. or_left (written_in_waiting w x || written p x) (written_in_branches gs x) (or_right (written_in_waiting w x) (written p x) h);
  ends = λ c d h. or_left (end_in_waiting w c d || uses_end p c d) (end_in_branches gs c d) (or_right (end_in_waiting w c d) (uses_end p c d) h);
}

pub later_branches : (b : Exp) (w : Waiting) (p : Tree) (gs : Branches) → UsesNoMore (alt gs) (alt (and_branch b w p gs))
later_branches b w p gs = record {
  frees = λ x. or_right ((names b x || free_in_waiting w x) || free p x) (free_in_branches gs x);
  writes = λ x. or_right (written_in_waiting w x || written p x) (written_in_branches gs x);
  ends = λ c d. or_right (end_in_waiting w c d || uses_end p c d) (end_in_branches gs c d);
}

-- ---- declarations

-- a name that something isn't said of
apart_from : (P : ℕ → Bool) (x : ℕ) → P x ≡ false → (z : ℕ) → P z ≡ true → (not (z == x) && P z) ≡ true
apart_from P x off z h = elim (eqb_tells z x) [
  | inl k ↦ clash (P z) h (ap P k.1 ∙ off)
  | inr k ↦ and_from (not (z == x)) (P z) (not_from_false (z == x) k.0) h
]

-- a declaration takes away nothing that isn't named
pub hidden_uses : (c : ℕ) (w : Width) (p : Tree) → free p c ≡ false → UsesNoMore p (connect c w p)
hidden_uses c w p off = record {
  frees = λ x. apart_from (free p) c off x;
  writes = λ x. apart_from (written p) c (not_written p c off) x;
  ends = λ b d. apart_from (λ z. uses_end p z d) c (no_end p c d off) b;
}

more_behind : (a b c : Bool) → (b ≡ true → c ≡ true) → (not a && b) ≡ true → (not a && c) ≡ true
more_behind true b c f h = false_not_true h
more_behind false b c f h = f h

pub hidden_more : (c : ℕ) (w : Width) (p q : Tree) → UsesNoMore p q → UsesNoMore (connect c w p) (connect c w q)
hidden_more c w p q v = record {
  frees = λ x. more_behind (x == c) (free p x) (free q x) (v.frees x);
  writes = λ x. more_behind (x == c) (written p x) (written q x) (v.writes x);
  ends = λ b d. more_behind (b == c) (uses_end p b d) (uses_end q b d) (v.ends b d);
}

-- ---- separate parts

neither : (a b : Bool) → (a ≡ true → b ≡ true) → b ≡ false → a ≡ false
neither true b h e = clash b (h refl) e
neither false b h e = refl

pub separate_less : (p q l m : Tree) → IsSeparate l m → UsesNoMore p l → UsesNoMore q m → IsSeparate p q
separate_less p q l m s v w = record {
  first_writes = λ x h. neither (free q x) (free m x) (w.frees x) (s.first_writes x (v.writes x h));
  second_writes = λ x h. neither (free p x) (free l x) (v.frees x) (s.second_writes x (w.writes x h));
  ends = λ c d h. neither (uses_end q c d) (uses_end m c d) (w.ends c d) (s.ends c d (v.ends c d h));
}

pub separate_from_none : (q : Tree) → IsSeparate q (par no_tree)
separate_from_none q = record { first_writes = λ x h. refl; second_writes = λ x h. false_not_true h; ends = λ c d h. refl }

-- ---- a declaration round less

pub out_first : (a b c : Bool) → (not a && (b || c)) ≡ true → ((not a && b) || c) ≡ true
out_first true b c h = false_not_true h
out_first false b c h = h
