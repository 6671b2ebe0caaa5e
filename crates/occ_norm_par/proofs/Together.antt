-- Parts of a PAR side by side, half by half.
use Rattle.std.proofs.Common.{◌≡◌, ℕ, zero, suc, ◌+◌, ◌-◌, ◌<◌, ◌≤◌, ◌||◌, ◌==◌, ◌%◌, max, min, cond, Bool, true, false, List, [], ◌∷◌, length, get_or, take, drop, ⊎_elim, refl, sym, ap, ◌∙◌, subst, arith}
use Rattle.std.specs.List.{All}
use Rattle.std.specs.Int.{bit_at}
use Rattle.std.specs.Int.Bits.{bit_or}
use Rattle.std.proofs.lemmas.Nat.Bits.{bit_at-lt, bit_at-zero, bit_at_or, same_from_bits}
use Rattle.occ_norm_frame.proofs.from_dd.Bits.{bit_cases}
use Rattle.std.proofs.lemmas.Bool.{and_from, and_parts, or_cases, or_left, or_right, or_parts, false≢true}
use Rattle.std.proofs.Math.Seq.{take-length}
use Rattle.std.proofs.lemmas.List.{get_or-drop, get_or-take, length-drop, length-take-le}
use Rattle.occ_syntax.specs.occ_base.declared.event.Dir.{Dir}
use Rattle.occ_syntax.specs.occ_base.declared.event.Event.{Event}
use Rattle.occ_syntax.specs.occ_base.declared.names.Name.{Name}
use Rattle.occ_syntax.specs.occ_base.declared.width.Width.{Width}
use Rattle.occ_norm_frame.specs.occ_mdd.declared.map.MapId.{MapId}
use Rattle.occ_norm_frame.specs.occ_node.declared.world.World.{World}
use Rattle.occ_norm_frame.specs.occ_follow.Sequence.{HasNodes}
use Rattle.occ_norm_frame.specs.Maps.{Extends}
use Rattle.occ_norm_frame.proofs.Worlds.{extends_trans, has_nodes-extends}
use Rattle.occ_syntax.specs.Meaning.{Outcome, Together, meaning}
use Rattle.occ_syntax.specs.Names.{end_in_some, free, free_in_some, uses_end, written, written_in_some}
use Rattle.occ_syntax.specs.Scopes.{Environment, Trace, Values}
use Rattle.occ_syntax.specs.Tree.{Tree, Trees, and_tree, no_tree, par}
use Rattle.occ_syntax.specs.Types.{all_types_kept, types_kept}
use Rattle.occ_syntax.specs.Usage.{AreSeparate, IsSeparate}
use Rattle.occ_syntax.specs.View.{tree, trees}
use Rattle.occ_syntax.specs.declared.proc.Proc.{Proc, Skip}
use Rattle.occ_norm_frame.specs.occ_weave.Weave.{IsJoined as IsOfBoth, is_open}
use Rattle.occ_norm_frame.specs.Alone.{IsPart, except}
use Rattle.occ_norm_frame.specs.Placed.{IsAround}
use Rattle.occ_norm_frame.specs.declared.frame.Frame.{Frame}
use Rattle.occ_norm_frame.proofs.from_meaning.Parts.{all_of_beside, beside_all_of}
use Rattle.occ_norm_frame.specs.occ_meaning.Parallel.{all_of}
use Rattle.occ_norm_par.specs.Sides.{AreWritten, bits_in, closed_in, crossing}
use Rattle.occ_norm_par.specs.Joined.{AreBoth, AreOfParts, HaveNodes, IsJoined, IsSpread, WriteEach, no_map}
use Rattle.occ_norm_par.specs.declared.parallel.Sides.{Sides}
use Rattle.occ_norm_par.specs.declared.users.Users.{Users}
use Rattle.occ_norm_frame.proofs.Alone.{alone_later, except_bit}
use Rattle.occ_norm_par.proofs.Writing.{bits_both, written_in}
use Rattle.occ_norm_par.proofs.Pair.{beside_alone}
use Rattle.occ_norm_par.proofs.Spanning.{uses_beyond}
use Rattle.occ_norm_par.proofs.Using.{first_off, open_halves, others_off, some_end, spread_dropped, spread_each, spread_taken}

or_grouped : (a b c : Bool) → (a || (b || c)) ≡ ((a || b) || c)
or_grouped true b c = refl
or_grouped false b c = refl

-- ---- halves of the parts
types_taken : (Γ : Environment) (ps : List Proc) (k : ℕ) → all_types_kept (trees ps) Γ ≡ true → all_types_kept (trees (take k ps)) Γ ≡ true
types_taken Γ ps zero h = refl
types_taken Γ [] (suc k) h = refl
types_taken Γ (p ∷ ps) (suc k) h =
    let a = and_parts (types_kept (tree p) Γ) (all_types_kept (trees ps) Γ) h in
    and_from (types_kept (tree p) Γ) (all_types_kept (trees (take k ps)) Γ) a.0 (types_taken Γ ps k a.1)

types_dropped : (Γ : Environment) (ps : List Proc) (k : ℕ) → all_types_kept (trees ps) Γ ≡ true → all_types_kept (trees (drop k ps)) Γ ≡ true
types_dropped Γ ps zero h = h
types_dropped Γ [] (suc k) h = refl
types_dropped Γ (p ∷ ps) (suc k) h = types_dropped Γ ps k (and_parts (types_kept (tree p) Γ) (all_types_kept (trees ps) Γ) h).1

trees_halves : (k : ℕ) (ps : List Proc) → trees ps ≡ all_of (trees (take k ps)) (trees (drop k ps))
trees_halves zero ps = refl
trees_halves (suc k) [] = refl
trees_halves (suc k) (p ∷ ps) = ap (and_tree (tree p)) (trees_halves k ps)

free_both : (ps qs : Trees) (x : ℕ) → free_in_some (all_of ps qs) x ≡ (free_in_some ps x || free_in_some qs x)
free_both no_tree qs x = refl
free_both (and_tree p ps) qs x = ap (λ b. free p x || b) (free_both ps qs x) ∙ or_grouped (free p x) (free_in_some ps x) (free_in_some qs x)

written_both : (ps qs : Trees) (x : ℕ) → written_in_some (all_of ps qs) x ≡ (written_in_some ps x || written_in_some qs x)
written_both no_tree qs x = refl
written_both (and_tree p ps) qs x = ap (λ b. written p x || b) (written_both ps qs x) ∙ or_grouped (written p x) (written_in_some ps x) (written_in_some qs x)

end_both : (ps qs : Trees) (c : ℕ) (d : Dir) → end_in_some (all_of ps qs) c d ≡ (end_in_some ps c d || end_in_some qs c d)
end_both no_tree qs c d = refl
end_both (and_tree p ps) qs c d = ap (λ b. uses_end p c d || b) (end_both ps qs c d) ∙ or_grouped (uses_end p c d) (end_in_some ps c d) (end_in_some qs c d)

-- a part that is separate from two lists of parts together is so from the second, and so on
separate_halves : (ps qs : Trees) → AreSeparate (all_of ps qs) → IsSeparate (par ps) (par qs)
separate_halves no_tree qs h = record { first_writes = λ x k. absurd (false≢true k); second_writes = λ x k. refl; ends = λ c d k. absurd (false≢true k) }
separate_halves (and_tree p ps) qs h =
    let rest = separate_halves ps qs h.1 in
    record {
      first_writes = λ x k. ⊎_elim
          (λ (m : written p x ≡ true). (or_parts (free_in_some ps x) (free_in_some qs x) (sym (free_both ps qs x) ∙ h.0.first_writes x m)).1)
          (λ (m : written_in_some ps x ≡ true). rest.first_writes x m)
          (or_cases (written p x) (written_in_some ps x) k);
      second_writes = λ x k. (λ i. h.0.second_writes x (written_both ps qs x ∙ or_right (written_in_some ps x) (written_in_some qs x) k) i || rest.second_writes x k i);
      ends = λ c d k. ⊎_elim
          (λ (m : uses_end p c d ≡ true). (or_parts (end_in_some ps c d) (end_in_some qs c d) (sym (end_both ps qs c d) ∙ h.0.ends c d m)).1)
          (λ (m : end_in_some ps c d ≡ true). rest.ends c d m)
          (or_cases (uses_end p c d) (end_in_some ps c d) k);
    }

separate_first : (ps qs : Trees) → AreSeparate (all_of ps qs) → AreSeparate ps
separate_first no_tree qs h = tt
separate_first (and_tree p ps) qs h = (
  record {
    first_writes = λ x k. (or_parts (free_in_some ps x) (free_in_some qs x) (sym (free_both ps qs x) ∙ h.0.first_writes x k)).0;
    second_writes = λ x k. h.0.second_writes x (written_both ps qs x ∙ or_left (written_in_some ps x) (written_in_some qs x) k);
    ends = λ c d k. (or_parts (end_in_some ps c d) (end_in_some qs c d) (sym (end_both ps qs c d) ∙ h.0.ends c d k)).0;
  },
  separate_first ps qs h.1,
)

separate_second : (ps qs : Trees) → AreSeparate (all_of ps qs) → AreSeparate qs
separate_second no_tree qs h = h
separate_second (and_tree p ps) qs h = separate_second ps qs h.1

-- ---- the maps of the parts
taken_less : {A : Type 0} (k : ℕ) (xs : List A) (i : ℕ) → i < length (take k xs) → (i < k) × (i < length xs)
taken_less zero xs i l = absurd (omega (arith, l))
taken_less (suc k) [] i l = absurd (omega (arith, l))
taken_less (suc k) (x ∷ xs) zero l = (omega arith, omega arith)
taken_less (suc k) (x ∷ xs) (suc i) l = let s = taken_less k xs i (omega (arith, l)) in (omega (arith, s.0), omega (arith, s.1))

pub nodes_taken : (w : World) (k : ℕ) (maps : List MapId) → HaveNodes w maps → HaveNodes w (take k maps)
nodes_taken w k maps h i l =
    let n = taken_less k maps i l in
    subst (HasNodes w) (sym (get_or-take k maps i no_map n.0)) (h i n.1)

pub nodes_dropped : (w : World) (k : ℕ) (maps : List MapId) → HaveNodes w maps → HaveNodes w (drop k maps)
nodes_dropped w k maps h i l = subst (HasNodes w) (sym (get_or-drop k maps i no_map)) (h (k + i) (let n : length (drop k maps) ≡ length maps - k = length-drop k maps in omega (arith, n, l)))

pub nodes_later : (u v : World) → Extends u v → (maps : List MapId) → HaveNodes u maps → HaveNodes v maps
nodes_later u v grow maps h i l = has_nodes-extends u v grow (get_or maps i no_map) (h i l)

each_taken : (layout : List (Name × Width × ℕ)) (writes : List ℕ) (place k : ℕ) (ps : List Proc) → k ≤ length ps → WriteEach layout writes place ps → WriteEach layout writes place (take k ps)
each_taken layout writes place k ps low h i l =
    let less : i < k = let n : length (take k ps) ≡ k = length-take-le k ps low in omega (arith, n, l) in
    subst (λ (p : Proc). AreWritten layout (tree p) (get_or writes (place + i) 0)) (sym (get_or-take k ps i Skip less)) (h i (omega (arith, less, low)))

each_dropped : (layout : List (Name × Width × ℕ)) (writes : List ℕ) (place k : ℕ) (ps : List Proc) → k ≤ length ps → WriteEach layout writes place ps → WriteEach layout writes (place + k) (drop k ps)
each_dropped layout writes place k ps low h i l =
    let less : k + i < length ps = let n : length (drop k ps) ≡ length ps - k = length-drop k ps in omega (arith, n, l, low) in
    let at : place + (k + i) ≡ place + k + i = omega arith in
    subst (λ (p : Proc). AreWritten layout (tree p) (get_or writes (place + k + i) 0)) (sym (get_or-drop k ps i Skip))
    (subst (λ (n : ℕ). AreWritten layout (tree (get_or ps (k + i) Skip)) (get_or writes n 0)) at (h (k + i) less))

module _ (layout : List (Name × Width × ℕ)) (all : ℕ) (users : List Users) (writes : List ℕ) (Γ : Environment) where
  -- the map of the part in a place
  abbrev PartAt : World → ℕ → Proc → MapId → Type 0
  PartAt w n p m = IsPart w layout all (except all (get_or writes n 0)) (closed_in n (n + 1) users) Γ (tree p) m

  parts_taken : (w : World) (place k : ℕ) (ps : List Proc) (maps : List MapId) → k ≤ length ps → AreOfParts w layout all users writes Γ place ps maps → AreOfParts w layout all users writes Γ place (take k ps) (take k maps)
  parts_taken w place k ps maps low h i l =
      let less : i < k = let n : length (take k ps) ≡ k = length-take-le k ps low in omega (arith, n, l) in
      subst (λ (p : Proc). PartAt w (place + i) p (get_or (take k maps) i no_map)) (sym (get_or-take k ps i Skip less))
      (subst (λ (m : MapId). PartAt w (place + i) (get_or ps i Skip) m) (sym (get_or-take k maps i no_map less)) (h i (omega (arith, less, low))))

  parts_dropped : (w : World) (place k : ℕ) (ps : List Proc) (maps : List MapId) → k ≤ length ps → AreOfParts w layout all users writes Γ place ps maps → AreOfParts w layout all users writes Γ (place + k) (drop k ps) (drop k maps)
  parts_dropped w place k ps maps low h i l =
      let less : k + i < length ps = let n : length (drop k ps) ≡ length ps - k = length-drop k ps in omega (arith, n, l, low) in
      let at : place + (k + i) ≡ place + k + i = omega arith in
      subst (λ (p : Proc). PartAt w (place + k + i) p (get_or (drop k maps) i no_map)) (sym (get_or-drop k ps i Skip))
      (subst (λ (m : MapId). PartAt w (place + k + i) (get_or ps (k + i) Skip) m) (sym (get_or-drop k maps i no_map))
      (subst (λ (n : ℕ). PartAt w n (get_or ps (k + i) Skip) (get_or maps (k + i) no_map)) at (h (k + i) less)))

  parts_later : (u v : World) → Extends u v → (place : ℕ) (ps : List Proc) (maps : List MapId) → length maps ≡ length ps → HaveNodes u maps → AreOfParts u layout all users writes Γ place ps maps → AreOfParts v layout all users writes Γ place ps maps
  parts_later u v grow place ps maps even has h i l =
      alone_later u v grow (get_or maps i no_map) (has i (omega (arith, even, l))) layout all (except all (get_or writes (place + i) 0)) (closed_in (place + i) (place + i + 1) users) Γ (tree (get_or ps i Skip)) (h i l)

drop_twice : {A : Type 0} (s k : ℕ) (xs : List A) → drop k (drop s xs) ≡ drop (s + k) xs
drop_twice zero k xs = ap (λ n. drop n xs) (let e : k ≡ 0 + k = omega arith in e)
drop_twice (suc s) k [] = drop_nothing k ∙ ap (λ n. drop n []) (let e : suc (s + k) ≡ suc s + k = omega arith in e)
  where
    drop_nothing : {A : Type 0} (k : ℕ) → drop {A = A} k [] ≡ []
    drop_nothing zero = refl
    drop_nothing (suc k) = refl
drop_twice (suc s) k (x ∷ xs) = drop_twice s k xs ∙ ap (λ n. drop n (x ∷ xs)) (let e : suc (s + k) ≡ suc s + k = omega arith in e)

pub rest_taken : {A : Type 0} (k : ℕ) (xs : List A) → take (length xs - k) (drop k xs) ≡ drop k xs
rest_taken k xs = ap (λ n. take n (drop k xs)) (sym (length-drop k xs)) ∙ take-length (drop k xs)

one_part : (ps : List Proc) → length ps ≡ 1 → ps ≡ get_or ps 0 Skip ∷ []
one_part [] h = absurd (omega arith)
one_part (p ∷ []) h = refl
one_part (p ∷ q ∷ ps) h = absurd (omega arith)

as_par : (w : World) (layout : List (Name × Width × ℕ)) (all keep : ℕ) (closed : List Name) (Γ : Environment) (p : Tree) (m : MapId) → IsPart w layout all keep closed Γ p m → IsPart w layout all keep closed Γ (par (and_tree p no_tree)) m
as_par w layout all keep closed Γ p m a = record {
  alone_fails = λ x n l v t X. a.alone_fails x n l v t X;
  alone_ends = λ x n l v t z b. (
    λ f. let s = (a.alone_ends x n l v t z b).0 f in record { y = s.y; below = s.below; silent = s.silent; ended = s.ended; changed = s.changed },
    λ s. (a.alone_ends x n l v t z b).1 (record { y = s.y; below = s.below; silent = s.silent; ended = s.ended; changed = s.changed }),
  );
}

bits_one : (writes : List ℕ) (place : ℕ) → bits_in writes place 1 ≡ get_or writes place 0
unfolding bits_in
bits_one writes place =
    let e : place + 0 ≡ place = omega arith in
    same_from_bits (bit_or 0 (get_or writes (place + 0) 0)) (get_or writes (place + 0) 0) (λ i. bit_at_or 0 (get_or writes (place + 0) 0) i ∙ alone (bit_at 0 i) (bit_at (get_or writes (place + 0) 0) i) (bit_at-zero i))
    ∙ ap (λ n. get_or writes n 0) e
  where
    alone : (a b : ℕ) → a ≡ 0 → max a b ≡ b
    alone a b e = omega (arith, e)

-- one part alone
pub joined_one : (sides : Sides) (place : ℕ) (maps : List MapId) (w : World) → length maps ≡ 1 → IsJoined sides place maps w w (get_or maps 0 no_map)
joined_one sides place maps w single = record {
  joined = λ frame Γ ps even around types separate spread each parts.
      let layout = frame.layout in
      let all = sides.all in
      let users = sides.users.items in
      let writes = sides.writes.items in
      let m = get_or maps 0 no_map in
      let p = get_or ps 0 Skip in
      let one : length ps ≡ 1 = sym even ∙ single in
      let here : PartAt layout all users writes Γ w (place + 0) p m = parts 0 (omega (arith, one)) in
      let low : place + 0 ≡ place = omega arith in
      let count : 1 ≡ length ps = sym one in
      let there : PartAt layout all users writes Γ w place p m = subst (λ (n : ℕ). PartAt layout all users writes Γ w n p m) low here in
      let whole : IsPart w layout all (except all (bits_in writes place 1)) (closed_in place (place + 1) users) Γ (tree p) m
      = subst (λ (b : ℕ). IsPart w layout all (except all b) (closed_in place (place + 1) users) Γ (tree p) m) (sym (bits_one writes place)) there in
      subst (λ (n : ℕ). IsPart w layout all (except all (bits_in writes place n)) (closed_in place (place + n) users) Γ (par (trees ps)) m) count
      (subst (λ (qs : List Proc). IsPart w layout all (except all (bits_in writes place 1)) (closed_in place (place + 1) users) Γ (par (trees qs)) m) (sym (one_part ps one))
      (as_par w layout all (except all (bits_in writes place 1)) (closed_in place (place + 1) users) Γ (tree p) m whole));
}

-- ---- other worlds
module _ (sides : Sides) (place : ℕ) (maps : List MapId) where
  -- the map in a later world
  joined_later : (u v w : World) → Extends v w → (r : MapId) → HasNodes v r → IsJoined sides place maps u v r → IsJoined sides place maps u w r
  joined_later u v w grow r has is = record {
    joined = λ frame Γ ps even around types separate spread each parts.
        alone_later v w grow r has frame.layout sides.all (except sides.all (bits_in sides.writes.items place (length ps))) (closed_in place (place + length ps) sides.users.items) Γ (par (trees ps))
        (is.joined frame Γ ps even around types separate spread each parts);
  }

  -- the maps of the parts in an earlier world
  joined_from : (u v w : World) → Extends u v → (r : MapId) → HaveNodes u maps → IsJoined sides place maps v w r → IsJoined sides place maps u w r
  joined_from u v w grow r have is = record {
    joined = λ frame Γ ps even around types separate spread each parts. is.joined frame Γ ps even around types separate spread each
        (parts_later frame.layout sides.all sides.users.items sides.writes.items Γ u v grow place ps maps even have parts);
  }

-- the bits that two halves don't write, by halves
pub kept_halves : (all a b both : ℕ) → ((i : ℕ) → bit_at both i ≡ max (bit_at a i) (bit_at b i)) → IsOfBoth a (except all a) (except all b) (except all both)
kept_halves all a b both are i l =
    except_bit all both i ∙ ap (λ c. (bit_at all i + min (bit_at all i) c) % 2) (are i)
    ∙ ⊎_elim
    (λ (n : bit_at a i ≡ 0). second (bit_at all i) (bit_at a i) (bit_at b i) n ∙ sym (except_bit all b i) ∙ sym (ap (λ c. cond (c == 1) (bit_at (except all a) i) (bit_at (except all b) i)) n))
    (λ (o : bit_at a i ≡ 1). first (bit_at all i) (bit_at a i) (bit_at b i) o (bit_at-lt b i) ∙ sym (except_bit all a i) ∙ sym (ap (λ c. cond (c == 1) (bit_at (except all a) i) (bit_at (except all b) i)) o))
    (bit_cases a i)
  where
    second : (c a b : ℕ) → a ≡ 0 → (c + min c (max a b)) % 2 ≡ (c + min c b) % 2
    second c a b e = ap (λ n. (c + min c n) % 2) (omega (arith, e))

    first : (c a b : ℕ) → a ≡ 1 → b < 2 → (c + min c (max a b)) % 2 ≡ (c + min c a) % 2
    first c a b e h = ap (λ n. (c + min c n) % 2) (omega (arith, e, h))

-- two neighbours side by side
module _ (sides : Sides) (place k : ℕ) (maps : List MapId) (low : k ≤ length maps) (u v w : World) (grow1 : Extends u v) (grow2 : Extends v w) (r1 r2 r : MapId) (has1 : HasNodes v r1) (has2 : HasNodes v r2)
    (join1 : IsJoined sides place (take k maps) u v r1) (join2 : IsJoined sides (place + k) (drop k maps) u v r2)
    (are : AreBoth sides (record { low = place; count = k; high = place + length maps }) r1 r2 w r) where
  abbrev all : ℕ
  all = sides.all

  abbrev users : List Users
  users = sides.users.items

  abbrev writes : List ℕ
  writes = sides.writes.items

  module _ (frame : Frame) (Γ : Environment) (ps : List Proc) (even : length maps ≡ length ps) (around : IsAround Γ frame.vars) (types : all_types_kept (trees ps) Γ ≡ true) (separate : AreSeparate (trees ps))
      (spread : All (IsSpread place (trees ps)) users) (each : WriteEach frame.layout writes place ps) (parts : AreOfParts u frame.layout all users writes Γ place ps maps) where
    abbrev layout : List (Name × Width × ℕ)
    layout = frame.layout

    abbrev first : Trees
    first = trees (take k ps)

    abbrev second : Trees
    second = trees (drop k ps)

    abbrev closed : List Name
    closed = closed_in place (place + length ps) users

    abbrev sole : List Name
    sole = closed_in place (place + k) users

    abbrev behind : List Name
    behind = closed_in (place + k) (place + length ps) users

    fewer : k ≤ length ps
    fewer = omega (arith, low, even)

    first_length : length (take k ps) ≡ k
    first_length = length-take-le k ps fewer

    second_length : length (drop k ps) ≡ length ps - k
    second_length = length-drop k ps

    apart : AreSeparate (all_of first second)
    apart = subst AreSeparate (trees_halves k ps) separate

    spread1 : All (IsSpread place first) users
    spread1 = spread_each place place (trees ps) first users (spread_taken place k ps) spread

    spread2 : All (IsSpread (place + k) second) users
    spread2 = spread_each place (place + k) (trees ps) second users (spread_dropped place k ps) spread

    abbrev mine : ℕ
    mine = bits_in writes place k

    abbrev theirs : ℕ
    theirs = bits_in writes (place + k) (length ps - k)

    part1 : IsPart v layout all (except all mine) sole Γ (par first) r1
    part1 = subst (λ (n : ℕ). IsPart v layout all (except all (bits_in writes place n)) (closed_in place (place + n) users) Γ (par first) r1) first_length
        (join1.joined frame Γ (take k ps) (length-take-le k maps low ∙ sym first_length) around (types_taken Γ ps k types) (separate_first first second apart) spread1 (each_taken layout writes place k ps fewer each) (parts_taken layout all users writes Γ u place k ps maps fewer parts))

    part2 : IsPart v layout all (except all theirs) behind Γ (par second) r2
    part2 =
        let high : place + k + length (drop k ps) ≡ place + length ps = omega (arith, second_length, fewer) in
        subst (λ (n : ℕ). IsPart v layout all (except all (bits_in writes (place + k) n)) behind Γ (par second) r2) second_length
        (subst (λ (n : ℕ). IsPart v layout all (except all (bits_in writes (place + k) (length (drop k ps)))) (closed_in (place + k) n users) Γ (par second) r2) high
        (join2.joined frame Γ (drop k ps) (length-drop k maps ∙ ap (λ n. n - k) even ∙ sym second_length) around (types_dropped Γ ps k types) (separate_second first second apart) spread2
        (each_dropped layout writes place k ps fewer each) (parts_dropped layout all users writes Γ u place k ps maps fewer parts)))

    written_first : AreWritten layout (par first) mine
    written_first = subst (λ (n : ℕ). AreWritten layout (par first) (bits_in writes place n)) first_length (written_in layout writes place (take k ps) (each_taken layout writes place k ps fewer each))

    whole_bits : (i : ℕ) → bit_at (bits_in writes place (length ps)) i ≡ max (bit_at mine i) (bit_at theirs i)
    whole_bits i = let e : length ps ≡ k + (length ps - k) = omega (arith, fewer) in ap (λ n. bit_at (bits_in writes place n) i) e ∙ bits_both writes place k (length ps - k) i

    sole_off : (e : Event) → is_open sole e ≡ false → (d : Dir) → end_in_some second e.chan.0 d ≡ false
    sole_off e h d = some_end second e.chan.0 (first_off second users place (place + k) e spread2 h) d

    behind_off : (e : Event) → is_open behind e ≡ false → (d : Dir) → end_in_some first e.chan.0 d ≡ false
    behind_off e h d = some_end first e.chan.0 (others_off first users place (place + k) (place + length ps) e spread1 (λ j c l. uses_beyond (take k ps) j c (omega (arith, first_length, l))) h) d

    into : (s : Values) (t : Trace) (o : Outcome) → Together (meaning (par first)) (meaning (par second)) Γ s t o → (meaning (par (trees ps))).does Γ s t o
    into s t o d = subst (λ (qs : Trees). (meaning (par qs)).does Γ s t o) (sym (trees_halves k ps)) ((beside_all_of Γ first second).gives s t o d)

    out : (s : Values) (t : Trace) (o : Outcome) → (meaning (par (trees ps))).does Γ s t o → Together (meaning (par first)) (meaning (par second)) Γ s t o
    out s t o d = (all_of_beside Γ first second).gives s t o (subst (λ (qs : Trees). (meaning (par qs)).does Γ s t o) (trees_halves k ps) d)

    beside : AreBoth sides (record { low = place; count = k; high = place + length ps }) r1 r2 w r
    beside = subst (λ (n : ℕ). AreBoth sides (record { low = place; count = k; high = place + n }) r1 r2 w r) even are

    both : IsPart w layout all (except all (bits_in writes place (length ps))) closed Γ (par (trees ps)) r
    both = beside_alone frame.vars layout frame.bits frame.kept Γ around (par first) (par second) (types_taken Γ ps k types) (types_dropped Γ ps k types)
        closed sole (crossing place (place + k) (place + length ps) users) behind (open_halves place (place + k) (place + length ps) (omega arith) (omega (arith, fewer)) users) sole_off behind_off
        w all (except all mine) (except all theirs) (except all (bits_in writes place (length ps))) mine beside.small (kept_halves all mine theirs (bits_in writes place (length ps)) whole_bits)
        written_first (separate_halves first second apart) r1 r2
        (alone_later v w grow2 r1 has1 layout all (except all mine) sole Γ (par first) part1)
        (alone_later v w grow2 r2 has2 layout all (except all theirs) behind Γ (par second) part2)
        (par (trees ps)) into out
        r (has_nodes-extends v w grow2 r1 has1) (has_nodes-extends v w grow2 r2 has2) beside.lifts

  joined_halves : IsJoined sides place maps u w r
  joined_halves = record { joined = both }

-- the two halves, of which the first was made before the other
pub halves_joined : (sides : Sides) (place k : ℕ) (maps : List MapId) → k ≤ length maps → (u v1 v2 w : World) → Extends u v1 → Extends v1 v2 → Extends v2 w → HaveNodes u maps
    → (r1 r2 r : MapId) → HasNodes v1 r1 → HasNodes v2 r2 → IsJoined sides place (take k maps) u v1 r1 → IsJoined sides (place + k) (drop k maps) v1 v2 r2
    → AreBoth sides (record { low = place; count = k; high = place + length maps }) r1 r2 w r → IsJoined sides place maps u w r
halves_joined sides place k maps low u v1 v2 w g1 g2 g3 have r1 r2 r has1 has2 join1 join2 are =
    joined_halves sides place k maps low u v2 w (extends_trans u v1 v2 g1 g2) g3 r1 r2 r (has_nodes-extends v1 v2 g2 r1 has1) has2
    (joined_later sides place (take k maps) u v1 v2 g2 r1 has1 join1)
    (joined_from sides (place + k) (drop k maps) u v1 v2 g1 r2 (nodes_dropped u k maps have) join2)
    are

-- a row in front of what is joined already
pub row_joined : (sides : Sides) (s e : ℕ) (maps : List MapId) → s < e → e ≤ length maps → (u v w x : World) → Extends u v → Extends v w → Extends w x → HaveNodes u maps
    → (r1 others r : MapId) → HasNodes w r1 → HasNodes v others → IsJoined sides s (take (e - s) (drop s maps)) v w r1 → IsJoined sides e (drop e maps) u v others
    → AreBoth sides (record { low = s; count = e - s; high = length maps }) r1 others x r → IsJoined sides s (drop s maps) u x r
row_joined sides s e maps se em u v w x g0 g1 g2 have r1 others r has1 has2 join1 join2 are =
    let k = e - s in
    let ms = drop s maps in
    let left : length ms ≡ length maps - s = length-drop s maps in
    let low : k ≤ length ms = omega (arith, left, se, em) in
    let back : s + k ≡ e = omega (arith, se) in
    let high : length maps ≡ s + length ms = omega (arith, left, se, em) in
    let behind : drop k ms ≡ drop e maps = drop_twice s k maps ∙ ap (λ n. drop n maps) back in
    let second : IsJoined sides (s + k) (drop k ms) u v others =
    subst (λ (n : ℕ). IsJoined sides n (drop k ms) u v others) (sym back) (subst (λ (qs : List MapId). IsJoined sides e qs u v others) (sym behind) join2) in
    joined_halves sides s k ms low u w x (extends_trans u v w g0 g1) g2 r1 others r has1 (has_nodes-extends v w g1 others has2)
    (joined_from sides s (take k ms) u v w g0 r1 (nodes_taken u k ms (nodes_dropped u s maps have)) join1)
    (joined_later sides (s + k) (drop k ms) u v w g1 others has2 second)
    (subst (λ (n : ℕ). AreBoth sides (record { low = s; count = k; high = n }) r1 others x r) high are)

-- all parts
pub all_joined : (sides : Sides) (s : ℕ) (maps : List MapId) (u w : World) (r : MapId) → s ≡ 0 → IsJoined sides s (drop s maps) u w r → IsJoined sides 0 maps u w r
all_joined sides s maps u w r none is = subst (λ (n : ℕ). IsJoined sides n (drop n maps) u w r) none is
