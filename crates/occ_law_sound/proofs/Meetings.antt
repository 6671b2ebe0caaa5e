-- Which branches the expansion of two ALTs has.
use Rattle.occ_law.specs.Parallel.{both_go, first_goes, meeting, meetings, meetings_of, second_goes}
use Rattle.occ_law.proofs.from_meaning.Facts.{at_itself}
use Rattle.occ_law.proofs.from_meaning.Members.{Among, first_branch, later_branch}
use Rattle.occ_law.specs.occ_meaning.Parallel.{two}
use Rattle.occ_law.specs.occ_syntax.Tree.{Branches, Exp, Tree, Waiting, and_branch, input, no_branch, operation, output, par, ready}
use Rattle.occ_law.specs.occ_syntax.declared.expr.Op.TheVariants.{And}
use Rattle.std.proofs.Common.{Bool, false, if◌then◌else◌, refl, subst, true, ℕ, ◌==◌, ◌≡◌}
use Rattle.std.proofs.lemmas.Bool.{eqb-true}

-- two guards that communicate: what one outputs, the other inputs into x
pub data Meets : Waiting → Waiting → ℕ → Exp → Type 0 where
  puts_gets : (c x : ℕ) (e : Exp) → Meets (output c e) (input c x) x e
  gets_puts : (c x : ℕ) (e : Exp) → Meets (input c x) (output c e) x e

-- ---- one of them goes

pub among_first : (b : Exp) (w : Waiting) (p m : Tree) (ls : Branches) → Among b w p ls → Among b w (par (two p m)) (first_goes ls m)
among_first b w p m ls first_branch = first_branch
among_first b w p m ls (later_branch {bs = ks} i) = later_branch (among_first b w p m ks i)

pub among_second : (b : Exp) (w : Waiting) (q l : Tree) (ms : Branches) → Among b w q ms → Among b w (par (two l q)) (second_goes l ms)
among_second b w q l ms first_branch = first_branch
among_second b w q l ms (later_branch {bs = ks} i) = later_branch (among_second b w q l ks i)

pub record Each (S : Exp → Waiting → Tree → Type 0) (bs : Branches) : Type 0 where
  pub each : (b : Exp) (w : Waiting) (p : Tree) → Among b w p bs → S b w p

each_and_at : (S : Exp → Waiting → Tree → Type 0) (f : Exp) (v : Waiting) (q : Tree) (bs : Branches) → S f v q → Each S bs
    → (b : Exp) (w : Waiting) (p : Tree) → Among b w p (and_branch f v q bs) → S b w p
each_and_at S f v q bs h k b w p first_branch = h
each_and_at S f v q bs h k b w p (later_branch i) = k.each b w p i

pub each_and : (S : Exp → Waiting → Tree → Type 0) (f : Exp) (v : Waiting) (q : Tree) (bs : Branches) → S f v q → Each S bs → Each S (and_branch f v q bs)
each_and S f v q bs h k = record { each = each_and_at S f v q bs h k }

none_among : (R : Type 0) (b : Exp) (w : Waiting) (p : Tree) → Among b w p no_branch → R
none_among R b w p i = elim i [ ]

pub each_none : (S : Exp → Waiting → Tree → Type 0) → Each S no_branch
each_none S = record { each = λ b w p i. none_among (S b w p) b w p i }

pub each_first : (S : Exp → Waiting → Tree → Type 0) (m : Tree) (ls : Branches) → Each (λ b w p. S b w (par (two p m))) ls → Each S (first_goes ls m)
each_first S m no_branch h = each_none S
each_first S m (and_branch b w p ls) h =
    each_and S b w (par (two p m)) (first_goes ls m) (h.each b w p first_branch) (each_first S m ls (record { each = λ f v q i. h.each f v q (later_branch i) }))

pub each_second : (S : Exp → Waiting → Tree → Type 0) (l : Tree) (ms : Branches) → Each (λ b w q. S b w (par (two l q))) ms → Each S (second_goes l ms)
each_second S l no_branch h = each_none S
each_second S l (and_branch b w q ms) h =
    each_and S b w (par (two l q)) (second_goes l ms) (h.each b w q first_branch) (each_second S l ms (record { each = λ f v r i. h.each f v r (later_branch i) }))

-- ---- both of them

-- what the branch is in which two guards meet
abbrev pub Joined : (Exp → Waiting → Tree → Type 0) → Exp → Waiting → Tree → Exp → Waiting → Tree → Type 0
Joined S b w p f v q = (x : ℕ) (e : Exp) → Meets w v x e → S (operation And b f) ready (both_go x e p q)

each_if : (S : Exp → Waiting → Tree → Type 0) (t : Bool) (f : Exp) (v : Waiting) (q : Tree) (bs : Branches) → (t ≡ true → S f v q) → Each S bs
    → Each S (if t then and_branch f v q bs else bs)
each_if S true f v q bs h k = each_and S f v q bs (h refl) k
each_if S false f v q bs h k = k

each_meeting : (S : Exp → Waiting → Tree → Type 0) (b : Exp) (w : Waiting) (p : Tree) (f : Exp) (v : Waiting) (q : Tree) (rest : Branches)
    → Joined S b w p f v q → Each S rest → Each S (meeting b w p f v q rest)
each_meeting S b (output c e) p f (input d x) q rest h k =
    each_if S (c == d) (operation And b f) ready (both_go x e p q) rest
    (λ i. h x e (let P : ℕ → Type 0 = λ n. Meets (output c e) (input n x) x e in subst P (eqb-true c d i) (puts_gets c x e))) k
each_meeting S b (input d x) p f (output c e) q rest h k =
    each_if S (d == c) (operation And b f) ready (both_go x e p q) rest
    (λ i. h x e (let P : ℕ → Type 0 = λ n. Meets (input d x) (output n e) x e in subst P (eqb-true d c i) (gets_puts d x e))) k
each_meeting S b (output c e) p f (output d g) q rest h k = k
each_meeting S b (output c e) p f ready q rest h k = k
each_meeting S b (input d x) p f (input c y) q rest h k = k
each_meeting S b (input d x) p f ready q rest h k = k
each_meeting S b ready p f v q rest h k = k

each_of : (S : Exp → Waiting → Tree → Type 0) (b : Exp) (w : Waiting) (p : Tree) (ms rest : Branches) → Each (Joined S b w p) ms → Each S rest
    → Each S (meetings_of b w p ms rest)
each_of S b w p no_branch rest h k = k
each_of S b w p (and_branch f v q ms) rest h k =
    each_meeting S b w p f v q (meetings_of b w p ms rest) (h.each f v q first_branch)
    (each_of S b w p ms rest (record { each = λ g u r i. h.each g u r (later_branch i) }) k)

pub each_meetings : (S : Exp → Waiting → Tree → Type 0) (ls ms : Branches) → Each (λ b w p. Each (Joined S b w p) ms) ls → Each S (meetings ls ms)
each_meetings S no_branch ms h = each_none S
each_meetings S (and_branch b w p ls) ms h =
    each_of S b w p ms (meetings ls ms) (h.each b w p first_branch) (each_meetings S ls ms (record { each = λ g u r i. h.each g u r (later_branch i) }))

-- ---- which there are

among_if : (t : Bool) (f : Exp) (v : Waiting) (q : Tree) (bs : Branches) (b : Exp) (w : Waiting) (p : Tree) → Among b w p bs
    → Among b w p (if t then and_branch f v q bs else bs)
among_if true f v q bs b w p i = later_branch i
among_if false f v q bs b w p i = i

meeting_keeps : (b : Exp) (w : Waiting) (p : Tree) (f : Exp) (v : Waiting) (q : Tree) (rest : Branches) (g : Exp) (u : Waiting) (r : Tree)
    → Among g u r rest → Among g u r (meeting b w p f v q rest)
meeting_keeps b (output c e) p f (input d x) q rest g u r i = among_if (c == d) (operation And b f) ready (both_go x e p q) rest g u r i
meeting_keeps b (input d x) p f (output c e) q rest g u r i = among_if (d == c) (operation And b f) ready (both_go x e p q) rest g u r i
meeting_keeps b (output c e) p f (output d z) q rest g u r i = i
meeting_keeps b (output c e) p f ready q rest g u r i = i
meeting_keeps b (input d x) p f (input c y) q rest g u r i = i
meeting_keeps b (input d x) p f ready q rest g u r i = i
meeting_keeps b ready p f v q rest g u r i = i

chosen_there : (t : Bool) (f : Exp) (v : Waiting) (q : Tree) (bs : Branches) → t ≡ true → Among f v q (if t then and_branch f v q bs else bs)
chosen_there true f v q bs h = first_branch
chosen_there false f v q bs h = absurd (cc)

meeting_there : (b : Exp) (w : Waiting) (p : Tree) (f : Exp) (v : Waiting) (q : Tree) (rest : Branches) (x : ℕ) (e : Exp) → Meets w v x e
    → Among (operation And b f) ready (both_go x e p q) (meeting b w p f v q rest)
meeting_there b w p f v q rest x e (puts_gets c y g) = chosen_there (c == c) (operation And b f) ready (both_go y g p q) rest (at_itself c)
meeting_there b w p f v q rest x e (gets_puts c y g) = chosen_there (c == c) (operation And b f) ready (both_go y g p q) rest (at_itself c)

of_keeps : (b : Exp) (w : Waiting) (p : Tree) (ms rest : Branches) (g : Exp) (u : Waiting) (r : Tree) → Among g u r rest → Among g u r (meetings_of b w p ms rest)
of_keeps b w p no_branch rest g u r i = i
of_keeps b w p (and_branch f v q ms) rest g u r i = meeting_keeps b w p f v q (meetings_of b w p ms rest) g u r (of_keeps b w p ms rest g u r i)

of_there : (b : Exp) (w : Waiting) (p : Tree) (f : Exp) (v : Waiting) (q : Tree) (ms rest : Branches) (x : ℕ) (e : Exp) → Among f v q ms → Meets w v x e
    → Among (operation And b f) ready (both_go x e p q) (meetings_of b w p ms rest)
of_there b w p f v q ms rest x e (first_branch {bs = ks}) h = meeting_there b w p f v q (meetings_of b w p ks rest) x e h
of_there b w p f v q ms rest x e (later_branch {f = g} {v = u} {q = r} {bs = ks} i) h =
    meeting_keeps b w p g u r (meetings_of b w p ks rest) (operation And b f) ready (both_go x e p q) (of_there b w p f v q ks rest x e i h)

pub among_meetings : (b : Exp) (w : Waiting) (p : Tree) (f : Exp) (v : Waiting) (q : Tree) (ls ms : Branches) (x : ℕ) (e : Exp) → Among b w p ls → Among f v q ms
    → Meets w v x e → Among (operation And b f) ready (both_go x e p q) (meetings ls ms)
among_meetings b w p f v q ls ms x e (first_branch {bs = ks}) j h = of_there b w p f v q ms (meetings ks ms) x e j h
among_meetings b w p f v q ls ms x e (later_branch {f = g} {v = u} {q = r} {bs = ks} i) j h =
    of_keeps g u r ms (meetings ks ms) (operation And b f) ready (both_go x e p q) (among_meetings b w p f v q ks ms x e i j h)
