-- Request 1 of document 02 holds: each call's refusals, read
-- for the shape and the block that they name. Assumes nothing.
use mathlib.Core.Path.{◌≡◌, refl, sym, ap, ◌∙◌, subst}
use mathlib.Core.List.{List}
use mathlib.Core.Logic.{◌⊎◌, inl, inr, ⊎_elim}
use Prim.Native.Nat.{ℕ, ◌+◌, ◌-◌, ◌<◌}
use native.Mathlib.Omega.{arith}
use lib.IntN.{pos, neg_ℤ}
use lib.ListN.{length, get_or}
use Rattle.answers.specs.Told.{Told, tell, told}
use Rattle.answers.specs.Turns.{here, later, FirstDue}
use Rattle.answers.specs.declared.Refusal.{Refusal}
use Rattle.shapes.specs.Shape.{Block, no_block}
use Rattle.shapes.specs.Wrong.{Crossed, TooLarge, Disagree, BlockRefused}
use Rattle.shapes.specs.Lent.{shape_of, RightLength, FirstBlock, BlocksRefused, ShapeRefused, Accepted}
use Rattle.shapes.proofs.Wrong.{block_not}
use Rattle.shapes.proofs.Refused.{blocks_text, shape_text}
use Rattle.extremes.specs.Extreme.{TextRefused}
use Rattle.pairs.specs.Pair.{PairRefused, NarrowRefused}
use Rattle.pairs.specs.Narrow.{NarrowPromise}
use Rattle.joins.specs.Refused.{rest_turns, JoinRefused}
use Rattle.common_calls.specs.Common.{ShowRefused}
use Rattle.tray_pairs.specs.Judged.{RecordRefused}
use Rattle.find_calls.specs.Find.{FindRefused}
use Rattle.sweep_calls.specs.Sweep.{SweepRefused}
use Rattle.books.specs.Counts.{shape_in, SoundText}
use Rattle.books.specs.Rules.{Names}
use Rattle.books.specs.Refused.{FirstText, RuleRefused, BookRefused}
use Rattle.books.proofs.Tell.{first_text}
use Rattle.file_lines.specs.Book.{Book}
use Rattle.files.specs.Departs.{FileAccepted}
use Rattle.file_runs.specs.Promise.{RunRefused}
use Rattle.file_runs.specs.Promise.ItsBook.{its_book}
use Rattle.file_runs.proofs.Ends.{same_book, refused_book}
use Rattle.host_calls.specs.Host.{negated}
use Rattle.host_calls.proofs.Numbers.{host_refused}
use Rattle.demands.specs.Call.{Call, CallTells, check_shape_call, fits_shape, least_text, greatest_text, find_mark, Two, sweep, NarrowMemory, narrowing, narrow_join, common_text_call, BlocksAndPair, judge_pair, BothInside, held_by, CountsAndRules, run_book_call, given_of, lent_blocks, run_file_call, HostMemory, run_host_call}
use Rattle.demands.specs.Demands.{Demand1Of}
use Rattle.demands.specs.Request1.{OfThree, WrongAt, TellsWhich, SaysWhich, OfPair, TextLookedAt, shape_among, SomeBlock, Request1}
use Rattle.demands.proofs.Refusals as refusals
use Rattle.demands.proofs.Refusals.{Refuses, file_one}

-- ---- the numbers of a block's refusals

abbrev OfBlock : ℕ → Type 0
OfBlock m = (m ≡ 2) ⊎ ((m ≡ 10) ⊎ (m ≡ 11))

-- no other number is one of them
other : {t : Told} {m a b : ℕ} → t ≡ tell m a b → (m ≡ 2 → ⊥) → (m ≡ 10 → ⊥) → (m ≡ 11 → ⊥) → OfBlock t.number → ⊥
other {t} {m} e n₂ n₁₀ n₁₁ o =
    let same : t.number ≡ m = ap (λ (u : Told). u.number) e in
    ⊎_elim (λ h. n₂ (sym same ∙ h)) (λ p. ⊎_elim (λ h. n₁₀ (sym same ∙ h)) (λ h. n₁₁ (sym same ∙ h)) p) o

-- ---- what each of the three numbers stands for: from a block that is wrong to its refusal, and back

record StandsFor (k : ℕ) (Wrong : Block → Type 0) : Type 0 where
  of_block_lem : OfBlock k
  to : {n p : ℕ} {s : List Block} → WrongAt s p Wrong → FirstBlock n s p (tell k n p)
  back : {n j p : ℕ} {s : List Block} → FirstBlock n s j (tell k n p) → WrongAt s p Wrong

first_block : {n p : ℕ} {s : List Block} {t : Told} {Wrong : Block → Type 0} (w : WrongAt s p Wrong)
    → BlockRefused n (w.before + 1) (get_or s w.before no_block) t → FirstBlock n s p t
first_block w r = record { first = record { before = w.before; place = w.place; within = w.within; good = w.good; bad = block_not r }; refused = r }

wrong_at : {n j : ℕ} (s : List Block) {t : Told} (Wrong : Block → Type 0) (f : FirstBlock n s j t)
    → t.place ≡ f.first.before + 1 → Wrong (get_or s f.first.before no_block) → WrongAt s t.place Wrong
wrong_at s Wrong f e w = record { before = f.first.before; place = e; within = f.first.within; good = f.first.good; wrong = w }

place_of : {n p m k : ℕ} → tell m n p ≡ tell m n k → p ≡ k
place_of e = ap (λ (u : Told). u.place) e

number_of : {n p m k j : ℕ} → tell m n p ≡ tell k n j → m ≡ k
number_of e = ap (λ (u : Told). u.number) e

three : OfThree StandsFor
three = record {
  two = record {
    of_block_lem = inl refl;
    to = λ {n} w. first_block w (here (record { so = w.wrong; tells = ap (tell 2 n) w.place }));
    back = λ f. go_2 f f.refused;
  };
  ten = record {
    of_block_lem = inr (inl refl);
    to = λ {n} w. first_block w (later w.wrong.0 (here (record { so = w.wrong.1; tells = ap (tell 10 n) w.place })));
    back = λ f. go_10 f f.refused;
  };
  eleven = record {
    of_block_lem = inr (inr refl);
    to = λ {n} w. first_block w (later w.wrong.0 (later w.wrong.1 (here (record { so = w.wrong.2; tells = ap (tell 11 n) w.place }))));
    back = λ f. go_11 f f.refused;
  };
}
  where
    go_2 : {n j p : ℕ} {s : List Block} (f : FirstBlock n s j (tell 2 n p))
        → BlockRefused n (f.first.before + 1) (get_or s f.first.before no_block) (tell 2 n p) → WrongAt s p Crossed
    go_2 {s = s} f (here d) = wrong_at s Crossed f (place_of d.tells) d.so
    go_2 f (later c (here d)) = absurd (let z : ◌≡◌ {A = ℕ} 2 10 = number_of d.tells in omega arith)
    go_2 {n = n} {j = j} {p = p} {s = s} f (later c (later l (later _ x4))) = elim x4 [ ]
    go_2 f (later c (later l (here d))) = absurd (let z : ◌≡◌ {A = ℕ} 2 11 = number_of d.tells in omega arith)

    go_10 : {n j p : ℕ} {s : List Block} (f : FirstBlock n s j (tell 10 n p))
        → BlockRefused n (f.first.before + 1) (get_or s f.first.before no_block) (tell 10 n p)
        → WrongAt s p (λ (b : Block). (Crossed b → ⊥) × TooLarge b)
    go_10 f (here d) = absurd (let z : ◌≡◌ {A = ℕ} 10 2 = number_of d.tells in omega arith)
    go_10 {s = s} f (later c (here d)) = wrong_at s (λ (b : Block). (Crossed b → ⊥) × TooLarge b) f (place_of d.tells) (c, d.so)
    go_10 {n = n} {j = j} {p = p} {s = s} f (later c (later l (later _ x4))) = elim x4 [ ]
    go_10 f (later c (later l (here d))) = absurd (let z : ◌≡◌ {A = ℕ} 10 11 = number_of d.tells in omega arith)

    go_11 : {n j p : ℕ} {s : List Block} (f : FirstBlock n s j (tell 11 n p))
        → BlockRefused n (f.first.before + 1) (get_or s f.first.before no_block) (tell 11 n p)
        → WrongAt s p (λ (b : Block). (Crossed b → ⊥) × (TooLarge b → ⊥) × Disagree b)
    go_11 f (here d) = absurd (let z : ◌≡◌ {A = ℕ} 11 2 = number_of d.tells in omega arith)
    go_11 f (later c (here d)) = absurd (let z : ◌≡◌ {A = ℕ} 11 10 = number_of d.tells in omega arith)
    go_11 {n = n} {j = j} {p = p} {s = s} f (later c (later l (later _ x4))) = elim x4 [ ]
    go_11 {s = s} f (later c (later l (here d))) = wrong_at s (λ (b : Block). (Crossed b → ⊥) × (TooLarge b → ⊥) × Disagree b) f (place_of d.tells) (c, l, d.so)

each : {Says : ℕ → (Block → Type 0) → Type 0} → ((k : ℕ) (Wrong : Block → Type 0) → StandsFor k Wrong → Says k Wrong) → OfThree Says
each f = record { two = f 2 _ three.two; ten = f 10 _ three.ten; eleven = f 11 _ three.eleven }

-- ---- from what is due of a call to what it tells, and back

-- a refusal of a block of shape number n, where it comes from
abbrev Comes : (Told → Type 0) → ℕ → List Block → Type 0 → Type 0
Comes Due n s LookedAt = (t : Told) → Due t → t.text ≡ n → OfBlock t.number → LookedAt × ((k : ℕ) × FirstBlock n s k t)

module _ (c : Call) (g : c.Given) (m : c.Memory) where
  pub tells : {t : Told} → Demand1Of c → ((c.checked g m).good → ⊥) → (c.checked g m).due t → CallTells c g m t
  tells D n d m' r p = let x = D.malformed n r p in (x.0, x.1, D.one_refusal g m _ _ x.2 d)

  which : {n : ℕ} {s : List Block} {LookedAt : Type 0} → ((t : Told) → LookedAt → (p : ℕ) → FirstBlock n s p t → CallTells c g m t) → TellsWhich c g m n s LookedAt
  which {n} to = each (λ k Wrong b l p w. to (tell k n p) l p (b.to w))

  says : Refuses c → {n : ℕ} {s : List Block} {LookedAt : Type 0} → ((t : Told) → LookedAt → (p : ℕ) → FirstBlock n s p t → (c.checked g m).due t)
      → Comes (c.checked g m).due n s LookedAt → SaysWhich c g m n s LookedAt
  says R {n} to back = record {
    tells = which (λ t l p f. tells R.demand ((R.one g m).not (to t l p f)) (to t l p f));
    only = each (λ k Wrong b m' q p r e.
        let f = back (tell k n p) (subst (c.checked g m).due e (R.due g m m' q r)) refl b.of_block_lem in (f.0, b.back f.1.1));
  }

-- ---- a shape

blocks_back : {n : ℕ} {s : List Block} {t : Told} → BlocksRefused n s t → OfBlock t.number → (k : ℕ) × FirstBlock n s k t
blocks_back (here f) o = f
blocks_back {n = n} {s = s} {t = t} (later g (later _ x4)) o = elim x4 [ ]
blocks_back (later g (here d)) o =
    absurd (other d.tells (λ (z : ◌≡◌ {A = ℕ} 3 2). omega arith) (λ (z : ◌≡◌ {A = ℕ} 3 10). omega arith) (λ (z : ◌≡◌ {A = ℕ} 3 11). omega arith) o)

shape_back : {n : ℕ} {xs : List ℕ} {t : Told} → ShapeRefused n xs t → OfBlock t.number → RightLength xs × ((k : ℕ) × FirstBlock n (shape_of xs) k t)
shape_back (here d) o =
    absurd (other d.tells (λ (z : ◌≡◌ {A = ℕ} 1 2). omega arith) (λ (z : ◌≡◌ {A = ℕ} 1 10). omega arith) (λ (z : ◌≡◌ {A = ℕ} 1 11). omega arith) o)
shape_back (later r b) o = (r, blocks_back b o)

shape_to : {n : ℕ} {xs : List ℕ} (t : Told) → RightLength xs → (k : ℕ) → FirstBlock n (shape_of xs) k t → ShapeRefused n xs t
shape_to t r k f = later r (here (k, f))

no_4 : {t : Told} {a b : ℕ} → t ≡ tell 4 a b → OfBlock t.number → ⊥
no_4 e = other e (λ (z : ◌≡◌ {A = ℕ} 4 2). omega arith) (λ (z : ◌≡◌ {A = ℕ} 4 10). omega arith) (λ (z : ◌≡◌ {A = ℕ} 4 11). omega arith)

no_5 : {t : Told} {a b : ℕ} → t ≡ tell 5 a b → OfBlock t.number → ⊥
no_5 e = other e (λ (z : ◌≡◌ {A = ℕ} 5 2). omega arith) (λ (z : ◌≡◌ {A = ℕ} 5 10). omega arith) (λ (z : ◌≡◌ {A = ℕ} 5 11). omega arith)

find_back : (xs mark : List ℕ) (t : Told) → FindRefused xs mark t → t.text ≡ 1 → OfBlock t.number
    → RightLength xs × ((k : ℕ) × FirstBlock 1 (shape_of xs) k t)
find_back xs mark t (here p) e o = shape_back p o
find_back xs mark t (later a (later _ x5)) e o = elim x5 [ ]
find_back xs mark t (later a (here p)) e o =
    absurd (other p.tells (λ (z : ◌≡◌ {A = ℕ} 13 2). omega arith) (λ (z : ◌≡◌ {A = ℕ} 13 10). omega arith) (λ (z : ◌≡◌ {A = ℕ} 13 11). omega arith) o)

text_back : (xs : List ℕ) (a : ℕ) (t : Told) → TextRefused xs a t → t.text ≡ 1 → OfBlock t.number
    → RightLength xs × ((k : ℕ) × FirstBlock 1 (shape_of xs) k t)
text_back xs a t (here p) e o = shape_back p o
text_back xs a t (later ok (later _ x5)) e o = elim x5 [ ]
text_back xs a t (later ok (here p)) e o = absurd (no_5 p.tells o)

-- ---- a pair

two_texts : {x m n : ℕ} → x ≡ m → x ≡ n → m ≡ n
two_texts e f = sym e ∙ f

module _ {xs ys : List ℕ} where
  pair_first : {t : Told} → PairRefused xs ys t → t.text ≡ 1 → OfBlock t.number → RightLength xs × ((k : ℕ) × FirstBlock 1 (shape_of xs) k t)
  pair_first (here p) e o = shape_back p o
  pair_first {t = t} (later a (later _ x5)) e o = elim x5 [ ]
  pair_first (later a (here p)) e o = absurd (let z : ◌≡◌ {A = ℕ} 1 2 = two_texts e (shape_text p) in omega arith)

  pair_second : {t : Told} → PairRefused xs ys t → t.text ≡ 2 → OfBlock t.number
      → (Accepted xs × RightLength ys) × ((k : ℕ) × FirstBlock 2 (shape_of ys) k t)
  pair_second (here p) e o = absurd (let z : ◌≡◌ {A = ℕ} 2 1 = two_texts e (shape_text p) in omega arith)
  pair_second {t = t} (later a (later _ x5)) e o = elim x5 [ ]
  pair_second (later a (here p)) e o = let b = shape_back p o in ((a, b.0), b.1)

-- whatever comes after the refusals of the pair has other numbers
of_pair_lem : (c : Call) (g : c.Given) (m : c.Memory) {xs ys : List ℕ} → Refuses c → ((t : Told) → PairRefused xs ys t → (c.checked g m).due t)
    → ((t : Told) → (c.checked g m).due t → OfBlock t.number → PairRefused xs ys t) → OfPair c g m xs ys
of_pair_lem c g m R to back = record {
  first = says c g m R (λ t l k f. to t (here (shape_to t l k f))) (λ t d e o. pair_first (back t d o) e o);
  second = says c g m R (λ t l k f. to t (later l.0 (here (shape_to t l.1 k f)))) (λ t d e o. pair_second (back t d o) e o);
}

sweep_back : (xs ys : List ℕ) (n : ℕ) (t : Told) → SweepRefused xs ys n t → OfBlock t.number → PairRefused xs ys t
sweep_back xs ys n t (here p) o = p
sweep_back xs ys n t (later a (later _ x4)) o = elim x4 [ ]
sweep_back xs ys n t (later a (here d)) o = absurd (no_5 d.tells o)

-- a pair of a tray whose ranges are inside
module _ (g : BlocksAndPair) (i : BothInside g) where
  record_back : (t : Told) → RecordRefused g.blocks g.pair t → PairRefused (held_by g).x (held_by g).y t
  record_back t (here d) = absurd (d.lacking i.first)
  record_back t (later _ (here d)) = absurd (d.lacking i.second)
  record_back t (later _ (later _ d)) = d

  tray_pair : OfPair judge_pair g tt (held_by g).x (held_by g).y
  tray_pair = of_pair_lem judge_pair g tt refusals.tray_pair (λ t d. later i.first (later i.second d)) (λ t d o. record_back t d)

show_back : (xs ys : List ℕ) (w a : ℕ) (t : Told) → ShowRefused xs ys w a t → OfBlock t.number → PairRefused xs ys t
show_back xs ys w a t (here p) o = p
show_back xs ys w a t (later ok (here d)) o = absurd (no_4 d.tells o)
show_back xs ys w a t (later ok (later h (later _ x5))) o = elim x5 [ ]
show_back xs ys w a t (later ok (later h (here d))) o = absurd (no_5 d.tells o)

narrow_back : (xs ys : List ℕ) (w a b : ℕ) (t : Told) → NarrowRefused xs ys w a b t → OfBlock t.number → PairRefused xs ys t
narrow_back xs ys w a b t (here p) o = p
narrow_back xs ys w a b t (later ok (here d)) o = absurd (no_4 d.tells o)
narrow_back xs ys w a b t (later ok (later h (here d))) o = absurd (no_5 d.tells o)
narrow_back xs ys w a b t (later ok (later h (later g (later _ x6)))) o = elim x6 [ ]
narrow_back xs ys w a b t (later ok (later h (later g (here d)))) o = absurd (no_5 d.tells o)

narrow : (R : List ℕ → List ℕ → Type 0) (s : Two) (m : NarrowMemory) → OfPair (narrowing (NarrowPromise R)) s m s.x s.y
narrow R s m = of_pair_lem (narrowing (NarrowPromise R)) s m (refusals.narrow R) (λ t p. here p)
    (narrow_back s.x s.y (length m.work) (length m.out_x) (length m.out_y))

-- ---- a join

module _ (xs ys zs : List ℕ) (w a b c : ℕ) where
  rest_back : (t : Told) → FirstDue (rest_turns xs ys zs w a b c) t → OfBlock t.number → ⊥
  rest_back t (here p) o =
      other p.tells (λ (z : ◌≡◌ {A = ℕ} 12 2). omega arith) (λ (z : ◌≡◌ {A = ℕ} 12 10). omega arith) (λ (z : ◌≡◌ {A = ℕ} 12 11). omega arith) o
  rest_back t (later g (here p)) o = no_4 p.tells o
  rest_back t (later g (later h (here p))) o = no_5 p.tells o
  rest_back t (later g (later h (later i (here p)))) o = no_5 p.tells o
  rest_back t (later g (later h (later i (later j (later _ x7))))) o = elim x7 [ ]
  rest_back t (later g (later h (later i (later j (here p))))) o = no_5 p.tells o

  join_first : Comes (JoinRefused xs ys zs w a b c) 1 (shape_of xs) (RightLength xs)
  join_first t (here p) e o = shape_back p o
  join_first t (later x (here p)) e o = absurd (let z : ◌≡◌ {A = ℕ} 1 2 = two_texts e (shape_text p) in omega arith)
  join_first t (later x (later y (here p))) e o = absurd (let z : ◌≡◌ {A = ℕ} 1 3 = two_texts e (shape_text p) in omega arith)
  join_first t (later x (later y (later z r))) e o = absurd (rest_back t r o)

  join_second : Comes (JoinRefused xs ys zs w a b c) 2 (shape_of ys) (Accepted xs × RightLength ys)
  join_second t (here p) e o = absurd (let z : ◌≡◌ {A = ℕ} 2 1 = two_texts e (shape_text p) in omega arith)
  join_second t (later x (here p)) e o = let f = shape_back p o in ((x, f.0), f.1)
  join_second t (later x (later y (here p))) e o = absurd (let z : ◌≡◌ {A = ℕ} 2 3 = two_texts e (shape_text p) in omega arith)
  join_second t (later x (later y (later z r))) e o = absurd (rest_back t r o)

  join_third : Comes (JoinRefused xs ys zs w a b c) 3 (shape_of zs) (Accepted xs × Accepted ys × RightLength zs)
  join_third t (here p) e o = absurd (let z : ◌≡◌ {A = ℕ} 3 1 = two_texts e (shape_text p) in omega arith)
  join_third t (later x (here p)) e o = absurd (let z : ◌≡◌ {A = ℕ} 3 2 = two_texts e (shape_text p) in omega arith)
  join_third t (later x (later y (here p))) e o = let f = shape_back p o in ((x, y, f.0), f.1)
  join_third t (later x (later y (later z r))) e o = absurd (rest_back t r o)

-- ---- a book, and its file

module _ (book : CountsAndRules) (blocks : List ℕ) (k : ℕ) where
  book_to : (w : ℕ) (t : Told) → TextLookedAt book blocks k → (i : ℕ) → FirstBlock k (shape_among book blocks k) i t
      → BookRefused book.counts blocks book.rules w t
  book_to w t l i f = later l.counted (here (k, first_text book.counts (shape_of blocks) k l.named l.before (here (i, f))))

  text_first : (t : Told) → {m : ℕ} → FirstText book.counts (shape_of blocks) m t → t.text ≡ k → OfBlock t.number
      → Names book.counts k × ((j : ℕ) → Names book.counts j → j < k → SoundText book.counts (shape_of blocks) j)
      × ((i : ℕ) × FirstBlock k (shape_among book blocks k) i t)
  text_first t f e o =
      let number : f.first.before + 1 ≡ k = sym (blocks_text f.refused) ∙ e in
      let within = f.first.within in (
        record { from_one = omega arith; within = omega arith },
        λ j n l.
            let one = n.from_one in
            let back : j - 1 + 1 ≡ j = omega arith in
            subst (SoundText book.counts (shape_of blocks)) back (f.first.good (j - 1) (omega arith)),
        blocks_back (subst (λ (m : ℕ). BlocksRefused m (shape_in book.counts (shape_of blocks) m) t) number f.refused) o,
      )

  rule_number : {i : ℕ} {r : _} {t : Told} → RuleRefused book.counts (shape_of blocks) i r t → OfBlock t.number → ⊥
  rule_number (here d) o = other d.tells (λ (z : ◌≡◌ {A = ℕ} 7 2). omega arith) (λ (z : ◌≡◌ {A = ℕ} 7 10). omega arith) (λ (z : ◌≡◌ {A = ℕ} 7 11). omega arith) o
  rule_number {i = i} {t = t} (later r (later _ x4)) o = elim x4 [ ]
  rule_number (later r (here d)) o = other d.tells (λ (z : ◌≡◌ {A = ℕ} 12 2). omega arith) (λ (z : ◌≡◌ {A = ℕ} 12 10). omega arith) (λ (z : ◌≡◌ {A = ℕ} 12 11). omega arith) o

  book_back : (w : ℕ) → Comes (BookRefused book.counts blocks book.rules w) k (shape_among book blocks k) (TextLookedAt book blocks k)
  book_back w t (here d) x o =
      absurd (other d.tells (λ (z : ◌≡◌ {A = ℕ} 6 2). omega arith) (λ (z : ◌≡◌ {A = ℕ} 6 10). omega arith) (λ (z : ◌≡◌ {A = ℕ} 6 11). omega arith) o)
  book_back w t (later c (here (m, f))) x o = let g = text_first t f x o in (record { counted = c; named = g.0; before = g.1 }, g.2)
  book_back w t (later c (later s (here (i, f)))) x o = absurd (rule_number f.refused o)
  book_back w t (later c (later s (later r (later _ x11)))) x o = elim x11 [ ]
  book_back w t (later c (later s (later r (here d)))) x o = absurd (no_4 d.tells o)

module _ (file : List ℕ) (b : Book) (a : FileAccepted file b) (k : ℕ) where
  run_to : (w room : ℕ) (t : Told) → TextLookedAt (given_of b) (lent_blocks b) k → (i : ℕ)
      → FirstBlock k (shape_among (given_of b) (lent_blocks b) k) i t → RunRefused file w room t
  run_to w room t l i f = refused_book a (here (book_to (given_of b) (lent_blocks b) k w t l i f))

  run_back : (w room : ℕ) → Comes (RunRefused file w room) k (shape_among (given_of b) (lent_blocks b) k) (TextLookedAt (given_of b) (lent_blocks b) k)
  run_back w room t (here (here p)) x o =
      absurd (other p.tells (λ (z : ◌≡◌ {A = ℕ} 9 2). omega arith) (λ (z : ◌≡◌ {A = ℕ} 9 10). omega arith) (λ (z : ◌≡◌ {A = ℕ} 9 11). omega arith) o)
  run_back w room t (here (later s (later _ x10))) x o = elim x10 [ ]
  run_back w room t (later _ (here (its_book c (later g (later _ x15))))) x o = elim x15 [ ]
  run_back w room t (later _ (later _ x10)) x o = elim x10 [ ]
  run_back w room t (here (later s (here p))) x o =
      absurd (other p.2 (λ (z : ◌≡◌ {A = ℕ} 8 2). omega arith) (λ (z : ◌≡◌ {A = ℕ} 8 10). omega arith) (λ (z : ◌≡◌ {A = ℕ} 8 11). omega arith) o)
  run_back w room t (later _ (here (its_book c (here p)))) x o =
      book_back (given_of b) (lent_blocks b) k w t (same_book (λ width cs bs rs. BookRefused cs bs rs w t) a c p) x o
  run_back w room t (later _ (here (its_book c (later g (here d))))) x o = absurd (no_5 d.tells o)

-- ---- a host, which gets the number alone

module _ {file : List ℕ} {b : Book} (a : FileAccepted file b) (m m' : HostMemory) where
  -- the text and the block that the number stands for
  host_block : (k : ℕ) (Wrong : Block → Type 0) → StandsFor k Wrong → (q : Refusal) → (told q).number ≡ k → run_host_call.Promise file m m' (negated q)
      → SomeBlock (given_of b) (lent_blocks b) Wrong
  host_block k Wrong s q e p =
      let r = host_refused file m.report m.work m'.report m'.work q p in
      let t = told r.0 in
      let number : t.number ≡ k = r.2 ∙ e in
      let same : t ≡ tell k t.text t.place = ap (λ (n : ℕ). tell n t.text t.place) number in
      let f = run_back file b a t.text (length m.work) (length m.report) t r.1.0.0 refl (subst OfBlock (sym number) s.of_block_lem) in
      record {
        text = t.text;
        place = t.place;
        looked_at = f.0;
        wrong = s.back (subst (FirstBlock t.text (shape_among (given_of b) (lent_blocks b) t.text) f.1.0) same f.1.1);
      }

  host_only : OfThree (λ k Wrong. run_host_call.Promise file m m' (neg_ℤ (pos k)) → SomeBlock (given_of b) (lent_blocks b) Wrong)
  host_only = record {
    two = λ p. host_block 2 _ three.two (Refusal.Crossed 1 1) refl p;
    ten = λ p. host_block 10 _ three.ten (Refusal.TooLarge 1 1) refl p;
    eleven = λ p. host_block 11 _ three.eleven (Refusal.Disagree 1 1) refl p;
  }

pub request_1 : Request1
request_1 = record {
  check_shape = λ xs. says check_shape_call xs tt refusals.check_shape shape_to (λ t d e o. shape_back d o);
  fits = λ g. says fits_shape g tt refusals.fits shape_to (λ t d e o. shape_back d o);
  find = λ g. says find_mark g tt refusals.find (λ t l k f. here (shape_to t l k f)) (find_back g.shape g.mark);
  least = λ xs out. says least_text xs out (refusals.text _) (λ t l k f. here (shape_to t l k f)) (text_back xs (length out));
  greatest = λ xs out. says greatest_text xs out (refusals.text _) (λ t l k f. here (shape_to t l k f)) (text_back xs (length out));
  sweep = λ s out. of_pair_lem sweep s out refusals.sweeps (λ t p. here p) (sweep_back s.x s.y (length out));
  tray_pair = tray_pair;
  padded = narrow _;
  exact = narrow _;
  any_case = narrow _;
  at_most = narrow _;
  before = narrow _;
  common_text = λ s m. of_pair_lem common_text_call s m refusals.common_text (λ t p. here p) (show_back s.x s.y (length m.work) (length m.out));
  join_pair = λ s m. record {
    first = says narrow_join s m refusals.join (λ t l k f. here (shape_to t l k f)) (join_first s.x s.y s.z _ _ _ _);
    second = says narrow_join s m refusals.join (λ t l k f. later l.0 (here (shape_to t l.1 k f))) (join_second s.x s.y s.z _ _ _ _);
  };
  join_third = λ s m. says narrow_join s m refusals.join
      (λ t l k f. later l.0 (later l.1 (here (shape_to t l.2 k f)))) (join_third s.x s.y s.z _ _ _ _);
  run_book = λ g m k. says run_book_call g m refusals.run_book (book_to g m.blocks k (length m.work)) (book_back g m.blocks k (length m.work));
  run_file = λ file report b a k. says run_file_call file report refusals.run_file
      (run_to file b a k 63001 (length report)) (run_back file b a k 63001 (length report));
  run_host = λ file m b a k. which run_host_call file m (λ t l i f.
      let d = run_to file b a k (length m.work) (length m.report) t l i f in
      tells run_host_call file m refusals.run_host ((file_one file (length m.work) (length m.report)).not d) d);
  host_only = λ m m' a. host_only a m m';
}
