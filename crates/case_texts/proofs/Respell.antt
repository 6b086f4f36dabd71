-- Runs and fillings respelled: from blocks with both cases of their letters back to the blocks, and a filling as
-- another text that is equal but for case. Assumes nothing.
use mathlib.Core.Path.{◌≡◌, refl, sym, ap, ◌∙◌, subst}
use mathlib.Core.List.Memᴰ
use mathlib.Core.List.{List, [], ◌∷◌, ◌++◌}
use mathlib.Core.Logic.{⊎_elim}
use Prim.Native.Nat.{ℕ, zero, suc}
use native.Mathlib.Omega.{arith}
use lib.ListN.{length, get_or, take, drop}
use Rattle.bases.specs.Base.{Holds}
use Rattle.sets.specs.Set.{Exactly}
use Rattle.sets.proofs.Exact.{held_or_not}
use Rattle.letters.specs.Case.{SomeCase}
use Rattle.letters.proofs.Bases.{some_held, some_like}
use Rattle.texts.specs.Case.{lowered}
use Rattle.texts.proofs.Case.{Alike, none, more, alike_refl, alike_append, alike_length, cut_alike}
use Rattle.plain.specs.All.{All}
use Rattle.shapes.specs.Shape.{Block, Run, Filling, done, fill, text_of, no_block}
use Rattle.hulls.specs.Hull.{Occurs}
use Rattle.case_blocks.specs.Case.{Widened, Wide}

-- ---- one character

-- d is in the base, counts as c, and is c where c is in the base
record Picked (b c : ℕ) : Type 0 where
  char : ℕ
  held : Holds b char
  same : lowered char ≡ lowered c
  itself : Holds b c → c ≡ char

pick : {b w : ℕ} → Exactly w (SomeCase b) → (c : ℕ) → Holds w c → Picked b c
pick {b} x c h = ⊎_elim
    (λ y. record { char = c; held = y; same = refl; itself = λ _. refl })
    (λ n. let s = x.so c h in record { char = s.like; held = s.held; same = s.same; itself = λ y. absurd (n y) })
    (held_or_not b c)

-- ---- one run

pub record Respelled (b : Block) (r : List ℕ) : Type 0 where
  pub run : List ℕ
  pub is_run : Run b run
  pub alike : Alike run r
  pub keeps : (c : ℕ) → Occurs c r → Holds b.base c → Occurs c run

record Letters (b : ℕ) (r : List ℕ) : Type 0 where
  run : List ℕ
  held : All (Holds b) run
  alike : Alike run r
  keeps : (c : ℕ) → Occurs c r → Holds b c → Occurs c run

letters : {b w : ℕ} → Exactly w (SomeCase b) → (r : List ℕ) → All (Holds w) r → Letters b r
letters x [] All.none = record { run = []; held = All.none; alike = none; keeps = λ c o h. o }
letters {b} x (c ∷ r) (All.more h a) =
    let p = pick x c h in
    let l = letters x r a in
    record {
      run = p.char ∷ l.run;
      held = All.more p.held l.held;
      alike = more p.same l.alike;
      keeps = λ d o g. ⊎_elim
          (λ e. Memᴰ.head (e ∙ p.itself (subst (Holds b) e g)))
          (λ m. Memᴰ.tail (l.keeps d m g))
          (Memᴰ.cases_cons o);
    }

pub respell : {b w : Block} → Widened b w → (r : List ℕ) → Run w r → Respelled b r
respell v r q =
    let l = letters v.base r q.held in
    let e = alike_length l.alike in
    let lo = v.lower in
    let hi = v.upper in
    let enough = q.enough in
    let bounded = q.bounded in
    record { run = l.run; is_run = record { held = l.held; enough = omega arith; bounded = omega arith }; alike = l.alike; keeps = l.keeps }

-- a run of the block, spelled anyhow, is one of the wide block
all_wide : {b w : ℕ} {r s : List ℕ} → Exactly w (SomeCase b) → All (Holds b) r → Alike r s → All (Holds w) s
all_wide x All.none none = All.none
all_wide x (All.more h a) (more e l) = All.more (x.has _ (some_like e (some_held h))) (all_wide x a l)

pub wide_run : {b w : Block} {r s : List ℕ} → Widened b w → Run b r → Alike r s → Run w s
wide_run v q l =
    let e = alike_length l in
    let lo = v.lower in
    let hi = v.upper in
    let enough = q.enough in
    let bounded = q.bounded in
    record { held = all_wide v.base q.held l; enough = omega arith; bounded = omega arith }

-- ---- a filling

-- run by run alike
pub data AlikeRuns : List (List ℕ) → List (List ℕ) → Type 0 where
  end : AlikeRuns [] []
  next : {r s : List ℕ} {f g : List (List ℕ)} → Alike r s → AlikeRuns f g → AlikeRuns (r ∷ f) (s ∷ g)

pub text_alike : {f g : List (List ℕ)} → AlikeRuns f g → Alike (text_of f) (text_of g)
unfolding text_of
text_alike end = none
text_alike (next a x) = alike_append a (text_alike x)

pub runs_take : (n : ℕ) {f g : List (List ℕ)} → AlikeRuns f g → AlikeRuns (take n f) (take n g)
runs_take zero x = end
runs_take (suc n) end = end
runs_take (suc n) (next a x) = next a (runs_take n x)

pub runs_drop : (n : ℕ) {f g : List (List ℕ)} → AlikeRuns f g → AlikeRuns (drop n f) (drop n g)
runs_drop zero x = x
runs_drop (suc n) end = end
runs_drop (suc n) (next a x) = runs_drop n x

pub runs_at : {f g : List (List ℕ)} → AlikeRuns f g → (i : ℕ) → length (get_or f i []) ≡ length (get_or g i [])
runs_at end i = refl
runs_at (next a x) zero = alike_length a
runs_at (next a x) (suc i) = runs_at x i

-- from the wide blocks back
pub record Back (S : List Block) (f : List (List ℕ)) : Type 0 where
  pub runs : List (List ℕ)
  pub filling : Filling S runs
  pub alike : AlikeRuns runs f
  pub keeps : (i c : ℕ) → Occurs c (get_or f i []) → Holds (get_or S i no_block).base c → Occurs c (get_or runs i [])

pub back : {S W : List Block} {f : List (List ℕ)} → Wide S W → Filling W f → Back S f
back Wide.end done = record { runs = []; filling = done; alike = end; keeps = λ i c o h. o }
back (Wide.next {b = b} {S = S} v x) (fill {r = r} {f = f} q y) =
    let p = respell v r q in
    let k = back x y in
    record { runs = p.run ∷ k.runs; filling = fill p.is_run k.filling; alike = next p.alike k.alike; keeps = keeps p k }
  where
    keeps : (p : Respelled b r) (k : Back S f) (i c : ℕ) → Occurs c (get_or (r ∷ f) i []) → Holds (get_or (b ∷ S) i no_block).base c → Occurs c (get_or (p.run ∷ k.runs) i [])
    keeps p k zero c o h = p.keeps c o h
    keeps p k (suc i) c o h = k.keeps i c o h

-- to the wide blocks, as it is
pub widely : {S W : List Block} {f : List (List ℕ)} → Wide S W → Filling S f → Filling W f
widely Wide.end done = done
widely (Wide.next v x) (fill {r = r} q y) = fill (wide_run v q (alike_refl r)) (widely x y)

-- to the wide blocks, respelled as a text that is equal but for case
pub record Recut (W : List Block) (t : List ℕ) : Type 0 where
  pub runs : List (List ℕ)
  pub filling : Filling W runs
  pub text : text_of runs ≡ t

pub recut : {S W : List Block} {f : List (List ℕ)} → Wide S W → Filling S f → (t : List ℕ) → Alike (text_of f) t → Recut W t
unfolding text_of
recut Wide.end done (_ ∷ _) a = elim a [ ]
recut Wide.end done [] none = record { runs = []; filling = done; text = refl }
recut (Wide.next v x) (fill {r = r} {f = f} q y) t a =
    let k = cut_alike r (text_of f) t a in
    let m = recut x y k.second k.second_alike in
    record { runs = k.first ∷ m.runs; filling = fill (wide_run v q k.first_alike) m.filling; text = ap (λ (u : List ℕ). k.first ++ u) m.text ∙ sym k.joined }
