-- Fillings are readings: of a shape's blocks one after the other, cut around the run of one block, and put together
-- again. Assumes nothing.
use mathlib.Core.Path.{◌≡◌, refl, sym, ap, ◌∙◌, subst}
use mathlib.Core.List.{List, [], ◌∷◌, ◌++◌, append_assoc}
use Prim.Native.Nat.{ℕ, zero, suc, ◌+◌, ◌≤◌, ◌<◌}
use native.Mathlib.Omega.{arith}
use lib.ListN.{length, get_or, take}
use Rattle.plain.specs.All.{All, more}
use Rattle.shapes.specs.Shape.{Block, Sound, Run, Filling, done, fill, Fits, text_of, total, no_block}
use Rattle.walks.specs.Walk.{Walk, here, Bounded}
use Rattle.walks.proofs.Walks.{walk_from, walk_to, still}
use Rattle.walks.proofs.Laid.{Has, Slots, none, next, run_walk, walk_run}

-- ---- fillings are readings

-- a filling cut around the run of block i
pub record Around (X : ℕ → Block) (p : ℕ) (s : List Block) (f : List (List ℕ)) (i : ℕ) : Type 0 where
  pub front : List ℕ
  pub back : List ℕ
  pub before : Walk X (p + total (take i s)) p front
  pub run : Run (get_or s i no_block) (get_or f i [])
  pub after : Walk X (p + total s) (p + total (take i s) + (get_or s i no_block).upper) back
  pub text : text_of f ≡ front ++ (get_or f i [] ++ back)

-- and put together again
pub record Rejoined (s : List Block) (i : ℕ) (r t : List ℕ) : Type 0 where
  pub runs : List (List ℕ)
  pub filling : Filling s runs
  pub joined : text_of runs ≡ t
  pub run : get_or runs i [] ≡ r

first_run : {b : Block} {s : List Block} {r : List ℕ} (front back : List ℕ) → Run b r → Fits s back → front ≡ [] → Rejoined (b ∷ s) 0 r (front ++ (r ++ back))
unfolding text_of
first_run {b} {s} {r} front back run g e = record {
  runs = r ∷ g.runs;
  filling = fill run g.filling;
  joined = ap (λ (l : List ℕ). r ++ l) g.joined ∙ ap (λ (l : List ℕ). l ++ (r ++ back)) (sym e);
  run = refl;
}

next_run : {b : Block} {s : List Block} {i : ℕ} {q r : List ℕ} (front front' t : List ℕ) → Run b q → Rejoined s i r (front' ++ t) → front ≡ q ++ front' → Rejoined (b ∷ s) (suc i) r (front ++ t)
unfolding text_of
next_run {b} {s} {i} {q} {r} front front' t run g e = record {
  runs = q ∷ g.runs;
  filling = fill run g.filling;
  joined = ap (λ (l : List ℕ). q ++ l) g.joined ∙ sym (append_assoc q front' t) ∙ ap (λ (l : List ℕ). l ++ t) (sym e);
  run = g.run;
}

module _ {X : ℕ → Block} where
  pub filling_walk : {p : ℕ} {s : List Block} {f : List (List ℕ)} → Slots X p s → Filling s f → Walk X (p + total s) p (text_of f)
  unfolding total text_of
  filling_walk {p} none done = here {p = p} (omega arith)
  filling_walk {p} (next {b = b} {s = s} h k) (fill {r = r} {f = f} run rest) =
      let bound = run.bounded in
      let enough = run.enough in
      walk_from (let e : p ≡ p + 0 = omega arith in e)
      (walk_to (let e : p + b.upper + total s ≡ p + (b.upper + total s) = omega arith in e)
      (run_walk h 0 r (text_of f) run.held (omega arith) (omega arith) (filling_walk k rest)))

  pub walk_fits : {U : ℕ} → Bounded X U → {p : ℕ} {s : List Block} {t : List ℕ} → Slots X p s → All Sound s → U ≡ p + total s → Walk X U p t → Fits s t
  unfolding total text_of
  walk_fits {U} bd {p} none g e w = record { runs = []; filling = done; joined = sym (still bd (omega arith) w (let z : U ≡ p = omega arith in z)) }
  walk_fits {U} bd {p} (next {b = b} {s = s} h k) (more o g) e w =
      let i = walk_run h w 0 (omega arith) (omega arith) (omega arith) o.ordered in
      let r = walk_fits bd k g (omega arith) i.walk in
      let enough = i.enough in
      let bound = i.bounded in
      record {
        runs = i.run ∷ r.runs;
        filling = fill {b = b} (record { held = i.held; enough = omega arith; bounded = omega arith }) r.filling;
        joined = ap (λ (l : List ℕ). i.run ++ l) r.joined ∙ sym i.text;
      }

  pub around : {p : ℕ} {s : List Block} {f : List (List ℕ)} → Slots X p s → Filling s f → (i : ℕ) → i < length s → Around X p s f i
  unfolding total text_of
  around none done i l = absurd (omega arith)
  around {p} (next {b = b} {s = s} h k) (fill {r = r} {f = f} run rest) zero l = record {
    front = [];
    back = text_of f;
    before = here {p = p} (omega arith);
    run = run;
    after = walk_from (let e : p + 0 + b.upper ≡ p + b.upper = omega arith in e) (walk_to (let e : p + b.upper + total s ≡ p + (b.upper + total s) = omega arith in e) (filling_walk k rest));
    text = refl;
  }
  around {p} (next {b = b} {s = s} h k) (fill {r = r} {f = f} run rest) (suc i) l =
      let a = around k rest i (omega arith) in
      let bound = run.bounded in
      let enough = run.enough in
      record {
        front = r ++ a.front;
        back = a.back;
        before = walk_from (let e : p ≡ p + 0 = omega arith in e)
            (run_walk h 0 r a.front run.held (omega arith) (omega arith) (walk_to (let e : p + b.upper + total (take i s) ≡ p + (b.upper + total (take i s)) = omega arith in e) a.before));
        run = a.run;
        after = walk_from (let e : p + (b.upper + total (take i s)) + (get_or s i no_block).upper ≡ p + b.upper + total (take i s) + (get_or s i no_block).upper = omega arith in e)
            (walk_to (let e : p + b.upper + total s ≡ p + (b.upper + total s) = omega arith in e) a.after);
        text = ap (λ (l : List ℕ). r ++ l) a.text ∙ sym (append_assoc r a.front (get_or f i [] ++ a.back));
      }

  pub rejoin : {U : ℕ} → Bounded X U → {p st : ℕ} {s : List Block} (i : ℕ) (front r back : List ℕ) → Slots X p s → All Sound s → U ≡ p + total s → i < length s → st ≡ p + total (take i s)
      → Walk X st p front → Run (get_or s i no_block) r → Walk X U (st + (get_or s i no_block).upper) back → Rejoined s i r (front ++ (r ++ back))
  unfolding total
  rejoin bd i front r back none g e l d w run v = absurd (omega arith)
  rejoin {U} bd {p} {st} zero front r back (next {b = b} {s = s} h k) (more o g) e l d w run v =
      first_run front back run (walk_fits bd k g (omega arith) (walk_from (let z : p + b.upper ≡ st + b.upper = omega arith in z) v)) (still bd (omega arith) w (let z : st ≡ p = omega arith in z))
  rejoin {U} bd {p} {st} (suc i) front r back (next {b = b} {s = s} h k) (more o g) e l d w run v =
      let a = walk_run h w 0 (omega arith) (omega arith) (omega arith) o.ordered in
      let enough = a.enough in
      let bound = a.bounded in
      let q : Run b a.run = record { held = a.held; enough = omega arith; bounded = omega arith } in
      next_run front a.rest (r ++ back) q (rejoin bd i a.rest r back k g (omega arith) (omega arith) (omega arith) a.walk run v) a.text

-- ---- the place of block i

pub total_take : (s : List Block) (i : ℕ) → i < length s → total (take i s) + (get_or s i no_block).upper ≤ total s
unfolding total
total_take [] i h = absurd (omega arith)
total_take (b ∷ s) zero h = omega arith
total_take (b ∷ s) (suc i) h = let r = total_take s i (omega arith) in omega arith

pub slots_take : {X : ℕ → Block} {p : ℕ} {s : List Block} (i : ℕ) → Slots X p s → Slots X p (take i s)
slots_take zero none = none
slots_take zero (next h k) = none
slots_take (suc i) none = none
slots_take {X = X} {p = p} (suc i) (next {b = b} {s = s} h k) = next h (slots_take {p = p + b.upper} i k)

pub has_at : {X : ℕ → Block} {p : ℕ} {s : List Block} → Slots X p s → (i : ℕ) → i < length s → Has X (p + total (take i s)) (get_or s i no_block)
unfolding total
has_at none i h = absurd (omega arith)
has_at {X} {p} (next {b = b} k r) zero h = subst (λ (x : ℕ). Has X x b) (let e : p ≡ p + 0 = omega arith in e) k
has_at {X} {p} (next {b = b} {s = s} k r) (suc i) h =
    subst (λ (x : ℕ). Has X x (get_or s i no_block)) (let e : p + b.upper + total (take i s) ≡ p + (b.upper + total (take i s)) = omega arith in e) (has_at r i (omega arith))

pub start_at : {X : ℕ → Block} {b : Block} (n : ℕ) → Has X (0 + n) b → Has X n b
start_at {X} {b} n h = subst (λ (x : ℕ). Has X x b) (let e : 0 + n ≡ n = omega arith in e) h
