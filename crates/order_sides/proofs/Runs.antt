-- The runs that a block has in texts on the right side are those that the states tell of. Assumes nothing.
use mathlib.Core.Path.{◌≡◌, refl, sym, ap, ◌∙◌, subst}
use mathlib.Core.List.Memᴰ
use mathlib.Core.List.{List, [], ◌∷◌, ◌++◌, append_assoc}
use mathlib.Core.Logic.{⊎_elim}
use Prim.Native.Nat.{ℕ, zero, suc, ◌+◌, ◌-◌, ◌≤◌, ◌<◌}
use native.Mathlib.Omega.{arith}
use lib.ListN.{length, replicate, length-append, length-replicate}
use Rattle.bases.specs.Base.{Holds, Meets}
use Rattle.plain.proofs.Plain.{lt_or_le}
use Rattle.plain.specs.All.{All, more}
use Rattle.shapes.specs.Shape.{Block, Run}
use Rattle.plain.proofs.All.{all_append, all_left, all_right, all_head, all_tail}
use Rattle.hulls.specs.Hull.{Occurs, Tight}
use Rattle.hulls.proofs.Tight.{all_from}
use Rattle.walks.specs.Walk.{Walk, step, Bounded}
use Rattle.walks.proofs.Walks.{walk_from, walk_append, path_of, text_of}
use Rattle.walks.proofs.Laid.{Has, run_walk, walk_run}
use Rattle.walks.proofs.Cut.{last_of, occurs_split, last_text, within_text, to_within, from_within}
use Rattle.order_sides.specs.Guide.{Guide, KeepsTo, along, Even, Free}
use Rattle.order_sides.specs.Collect.{SidePasses, RunEndsAt, SideCollected}
use Rattle.order_sides.proofs.Keeping.{keeps_append, CutAt, whole, early, cut, free_later, early_free, clear_of, advance_to, text_clear}

-- ---- lists

occurs_right : {c : ℕ} (q : List ℕ) {s : List ℕ} → Occurs c s → Occurs c (q ++ s)
occurs_right [] m = m
occurs_right (d ∷ q) m = Memᴰ.tail (occurs_right q m)

occurs_times : (c n : ℕ) → 0 < n → Occurs c (replicate n c)
occurs_times c zero h = absurd (omega arith)
occurs_times c (suc n) h = Memᴰ.head refl

all_times : {P : ℕ → Type 0} (c n : ℕ) → P c → All P (replicate n c)
all_times c zero h = All.none
all_times c (suc n) h = more h (all_times c n h)

keeps_text : {G : Guide} {q : ℕ} {t u : List ℕ} → t ≡ u → KeepsTo G q t → KeepsTo G q u
keeps_text {G} {q} e k = subst (KeepsTo G q) e k

-- ---- a block among the positions of X

pub record Spot (X : ℕ → Block) (U p : ℕ) (b : Block) : Type 0 where
  pub has : Has X p b
  pub ordered : b.lower ≤ b.upper
  pub edge : (y : ℕ) → y < p → y + (X y).upper ≤ p
  pub fits : p + b.upper ≤ U
  pub bounded : Bounded X U
  pub full : (i : ℕ) → i < U → (c : ℕ) × Holds (X i).base c

-- a text on the right side in which the block has the run r
pub record RunIn (X : ℕ → Block) (G : Guide) (U p : ℕ) (b : Block) (r : List ℕ) : Type 0 where
  pub front : List ℕ
  pub back : List ℕ
  pub before : Walk X p 0 front
  pub run : Run b r
  pub after : Walk X U (p + b.upper) back
  pub keeps : KeepsTo G 0 (front ++ (r ++ back))

module _ {X : ℕ → Block} {U p : ℕ} {b : Block} (at : Spot X U p b) where
  -- what a slot of the block holds
  slot_holds : (k c : ℕ) → k < b.upper → Holds (X (p + k)).base c → Holds b.base c
  slot_holds k c l h = subst (λ (x : Block). Holds x.base c) (at.has.slot k l) h

  holds_slot : (k c : ℕ) → k < b.upper → Holds b.base c → Holds (X (p + k)).base c
  holds_slot k c l h = subst (λ (x : Block). Holds x.base c) (sym (at.has.slot k l)) h

  -- any rest
  some_rest : (t : List ℕ) × Walk X U (p + b.upper) t
  some_rest = advance_to at.bounded at.full (p + b.upper) U at.fits (omega arith)

  -- n characters of the block
  some_run : (n : ℕ) → n ≤ b.upper → (r : List ℕ) × All (Holds b.base) r × (length r ≡ n)
  some_run zero h = ([], All.none, refl)
  some_run (suc n) h =
      let fits = at.fits in
      let c = at.full (p + 0) (omega arith) in
      (replicate (suc n) c.0, all_times c.0 (suc n) (slot_holds 0 c.0 (omega arith) c.1), length-replicate (suc n) c.0)

  module _ {G : Guide} where
    -- ---- free runs

    -- free before the block: any run will do
    free_before : (f : Free X G p) (r : List ℕ) → Run b r → RunIn X G U p b r
    free_before f r run =
        let a = text_of f.reached in
        let bf = f.before in
        let fits = at.fits in
        let m = f.parts in
        let z = advance_to at.bounded at.full (f.at + 1) p (omega arith) (omega arith) in
        let e = some_rest in
        record {
          front = a.0 ++ (m.shared ∷ z.0);
          back = e.0;
          before = walk_append a.1 (step m.first z.1);
          run = run;
          after = e.1;
          keeps = keeps_text (sym (append_assoc a.0 (m.shared ∷ z.0) (r ++ e.0))) (keeps_append a.2 (KeepsTo.apart m.second));
        }

    -- free from a character d of the run on: after it any characters s
    free_within : (k q d : ℕ) (s : List ℕ) → k < b.upper → Even X G (p + k) q → Holds b.base d → Holds (G.apart q) d → All (Holds b.base) s
        → k + 1 + length s ≤ b.upper → b.lower ≤ k + 1 + length s → (r : List ℕ) × RunIn X G U p b (r ++ (d ∷ s)) × (length r ≡ k)
    free_within k q d s l v h g all up low =
        let a = text_of v in
        let i = from_within at.has at.edge k l a.1 in
        let e = some_rest in
        let size = i.5 in
        let long : length (i.1 ++ (d ∷ s)) ≡ length i.1 + suc (length s) = length-append i.1 (d ∷ s) in (
          i.1,
          record {
            front = i.0;
            back = e.0;
            before = i.3;
            run = record { held = all_append i.4 (more h all); enough = omega arith; bounded = omega arith };
            after = e.1;
            keeps = keeps_text (ap (λ (t : List ℕ). t ++ (d ∷ (s ++ e.0))) i.2 ∙ sym (within_text i.0 i.1 s e.0 d)) (keeps_append a.2 (KeepsTo.apart g));
          },
          size,
        )

    free_run : {n : ℕ} → b.lower ≤ n → n ≤ b.upper → Free X G (p + n) → (r : List ℕ) × RunIn X G U p b r × (length r ≡ n)
    free_run {n} low up f = ⊎_elim
        (λ l.
        let s = some_run n up in
        let e = s.2 in
        (s.0, free_before (record { at = f.at; state = f.state; before = l; reached = f.reached; parts = f.parts }) s.0 (record { held = s.1; enough = omega arith; bounded = omega arith }), e))
        (λ l.
        let k : ℕ = f.at - p in
        let bf = f.before in
        let same : f.at ≡ p + k = omega arith in
        let m = subst (λ (x : ℕ). Meets (X x).base (G.apart f.state)) same f.parts in
        let held = slot_holds k m.shared (omega arith) m.first in
        let size = length-replicate (n - k - 1) m.shared in
        let r = free_within k f.state m.shared (replicate (n - k - 1) m.shared) (omega arith) (subst (λ (x : ℕ). Even X G x f.state) same f.reached) held m.second
        (all_times m.shared (n - k - 1) held) (omega arith) (omega arith) in
        let long = length-append r.0 (m.shared ∷ replicate (n - k - 1) m.shared) in
        let first = r.2 in
        (r.0 ++ (m.shared ∷ replicate (n - k - 1) m.shared), r.1, (let e : length (r.0 ++ (m.shared ∷ replicate (n - k - 1) m.shared)) ≡ n = omega arith in e)))
        (lt_or_le f.at p)

    -- ---- lengths

    ends_empty : RunIn X G U p b [] → RunEndsAt X G U p b 0
    ends_empty r = go (cut r.front r.back r.keeps)
      where
        go : CutAt G 0 r.front r.back → RunEndsAt X G U p b 0
        go (whole s w k) = let low = r.run.enough in RunEndsAt.empty s (omega arith) refl (path_of r.before w) (clear_of r.after k)
        go (early a z c s e w h) = RunEndsAt.free r.run.enough r.run.bounded (free_later (let l : p ≤ p + 0 = omega arith in l) (early_free a z c r.before e w h))

    ends_filled : (q : List ℕ) (d : ℕ) → RunIn X G U p b (q ++ (d ∷ [])) → RunEndsAt X G U p b (length (q ++ (d ∷ [])))
    ends_filled q d r = go (cut (r.front ++ q) (d ∷ r.back) (keeps_text (last_text r.front q r.back d) r.keeps))
      where
        long : length (q ++ (d ∷ [])) ≡ length q + 1
        long = length-append q (d ∷ [])

        high : length q + 1 ≤ b.upper
        high = let h = r.run.bounded in let e = long in omega arith

        walked : Walk X (p + length q) 0 (r.front ++ q)
        walked = to_within at.has q r.before (all_left q (d ∷ []) r.run.held) (omega (arith, long, high))

        held : Holds b.base d
        held = all_head (all_right q (d ∷ []) r.run.held)

        last : (s : ℕ) → Walk (along G) s 0 (r.front ++ q) → KeepsTo G s (d ∷ r.back) → RunEndsAt X G U p b (length (q ++ (d ∷ [])))
        last s w (KeepsTo.apart h) = RunEndsAt.free r.run.enough r.run.bounded
            (record { at = p + length q; state = s; before = omega (arith, long, high); reached = path_of walked w; parts = record { shared = d; first = holds_slot (length q) d (omega (arith, long, high)) held; second = h } })
        last s w (KeepsTo.same h k) = RunEndsAt.stays (length q) s long (omega (arith, long, high)) r.run.enough (path_of walked w) (record { shared = d; first = held; second = h }) (clear_of r.after k)

        go : CutAt G 0 (r.front ++ q) (d ∷ r.back) → RunEndsAt X G U p b (length (q ++ (d ∷ [])))
        go (whole s w k) = last s w k
        go (early a z c s e w h) = RunEndsAt.free r.run.enough r.run.bounded (free_later (omega (arith, long, high)) (early_free a z c walked e w h))

    pub ends_of_lem : (r : List ℕ) → RunIn X G U p b r → RunEndsAt X G U p b (length r)
    ends_of_lem [] i = ends_empty i
    ends_of_lem (c ∷ r) i =
        let l = last_of c r in
        subst (λ (r : List ℕ). RunEndsAt X G U p b (length r)) (sym l.2) (ends_filled l.0 l.1 (subst (RunIn X G U p b) l.2 i))

    pub run_of : {n : ℕ} → RunEndsAt X G U p b n → (r : List ℕ) × RunIn X G U p b r × (length r ≡ n)
    run_of {n} (RunEndsAt.free low up f) = free_run low up f
    run_of {n} (RunEndsAt.empty q low e v k) =
        let a = text_of v in
        let z = text_clear at.bounded at.full k at.fits in
        ([], record { front = a.0; back = z.0; before = a.1; run = record { held = All.none; enough = omega arith; bounded = omega arith }; after = z.1; keeps = keeps_append a.2 z.2 }, sym e)
    run_of {n} (RunEndsAt.stays k q e l low v m g) =
        let a = text_of v in
        let z = text_clear at.bounded at.full g at.fits in
        let i = from_within at.has at.edge k l a.1 in
        let size = i.5 in
        let long : length (i.1 ++ (m.shared ∷ [])) ≡ length i.1 + 1 = length-append i.1 (m.shared ∷ []) in (
          i.1 ++ (m.shared ∷ []),
          record {
            front = i.0;
            back = z.0;
            before = i.3;
            run = record { held = all_append i.4 (more m.first All.none); enough = omega arith; bounded = omega arith };
            after = z.1;
            keeps = keeps_text (ap (λ (t : List ℕ). t ++ (m.shared ∷ z.0)) i.2 ∙ sym (last_text i.0 i.1 z.0 m.shared)) (keeps_append a.2 (KeepsTo.same m.second z.2));
          },
          omega arith,
        )

    -- ---- characters

    pub passes_of : (q s : List ℕ) (c : ℕ) → RunIn X G U p b (q ++ (c ∷ s)) → SidePasses X G U p b c
    passes_of q s c r = go (cut (r.front ++ q) (c ∷ (s ++ r.back)) (keeps_text (within_text r.front q s r.back c) r.keeps))
      where
        long : length (q ++ (c ∷ s)) ≡ length q + suc (length s)
        long = length-append q (c ∷ s)

        high : length q + suc (length s) ≤ b.upper
        high = let h = r.run.bounded in let e = long in omega arith

        low : b.lower ≤ length q + suc (length s)
        low = let h = r.run.enough in let e = long in omega arith

        walked : Walk X (p + length q) 0 (r.front ++ q)
        walked = to_within at.has q r.before (all_left q (c ∷ s) r.run.held) (omega (arith, high, low))

        rest : All (Holds b.base) (c ∷ s)
        rest = all_right q (c ∷ s) r.run.held

        next : (st : ℕ) → Walk (along G) st 0 (r.front ++ q) → KeepsTo G st (c ∷ (s ++ r.back)) → SidePasses X G U p b c
        next st w (KeepsTo.apart h) = SidePasses.parts (length q) st (omega (arith, high, low)) (all_head rest) (path_of walked w) h
        next st w (KeepsTo.same h k) = SidePasses.stays (length q) st (omega (arith, high, low)) (all_head rest) (path_of walked w) h
            (clear_of
            (walk_from (let e : p + length q + 1 ≡ p + (length q + 1) = omega (arith, high, low) in e)
            (run_walk at.has (length q + 1) s r.back (all_tail rest) (omega (arith, high, low)) (omega (arith, high, low)) r.after)) k)

        go : CutAt G 0 (r.front ++ q) (c ∷ (s ++ r.back)) → SidePasses X G U p b c
        go (whole st w k) = next st w k
        go (early a z d st e w h) = SidePasses.free (length q) (omega (arith, high, low)) (all_head rest) (early_free a z d walked e w h)

    -- a free run with the character c
    free_with : {c : ℕ} (k : ℕ) → k < b.upper → Holds b.base c → Free X G (p + k) → (r : List ℕ) × RunIn X G U p b r × Occurs c r
    free_with {c} k l h f = ⊎_elim
        (λ g.
        let size = length-replicate b.upper c in
        let order = at.ordered in (
          replicate b.upper c,
          free_before (record { at = f.at; state = f.state; before = g; reached = f.reached; parts = f.parts }) (replicate b.upper c)
              (record { held = all_times c b.upper h; enough = omega arith; bounded = omega arith }),
          occurs_times c b.upper (omega arith),
        ))
        (λ g.
        let j : ℕ = f.at - p in
        let n : ℕ = b.upper - j - 1 in
        let bf = f.before in
        let order = at.ordered in
        let same : f.at ≡ p + j = omega arith in
        let m = subst (λ (x : ℕ). Meets (X x).base (G.apart f.state)) same f.parts in
        let held = slot_holds j m.shared (omega arith) m.first in
        let size = length-replicate (b.upper - j - 1) c in
        let r = free_within j f.state m.shared (replicate (b.upper - j - 1) c) (omega arith) (subst (λ (x : ℕ). Even X G x f.state) same f.reached) held m.second
        (all_times c (b.upper - j - 1) h) (omega arith) (omega arith) in
        (r.0 ++ (m.shared ∷ replicate (b.upper - j - 1) c), r.1, occurs_right r.0 (Memᴰ.tail (occurs_times c (b.upper - j - 1) (omega arith)))))
        (lt_or_le f.at p)

    -- a run that stays with T at its character c
    stay_with : {st : ℕ} {t u : List ℕ} (c : ℕ) (f q r z : List ℕ) → Walk X p 0 f → All (Holds b.base) q → Holds b.base c → All (Holds b.base) r
        → b.lower ≤ length q + suc (length r) → length q + suc (length r) ≤ b.upper → Walk X U (p + b.upper) z → t ≡ f ++ q → u ≡ r ++ z
        → Walk (along G) st 0 t → Holds (G.same st) c → KeepsTo G (st + 1) u → (r : List ℕ) × RunIn X G U p b r × Occurs c r
    stay_with c f q r z w hq h hr low high v e d m g k =
        let long : length (q ++ (c ∷ r)) ≡ length q + suc (length r) = length-append q (c ∷ r) in (
          q ++ (c ∷ r),
          record {
            front = f;
            back = z;
            before = w;
            run = record { held = all_append hq (more h hr); enough = omega arith; bounded = omega arith };
            after = v;
            keeps = keeps_text (ap (λ (t : List ℕ). t ++ (c ∷ (r ++ z))) e ∙ sym (within_text f q r z c)) (keeps_append m (KeepsTo.same g (keeps_text d k)));
          },
          occurs_right q (Memᴰ.head refl),
        )

    pub run_with : (c : ℕ) → SidePasses X G U p b c → (r : List ℕ) × RunIn X G U p b r × Occurs c r
    run_with c (SidePasses.free k l h f) = free_with k l h f
    run_with c (SidePasses.parts k q l h v g) =
        let size = length-replicate (b.upper - k - 1) c in
        let order = at.ordered in
        let r = free_within k q c (replicate (b.upper - k - 1) c) l v h g (all_times c (b.upper - k - 1) h) (omega arith) (omega arith) in
        (r.0 ++ (c ∷ replicate (b.upper - k - 1) c), r.1, occurs_right r.0 (Memᴰ.head refl))
    run_with c (SidePasses.stays k q l h v g clear) =
        let fits = at.fits in
        let a = text_of v in
        let z = text_clear at.bounded at.full clear (omega arith) in
        let i = from_within at.has at.edge k l a.1 in
        let w = walk_run at.has z.1 (k + 1) (omega arith) (omega arith) fits at.ordered in
        let size = i.5 in
        let low = w.enough in
        let high = w.bounded in
        stay_with c i.0 i.1 w.run w.rest i.3 i.4 h w.held (omega arith) (omega arith) w.walk i.2 w.text a.2 g z.2

    -- the block of the runs
    pub collected_tight : {h : Block} → SideCollected X G U p b h → Tight (RunIn X G U p b) h
    collected_tight {h} k = record {
      covers = λ r i. record {
        held = all_from r (λ c o. let s = occurs_split o in k.all_held c (passes_of s.0 s.1 c (subst (RunIn X G U p b) s.2 i)));
        enough = k.not_shorter (length r) (ends_of_lem r i);
        bounded = k.not_longer (length r) (ends_of_lem r i);
      };
      held = λ c h. run_with c (k.held c h);
      shortest = run_of k.shortest;
      longest = run_of k.longest;
    }
