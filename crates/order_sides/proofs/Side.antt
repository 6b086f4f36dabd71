-- Narrowing one shape by what keeps to the right side: none exactly if no rest from the start does, and otherwise the
-- blocks that the states tell of. Assumes nothing.
use mathlib.Core.Path.{◌≡◌, refl, sym, ap, ◌∙◌, subst}
use mathlib.Core.List.{List, [], ◌∷◌, ◌++◌}
use mathlib.Core.Logic.{⊎_elim}
use Prim.Native.Nat.{ℕ, ◌+◌, ◌-◌, ◌≤◌, ◌<◌}
use native.Mathlib.Omega.{arith}
use lib.ListN.{length, get_or, take}
use Rattle.bases.specs.Base.{Holds}
use Rattle.plain.proofs.Plain.{lt_or_le}
use Rattle.plain.specs.All.{All, more}
use Rattle.shapes.specs.Shape.{Block, Sound, Run, Filling, text_of, total, no_block}
use Rattle.plain.proofs.All.{all_head, all_at}
use Rattle.hulls.specs.Hull.{Satisfies, None, Some, Taken, Tight, Hull}
use Rattle.hulls.proofs.Tight.{tight_same, run_of_length}
use Rattle.walks.specs.Walk.{slot_at, Walk, Bounded}
use Rattle.walks.proofs.Walks.{walk_from, walk_to}
use Rattle.walks.proofs.Laid.{Has, Slots, none, next, slot_here, slot_after, in_slots}
use Rattle.walks.proofs.Fillings.{around, rejoin, filling_walk, walk_fits, total_take, slots_take, has_at, start_at}
use Rattle.order_sides.specs.Guide.{Guide, KeepsTo, KeptTo, Clear}
use Rattle.order_sides.specs.Collect.{RunEndsAt, SideCollected}
use Rattle.order_sides.proofs.Keeping.{clear_of, text_clear}
use Rattle.order_sides.proofs.Runs.{Spot, RunIn, ends_of_lem, collected_tight}

-- ---- each position of a sound shape has a character to take

first_held : (b : Block) (r : List ℕ) → All (Holds b.base) r → 0 < length r → (c : ℕ) × Holds b.base c
first_held b [] h l = absurd (omega arith)
first_held b (c ∷ r) h l = (c, all_head h)

in_block : {X : ℕ → Block} {p : ℕ} {b : Block} → Has X p b → Sound b → (q k : ℕ) → q ≡ p + k → k < b.upper → (c : ℕ) × Holds (X q).base c
in_block {X} {p} {b} h s q k e l =
    let r = run_of_length s b.upper s.ordered (omega arith) in
    let n = r.2 in
    let c = first_held b r.0 r.1.held (omega arith) in
    (c.0, subst (λ (z : Block). Holds z.base c.0) (sym (ap X e ∙ h.slot k l)) c.1)

slots_full : {X : ℕ → Block} {p : ℕ} {s : List Block} → Slots X p s → All Sound s → (q : ℕ) → p ≤ q → q < p + total s → (c : ℕ) × Holds (X q).base c
unfolding total
slots_full none g q l h = absurd (omega arith)
slots_full {X} {p} (next {b = b} {s = s} f r) (more o g) q l h =
    let again : p + b.upper ≤ q → (c : ℕ) × Holds (X q).base c = λ z. slots_full r g q z (omega arith) in
    ⊎_elim (λ z. in_block f o q (q - p) (omega arith) (omega arith)) again (lt_or_le q (p + b.upper))

-- blocks laid out from a position, up to their end
pub laid_slots : (X : ℕ → Block) (p : ℕ) (s : List Block) → ((k : ℕ) → k ≤ total s → X (p + k) ≡ slot_at s k) → Slots X p s
unfolding total
laid_slots X p [] f = none
laid_slots X p (b ∷ s) f = next (record { slot = λ k h. f k (omega arith) ∙ slot_here b s k h })
    (laid_slots X (p + b.upper) s (λ k h. ap X (let e : p + b.upper + k ≡ p + (b.upper + k) = omega arith in e) ∙ f (b.upper + k) (omega arith) ∙ slot_after b s k))

-- ---- the rule of one side

-- S laid out as X
module _ {X : ℕ → Block} (S : List Block) (slots : Slots X 0 S) (bounded : Bounded X (total S)) where
  module _ (G : Guide) where
    start : {f : List (List ℕ)} → Filling S f → Walk X (total S) 0 (text_of f)
    start x = walk_to (let e : 0 + total S ≡ total S = omega arith in e) (filling_walk slots x)

    pub side_clear : {f : List (List ℕ)} → Satisfies (KeptTo G) S f → Clear X G (total S) 0 0
    side_clear s = clear_of (start s.filling) s.rule

    pub side_none : (Clear X G (total S) 0 0 → ⊥) → None (KeptTo G) S
    side_none n = record { never = λ f s. n (side_clear s) }

  module _ (g : All Sound S) where
    full : (i : ℕ) → i < total S → (c : ℕ) × Holds (X i).base c
    full i h = slots_full slots g i (omega arith) (omega arith)

    pub spot : (i : ℕ) → i < length S → Spot X (total S) (total (take i S)) (get_or S i no_block)
    spot i l = record {
      has = start_at (total (take i S)) (has_at slots i l);
      ordered = (all_at no_block g i l).ordered;
      edge = λ y h. let w = (in_slots (slots_take i slots) y (omega arith) (omega arith)).within in omega arith;
      fits = total_take S i l;
      bounded = bounded;
      full = full;
    }

    module _ (G : Guide) where
      pub side_some : Clear X G (total S) 0 0 → Some (KeptTo G) S
      side_some k =
          let t = text_clear bounded full k (omega arith) in
          let x = walk_fits bounded slots g (omega arith) t.1 in
          record { runs = x.runs; satisfies = record { filling = x.filling; rule = subst (KeepsTo G 0) (sym x.joined) t.2 } }

      module _ (i : ℕ) (l : i < length S) where
        taken_run : (r : List ℕ) → RunIn X G (total S) (total (take i S)) (get_or S i no_block) r → Taken (KeptTo G) S i r
        taken_run r h =
            let x = rejoin bounded i h.front r h.back slots g (omega arith) l (omega arith) h.before h.run h.after in
            record { runs = x.runs; satisfies = record { filling = x.filling; rule = subst (KeepsTo G 0) (sym x.joined) h.keeps }; run = x.run }

        run_taken : (r : List ℕ) → Taken (KeptTo G) S i r → RunIn X G (total S) (total (take i S)) (get_or S i no_block) r
        run_taken r k =
            let s = k.satisfies in
            let a = around slots s.filling i l in
            let zero_first : (n : ℕ) → 0 + n ≡ n = λ n. omega arith in
            record {
              front = a.front;
              back = a.back;
              before = walk_to (zero_first (total (take i S))) a.before;
              run = subst (Run (get_or S i no_block)) k.run a.run;
              after = walk_to (zero_first (total S)) (walk_from (let z : total (take i S) + (get_or S i no_block).upper ≡ 0 + total (take i S) + (get_or S i no_block).upper = omega arith in z) a.after);
              keeps = subst (KeepsTo G 0) (a.text ∙ ap (λ (q : List ℕ). a.front ++ (q ++ a.back)) k.run) s.rule;
            }

        pub side_tight : {h : Block} → SideCollected X G (total S) (total (take i S)) (get_or S i no_block) h → Tight (Taken (KeptTo G) S i) h
        side_tight k = tight_same taken_run run_taken (collected_tight (spot i l) k)

        -- where some text is on the right side, each block has some run
        pub side_ends : Clear X G (total S) 0 0 → (n : ℕ) × RunEndsAt X G (total S) (total (take i S)) (get_or S i no_block) n
        side_ends k =
            let s = side_some k in
            let r = get_or s.runs i [] in
            (length r, ends_of_lem (spot i l) r (run_taken r (record { runs = s.runs; satisfies = s.satisfies; run = refl })))

      pub side_hull : (S' : List Block) → length S' ≡ length S → Clear X G (total S) 0 0
          → ((i : ℕ) → i < length S → SideCollected X G (total S) (total (take i S)) (get_or S i no_block) (get_or S' i no_block)) → Hull (KeptTo G) S S'
      side_hull S' e k f = record { size = e; some = side_some k; tight = λ i l. side_tight i l (f i l) }
