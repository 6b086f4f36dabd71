-- The runs that a block has in pairs of readings of one text, but for padding, are those that paths tell of. Assumes
-- nothing.
use mathlib.Core.Path.{◌≡◌, refl, sym, ap, ◌∙◌, subst}
use mathlib.Core.List.{List, [], ◌∷◌, ◌++◌, append_assoc}
use mathlib.Core.Logic.{⊎_elim}
use Prim.Native.Nat.{ℕ, suc, ◌+◌, ◌≤◌, ◌<◌}
use native.Mathlib.Omega.{arith}
use lib.ListN.{length, length-append}
use Rattle.bases.specs.Base.{Holds}
use Rattle.plain.proofs.Plain.{lt_or_le}
use Rattle.plain.specs.All.{All, more}
use Rattle.shapes.specs.Shape.{Block, Run}
use Rattle.plain.proofs.All.{all_append, all_left, all_right, all_head, all_tail}
use Rattle.hulls.specs.Hull.{Occurs, Tight}
use Rattle.hulls.proofs.Tight.{all_from}
use Rattle.walks.specs.Walk.{Walk, step}
use Rattle.walks.proofs.Walks.{walk_from, walk_to, walk_text, walk_append, split_text, split_char}
use Rattle.walks.proofs.Laid.{Has, run_walk, walk_run, enter}
use Rattle.walks.proofs.Cut.{last_of, occurs_split, occurs_within, last_text, within_text, to_within, from_within}
use Rattle.pads.specs.Pad.{after, PadPath, UpToEnd}
use Rattle.pads.specs.Collect.{Passes, Ends, empty, filled, Collected}
use Rattle.pads.proofs.Unroll.{clip, clip_low, clip_high, clip_below, clip_end, clip_on, unroll, joint, Texts, texts}

-- a block among the positions of X, and what Y allows
pub record Place (X Y : ℕ → Block) (U W p : ℕ) (b : Block) : Type 0 where
  pub has : Has X p b
  pub ordered : b.lower ≤ b.upper
  pub edge : (y : ℕ) → y < p → y + (X y).upper ≤ p
  pub fits : p + b.upper ≤ U
  pub own : UpToEnd X U
  pub other : UpToEnd Y W

-- a pair of readings of one text in which the block has the run r; padding may stand at the end of each
pub record RunIn (X Y : ℕ → Block) (U W p : ℕ) (b : Block) (r : List ℕ) : Type 0 where
  pub front : List ℕ
  pub back : List ℕ
  pub own_end : ℕ
  pub other_end : ℕ
  pub own_past : U ≤ own_end
  pub other_past : W ≤ other_end
  pub before : Walk (unroll U X) p 0 front
  pub run : Run b r
  pub behind : Walk (unroll U X) own_end (p + b.upper) back
  pub other : Walk (unroll W Y) other_end 0 (front ++ (r ++ back))

module _ {X Y : ℕ → Block} {U W p : ℕ} {b : Block} (at : Place X Y U W p b) where
  -- ---- the block where X goes on for ever

  has_on : Has (unroll U X) p b
  has_on = record { slot = λ k h. ap X (clip_low U (p + k) (let f = at.fits in omega arith)) ∙ at.has.slot k h }

  edge_on : (y : ℕ) → y < p → y + (unroll U X y).upper ≤ p
  edge_on y h = subst (λ (q : ℕ). y + (X q).upper ≤ p) (sym (clip_low U y (let f = at.fits in omega arith))) (at.edge y h)

  -- the starts and the ends stand for themselves
  start : (n : ℕ) → 0 ≡ clip n 0
  start n = sym (clip_low n 0 (omega arith))

  inside : (k : ℕ) → k ≤ b.upper → p + k ≡ clip U (p + k)
  inside k h = sym (clip_low U (p + k) (let f = at.fits in omega arith))

  -- from the starts to within the block, and from there to the ends
  reach : {t : List ℕ} {j : ℕ} (k : ℕ) → k ≤ b.upper → Walk (unroll U X) (p + k) 0 t → Walk (unroll W Y) j 0 t → PadPath X Y (p + k) (clip W j) 0 0
  reach k h w v = joint at.own at.other (inside k h) refl (start U) (start W) w v

  lead : {t : List ℕ} {j j' m n : ℕ} (k : ℕ) → k ≤ b.upper → j' ≡ clip W j → U ≤ m → W ≤ n → Walk (unroll U X) m (p + k) t → Walk (unroll W Y) n j t → PadPath X Y U W (p + k) j'
  lead {m = m} {n = n} k h e f g w v = joint at.own at.other (sym (clip_high U m f)) (sym (clip_high W n g)) (inside k h) e w v

  -- ---- lengths

  ends_empty : RunIn X Y U W p b [] → Ends X Y U W p b 0
  ends_empty r =
      let s = split_text r.front r.back r.other in
      let low = r.run.enough in
      empty (clip W s.0) (omega arith) refl
      (joint at.own at.other (sym (clip_low U p (let f = at.fits in omega arith))) refl (start U) (start W) r.before s.1)
      (lead b.upper (omega arith) refl r.own_past r.other_past r.behind s.2)

  ends_filled : (q : List ℕ) (d : ℕ) → RunIn X Y U W p b (q ++ (d ∷ [])) → Ends X Y U W p b (length (q ++ (d ∷ [])))
  ends_filled q d r =
      let s = split_char (r.front ++ q) r.back d (walk_text (last_text r.front q r.back d) r.other) in
      let long : length (q ++ (d ∷ [])) ≡ length q + 1 = length-append q (d ∷ []) in
      let high = r.run.bounded in
      filled (length q) (clip W s.0) long (omega arith) r.run.enough
      (reach (length q) (omega arith) (to_within has_on q r.before (all_left q (d ∷ []) r.run.held) (omega arith)) s.1)
      (record { shared = d; first = all_head (all_right q (d ∷ []) r.run.held); second = s.2 })
      (lead b.upper (omega arith) (sym (clip_on at.other s.0)) r.own_past r.other_past r.behind s.3)

  pub ends_of_lem : (r : List ℕ) → RunIn X Y U W p b r → Ends X Y U W p b (length r)
  ends_of_lem [] i = ends_empty i
  ends_of_lem (c ∷ r) i =
      let l = last_of c r in
      subst (λ (r : List ℕ). Ends X Y U W p b (length r)) (sym l.2) (ends_filled l.0 l.1 (subst (RunIn X Y U W p b) l.2 i))

  -- an empty run: where the block has room, its start is before the end and stands for itself; where not, its start is
  -- its end
  empty_run : {j : ℕ} → b.lower ≡ 0 → PadPath X Y p j 0 0 → PadPath X Y U W (p + b.upper) j → RunIn X Y U W p b []
  empty_run {j} low pre post = ⊎_elim
      (λ none.
      let same : p + b.upper ≡ p = omega arith in
      let z = texts at.own at.other post a.to_first a.to_second (a.first_is ∙ sym same) a.second_is in
      let far : p ≤ a.to_first = ⊎_elim (λ l. let e = clip_below U a.to_first p l a.first_is in omega arith)
      (λ l. let e = clip_end U a.to_first (a.first_is ∙ (let q : p ≡ U = let f = at.fits in omega arith in q)) in omega arith) (lt_or_le p U) in
      let e = enter edge_on (omega arith) far a.first_read in
      record {
        front = e.front;
        back = e.rest ++ z.text;
        own_end = z.to_first;
        other_end = z.to_second;
        own_past = clip_end U z.to_first z.first_is;
        other_past = clip_end W z.to_second z.second_is;
        before = e.before;
        run = record { held = All.none; enough = omega arith; bounded = omega arith };
        behind = walk_from same (walk_append e.after z.first_read);
        other = walk_text (ap (λ (t : List ℕ). t ++ z.text) e.text ∙ append_assoc e.front e.rest z.text) (walk_append a.second_read z.second_read);
      })
      (λ some.
      let own = clip_below U a.to_first p (let f = at.fits in omega arith) a.first_is in
      let z = texts at.own at.other post (p + b.upper) a.to_second (clip_low U (p + b.upper) at.fits) a.second_is in
      record {
        front = a.text;
        back = z.text;
        own_end = z.to_first;
        other_end = z.to_second;
        own_past = clip_end U z.to_first z.first_is;
        other_past = clip_end W z.to_second z.second_is;
        before = walk_to own a.first_read;
        run = record { held = All.none; enough = omega arith; bounded = omega arith };
        behind = z.first_read;
        other = walk_append a.second_read z.second_read;
      })
      (lt_or_le b.upper 1)
    where
      a : Texts at.own at.other p j 0 0
      a = texts at.own at.other pre 0 0 (clip_low U 0 (omega arith)) (clip_low W 0 (omega arith))

  pub run_of : {n : ℕ} → Ends X Y U W p b n → (r : List ℕ) × RunIn X Y U W p b r × (length r ≡ n)
  run_of (empty j low e pre post) = ([], empty_run low pre post, sym e)
  run_of {n} (filled k j e room low pre m post) =
      let a = texts at.own at.other pre 0 0 (clip_low U 0 (omega arith)) (clip_low W 0 (omega arith)) in
      let own = clip_below U a.to_first (p + k) (let f = at.fits in omega arith) a.first_is in
      let z = texts at.own at.other post (p + b.upper) (a.to_second + 1) (clip_low U (p + b.upper) at.fits) (clip_on at.other a.to_second ∙ ap (after Y) a.second_is) in
      let i = from_within has_on edge_on k room (walk_to own a.first_read) in
      let size = i.5 in
      let long : length (i.1 ++ (m.shared ∷ [])) ≡ length i.1 + 1 = length-append i.1 (m.shared ∷ []) in (
        i.1 ++ (m.shared ∷ []),
        record {
          front = i.0;
          back = z.text;
          own_end = z.to_first;
          other_end = z.to_second;
          own_past = clip_end U z.to_first z.first_is;
          other_past = clip_end W z.to_second z.second_is;
          before = i.3;
          run = record { held = all_append i.4 (more m.first All.none); enough = omega arith; bounded = omega arith };
          behind = z.first_read;
          other = walk_text (ap (λ (t : List ℕ). t ++ (m.shared ∷ z.text)) i.2 ∙ sym (last_text i.0 i.1 z.text m.shared))
              (walk_append a.second_read (step (subst (λ (q : ℕ). Holds (Y q).base m.shared) (sym a.second_is) m.second) z.second_read));
        },
        omega arith,
      )

  -- ---- characters

  pub passes_of : (q s : List ℕ) (c : ℕ) → RunIn X Y U W p b (q ++ (c ∷ s)) → Passes X Y U W p b c
  passes_of q s c r =
      let cut = split_char (r.front ++ q) (s ++ r.back) c (walk_text (within_text r.front q s r.back c) r.other) in
      let long : length (q ++ (c ∷ s)) ≡ length q + suc (length s) = length-append q (c ∷ s) in
      let high = r.run.bounded in
      let low = r.run.enough in
      let held = all_right q (c ∷ s) r.run.held in
      let e : p + length q + 1 ≡ p + (length q + 1) = omega arith in
      record {
        before = length q;
        other = clip W cut.0;
        room = omega arith;
        reached = reach (length q) (omega arith) (to_within has_on q r.before (all_left q (c ∷ s) r.run.held) (omega arith)) cut.1;
        own = all_head held;
        others = cut.2;
        on = subst (λ (i : ℕ). PadPath X Y U W i (after Y (clip W cut.0))) (sym e)
            (lead (length q + 1) (omega arith) (sym (clip_on at.other cut.0)) r.own_past r.other_past
            (run_walk has_on (length q + 1) s r.back (all_tail held) (omega arith) (omega arith) r.behind) cut.3);
      }

  pub run_with : (c : ℕ) → Passes X Y U W p b c → (r : List ℕ) × RunIn X Y U W p b r × Occurs c r
  run_with c h =
      let room = h.room in
      let fits = at.fits in
      let a = texts at.own at.other h.reached 0 0 (clip_low U 0 (omega arith)) (clip_low W 0 (omega arith)) in
      let own = clip_below U a.to_first (p + h.before) (omega arith) a.first_is in
      let z = texts at.own at.other h.on (p + h.before + 1) (a.to_second + 1) (clip_low U (p + h.before + 1) (omega arith))
      (clip_on at.other a.to_second ∙ ap (after Y) a.second_is) in
      let end : U ≤ z.to_first = clip_end U z.to_first z.first_is in
      let i = from_within has_on edge_on h.before room (walk_to own a.first_read) in
      let w = walk_run has_on z.first_read (h.before + 1) (omega arith) (omega arith) (omega arith) at.ordered in
      let size = i.5 in
      let low = w.enough in
      let high = w.bounded in
      let long : length (i.1 ++ (c ∷ w.run)) ≡ length i.1 + suc (length w.run) = length-append i.1 (c ∷ w.run) in (
        i.1 ++ (c ∷ w.run),
        record {
          front = i.0;
          back = w.rest;
          own_end = z.to_first;
          other_end = z.to_second;
          own_past = end;
          other_past = clip_end W z.to_second z.second_is;
          before = i.3;
          run = record { held = all_append i.4 (more h.own w.held); enough = omega arith; bounded = omega arith };
          behind = w.walk;
          other = walk_text (ap (λ (t : List ℕ). t ++ (c ∷ (w.run ++ w.rest))) i.2 ∙ sym (within_text i.0 i.1 w.run w.rest c))
              (walk_append a.second_read (step (subst (λ (q : ℕ). Holds (Y q).base c) (sym a.second_is) h.others) (walk_text w.text z.second_read)));
        },
        occurs_within c i.1 w.run,
      )

  -- the block of the runs, told by paths
  pub collected_tight : {h : Block} → Collected X Y U W p b h → Tight (RunIn X Y U W p b) h
  collected_tight {h} k = record {
    covers = λ r i. record {
      held = all_from r (λ c o. let s = occurs_split o in k.all_held c (passes_of s.0 s.1 c (subst (RunIn X Y U W p b) s.2 i)));
      enough = k.not_shorter (length r) (ends_of_lem r i);
      bounded = k.not_longer (length r) (ends_of_lem r i);
    };
    held = λ c h. run_with c (k.held c h);
    shortest = run_of k.shortest;
    longest = run_of k.longest;
  }
