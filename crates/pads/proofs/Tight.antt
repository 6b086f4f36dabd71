-- Narrowing two shapes under equality but for padding, told by paths: none exactly if no path leads both from their
-- starts to their ends, and otherwise the blocks that paths tell of. Assumes nothing.
use mathlib.Core.Path.{◌≡◌, refl, sym, ap, ◌∙◌, subst, subst₂}
use mathlib.Core.List.{List, [], ◌++◌, append_assoc}
use mathlib.Core.Logic.{⊎_elim}
use Prim.Native.Nat.{ℕ, suc, ◌+◌, ◌-◌, ◌≤◌, ◌<◌}
use native.Mathlib.Omega.{arith}
use lib.ListN.{length, get_or, take, length-append, get_or-append}
use lib.Seq.{get_or-take, get_or-drop, get_or-append-add}
use Rattle.bases.specs.Base.{Holds}
use Rattle.plain.proofs.Plain.{lt_or_le}
use Rattle.plain.specs.All.{All, more}
use Rattle.shapes.specs.Shape.{Block, Sound, Run, Filling, Fits, text_of, total, no_block}
use Rattle.plain.proofs.All.{all_at}
use Rattle.hulls.specs.Hull.{Pairs, Satisfies, None, Some, Taken, Tight, Hull}
use Rattle.hulls.proofs.Fill.{filling_size, split_first, split_second, pair_satisfies}
use Rattle.hulls.proofs.Tight.{tight_same}
use Rattle.walks.specs.Walk.{slot_at, Walk, here, skip, step}
use Rattle.walks.proofs.Walks.{walk_from, walk_to, walk_text, walk_append, forwards}
use Rattle.walks.proofs.Laid.{slots, bounded, in_slots, enter}
use Rattle.walks.proofs.Fillings.{Around, Rejoined, filling_walk, walk_fits, around, rejoin, total_take, slots_take, has_at, start_at}
use Rattle.pads.specs.But.{Behind, But}
use Rattle.pads.specs.Pad.{behind_all, padded_at, PadPath}
use Rattle.pads.specs.Collect.{Ends, Collected}
use Rattle.pads.proofs.But.{but_turned, but_common}
use Rattle.pads.proofs.Paths.{padded_below, padded_end, ended}
use Rattle.pads.proofs.Unroll.{clip_low, clip_high, clip_end, unroll, run_below, joint, texts}
use Rattle.pads.proofs.Cut.{Place, RunIn, ends_of_lem, collected_tight}

-- ---- a shape that goes on for ever over padding

-- a reading up to U is one in any shape that is the same before U
walk_as : {X Y : ℕ → Block} {U q p : ℕ} {t : List ℕ} → ((h : ℕ) → h < U → X h ≡ Y h) → ((X U).lower ≡ 0 → ⊥) → q ≤ U → Walk X q p t → Walk Y q p t
walk_as f n l (here e) = here e
walk_as {X} {Y} {U} f n l (skip {p = p} {t = t} e w) =
    let g = forwards w in
    let small : p < U = ⊎_elim (λ h. h) (λ h. absurd (n (subst (λ (x : ℕ). (X x).lower ≡ 0) (let z : p ≡ U = omega arith in z) e))) (lt_or_le p U) in
    let same = f p small in
    skip (subst (λ (b : Block). b.lower ≡ 0) same e) (walk_from (ap (λ (b : Block). p + b.upper) (sym same)) (walk_as f n l w))
walk_as {X} {Y} {U} f n l (step {p = p} {c = c} h w) = let g = forwards w in step (subst (λ (b : Block). Holds b.base c) (f p (omega arith)) h) (walk_as f n l w)

module _ (pad : ℕ) (S : List Block) where
  -- the shape with padding behind it, for ever
  abbrev pub endless : ℕ → Block
  endless = unroll (total S) (padded_at pad S)

  endless_below : (h : ℕ) → h < total S → endless h ≡ slot_at S h
  endless_below h l = ap (padded_at pad S) (clip_low (total S) h (omega arith)) ∙ padded_below pad S h l

  endless_past : (h : ℕ) → total S ≤ h → endless h ≡ behind_all pad
  endless_past h l = ap (padded_at pad S) (clip_high (total S) h l) ∙ padded_end pad S

  pub to_endless : {q p : ℕ} {t : List ℕ} → q ≤ total S → Walk (slot_at S) q p t → Walk endless q p t
  to_endless l w = walk_as (λ h g. sym (endless_below h g)) (bounded S).no_run l w

  from_endless : {q p : ℕ} {t : List ℕ} → q ≤ total S → Walk endless q p t → Walk (slot_at S) q p t
  from_endless l w = walk_as endless_below (λ e. let z = run_below (ended pad S) (total S) e in omega arith) l w

  -- past the end padding is read, and nothing else
  pub over_padding : {z : List ℕ} → All (Holds pad) z → (q : ℕ) → total S ≤ q → Walk endless (q + length z) q z
  over_padding All.none q l = here {p = q} (omega arith)
  over_padding (more {a = c} {l = z} h a) q l =
      step (subst (λ (b : Block). Holds b.base c) (sym (endless_past q l)) h) (walk_to (let e : q + 1 + length z ≡ q + suc (length z) = omega arith in e) (over_padding a (q + 1) (omega arith)))

  only_padding : {q p : ℕ} {z : List ℕ} → total S ≤ p → Walk endless q p z → All (Holds pad) z
  only_padding l (here e) = All.none
  only_padding l (skip {p = p} e w) = let z : ◌≡◌ {A = ℕ} 1 0 = sym (ap (λ (b : Block). b.lower) (endless_past p l)) ∙ e in absurd (omega arith)
  only_padding l (step {p = p} {c = c} h w) = more (subst (λ (b : Block). Holds b.base c) (endless_past p l) h) (only_padding (omega arith) w)

  -- a reading to the end or past it: up to the end, and then over padding
  pub record Cut (p : ℕ) (t : List ℕ) : Type 0 where
    pub front : List ℕ
    pub rest : List ℕ
    pub text : t ≡ front ++ rest
    pub walk : Walk (slot_at S) (total S) p front
    pub held : All (Holds pad) rest

  pub cut : {q p : ℕ} {t : List ℕ} → p ≤ total S → total S ≤ q → Walk endless q p t → Cut p t
  cut l h w =
      let edge : (y : ℕ) → y < total S → y + (endless y).upper ≤ total S =
      λ y g. subst (λ (b : Block). y + b.upper ≤ total S) (sym (endless_below y g)) ((bounded S).within y g) in
      let e = enter edge l h w in
      record { front = e.front; rest = e.rest; text = e.text; walk = from_endless (omega arith) e.before; held = only_padding (omega arith) e.after }

-- ---- the place of block i

pub place : (pad : ℕ) (X Y : List Block) → All Sound X → (i : ℕ) → i < length X
    → Place (padded_at pad X) (padded_at pad Y) (total X) (total Y) (total (take i X)) (get_or X i no_block)
place pad X Y g i l = record {
  has = record { slot = λ k h. padded_below pad X (total (take i X) + k) (let f = total_take X i l in omega arith) ∙ (start_at (total (take i X)) (has_at (slots X) i l)).slot k h };
  ordered = (all_at no_block g i l).ordered;
  edge = λ y h. subst (λ (b : Block). y + b.upper ≤ total (take i X)) (sym (padded_below pad X y (let f = total_take X i l in omega arith)))
      (let w = (in_slots (slots_take i (slots X)) y (omega arith) (omega arith)).within in omega arith);
  fits = total_take X i l;
  own = ended pad X;
  other = ended pad Y;
}

-- ---- the runs of a block in pairs of fillings with one text, but for padding

zero_first : (n : ℕ) → 0 + n ≡ n
zero_first n = omega arith

module _ (pad : ℕ) (X Y : List Block) (i : ℕ) (l : i < length X) where
  abbrev RunsIn : List ℕ → Type 0
  RunsIn = RunIn (padded_at pad X) (padded_at pad Y) (total X) (total Y) (total (take i X)) (get_or X i no_block)

  -- of a pair of fillings, first shape first
  pub run_in : {f g : List (List ℕ)} {r : List ℕ} → Filling X f → Filling Y g → But pad (text_of f) (text_of g) → get_or f i [] ≡ r
      → RunIn (padded_at pad X) (padded_at pad Y) (total X) (total Y) (total (take i X)) (get_or X i no_block) r
  run_in {f} {g} {r} x y but at = ⊎_elim waits goes but
    where
      a : Around (slot_at X) 0 X f i
      a = around (slots X) x i l

      text : text_of f ≡ a.front ++ (r ++ a.back)
      text = a.text ∙ ap (λ (q : List ℕ). a.front ++ (q ++ a.back)) at

      before : Walk (endless pad X) (total (take i X)) 0 a.front
      before = to_endless pad X (let e = total_take X i l in omega arith) (walk_to (zero_first (total (take i X))) a.before)

      behind : Walk (endless pad X) (total X) (total (take i X) + (get_or X i no_block).upper) a.back
      behind = to_endless pad X (omega arith) (walk_to (zero_first (total X))
          (walk_from (let z : total (take i X) + (get_or X i no_block).upper ≡ 0 + total (take i X) + (get_or X i no_block).upper = omega arith in z) a.after))

      other : Walk (endless pad Y) (total Y) 0 (text_of g)
      other = to_endless pad Y (omega arith) (walk_to (zero_first (total Y)) (filling_walk (slots Y) y))

      -- the second has ended and waits
      waits : Behind pad (text_of f) (text_of g) → RunsIn r
      waits b = record {
        front = a.front;
        back = a.back;
        own_end = total X;
        other_end = total Y + length b.rest;
        own_past = omega arith;
        other_past = omega arith;
        before = before;
        run = subst (Run (get_or X i no_block)) at a.run;
        behind = behind;
        other = walk_text (sym b.joined ∙ text) (walk_append other (over_padding pad Y b.held (total Y) (omega arith)));
      }

      -- the second goes on
      goes : Behind pad (text_of g) (text_of f) → RunsIn r
      goes b = record {
        front = a.front;
        back = a.back ++ b.rest;
        own_end = total X + length b.rest;
        other_end = total Y;
        own_past = omega arith;
        other_past = omega arith;
        before = before;
        run = subst (Run (get_or X i no_block)) at a.run;
        behind = walk_append behind (over_padding pad X b.held (total X) (omega arith));
        other = walk_text (b.joined ∙ ap (λ (t : List ℕ). t ++ b.rest) text ∙ append_assoc a.front (r ++ a.back) b.rest
            ∙ ap (λ (t : List ℕ). a.front ++ t) (append_assoc r a.back b.rest)) other;
      }

  -- and back
  pub record FillingsWith (r : List ℕ) : Type 0 where
    pub first_text : List ℕ
    pub second_text : List ℕ
    pub first : Rejoined X i r first_text
    pub second : Fits Y second_text
    pub but : But pad first_text second_text

  module _ (gx : All Sound X) (gy : All Sound Y) where
    pub fillings_with : {r : List ℕ} → RunIn (padded_at pad X) (padded_at pad Y) (total X) (total Y) (total (take i X)) (get_or X i no_block) r → FillingsWith r
    fillings_with {r} h =
        let own = cut pad X (total_take X i l) h.own_past h.behind in
        let other = cut pad Y (omega arith) h.other_past h.other in
        let t : List ℕ = h.front ++ (r ++ own.front) in
        record {
          first_text = t;
          second_text = other.front;
          first = rejoin (bounded X) i h.front r own.front (slots X) gx (omega arith) l (omega arith)
              (from_endless pad X (let e = total_take X i l in omega arith) h.before) h.run own.walk;
          second = walk_fits (bounded Y) (slots Y) gy (omega arith) other.walk;
          but = but_common t other.front own.held other.held
              (append_assoc h.front (r ++ own.front) own.rest ∙ ap (λ (q : List ℕ). h.front ++ q) (append_assoc r own.front own.rest)
              ∙ ap (λ (q : List ℕ). h.front ++ (r ++ q)) (sym own.text) ∙ other.text);
        }

-- ---- the two shapes

module _ (pad : ℕ) (X Y : List Block) (gx : All Sound X) (gy : All Sound Y) where
  abbrev Rule : List (List ℕ) → Type 0
  Rule = Pairs (But pad) (length X)

  -- two fillings whose texts are equal but for padding are a choice
  choice : {f g : List (List ℕ)} {t u : List ℕ} → Filling X f → Filling Y g → text_of f ≡ t → text_of g ≡ u → But pad t u → Satisfies Rule (X ++ Y) (f ++ g)
  choice x y e d b = pair_satisfies (But pad) x y (subst₂ (But pad) (sym e) (sym d) b)

  module _ (i : ℕ) where
    pub taken_first : i < length X → {b : Block} → Tight (RunIn (padded_at pad X) (padded_at pad Y) (total X) (total Y) (total (take i X)) (get_or X i no_block)) b
        → Tight (Taken Rule (X ++ Y) i) b
    taken_first l t = tight_same to from t
      where
        to : (r : List ℕ) → RunIn (padded_at pad X) (padded_at pad Y) (total X) (total Y) (total (take i X)) (get_or X i no_block) r → Taken Rule (X ++ Y) i r
        to r h =
            let p = fillings_with pad X Y i l gx gy h in
            let x = p.first in
            let y = p.second in
            record {
              runs = x.runs ++ y.runs;
              satisfies = choice x.filling y.filling x.joined y.joined p.but;
              run = get_or-append x.runs y.runs [] i (let n = filling_size x.filling in omega arith) ∙ x.run;
            }

        from : (r : List ℕ) → Taken Rule (X ++ Y) i r → RunIn (padded_at pad X) (padded_at pad Y) (total X) (total Y) (total (take i X)) (get_or X i no_block) r
        from r k =
            let s = k.satisfies in
            run_in pad X Y i l (split_first X Y s.filling) (split_second X Y s.filling) s.rule (get_or-take (length X) k.runs i [] l ∙ k.run)

    pub taken_second : i < length Y → {b : Block} → Tight (RunIn (padded_at pad Y) (padded_at pad X) (total Y) (total X) (total (take i Y)) (get_or Y i no_block)) b
        → Tight (Taken Rule (X ++ Y) (length X + i)) b
    taken_second l t = tight_same to from t
      where
        to : (r : List ℕ) → RunIn (padded_at pad Y) (padded_at pad X) (total Y) (total X) (total (take i Y)) (get_or Y i no_block) r → Taken Rule (X ++ Y) (length X + i) r
        to r h =
            let p = fillings_with pad Y X i l gy gx h in
            let y = p.first in
            let x = p.second in
            record {
              runs = x.runs ++ y.runs;
              satisfies = choice x.filling y.filling x.joined y.joined (but_turned p.but);
              run = ap (λ (n : ℕ). get_or (x.runs ++ y.runs) (n + i) []) (sym (filling_size x.filling)) ∙ get_or-append-add x.runs y.runs i [] ∙ y.run;
            }

        from : (r : List ℕ) → Taken Rule (X ++ Y) (length X + i) r → RunIn (padded_at pad Y) (padded_at pad X) (total Y) (total X) (total (take i Y)) (get_or Y i no_block) r
        from r k =
            let s = k.satisfies in
            run_in pad Y X i l (split_second X Y s.filling) (split_first X Y s.filling) (but_turned s.rule) (get_or-drop (length X) k.runs i [] ∙ k.run)

  abbrev Through : Type 0
  Through = PadPath (padded_at pad X) (padded_at pad Y) (total X) (total Y) 0 0

  -- fillings whose texts are equal but for padding have a path
  fillings_path : {f g : List (List ℕ)} → Filling X f → Filling Y g → But pad (text_of f) (text_of g) → Through
  fillings_path {f} {g} x y but = ⊎_elim
      (λ b. through (total X) (total Y + length b.rest) (omega arith) (omega arith) own
      (walk_text (sym b.joined) (walk_append other (over_padding pad Y b.held (total Y) (omega arith)))))
      (λ b. through (total X + length b.rest) (total Y) (omega arith) (omega arith)
      (walk_text (sym b.joined) (walk_append own (over_padding pad X b.held (total X) (omega arith)))) other)
      but
    where
      own : Walk (endless pad X) (total X) 0 (text_of f)
      own = to_endless pad X (omega arith) (walk_to (zero_first (total X)) (filling_walk (slots X) x))

      other : Walk (endless pad Y) (total Y) 0 (text_of g)
      other = to_endless pad Y (omega arith) (walk_to (zero_first (total Y)) (filling_walk (slots Y) y))

      through : (m n : ℕ) {t : List ℕ} → total X ≤ m → total Y ≤ n → Walk (endless pad X) m 0 t → Walk (endless pad Y) n 0 t → Through
      through m n h g w v = joint (ended pad X) (ended pad Y) (sym (clip_high (total X) m h)) (sym (clip_high (total Y) n g)) (sym (clip_low (total X) 0 (omega arith))) (sym (clip_low (total Y) 0 (omega arith))) w v

  -- none exactly if there is no path
  pub equal_none : (Through → ⊥) → None Rule (X ++ Y)
  equal_none n = record { never = λ f s. n (fillings_path (split_first X Y s.filling) (split_second X Y s.filling) s.rule) }

  -- two texts that are equal but for padding, each with its filling
  record Met : Type 0 where
    first_text : List ℕ
    second_text : List ℕ
    first : Fits X first_text
    second : Fits Y second_text
    but : But pad first_text second_text

  met : Through → Met
  met p =
      let t = texts (ended pad X) (ended pad Y) p 0 0 (clip_low (total X) 0 (omega arith)) (clip_low (total Y) 0 (omega arith)) in
      let own = cut pad X (omega arith) (clip_end (total X) t.to_first t.first_is) t.first_read in
      let other = cut pad Y (omega arith) (clip_end (total Y) t.to_second t.second_is) t.second_read in
      record {
        first_text = own.front;
        second_text = other.front;
        first = walk_fits (bounded X) (slots X) gx (omega arith) own.walk;
        second = walk_fits (bounded Y) (slots Y) gy (omega arith) other.walk;
        but = but_common own.front other.front own.held other.held (sym own.text ∙ other.text);
      }

  pub equal_some : Through → Some Rule (X ++ Y)
  equal_some p =
      let m = met p in
      record { runs = m.first.runs ++ m.second.runs; satisfies = choice m.first.filling m.second.filling m.first.joined m.second.joined m.but }

  -- where there is a pair, each block has a run in it
  pub some_first : Through → (i : ℕ) → i < length X
      → (n : ℕ) × Ends (padded_at pad X) (padded_at pad Y) (total X) (total Y) (total (take i X)) (get_or X i no_block) n
  some_first p i l =
      let m = met p in
      (_, ends_of_lem (place pad X Y gx i l) (get_or m.first.runs i []) (run_in pad X Y i l m.first.filling m.second.filling (subst₂ (But pad) (sym m.first.joined) (sym m.second.joined) m.but) refl))

  pub equal_hull_lem : (X' Y' : List Block) → Through → length X' ≡ length X → length Y' ≡ length Y
      → ((i : ℕ) → i < length X → Collected (padded_at pad X) (padded_at pad Y) (total X) (total Y) (total (take i X)) (get_or X i no_block) (get_or X' i no_block))
      → ((i : ℕ) → i < length Y → Collected (padded_at pad Y) (padded_at pad X) (total Y) (total X) (total (take i Y)) (get_or Y i no_block) (get_or Y' i no_block))
      → Hull Rule (X ++ Y) (X' ++ Y')
  equal_hull_lem X' Y' p ex ey fx fy = record {
    size = length-append X' Y' ∙ (let e : length X' + length Y' ≡ length X + length Y = omega arith in e) ∙ sym (length-append X Y);
    some = equal_some p;
    tight = λ i l. ⊎_elim (low i) (λ g. high i g (let e = length-append X Y in omega arith)) (lt_or_le i (length X));
  }
    where
      low : (i : ℕ) → i < length X → Tight (Taken Rule (X ++ Y) i) (get_or (X' ++ Y') i no_block)
      low i l = subst (Tight (Taken Rule (X ++ Y) i)) (sym (get_or-append X' Y' no_block i (omega arith)))
          (taken_first i l (collected_tight (place pad X Y gx i l) (fx i l)))

      high : (i : ℕ) → length X ≤ i → i < length X + length Y → Tight (Taken Rule (X ++ Y) i) (get_or (X' ++ Y') i no_block)
      high i g l =
          let k : ℕ = i - length X in
          let small : k < length Y = omega arith in
          let at : length X + k ≡ i = omega arith in
          let at' : length X' + k ≡ i = omega arith in
          subst (λ (n : ℕ). Tight (Taken Rule (X ++ Y) n) (get_or (X' ++ Y') i no_block)) at
          (subst (Tight (Taken Rule (X ++ Y) (length X + k))) (sym (ap (λ (n : ℕ). get_or (X' ++ Y') n no_block) (sym at') ∙ get_or-append-add X' Y' k no_block))
          (taken_second k small (collected_tight (place pad Y X gy k small) (fy k small))))
