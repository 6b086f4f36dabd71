-- The second pass over a shape beside another, one more block at a time. Assumes nothing.
use mathlib.Core.Path.{◌≡◌, sym, ap, ◌∙◌, subst}
use mathlib.Core.List.{List}
use mathlib.Core.Logic.{⊎_elim}
use Prim.Native.Nat.{ℕ, ◌+◌, ◌-◌, ◌≤◌, ◌<◌}
use native.Mathlib.Omega.{arith}
use lib.Bits.{bit_or}
use lib.ListN.{length, get_or, take, replicate}
use Rattle.bases.specs.Base.{Holds, Meets}
use Rattle.plain.specs.Tells.{Tells}
use Rattle.plain.proofs.Plain.{lt_or_le}
use Rattle.sets.specs.declared.Set.{Set}
use Rattle.sets.specs.Set.{set_of, Exactly}
use Rattle.sets.proofs.Exact.{exactly_at}
use Rattle.shapes.specs.Shape.{Block, no_block, total, block_count}
use Rattle.shapes.specs.Lent.{shape_of, block_at}
use Rattle.shapes.proofs.Lent.{shape_length, shape_at}
use Rattle.walks.specs.Walk.{slot_at}
use Rattle.pads.specs.Pad.{padded_at}
use Rattle.pads.proofs.Paths.{padded_end, ended}
use Rattle.rows.specs.declared.LaidBlock.{LaidBlock}
use Rattle.rows.specs.Row.{no_set, row_in, zone_in, end_in, slot_in, PutRow}
use Rattle.rows.specs.Steps.{Given}
use Rattle.rows.proofs.Rows.{blank_row}
use Rattle.row_paths.specs.Laid.{LaidOut}
use Rattle.row_lay.proofs.Laid.{total_all, total_more, total_zero, upper_within}
use Rattle.row_paths.specs.Rows.{BlockIn, Shares, Takes, From, Used, Gives}
use Rattle.row_paths.proofs.Back.{used_none}
use Rattle.row_paths.proofs.Forth as forth
use Rattle.row_paths.proofs.Chars.{joined_gives, given_more, given_last, moved_more, moved_last, seen_from}
use Rattle.row_paths.proofs.Shapes.{padded_free, padded_shares}
use Rattle.equal_forth.specs.Forth.{Pass}
use Rattle.row_paths.proofs.Lent.{padded_block_at, padded_rows_at, padded_zones_at}
use Rattle.back_rows.specs.declared.Gathered.{Gathered}
use Rattle.equal_back.specs.Back.{Fresh, EndBack, GivesTo, PassFrom, SideTold}
use Rattle.equal_steps.specs.Chars.{Chars}
use Rattle.back_rows.specs.Rows.{GatheredAt, Whenever, BlockBack}

-- ---- a block begins with nothing used

fresh_gathered : {X Y : ℕ → Block} {U W e stage : ℕ} {g r : Gathered} → Fresh g r → GatheredAt X Y U W e stage g → GatheredAt X Y U W e e r
fresh_gathered f x = record {
  row_is = exactly_at f.row x.row_is;
  used_is = used_none f.used;
  quit_is = exactly_at f.quit x.quit_is;
  own_quit_is = exactly_at f.stops x.own_quit_is;
  own_moved_is = exactly_at f.takes x.own_moved_is;
}

-- ---- the pass

-- where the block before starts
pub pass_place : {pad : ℕ} (x : List ℕ) {y : List ℕ} {n p : ℕ} {g : Gathered} {moved : ℕ} {own others : List Set} (i : ℕ) → i < block_count x → n ≡ i + 1 → PassFrom pad x y n p g moved own others → p ≡ total (take i (shape_of x)) + (block_at x i).upper
pass_place x i l d t = t.place ∙ ap (λ (z : ℕ). total (take z (shape_of x))) d ∙ total_more x i l

module _ (pad : ℕ) (x y : List ℕ) {layout : List LaidBlock} {mines rows : List Set} {last : ℕ} (laid : LaidOut y layout) (pass : Pass pad x y mines rows last) where
  pub pass_end : {n p : ℕ} {g : Gathered} {own others others' : List Set} {moved : ℕ} → n ≡ block_count x → p ≡ total (shape_of x) → EndBack pad y p last g
      → moved ≡ set_of g.used → others ≡ replicate (length others) no_set → Given (slot_in layout) (length layout) moved pad (row_in others) (row_in others') → PassFrom pad x y n p g moved own others'
  pass_end {n} {p} {g} {own} {others} {others'} {moved} d f b v o gi = record {
    place = f ∙ sym (total_all x n (omega arith));
    stage = total (shape_of x) + 1;
    gathered = subst (λ (q : ℕ). GatheredAt X Y U W q (U + 1) g) (sym f) got;
    moved_is = subst (λ (q : ℕ). Exactly moved (λ j. From q (λ h. Takes Y X W U j h))) (sym f) (moved_last (ended pad (shape_of x)) padding moved used);
    own_is = λ h l g. absurd (omega arith);
    others_are = λ j l. subst (λ (q : ℕ). Exactly (row_in others' j) (GivesTo pad y x j q)) (sym f)
        (given_last (ended pad (shape_of x)) padding moved used j _ _ (let d = laid.long in omega arith) gi (laid.lay.slot j (let n = shape_length y in omega arith)) (blank_row others (length others) j o));
  }
    where
      X : ℕ → Block
      X = padded_at pad (shape_of x)

      Y : ℕ → Block
      Y = padded_at pad (shape_of y)

      U : ℕ
      U = total (shape_of x)

      W : ℕ
      W = total (shape_of y)

      padding : (X U).base ≡ pad
      padding = ap (λ (b : Block). b.base) (padded_end pad (shape_of x))

      got : GatheredAt X Y U W U (U + 1) g
      got = (subst (λ (q : ℕ). EndBack pad y q last g) f b).holds X (ended pad (shape_of x)) padding (padded_free pad (shape_of x)) pass.last_is

      used : Exactly moved (Used X Y U W U (U + 1))
      used = exactly_at v got.used_is

  pub pass_more : {i n p q m : ℕ} {b : Block} {g f r : Gathered} {own own' others others' : List Set} {mine waits moved moved' c : ℕ} → n ≡ i + 1 → i < block_count x → b ≡ block_at x i → q ≡ p + b.upper
      → m ≡ total (shape_of y) → PassFrom pad x y n q g moved own others → Fresh g f → mine ≡ row_in mines i → Exactly waits (λ q. Meets b.base pad × (q ≡ m))
      → Whenever (zone_in layout) (end_in layout) (length layout) mine waits p b (BlockBack rows p b f r)
      → Chars (set_of r.used) y layout m pad c → PutRow own i c own' → Given (slot_in layout) (length layout) (set_of r.used) b.base (row_in others) (row_in others')
      → moved' ≡ bit_or moved (set_of r.used) → PassFrom pad x y i p r moved' own' others'
  pass_more {i} {n} {p} {q} {m} {b} {g} {f} {r} {own} {own'} {others} {others'} {mine} {waits} {moved} {moved'} {c} d l be qe end t fr me wa w jo pu gi mo = record {
    place = place;
    stage = p + b.upper;
    gathered = got;
    moved_is = moved_more moved (set_of r.used) (omega arith) mo (subst (λ (v : ℕ). Exactly moved (λ j. From v (λ h. Takes Y X W U j h))) qe t.moved_is) got.used_is;
    own_is = λ h a u. ⊎_elim
        (λ v. exactly_at (pu.kept h (λ z. omega arith)) (t.own_is h (omega arith) u))
        (λ v. let same : i ≡ h = omega arith in subst (λ (j : ℕ). Exactly (row_in own' j) (GivesTo pad x y j 0)) same (exactly_at pu.here mine_chars))
        (lt_or_le i h);
    others_are = λ j h. given_more j _ _ (let d = laid.long in omega arith) (omega arith) gi got.used_is base_of_lem (laid.lay.slot j (let n = shape_length y in omega arith))
        (subst (λ (v : ℕ). Exactly (row_in others j) (GivesTo pad y x j v)) qe (t.others_are j h));
  }
    where
      X : ℕ → Block
      X = padded_at pad (shape_of x)

      Y : ℕ → Block
      Y = padded_at pad (shape_of y)

      U : ℕ
      U = total (shape_of x)

      W : ℕ
      W = total (shape_of y)

      place : p ≡ total (take i (shape_of x))
      place =
          let a = pass_place x i l d t in
          let u = ap (λ (c : Block). c.upper) be in
          omega arith

      inb : BlockIn X p b
      inb = padded_block_at pad x i p l place be

      fits : p + b.upper ≤ U
      fits = let a = upper_within x i l in let u = ap (λ (c : Block). c.upper) be in let v = place in omega arith

      shares : Shares Y b.base mine waits
      shares = padded_shares pad (shape_of y) laid.whole.short
          (exactly_at me (subst (λ (c : Block). Exactly (row_in mines i) (λ q. Meets c.base (slot_at (shape_of y) q).base)) (sym be) (pass.mine i l)))
          (subst (λ (v : ℕ). Exactly waits (λ q. Meets b.base pad × (q ≡ v))) end wa)

      got : GatheredAt X Y U W p (p + b.upper) r
      got = w.holds X Y U W (padded_zones_at pad y laid.long laid.lay laid.whole.short) inb fits shares
          (λ o h. pass.row (p + o) (let a = fits in omega arith))
          (subst (λ (v : ℕ). GatheredAt X Y U W v v f) qe (fresh_gathered fr t.gathered))

      base_of_lem : (h : ℕ) → p ≤ h → h < p + b.upper → (X h).base ≡ b.base
      base_of_lem h a u = ap (λ (j : ℕ). (X j).base) (let v : h ≡ p + (h - p) = omega arith in v) ∙ forth.slot_base inb (h - p) (omega arith)

      mine_chars : Exactly c (GivesTo pad x y i 0)
      mine_chars = subst (λ (v : ℕ). Exactly c (Gives X Y U W v (v + (get_or (shape_of x) i no_block).upper) 0)) place
          (subst (λ (v : Block). Exactly c (Gives X Y U W p (p + v.upper) 0)) (be ∙ sym (shape_at x i no_block l))
          (joined_gives (padded_rows_at pad y laid.long laid.lay laid.whole.short) got.used_is jo.matched (subst (λ (v : ℕ). Tells jo.end (Holds (set_of r.used) v)) end jo.tells) jo.with jo.without))

-- ---- the end

first_place_lem : (x : List ℕ) {i p : ℕ} → i ≡ 0 → p ≡ total (take i (shape_of x)) → p ≡ 0
first_place_lem x e d = d ∙ ap (λ (j : ℕ). total (take j (shape_of x))) e ∙ total_zero (shape_of x)

pub own_told : {pad : ℕ} {x y : List ℕ} {own others : List Set} {i p moved : ℕ} {g : Gathered} → i ≡ 0 → PassFrom pad x y i p g moved own others → SideTold pad x y (set_of g.stops) (set_of g.takes) own
own_told {pad} {x} {y} {i = i} {p = p} {g = g} e t =
    let at = first_place_lem x e t.place in
    let a = subst (λ (q : ℕ). GatheredAt (padded_at pad (shape_of x)) (padded_at pad (shape_of y)) (total (shape_of x)) (total (shape_of y)) q t.stage g) at t.gathered in
    record { quits = a.own_quit_is; moves = a.own_moved_is; gives = λ h l. t.own_is h (omega arith) l }

pub others_told : {pad : ℕ} {x y : List ℕ} {own others : List Set} {i p moved : ℕ} {g : Gathered} → i ≡ 0 → PassFrom pad x y i p g moved own others → SideTold pad y x (set_of g.quit) moved others
others_told {pad} {x} {y} {others = others} {i = i} {p = p} {moved = moved} {g = g} e t =
    let at = first_place_lem x e t.place in
    let a = subst (λ (q : ℕ). GatheredAt (padded_at pad (shape_of x)) (padded_at pad (shape_of y)) (total (shape_of x)) (total (shape_of y)) q t.stage g) at t.gathered in
    record {
      quits = seen_from a.quit_is;
      moves = seen_from (subst (λ (q : ℕ). Exactly moved (λ j. From q (λ h. Takes (padded_at pad (shape_of y)) (padded_at pad (shape_of x)) (total (shape_of y)) (total (shape_of x)) j h))) at t.moved_is);
      gives = λ h l. subst (λ (q : ℕ). Exactly (row_in others h) (GivesTo pad y x h q)) at (t.others_are h l);
    }
