-- Narrowing two lent shapes under equality, from what the two passes tell. Assumes nothing.
use mathlib.Core.Path.{◌≡◌, refl, sym, subst}
use mathlib.Core.Bool.{Bool, true, false, true≢false, false≢true}
use mathlib.Core.List.{List}
use Prim.Native.Nat.{ℕ, ◌^◌, ◌≤◌, ◌<◌}
use native.Mathlib.Omega.{arith}
use lib.ListN.{length, get_or, take}
use Rattle.bases.specs.Base.{Holds}
use Rattle.sets.specs.Set.{Exactly}
use Rattle.sets.proofs.Exact.{exactly_one, one_exactly}
use Rattle.shapes.specs.Shape.{Block, total, no_block, block_count}
use Rattle.shapes.specs.Lent.{Whole, block_at, shape_of}
use Rattle.plain.proofs.All.{all_at}
use Rattle.shapes.proofs.Lent.{shape_length, shape_at}
use Rattle.texts.specs.Padding.{blank, Padded}
use Rattle.hulls.proofs.Hull.{same_rule, same_none}
use Rattle.walks.specs.Walk.{Same}
use Rattle.pads.specs.But.{But}
use Rattle.pads.specs.Pad.{PadPath, padded_at}
use Rattle.pads.specs.Collect.{Collected}
use Rattle.pads.proofs.But.{but_nothing, nothing_but, but_blanks, blanks_but}
use Rattle.pads.proofs.Paths.{turn_pad}
use Rattle.pads.proofs.Tight.{equal_none, equal_hull_lem, some_first}
use Rattle.sets.specs.declared.Set.{Set}
use Rattle.rows.specs.Row.{row_in}
use Rattle.row_blocks.specs.Blocks.{LengthBy, SomeLength, ToldBy, ToldTo}
use Rattle.row_blocks.proofs.Out.{narrowed, narrowed_size, narrowed_at, narrowed_out}
use Rattle.row_paths.proofs.Told.{told_collected, some_length}
use Rattle.row_paths.proofs.Shapes.{padded_block}
use Rattle.equal_forth.specs.Forth.{Pass}
use Rattle.equal_back.specs.Back.{SideTold}
use Rattle.pairs.specs.Narrow.{Narrows, NarrowAnswer}

-- there is a pair of fillings with one text, but for padding
abbrev pub Joined : ℕ → List ℕ → List ℕ → Type 0
Joined pad x y = PadPath (padded_at pad (shape_of x)) (padded_at pad (shape_of y)) (total (shape_of x)) (total (shape_of y)) 0 0

-- ---- one side

module _ {pad : ℕ} {x y : List ℕ} (wx : Whole x) (wy : Whole y) (p : Joined pad x y) where
  -- each of its blocks has some length
  pub lengths : {quit moved : ℕ} {chars : List Set} → SideTold pad x y quit moved chars → SomeLength quit moved x (block_count x)
  lengths {quit} {moved} t i h =
      let l : i < length (shape_of x) = let e = shape_length x in omega arith in
      let s = some_first pad (shape_of x) (shape_of y) wx.sound wy.sound p i l in (
        s.0,
        subst (λ (b : Block). LengthBy quit moved (total (take i (shape_of x))) b s.0) (shape_at x i no_block h)
            (some_length (padded_block pad (shape_of x) i l) (all_at no_block wx.sound i l).ordered t.quits t.moves s.1),
      )

  pub side_collected : {quit moved : ℕ} {chars : List Set} {o o' : List ℕ} (room : length x ≤ length o) → SideTold pad x y quit moved chars → (s : ToldTo chars quit moved x (block_count x) o o') → (i : ℕ) → i < length (shape_of x)
      → Collected (padded_at pad (shape_of x)) (padded_at pad (shape_of y)) (total (shape_of x)) (total (shape_of y)) (total (take i (shape_of x))) (get_or (shape_of x) i no_block) (get_or (narrowed x o o' wx.blocks room s) i no_block)
  side_collected {quit} {moved} {chars} {o} {o'} room t s i h =
      let small : i < block_count x = let e = shape_length x in omega arith in
      subst (Collected (padded_at pad (shape_of x)) (padded_at pad (shape_of y)) (total (shape_of x)) (total (shape_of y)) (total (take i (shape_of x))) (get_or (shape_of x) i no_block))
      (sym (narrowed_at x o o' wx.blocks room s i small))
      (told_collected (padded_block pad (shape_of x) i h) (all_at no_block wx.sound i h).ordered (t.gives i small) t.quits t.moves
      (some_first pad (shape_of x) (shape_of y) wx.sound wy.sound p i h).1
      (subst (λ (b : Block). ToldBy (row_in chars i) quit moved (total (take i (shape_of x))) b (block_at o' i)) (sym (shape_at x i no_block small)) (s.blocks i small)))

-- ---- both sides

pub both_of : {pad : ℕ} {x y : List ℕ} → Whole x → Whole y → Joined pad x y → {ox oy ox' oy' : List ℕ} {own others : List Set} {stops takes quit moved : ℕ} → length x ≤ length ox → length y ≤ length oy
    → SideTold pad x y stops takes own → SideTold pad y x quit moved others → ToldTo own stops takes x (block_count x) ox ox' → ToldTo others quit moved y (block_count y) oy oy'
    → ((k : ℕ) → get_or ox' k 0 < 2 ^ 64) → ((k : ℕ) → get_or oy' k 0 < 2 ^ 64) → Narrows (But pad) x y ox oy ox' oy'
both_of {pad} {x} {y} wx wy p {ox} {oy} {ox'} {oy'} rx ry tx ty sx sy fx fy = record {
  first = narrowed x ox ox' wx.blocks rx sx;
  second = narrowed y oy oy' wy.blocks ry sy;
  size = narrowed_size x ox ox' wx.blocks rx sx;
  hull = equal_hull_lem pad (shape_of x) (shape_of y) wx.sound wy.sound (narrowed x ox ox' wx.blocks rx sx) (narrowed y oy oy' wy.blocks ry sy) p
      (narrowed_size x ox ox' wx.blocks rx sx) (narrowed_size y oy oy' wy.blocks ry sy)
      (side_collected wx wy p rx tx sx) (side_collected wy wx (turn_pad p) ry ty sy);
  first_output = narrowed_out x ox ox' wx.blocks rx sx fx;
  second_output = narrowed_out y oy oy' wy.blocks ry sy fy;
}

-- ---- the answers

pub says_none : {pad : ℕ} {x y ox oy : List ℕ} {mines rows : List Set} {last m : ℕ} → Whole x → Whole y → Pass pad x y mines rows last → m ≡ total (shape_of y) → (Holds last m → ⊥) → NarrowAnswer (But pad) x y ox oy ox oy false
says_none {pad} {x} {y} {last = last} wx wy t e n = record {
  both = λ z. absurd (false≢true z);
  neither = λ z. record {
    none = equal_none pad (shape_of x) (shape_of y) wx.sound wy.sound (λ p. n (subst (Holds last) (sym e) (t.last_is.has (total (shape_of y)) p)));
    first_output = refl;
    second_output = refl;
  };
}

pub joined_of : {pad : ℕ} {x y : List ℕ} {mines rows : List Set} {last m : ℕ} → Pass pad x y mines rows last → m ≡ total (shape_of y) → Holds last m → Joined pad x y
joined_of {x = x} {y = y} {last = last} t e h = t.last_is.so (total (shape_of y)) (subst (Holds last) e h)

pub says_some : {R : List ℕ → List ℕ → Type 0} {x y ox oy ox' oy' : List ℕ} → Narrows R x y ox oy ox' oy' → NarrowAnswer R x y ox oy ox' oy' true
says_some b = record { both = λ z. b; neither = λ z. absurd (true≢false z) }

-- ---- which equality it is

-- the same pairs, the same answer
answer_as : {R Q : List ℕ → List ℕ → Type 0} {x y ox oy ox' oy' : List ℕ} {r : Bool} → ((t u : List ℕ) → R t u → Q t u) → ((t u : List ℕ) → Q t u → R t u)
    → NarrowAnswer R x y ox oy ox' oy' r → NarrowAnswer Q x y ox oy ox' oy' r
answer_as to from a = record {
  both = λ e. let b = a.both e in record { first = b.first; second = b.second; size = b.size; hull = same_rule (λ f _. to _ _) (λ f _. from _ _) b.hull; first_output = b.first_output; second_output = b.second_output };
  neither = λ e. let b = a.neither e in record { none = same_none (λ f _. from _ _) b.none; first_output = b.first_output; second_output = b.second_output };
}

-- no character is padding
pub exactly : {pad : ℕ} {x y ox oy ox' oy' : List ℕ} {r : Bool} → pad ≡ 0 → NarrowAnswer (But pad) x y ox oy ox' oy' r → NarrowAnswer Same x y ox oy ox' oy' r
exactly {x = x} {y = y} {ox = ox} {oy = oy} {ox' = ox'} {oy' = oy'} {r = r} e a =
    answer_as (λ t u. but_nothing) (λ t u. nothing_but) (subst (λ (v : ℕ). NarrowAnswer (But v) x y ox oy ox' oy' r) e a)

-- the blank is
pub but_for_blanks : {pad : ℕ} {x y ox oy ox' oy' : List ℕ} {r : Bool} → Exactly pad (λ c. c ≡ blank) → NarrowAnswer (But pad) x y ox oy ox' oy' r → NarrowAnswer Padded x y ox oy ox' oy' r
but_for_blanks {x = x} {y = y} {ox = ox} {oy = oy} {ox' = ox'} {oy' = oy'} {r = r} e a =
    answer_as (λ t u. but_blanks) (λ t u. blanks_but) (subst (λ (v : ℕ). NarrowAnswer (But v) x y ox oy ox' oy' r) (exactly_one e (one_exactly blank)) a)
