-- Writes one after another. Assumes nothing.
use mathlib.Core.Path.{◌≡◌, refl, sym, ap, ◌∙◌, subst}
use mathlib.Core.List.{List, [], ◌∷◌, ◌++◌, map, append_assoc, append-nil}
use Prim.Native.Nat.{ℕ, suc, ◌+◌, ◌-◌, ◌*◌, ◌/◌, ◌%◌, ◌^◌, ◌≤◌, ◌<◌}
use native.Mathlib.Omega.{arith}
use native.Mathlib.Nat.{add-zero, zero-add, add_assoc, mod-lt, div-one, div-add-mod'}
use native.Mathlib.Numerals.{add-one}
use lib.ListN.{length, get_or, take, drop, length-append}
use lib.Dec.{lit<}
use lib.Pow.{shr-shr}
use lib.Seq.{sets, take-suc}
use Rattle.answers.specs.Told.{Told}
use Rattle.answers.specs.declared.TextRan.{TextRan}
use Rattle.groups.specs.Ends.{end}
use Rattle.groups.proofs.Listed.{names_last, follows_last}
use Rattle.shapes.specs.Shape.{Block, block_count}
use Rattle.plain.specs.All.{All}
use Rattle.shapes.specs.Lent.{shape_of, block_at}
use Rattle.plain.proofs.All.{all_at}
use Rattle.shapes.proofs.Lent.{shape_at, shape_length}
use Rattle.file_numerals.specs.Digits.{digits, decimal}
use Rattle.file_numerals.proofs.Digits.{decimal_few, digits_split}
use Rattle.file_numerals.proofs.Stores.{sets_append, sets_start}
use Rattle.file_numerals.specs.Read.{word_digits}
use Rattle.file_lines.specs.Grammar.{base_digits, RightBlock, head_line, two_numbers, block_line, joined, word_of, Part, part_lines, lines_of, writing}
use Rattle.file_lines.specs.declared.Width.{Width}
use Rattle.file_lines.specs.declared.Heading.TheVariants.{Texts, Blocks}
use Rattle.file_lines.specs.Book.{Sheet, sheet_parts, file_limit}
use Rattle.file_lines.proofs.Joined.{joined_append, map_more}
use Rattle.file_reports.specs.Report.{Verdict, Reported, group_word, ended_line, group_line, head_of, sheet_after, report_of, refused_word, refused_line}
use Rattle.file_reports.specs.Report.Verdict.{refused}
use Rattle.file_reports.specs.Put.{Wrote, spaced, pair_end, GroupPut, named, passed, GroupsPut}

pub put_of : (out : List ℕ) (at : ℕ) (t new : List ℕ) (r : ℕ) → r ≡ at + length t → new ≡ sets out at t → Wrote out at t new r
put_of out at t new r p s = record { place = p; stored = s }

pub put_none : (out : List ℕ) (at : ℕ) → Wrote out at [] out at
put_none out at = record { place = sym (add-zero at); stored = refl }

-- one write after another is one write
pub put_then : (out : List ℕ) (at : ℕ) (t mid : List ℕ) (a : ℕ) (u new : List ℕ) (r : ℕ) → Wrote out at t mid a → Wrote mid a u new r → Wrote out at (t ++ u) new r
put_then out at t mid a u new r p q =
    record {
      place = q.place ∙ ap (λ (k : ℕ). k + length u) p.place ∙ add_assoc at (length t) (length u) ∙ ap (λ (k : ℕ). at + k) (sym (length-append t u));
      stored = q.stored ∙ ap (λ (o : List ℕ). sets o a u) p.stored ∙ ap (λ (k : ℕ). sets (sets out at t) k u) p.place ∙ sym (sets_append t u out at);
    }

pub put_as : (out : List ℕ) (at : ℕ) (t u new : List ℕ) (r : ℕ) → t ≡ u → Wrote out at t new r → Wrote out at u new r
put_as out at t u new r e p = subst (λ (x : List ℕ). Wrote out at x new r) e p

-- ---- how long the lines are

pub twenty : (n : ℕ) → n < 2 ^ 64 → length (decimal n) ≤ 20
twenty n h = decimal_few n 20 (omega arith) (omega arith)

pub five : (n : ℕ) → n ≤ 65535 → length (decimal n) ≤ 5
five n h = decimal_few n 5 (omega arith) (omega arith)

-- ---- which lines they are

pub head_text : (word : List ℕ) (n : ℕ) → (word ++ decimal n) ++ 10 ∷ [] ≡ joined (head_line word n ∷ [])
unfolding head_line joined
head_text word n = refl

pub count_text : (n : ℕ) → decimal n ++ 10 ∷ [] ≡ joined (decimal n ∷ [])
unfolding joined
count_text n = refl

pub spaced_length : (n : ℕ) → length (spaced n) ≡ suc (length (decimal n))
unfolding spaced
spaced_length n = refl

pub pair_length : (a b : ℕ) → length (pair_end a b) ≡ length (spaced a) + length (spaced b) + 1
unfolding pair_end
pair_length a b = length-append (spaced a ++ spaced b) (10 ∷ []) ∙ ap (λ (k : ℕ). k + 1) (length-append (spaced a) (spaced b))

pub pair_text : (a b : ℕ) → pair_end a b ≡ (32 ∷ two_numbers a b) ++ 10 ∷ []
unfolding pair_end spaced two_numbers
pair_text a b = refl

-- a base's digits: no word of it, one word more, all words
module _ (out : List ℕ) (at x n : ℕ) where
  pub base_none : Wrote out at (digits 16 ((n - n) * word_digits) (x / 2 ^ (n * 64))) out at
  unfolding digits
  base_none = subst (λ (k : ℕ). Wrote out at (digits 16 (k * word_digits) (x / 2 ^ (n * 64))) out at) (let z : 0 ≡ n - n = omega arith in z) (put_none out at)

  pub base_more : {mid new : List ℕ} {end r : ℕ} (i : ℕ) {w : ℕ} → 0 < i → i ≤ n → w ≡ x / 2 ^ ((i - 1) * 64) % 2 ^ 64
      → Wrote out at (digits 16 ((n - i) * word_digits) (x / 2 ^ (i * 64))) mid end → Wrote mid end (digits 16 word_digits w) new r
      → Wrote out at (digits 16 ((n - (i - 1)) * word_digits) (x / 2 ^ ((i - 1) * 64))) new r
  base_more {mid} {new} {end} {r} i {w} some few e p q =
      let y : ℕ = x / 2 ^ ((i - 1) * 64) in
      let up : i * 64 ≡ (i - 1) * 64 + 64 = omega arith in
      let long : (n - i) * word_digits + word_digits ≡ (n - (i - 1)) * word_digits = omega arith in
      let above = ap (λ (k : ℕ). x / 2 ^ k) up ∙ sym (shr-shr x ((i - 1) * 64) 64) in
      put_as out at _ _ new r
      ((λ j. digits 16 ((n - i) * word_digits) (above j) ++ digits 16 word_digits (e j))
      ∙ sym (digits_split 16 ((n - i) * word_digits) word_digits (y / 2 ^ 64) (y % 2 ^ 64) (lit< tt) (mod-lt y {m = 2 ^ 64} (lit< tt)))
      ∙ (λ j. digits 16 (long j) (div-add-mod' y (2 ^ 64) j)))
      (put_then out at _ mid end _ new r p q)

  pub base_all : {new : List ℕ} {r i : ℕ} → i ≡ 0 → Wrote out at (digits 16 ((n - i) * word_digits) (x / 2 ^ (i * 64))) new r
      → Wrote out at (digits 16 (n * word_digits) x) new r
  base_all {new} {r} {i} e =
      let long : (n - i) * word_digits ≡ n * word_digits = omega arith in
      let whole = ap (λ (k : ℕ). x / 2 ^ (k * 64)) e ∙ div-one x in
      put_as out at _ _ new r (λ j. digits 16 (long j) (whole j))

-- a block's line: so many digits of its base, and the counts
pub block_text : (w : Width) {d : ℕ} → d ≡ base_digits w → (x a b : ℕ) → digits 16 d x ++ pair_end a b ≡ joined (block_line w (record { base = x; lower = a; upper = b }) ∷ [])
unfolding block_line joined
block_text w e x a b =
    (λ i. digits 16 (e i) x ++ pair_text a b i) ∙ sym (append_assoc (digits 16 (base_digits w) x) (32 ∷ two_numbers a b) (10 ∷ []))

-- one line more
pub lines_more : {X : Type 0} (text : X → List ℕ) (xs : List X) (i : ℕ) (d : X) → i < length xs
    → joined (map text (take i xs)) ++ joined (text (get_or xs i d) ∷ []) ≡ joined (map text (take (i + 1) xs))
lines_more text xs i d h =
    sym (joined_append (map text (take i xs)) (text (get_or xs i d) ∷ [])) ∙ ap joined (sym (map_more text (take i xs) (get_or xs i d)))
    ∙ ap (λ (l : List _). joined (map text l)) (sym (take-suc xs i d h)) ∙ ap (λ (k : ℕ). joined (map text (take k xs))) (sym (add-one i))

-- ---- blocks

pub right_at : {w : Width} (xs : List ℕ) (i : ℕ) → i < block_count xs → All (RightBlock w) (shape_of xs) → RightBlock w (block_at xs i)
right_at {w} xs i h g = subst (RightBlock w) (shape_at xs i (block_at xs i) h) (all_at (block_at xs i) g i (let e = shape_length xs in omega arith))

pub block_more : (w : Width) (xs : List ℕ) (i : ℕ) (b : Block) → i < block_count xs → b ≡ block_at xs i
    → joined (map (block_line w) (take i (shape_of xs))) ++ joined (block_line w b ∷ []) ≡ joined (map (block_line w) (take (i + 1) (shape_of xs)))
block_more w xs i b h e =
    ap (λ (c : Block). joined (map (block_line w) (take i (shape_of xs))) ++ joined (block_line w c ∷ [])) (e ∙ sym (shape_at xs i b h))
    ∙ lines_more (block_line w) (shape_of xs) i b (let l = shape_length xs in omega arith)

pub pair_five : (a b : ℕ) → a ≤ 65535 → b ≤ 65535 → length (pair_end a b) ≤ 13
pair_five a b h g = let l = pair_length a b in let x = spaced_length a in let y = spaced_length b in let p = five a h in let q = five b g in omega arith

pub pair_twenty : (a b : ℕ) → a < 2 ^ 64 → b < 2 ^ 64 → length (pair_end a b) ≤ 43
pair_twenty a b h g = let l = pair_length a b in let x = spaced_length a in let y = spaced_length b in let p = twenty a h in let q = twenty b g in omega arith

-- ---- a sheet

regroup : (a b c d : List ℕ) → ((a ++ b) ++ c) ++ d ≡ a ++ (b ++ (c ++ d))
regroup a b c d = simp append_assoc

-- the four parts of a sheet
pub sheet_put : (s : Sheet) (t k : ℕ) (out : List ℕ) (at : ℕ) (o₁ o₂ o₃ o₄ : List ℕ) (r₁ r₂ r₃ r₄ : ℕ) → t ≡ length s.counts → k ≡ length s.blocks
    → Wrote out at (joined (head_line (word_of Texts) t ∷ [])) o₁ r₁ → Wrote o₁ r₁ (joined (map decimal s.counts)) o₂ r₂
    → Wrote o₂ r₂ (joined (head_line (word_of (Blocks s.width)) k ∷ [])) o₃ r₃ → Wrote o₃ r₃ (joined (map (block_line s.width) s.blocks)) o₄ r₄ → Wrote out at (writing (sheet_parts s)) o₄ r₄
unfolding writing lines_of part_lines sheet_parts
sheet_put s t k out at o₁ o₂ o₃ o₄ r₁ r₂ r₃ r₄ et ek p₁ p₂ p₃ p₄ =
    let x = head_line (word_of Texts) t ∷ [] in
    let c = map decimal s.counts in
    let y = head_line (word_of (Blocks s.width)) k ∷ [] in
    let b = map (block_line s.width) s.blocks in
    let q₂ = put_then out at (joined x) o₁ r₁ (joined c) o₂ r₂ p₁ p₂ in
    let q₃ = put_then out at (joined x ++ joined c) o₂ r₂ (joined y) o₃ r₃ q₂ p₃ in
    let q₄ = put_then out at ((joined x ++ joined c) ++ joined y) o₃ r₃ (joined b) o₄ r₄ q₃ p₄ in
    put_as out at _ _ o₄ r₄
    (regroup (joined x) (joined c) (joined y) (joined b)
    ∙ sym (joined_append x (c ++ (y ++ b)) ∙ ap (λ (u : List ℕ). joined x ++ u) (joined_append c (y ++ b) ∙ ap (λ (u : List ℕ). joined c ++ u) (joined_append y b)))
    ∙ (λ i. joined (head_line (word_of Texts) (et i) ∷ (c ++ (head_line (word_of (Blocks s.width)) (ek i) ∷ sym (append-nil b) i)))))
    q₄

-- ---- the groups

pub group_text : (e : TextRan) → (group_word ++ decimal e.group) ++ joined (ended_line e.ended ∷ []) ≡ joined (group_line e ∷ [])
unfolding group_line head_line joined
group_text e = sym (append_assoc (group_word ++ decimal e.group) (ended_line e.ended) (10 ∷ []))

pub groups_none : (out : List ℕ) (at : ℕ) → GroupsPut [] out at out at
unfolding joined
groups_none out at = record { groups = []; listed = end; wrote = put_none out at }

-- one text more
pub groups_more : {es : List TextRan} {out mid new : List ℕ} {at a r : ℕ} (e : TextRan) (k : ℕ) → length es ≡ k → GroupsPut es out at mid a → GroupPut e k mid a new r
    → GroupsPut (es ++ e ∷ []) out at new r
groups_more {es} {out} {mid} {new} {at} {a} {r} e k l g (named n w) = record {
  groups = g.groups ++ e ∷ [];
  listed = names_last e g.listed (omega arith);
  wrote = put_as out at _ _ new r (sym (ap joined (map_more group_line g.groups e) ∙ joined_append (map group_line g.groups) (group_line e ∷ [])))
      (put_then out at _ mid a _ new r g.wrote w);
}
groups_more {es} {out} {mid} {new} {at} {a} {r} e k l g (passed n p q) = record {
  groups = g.groups;
  listed = follows_last e g.listed (λ h. n (omega arith));
  wrote = subst (λ (o : List ℕ). Wrote out at (joined (map group_line g.groups)) o r) (sym p)
      (subst (Wrote out at (joined (map group_line g.groups)) mid) (sym q) g.wrote);
}

-- ---- whole reports

-- where no sheet follows, the head is the report
pub head_alone : (v : Verdict) → sheet_after v ≡ [] → joined (head_of v) ≡ report_of v
unfolding report_of writing lines_of joined
head_alone v e = sym (append-nil (joined (head_of v))) ∙ ap (λ (X : List Part). joined (head_of v) ++ writing X) (sym e)

pub refused_text : (t : Told) (n x y : ℕ) → n ≡ t.number → x ≡ t.text → y ≡ t.place → (refused_word ++ decimal n) ++ pair_end x y ≡ report_of (refused t)
unfolding head_of sheet_after refused_line head_line joined
refused_text t n x y p q r =
    (λ i. (refused_word ++ decimal (p i)) ++ (ap (λ (z : ℕ). pair_end z y) q ∙ ap (pair_end t.text) r ∙ pair_text t.text t.place) i)
    ∙ sym (append_assoc (refused_word ++ decimal t.number) (32 ∷ two_numbers t.text t.place) (10 ∷ [])) ∙ head_alone (refused t) refl

pub reported : (v : Verdict) (out new : List ℕ) (r : ℕ) → file_limit ≤ length out → r ≤ file_limit → Wrote out 0 (report_of v) new r → Reported v out new r
reported v out new r room short p =
    let count : r ≡ length (report_of v) = p.place ∙ zero-add (length (report_of v)) in
    record { count = count; short = short; bytes = p.stored ∙ sets_start (report_of v) out (omega arith) ∙ ap (λ (k : ℕ). report_of v ++ drop k out) (sym count) }
