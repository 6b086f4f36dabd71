-- Where a file departs, section by section, whatever the sections are. Assumes nothing.
use mathlib.Core.Path.{◌≡◌, refl, sym, ap, ◌∙◌, subst, subst₂}
use mathlib.Core.List.{List, [], ◌∷◌, ◌++◌, map, append_assoc}
use mathlib.Core.Logic.{inl}
use Prim.Native.Nat.{ℕ, zero, suc, ◌+◌, ◌-◌, ◌≤◌, ◌<◌}
use native.Mathlib.Omega.{arith}
use lib.ListN.{length, drop, replicate, length-append, length-map, length-replicate}
use lib.Seq.{drop_at}
use Rattle.plain.specs.All.{All}
use Rattle.plain.specs.All.All.{none, more}
use Rattle.plain.proofs.All.{all_append}
use Rattle.plain.proofs.Items.{map_join}
use Rattle.file_lines.specs.declared.Heading.{Heading}
use Rattle.file_lines.specs.Grammar.{head_line, joined, word_of, Item, RightItem, line_of, Part, part_lines, lines_of, writing, Section, Heads, InSection, InGrammar}
use Rattle.file_lines.specs.Grammar.InGrammar.{none as no_part, more as one-part}
use Rattle.file_lines.specs.Book.{part}
use Rattle.file_lines.specs.Lines.{Opens, OpensNone}
use Rattle.file_lines.proofs.Split.{head_one, tail_one}
use Rattle.file_lines.proofs.Joined.{joined_append}
use Rattle.files.specs.Departs.{Departs}
use Rattle.files.proofs.Items.{heading_one, count_one, some_item, some_right}

pub part_length : (h : Heading) (xs : List (Item h)) → length (part_lines h xs) ≡ length xs + 1
unfolding part_lines
part_length h xs = let l = length-map xs (line_of h) in let e : suc (length (map (line_of h) xs)) ≡ length xs + 1 = omega arith in e

-- ---- what the lines of a file in the grammar s, G say of its first part

module _ {s : Section} {G : List Section} where
  -- the first line is a head line
  first_line : {X : List Part} {l : List ℕ} {ls : List (List ℕ)} → InGrammar (s ∷ G) X → lines_of X ≡ l ∷ ls
      → (h : Heading) × (n : ℕ) × Heads s h × (n ≤ s.most) × (l ≡ head_line (word_of h) n)
  unfolding lines_of part_lines
  first_line (one-part {p = p} i g) e = (p.heading, length p.items, i.heading, i.few, sym (head_one e))

  some_line : {X : List Part} → InGrammar (s ∷ G) X → lines_of X ≡ [] → ⊥
  unfolding lines_of part_lines
  some_line (one-part i g) e = let f = ap length e in omega arith

  -- after a heading and its count n, so many items under it
  counted : {X : List Part} (h : Heading) {n : ℕ} {ls : List (List ℕ)} → InGrammar (s ∷ G) X → lines_of X ≡ head_line (word_of h) n ∷ ls
      → (xs : List (Item h)) × (Y : List Part) × (length xs ≡ n) × All (RightItem h) xs × InGrammar G Y × (ls ≡ map (line_of h) xs ++ lines_of Y)
  unfolding lines_of part_lines
  counted h {n = n} {ls = ls} (one-part {p = p} {X = Y} i g) e = go (heading_one p.heading h (length p.items) n (head_one e)) e
    where
      go : p.heading ≡ h → part_lines p.heading p.items ++ lines_of Y ≡ head_line (word_of h) n ∷ ls
          → (xs : List (Item h)) × (Y : List Part) × (length xs ≡ n) × All (RightItem h) xs × InGrammar G Y × (ls ≡ map (line_of h) xs ++ lines_of Y)
      go q = subst (λ (h : Heading). part_lines p.heading p.items ++ lines_of Y ≡ head_line (word_of h) n ∷ ls
          → (xs : List (Item h)) × (Y : List Part) × (length xs ≡ n) × All (RightItem h) xs × InGrammar G Y × (ls ≡ map (line_of h) xs ++ lines_of Y)) q
          (λ e. (p.items, Y, count_one p.heading (length p.items) n (head_one e), i.right, g, sym (tail_one e)))

-- ---- files in any grammar

empty_parts : List Section → List Part
empty_parts [] = []
empty_parts (s ∷ G) = part s.heading [] ∷ empty_parts G

empty_right : (G : List Section) → InGrammar G (empty_parts G)
unfolding empty_parts
empty_right [] = no_part
empty_right (s ∷ G) = one-part {s = s} {p = part s.heading []} (record { heading = inl refl; few = omega arith; right = none }) (empty_right G)

-- ---- the count's line departs

pub head_departs : (s : Section) (G : List Section) (bytes : List ℕ) → ((h : Heading) → Heads s h → OpensNone 10 (λ (k : ℕ). k ≤ s.most) (head_line (word_of h)) bytes)
    → Departs (s ∷ G) bytes 1
unfolding joined
head_departs s G bytes no-head = record {
  before = [];
  rest = bytes;
  place = refl;
  split = refl;
  begins = record { parts = empty_parts (s ∷ G); right = empty_right (s ∷ G); more = lines_of (empty_parts (s ∷ G)); lines = refl };
  stops = λ line after e b. let f = first_line b.right b.lines in no-head f.0 f.2 f.1 after f.3 (e ∙ ap (λ (l : List ℕ). l ++ 10 ∷ after) f.4);
  unfinished = λ e X g l. some_line g l;
}

-- ---- a line of the section departs

-- a right item's line stands where fewer items stand before it than there are
line_at : (h : Heading) (xs : List (Item h)) (ks : List (List ℕ)) (l : List ℕ) (ls r : List (List ℕ)) → All (RightItem h) xs → length ks < length xs
    → ks ++ l ∷ ls ≡ map (line_of h) xs ++ r → (x : Item h) × RightItem h x × (l ≡ line_of h x)
line_at h [] ks l ls r w k e = absurd (omega arith)
line_at h (x ∷ xs) [] l ls r (more p w) k e = (x, p, head_one e)
line_at h (x ∷ xs) (a ∷ ks) l ls r (more p w) k e = line_at h xs ks l ls r w (omega arith) (tail_one e)

right_copies : (h : Heading) (k : ℕ) → All (RightItem h) (replicate k (some_item h))
right_copies h zero = none
right_copies h (suc k) = more (some_right h) (right_copies h k)

-- the lines of a section that has the heading h
pub item_departs : (s : Section) (G : List Section) (h : Heading) → Heads s h → (bytes : List ℕ) (n m : ℕ) → Opens 10 (λ (k : ℕ). k ≤ s.most) (head_line (word_of h)) bytes n m
    → (xs : List (Item h)) (rest : List ℕ) → length xs < n → All (RightItem h) xs → drop m bytes ≡ joined (map (line_of h) xs) ++ rest → OpensNone 10 (RightItem h) (line_of h) rest
    → Departs (s ∷ G) bytes (length xs + 2)
unfolding joined lines_of part_lines
item_departs s G h headed bytes n m head xs rest few right split no_item = record {
  before = head_line w n ∷ map line xs;
  rest = rest;
  place = let l = length-map xs line in omega arith;
  split = head.split ∙ ap (λ (t : List ℕ). head_line w n ++ 10 ∷ t) split ∙ sym (append_assoc (head_line w n) (10 ∷ joined (map line xs)) rest);
  begins = record {
    parts = part h all ∷ empty_parts G;
    right = one-part {s = s} {p = part h all} (record { heading = headed; few = let f = head.right in let e = all_many in omega arith; right = all_append right (right_copies h k) }) (empty_right G);
    more = map line (replicate k (some_item h)) ++ lines_of (empty_parts G);
    lines = (λ i. head_line w (all_many i) ∷ (map_join line xs (replicate k (some_item h)) i ++ lines_of (empty_parts G)))
        ∙ ap (λ (ls : List (List ℕ)). head_line w n ∷ ls) (append_assoc (map line xs) (map line (replicate k (some_item h))) (lines_of (empty_parts G)));
  };
  stops = λ l after e b.
      let c = counted h {ls = (map line xs ++ l ∷ []) ++ b.more} b.right b.lines in
      let y = line_at h c.0 (map line xs) l b.more (lines_of c.1) c.3 (let q = c.2 in let z = length-map xs line in omega arith)
      (sym (append_assoc (map line xs) (l ∷ []) b.more) ∙ c.5) in
      no_item y.0 after y.1 (e ∙ ap (λ (t : List ℕ). t ++ 10 ∷ after) y.2);
  unfinished = λ e X g l.
      let c = counted h g l in
      let f = ap length c.5 ∙ length-append (map line c.0) (lines_of c.1) in
      let q = c.2 in
      let z = length-map xs line in
      let y = length-map c.0 line in
      omega arith;
}
  where
    w : List ℕ
    w = word_of h

    line : Item h → List ℕ
    line = line_of h

    k : ℕ
    k = n - length xs

    all : List (Item h)
    all = xs ++ replicate k (some_item h)

    all_many : length all ≡ n
    all_many = length-append xs (replicate k (some_item h)) ∙ (let r = length-replicate k (some_item h) in let e : length xs + length (replicate k (some_item h)) ≡ n = omega arith in e)

-- ---- what follows a section departs

pub after_part : (s : Section) (G : List Section) (p : Part) (bytes rest : List ℕ) (k : ℕ) → InSection s p
    → bytes ≡ joined (part_lines p.heading p.items) ++ rest → Departs G rest k → Departs (s ∷ G) bytes (length (part_lines p.heading p.items) + k)
unfolding lines_of part_lines
after_part s G p bytes rest k i split d = record {
  before = head ++ d.before;
  rest = d.rest;
  place = let a = length-append head d.before in let q = d.place in omega arith;
  split = split ∙ ap (λ (t : List ℕ). joined head ++ t) d.split ∙ sym (append_assoc (joined head) (joined d.before) d.rest)
      ∙ ap (λ (t : List ℕ). t ++ d.rest) (sym (joined_append head d.before));
  begins = record {
    parts = p ∷ d.begins.parts;
    right = one-part i d.begins.right;
    more = d.begins.more;
    lines = ap (λ (t : List (List ℕ)). head ++ t) d.begins.lines ∙ sym (append_assoc head d.before d.begins.more);
  };
  stops = λ l after e b.
      let r = rest_of b.right (b.lines ∙ ap (λ (t : List (List ℕ)). t ++ b.more) (append_assoc head d.before (l ∷ [])) ∙ append_assoc head (d.before ++ l ∷ []) b.more) in
      d.stops l after e (record { parts = r.0; right = r.1; more = b.more; lines = r.2 });
  unfinished = λ e X g l. let r = rest_of g l in d.unfinished e r.0 r.1 r.2;
}
  where
    lines : List (List ℕ)
    lines = map (line_of p.heading) p.items

    head : List (List ℕ)
    head = part_lines p.heading p.items

    -- what follows the same section is in the rest of the grammar
    rest_of : {X : List Part} {ls : List (List ℕ)} → InGrammar (s ∷ G) X → lines_of X ≡ head ++ ls → (Y : List Part) × InGrammar G Y × (lines_of Y ≡ ls)
    rest_of {ls = ls} g e =
        let c = counted p.heading {ls = lines ++ ls} g e in
        let l = length-map p.items (line_of p.heading) in
        let m = length-map c.0 (line_of p.heading) in
        let q = c.2 in
        (c.1, c.4, sym (drop_at (map (line_of p.heading) c.0) (lines_of c.1) (length p.items) (omega arith)) ∙ ap (drop (length p.items)) (sym c.5) ∙ drop_at lines ls (length p.items) l)

-- and what follows several
pub after_parts : {G : List Section} {X : List Part} (H : List Section) (bytes rest : List ℕ) (k : ℕ) → InGrammar G X → bytes ≡ writing X ++ rest → Departs H rest k
    → Departs (G ++ H) bytes (length (lines_of X) + k)
unfolding writing lines_of joined
after_parts H bytes rest k no_part split d = subst₂ (Departs H) (sym split) (let e : k ≡ 0 + k = omega arith in e) d
after_parts H bytes rest k (one-part {s = s} {G = G} {p = p} {X = X} i g) split d =
    let lines = part_lines p.heading p.items in
    let both = length-append lines (lines_of X) in
    let line : length lines + (length (lines_of X) + k) ≡ length (lines ++ lines_of X) + k = omega arith in
    let parted : bytes ≡ joined lines ++ (writing X ++ rest)
    = split ∙ ap (λ (t : List ℕ). t ++ rest) (joined_append lines (lines_of X)) ∙ append_assoc (joined lines) (writing X) rest in
    subst (Departs (s ∷ (G ++ H)) bytes) line (after_part s (G ++ H) p bytes (writing X ++ rest) _ i parted (after_parts H (writing X ++ rest) rest k g refl d))

-- parts, and then parts
pub parts_append : {G H : List Section} {X Y : List Part} → InGrammar G X → InGrammar H Y → InGrammar (G ++ H) (X ++ Y)
parts_append no_part k = k
parts_append (one-part i g) k = one-part i (parts_append g k)

pub writing_append : (X Y : List Part) → writing (X ++ Y) ≡ writing X ++ writing Y
unfolding writing lines_of joined
writing_append [] Y = refl
writing_append (p ∷ X) Y =
    let lines = part_lines p.heading p.items in
    joined_append lines (lines_of (X ++ Y)) ∙ ap (λ (t : List ℕ). joined lines ++ t) (writing_append X Y) ∙ sym (append_assoc (joined lines) (writing X) (writing Y))
    ∙ ap (λ (t : List ℕ). t ++ writing Y) (sym (joined_append lines (lines_of X)))

-- ---- anything after the last section is a further line

pub past_end : (rest : List ℕ) → 0 < length rest → Departs [] rest 1
unfolding joined lines_of
past_end rest some = record {
  before = [];
  rest = rest;
  place = refl;
  split = refl;
  begins = record { parts = []; right = no_part; more = []; lines = none_there no_part };
  stops = λ l after e b. let f = ap length (sym (none_there b.right) ∙ b.lines) in omega arith;
  unfinished = λ e X g l. let f = ap length e in omega arith;
}
  where
    none_there : {X : List Part} → InGrammar [] X → lines_of X ≡ []
    none_there no_part = refl
