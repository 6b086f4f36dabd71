-- What the two passes keep: places two numbers to a block, and what the rest of each pass comes to. Assumes nothing.
use mathlib.Core.Path.{◌≡◌, refl, sym, ap, ap₂, ◌∙◌, subst}
use mathlib.Core.List.{List, [], ◌∷◌, ◌++◌, append_assoc, append-nil, reverse}
use Prim.Native.Nat.{ℕ, suc, ◌+◌, ◌-◌, ◌*◌, ◌≤◌, ◌<◌}
use native.Mathlib.Omega.{arith}
use lib.ListN.{length, get_or, take, drop, set, drop_of_length-le, length-drop, length-reverse, length-set, take-append-drop}
use lib.Seq.{drop-cons, get_or-drop, drop-drop, get_or-set_same, get_or-set_other, drop-set-lt, take-suc-set}
use borrow.Author.Tests.{eq-eqb, ne_eqb}
use Rattle.shapes.specs.Shape.{Block, no_block}
use Rattle.sweep_steps.specs.Places.{at, number_of, offset_of, nth, later, forward}
use Rattle.sweep_steps.specs.Steps.{push, stretch, Held, stretches, Found, places, cannot, found, push_next, pushes, numbers}
use Rattle.sweep_steps.specs.declared.Place.{Place}
use Rattle.sweep_steps.specs.declared.Pushed.{Pushed}
use Rattle.sweep_steps.specs.declared.Stretched.{Stretched}
use Rattle.sweep_steps.proofs.Looks.{stretches_counted, pushing_walked, stretching_walked}
use Rattle.sweep_passes.specs.Read.{held_in}

-- ---- two numbers of a list

-- a block's place after it was written
pub held_set : (b : Block) (x : List Block) (l : List ℕ) (p q o : ℕ) → p + 2 ≤ length l
    → held_in (b ∷ x) (drop p (set (set l p q) (p + 1) o)) ≡ record { block = b; place = at q o } ∷ held_in x (drop (p + 2) l)
unfolding held_in
held_set b x l p q o h = ap₂ {C = List Held} (λ (w : Held) (r : List ℕ). w ∷ held_in x r) (ap₂ {C = Held} (λ (i j : ℕ). record { block = b; place = at i j }) first second) rest
  where
    l' : List ℕ
    l' = set (set l p q) (p + 1) o

    first : get_or (drop p l') 0 0 ≡ q
    first =
        let e : p + 0 ≡ p = omega arith in
        get_or-drop p l' 0 0 ∙ ap (λ (n : ℕ). get_or l' n 0) e ∙ get_or-set_other (set l p q) (p + 1) p o 0 (omega arith) ∙ get_or-set_same l p q 0 (omega arith)

    second : get_or (drop p l') 1 0 ≡ o
    second = get_or-drop p l' 1 0 ∙ get_or-set_same (set l p q) (p + 1) o 0 (let e = length-set l p q in omega arith)

    rest : drop 2 (drop p l') ≡ drop (p + 2) l
    rest = drop-drop 2 p l' ∙ drop-set-lt (p + 2) (set l p q) (p + 1) o (omega arith) ∙ drop-set-lt (p + 2) l p q (omega arith)

-- ---- stretching x's blocks, the last first

pub record StretchesKept (x y : List Block) (kept₀ kept : List ℕ) (reached : Place) (looks i : ℕ) : Type 0 where
  pub upto : i ≤ length x
  pub long : length kept ≡ length kept₀
  pub here : reached ≡ (stretches (drop i x) y).reached
  pub counted : looks ≡ (stretches (drop i x) y).looks
  pub held : held_in (drop i x) (drop (i * 2) kept) ≡ (stretches (drop i x) y).held

module _ (x y : List Block) (kept₀ : List ℕ) where
  pub stretches_begin : (n : ℕ) → n ≡ length x → StretchesKept x y kept₀ kept₀ (at 1 0) 0 n
  unfolding stretches held_in
  stretches_begin n e =
      let none = drop_of_length-le x {i = n} (omega arith) in
      record {
        upto = omega arith;
        long = refl;
        here = ap (λ (s : List Block). (stretches s y).reached) (sym none);
        counted = ap (λ (s : List Block). (stretches s y).looks) (sym none);
        held = rw none refl;
      }

  module _ (kept : List ℕ) (reached : Place) (looks i : ℕ) (k : StretchesKept x y kept₀ kept reached looks i) where
    -- the bounds of what is kept
    pub stretches_within : (1 ≤ number_of reached) × (looks ≤ length x + length y)
    stretches_within =
        let s = stretches_counted (drop i x) y in
        let few = length-drop i x in
        let b = ap number_of k.here in
        let l = k.counted in
        let f = s.inside.first in let g = s.inside.last in let c = s.counted in
        (omega arith, omega arith)

    -- and of one step more
    pub stretched_within : (b : Block) (r : Stretched) → r ≡ stretch b (reverse y) reached → (1 ≤ number_of r.end) × (r.looks ≤ length y + 1)
    unfolding stretch
    stretched_within b r er =
        let w = stretching_walked b b.upper (number_of reached) (offset_of reached) (drop (number_of reached - 1) (reverse y)) in
        let few = length-drop (number_of reached - 1) (reverse y) in
        let all = length-reverse y in
        let o = w.onward in let u = w.upto in let c = w.counted in
        let g = stretches_within.0 in
        subst (λ (t : Stretched). (1 ≤ number_of t.end) × (t.looks ≤ length y + 1)) (sym er) (omega arith, omega arith)

    pub stretches_turn : 0 < i → i * 2 ≤ length kept → (b : Block) → b ≡ nth x i → (r : Stretched) → r ≡ stretch b (reverse y) reached → (p : Place) → p ≡ forward y r.end
        → StretchesKept x y kept₀ (set (set kept ((i - 1) * 2) (number_of p)) ((i - 1) * 2 + 1) (offset_of p)) r.end (looks + r.looks) (i - 1)
    unfolding stretches
    stretches_turn some fit b eb r er p ep =
        let more : drop (i - 1) x ≡ nth x i ∷ drop i x
        = drop-cons x (i - 1) no_block (let u = k.upto in omega arith) ∙ ap (λ (n : ℕ). nth x i ∷ drop n x) (let e : suc (i - 1) ≡ i = omega arith in e) in
        let s = stretches (drop i x) y in
        let same : r ≡ stretch (nth x i) (reverse y) s.reached = er ∙ ap₂ (λ (c : Block) (q : Place). stretch c (reverse y) q) eb k.here in
        let there : p ≡ forward y (stretch (nth x i) (reverse y) s.reached).end = ep ∙ ap (λ (z : Stretched). forward y z.end) same in
        let l' = set (set kept ((i - 1) * 2) (number_of p)) ((i - 1) * 2 + 1) (offset_of p) in
        let behind : (i - 1) * 2 + 2 ≡ i * 2 = omega arith in
        record {
          upto = let u = k.upto in omega arith;
          long = length-set (set kept ((i - 1) * 2) (number_of p)) ((i - 1) * 2 + 1) (offset_of p) ∙ length-set kept ((i - 1) * 2) (number_of p) ∙ k.long;
          here = rw more (ap (λ (z : Stretched). z.end) same);
          counted = rw more (ap₂ ◌+◌ k.counted (ap (λ (z : Stretched). z.looks) same));
          held = rw more (held_set (nth x i) (drop i x) kept ((i - 1) * 2) (number_of p) (offset_of p) (omega arith)
              ∙ ap₂ {C = List Held} (λ (w : Place) (t : List Held). record { block = nth x i; place = w } ∷ t) there (ap (λ (n : ℕ). held_in (drop i x) (drop n kept)) behind ∙ k.held));
        }

    pub stretches_end : i ≤ 0 → (looks ≡ (stretches x y).looks) × (held_in x kept ≡ (stretches x y).held)
    stretches_end h =
        let z : i ≡ 0 = omega arith in
        let g : StretchesKept x y kept₀ kept reached looks 0 = subst (StretchesKept x y kept₀ kept reached looks) z k in
        (g.counted, g.held)

-- ---- pushing x's blocks, from the first

-- places found before, and looks made before
unfoldable pub found_all_places : List Place → ℕ → Found → Found
found_all_places qs l (places ps k) = places (qs ++ ps) (l + k)
found_all_places qs l (cannot k) = cannot (l + k)

found_all : (qs : List Place) (l : ℕ) (p : Place) (k : ℕ) (r : Found) → found_all_places (qs ++ (p ∷ [])) (l + k) r ≡ found_all_places qs l (found p k r)
unfolding found_all_places
found_all qs l p k (places ps m) = let e : l + k + m ≡ l + (k + m) = omega arith in ap₂ places (append_assoc qs (p ∷ []) ps) e
found_all qs l p k (cannot m) = let e : l + k + m ≡ l + (k + m) = omega arith in ap cannot e

numbers_append : (qs ps : List Place) → numbers (qs ++ ps) ≡ numbers qs ++ numbers ps
unfolding numbers
numbers_append [] ps = refl
numbers_append (q ∷ qs) ps = ap (λ (l : List ℕ). number_of q ∷ (offset_of q ∷ l)) (numbers_append qs ps)

-- two numbers more, written behind the first p
take_two : (l : List ℕ) (p a b : ℕ) → p + 2 ≤ length l → take (p + 2) (set (set l p a) (p + 1) b) ≡ take p l ++ (a ∷ (b ∷ []))
take_two l p a b h =
    let e : p + 2 ≡ suc (p + 1) = omega arith in
    let f : p + 1 ≡ suc p = omega arith in
    ap (λ (n : ℕ). take n (set (set l p a) (p + 1) b)) e
    ∙ take-suc-set (set l p a) (p + 1) b (let g = length-set l p a in omega arith)
    ∙ ap (λ (m : List ℕ). m ++ (b ∷ [])) (ap (λ (n : ℕ). take n (set l p a)) f ∙ take-suc-set l p a (omega arith))
    ∙ append_assoc (take p l) (a ∷ []) (b ∷ [])

-- the looks of one push, and where it ends
push_within : (b : Block) (y : List Block) (from : Place) → 1 ≤ number_of from → (1 ≤ number_of (push b y from).end) × ((push b y from).looks ≤ length y + 1)
unfolding push
push_within b y from h =
    let w = pushing_walked b b.lower from (number_of from) (offset_of from) (drop (number_of from - 1) y) in
    let few = length-drop (number_of from - 1) y in
    let o = w.onward in let u = w.upto in let c = w.counted in
    (omega arith, omega arith)

pub pushed_within : (b : Block) (y : List Block) (from : Place) (r : Pushed) → r ≡ push b y from → 1 ≤ number_of from → (1 ≤ number_of r.end) × (r.looks ≤ length y + 1)
pushed_within b y from r er h = subst (λ (t : Pushed). (1 ≤ number_of t.end) × (t.looks ≤ length y + 1)) (sym er) (push_within b y from h)

-- an answer is not both
pub never : (r : Found) (qs : List Place) (l k : ℕ) → r ≡ places qs l → cannot k ≡ r → ⊥
never r qs l k e f = let z : ◌≡◌ {A = ℕ} 0 1 = cc in omega arith

-- the places that an answer has are those that were kept
pub written : (r : Found) (ps qs : List Place) (k l i : ℕ) (kept kept₀ : List ℕ) (n : ℕ) → i * 2 ≡ n → places ps k ≡ r → r ≡ places qs l → kept ≡ numbers ps ++ drop (i * 2) kept₀
    → kept ≡ numbers qs ++ drop n kept₀
written r ps qs k l i kept kept₀ n en e f g =
    let same : ps ≡ qs = cc in
    g ∙ ap₂ {C = List ℕ} (λ (a : List Place) (m : ℕ). numbers a ++ drop m kept₀) same en

pub record PushesKept (x y : List Block) (kept₀ kept : List ℕ) (end : Place) (looks i : ℕ) : Type 0 where
  pub upto : i ≤ length x
  pub long : length kept ≡ length kept₀
  pub first : 1 ≤ number_of end
  pub counted : looks ≤ 64 * i
  pub found : List Place
  pub written : take (i * 2) kept ≡ numbers found
  pub rest : drop (i * 2) kept ≡ drop (i * 2) kept₀
  pub same : found_all_places found looks (pushes y (held_in (drop i x) (drop (i * 2) kept₀)) end) ≡ pushes y (held_in x kept₀) (at 1 0)

module _ (x y : List Block) (kept₀ : List ℕ) where
  pub pushes_begin : PushesKept x y kept₀ kept₀ (at 1 0) 0 0
  unfolding found_all_places numbers
  pushes_begin =
      record {
        upto = omega arith;
        long = refl;
        first = omega arith;
        counted = omega arith;
        found = [];
        written = refl;
        rest = refl;
        same = whole (pushes y (held_in x kept₀) (at 1 0));
      }
    where
      whole : (r : Found) → found_all_places [] 0 r ≡ r
      whole (places ps k) = ap (places ps) (let e : 0 + k ≡ k = omega arith in e)
      whole (cannot k) = ap cannot (let e : 0 + k ≡ k = omega arith in e)

  module _ (kept : List ℕ) (end : Place) (looks i : ℕ) (k : PushesKept x y kept₀ kept end looks i) where
    module _ (some : i < length x) (fit : i * 2 + 2 ≤ length kept) (b : Block) (eb : b ≡ nth x (i + 1)) (from : Place)
        (ef : from ≡ later (at (get_or kept (i * 2) 0) (get_or kept (i * 2 + 1) 0)) end) (r : Pushed) (er : r ≡ push b y from) where
      q : Place
      q = at (get_or kept (i * 2) 0) (get_or kept (i * 2 + 1) 0)

      next : ℕ
      next = (i + 1) * 2

      -- the blocks still to push: this one, at the place kept for it, and the others
      held_now : held_in (drop i x) (drop (i * 2) kept₀) ≡ record { block = nth x (i + 1); place = q } ∷ held_in (drop (i + 1) x) (drop next kept₀)
      unfolding held_in q next
      held_now =
          let j : i + 1 - 1 ≡ i = omega arith in
          let more : drop i x ≡ nth x (i + 1) ∷ drop (i + 1) x
          = drop-cons x i no_block some ∙ ap₂ {C = List Block} (λ (m n : ℕ). get_or x m no_block ∷ drop n x) (sym j) (let e : suc i ≡ i + 1 = omega arith in e) in
          let p = i * 2 in
          let first : get_or (drop p kept) 0 0 ≡ get_or kept p 0 = get_or-drop p kept 0 0 ∙ ap (λ (n : ℕ). get_or kept n 0) (let e : p + 0 ≡ p = omega arith in e) in
          let second : get_or (drop p kept) 1 0 ≡ get_or kept (p + 1) 0 = get_or-drop p kept 1 0 in
          let others : drop 2 (drop p kept) ≡ drop ((i + 1) * 2) kept₀
          = ap (drop 2) k.rest ∙ drop-drop 2 p kept₀ ∙ ap (λ (n : ℕ). drop n kept₀) (let e : p + 2 ≡ (i + 1) * 2 = omega arith in e) in
          ap₂ held_in more (sym k.rest)
          ∙ ap₂ {C = List Held} (λ (w : Held) (l : List ℕ). w ∷ held_in (drop (i + 1) x) l) (ap₂ {C = Held} (λ (m n : ℕ). record { block = nth x (i + 1); place = at m n }) first second) others

      pushed : push (nth x (i + 1)) y (later q end) ≡ r
      unfolding q
      pushed = sym (er ∙ ap₂ (λ (c : Block) (f : Place). push c y f) eb ef)

      pushes_now : pushes y (held_in (drop i x) (drop (i * 2) kept₀)) end ≡ push_next r (pushes y (held_in (drop (i + 1) x) (drop next kept₀)) r.end)
      unfolding pushes
      pushes_now = ap (λ (h : List Held). pushes y h end) held_now ∙ ap (λ (z : Pushed). push_next z (pushes y (held_in (drop (i + 1) x) (drop next kept₀)) z.end)) pushed

      pub pushes_stuck : (r.left ≡ 0 → ⊥) → cannot (looks + r.looks) ≡ pushes y (held_in x kept₀) (at 1 0)
      unfolding found_all_places
      pushes_stuck n =
          let e : pushes y (held_in (drop i x) (drop (i * 2) kept₀)) end ≡ cannot r.looks = pushes_now ∙ simp (ne_eqb r.left 0 n) in
          sym (ap (found_all_places k.found looks) e) ∙ k.same

      pub pushes_turn : r.left ≡ 0 → length y ≤ 32 → 1 ≤ number_of from
          → PushesKept x y kept₀ (set (set kept (i * 2) (number_of r.start)) (i * 2 + 1) (offset_of r.start)) r.end (looks + r.looks) (i + 1)
      unfolding numbers next
      pushes_turn z few ahead =
          let w = push_within b y from ahead in
          let p = i * 2 in
          let l' = set (set kept p (number_of r.start)) (p + 1) (offset_of r.start) in
          let on : p + 2 ≡ (i + 1) * 2 = omega arith in
          let took : take (p + 2) l' ≡ numbers (k.found ++ (r.start ∷ []))
          = take_two kept p (number_of r.start) (offset_of r.start) fit ∙ ap (λ (m : List ℕ). m ++ (number_of r.start ∷ (offset_of r.start ∷ []))) k.written
          ∙ sym (numbers_append k.found (r.start ∷ [])) in
          let left : drop (p + 2) l' ≡ drop (p + 2) kept₀
          = drop-set-lt (p + 2) (set kept p (number_of r.start)) (p + 1) (offset_of r.start) (omega arith) ∙ drop-set-lt (p + 2) kept p (number_of r.start) (omega arith)
          ∙ sym (drop-drop 2 p kept) ∙ ap (drop 2) k.rest ∙ drop-drop 2 p kept₀ in
          record {
            upto = omega arith;
            long = length-set (set kept p (number_of r.start)) (p + 1) (offset_of r.start) ∙ length-set kept p (number_of r.start) ∙ k.long;
            first = subst (λ (t : Pushed). 1 ≤ number_of t.end) (sym er) w.0;
            counted = let c = k.counted in let l : r.looks ≤ length y + 1 = subst (λ (t : Pushed). t.looks ≤ length y + 1) (sym er) w.1 in omega arith;
            found = k.found ++ (r.start ∷ []);
            written = ap (λ (n : ℕ). take n l') (sym on) ∙ took;
            rest = ap (λ (n : ℕ). drop n l') (sym on) ∙ left ∙ ap (λ (n : ℕ). drop n kept₀) on;
            same = found_all k.found looks r.start r.looks (pushes y (held_in (drop (i + 1) x) (drop next kept₀)) r.end)
                ∙ sym (ap (found_all_places k.found looks) (pushes_now ∙ simp (eq-eqb r.left 0 z))) ∙ k.same;
          }

    pub pushes_end : length x ≤ i → (places k.found looks ≡ pushes y (held_in x kept₀) (at 1 0)) × (kept ≡ numbers k.found ++ drop (i * 2) kept₀)
    unfolding found_all_places held_in pushes
    pushes_end h =
        let none = drop_of_length-le x {i = i} h in
        let plain : looks + 0 ≡ looks = omega arith in (
          sym (ap₂ places (append-nil k.found) plain) ∙ sym (ap (λ (t : List Block). found_all_places k.found looks (pushes y (held_in t (drop (i * 2) kept₀)) end)) none) ∙ k.same,
          sym (take-append-drop (i * 2) kept) ∙ ap₂ {C = List ℕ} (λ (a c : List ℕ). a ++ c) k.written k.rest,
        )
