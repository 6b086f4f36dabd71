-- The ways between states: where a character leads, and the characters that lead on. Assumes nothing.
use mathlib.Core.Path.{◌≡◌, refl, sym, subst}
use mathlib.Core.List.{List, [], ◌∷◌, ◌++◌}
use mathlib.Core.Logic.{◌⊎◌, inl, inr, ⊎_elim}
use Prim.Native.Nat.{ℕ, zero, suc, ◌+◌, ◌≤◌, ◌<◌}
use native.Mathlib.Numerals.{add-one}
use native.Mathlib.Omega.{arith}
use lib.Bits.{bit_and, bit_or}
use lib.ListN.{length, get_or, take}
use lib.Seq.{take-suc, length-take-le}
use Rattle.bases.specs.Base.{Holds, Greatest}
use Rattle.plain.proofs.Plain.{eq_or_ne}
use Rattle.sets.specs.Set.{Exactly}
use Rattle.sets.proofs.Exact.{exactly_as, both_exactly, either_exactly}
use Rattle.find_texts.specs.Match.{EndsWith, Matched, StateGoes}
use Rattle.find_texts.proofs.Lists.{length_snoc}
use Rattle.find_texts.proofs.State.{ends_none, ends_self, ends_length, ends_through, ends_nested, ends_snoc, snoc_ends}
use Rattle.find_borders.specs.Borders.{SameAt, Border}
use Rattle.find_borders.proofs.Borders.{border_of}
use Rattle.find_ways.specs.Ways.{EnterAt, GreatestBelow, Continued, Outside}

module _ (mark : List ℕ) where
  -- ---- where a character leads

  module _ (q : ℕ) (small : q < length mark) where
    -- the greatest border that the character c goes on from
    pub tops_matched : {w s r : ℕ} (c : ℕ) → Exactly w (Border mark q) → Exactly s (SameAt mark c) → Greatest (bit_and w s) r → Matched mark (take q mark ++ (c ∷ [])) (r + 1)
    tops_matched {w} {s} {r} c a b g =
        let x = both_exactly w s refl in
        let h = x.so r g.held in
        let p = a.so r h.0 in
        let t = b.so r h.1 in
        let few = p.few in
        let long : (k : ℕ) → k ≤ length mark → EndsWith (take k mark) (take q mark ++ (c ∷ [])) → k ≤ r + 1 = λ k. at x g k in
        record {
          within = let l = t.0 in omega arith;
          ends = rw add-one (ends_snoc mark (take q mark) c r t.0 p.ends t.1);
          longest = long;
        }
      where
        at : Exactly (bit_and w s) (λ e. Holds w e × Holds s e) → Greatest (bit_and w s) r → (k : ℕ) → k ≤ length mark → EndsWith (take k mark) (take q mark ++ (c ∷ [])) → k ≤ r + 1
        at x g zero l e = omega arith
        at x g (suc j) l e =
            let y = snoc_ends mark (take q mark) c j (omega arith) e in
            let z = g.greatest j (x.has j (a.has j (border_of mark q j (omega arith) (omega arith) y.0), b.has j (omega arith, y.1))) in
            omega arith

    pub matched_tops : {w s r : ℕ} (c : ℕ) → r < length mark → Exactly w (Border mark q) → Exactly s (SameAt mark c) → Matched mark (take q mark ++ (c ∷ [])) (r + 1) → Greatest (bit_and w s) r
    matched_tops {w} {s} {r} c l a b m =
        let x = both_exactly w s refl in
        let e : EndsWith (take (suc r) mark) (take q mark ++ (c ∷ [])) = rw add-one at m.ends in
        let y = snoc_ends mark (take q mark) c r l e in
        record {
          held = x.has r (a.has r (border_of mark q r (omega arith) (omega arith) y.0), b.has r (l, y.1));
          greatest = λ d h.
              let p = x.so d h in
              let t = b.so d p.1 in
              let t0 = t.0 in
              let z = m.longest (suc d) (omega arith) (ends_snoc mark (take q mark) c d t.0 (a.so d p.0).ends t.1) in
              omega arith;
        }

    -- a character of the base leads to r + 1: it is the mark's at r
    pub goes_enters : {base r : ℕ} → r < length mark → StateGoes mark base q (r + 1) → Holds base (get_or mark r 0) × EnterAt mark r q
    goes_enters {base} {r} l g =
        let e : EndsWith (take (suc r) mark) (take q mark ++ (g.char ∷ [])) = rw add-one at g.matched.ends in
        let y = snoc_ends mark (take q mark) g.char r l e in
        (subst (Holds base) (sym y.1) g.held, (small, subst (λ (c : ℕ). Matched mark (take q mark ++ (c ∷ [])) (r + 1)) (sym y.1) g.matched))

    pub enters_goes : {base : ℕ} (r : ℕ) → Holds base (get_or mark r 0) → EnterAt mark r q → StateGoes mark base q (r + 1)
    enters_goes {base} r h e = record { char = get_or mark r 0; held = h; matched = e.1 }

    -- it leads to 0: no border goes on with it
    pub goes_outside : {base s : ℕ} → Exactly s (Continued mark q) → StateGoes mark base q 0 → Outside base s
    goes_outside {base} {s} a g = record {
      char = g.char;
      held = g.held;
      not_in = λ h.
          let k = a.so g.char h in
          let l = k.border.few in
          let z = g.matched.longest (suc k.number) (omega arith) (ends_snoc mark (take q mark) g.char k.number (omega arith) k.border.ends k.char) in
          omega arith;
    }

    pub outside_goes : {base s : ℕ} → Exactly s (Continued mark q) → Outside base s → StateGoes mark base q 0
    outside_goes {base} {s} a o = record {
      char = o.char;
      held = o.held;
      matched = record { within = omega arith; ends = ends_none (take q mark ++ (o.char ∷ [])); longest = at };
    }
      where
        at : (k : ℕ) → k ≤ length mark → EndsWith (take k mark) (take q mark ++ (o.char ∷ [])) → k ≤ 0
        at zero l e = omega arith
        at (suc j) l e =
            let y = snoc_ends mark (take q mark) o.char j (omega arith) e in
            absurd (o.not_in (a.has o.char (record { number = j; border = border_of mark q j (omega arith) (omega arith) y.0; char = y.1 })))

  -- ---- to a state, from it and from above

  -- the character after a start leads from it to the next
  pub own_enters : (r : ℕ) → r < length mark → EnterAt mark r r
  own_enters r l =
      let e = take-suc mark r 0 l in
      let n = length-take-le (suc r) mark (omega arith) in (
        l,
        subst (λ (x : List ℕ). Matched mark x (r + 1)) e (record {
          within = omega arith;
          ends = subst (λ (k : ℕ). EndsWith (take k mark) (take (suc r) mark)) (sym (add-one r)) (ends_self (take (suc r) mark));
          longest = λ k g x. let a = ends_length x in let b = length-take-le k mark g in omega arith;
        }),
      )

  -- and to no state more than one above
  pub enters_from : (r q : ℕ) → EnterAt mark r q → r ≤ q
  enters_from r q e =
      let a = ends_length e.1.ends in
      let b = length-take-le (r + 1) mark e.1.within in
      let c = length_snoc (take q mark) (get_or mark r 0) in
      let d = length-take-le q mark (let s = e.0 in omega arith) in
      omega arith

  -- ---- the characters that lead on

  pub first_continued : {x : ℕ} → Exactly x (λ e. e ≡ get_or mark 0 0) → Exactly x (Continued mark 0)
  first_continued x = exactly_as
      (λ c h. record { number = 0; border = record { few = omega arith; ends = ends_self [] }; char = sym h })
      (λ c h. let l = h.border.few in let z : h.number ≡ 0 = omega arith in sym (subst (λ (k : ℕ). get_or mark k 0 ≡ c) z h.char))
      x

  -- the mark's own next character, and those that lead on from its longest shorter border
  pub more_continued : (q : ℕ) {w f own row x : ℕ} → q < length mark → Exactly w (Border mark q) → GreatestBelow w q f → Exactly own (λ e. e ≡ get_or mark q 0)
      → Exactly row (Continued mark f) → x ≡ bit_or own row → Exactly x (Continued mark q)
  more_continued q {w} {f} {own} {row} {x} small b g o a e = exactly_as so has (either_exactly own row e)
    where
      so : (c : ℕ) → Holds own c ⊎ Holds row c → Continued mark q c
      so c h = ⊎_elim
          (λ i. record { number = q; border = record { few = omega arith; ends = ends_self (take q mark) }; char = sym (o.so c i) })
          (λ i.
          let k = a.so c i in
          let l = k.border.few in
          let m = g.below in
          record { number = k.number; border = record { few = omega arith; ends = ends_through k.border.ends (b.so f g.held).ends }; char = k.char })
          h

      has : (c : ℕ) → Continued mark q c → Holds own c ⊎ Holds row c
      has c h = ⊎_elim
          (λ i. inl (o.has c (sym (subst (λ (k : ℕ). get_or mark k 0 ≡ c) i h.char))))
          (λ i.
          let l = h.border.few in
          let m = g.below in
          let n = g.greatest h.number (b.has h.number h.border) (omega arith) in
          let y = length-take-le h.number mark (omega arith) in
          let z = length-take-le f mark (omega arith) in
          inr (a.has c (record { number = h.number; border = record { few = n; ends = ends_nested h.border.ends (b.so f g.held).ends (omega arith) }; char = h.char })))
          (eq_or_ne h.number q)
