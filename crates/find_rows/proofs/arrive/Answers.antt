-- `find_rows::arrive`: the rows of the live states from which a character of the base leads to t, one up. Assumes
-- nothing.
use mathlib.Core.Path.{◌≡◌, sym, subst}
use Prim.Native.Nat.{ℕ, ◌+◌, ◌-◌, ◌<◌}
use native.Mathlib.Omega.{arith}
use lib.ListN.{length}
use Rattle.bases.specs.Base.{Holds}
use Rattle.sets.specs.Set.{set_of, Exactly}
use Rattle.find_rows.specs.Says.{Arrived, Underway}
use Rattle.find_rows.proofs.Arrivals.{arrived_none, arrived_on, arrived_not}
use Rattle.find_rows.proofs.arrive.Goals as goal

-- t is one more than the state before it
at_next : {t : ℕ} (P : ℕ → Type 0) → 0 < t → P (t - 1 + 1) → P t
at_next {t} P l x = subst P (let e : t - 1 + 1 ≡ t = omega arith in e) x

to-next : {t : ℕ} (P : ℕ → Type 0) → 0 < t → P t → P (t - 1 + 1)
to-next {t} P l x = subst P (let e : t ≡ t - 1 + 1 = omega arith in e) x

pub returns-then-t-eq0 : goal.returns-then-t-eq0
returns-then-t-eq0 c = λ was u alive.
    let s = c in
    let z = c.if-t-eq0.true in
    let a = s.args in
    let mark = a.mark.text.now in
    let base = set_of a.ways.base in
    subst (λ (n : ℕ). Exactly (set_of c.up.result) (Arrived mark base was n)) (sym z)
    (arrived_none mark base was a.rows.now alive (subst (λ (n : ℕ). Underway was a.rows.now n (set_of a.last)) z u) s.requires.fall_words.1.resets c.gather.ensures c.up.ensures)

pub overflow_shr-ways : goal.overflow_shr-ways
overflow_shr-ways c = let p = c.requires.short_mark in let f = p.0.few in let l = p.1 in omega arith

pub returns-then-ways-t-ne1 : goal.returns-then-ways-t-ne1
unfolding Holds
returns-then-ways-t-ne1 c = λ was u alive.
    let s = c in
    let a = s.args in
    let mark = a.mark.text.now in
    let base = set_of a.ways.base in
    let some : 0 < a.t = omega arith in
    let small : a.t - 1 < length mark = let l = s.requires.short_mark.1 in omega arith in
    let not = c.if-ways-t-ne1.true in
    at_next (λ n. Exactly (set_of c.none.result) (Arrived mark base was n)) some
    (arrived_not mark base was a.rows.now alive (a.t - 1) small (to-next (λ n. Underway was a.rows.now n (set_of a.last)) some u)
    (λ h. not (s.requires.fall_words.1.allowed.has (a.t - 1) (small, h))) c.none.ensures)

pub offset_bounds-mark-t : goal.offset_bounds-mark-t
offset_bounds-mark-t c = let p = c.requires.short_mark in let f = p.0.few in let l = p.1 in omega arith

pub bounds-mark-t : goal.bounds-mark-t
bounds-mark-t c = let p = c.requires.short_mark in let f = p.0.few in let l = p.1 in omega arith

pub returns : goal.returns
unfolding Holds
returns c = λ was u alive.
    let s = c in
    let a = s.args in
    let mark = a.mark.text.now in
    let base = set_of a.ways.base in
    let some : 0 < a.t = omega arith in
    let small : a.t - 1 < length mark = let l = s.requires.short_mark.1 in omega arith in
    let bit = c.if-ways-t-ne1.false in
    at_next (λ n. Exactly (set_of c.up-2.result) (Arrived mark base was n)) some
    (arrived_on mark base was a.rows.now alive (a.t - 1) small (to-next (λ n. Underway was a.rows.now n (set_of a.last)) some u)
    (s.requires.fall_words.1.allowed.so (a.t - 1) bit).1 (s.requires.fall_words.0 (a.t - 1) small) c.gather-2.ensures c.either.ensures c.up-2.ensures)
