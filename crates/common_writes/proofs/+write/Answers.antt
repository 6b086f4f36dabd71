-- `common_writes::write`, which calls itself on what remains: at most one character fewer. Assumes nothing.
use mathlib.Core.Path.{sym, subst}
use Prim.Native.Nat.{ℕ, ◌-◌, ◌≤◌, ◌<◌}
use native.Mathlib.Omega.{arith}
use lib.ListN.{length, set, length-set}
use borrow.Author.Rules.{rules}
use Rattle.bases.specs.Base.{Holds}
use Rattle.sets.specs.Set.{set_of}
use Rattle.shapes.specs.Shape.{total}
use Rattle.shapes.specs.Lent.{shape_of}
use Rattle.walks.specs.Walk.{slot_at}
use Rattle.common_weighs.specs.Next.{MayCome}
use Rattle.common_writes.proofs.Part.{rest_long, laid_long}
use Rattle.common_writes.proofs.Remains.{stands_after, meeting_after, some_left, less_left, again, wrote_end, next_char, wrote_next, wrote_short}
use Rattle.common_writes.proofs.+write.Goals as goal
use Rattle.common_writes.proofs.+write.Goals.{After-next-found}

pub returns-then-may_end : goal.returns-then-may_end
returns-then-may_end t c =
    let p = c.requires in
    wrote_end c.args.both.now.x.now c.args.both.now.y.now _ _ _ _ p.stands.0.closed p.stands.1.closed p.own_value (c.may_end.ensures.so c.if-may_end.true)

-- ---- once the next character is known

module _ (t : ℕ) (c : After-next-found t) where
  -- they may not end here
  not_end : Holds (set_of c.args.own.row) c.args.last.own × Holds (set_of c.args.other.row) c.args.last.other → ⊥
  not_end = c.may_end.ensures.not_so c.if-may_end.false

  -- it is a character, and may come
  chosen : (c.next-found.result.code < 256)
      × MayCome (slot_at (shape_of c.args.both.now.x.now)) (slot_at (shape_of c.args.both.now.y.now)) (total (shape_of c.args.both.now.x.now)) (total (shape_of c.args.both.now.y.now)) (Holds (set_of c.args.own.row)) (set_of c.args.other.row) c.next-found.result.code
  chosen =
      let p = c.requires in
      next_char c.args.both.now.x.now c.args.both.now.y.now _ _ _ _ p.stands.0.closed p.stands.1.closed p.own_value not_end p.meeting c.next-found.ensures

  some : 1 ≤ c.args.left
  some = some_left c.args.both.now.x.now c.requires.at_most_left.0 chosen.1

  room : 1 ≤ length c.args.out.now
  room = let h = some in let l = c.requires.at_most_left.1 in omega arith

  set_room : 1 ≤ length (set c.args.out.now 0 c.next-found.result.code)
  set_room = subst (λ (k : ℕ). 1 ≤ k) (sym (length-set c.args.out.now 0 _)) room

pub read-first-requires : goal.read-first-requires
read-first-requires t c =
    let r = c.requires in
    record {
      slotted = r.both_laid.own;
      code_bound = ((chosen t (goal.at.read-first-requires t c).After-next-found).0, r.stands.0.runs);
      exactly = again c.args.both.now.x.now _ _ r.stands.0.takes;
    }

pub read-second-requires : goal.read-second-requires
read-second-requires t c =
    let r = c.requires in
    record {
      slotted = r.both_laid.other;
      code_bound = ((chosen t (goal.at.read-second-requires t c).After-next-found).0, r.stands.1.runs);
      exactly = again c.args.both.now.y.now _ _ r.stands.1.takes;
    }

pub overflow_cast-out : goal.overflow_cast-out
overflow_cast-out t c = let small = (chosen t (goal.at.overflow_cast-out t c).After-next-found).0 in search rules

pub bounds-out-0 : goal.bounds-out-0
bounds-out-0 t c = room t (goal.at.bounds-out-0 t c).After-next-found

pub overflow_sub-left : goal.overflow_sub-left
overflow_sub-left t c = some t (goal.at.overflow_sub-left t c).After-next-found

pub slice_bounds-write-count : goal.slice_bounds-write-count
slice_bounds-write-count t c = set_room t (goal.at.slice_bounds-write-count t c).After-next-found

pub slice_bounds-write-start : goal.slice_bounds-write-start
slice_bounds-write-start t c = set_room t (goal.at.slice_bounds-write-start t c).After-next-found

pub write-n-requires : goal.write-n-requires
write-n-requires t c =
    let n = (goal.at.write-n-requires t c).After-next-found in
    let p = c.requires in
    let own = c.read-first.ensures in
    let other = c.read-second.ensures in
    let kept = c.next-found.ensures.kept_all in
    let e = c.decreases in
    let h = some t n in
    let long = p.at_most_left.1 in
    let l = rest_long c.args.out.now c.next-found.result.code (room t n) in
    let short = subst (λ (k : ℕ). c.args.left - 1 ≤ k) (sym l) (omega arith) in
    (omega arith, (p.both_laid, (p.own_value, ((stands_after _ own.exactly_2 own.exactly_3 own.run_ends, stands_after _ other.exactly_2 other.exactly_3 other.run_ends), (meeting_after (chosen t n).1 kept own.exactly_3 other.exactly_3, (less_left c.args.both.now.x.now p.at_most_left.0 h kept.so own.exactly_3, short))))))

pub overflow_add-result : goal.overflow_add-result
overflow_add-result t c =
    let h = room t (goal.at.overflow_add-result t c).After-next-found in
    let l = rest_long c.args.out.now c.next-found.result.code h in
    let n = wrote_short c.write-n.ensures c.write-n.auto.out in
    search rules

pub shape_of-out : goal.shape_of-out
shape_of-out t c = laid_long c.args.out.now c.write-n.new.out _ (room t (goal.at.shape_of-out t c).After-next-found) c.write-n.auto.out

pub returns : goal.returns
returns t c =
    let n = (goal.at.returns t c).After-next-found in
    let p = c.requires in
    wrote_next c.args.both.now.x.now c.args.both.now.y.now _ _ _ _ p.stands.0.closed p.stands.1.closed p.own_value (not_end t n) c.args.out.now c.write-n.new.out (room t n) c.next-found.ensures c.read-first.ensures.exactly_3 c.read-second.ensures.exactly_3 c.write-n.ensures
