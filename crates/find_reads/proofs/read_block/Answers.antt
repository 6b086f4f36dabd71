-- `find_reads::read_block`: so many characters of the block, ending where its run may end. Assumes nothing.
use mathlib.Core.Path.{◌≡◌, refl, subst}
use mathlib.Core.List.{List}
use Prim.Native.Nat.{ℕ, ◌-◌, ◌≤◌}
use native.Mathlib.Omega.{arith}
use borrow.Author.Tests.{leb-true, leb-false}
use Rattle.plain.specs.Tells.{Tells}
use Rattle.sets.specs.declared.Set.{Set}
use Rattle.sets.specs.Set.{set_of}
use Rattle.shapes.specs.Lent.{meant}
use Rattle.rows.specs.Row.{row_in}
use Rattle.find_rows.specs.Says.{Underway}
use Rattle.find_reads.proofs.Say.{says_more, hits_more, block_start, hits_start, block_end, block_hits}
use Rattle.find_reads.proofs.read_block.Invariants.{ReadSome}
use Rattle.find_reads.proofs.read_block.Goals as goal

-- nothing is under way yet: the row before row m is the last
whole : (rows : List Set) {m last : ℕ} → last ≡ row_in rows (m - 1) → Underway rows rows m last
whole rows e = record { before = λ l. e; left = λ q l. refl }

pub loop-o-init : goal.loop-o-init
loop-o-init c = (c.requires.short_mark.1, λ s b h. record { kept = block_start h.kept; struck = hits_start h.struck })

pub overflow_sub-m : goal.overflow_sub-m
overflow_sub-m c = let f = c.requires.short_mark.0.some in omega arith

pub offset_bounds-rows-m : goal.offset_bounds-rows-m
offset_bounds-rows-m c = let f = c.requires.short_mark.0.few in let g = c.requires.short_mark.0.some in omega arith

pub bounds-rows-m : goal.bounds-rows-m
bounds-rows-m c = let f = c.requires.short_mark.0.few in let g = c.requires.short_mark.0.some in omega arith

pub arrive-found-requires : goal.arrive-found-requires
arrive-found-requires c = record {
  short_mark = (c.requires.short_mark.0, omega arith);
  fall_words = (c.requires.fall_words.0, c.requires.fall_words.1);
}

pub step-live-requires : goal.step-live-requires
step-live-requires c = record {
  short_mark = (c.requires.short_mark.0, c.loop-o.invariant.0);
  fall_words = (c.requires.fall_words.0, c.requires.fall_words.1);
}

pub loop-o-preserved : goal.loop-o-preserved
loop-o-preserved c =
    let l = c.loop-o in
    let z = c.args in
    let keep : Tells _ (z.b.lower ≤ l.o) = record { so = leb-true z.b.lower l.o; not_so = λ x h. let g = leb-false z.b.lower l.o x in omega arith } in
    let came = c.arrive-found.ensures l.rows (whole l.rows refl) l.invariant.0 in (
      c.step-live.ensures.exactly,
      λ s b h. let y = l.invariant.1 s b h in record { kept = says_more (omega arith) keep y.kept c.step-live.ensures.moved; struck = hits_more (omega arith) y.kept y.struck came c.either-hits.ensures },
    )

pub returns : goal.returns
returns c =
    let l = c.loop-o in
    let mark = c.args.mark.text.now in
    let b = meant c.args.b in
    let e : l.o ≡ b.upper = omega arith in
    let g = c.requires.short_mark.2 in
    record {
      exactly = l.invariant.0;
      heard = λ s k h.
          let y = subst (λ (n : ℕ). ReadSome mark s n b.lower b.upper l.rows (set_of l.hits)) c.requires.fall_words.2
          (subst (λ (n : ℕ). ReadSome mark s (set_of c.args.ways.base) b.lower n l.rows (set_of l.hits)) e (l.invariant.1 s k h)) in
          record { kept = block_end b g y.kept; struck = block_hits b g y.struck };
    }
