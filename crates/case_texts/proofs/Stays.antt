-- A letter that is left in one case is left in each case that its block was entered with. Assumes nothing.
use mathlib.Core.Path.{◌≡◌, refl, sym, ap, ◌∙◌, subst}
use mathlib.Core.List.Memᴰ
use mathlib.Core.List.{List, [], ◌∷◌, ◌++◌}
use Prim.Native.Nat.{ℕ, zero, suc, ◌+◌, ◌<◌}
use native.Mathlib.Omega.{arith}
use lib.ListN.{length, get_or, set, length-append, get_or-append}
use lib.Seq.{get_or-append-add, get_or-set_same}
use Rattle.bases.specs.Base.{Holds}
use Rattle.texts.specs.Case.{lowered, AnyCase}
use Rattle.texts.proofs.Case.{Alike, more, alike_refl, alike_any, alike_length}
use Rattle.plain.specs.All.{All}
use Rattle.shapes.specs.Shape.{Block, Run, no_block}
use Rattle.hulls.specs.Hull.{Pairs, Taken, Occurs, Hull}
use Rattle.hulls.proofs.Fill.{filling_size, filling_at}
use Rattle.hulls.proofs.Frame.{set_filling}
use Rattle.hulls.proofs.Tight.{all_at}
use Rattle.case_blocks.specs.Case.{CasesStay}
use Rattle.case_texts.proofs.Respell.{AlikeRuns, end, next, text_alike, runs_take, runs_drop}

-- the run r with d in the place of a character that counts as d
record Swapped (b d : ℕ) (r : List ℕ) : Type 0 where
  run : List ℕ
  held : All (Holds b) run
  alike : Alike run r
  there : Occurs d run

swap : {b c : ℕ} (d : ℕ) (r : List ℕ) → Holds b d → lowered d ≡ lowered c → All (Holds b) r → Occurs c r → Swapped b d r
swap {b = b} {c = c} d [] h e _ x5 = elim x5 [ ]
swap d (x ∷ r) h e (All.more p a) (Memᴰ.head z) = record { run = d ∷ r; held = All.more h a; alike = more (e ∙ ap lowered z) (alike_refl r); there = Memᴰ.head refl }
swap d (x ∷ r) h e (All.more p a) (Memᴰ.tail m) =
    let s = swap d r h e a m in
    record { run = x ∷ s.run; held = All.more p s.held; alike = more refl s.alike; there = Memᴰ.tail s.there }

runs_refl : (f : List (List ℕ)) → AlikeRuns f f
runs_refl [] = end
runs_refl (r ∷ f) = next (alike_refl r) (runs_refl f)

runs_set : (i : ℕ) (r : List ℕ) (f : List (List ℕ)) → Alike r (get_or f i []) → AlikeRuns (set f i r) f
runs_set i r [] a = end
runs_set zero r (s ∷ f) a = next a (runs_refl f)
runs_set (suc i) r (s ∷ f) a = next (alike_refl s) (runs_set i r f a)

pub stays : {S H : List Block} (n : ℕ) → Hull (Pairs AnyCase n) S H → (i : ℕ) → i < length S → (c d : ℕ) → Holds (get_or H i no_block).base c → Holds (get_or S i no_block).base d → lowered d ≡ lowered c
    → Holds (get_or H i no_block).base d
stays {S} {H} n h i l c d held entered e =
    let t = h.tight i l in
    let x = t.held c held in
    let f : List (List ℕ) = x.1.runs in
    let fill = x.1.satisfies.filling in
    let run : Run (get_or S i no_block) x.0 = subst (Run (get_or S i no_block)) x.1.run (filling_at fill i l) in
    let s = swap d x.0 entered e run.held x.2 in
    let same = alike_length s.alike in
    let enough = run.enough in
    let bounded = run.bounded in
    let new : Run (get_or S i no_block) s.run = record { held = s.held; enough = omega arith; bounded = omega arith } in
    let a = runs_set i s.run f (subst (Alike s.run) (sym x.1.run) s.alike) in
    let long = filling_size fill in
    let taken : Taken (Pairs AnyCase n) S i s.run = record {
      runs = set f i s.run;
      satisfies = record { filling = set_filling i s.run new fill; rule = alike_any (text_alike (runs_take n a)) ∙ x.1.satisfies.rule ∙ sym (alike_any (text_alike (runs_drop n a))) };
      run = get_or-set_same f i s.run [] (omega arith);
    } in
    all_at (t.covers s.run taken).held s.there

-- ---- of two shapes

module _ (X Y I J : List Block) (size : length I ≡ length X) (h : Hull (Pairs AnyCase (length X)) (X ++ Y) (I ++ J)) where
  pub stays_first : CasesStay X I
  stays_first i l c d held entered e =
      let x : get_or (X ++ Y) i no_block ≡ get_or X i no_block = get_or-append X Y no_block i l in
      let y : get_or (I ++ J) i no_block ≡ get_or I i no_block = get_or-append I J no_block i (omega arith) in
      let at = length-append X Y in
      subst (λ (b : Block). Holds b.base d) y
      (stays (length X) h i (omega arith) c d (subst (λ (b : Block). Holds b.base c) (sym y) held) (subst (λ (b : Block). Holds b.base d) (sym x) entered) e)

  pub stays_second : CasesStay Y J
  stays_second i l c d held entered e =
      let x : get_or (X ++ Y) (length X + i) no_block ≡ get_or Y i no_block = get_or-append-add X Y i no_block in
      let y : get_or (I ++ J) (length X + i) no_block ≡ get_or J i no_block = ap (λ (k : ℕ). get_or (I ++ J) (k + i) no_block) (sym size) ∙ get_or-append-add I J i no_block in
      let at = length-append X Y in
      subst (λ (b : Block). Holds b.base d) y
      (stays (length X) h (length X + i) (omega arith) c d (subst (λ (b : Block). Holds b.base c) (sym y) held) (subst (λ (b : Block). Holds b.base d) (sym x) entered) e)
