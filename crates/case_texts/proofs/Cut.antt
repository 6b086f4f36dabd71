-- The hull of a rule over some blocks, from that of another rule over others: where each run that the one gives is one
-- that the other gives, and each run that the other gives has one of the same length that the one gives, with all of
-- its characters that the block has. Assumes nothing.
use mathlib.Core.Path.{◌≡◌, sym, ◌∙◌, subst}
use mathlib.Core.List.{List}
use Prim.Native.Nat.{ℕ, ◌<◌}
use native.Mathlib.Omega.{arith}
use lib.Bits.{bit_and}
use lib.ListN.{length, get_or}
use Rattle.bases.specs.Base.{Holds}
use Rattle.bases.proofs.Sets.{both, shared}
use Rattle.plain.specs.All.{All, none, more}
use Rattle.shapes.specs.Shape.{Block, Run, no_block}
use Rattle.hulls.specs.Hull.{None, Some, Satisfies, Taken, Occurs, Tight, Hull}
use Rattle.hulls.proofs.Fill.{filling_at}
use Rattle.case_blocks.specs.Case.{cut_block, Cuts}
use Rattle.case_blocks.proofs.Blocks.{cuts_size, cuts_at}

-- the rule gives block i a run like r
pub record TakenAs (P : List (List ℕ) → Type 0) (S : List Block) (i : ℕ) (r : List ℕ) : Type 0 where
  pub run : List ℕ
  pub taken : Taken P S i run
  pub long : length run ≡ length r
  pub keeps : (c : ℕ) → Occurs c r → Holds (get_or S i no_block).base c → Occurs c run

all_both : (a b : ℕ) {r : List ℕ} → All (Holds a) r → All (Holds b) r → All (Holds (bit_and a b)) r
all_both a b none none = none
all_both a b (more p x) (more q y) = more (both a b _ p q) (all_both a b x y)

cut_run : {b j : Block} {r : List ℕ} → Run b r → Run j r → Run (cut_block b j) r
cut_run {b} {j} p q = record { held = all_both b.base j.base p.held q.held; enough = q.enough; bounded = q.bounded }

module _ {P Q : List (List ℕ) → Type 0} {S W : List Block} where
  pub cut_none : ((f : List (List ℕ)) → Satisfies P S f → Some Q W) → None Q W → None P S
  cut_none to n = record { never = λ f s. let t = to f s in n.never t.runs t.satisfies }

  pub cut_hull : {J H : List Block} → length W ≡ length S → Cuts S J H
      → ((i : ℕ) → i < length S → (r : List ℕ) → Taken P S i r → Taken Q W i r)
      → ((i : ℕ) → i < length S → (r : List ℕ) → Taken Q W i r → TakenAs P S i r)
      → (Some Q W → Some P S) → Hull Q W J → Hull P S H
  cut_hull {J} {H} wide cuts to from some h = record { size = cuts_size cuts; some = some h.some; tight = tight }
    where
      tight : (i : ℕ) → i < length S → Tight (Taken P S i) (get_or H i no_block)
      tight i l =
          let t = h.tight i (let e = wide in omega arith) in
          subst (Tight (Taken P S i)) (sym (cuts_at cuts i l)) (record {
            covers = λ r p. cut_run (subst (Run (get_or S i no_block)) p.run (filling_at p.satisfies.filling i l)) (t.covers r (to i l r p));
            held = λ c b.
                let p = shared (get_or S i no_block).base (get_or J i no_block).base c b in
                let x = t.held c p.1 in
                let y = from i l x.0 x.1 in
                (y.run, y.taken, y.keeps c x.2 p.0);
            shortest = let x = t.shortest in let y = from i l x.0 x.1 in (y.run, y.taken, y.long ∙ x.2);
            longest = let x = t.longest in let y = from i l x.0 x.1 in (y.run, y.taken, y.long ∙ x.2);
          })
