-- For any one input, two permitted outcomes of a book's run are equal: each record, the refusal, and every lent cell.
-- Assumes nothing.
use mathlib.Core.Path.{◌≡◌, refl, sym, ap, ◌∙◌}
use mathlib.Core.List.{List}
use Prim.Native.Nat.{ℕ}
use Rattle.answers.proofs.Told.{told_one}
use Rattle.std.specs.Prelude.{Result, Ok, Err}
use Rattle.answers.specs.declared.Refusal.{Refusal}
use Rattle.answers.specs.declared.Ran.{Ran}
use Rattle.answers.specs.declared.TextRan.{TextRan}
use Rattle.books.proofs.Refused.{book_one, book_not}
use Rattle.groups.specs.Ends.{filled}
use Rattle.groups.proofs.Ends.{book_ran_one}
use Rattle.book_calls.specs.Promise.{PromiseFor, RunPromise}

same_for : (counts blocks rules work b b' w w' : List ℕ) (s t : List TextRan) (x y : Result Unit Refusal)
    → PromiseFor counts blocks rules work b w s x → PromiseFor counts blocks rules work b' w' t y → (x ≡ y) × (s ≡ t) × (b ≡ b') × (w ≡ w')
same_for counts blocks rules work b b' w w' s t (Ok _) (Ok _) p q =
    let one = book_ran_one p.0.counted.whole_blocks p.1.ran q.1.ran in
    (refl, p.1.row_is ∙ ap filled one.0 ∙ sym q.1.row_is, one.1, p.2 ∙ sym q.2)
same_for counts blocks rules work b b' w w' s t (Ok _) (Err u) p q = absurd (book_not q.0 p.0)
same_for counts blocks rules work b b' w w' s t (Err r) (Ok _) p q = absurd (book_not p.0 q.0)
same_for counts blocks rules work b b' w w' s t (Err r) (Err u) p q =
    (ap Err (told_one r u (book_one p.0 q.0)), p.3 ∙ sym q.3, p.1 ∙ sym q.1, p.2 ∙ sym q.2)

pub run_determined : (counts blocks rules work b b' w w' : List ℕ) (x y : Ran)
    → RunPromise counts blocks rules work b w x → RunPromise counts blocks rules work b' w' y → (x ≡ y) × (b ≡ b') × (w ≡ w')
run_determined counts blocks rules work b b' w w' x y p q =
    let same = same_for counts blocks rules work b b' w w' x.texts y.texts x.checked y.checked p q in
    (λ i. record { checked = same.0 i; texts = same.1 i }, same.2, same.3)
