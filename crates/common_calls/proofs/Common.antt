-- The earliest common text is one, and the call's promise determines the answer, the output and the work. Assumes
-- nothing.
use mathlib.Core.Path.{◌≡◌, refl, sym, ap, ◌∙◌}
use mathlib.Core.List.{List, ◌++◌}
use Prim.Native.Nat.{ℕ}
use lib.ListN.{length, drop}
use Rattle.std.specs.Prelude.{Option, Some, None, Result, Ok, Err}
use Rattle.answers.specs.Told.{Told}
use Rattle.answers.specs.declared.Refusal.{Refusal}
use Rattle.answers.proofs.Told.{told_one}
use Rattle.answers.proofs.Turns.{OneOf, need_one, in_turn_one}
use Rattle.shapes.specs.Shape.{Block}
use Rattle.texts.proofs.Order.{at_most_antisym}
use Rattle.pairs.specs.Pair.{PairAccepted}
use Rattle.pairs.proofs.Pair.{of_pair_lem}
use Rattle.common_texts.specs.Earliest.{Earliest, NoCommon, TextShown}
use Rattle.common_calls.specs.Common.{ShowRoom, show_turns, ShowRefused, of_showing, ShowAccepts, ShowPromise}

-- ---- the refusals

module _ {xs ys : List ℕ} {w a : ℕ} where
  of_showing_lem : OneOf (of_showing xs ys w a)
  of_showing_lem = in_turn_one (show_turns xs ys w a) (of_pair_lem, (need_one, (need_one, tt))) (λ (ok, r). (ok, (r.work, (r.output, tt))))

  pub show_refused_one : {t u : Told} → ShowRefused xs ys w a t → ShowRefused xs ys w a u → t ≡ u
  show_refused_one p q = of_showing_lem.one p q

  pub show_refused_not : {t : Told} → ShowRefused xs ys w a t → PairAccepted xs ys → ShowRoom w a → ⊥
  show_refused_not p ok r = of_showing_lem.not p (ok, r)

-- ---- the text

pub earliest_one : {X Y : List Block} {t u : List ℕ} → Earliest X Y t → Earliest X Y u → t ≡ u
earliest_one p q = at_most_antisym (p.no_earlier _ q.fits_first q.fits_second) (q.no_earlier _ p.fits_first p.fits_second)

earliest_or_none : {X Y : List Block} {t : List ℕ} → Earliest X Y t → NoCommon X Y → ⊥
earliest_or_none p n = n.none _ p.fits_first p.fits_second

-- ---- the outcome

module _ (xs ys work out : List ℕ) where
  text_one : {out' out'' : List ℕ} {n m : ℕ} → TextShown xs ys out out' n → TextShown xs ys out out'' m → (n ≡ m) × (out' ≡ out'')
  text_one {n} {m} p q =
      let same : p.text ≡ q.text = earliest_one p.earliest q.earliest in
      let long : n ≡ m = p.length_is ∙ ap length same ∙ sym q.length_is in
      (long, p.bytes ∙ ap (λ (t : List ℕ). t ++ drop n out) same ∙ ap (λ (k : ℕ). q.text ++ drop k out) long ∙ sym q.bytes)

  same_work : {work' work'' : List ℕ} → ShowAccepts xs ys work out work' → ShowAccepts xs ys work out work'' → work' ≡ work''
  same_work p q = p.work_cleared ∙ sym q.work_cleared

  not_refused : {t : Told} {work' : List ℕ} → ShowRefused xs ys (length work) (length out) t → ShowAccepts xs ys work out work' → ⊥
  not_refused p q = show_refused_not p q.shapes q.room

  pub common_one : (work' out' work'' out'' : List ℕ) (r s : Result (Option ℕ) Refusal) → ShowPromise xs ys work out work' out' r → ShowPromise xs ys work out work'' out'' s
      → (r ≡ s) × (work' ≡ work'') × (out' ≡ out'')
  common_one work' out' work'' out'' (Ok (Some n)) (Ok (Some m)) p q = let t = text_one p.1 q.1 in (ap (λ (k : ℕ). Ok (Some k)) t.0, same_work p.0 q.0, t.1)
  common_one work' out' work'' out'' (Ok (Some n)) (Ok None) p q = absurd (earliest_or_none p.1.earliest q.1.nothing)
  common_one work' out' work'' out'' (Ok (Some n)) (Err s) p q = absurd (not_refused q.0 p.0)
  common_one work' out' work'' out'' (Ok None) (Ok (Some m)) p q = absurd (earliest_or_none q.1.earliest p.1.nothing)
  common_one work' out' work'' out'' (Ok None) (Ok None) p q = (refl, same_work p.0 q.0, p.1.kept ∙ sym q.1.kept)
  common_one work' out' work'' out'' (Ok None) (Err s) p q = absurd (not_refused q.0 p.0)
  common_one work' out' work'' out'' (Err r) (Ok (Some m)) p q = absurd (not_refused p.0 q.0)
  common_one work' out' work'' out'' (Err r) (Ok None) p q = absurd (not_refused p.0 q.0)
  common_one work' out' work'' out'' (Err r) (Err s) p q =
      (ap Err (told_one r s (show_refused_one p.0 q.0)), p.1 ∙ sym q.1, p.2 ∙ sym q.2)
