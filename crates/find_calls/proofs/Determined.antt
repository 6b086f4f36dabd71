-- One input has one refusal, and none where it is accepted; and one answer. Assumes nothing.
use mathlib.Core.Path.{◌≡◌, refl, ap, ap₂}
use mathlib.Core.List.{List}
use Prim.Native.Nat.{ℕ}
use native.Mathlib.Omega.{arith}
use Rattle.answers.specs.Told.{Told}
use Rattle.answers.specs.Turns.{in_turn}
use Rattle.answers.proofs.Told.{told_one}
use Rattle.answers.proofs.Turns.{OneOf, need_one, in_turn_one}
use Rattle.answers.specs.declared.Index.{Index}
use Rattle.std.specs.Prelude.{Result, Ok, Err}
use Rattle.answers.specs.declared.Refusal.{Refusal}
use Rattle.answers.specs.declared.Sought.{Sought}
use Rattle.answers.specs.declared.Sought.TheVariants.{Nowhere, InSome, InAll}
use Rattle.shapes.specs.Shape.{Block, Fits}
use Rattle.shapes.proofs.Refused.{of_shape_lem}
use Rattle.find_texts.specs.Occurs.{Lacks, SomeFirst, Indices}
use Rattle.find_calls.specs.Find.{Asked, find_turns, FindRefused, FindPromise}

of_find : (xs mark : List ℕ) → OneOf (in_turn (Asked xs mark) (find_turns xs mark))
of_find xs mark = in_turn_one (find_turns xs mark) (of_shape_lem, (need_one, tt)) (λ a. (a.accepted, (a.few, tt)))

pub find_refused_one : (xs mark : List ℕ) {t u : Told} → FindRefused xs mark t → FindRefused xs mark u → t ≡ u
find_refused_one xs mark p q = (of_find xs mark).one p q

pub find_refused_not : (xs mark : List ℕ) {t : Told} → FindRefused xs mark t → Asked xs mark → ⊥
find_refused_not xs mark p a = (of_find xs mark).not p a

-- a text that has the mark does not lack it
pub has_not_lacks : {mark : List ℕ} {s : List Block} {i : ℕ} → SomeFirst mark s i → ((t : List ℕ) → Fits s t → Lacks mark t) → ⊥
has_not_lacks {i = i} x n = (n x.text x.fits).nowhere i x.first.there

least_one : {mark : List ℕ} {s : List Block} {i j k l : ℕ} → Indices mark s i j → Indices mark s k l → i ≡ k
least_one p q = let a = p.from _ q.at_least in let b = q.from _ p.at_least in omega arith

greatest_one : {mark : List ℕ} {s : List Block} {i j k l : ℕ} → Indices mark s i j → Indices mark s k l → j ≡ l
greatest_one p q = let a = p.to _ q.at_greatest in let b = q.to _ p.at_greatest in omega arith

same_index : {i j : Index} → i.at ≡ j.at → i ≡ j
same_index e = λ k. record { at = e k }

pub find_determined : (xs mark : List ℕ) (a b : Result Sought Refusal) → FindPromise xs mark a → FindPromise xs mark b → a ≡ b
find_determined xs mark (Ok Nowhere) (Ok Nowhere) p q = refl
find_determined xs mark (Ok Nowhere) (Ok (InSome k l)) p q = absurd (has_not_lacks q.1.1.at_least p.1)
find_determined xs mark (Ok Nowhere) (Ok (InAll k l)) p q = absurd (has_not_lacks q.1.1.at_least p.1)
find_determined xs mark (Ok Nowhere) (Err r) p q = absurd (find_refused_not xs mark q p.0)
find_determined xs mark (Ok (InSome i j)) (Ok Nowhere) p q = absurd (has_not_lacks p.1.1.at_least q.1)
find_determined xs mark (Ok (InSome i j)) (Ok (InSome k l)) p q = ap₂ (λ (x y : Index). Ok (InSome x y)) (same_index (least_one p.1.1 q.1.1)) (same_index (greatest_one p.1.1 q.1.1))
find_determined xs mark (Ok (InSome i j)) (Ok (InAll k l)) p q = absurd (q.1.0 p.1.0)
find_determined xs mark (Ok (InSome i j)) (Err r) p q = absurd (find_refused_not xs mark q p.0)
find_determined xs mark (Ok (InAll i j)) (Ok Nowhere) p q = absurd (has_not_lacks p.1.1.at_least q.1)
find_determined xs mark (Ok (InAll i j)) (Ok (InSome k l)) p q = absurd (p.1.0 q.1.0)
find_determined xs mark (Ok (InAll i j)) (Ok (InAll k l)) p q = ap₂ (λ (x y : Index). Ok (InAll x y)) (same_index (least_one p.1.1 q.1.1)) (same_index (greatest_one p.1.1 q.1.1))
find_determined xs mark (Ok (InAll i j)) (Err r) p q = absurd (find_refused_not xs mark q p.0)
find_determined xs mark (Err r) (Ok Nowhere) p q = absurd (find_refused_not xs mark p q.0)
find_determined xs mark (Err r) (Ok (InSome k l)) p q = absurd (find_refused_not xs mark p q.0)
find_determined xs mark (Err r) (Ok (InAll k l)) p q = absurd (find_refused_not xs mark p q.0)
find_determined xs mark (Err r) (Err s) p q = ap Err (told_one r s (find_refused_one xs mark p q))
