-- Document 02, order 7, a field for each sentence: where a mark first starts.
use Rattle.std.specs.Prelude.{◌≡◌, true, false, List, [], ◌++◌, ◌⊎◌, ◌↔◌, ℕ, ◌+◌, ◌≤◌, ◌<◌, length, get_or, Result, Ok, Err}
use Rattle.answers.specs.Told.{Told, tell, told}
use Rattle.answers.specs.declared.Refusal.{Refusal}
use Rattle.answers.specs.declared.Sought.{Sought}
use Rattle.bases.specs.Base.{Holds}
use Rattle.plain.specs.All.{All}
use Rattle.shapes.specs.Shape.{Block, Fits}
use Rattle.shapes.specs.Lent.{shape_of, Accepted, ShapeRefused}
use Rattle.find_texts.specs.Occurs.{OccursAt, Lacks, FirstAt, SomeLacks, SomeFirst}
use Rattle.find_calls.specs.Find.{Asked, lacking, least_index, greatest_index}
use Rattle.dashed.specs.Promises.{FindMark}
use Rattle.demands.specs.Call.{CallTells, ShapeAndMark, find_mark}

-- "Given a fixed mark of 0 to 64 bytes and a shape": xs are the shape's numbers, and r is the answer.
pub record WhereAsked (xs mark : List ℕ) (r : Result Sought Refusal) : Type 0 where
  -- "report whether some fitting text lacks it"
  pub lacks : (lacking r ≡ true) ↔ SomeLacks mark (shape_of xs)
  -- "and the least and greatest character index at which its first occurrence starts over the fitting texts that have
  -- it": both are there in some fitting text, and none lies outside them ("ours are exact")
  pub least_there : 0 < least_index r → SomeFirst mark (shape_of xs) (least_index r)
  pub greatest_there : 0 < least_index r → SomeFirst mark (shape_of xs) (greatest_index r)
  pub between : (t : List ℕ) → Fits (shape_of xs) t → (i : ℕ) → FirstAt mark t i → (least_index r ≤ i) × (i ≤ greatest_index r)
  -- "or that none has it": exactly then both are 0
  pub none_has : (least_index r ≡ 0) ↔ ((t : List ℕ) → Fits (shape_of xs) t → Lacks mark t)
  pub none_both : least_index r ≡ 0 → greatest_index r ≡ 0
  -- a byte of the mark that no base holds never occurs, and is no refusal
  pub never : (j : ℕ) → j < length mark → All (λ (b : Block). Holds b.base (get_or mark j 0) → ⊥) (shape_of xs) → r ≡ (Ok Sought.Nowhere)

pub record Request7 : Type 0 where
  pub found : (xs mark : List ℕ) (r : Result Sought Refusal) → Asked xs mark → FindMark xs mark r → WhereAsked xs mark r
  -- a text lacks the mark or has it, and then one first occurrence
  pub lacks_or_has : (mark t : List ℕ) → Lacks mark t ⊎ ((i : ℕ) × FirstAt mark t i)
  pub lacks_not_has : {mark t : List ℕ} {i : ℕ} → Lacks mark t → OccursAt mark t i → ⊥
  pub one_first : {mark t : List ℕ} {i j : ℕ} → FirstAt mark t i → FirstAt mark t j → i ≡ j
  -- "Indices count from 1": what starts a text is at 1, what stands behind n characters at n + 1, and nothing at 0
  pub from_one : (mark t : List ℕ) → OccursAt mark (mark ++ t) 1
  pub behind : (mark s t : List ℕ) → OccursAt mark (s ++ (mark ++ t)) (length s + 1)
  pub none_at_0 : {mark t : List ℕ} → OccursAt mark t 0 → ⊥
  -- "The empty mark occurs at 1 in every text.": none lacks it, and both indices are 1
  pub empty_mark : (t : List ℕ) → FirstAt [] t 1
  pub empty_answer : {xs : List ℕ} (r : Result Sought Refusal) → Accepted xs → FindMark xs [] r → (lacking r ≡ false) × (least_index r ≡ 1) × (greatest_index r ≡ 1)
  -- "Refusals: the shape's first": with text 1, whatever the mark
  pub shape_first : (g : ShapeAndMark) (t : Told) → ShapeRefused 1 g.shape t → CallTells find_mark g tt t
  -- "then 13 if the mark is over 64 bytes, place 0": of no text, and only then
  pub thirteen : (g : ShapeAndMark) → Accepted g.shape → 64 < length g.mark → CallTells find_mark g tt (tell 13 0 0)
  pub thirteen_only : (xs mark : List ℕ) (q : Refusal) → FindMark xs mark (Err q) → (told q).number ≡ 13 → Accepted xs × (64 < length mark)
