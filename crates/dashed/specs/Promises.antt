-- What each call of documents 01 and 02 promises. Each promise is a relation between what is lent, what is answered and
-- what is lent back.
use Rattle.std.specs.Prelude.{◌≡◌, List, ℕ, ℤ, Option, Result}
use Rattle.answers.specs.declared.AnswerRecord.{AnswerRecord}
use Rattle.answers.specs.declared.Fit.{Fit}
use Rattle.answers.specs.declared.Narrowed.{Narrowed}
use Rattle.answers.specs.declared.Ran.{Ran}
use Rattle.answers.specs.declared.Refusal.{Refusal}
use Rattle.answers.specs.declared.Sought.{Sought}
use Rattle.answers.specs.declared.Swept.{Swept}
use Rattle.book_calls.specs.Promise.{RunPromise}
use Rattle.common_calls.specs.Common.{ShowPromise}
use Rattle.extreme_steps.specs.declared.Direction.TheVariants.{Least, Greatest}
use Rattle.extremes.specs.Extreme.{ExtremePromise}
use Rattle.file_runs.specs.Promise.{FilePromise}
use Rattle.find_calls.specs.Find.{FindPromise}
use Rattle.fitting.specs.Fit.{FitPromise}
use Rattle.host_calls.specs.Host.{HostPromise}
use Rattle.sweep_calls.specs.Sweep.{SweepPromise}
use Rattle.joins.specs.Join.{JoinPromise}
use Rattle.pairs.specs.Narrow.{NarrowPromise}
use Rattle.shapes.specs.Lent.{ShapeChecked}
use Rattle.texts.specs.Order.{AtMost, Before}
use Rattle.texts.specs.Padding.{Padded}
use Rattle.texts.specs.Case.{AnyCase}
use Rattle.trays.specs.Tray.{TrayPromise}

-- check a shape: sound, or the one refusal that is due
abbrev pub CheckShape : List ℕ → Result Unit Refusal → Type 0
CheckShape xs r = ShapeChecked 1 xs r

-- whether a text fits a shape: yes exactly if some filling has that text
abbrev pub FitsShape : List ℕ → List ℕ → Result Fit Refusal → Type 0
FitsShape xs t r = FitPromise xs t r

-- the earlier of two texts a and b, lent as x and y: the first if it is at most the second, the second if it is before
-- the first
pub record Earlier {Lent : Type 0} (a b : List ℕ) (x y r : Lent) : Type 0 where
  pub first : AtMost a b → r ≡ x
  pub second : Before b a → r ≡ y

-- least and greatest text: the output's bytes before and after the call
abbrev pub LeastText : List ℕ → List ℕ → List ℕ → Result ℕ Refusal → Type 0
LeastText xs out out' r = ExtremePromise Least xs out out' r

abbrev pub GreatestText : List ℕ → List ℕ → List ℕ → Result ℕ Refusal → Type 0
GreatestText xs out out' r = ExtremePromise Greatest xs out out' r

-- the quick sweep of xs in ys: the answer, the looks and the output are those of document 01's steps
abbrev pub Sweep : List ℕ → List ℕ → List ℕ → List ℕ → Result Swept Refusal → Type 0
Sweep xs ys out out' r = SweepPromise xs ys out out' r

-- a tray of pairs (document 02, order 8): lent a run of blocks, a list of pairs and a row of answer records; with ' the
-- row as handed back. The call is `trays`' own
abbrev pub SweepTray : List ℕ → List ℕ → List AnswerRecord → List AnswerRecord → Result Unit Refusal → Type 0
SweepTray blocks pairs row row' r = TrayPromise blocks pairs row row' r

-- narrowing under equality once trailing blanks are dropped (document 02, order 5): lent xs and ys, work, and two
-- outputs ox and oy; with ' they are as handed back
abbrev pub NarrowPadded : List ℕ → List ℕ → List ℕ → List ℕ → List ℕ → List ℕ → List ℕ → List ℕ → Result Narrowed Refusal → Type 0
NarrowPadded xs ys work ox oy work' ox' oy' r = NarrowPromise Padded xs ys work ox oy work' ox' oy' r

-- the same under equality to the letter
abbrev pub NarrowExact : List ℕ → List ℕ → List ℕ → List ℕ → List ℕ → List ℕ → List ℕ → List ℕ → Result Narrowed Refusal → Type 0
NarrowExact xs ys work ox oy work' ox' oy' r = NarrowPromise (λ t u. t ≡ u) xs ys work ox oy work' ox' oy' r

-- the same under equality but for letter case (document 02, order 9)
abbrev pub NarrowAnyCase : List ℕ → List ℕ → List ℕ → List ℕ → List ℕ → List ℕ → List ℕ → List ℕ → Result Narrowed Refusal → Type 0
NarrowAnyCase xs ys work ox oy work' ox' oy' r = NarrowPromise AnyCase xs ys work ox oy work' ox' oy' r

-- the same under "at most" and "before"
abbrev pub NarrowAtMost : List ℕ → List ℕ → List ℕ → List ℕ → List ℕ → List ℕ → List ℕ → List ℕ → Result Narrowed Refusal → Type 0
NarrowAtMost xs ys work ox oy work' ox' oy' r = NarrowPromise AtMost xs ys work ox oy work' ox' oy' r

abbrev pub NarrowBefore : List ℕ → List ℕ → List ℕ → List ℕ → List ℕ → List ℕ → List ℕ → List ℕ → Result Narrowed Refusal → Type 0
NarrowBefore xs ys work ox oy work' ox' oy' r = NarrowPromise Before xs ys work ox oy work' ox' oy' r

-- narrowing a join (document 02, order 3): the text of xs is that of ys followed by that of zs; lent work, and three
-- outputs
abbrev pub NarrowJoin : List ℕ → List ℕ → List ℕ → List ℕ → List ℕ → List ℕ → List ℕ → List ℕ → List ℕ → List ℕ → List ℕ → Result Narrowed Refusal → Type 0
NarrowJoin xs ys zs work ox oy oz work' ox' oy' oz' r = JoinPromise xs ys zs work ox oy oz work' ox' oy' oz' r

-- the earliest common text of xs and ys (document 02, order 2): lent work and one output; with ' they are as handed
-- back
abbrev pub CommonText : List ℕ → List ℕ → List ℕ → List ℕ → List ℕ → List ℕ → Result (Option ℕ) Refusal → Type 0
CommonText xs ys work out work' out' r = ShowPromise xs ys work out work' out' r

-- where a mark first starts in the texts of xs (document 02, order 7): the least and the greatest character index, and
-- whether some text lacks it
abbrev pub FindMark : List ℕ → List ℕ → Result Sought Refusal → Type 0
FindMark xs mark r = FindPromise xs mark r

-- running a book, group by group (document 02, order 11): lent the texts' block counts, all blocks, the rules and
-- work; with ' blocks and work as handed back
abbrev pub RunBook : List ℕ → List ℕ → List ℕ → List ℕ → List ℕ → List ℕ → Ran → Type 0
RunBook counts blocks rules work blocks' work' r = RunPromise counts blocks rules work blocks' work' r

-- running a book file: the report of its book's run at the start of the output, or a refusal, which leaves the output
-- as on entry
abbrev pub RunFile : List ℕ → List ℕ → List ℕ → Result ℕ Refusal → Type 0
RunFile file report report' r = FilePromise file report report' r

-- the call of a C host (document 02, order 4): lent the book's bytes, the report buffer and work; with ' report and
-- work as handed back; one signed number
abbrev pub RunHost : List ℕ → List ℕ → List ℕ → List ℕ → List ℕ → ℤ → Type 0
RunHost book report work report' work' z = HostPromise book report work report' work' z
