-- Document 02, order 11: how the run of a book ends, group by group. "Texts of a group that is none stay as entered."
use Rattle.std.specs.Prelude.{◌≡◌, List, [], ◌∷◌, ◌++◌, ℕ, suc, ◌-◌, length, get_or, replicate}
use Rattle.answers.specs.declared.Ended.{Ended}
use Rattle.answers.specs.declared.Ended.TheVariants.{Stable as is-stable, None as is_none}
use Rattle.answers.specs.declared.TextRan.{TextRan}
use Rattle.rules.specs.Limits.{most_texts}
use Rattle.shapes.specs.Shape.{Block}
use Rattle.shapes.specs.Lent.{words_of}
use Rattle.hulls.specs.Hull.{none, shapes}
use Rattle.books.specs.Counts.{shape_in}
use Rattle.books.specs.Rules.{Names}
use Rattle.books.specs.Code.{numbers_in}
use Rattle.groups.specs.Linked.{GroupOf}
use Rattle.groups.specs.Own.{GroupRun}

-- The record of no text.
abbrev pub no_text_ran : TextRan
no_text_ran = record { group = 0; ended = is-stable 0 }

-- What is answered of text k, of the records of all texts.
abbrev pub text_ran : List TextRan → ℕ → TextRan
text_ran es k = get_or es (k - 1) no_text_ran

-- The row of the records of all texts, of eight places: records of no text fill it up.
abbrev pub filled : List TextRan → List TextRan
filled es = es ++ replicate (most_texts - length es) no_text_ran

-- The group g ends in this way, and its text k has these numbers among ys: those of the group's final shapes, or, if
-- the group is none, those entered.
pub data TextLeft (counts blocks rules : List ℕ) (g : ℕ) (ys : List ℕ) (k : ℕ) : Ended → Type 0 where
  stable : {H : List Block} {m : ℕ} → GroupRun counts blocks rules g (shapes H) m → numbers_in counts ys k ≡ words_of (shape_in counts H k)
      → TextLeft counts blocks rules g ys k (is-stable m)
  as_entered : {m : ℕ} → GroupRun counts blocks rules g none m → numbers_in counts ys k ≡ numbers_in counts blocks k → TextLeft counts blocks rules g ys k (is_none m)

-- The record of text k: the name of its group, and how the group ends.
pub record TextEnds (counts blocks rules ys : List ℕ) (k : ℕ) (e : TextRan) : Type 0 where
  pub group : GroupOf rules k e.group
  pub left : TextLeft counts blocks rules e.group ys k e.ended

-- The run of a book: its blocks before and after it, and a record for each text.
pub record BookRan (counts blocks rules ys : List ℕ) (es : List TextRan) : Type 0 where
  pub each_text : length es ≡ length counts
  pub size : length ys ≡ length blocks
  pub ends : (k : ℕ) → Names counts k → TextEnds counts blocks rules ys k (text_ran es k)

-- What is answered of it: the records of the texts, and behind them those of no text.
pub record RowRan (counts blocks rules ys : List ℕ) (row : List TextRan) : Type 0 where
  pub texts : List TextRan
  pub ran : BookRan counts blocks rules ys texts
  pub row_is : row ≡ filled texts

-- Of the records of texts, the first of which is text k, those of the texts that name their group: one for each group,
-- by number.
pub data GroupsIn : ℕ → List TextRan → List TextRan → Type 0 where
  end : {k : ℕ} → GroupsIn k [] []
  names : {k : ℕ} {e : TextRan} {es gs : List TextRan} → e.group ≡ k → GroupsIn (suc k) es gs → GroupsIn k (e ∷ es) (e ∷ gs)
  follows : {k : ℕ} {e : TextRan} {es gs : List TextRan} → (e.group ≡ k → ⊥) → GroupsIn (suc k) es gs → GroupsIn k (e ∷ es) gs
