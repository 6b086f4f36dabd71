-- Document 02, order 8: what the call on a tray of pairs promises. Lent: a run of blocks, a list of pairs, a row of
-- answer records; row' is the row as handed back.
use Rattle.std.specs.Prelude.{◌≡◌, List, [], ◌∷◌, ℕ, ◌/◌, ◌%◌, ◌≤◌, ◌<◌, length, get_or, drop, Result, Ok, Err}
use Rattle.answers.specs.Told.{Told, tell, told}
use Rattle.answers.specs.Turns.{Turn, FirstDue, need}
use Rattle.answers.specs.declared.AnswerRecord.{AnswerRecord}
use Rattle.answers.specs.declared.Refusal.{Refusal}
use Rattle.tray_pairs.specs.Judged.{Judged}
use Rattle.tray_pairs.specs.Ranges.{pair_size, pair_count, pair_at}

-- A list of so many numbers is whole pairs, and not over 64.
pub record RightList (listed : ℕ) : Type 0 where
  pub whole : listed % pair_size ≡ 0
  pub few : listed / pair_size ≤ 64

-- "15 for over 64 pairs or a list that is not whole pairs, then 5 for a row shorter than the pairs, both for the whole
-- call, place 0"
abbrev pub tray_turns : ℕ → ℕ → List Turn
tray_turns listed room = need (RightList listed) (tell 15 0 0) ∷ need (listed / pair_size ≤ room) (tell 5 0 0) ∷ []

abbrev pub TrayRefused : ℕ → ℕ → Told → Type 0
TrayRefused listed room = FirstDue (tray_turns listed room)

pub record TrayAccepted (listed room : ℕ) : Type 0 where
  pub list : RightList listed
  pub row : listed / pair_size ≤ room

-- "The call fills a lent row of answer records, one to each pair", whatever the other pairs are. "Records past the last
-- pair stay." (n pairs; d is any record, looked at only past the end.)
pub record Filled (blocks pairs : List ℕ) (n : ℕ) (row row' : List AnswerRecord) : Type 0 where
  pub same_length : length row' ≡ length row
  pub judged : (i : ℕ) → i < n → (d : AnswerRecord) → Judged blocks (pair_at pairs i) (get_or row' i d)
  pub others : drop n row' ≡ drop n row

abbrev pub TrayPromise : List ℕ → List ℕ → List AnswerRecord → List AnswerRecord → Result Unit Refusal → Type 0
TrayPromise blocks pairs row row' (Ok _) = TrayAccepted (length pairs) (length row) × Filled blocks pairs (pair_count pairs) row row'
TrayPromise blocks pairs row row' (Err q) = TrayRefused (length pairs) (length row) (told q) × (row' ≡ row)
