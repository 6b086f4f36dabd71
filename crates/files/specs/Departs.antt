-- Document 01, numbers 8 and 9: when a file is refused, and where it departs from the grammar.
use Rattle.std.specs.Prelude.{◌≡◌, List, [], ◌∷◌, ◌++◌, ℕ, ◌+◌, ◌≤◌, length}
use Rattle.answers.specs.Told.{Told, tell}
use Rattle.answers.specs.Turns.{Turn, FirstDue, need}
use Rattle.file_lines.specs.Grammar.{Part, Section, InGrammar, lines_of, joined, writing}
use Rattle.file_lines.specs.Book.{Book, book_parts, book_grammar, file_limit}

-- Some file in the grammar has these as its first lines.
pub record Begins (G : List Section) (ls : List (List ℕ)) : Type 0 where
  pub parts : List Part
  pub right : InGrammar G parts
  pub more : List (List ℕ)
  pub lines : lines_of parts ≡ ls ++ more

-- Line k, from 1, is the first that departs: the k - 1 lines before it begin some file in the grammar, but with line k
-- they do not. A line ends with a newline, so an unfinished last line is none. A missing line counts as the next line's
-- number, and anything after the last is a further line.
pub record Departs (G : List Section) (file : List ℕ) (k : ℕ) : Type 0 where
  pub before : List (List ℕ)
  pub rest : List ℕ
  pub place : k ≡ length before + 1
  pub split : file ≡ joined before ++ rest
  pub begins : Begins G before
  pub stops : (line after : List ℕ) → rest ≡ line ++ 10 ∷ after → Begins G (before ++ line ∷ []) → ⊥
  pub unfinished : rest ≡ [] → (parts : List Part) → InGrammar G parts → lines_of parts ≡ before → ⊥

-- "A file: 9, 8": one over the limit is refused with 9, one that departs with 8 at the line.
abbrev pub in_grammar : List Section → List ℕ → Turn
in_grammar G file = record {
  good = (parts : List Part) × InGrammar G parts × (file ≡ writing parts);
  due = λ t. (k : ℕ) × Departs G file k × (t ≡ tell 8 0 k);
}

abbrev pub file_turns : List Section → List ℕ → List Turn
file_turns G file = need (length file ≤ file_limit) (tell 9 0 0) ∷ in_grammar G file ∷ []

abbrev pub RefusedIn : List Section → List ℕ → Told → Type 0
RefusedIn G file = FirstDue (file_turns G file)

-- Otherwise it is the writing of parts in the grammar.
pub record AcceptedIn (G : List Section) (file : List ℕ) (parts : List Part) : Type 0 where
  pub small : length file ≤ file_limit
  pub right : InGrammar G parts
  pub is : file ≡ writing parts

-- A book's file: refused, or the writing of the book b.
abbrev pub FileRefused : List ℕ → Told → Type 0
FileRefused = RefusedIn book_grammar

pub record FileAccepted (file : List ℕ) (b : Book) : Type 0 where
  pub accepts : AcceptedIn book_grammar file (book_parts b)
