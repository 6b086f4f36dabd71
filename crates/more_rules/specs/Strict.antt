-- Document 02, order 12: "book B has the texts of book A, each block equal or narrower (base within base, counts within
-- counts), and all A's rules and perhaps others".
use Rattle.std.specs.Prelude.{◌≡◌, List, ◌++◌, ℕ}
use Rattle.shapes.specs.Lent.{shape_of}
use Rattle.hulls.specs.Book.{Within}
use Rattle.books.specs.Counts.{shape_in}
use Rattle.books.specs.Rules.{Names, AllIn}

-- The counts of the same texts, under their numbers, and perhaps of others behind them.
pub record Extends (counts counts' : List ℕ) : Type 0 where
  pub others : List ℕ
  pub behind : counts' ≡ counts ++ others

-- The second book, B, is at least as strict as the first, A: it has A's texts, each block with no more room, and each
-- of A's rules, at whatever place and however often.
pub record AsStrict (counts blocks rules counts' blocks' rules' : List ℕ) : Type 0 where
  pub texts : Extends counts counts'
  pub narrower : (k : ℕ) → Names counts k → Within (shape_in counts' (shape_of blocks') k) (shape_in counts (shape_of blocks) k)
  pub all_rules : AllIn rules rules'
