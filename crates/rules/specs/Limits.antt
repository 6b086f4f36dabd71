-- Document 01, "A book and its run": 1 to 8 texts, 0 to 16 rules; 8 texts of 32 blocks each have 256 blocks.
use Rattle.std.specs.Prelude.{ℕ}

abbrev pub most_texts : ℕ
most_texts = 8

abbrev pub book_blocks : ℕ
book_blocks = 256

abbrev pub most_rules : ℕ
most_rules = 16
