-- What a caller has of a book that was read: how many numbers of each output are the book's, and which. Assumes
-- nothing.
use mathlib.Core.Path.{◌≡◌, sym, ap, ◌∙◌, subst, subst₂}
use mathlib.Core.List.{List}
use Prim.Native.Nat.{ℕ, ◌*◌, ◌≤◌}
use native.Mathlib.Omega.{arith}
use lib.ListN.{length, take, drop, length-append}
use lib.Seq.{take_at}
use Rattle.rules.specs.Rule.{rule_size, numbers_of_all}
use Rattle.rules.proofs.Rules.{numbers_length}
use Rattle.plain.specs.All.{All}
use Rattle.shapes.specs.Shape.{Block, block_size}
use Rattle.shapes.specs.Lent.{shape_of, words_of}
use Rattle.shapes.proofs.Numbers.{words_length, shape_words}
use Rattle.file_lines.specs.declared.Width.{Width}
use Rattle.file_lines.specs.Grammar.{RightBlock, InGrammar}
use Rattle.file_lines.specs.Grammar.InGrammar.{none, more}
use Rattle.file_lines.specs.Book.{Book, book_parts, sheet_parts, book_grammar}
use Rattle.files.specs.Departs.{FileAccepted}
use Rattle.file_sections.specs.Parts.{AtFront}
use Rattle.rules.specs.Limits.{most_texts, book_blocks, most_rules}
use Rattle.file_books.specs.declared.Sizes.{Sizes}
use Rattle.file_books.specs.Promise.{sizes_of, BookRead}

-- a book in the grammar is small
pub record Few (z : Sizes) : Type 0 where
  pub texts : z.texts ≤ most_texts
  pub blocks : z.blocks ≤ book_blocks
  pub rules : z.rules ≤ most_rules

-- the lines of its blocks say them whole
pub said_parts : (b : Book) → InGrammar book_grammar (book_parts b) → All (RightBlock b.sheet.width) b.sheet.blocks
unfolding book_parts sheet_parts
said_parts b (more t (more s (more r none))) = s.right

few_parts : (b : Book) → InGrammar book_grammar (book_parts b) → Few (sizes_of b)
unfolding book_parts sheet_parts
few_parts b (more t (more s (more r none))) = record { texts = t.few; blocks = s.few; rules = r.few }

-- numbers at the front of an output are its first numbers
front_taken : (xs out out' : List ℕ) (n : ℕ) → AtFront xs out out' → length xs ≡ n → take n out' ≡ xs
front_taken xs out out' n f e = ap (take n) f ∙ take_at xs (drop (length xs) out) n e

front_room : (xs out out' : List ℕ) (n : ℕ) → AtFront xs out out' → length xs ≡ n → n ≤ length out'
front_room xs out out' n f e = let l = ap length f ∙ length-append xs (drop (length xs) out) in omega arith

pub record Ready (file cs bs rs : List ℕ) (z : Sizes) : Type 0 where
  pub book : Book
  pub accepted : FileAccepted file book
  pub few : Few z
  pub wide : z.width ≡ book.sheet.width
  pub counts_room : z.texts ≤ length cs
  pub blocks_room : z.blocks * block_size ≤ length bs
  pub rules_room : z.rules * rule_size ≤ length rs
  pub counts_are : take z.texts cs ≡ book.sheet.counts
  pub blocks_are : take (z.blocks * block_size) bs ≡ words_of book.sheet.blocks
  pub rules_are : take (z.rules * rule_size) rs ≡ numbers_of_all book.rules
  pub said : All (RightBlock z.width) (shape_of (take (z.blocks * block_size) bs))

pub ready : {file cs bs rs cs' bs' rs' : List ℕ} {z : Sizes} → BookRead file cs bs rs cs' bs' rs' z → Ready file cs' bs' rs' z
ready {cs = cs} {bs = bs} {rs = rs} {cs' = cs'} {bs' = bs'} {rs' = rs'} {z = z} r = record {
  book = b;
  accepted = r.accepted;
  few = subst Few (sym r.sizes) (few_parts b r.accepted.accepts.right);
  wide = ap (λ (x : Sizes). x.width) r.sizes;
  counts_room = front_room counts cs cs' z.texts r.counts counts_many;
  blocks_room = front_room blocks bs bs' (z.blocks * block_size) r.blocks blocks_many;
  rules_room = front_room rules rs rs' (z.rules * rule_size) r.rules rules_many;
  counts_are = front_taken counts cs cs' z.texts r.counts counts_many;
  blocks_are = front_taken blocks bs bs' (z.blocks * block_size) r.blocks blocks_many;
  rules_are = front_taken rules rs rs' (z.rules * rule_size) r.rules rules_many;
  said = subst₂ (λ (w : Width) (S : List Block). All (RightBlock w) S) (sym (ap (λ (x : Sizes). x.width) r.sizes))
      (sym (ap shape_of (front_taken blocks bs bs' (z.blocks * block_size) r.blocks blocks_many) ∙ shape_words b.sheet.blocks))
      (said_parts b r.accepted.accepts.right);
}
  where
    b : Book
    b = r.book

    counts : List ℕ
    counts = b.sheet.counts

    blocks : List ℕ
    blocks = words_of b.sheet.blocks

    rules : List ℕ
    rules = numbers_of_all b.rules

    counts_many : length counts ≡ z.texts
    counts_many = ap (λ (x : Sizes). x.texts) (sym r.sizes)

    blocks_many : length blocks ≡ z.blocks * block_size
    blocks_many = words_length b.sheet.blocks ∙ ap (λ (x : Sizes). x.blocks * block_size) (sym r.sizes)

    rules_many : length rules ≡ z.rules * rule_size
    rules_many = numbers_length b.rules ∙ ap (λ (x : Sizes). x.rules * rule_size) (sym r.sizes)
