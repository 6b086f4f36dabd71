-- A book's texts at the front of a longer book: the run of its rules is the same there, and a stricter book's blocks
-- are within it. Assumes nothing.
use mathlib.Core.Path.{◌≡◌, refl, sym, ap, ap₂, ◌∙◌, subst}
use mathlib.Core.Bool.{false}
use mathlib.Core.List.{List, [], ◌∷◌, ◌++◌}
use Prim.Native.Nat.{ℕ, ◌+◌, ◌-◌, ◌≤◌}
use native.Mathlib.Omega.{arith}
use lib.ListN.{length, take, drop, length-append, length-drop, take-append-drop, get_or-append}
use lib.Seq.{take-append-le, drop-append-le, length-take-le}
use Rattle.plain.proofs.All.{all_append, all_drop}
use Rattle.rules.specs.Rule.{rule_count}
use Rattle.shapes.specs.Shape.{Block}
use Rattle.hulls.specs.Hull.{Outcome}
use Rattle.hulls.specs.Book.{Within}
use Rattle.hulls.proofs.Order.{within_refl, within_join}
use Rattle.books.specs.Counts.{sum_of, count_of, first_of, shape_in}
use Rattle.books.specs.Rules.{Names, rule_of}
use Rattle.books.proofs.Fourth.{third_named}
use Rattle.books.proofs.Sums.{text_within}
use Rattle.book_runs.specs.Rounds.{Rounds}
use Rattle.groups.specs.Alike.{Paired, Alike, RulesAlike, OutcomeAlike}
use Rattle.groups.proofs.Texts.{within_by_texts}
use Rattle.groups.proofs.Lockstep.{Whole, RightAll, lockstep}
use Rattle.more_rules.specs.Strict.{Extends}

sum_append : (cs ds : List ℕ) → sum_of (cs ++ ds) ≡ sum_of cs + sum_of ds
unfolding sum_of
sum_append [] ds = omega arith
sum_append (c ∷ cs) ds = let e = sum_append cs ds in omega arith

-- the texts of the shorter book, each its own counterpart
abbrev pub InBoth : List ℕ → ℕ → ℕ → Type 0
InBoth counts k l = (k ≡ l) × Names counts k

itself_alike : {counts rules : List ℕ} → RightAll counts rules → RulesAlike (InBoth counts) rules rules
itself_alike right = record {
  as_many = refl;
  each = λ j l.
      let x = right.each j l in
      record { kind = refl; first = (refl, x.first); second = (refl, x.second); third = λ e. (refl, third_named x.fourth e) };
}

-- the blocks S, and behind them those of T's further texts
abbrev pub lengthened : List ℕ → List Block → List Block → List Block
lengthened counts S T = S ++ drop (sum_of counts) T

-- a book's texts, and a longer book that has others behind them
module _ {counts counts' : List ℕ} (x : Extends counts counts') where
  -- a number names in the longer book the text that it names in the shorter
  count_front : (k : ℕ) → Names counts k → count_of counts' k ≡ count_of counts k
  count_front k n =
      let h = n.within in
      let o = n.from_one in
      ap (λ (c : List ℕ). count_of c k) x.behind ∙ get_or-append counts x.others 0 (k - 1) (omega arith)

  first_front : (k : ℕ) → Names counts k → first_of counts' k ≡ first_of counts k
  first_front k n = let h = n.within in ap (λ (c : List ℕ). first_of c k) x.behind ∙ ap sum_of (take-append-le (k - 1) counts x.others (omega arith))

  pub names_more : {k : ℕ} → Names counts k → Names counts' k
  names_more n = record { from_one = n.from_one; within = let h = n.within in let e = ap length x.behind ∙ length-append counts x.others in omega arith }

  -- it stands where it stood
  pub shape_front : (P R : List Block) (k : ℕ) → length P ≡ sum_of counts → Names counts k → shape_in counts' (P ++ R) k ≡ shape_in counts P k
  shape_front P R k e n =
      let w = text_within counts k n.from_one in
      let d = length-drop (first_of counts k) P in
      ap₂ (λ (c m : ℕ). take c (drop m (P ++ R))) (count_front k n) (first_front k n)
      ∙ ap (take (count_of counts k)) (drop-append-le (first_of counts k) P R (omega arith))
      ∙ take-append-le (count_of counts k) (drop (first_of counts k) P) R (omega arith)

  paired : Paired (InBoth counts) counts counts'
  paired = record {
    named = λ e. e.1;
    named_other = λ e. names_more (subst (Names counts) e.0 e.1);
    count = λ {k} e. sym (count_front k e.1) ∙ ap (count_of counts') e.0;
    onward = λ e f q. sym e.0 ∙ q ∙ f.0;
    back = λ e f q. e.0 ∙ q ∙ sym f.0;
  }

  module _ {S T : List Block} (w : Whole counts S) (v : Whole counts' T) where
    enough : sum_of counts ≤ length T
    enough = let e = v.size in let s = ap sum_of x.behind ∙ sum_append counts x.others in omega arith

    longer_whole : Whole counts' (lengthened counts S T)
    longer_whole = record {
      size = let e = v.size in let d = length-drop (sum_of counts) T in let h = w.size in let m = enough in length-append S (drop (sum_of counts) T) ∙ omega arith;
      sound = all_append w.sound (all_drop (sum_of counts) v.sound);
    }

    longer_alike : Alike (InBoth counts) counts counts' S (lengthened counts S T)
    longer_alike = record {
      each = λ {k} e. sym (shape_front S (drop (sum_of counts) T) k w.size e.1) ∙ ap (shape_in counts' (lengthened counts S T)) e.0;
    }

    -- where each text's blocks have no more room, all have no more
    pub longer_within : ((k : ℕ) → Names counts k → Within (shape_in counts' T k) (shape_in counts S k)) → Within T (lengthened counts S T)
    longer_within f =
        let n = sum_of counts in
        let size : length (take n T) ≡ n = length-take-le n T enough in
        let front = within_by_texts counts (take n T) S size w.size
        (λ k m. subst (λ (B : List Block). Within B (shape_in counts S k))
        (ap (λ (B : List Block). shape_in counts' B k) (sym (take-append-drop n T)) ∙ shape_front (take n T) (drop n T) k size m) (f k m)) in
        subst (λ (B : List Block). Within B (lengthened counts S T)) (take-append-drop n T) (within_join front (within_refl (drop n T)))

    -- rules of the shorter book run there as they ran
    pub longer_run : {rules : List ℕ} {o : Outcome} {m : ℕ} → RightAll counts rules → RightAll counts' rules
        → Rounds (rule_count rules) (rule_of counts rules) S 0 false o m
        → (u : Outcome) × Rounds (rule_count rules) (rule_of counts' rules) (lengthened counts S T) 0 false u m × OutcomeAlike (InBoth counts) counts counts' o u
    longer_run right right' r = lockstep paired right right' (itself_alike right) w longer_whole longer_alike r
