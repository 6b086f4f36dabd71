-- Request 12 of document 02 holds: each field by citation. Assumes nothing.
use mathlib.Core.Path.{◌≡◌, refl, sym, ap, ◌∙◌, subst}
use mathlib.Core.List.{List}
use Prim.Native.Nat.{ℕ, suc, ◌-◌, ◌*◌}
use native.Mathlib.Omega.{arith}
use lib.ListN.{length, get_or}
use Rattle.answers.specs.declared.Ended.{Ended}
use Rattle.answers.specs.declared.TextRan.{TextRan}
use Rattle.rules.specs.declared.Rule.{Rule}
use Rattle.rules.specs.Rule.{numbers_of_all}
use Rattle.rules.specs.Limits.{most_texts}
use Rattle.shapes.specs.Shape.{Block, block_size}
use Rattle.shapes.specs.Lent.{shape_of, words_of}
use Rattle.shapes.proofs.Lent.{shape_length}
use Rattle.shapes.proofs.Numbers.{shape_words, words_length}
use Rattle.hulls.specs.Hull.{shapes}
use Rattle.books.specs.Counts.{sum_of, shape_in}
use Rattle.books.specs.Rules.{Names}
use Rattle.books.specs.Code.{numbers_in}
use Rattle.books.specs.Refused.{BookAccepted, BookRefused}
use Rattle.books.proofs.Refused.{book_not}
use Rattle.groups.specs.Linked.{GroupOf}
use Rattle.groups.specs.Own.{OwnRules, GroupRun}
use Rattle.groups.specs.Same.{SameGroup}
use Rattle.groups.specs.Ends.{no_text_ran, text_ran, TextLeft, stable, as_entered, BookRan}
use Rattle.groups.proofs.Linked.{group_linked, group_same, group_one}
use Rattle.groups.proofs.Own.{picks_one}
use Rattle.groups.proofs.Texts.{same_numbers_by_texts, text_words}
use Rattle.groups.proofs.Groups.{Itself}
use Rattle.groups.proofs.Ends.{shape_left, shape_stays, ran_accepted}
use Rattle.more_rules.specs.Ends.{MayEnd, RecordAgain, GroupsAgain}
use Rattle.more_rules.proofs.Strict.{links_grow}
use Rattle.more_rules.proofs.Room.{names_more}
use Rattle.more_rules.proofs.More.{may_end}
use Rattle.more_rules.proofs.Books.{strict_itself, strict_on, rules_behind, texts_behind, strict_left, ends_none, ends_stable}
use Rattle.more_rules.proofs.Again.{final_entered, again_record, again_stays, held_stable, own_same}
use Rattle.more_rules.proofs.Listed.{groups_again}
use Rattle.file_lines.specs.Grammar.{InGrammar, writing}
use Rattle.file_lines.specs.Grammar.InGrammar.{none as no_part, more as one-part}
use Rattle.file_lines.specs.Book.{Sheet, Book, sheet_of, sheet_parts, book_parts, sheet_grammar, book_grammar}
use Rattle.files.specs.Departs.{FileAccepted}
use Rattle.files.proofs.Unique.{not_both}
use Rattle.files.proofs.Size.{book_small}
use Rattle.file_runs.specs.Ends.{FileEnds, BookEnds}
use Rattle.file_runs.specs.Ends.BookEnds.{ends}
use Rattle.file_runs.specs.Ends.FileEnds.{no_book, wrong_book, of_book}
use Rattle.file_runs.proofs.Ends.{same_book, sheet_right}
use Rattle.file_reports.specs.Report.{Verdict}
use Rattle.file_reports.specs.Report.Verdict.{ran}
use Rattle.demands.specs.Call.{CountsAndRules, BookMemory, AcceptedWith, given_of, lent_blocks}
use Rattle.demands.specs.Calls.{book_of_own, RunOf}
use Rattle.demands.specs.Request12.{shape_at, StricterRun, RunAgain, book_again, Request12}
use Rattle.demands.proofs.Groups.{ends_of_lem}
use Rattle.demands.proofs.Request11.{accepted, book, at_text, Reports, reports}

-- ---- of a run

module _ {g : CountsAndRules} {m m' : BookMemory} {row : List TextRan} (p : RunOf g m m' row) where
  ended_at : {k : ℕ} → Names g.counts k → (text_ran p.promised.1.texts k).ended ≡ (text_ran row k).ended
  ended_at n = ap (λ (e : TextRan). e.ended) (sym (at_text p n))

  -- the run of a stable text's group
  stable_of : {k h c : ℕ} {v : Ended} → v ≡ Ended.Stable c → TextLeft g.counts m.blocks g.rules h m'.blocks k v
      → (H : List Block) × GroupRun g.counts m.blocks g.rules h (shapes H) c
  stable_of {h = h} {c = c} e (stable {H = H} {m = n} r q) =
      let same : n ≡ c = cc in (H, subst (GroupRun g.counts m.blocks g.rules h (shapes H)) same r)
  stable_of e (as_entered r q) = absurd (let z : ◌≡◌ {A = ℕ} 0 1 = cc in omega arith)

-- ---- a stricter book

module _ {g o : CountsAndRules} {m m' n n' : BookMemory} {row others : List TextRan} (s : StricterRun g m m' row o n n' others) where
  there : {k : ℕ} → Names g.counts k → Names o.counts k
  there h = names_more s.strict.texts h

  ends_so : (k : ℕ) → Names g.counts k
      → MayEnd (shape_at g m' k) (shape_at o n k) (shape_at o n' k) (text_ran row k).ended (text_ran others k).ended
  ends_so k h =
      subst (λ (v : Ended). MayEnd (shape_at g m' k) (shape_at o n k) (shape_at o n' k) v (text_ran others k).ended) (ended_at s.first h)
      (subst (MayEnd (shape_at g m' k) (shape_at o n k) (shape_at o n' k) (text_ran s.first.promised.1.texts k).ended) (ended_at s.second (there h))
      (may_end s.strict (accepted s.first) (accepted s.second) (book s.first) (book s.second) k h))

  groups_grow : (k l : ℕ) → Names g.counts k → Names g.counts l → (text_ran row k).group ≡ (text_ran row l).group → (text_ran others k).group ≡ (text_ran others l).group
  groups_grow k l h i e =
      let linked = group_same (ends_of_lem s.first k h).group (subst (GroupOf g.rules l) (sym e) (ends_of_lem s.first l i).group) in
      group_one (group_linked (links_grow s.strict.all_rules linked) (ends_of_lem s.second k (there h)).group) (ends_of_lem s.second l (there i)).group

-- ---- what was left, run again

module _ {g : CountsAndRules} {m m' n n' : BookMemory} {row later : List TextRan} (s : RunAgain g m m' row n n' later) where
  second_book : BookRan g.counts m'.blocks g.rules n'.blocks s.second.promised.1.texts
  second_book = subst (λ (x : List ℕ). BookRan g.counts x g.rules n'.blocks s.second.promised.1.texts) s.lent (book s.second)

  nothing_changes : n'.blocks ≡ n.blocks
  nothing_changes = again_stays (accepted s.first) (book s.first) second_book ∙ sym s.lent

  record_again : (k : ℕ) → Names g.counts k → RecordAgain g.rules (text_ran row k) (text_ran later k)
  record_again k h =
      subst (λ (e : TextRan). RecordAgain g.rules e (text_ran later k)) (sym (at_text s.first h))
      (subst (RecordAgain g.rules (text_ran s.first.promised.1.texts k)) (sym (at_text s.second h))
      (again_record (accepted s.first) (book s.first) second_book k h))

-- a stable group that counts its rules
final_of : {g : CountsAndRules} {m m' : BookMemory} {row : List TextRan} {own : List Rule} (p : RunOf g m m' row) (k : ℕ) → Names g.counts k
    → OwnRules g.rules (text_ran row k).group own → (text_ran row k).ended ≡ Ended.Stable (length own) → shape_at g m' k ≡ shape_at g m k
final_of {g} {own = own} p k h o e =
    final_entered (accepted p) (book p) h (subst (λ (r : TextRan). OwnRules g.rules r.group own) (at_text p h) o) (ended_at p h ∙ e)

-- a stable group in a book that holds it as it was left
held_again : {E : ℕ → ℕ → Type 0} {g o : CountsAndRules} {m m' n n' : BookMemory} {row others : List TextRan} {h k l c : ℕ} {own : List Rule}
    → RunOf g m m' row → RunOf o n n' others → (text_ran row k).ended ≡ Ended.Stable c
    → SameGroup E g.counts m'.blocks g.rules (text_ran row k).group o.counts n.blocks o.rules h → E k l → OwnRules g.rules (text_ran row k).group own
    → ((text_ran others l).ended ≡ Ended.Stable (length own)) × (shape_at o n' l ≡ shape_at g m' k)
held_again {k = k} p q e s x own =
    let r = stable_of p e (ends_of_lem p k (s.from x).named).left in
    let y = held_stable (accepted p) (book p) (accepted q) s r.1 (book q) x in
    (sym (ended_at q (s.to x).named) ∙ y.0 ∙ ap (λ (l : List Rule). Ended.Stable (length l)) (picks_one r.1.picked own), y.1)

rules_alone : {g : CountsAndRules} {m m' n n' : BookMemory} {row others : List TextRan} {own : List Rule} → RunOf g m m' row → (k c : ℕ) → Names g.counts k
    → (text_ran row k).ended ≡ Ended.Stable c → OwnRules g.rules (text_ran row k).group own → RunOf (book_of_own g own) n n' others → n.blocks ≡ m'.blocks
    → ((text_ran others k).ended ≡ Ended.Stable (length own)) × (shape_at g n' k ≡ shape_at g m' k)
rules_alone {g} {m' = m'} {row = row} {own = own} p k c h e o q lent =
    let group = (ends_of_lem p k h).group in
    let s = own_same o (ran_accepted (accepted p) (book p)) group in
    let same = subst (λ (x : List ℕ). SameGroup (Itself g.counts g.rules (text_ran row k).group) g.counts m'.blocks g.rules (text_ran row k).group
    g.counts x (numbers_of_all own) (text_ran row k).group) (sym lent) s in
    held_again p q e same (refl, record { named = h; group = group }) o

-- ---- over files

-- what a run leaves of blocks is the numbers of its shapes
left_written : (B : List Block) {counts rules ys : List ℕ} {work : ℕ} {es : List TextRan} → BookAccepted counts (words_of B) rules work → BookRan counts (words_of B) rules ys es
    → words_of (shape_of ys) ≡ ys
left_written B {counts} {rules} {ys} a run =
    let size : length ys ≡ sum_of counts * block_size = run.size ∙ a.counted.whole_blocks in
    let many : length (shape_of ys) ≡ sum_of counts = shape_length ys ∙ omega arith in
    let entered : length B ≡ sum_of counts = let w = words_length B in let e = a.counted.whole_blocks in omega arith in
    same_numbers_by_texts counts (words_of (shape_of ys)) ys (words_length (shape_of ys) ∙ ap (λ (n : ℕ). n * block_size) many) size
    (λ k n. text_words counts (shape_of ys) k n many ∙ sym (words_of_lem entered k n (run.ends k n).left))
  where
    words_of_lem : length B ≡ sum_of counts → (k : ℕ) → Names counts k → {h : ℕ} {v : Ended} → TextLeft counts (words_of B) rules h ys k v
        → numbers_in counts ys k ≡ words_of (shape_in counts (shape_of ys) k)
    words_of_lem e k n (stable r q) = q ∙ ap words_of (sym (shape_left counts ys k q))
    words_of_lem e k n (as_entered r q) =
        q ∙ text_words counts B k n e
        ∙ ap words_of (ap (λ (S : List Block). shape_in counts S k) (sym (shape_words B)) ∙ sym (shape_stays counts (words_of B) ys k q))

-- a sheet in the grammar, with the rules of a book that is
rules_after : (b : Book) (s : Sheet) → InGrammar (sheet_grammar most_texts) (sheet_parts s) → InGrammar book_grammar (book_parts b) → InGrammar book_grammar (book_parts (book_again b s))
unfolding book_parts sheet_parts
rules_after b s (one-part t (one-part u no_part)) (one-part x (one-part y (one-part r no_part))) = one-part t (one-part u (one-part r no_part))

file_accepted : {file : List ℕ} {b : Book} {gs : List TextRan} {s : Sheet} → FileAccepted file b → FileEnds file (ran gs s)
    → FileAccepted (writing (book_parts (book_again b s))) (book_again b s)
file_accepted {b = b} {s = s} a e =
    let right = rules_after b s (sheet_right e) a.accepts.right in
    record { accepts = record { small = book_small (book_again b s) right; right = right; is = refl } }

module _ {b : Book} {gs : List TextRan} {s : Sheet} (r : Reports b gs s) where
  -- the numbers of the sheet are those that were left
  abbrev lent : List ℕ
  lent = words_of (shape_of r.left)

  lent_is : lent ≡ r.left
  lent_is = left_written b.sheet.blocks r.entered r.run

  again_accepted : BookAccepted b.sheet.counts lent (numbers_of_all b.rules) 63001
  again_accepted = subst (λ (x : List ℕ). BookAccepted b.sheet.counts x (numbers_of_all b.rules) 63001) (sym lent_is) (ran_accepted r.entered r.run)

  ends_again : {v : Verdict} → BookEnds b.sheet.width b.sheet.counts lent (numbers_of_all b.rules) v
      → (hs : List TextRan) × (v ≡ ran hs (sheet_of b.sheet.width b.sheet.counts r.left)) × GroupsAgain (numbers_of_all b.rules) gs hs
  ends_again (ends {ys = zs} {es = fs} {gs = hs} run listed) =
      let again = subst (λ (x : List ℕ). BookRan b.sheet.counts x (numbers_of_all b.rules) zs fs) lent_is run in
      let first = r.run.each_text in
      let second = again.each_text in (
        hs,
        ap (λ (x : List ℕ). ran hs (sheet_of b.sheet.width b.sheet.counts x)) (again_stays r.entered r.run again),
        groups_again r.listed listed (omega arith)
            (λ j l. let back : suc j - 1 ≡ j = omega arith in
            subst (λ (i : ℕ). RecordAgain (numbers_of_all b.rules) (get_or r.texts i no_text_ran) (get_or fs i no_text_ran)) back
            (again_record r.entered r.run again (suc j) (record { from_one = omega arith; within = omega arith }))),
      )

  -- a file of that book has no other end
  file_ends : {file : List ℕ} {v : Verdict} → FileAccepted file (book_again b (sheet_of b.sheet.width b.sheet.counts r.left)) → FileEnds file v
      → (hs : List TextRan) × (v ≡ ran hs (sheet_of b.sheet.width b.sheet.counts r.left)) × GroupsAgain (numbers_of_all b.rules) gs hs
  file_ends {file} a (no_book p) = absurd (not_both file _ _ a p)
  file_ends a (wrong_book {t = t} d p) = absurd (book_not (same_book (λ k c x q. BookRefused c x q 63001 t) a d p) again_accepted)
  file_ends {v = v} a (of_book d x p) = ends_again (same_book (λ k c x q. BookEnds k c x q v) a d p)

book_accepted : {b : Book} {gs : List TextRan} {s : Sheet} → Reports b gs s → AcceptedWith (given_of (book_again b s)) (lent_blocks (book_again b s)) 63001
book_accepted {b} r = subst (λ (t : Sheet). AcceptedWith (given_of (book_again b t)) (lent_blocks (book_again b t)) 63001) (sym r.sheet_is) (again_accepted r)

report_again : {file : List ℕ} {b : Book} {gs : List TextRan} {s : Sheet} {v : Verdict} → FileAccepted file b → FileEnds file (ran gs s)
    → FileEnds (writing (book_parts (book_again b s))) v → (hs : List TextRan) × (v ≡ ran hs s) × GroupsAgain (numbers_of_all b.rules) gs hs
report_again {b = b} {s = s} a e f =
    let r = reports a e in
    let x = file_ends r (subst (λ (t : Sheet). FileAccepted (writing (book_parts (book_again b s))) (book_again b t)) r.sheet_is (file_accepted a e)) f in
    (x.0, x.1 ∙ ap (ran x.0) (sym r.sheet_is), x.2)

pub request_12 : Request12
request_12 = record {
  itself = λ g blocks. strict_itself g.counts blocks g.rules;
  rules_behind = λ more a. rules_behind more a;
  texts_behind = λ others more a. texts_behind others more a;
  what_is_left = λ p. strict_left (accepted p) (book p);
  through = λ p q. strict_on p q;
  links_grow = λ s l. links_grow s.all_rules l;
  groups_grow = λ s k l h i e. groups_grow s k l h i e;
  may_end = λ s k h. ends_so s k h;
  none_stays = λ s k c h e. ends_none (ends_so s k h) e;
  never_wider = λ s k d h e. ends_stable (ends_so s k h) e;
  nothing_changes = λ s. nothing_changes s;
  counts_again = λ s k h. record_again s k h;
  final_entered = λ p k h o e. final_of p k h o e;
  held_again = λ p q k l c e s x o. held_again p q e s x o;
  rules_alone = λ p k c h e o q lent. rules_alone p k c h e o q lent;
  file_again = λ a e. (file_accepted a e, book_accepted (reports a e));
  report_again = report_again;
}
