-- Request 11 of document 02 holds: each field by citation. Assumes nothing.
use mathlib.Core.Path.{◌≡◌, refl, sym, ap, ◌∙◌, subst}
use mathlib.Core.List.{List}
use mathlib.Core.Logic.{◌⊎◌, inl, inr}
use Prim.Native.Nat.{ℕ, zero, suc, ◌-◌, ◌<◌}
use native.Mathlib.Omega.{arith}
use lib.ListN.{length, get_or, take, replicate}
use lib.Seq.{take_at}
use Rattle.answers.specs.declared.Ended.{Ended}
use Rattle.answers.specs.declared.Ran.{Ran}
use Rattle.answers.specs.declared.Refusal.{Refusal}
use Rattle.answers.specs.declared.TextRan.{TextRan}
use Rattle.rules.specs.declared.Rule.{Rule}
use Rattle.rules.specs.Rule.{numbers_of_all}
use Rattle.rules.specs.Limits.{most_texts}
use Rattle.shapes.specs.Shape.{Block}
use Rattle.shapes.specs.Lent.{Numbers, shape_of, words_of}
use Rattle.shapes.proofs.Lent.{shape_length}
use Rattle.shapes.proofs.Numbers.{shape_words}
use Rattle.texts.specs.Kind.{join_kind}
use Rattle.hulls.specs.Hull.{none as in-none, shapes}
use Rattle.books.specs.Rules.{Names}
use Rattle.books.specs.Counts.{shape_in}
use Rattle.books.specs.Code.{numbers_in}
use Rattle.books.specs.Refused.{BookAccepted}
use Rattle.book_steps.proofs.Standing.{standing_first}
use Rattle.book_runs.specs.Rounds.{BookRun}
use Rattle.groups.specs.Linked.{NamedBy, first, second, third, same, GroupOf, TextOf}
use Rattle.groups.specs.Own.{OwnRules}
use Rattle.groups.specs.Ends.{no_text_ran, text_ran, TextLeft, stable, as_entered, BookRan, GroupsIn}
use Rattle.groups.proofs.Linked.{linked_on, linked_one, linked_back, linked_only, group_linked, group_same, group_one}
use Rattle.groups.proofs.Own.{own_accepted, own_named, own_right}
use Rattle.groups.proofs.Texts.{text_numbers, same_numbers_by_texts}
use Rattle.groups.proofs.Groups.{whole_blocks, runs_leave, Itself, holds_itself}
use Rattle.groups.proofs.Ends as groups
use Rattle.groups.proofs.Listed.{groups_named, groups_all, groups_rise}
use Rattle.groups.proofs.Whole as whole
use Rattle.file_lines.specs.Grammar.{head_line, joined}
use Rattle.file_lines.specs.Book.{Book, Sheet, sheet_of}
use Rattle.files.specs.Departs.{FileAccepted}
use Rattle.file_runs.specs.Ends.{FileEnds, BookEnds}
use Rattle.file_runs.specs.Ends.BookEnds.{ends}
use Rattle.file_runs.specs.Ends.FileEnds.{of_book}
use Rattle.file_runs.specs.Promise.{RunWritten}
use Rattle.file_runs.proofs.Ends.{same_book}
use Rattle.file_runs.proofs.Lent.{reported_front}
use Rattle.file_reports.specs.Report.{Verdict, ended_line, group_line, head_of, sheet_after, report_of}
use Rattle.file_reports.specs.Report.Verdict.{ran, refused}
use Rattle.file_reports.proofs.Put.{head_alone}
use Rattle.demands.specs.Call.{CountsAndRules, BookMemory, run_book_call, AcceptedWith, given_of, lent_blocks}
use Rattle.demands.specs.Calls.{none, numbers, Ending, Calls, book_of_own, RunOf}
use Rattle.demands.specs.Request11.{InNoRule, SomeNone, Request11}
use Rattle.demands.proofs.Refusals as refusals
use Rattle.demands.proofs.Sequences.{outcome_of, Ended as EndedIn, all_right, calls_run, calls_end}
use Rattle.demands.proofs.Groups.{ends_of_lem}

-- ---- of a run

module _ {g : CountsAndRules} {m m' : BookMemory} {row : List TextRan} (p : RunOf g m m' row) where
  pub accepted : AcceptedWith g m.blocks (length m.work)
  accepted = p.promised.0

  pub book : BookRan g.counts m.blocks g.rules m'.blocks p.promised.1.texts
  book = p.promised.1.ran

  -- the record of a text, in the row and among those of the texts
  pub at_text : {k : ℕ} → Names g.counts k → text_ran row k ≡ text_ran p.promised.1.texts k
  at_text n = groups.row_at p.promised.1 n

  text_of : (k : ℕ) → Names g.counts k → TextOf g.counts g.rules (text_ran row k).group k
  text_of k n = record { named = n; group = (ends_of_lem p k n).group }

  module _ (k : ℕ) (n : Names g.counts k) {own : List Rule} (o : OwnRules g.rules (text_ran row k).group own) where
    stable_run : {H : List Block} {c : ℕ} → BookRun g.counts m.blocks (numbers_of_all own) (shapes H) c
        → ((text_ran row k).ended ≡ Ended.Stable c) × (numbers_in g.counts m'.blocks k ≡ words_of (shape_in g.counts H k))
    stable_run r = let t = groups.told_stable book (text_of k n) (record { own = own; picked = o; run = r }) in (ap (λ (e : TextRan). e.ended) (at_text n) ∙ t.0, t.1)

    none_run : {c : ℕ} → BookRun g.counts m.blocks (numbers_of_all own) in-none c
        → ((text_ran row k).ended ≡ Ended.None c) × (numbers_in g.counts m'.blocks k ≡ numbers_in g.counts m.blocks k)
    none_run r = let t = groups.told_none book (text_of k n) (record { own = own; picked = o; run = r }) in (ap (λ (e : TextRan). e.ended) (at_text n) ∙ t.0, t.1)

  some_run : {k h : ℕ} {v : Ended} → TextLeft g.counts m.blocks g.rules h m'.blocks k v → (own : List Rule) × OwnRules g.rules h own
      × (((H : List Block) × (n : ℕ) × BookRun g.counts m.blocks (numbers_of_all own) (shapes H) n) ⊎ ((n : ℕ) × BookRun g.counts m.blocks (numbers_of_all own) in-none n))
  some_run (stable {H = H} {m = c} r e) = (r.own, r.picked, inl (H, c, r.run))
  some_run (as_entered {m = c} r e) = (r.own, r.picked, inr (c, r.run))

  lone_text : Numbers m.blocks → (k : ℕ) → Names g.counts k → InNoRule g.rules k
      → (text_ran row k ≡ record { group = k; ended = Ended.Stable 0 }) × (numbers_in g.counts m'.blocks k ≡ numbers_in g.counts m.blocks k)
  lone_text b k n alone =
      let t : TextOf g.counts g.rules k k = record { named = n; group = groups.lone_group alone.lone } in
      let s = groups.told_stable book t (groups.lone_run alone.lone g.counts m.blocks) in
      let name = groups.told_group book t in
      (at_text n ∙ (λ i. record { group = name i; ended = s.0 i }), s.1 ∙ text_numbers (standing_first accepted) b k n)

  -- ---- beside all rules together

  some_none : SomeNone g.counts row → whole.SomeNone accepted book
  some_none x = record { text = x.text; named = x.named; count = x.count; ended = ap (λ (e : TextRan). e.ended) (sym (at_text x.named)) ∙ x.ended }

  none_some : whole.SomeNone accepted book → SomeNone g.counts row
  none_some x = record { text = x.text; named = x.named; count = x.count; ended = ap (λ (e : TextRan). e.ended) (at_text x.named) ∙ x.ended }

  together : {ks : List ℕ} (e : Ending) → Calls g m.blocks ks e → ((e ≡ none → SomeNone g.counts row) × (SomeNone g.counts row → e ≡ none))
  unfolding outcome_of
  together none c =
      (λ q. none_some (whole.together_back accepted book (calls_run accepted.counted.each (all_right accepted.right) (standing_first accepted) c)), λ x. refl)
  together (numbers zs) c =
      let run = calls_run accepted.counted.each (all_right accepted.right) (standing_first accepted) c in (
        (λ q. absurd (let z : ◌≡◌ {A = ℕ} 0 1 = cc in omega arith)),
        λ x. absurd (let q : shapes (shape_of zs) ≡ in-none = whole.together_none accepted book (some_none x) run in let z : ◌≡◌ {A = ℕ} 0 1 = cc in omega arith),
      )

  together_stable : {ks zs : List ℕ} → Numbers m.blocks → Calls g m.blocks ks (numbers zs) → zs ≡ m'.blocks
  unfolding outcome_of EndedIn
  together_stable {zs = zs} b c =
      let each = accepted.counted.each in
      let right = all_right accepted.right in
      let d = standing_first accepted in
      let end = calls_end each right d b c in
      let shape : shape_of zs ≡ shape_of m'.blocks = whole.together_stable accepted book (calls_run each right d c) in
      same_numbers_by_texts g.counts zs m'.blocks end.0.size (book.size ∙ accepted.counted.whole_blocks)
      (λ k n. sym (text_numbers end.0 end.1 k n) ∙ ap (λ (S : List Block). words_of (shape_in g.counts S k)) shape
      ∙ sym (groups.left_words accepted b n (ends_of_lem p k n).left))

-- ---- outside a group

outside : {g : CountsAndRules} {blocks js zs : List ℕ} {w h k : ℕ} {own : List Rule} → AcceptedWith g blocks w → Numbers blocks
    → OwnRules g.rules h own → Calls (book_of_own g own) blocks js (numbers zs) → Names g.counts k → (GroupOf g.rules k h → ⊥)
    → numbers_in g.counts zs k ≡ numbers_in g.counts blocks k
unfolding outcome_of EndedIn
outside {g} {k = k} a b o c n f =
    let alone = own_accepted o a in
    let d = standing_first alone in
    let each = alone.counted.each in
    let right = all_right alone.right in
    let end = calls_end each right d b c in
    sym (text_numbers end.0 end.1 k n)
    ∙ ap words_of (runs_leave (own_right o a.right) (whole_blocks d) n (λ j l x. f (own_named o j l x)) (calls_run each right d c))
    ∙ text_numbers d b k n

-- ---- the fillers

all_fill : (n i : ℕ) → get_or (replicate n no_text_ran) i no_text_ran ≡ no_text_ran
all_fill zero i = refl
all_fill (suc n) zero = refl
all_fill (suc n) (suc i) = all_fill n i

-- ---- the report

-- of the one book that a file is the writing of
pub record Reports (b : Book) (gs : List TextRan) (s : Sheet) : Type 0 where
  pub left : List ℕ
  pub texts : List TextRan
  pub entered : BookAccepted b.sheet.counts (lent_blocks b) (numbers_of_all b.rules) 63001
  pub run : BookRan b.sheet.counts (lent_blocks b) (numbers_of_all b.rules) left texts
  pub listed : GroupsIn 1 texts gs
  pub sheet_is : s ≡ sheet_of b.sheet.width b.sheet.counts left

pub reports : {file : List ℕ} {b : Book} {gs : List TextRan} {s : Sheet} → FileAccepted file b → FileEnds file (ran gs s) → Reports b gs s
reports {gs = gs} {s = s} a (of_book d g e) =
    go (same_book (λ k c w r. BookAccepted c w r 63001) a d g) (same_book (λ k c w r. BookEnds k c w r (ran gs s)) a d e)
  where
    go : {b : Book} {gs : List TextRan} {s : Sheet} → BookAccepted b.sheet.counts (lent_blocks b) (numbers_of_all b.rules) 63001
        → BookEnds b.sheet.width b.sheet.counts (lent_blocks b) (numbers_of_all b.rules) (ran gs s) → Reports b gs s
    go a (ends {ys = ys} {es = es} run listed) = record { left = ys; texts = es; entered = a; run = run; listed = listed; sheet_is = refl }

module _ {b : Book} {gs : List TextRan} {s : Sheet} (r : Reports b gs s) where
  whole_book : (s.counts ≡ b.sheet.counts) × (length s.blocks ≡ length b.sheet.blocks)
  whole_book = (
    ap (λ (t : Sheet). t.counts) r.sheet_is,
    ap (λ (t : Sheet). length t.blocks) r.sheet_is ∙ shape_length r.left ∙ (let e = r.run.size in omega arith)
        ∙ sym (shape_length (lent_blocks b)) ∙ ap length (shape_words b.sheet.blocks),
  )

  each_group : (k : ℕ) → Names b.sheet.counts k → (i : ℕ) × (i < length gs) × GroupOf (numbers_of_all b.rules) k (get_or gs i no_text_ran).group
  each_group k n =
      let e = (r.run.ends k n).group in
      let h = (text_ran r.texts k).group in
      let named : Names b.sheet.counts h = groups.linked_named r.entered.right e.linked n in
      let many = r.run.each_text in
      let one = named.from_one in
      let most = named.within in
      let own : (text_ran r.texts h).group ≡ h = group_one (r.run.ends h named).group (group_linked e.linked e) in
      let x = groups_all r.listed (h - 1) (omega arith) (omega arith) in
      (x.0, x.1, subst (GroupOf (numbers_of_all b.rules) k) (sym (ap (λ (t : TextRan). t.group) x.2 ∙ own)) e)

  only_groups : (i : ℕ) → i < length gs → let h = (get_or gs i no_text_ran).group in Names b.sheet.counts h × GroupOf (numbers_of_all b.rules) h h
  only_groups i l =
      let x = groups_named r.listed i l in
      let many = r.run.each_text in
      let here = x.1 in
      let name = x.3 in
      let named : Names b.sheet.counts (get_or gs i no_text_ran).group = record { from_one = omega arith; within = omega arith } in
      let back : (get_or gs i no_text_ran).group - 1 ≡ x.0 = omega arith in
      let text : text_ran r.texts (get_or gs i no_text_ran).group ≡ get_or gs i no_text_ran = ap (λ (j : ℕ). get_or r.texts j no_text_ran) back ∙ sym x.2 in
      (named, subst (λ (t : TextRan). GroupOf (numbers_of_all b.rules) (get_or gs i no_text_ran).group t.group) text (r.run.ends _ named).group)

  none_reported : (i k n : ℕ) → i < length gs → (get_or gs i no_text_ran).ended ≡ Ended.None n → Names b.sheet.counts k
      → GroupOf (numbers_of_all b.rules) k (get_or gs i no_text_ran).group → shape_in s.counts s.blocks k ≡ shape_in b.sheet.counts b.sheet.blocks k
  none_reported i k n l e named group =
      let h = (get_or gs i no_text_ran).group in
      let x = groups_named r.listed i l in
      let name = x.3 in
      let own = only_groups i l in
      let back : h - 1 ≡ x.0 = omega arith in
      let text : text_ran r.texts h ≡ get_or gs i no_text_ran = ap (λ (j : ℕ). get_or r.texts j no_text_ran) back ∙ sym x.2 in
      let run = groups.none_of (ap (λ (t : TextRan). t.ended) text ∙ e) (groups.told_left r.run (record { named = own.0; group = own.1 })) in
      let stays = (groups.told_none r.run (record { named = named; group = group }) run).1 in
      (λ j. shape_in (r.sheet_is j).counts (r.sheet_is j).blocks k) ∙ groups.shape_stays b.sheet.counts (lent_blocks b) r.left k stays
      ∙ ap (λ (S : List Block). shape_in b.sheet.counts S k) (shape_words b.sheet.blocks)

-- the report of the verdict that is due, beside a run of the book
beside_run : (b : Book) {m m' : BookMemory} {row : List TextRan} {v : Verdict} → m.blocks ≡ lent_blocks b → RunOf (given_of b) m m' row
    → BookEnds b.sheet.width b.sheet.counts (lent_blocks b) (numbers_of_all b.rules) v
    → (gs : List TextRan) × GroupsIn 1 (take (length b.sheet.counts) row) gs × (v ≡ ran gs (sheet_of b.sheet.width b.sheet.counts m'.blocks))
beside_run b {m} {m'} {row} lent p (ends {ys = ys} {es = es} {gs = gs} run listed) =
    let a = p.promised.0 in
    let r = p.promised.1 in
    let one = groups.book_ran_one a.counted.whole_blocks r.ran (subst (λ (x : List ℕ). BookRan b.sheet.counts x (numbers_of_all b.rules) ys es) (sym lent) run) in
    let front : take (length b.sheet.counts) row ≡ es =
    ap (take (length b.sheet.counts)) r.row_is ∙ take_at r.texts (replicate (most_texts - length r.texts) no_text_ran) (length b.sheet.counts) r.ran.each_text ∙ one.0 in
    (gs, subst (λ (l : List TextRan). GroupsIn 1 l gs) (sym front) listed, ap (λ (z : List ℕ). ran gs (sheet_of b.sheet.width b.sheet.counts z)) (sym one.1))

report_beside : {file report report' : List ℕ} {b : Book} {m m' : BookMemory} {row : List TextRan} {n : ℕ} → FileAccepted file b
    → RunWritten file 63001 report report' n → m.blocks ≡ lent_blocks b → RunOf (given_of b) m m' row
    → (gs : List TextRan) × GroupsIn 1 (take (length b.sheet.counts) row) gs × (take n report' ≡ report_of (ran gs (sheet_of b.sheet.width b.sheet.counts m'.blocks)))
report_beside {b = b} a p lent q =
    let w = p.written.report in
    let x = beside_run b lent q (same_book (λ k c z r. BookEnds k c z r w.verdict) a p.accepted w.due) in
    (x.0, x.1, reported_front w.reported ∙ ap report_of x.2)

fourth : (t : Rule) (k : ℕ) → (t.kind ≡ join_kind → ⊥) → NamedBy t k → (t.a ≡ k) ⊎ (t.b ≡ k)
fourth t k n (first e) = inl e
fourth t k n (second e) = inr e
fourth t k n (third j e) = absurd (n j)

bad_rule : (g : CountsAndRules) (m m' : BookMemory) (r : Ran) → (AcceptedWith g m.blocks (length m.work) → ⊥) → run_book_call.Promise g m m' r
    → (q : Refusal) × (r ≡ run_book_call.refused q) × (m' ≡ m)
bad_rule g m m' r bad p =
    let x = (refusals.run_book).demand.malformed {g = g} {m = m} {m' = m'} bad r p in
    (x.0, x.1, (refusals.run_book).demand.untouched x.0 (subst (run_book_call.Promise g m m') x.1 p))

pub request_11 : Request11
unfolding report_of head_of sheet_after group_line ended_line head_line joined
request_11 = record {
  linked_two = λ rules j l. linked_one j l (first refl) (second refl);
  linked_third = λ rules j l e. linked_one j l (first refl) (third e refl);
  linked_itself = λ rules k. same refl;
  linked_back = linked_back;
  linked_through = linked_on;
  linked_only = linked_only;
  fourth_unlinked = fourth;
  one_name = λ p k l n o. (
    λ x. group_one (group_linked x (ends_of_lem p k n).group) (ends_of_lem p l o).group,
    λ e. group_same (ends_of_lem p k n).group (subst (GroupOf _ l) (sym e) (ends_of_lem p l o).group),
  );
  least_number = λ p k n. let e = (ends_of_lem p k n).group in (e, groups.linked_named (accepted p).right e.linked n);
  own_rules = λ j l x. (λ e. group_linked (linked_one j l x (first refl)) e, λ e. group_linked (linked_one j l (first refl) x) e);
  stable_run = λ p k n o r. stable_run p k n o r;
  none_run = λ p k n o r. none_run p k n o r;
  some_run = λ p k n. some_run p (ends_of_lem p k n).left;
  lone_text = λ b p k n x. lone_text p b k n x;
  agree = λ s p q k l e.
      let x = groups.ran_agree (accepted p) (accepted q) s (book p) (book q) e in
      (ap (λ (t : TextRan). t.ended) (at_text p (s.from e).named) ∙ x.0 ∙ ap (λ (t : TextRan). t.ended) (sym (at_text q (s.to e).named)), x.1);
  holds_itself = λ {g} h a. (Itself g.counts g.rules h, holds_itself a);
  outside_stays = outside;
  together_none = λ {e = e} p b c. together p e c;
  together_stable = λ p b c. together_stable p b c;
  accepted_again = λ p. groups.ran_accepted (accepted p) (book p);
  one_bad_rule = λ g m m' r j l bad p. bad_rule g m m' r (λ a. bad (a.right.each j l)) p;
  eight_records = λ p. groups.row_length p.promised.1 (accepted p).counted.few_texts;
  past_the_last = λ p k l h. groups.row_past p.promised.1 k l h;
  where_refused = λ q k. all_fill most_texts (k - 1);
  stable_line = λ h n. refl;
  none_line = λ h n. refl;
  report_is = λ gs s. refl;
  whole_book = λ a e. whole_book (reports a e);
  by_number = λ e i j l h. rises e i j l h;
  each_group = λ a e k n. each_group (reports a e) k n;
  only_groups = λ a e i l. only_groups (reports a e) i l;
  none_reported = λ a e i k n l v named group. none_reported (reports a e) i k n l v named group;
  as_run_book = λ n a p lent q. report_beside a p lent q;
  refused_alone = λ t. sym (head_alone (refused t) refl);
  none_new = λ q p. p.0;
}
  where
    rises : {file : List ℕ} {gs : List TextRan} {s : Sheet} → FileEnds file (ran gs s) → (i j : ℕ) → i < j → j < length gs → (get_or gs i no_text_ran).group < (get_or gs j no_text_ran).group
    rises (of_book d g (ends run listed)) i j l h = groups_rise listed i j l h
