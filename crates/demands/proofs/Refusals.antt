-- Demand 1 of each call: what is acceptable is not refused, and what is not is,
-- duly; a refusal leaves the memory; one input has one outcome. Assumes nothing.
use Rattle.std.specs.Prelude.{Result, Ok, Err, Some, None}
use mathlib.Core.Path.{◌≡◌, refl, ap, ◌∙◌, subst}
use mathlib.Core.List.{List}
use mathlib.Core.Logic.{◌⊎◌, inl, inr}
use Prim.Native.Nat.{ℕ}
use lib.IntN.{ℤ}
use Rattle.answers.specs.Told.{told}
use Rattle.answers.specs.declared.Refusal.{Refusal}
use Rattle.answers.specs.declared.Fit.{Fit}
use Rattle.answers.specs.declared.Narrowed.{Narrowed}
use Rattle.answers.specs.declared.Ran.{Ran}
use Rattle.answers.specs.declared.TextRan.{TextRan}
use Rattle.answers.specs.declared.Sought.{Sought}
use Rattle.answers.specs.declared.Swept.{Swept}
use Rattle.answers.proofs.Turns.{OneOf}
use Rattle.shapes.proofs.Refused.{of_shape_lem}
use Rattle.extreme_steps.specs.declared.Direction.{Direction}
use Rattle.extremes.specs.Extreme.{ExtremePromise}
use Rattle.extremes.proofs.Refused.{text_one, text_not}
use Rattle.pairs.specs.Narrow.{NarrowPromise}
use Rattle.pairs.proofs.Pair.{narrow_one, narrow_not}
use Rattle.pairs.proofs.Determined.{narrow_determined}
use Rattle.joins.proofs.Refused.{join_refused_one, join_refused_not}
use Rattle.joins.proofs.Determined.{join_determined}
use Rattle.common_calls.proofs.Common.{show_refused_one, show_refused_not, common_one}
use Rattle.sweep_calls.proofs.Sweeping.{one_refusal, not_due, sweep_determined}
use Rattle.tray_pairs.specs.Judged.Judged.{swept, refused}
use Rattle.tray_pairs.proofs.Judged.{record_refused, record_refused_one, record_refused_not, judged_one}
use Rattle.trays.proofs.Determined.{tray_refused_one, tray_refused_not, tray_determined}
use Rattle.find_calls.proofs.Determined.{find_refused_one, find_refused_not, find_determined}
use Rattle.books.proofs.Refused.{book_one, book_not}
use Rattle.book_calls.specs.Promise.{PromiseFor, refused_run}
use Rattle.book_calls.proofs.Determined.{run_determined}
use Rattle.file_runs.specs.Promise.{run_turns, FileAnswer}
use Rattle.answers.specs.Turns.{in_turn}
use Rattle.file_runs.proofs.Determined.{run_refused_one, run_file_not, run_file_determined}
use Rattle.host_calls.specs.Host.{negated, handed}
use Rattle.host_calls.proofs.Numbers.{host_refused}
use Rattle.host_calls.proofs.Determined.{host_determined}
use Rattle.dashed.proofs.Determined.{check_shape_determined, fits_determined, extreme_determined}
use lib.ListN.{length}
use Rattle.demands.specs.Call.{Call, check_shape_call, fits_shape, extreme_text, find_mark, sweep, narrowing, narrow_join, common_text_call, sweep_tray, judge_pair, run_book_call, FileAcceptable, run_file_call, HostMemory, run_host_call}
use Rattle.demands.specs.Demands.{Demand1Of}

-- one refusal for one input, and none where it is acceptable
abbrev OneRefusal : Call → Type 0
OneRefusal c = (g : c.Given) (m : c.Memory) → OneOf (c.checked g m)

-- the refusal is the one that is due
abbrev Duly : Call → Type 0
Duly c = (g : c.Given) (m m' : c.Memory) (q : Refusal) → c.Promise g m m' (c.refused q) → (c.checked g m).due (told q)

-- what is answered is a refusal, or all is acceptable
abbrev Answered : Call → Type 0
Answered c = (g : c.Given) (m m' : c.Memory) (r : c.Answer) → c.Promise g m m' r → (c.checked g m).good ⊎ ((q : Refusal) × (r ≡ c.refused q))

abbrev Untouched : Call → Type 0
Untouched c = (g : c.Given) (m m' : c.Memory) (q : Refusal) → c.Promise g m m' (c.refused q) → m' ≡ m

abbrev OneOutcome : Call → Type 0
OneOutcome c = (g : c.Given) (m m' m'' : c.Memory) (r s : c.Answer) → c.Promise g m m' r → c.Promise g m m'' s → (r ≡ s) × (m' ≡ m'')

-- how a call refuses, and with it demand 1
pub record Refuses (c : Call) : Type 0 where
  pub one : OneRefusal c
  pub due : Duly c
  pub demand : Demand1Of c

refuses : (c : Call) → OneRefusal c → Duly c → Answered c → Untouched c → OneOutcome c → Refuses c
refuses c one due answered untouched outcome = record {
  one = one;
  due = due;
  demand = record {
    acceptable = λ {g} {m} {m'} a q p. (one g m).not (due g m m' q p) a;
    malformed = λ {g} {m} {m'} n r p. go g m m' n r p (answered g m m' r p);
    one_refusal = λ g m t u p q. (one g m).one p q;
    untouched = λ {g} {m} {m'} q p. untouched g m m' q p;
    one_outcome = λ {g} {m} {m'} {m''} r s p q. outcome g m m' m'' r s p q;
  };
}
  where
    go : (g : c.Given) (m m' : c.Memory) → ((c.checked g m).good → ⊥) → (r : c.Answer) → c.Promise g m m' r
        → (c.checked g m).good ⊎ ((q : Refusal) × (r ≡ c.refused q))
        → (q : Refusal) × (r ≡ c.refused q) × (c.checked g m).due (told q)
    go g m m' n r p (inl a) = absurd (n a)
    go g m m' n r p (inr (q, e)) = (q, e, due g m m' q (subst (c.Promise g m m') e p))

-- ---- a shape

check_shape_answered : Answered check_shape_call
check_shape_answered xs m m' (Ok _) p = inl p
check_shape_answered xs m m' (Err q) p = inr (q, refl)

pub check_shape : Refuses check_shape_call
check_shape = refuses check_shape_call (λ xs m. of_shape_lem) (λ xs m m' q p. p) check_shape_answered (λ xs m m' q p. refl)
    (λ xs m m' m'' r s p q. (check_shape_determined xs r s p q, refl))

fits_answered : Answered fits_shape
fits_answered g m m' (Ok Fit.Fits) p = inl p.0
fits_answered g m m' (Ok Fit.Unfit) p = inl p.0
fits_answered g m m' (Err q) p = inr (q, refl)

pub fits : Refuses fits_shape
fits = refuses fits_shape (λ g m. of_shape_lem) (λ g m m' q p. p) fits_answered (λ g m m' q p. refl)
    (λ g m m' m'' r s p q. (fits_determined g.shape g.text r s p q, refl))

find_answered : Answered find_mark
find_answered g m m' (Ok s) p = inl p.0
find_answered g m m' (Err q) p = inr (q, refl)

pub find : Refuses find_mark
find = refuses find_mark
    (λ g m. record { one = λ p q. find_refused_one g.shape g.mark p q; not = λ p a. find_refused_not g.shape g.mark p a })
    (λ g m m' q p. p) find_answered (λ g m m' q p. refl)
    (λ g m m' m'' r s p q. (find_determined g.shape g.mark r s p q, refl))

module _ (d : Direction) where
  text_answered : Answered (extreme_text (ExtremePromise d))
  text_answered xs m m' (Ok n) p = inl (p.accepted, p.room)
  text_answered xs m m' (Err q) p = inr (q, refl)

  pub text : Refuses (extreme_text (ExtremePromise d))
  text = refuses _
      (λ xs m. record { one = λ p q. text_one p q; not = λ p a. text_not p a.0 a.1 })
      (λ xs m m' q p. p.0) text_answered (λ xs m m' q p. p.1) (extreme_determined d)

-- ---- two shapes, or three

sweep_answered : Answered sweep
sweep_answered s m m' (Ok a) p = inl (p.accepted, p.room)
sweep_answered s m m' (Err q) p = inr (q, refl)

pub sweeps : Refuses sweep
sweeps = refuses sweep
    (λ s m. record { one = λ p q. one_refusal s.x s.y m p q; not = λ p a. not_due s.x s.y m p a.0 a.1 })
    (λ s m m' q p. p.0) sweep_answered (λ s m m' q p. p.1)
    (λ s m m' m'' r u p q. sweep_determined s.x s.y m m' m'' r u p q)

module _ (R : List ℕ → List ℕ → Type 0) where
  narrow_answered : Answered (narrowing (NarrowPromise R))
  narrow_answered s m m' (Ok Narrowed.Narrow) p = inl (p.0.shapes, p.0.room)
  narrow_answered s m m' (Ok Narrowed.None) p = inl (p.0.shapes, p.0.room)
  narrow_answered s m m' (Err q) p = inr (q, refl)

  narrow_outcome : OneOutcome (narrowing (NarrowPromise R))
  narrow_outcome s m m' m'' r u p q =
      let same = narrow_determined R s.x s.y m.work m.out_x m.out_y
      (record { work = m'.work; first = m'.out_x; second = m'.out_y; answer = r })
      (record { work = m''.work; first = m''.out_x; second = m''.out_y; answer = u }) p q in
      (λ i. (same i).answer, λ i. record { work = (same i).work; out_x = (same i).first; out_y = (same i).second })

  pub narrow : Refuses (narrowing (NarrowPromise R))
  narrow = refuses _ (λ s m. record { one = λ p q. narrow_one p q; not = λ p a. narrow_not p a.0 a.1 }) (λ s m m' q p. p.0) narrow_answered
      (λ s m m' q p. λ i. record { work = p.1.work_kept i; out_x = p.1.first_kept i; out_y = p.1.second_kept i }) narrow_outcome

join_answered : Answered narrow_join
join_answered s m m' (Ok Narrowed.Narrow) p = inl (p.0.shapes, p.0.room)
join_answered s m m' (Ok Narrowed.None) p = inl (p.0.shapes, p.0.room)
join_answered s m m' (Err q) p = inr (q, refl)

join_outcome : OneOutcome narrow_join
join_outcome s m m' m'' r u p q =
    let same = join_determined s.x s.y s.z m.work m.out_x m.out_y m.out_z r u p q in
    (same.0, λ i. record { work = same.1 i; out_x = same.2 i; out_y = same.3 i; out_z = same.4 i })

pub join : Refuses narrow_join
join = refuses narrow_join
    (λ s m. record { one = λ p q. join_refused_one p q; not = λ p a. join_refused_not p a.0 a.1 })
    (λ s m m' q p. p.0) join_answered
    (λ s m m' q p. λ i. record { work = p.1.work_kept i; out_x = p.1.first_kept i; out_y = p.1.second_kept i; out_z = p.1.third_kept i }) join_outcome

common_answered : Answered common_text_call
common_answered s m m' (Ok (Some n)) p = inl (p.0.shapes, p.0.room)
common_answered s m m' (Ok None) p = inl (p.0.shapes, p.0.room)
common_answered s m m' (Err q) p = inr (q, refl)

common_outcome : OneOutcome common_text_call
common_outcome s m m' m'' r u p q =
    let same = common_one s.x s.y m.work m.out m'.work m'.out m''.work m''.out r u p q in
    (same.0, λ i. record { work = same.1 i; out = same.2 i })

pub common_text : Refuses common_text_call
common_text = refuses common_text_call
    (λ s m. record { one = λ p q. show_refused_one p q; not = λ p a. show_refused_not p a.0 a.1 })
    (λ s m m' q p. p.0) common_answered (λ s m m' q p. λ i. record { work = p.1 i; out = p.2 i }) common_outcome

-- ---- a tray

tray_answered : Answered sweep_tray
tray_answered g m m' (Ok _) p = inl p.0
tray_answered g m m' (Err q) p = inr (q, refl)

pub tray : Refuses sweep_tray
tray = refuses sweep_tray
    (λ g m. record { one = λ p q. tray_refused_one p q; not = λ p a. tray_refused_not p a })
    (λ g m m' q p. p.0) tray_answered (λ g m m' q p. p.1)
    (λ g m m' m'' r s p q. tray_determined g.blocks g.pairs m m' m'' r s p q)

pair_answered : Answered judge_pair
pair_answered g m m' r (swept a e) = inl a
pair_answered g m m' r (refused q d e) = inr (q, e)

pub tray_pair : Refuses judge_pair
tray_pair = refuses judge_pair
    (λ g m. record { one = λ p q. record_refused_one g.blocks g.pair p q; not = λ p a. record_refused_not g.blocks g.pair p a })
    (λ g m m' q p. record_refused g.blocks g.pair q p) pair_answered (λ g m m' q p. refl)
    (λ g m m' m'' r s p q. (judged_one g.blocks g.pair p q, refl))

-- ---- a book, and its file

book_answered : Answered run_book_call
book_answered g m m' r p = go r.texts r.checked p
  where
    go : (row : List TextRan) (x : Result Unit Refusal) → PromiseFor g.counts m.blocks g.rules m.work m'.blocks m'.work row x
        → (run_book_call.checked g m).good ⊎ ((q : Refusal) × (◌≡◌ {A = Ran} (record { checked = x; texts = row }) (refused_run q)))
    go row (Ok _) p = inl p.0
    go row (Err q) p = inr (q, λ i. record { checked = Err q; texts = p.3 i })

book_outcome : OneOutcome run_book_call
book_outcome g m m' m'' r s p q =
    let same = run_determined g.counts m.blocks g.rules m.work m'.blocks m''.blocks m'.work m''.work r s p q in
    (same.0, λ i. record { blocks = same.1 i; work = same.2 i })

pub run_book : Refuses run_book_call
run_book = refuses run_book_call
    (λ g m. record { one = λ p q. book_one p q; not = λ p a. book_not p a })
    (λ g m m' q p. p.0) book_answered (λ g m m' q p. λ i. record { blocks = p.1 i; work = p.2 i }) book_outcome

pub file_one : (file : List ℕ) (work room : ℕ) → OneOf (in_turn (FileAcceptable file work room) (run_turns file work room))
file_one file work room = record { one = λ p q. run_refused_one p q; not = λ p a. run_file_not a.writing a.accepted a.enough p }

file_answered : (file : List ℕ) (work : ℕ) (report report' : List ℕ) (r : Result ℕ Refusal) → FileAnswer file work report report' r
    → FileAcceptable file work (length report) ⊎ ((q : Refusal) × (r ≡ Err q))
file_answered file work report report' (Ok m) p =
    inl (record { its_book = p.book; writing = p.accepted; accepted = p.written.accepted; enough = p.written.room })
file_answered file work report report' (Err q) p = inr (q, refl)

pub run_file : Refuses run_file_call
run_file = refuses run_file_call (λ file m. file_one file 63001 (length m)) (λ file m m' q p. p.0) (λ file m m' r p. file_answered file 63001 m m' r p)
    (λ file m m' q p. p.1) run_file_determined

-- the number that a host is handed stands for a refusal that is due
pub run_host : Demand1Of run_host_call
run_host = record {
  acceptable = λ {g} {m} {m'} a q p.
      let r = host_refused g m.report m.work m'.report m'.work q p in
      (file_one g (length m.work) (length m.report)).not r.1.0.0 a;
  malformed = λ {g} {m} {m'} n z p. go g m m' n z p (file_answered g (length m.work) m.report m'.report p.answer p.runs.0);
  one_refusal = λ g m t u p q. (file_one g (length m.work) (length m.report)).one p q;
  untouched = λ {g} {m} {m'} q p.
      let r = host_refused g m.report m.work m'.report m'.work q p in
      λ i. record { report = r.1.0.1 i; work = r.1.1 i };
  one_outcome = λ {g} {m} {m'} {m''} y z p q.
      let same = host_determined g m.report m.work m'.report m''.report m'.work m''.work y z p q in
      (same.0, λ i. record { report = same.1 i; work = same.2 i });
}
  where
    go : (file : List ℕ) (m m' : HostMemory) → ((run_host_call.checked file m).good → ⊥) → (z : ℤ) (p : run_host_call.Promise file m m' z)
        → (run_host_call.checked file m).good ⊎ ((q : Refusal) × (p.answer ≡ Err q))
        → (q : Refusal) × (z ≡ negated q) × (run_host_call.checked file m).due (told q)
    go file m m' n z p (inl a) = absurd (n a)
    go file m m' n z p (inr (q, e)) = (q, p.number ∙ ap handed e, (subst (FileAnswer file (length m.work) m.report m'.report) e p.runs.0).0)
