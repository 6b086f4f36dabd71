-- One input has one refusal, and none where it is accepted; one answer, and one row. Assumes nothing.
use mathlib.Core.Path.{◌≡◌, refl, sym, ap, ◌∙◌, subst}
use mathlib.Core.List.{List}
use mathlib.Core.Logic.{◌⊎◌, inl, inr, ◌↔◌}
use Prim.Native.Nat.{ℕ, ◌+◌, ◌-◌, ◌*◌, ◌/◌, ◌%◌, ◌≤◌, ◌<◌}
use Rattle.plain.proofs.Plain.{lt_or_le, eq_or_ne}
use native.Mathlib.Omega.{arith}
use lib.ListN.{length, get_or}
use lib.Seq.{get_or-drop, ext_get_or}
use Rattle.std.specs.Prelude.{Result, Ok, Err}
use Rattle.answers.specs.Told.{Told}
use Rattle.answers.specs.Turns.{in_turn}
use Rattle.answers.specs.declared.AnswerRecord.{AnswerRecord}
use Rattle.answers.specs.declared.SweepVerdict.{SweepVerdict}
use Rattle.answers.specs.declared.Refusal.{Refusal}
use Rattle.answers.proofs.Told.{told_one}
use Rattle.answers.proofs.Turns.{OneOf, need_one, in_turn_one}
use Rattle.tray_pairs.specs.Ranges.{pair_size, pair_at}
use Rattle.tray_pairs.proofs.Judged.{judged_one}
use Rattle.trays.specs.Tray.{RightList, tray_turns, TrayRefused, TrayAccepted, Filled, TrayPromise}

module _ {listed room : ℕ} where
  of_tray : OneOf (in_turn (TrayAccepted listed room) (tray_turns listed room))
  of_tray = in_turn_one (tray_turns listed room) (need_one, (need_one, tt)) (λ a. (a.list, (a.row, tt)))

  pub tray_refused_one : {t u : Told} → TrayRefused listed room t → TrayRefused listed room u → t ≡ u
  tray_refused_one p q = of_tray.one p q

  pub tray_refused_not : {t : Told} → TrayRefused listed room t → TrayAccepted listed room → ⊥
  tray_refused_not p a = of_tray.not p a

-- a list is wrong if its numbers are no whole pairs or more than 64
pub wrong_list : (listed : ℕ) → (RightList listed → ⊥) ↔ ((listed % pair_size ≡ 0 → ⊥) ⊎ (64 < listed / pair_size))
wrong_list listed = ((λ w. to w (eq_or_ne (listed % pair_size) 0) (lt_or_le 64 (listed / pair_size))), from)
  where
    to : (RightList listed → ⊥) → (listed % pair_size ≡ 0) ⊎ (listed % pair_size ≡ 0 → ⊥) → (64 < listed / pair_size) ⊎ (listed / pair_size ≤ 64)
        → (listed % pair_size ≡ 0 → ⊥) ⊎ (64 < listed / pair_size)
    to w (inr n) _ = inl n
    to w (inl e) (inl l) = inr l
    to w (inl e) (inr f) = absurd (w (record { whole = e; few = f }))

    from : (listed % pair_size ≡ 0 → ⊥) ⊎ (64 < listed / pair_size) → RightList listed → ⊥
    from (inl n) l = n l.whole
    from (inr h) l = let f = l.few in omega arith

-- up to 64 pairs with a record each are judged
pub up_to_64 : (blocks pairs : List ℕ) (row row' : List AnswerRecord) (r : Result Unit Refusal) (n : ℕ) → n ≤ 64 → length pairs ≡ n * pair_size → n ≤ length row
    → TrayPromise blocks pairs row row' r → r ≡ Ok tt
up_to_64 blocks pairs row row' (Ok _) n few long room p = refl
up_to_64 blocks pairs row row' (Err q) n few long room p =
    absurd (tray_refused_not p.0 (record { list = record { whole = omega (arith, long); few = omega (arith, long) }; row = omega (arith, long) }))

-- two rows filled from one
module _ {blocks pairs : List ℕ} {n : ℕ} {row row' row'' : List AnswerRecord} (f : Filled blocks pairs n row row') (g : Filled blocks pairs n row row'') where
  same_at : (d : AnswerRecord) (i : ℕ) → (i < n) ⊎ (n ≤ i) → get_or row' i d ≡ get_or row'' i d
  same_at d i (inl l) = judged_one blocks (pair_at pairs i) (f.judged i l d) (g.judged i l d)
  same_at d i (inr h) =
      let e : n + (i - n) ≡ i = omega arith in
      subst (λ (k : ℕ). get_or row' k d ≡ get_or row'' k d) e
      (sym (get_or-drop n row' (i - n) d) ∙ ap (λ (l : List AnswerRecord). get_or l (i - n) d) (f.others ∙ sym g.others) ∙ get_or-drop n row'' (i - n) d)

  filled_one : row' ≡ row''
  filled_one =
      let d : AnswerRecord = record { verdict = Ok SweepVerdict.Cannot; looks = 0 } in
      ext_get_or d row' row'' (f.same_length ∙ sym g.same_length) (λ i h. same_at d i (lt_or_le i n))

pub tray_determined : (blocks pairs : List ℕ) (row row' row'' : List AnswerRecord) (r s : Result Unit Refusal) → TrayPromise blocks pairs row row' r → TrayPromise blocks pairs row row'' s
    → (r ≡ s) × (row' ≡ row'')
tray_determined blocks pairs row row' row'' (Ok _) (Ok _) p q = (refl, filled_one p.1 q.1)
tray_determined blocks pairs row row' row'' (Ok _) (Err s) p q = absurd (tray_refused_not q.0 p.0)
tray_determined blocks pairs row row' row'' (Err r) (Ok _) p q = absurd (tray_refused_not p.0 q.0)
tray_determined blocks pairs row row' row'' (Err r) (Err s) p q = (ap Err (told_one r s (tray_refused_one p.0 q.0)), p.1 ∙ sym q.1)
