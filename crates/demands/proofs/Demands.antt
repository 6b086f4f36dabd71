-- The user's three demands hold: each field by citation. Assumes nothing.
use Rattle.std.specs.Prelude.{Ok}
use mathlib.Core.Path.{◌≡◌, refl, sym, ap, ◌∙◌, subst}
use mathlib.Core.List.{List}
use Prim.Native.Nat.{ℕ}
use lib.ListN.{take, drop}
use lib.Seq.{take_at}
use Rattle.extreme_steps.specs.declared.Direction.{Direction}
use Rattle.extreme_steps.specs.declared.Direction.TheVariants.{Least, Greatest}
use Rattle.extremes.specs.Extreme.{ExtremePromise, Extreme}
use Rattle.extreme_steps.specs.Steps.{extreme}
use Rattle.shapes.specs.Lent.{shape_of}
use Rattle.texts.specs.Order.{AtMost, Before}
use Rattle.texts.specs.Padding.{Padded}
use Rattle.texts.specs.Case.{AnyCase}
use Rattle.book_steps.proofs.Standing.{standing_first}
use Rattle.groups.proofs.Own.{own_accepted}
use Rattle.dashed.proofs.Determined.{earlier_determined}
use Rattle.extremes.proofs.Order.{of_least, of_greatest}
use Rattle.demands.specs.Call.{counts_and_rules, AcceptedWith}
use Rattle.demands.specs.Calls.{Calls}
use Rattle.demands.specs.Demands.{Demand1, Demand2, Demand3}
use Rattle.demands.proofs.Refusals as refusals
use Rattle.demands.proofs.Narrowed.{exact_two, exact_join}
use Rattle.demands.proofs.Sequences.{all_right, alone_stable, stable_alone, calls_agree, permuted_agree, calls_widest, calls_none, calls_accepted}
use Rattle.demands.proofs.Choices.{choice_kept}
use Rattle.demands.proofs.Groups.{agrees, stable_calls, none_calls, run_keeps}

pub demand_1 : Demand1
demand_1 = record {
  check_shape = (refusals.check_shape).demand;
  fits = (refusals.fits).demand;
  least = (refusals.text Least).demand;
  greatest = (refusals.text Greatest).demand;
  find = (refusals.find).demand;
  sweep = (refusals.sweeps).demand;
  tray = (refusals.tray).demand;
  tray_pair = (refusals.tray_pair).demand;
  padded = (refusals.narrow Padded).demand;
  exact = (refusals.narrow (λ t u. t ≡ u)).demand;
  any_case = (refusals.narrow AnyCase).demand;
  at_most = (refusals.narrow AtMost).demand;
  before = (refusals.narrow Before).demand;
  join = (refusals.join).demand;
  common_text = (refusals.common_text).demand;
  run_book = (refusals.run_book).demand;
  run_file = (refusals.run_file).demand;
  run_host = refusals.run_host;
  earlier = earlier_determined;
}

-- ---- demand 2

-- the text at the start of the output
pub written : (d : Direction) {xs out out' : List ℕ} (n : ℕ) → ExtremePromise d xs out out' (Ok n) → take n out' ≡ extreme d (shape_of xs)
written d {out} n p = ap (take n) p.bytes ∙ take_at _ (drop n out) n (sym p.length_is)

pub meant : (d : Direction) {xs out out' : List ℕ} (n : ℕ) → ExtremePromise d xs out out' (Ok n) → Extreme d (shape_of xs) (take n out')
meant d n p = subst (Extreme d _) (sym (written d n p)) p.meaning

pub demand_2 : Demand2
demand_2 = record {
  fits_yes = λ xs t p. p.1;
  fits_no = λ xs t p. p.1;
  least = λ n p. let m = meant Least n p in (m.fits, λ u f. of_least (m.first u f));
  greatest = λ n p. let m = meant Greatest n p in (m.fits, λ u f. of_greatest (m.first u f));
  padded = exact_two Padded;
  exact = exact_two (λ t u. t ≡ u);
  any_case = exact_two AnyCase;
  at_most = exact_two AtMost;
  before = exact_two Before;
  join = exact_join;
  sweep_places = λ k p. (p.answer, p.output);
  sweep_cannot = λ k p. (p.answer, p.output);
  cannot_sound = λ k p. p.meaning.none k refl;
}

-- ---- demand 3

pub demand_3 : Demand3
demand_3 = record {
  agree = λ a w r s. calls_agree a.counted.each (all_right a.right) (standing_first a) w r s;
  own_book = λ a o. own_accepted o a;
  runner_stable = λ n w t r. let s = stable_calls w t in (s.1, agrees t w r s.2, s.5);
  runner_none = λ n w t r. agrees t w r (none_calls w t).1;
  runner_calls_stable = λ n w t. let s = stable_calls w t in (s.0, s.1, s.2, s.3, s.4);
  runner_calls_none = λ n w t. none_calls w t;
  permuted = λ {g} {blocks = blocks} {js = js} {w = w} {e = e} same to from a b n r s.
      permuted_agree (subst (λ (c : List ℕ). AcceptedWith (counts_and_rules c g.rules) blocks w) same a) b n to from
      (subst (λ (c : List ℕ). Calls (counts_and_rules c g.rules) blocks js e) same r) s;
  widest = λ a w r. calls_widest a.counted.each (all_right a.right) (standing_first a) w r;
  none_wide = λ a r. calls_none a.counted.each (all_right a.right) (standing_first a) r;
  stable_left = λ a w. (
    stable_alone a.counted.each (all_right a.right) (standing_first a) a.right w,
    alone_stable a.counted.each (all_right a.right) (standing_first a),
  );
  accepted_on = calls_accepted;
  none_lost = λ a w r c. choice_kept (all_right a.right) (standing_first a) a.counted.each w r c;
  runner_keeps = λ w p c. run_keeps p w c;
}
