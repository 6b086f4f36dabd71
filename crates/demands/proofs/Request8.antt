-- Request 8 of document 02 holds: each field by citation. Assumes nothing.
use mathlib.Core.Path.{◌≡◌, refl, sym, subst₂}
use mathlib.Core.List.{List, ◌∷◌, []}
use mathlib.Core.Logic.{inl, inr}
use Prim.Native.Nat.{ℕ, ◌-◌}
use native.Mathlib.Omega.{arith}
use lib.ListN.{get_or}
use Rattle.answers.specs.Told.{tell, told}
use Rattle.answers.specs.Turns.{here, later}
use Rattle.answers.proofs.Turns.{lacks}
use Rattle.shapes.proofs.Lent.{shape_length}
use Rattle.laying.proofs.Shapes.{shape_part}
use Rattle.pairs.proofs.Pair.{pair_not}
use Rattle.tray_pairs.specs.Judged.{Judged}
use Rattle.tray_pairs.specs.Ranges.{pair_at, range}
use Rattle.tray_pairs.specs.declared.Pair.{Pair as TrayPair}
use Rattle.tray_pairs.proofs.Judged.{never, fourteen_only, record_refused, judged_one, as_single, cannot_sound, few_looks, no_looks}
use Rattle.tray_pairs.proofs.Ranges.{outside, four_numbers, empty_refused, left_over}
use Rattle.trays.proofs.Determined.{wrong_list, up_to_64}
use Rattle.demands.specs.Call.{sweep_tray, judge_pair}
use Rattle.demands.specs.Request8.{Request8}
use Rattle.demands.proofs.Refusals.{tray_pair, tray}
use Rattle.demands.proofs.Request1.{tells}

pub request_8 : Request8
request_8 = record {
  up_to_64 = λ g row row' r n few long room p. up_to_64 g.blocks g.pairs row row' r n few long room p;
  four_numbers = four_numbers;
  its_blocks = λ blocks r. shape_part r.first (r.past - r.first) blocks;
  judged = λ p. record { one_each = λ i l d. p.1.judged i l d; stay = (p.1.same_length, p.1.others) };
  pair_record = λ g r j. record {
    as_single = λ out out' s i d room. as_single g.blocks g.pair out out' r s i.first i.second room d j;
    cannot_sound = cannot_sound g.blocks g.pair j;
    few_looks = few_looks g.blocks g.pair j;
    no_looks = λ q v. no_looks g.blocks g.pair q j v;
  };
  own_record = λ {g} {h} {row' = row'} same p q i j l m e d.
      judged_one h.blocks (pair_at h.pairs j)
      (subst₂ (λ (bs : List ℕ) (u : TrayPair). Judged bs u (get_or row' i d)) same e (p.1.judged i l d)) (q.1.judged j m d);
  not_inside = outside;
  whole_blocks = λ blocks. sym (shape_length blocks);
  left_over = λ xs zs p whole few j k. judged_one xs p (left_over xs zs whole few p j) k;
  fourteen_first = λ g o. tells judge_pair g tt tray_pair.demand (λ a. o a.first) (here (lacks o));
  fourteen_second = λ g i o. tells judge_pair g tt tray_pair.demand (λ a. o a.second) (later i (here (lacks o)));
  fourteen_only = λ g q j n i. fourteen_only g.blocks g.pair (told q) (record_refused g.blocks g.pair q j) n i.first i.second;
  then_shapes = λ g t i d. tells judge_pair g tt tray_pair.demand (λ a. pair_not d a.shapes) (later i.first (later i.second d));
  empty_inside = λ n k h. record { forward = omega arith; within = h };
  empty_refused = λ n blocks k. empty_refused n blocks (range k k) (tell 1 n 0) refl refl;
  never_five = λ g q j n. never g.blocks g.pair 5 (omega arith, inl (omega arith)) (λ e. omega (arith, e)) (told q) (record_refused g.blocks g.pair q j) n;
  never_fifteen = λ g q j n. never g.blocks g.pair 15 (omega arith, inr (omega arith)) (λ e. omega (arith, e)) (told q) (record_refused g.blocks g.pair q j) n;
  wrong_list = wrong_list;
  fifteen = λ g row w. tells sweep_tray g row tray.demand (λ a. w a.list) (here (lacks w));
  then_five = λ g row right short.
      tells sweep_tray g row tray.demand (λ a. let room = a.row in omega arith) (later right (here (lacks (λ room. omega arith))));
}
