-- `fit_tables::add_places`: one place more each turn. Assumes nothing.
use mathlib.Core.Path.{◌≡◌, refl, subst}
use Prim.Native.Nat.{ℕ, ◌-◌}
use native.Mathlib.Omega.{arith}
use lib.ListN.{length}
use Rattle.sets.specs.Set.{set_of}
use Rattle.fit_rows.specs.Rows.{Placed, SeenTo}
use Rattle.fit_tables.proofs.Table.{placed_none, placed_rows}
use Rattle.fit_tables.proofs.add_places.Goals as goal

pub loop-p-init : goal.loop-p-init
loop-p-init c = (placed_none _ _ c.requires.table_value, λ q l. absurd (omega arith))

pub add_place-seen-requires : goal.add_place-seen-requires
add_place-seen-requires c =
    let l = c in
    let room = l.requires.text_in_bounds in
    let same = l.loop-p.auto.table in
    record {
      c_lt_codes = omega (arith, c.type_inv.text l.loop-p.p);
      p_in_bounds = omega arith;
    }

pub loop-p-preserved : goal.loop-p-preserved
loop-p-preserved c =
    let placed = c.add_place-seen.ensures in
    let l = c in
    let t = l.args.text.now in
    (placed.by_index t refl l.loop-p.invariant.0, placed.by_index_2 t refl l.loop-p.invariant.1)

pub returns : goal.returns
returns c =
    let l = c.loop-p in
    let s = c in
    let t = s.args.text.now in
    let few = s.requires.text_len_bound in
    let end : l.p ≡ length t = omega arith in
    record {
      places_of = placed_rows t _ (omega arith) (subst (λ (k : ℕ). Placed t k l.table) end l.invariant.0);
      seen_to = subst (λ (k : ℕ). SeenTo t k (set_of l.seen)) end l.invariant.1;
    }
