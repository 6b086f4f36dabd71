-- `fit_tables::add_place`: the bit of the place, in its word. Assumes nothing.
use mathlib.Core.Path.{refl, sym, ◌∙◌}
use Prim.Native.Nat.{◌%◌}
use native.Mathlib.Omega.{arith}
use Rattle.sets.proofs.Exact.{exactly_as, one_shl}
use Rattle.fit_tables.proofs.Table.{placed_more, seen_more}
use Rattle.fit_tables.proofs.add_place.Goals as goal

pub returns : goal.returns
returns c =
    let s = c in
    record {
      by_index = λ t e g. placed_more t _ _ g s.args.c _ _ (omega arith) (omega arith) e refl (one_shl (s.args.p % 64) (omega arith));
      by_index_2 = λ t e g. seen_more t _ _ g (exactly_as (λ q h. h ∙ sym e) (λ q h. h ∙ e) c.single.ensures) c.either.ensures;
    }
