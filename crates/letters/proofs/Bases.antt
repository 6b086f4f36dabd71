-- A base with both cases of each of its letters. Assumes nothing.
use mathlib.Core.Path.{◌≡◌, refl, sym, ◌∙◌}
use Prim.Native.Nat.{ℕ, ◌^◌, ◌<◌}
use Rattle.bases.specs.Base.{Holds, Empty, Meets, codes}
use Rattle.sets.specs.Set.{Exactly}
use Rattle.sets.proofs.Exact.{held_under, under_held}
use Rattle.texts.specs.Case.{lowered}
use Rattle.texts.proofs.Letters.{like_small}
use Rattle.letters.specs.Case.{SomeCase, MeetsAnyCase}

-- it has what the base has
pub some_held : {b c : ℕ} → Holds b c → SomeCase b c
some_held {c = c} h = record { like = c; held = h; same = refl }

-- it has what counts as one that it has
pub some_like : {b c d : ℕ} → lowered c ≡ lowered d → SomeCase b c → SomeCase b d
some_like e s = record { like = s.like; held = s.held; same = s.same ∙ e }

module _ {b w : ℕ} (x : Exactly w (SomeCase b)) where
  pub both_small : b < 2 ^ codes → w < 2 ^ codes
  both_small h = under_held codes (λ c m. let s = x.so c m in like_small s.like c s.same (held_under codes h s.like s.held))

  pub both_empty : Empty b → Empty w
  unfolding Empty
  both_empty e c m = let s = x.so c m in e s.like s.held

  pub empty_both : Empty w → Empty b
  unfolding Empty
  empty_both e c m = e c (x.has c (some_held m))

  -- two bases can stand for one character, whatever its case, exactly if they meet once both cases are added to each
  module _ {a v : ℕ} (y : Exactly v (SomeCase a)) where
    pub meets_any : Meets w v → MeetsAnyCase b a
    meets_any m =
        let p = x.so m.shared m.first in
        let q = y.so m.shared m.second in
        record { first = p.like; second = q.like; in_first = p.held; in_second = q.held; same = p.same ∙ sym q.same }

    pub any_meets : MeetsAnyCase b a → Meets w v
    any_meets m = record {
      shared = m.second;
      first = x.has m.second (record { like = m.first; held = m.in_first; same = m.same });
      second = y.has m.second (some_held m.in_second);
    }
