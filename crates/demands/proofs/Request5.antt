-- Request 5 of document 02 holds: each field by citation. Assumes nothing.
use mathlib.Core.Path.{◌≡◌}
use Prim.Native.Nat.{ℕ}
use native.Mathlib.Omega.{arith}
use Rattle.texts.specs.Padding.{Padded}
use Rattle.texts.specs.Kind.{relation_of}
use Rattle.texts.proofs.Padding.{padded_refl, padded_sym, padded_trans, padded_equal, padded_blanks, blanks_empty, trimmed_blanks, padded_behind, behind_padded, leading_counts, inner_counts, none_left, orders_count, orders_count_back}
use Rattle.demands.specs.Request5.{Request5}
use Rattle.demands.proofs.Relations.{beside_exact}
use Rattle.books.proofs.Asks.{relates_asks, right_as}
use Rattle.demands.proofs.Cannot.{cannot_no_ground}

pub request_5 : Request5
unfolding relation_of
request_5 = record {
  kind_0 = λ t u. (λ e. e, λ e. e);
  dropped = trimmed_blanks;
  none_left = none_left;
  blanks_empty = blanks_empty;
  kind_4 = λ t u. (λ e. e, λ e. e);
  equality = record { reflexive = padded_refl; symmetric = padded_sym; transitive = padded_trans; equal_texts = λ t u. padded_equal };
  blanks_behind = padded_blanks;
  one_with_blanks = λ t u. (padded_behind, behind_padded);
  leading_counts = leading_counts;
  inner_counts = inner_counts;
  orders_count = orders_count;
  orders_count_back = orders_count_back;
  cannot_no_ground = cannot_no_ground;
  beside_exact = beside_exact Padded (λ t u. padded_equal);
  asks_padded = λ t text e. relates_asks t text 0 e (λ (z : ◌≡◌ {A = ℕ} 0 3). omega arith);
  asks_exact = λ t text e. relates_asks t text 4 e (λ (z : ◌≡◌ {A = ℕ} 4 3). omega arith);
  four_right = λ counts a b c. (
    right_as counts 4 0 a b c (omega arith) (λ (z : ◌≡◌ {A = ℕ} 0 3). omega arith) (λ (z : ◌≡◌ {A = ℕ} 4 3). omega arith),
    right_as counts 0 4 a b c (omega arith) (λ (z : ◌≡◌ {A = ℕ} 4 3). omega arith) (λ (z : ◌≡◌ {A = ℕ} 0 3). omega arith),
  );
}
