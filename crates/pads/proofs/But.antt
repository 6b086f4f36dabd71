-- Equal but for a padding: with none of it equal, with blanks equal once trailing blanks are dropped. Assumes nothing.
use mathlib.Core.Path.{◌≡◌, refl, sym, ap, ap₂, ◌∙◌, subst}
use mathlib.Core.List.{List, [], ◌∷◌, ◌++◌, append-nil}
use mathlib.Core.Logic.{inl, inr, ⊎_swap, ⊎_map}
use Prim.Native.Nat.{ℕ, zero, suc, ◌≤◌}
use native.Mathlib.Omega.{arith}
use lib.Count.{count_trailing_zeros, count_leading_zeros}
use lib.Dec.{lit<}
use lib.ListN.{length, replicate}
use Rattle.bases.specs.Base.{Holds, Empty, least_of, greatest_of}
use Rattle.bases.proofs.Laws.{none_in_zero, least_of_lem, greatest_of_lem}
use Rattle.plain.specs.All.{All, more}
use Rattle.plain.proofs.All.{all_left}
use Rattle.texts.specs.Padding.{blank, Padded, BlanksBehind}
use Rattle.texts.proofs.Padding.{behind_padded, padded_behind}
use Rattle.pads.specs.But.{blanks, Behind, But}

-- ---- the base of the blank

pub holds_blank : Holds blanks blank
unfolding Holds
holds_blank = refl

some_blank : Empty blanks → ⊥
unfolding Empty
some_blank e = e blank holds_blank

pub blank_only : (c : ℕ) → Holds blanks c → c ≡ blank
unfolding least_of greatest_of count_trailing_zeros count_leading_zeros
blank_only c h =
    let l : 32 ≤ c = (least_of_lem blanks (lit< tt) some_blank).least c h in
    let g : c ≤ 32 = (greatest_of_lem blanks (lit< tt) some_blank).greatest c h in
    omega arith

-- ---- equal but for a padding

pub but_turned : {pad : ℕ} {t u : List ℕ} → But pad t u → But pad u t
but_turned b = ⊎_swap b

-- with no padding: equal

no_rest : {l : List ℕ} → All (Holds 0) l → l ≡ []
unfolding Empty
no_rest All.none = refl
no_rest (more h a) = absurd (none_in_zero _ h)

behind_nothing : {t u : List ℕ} → Behind 0 t u → t ≡ u
behind_nothing {u} b = b.joined ∙ ap (λ (l : List ℕ). u ++ l) (no_rest b.held) ∙ append-nil u

pub but_nothing : {t u : List ℕ} → But 0 t u → t ≡ u
but_nothing (inl b) = behind_nothing b
but_nothing (inr b) = sym (behind_nothing b)

pub nothing_but : {t u : List ℕ} → t ≡ u → But 0 t u
nothing_but {u} e = inl (record { rest = []; held = All.none; joined = e ∙ sym (append-nil u) })

-- with the blank as padding: padded-equal

blanks_all : (n : ℕ) → All (Holds blanks) (replicate n blank)
blanks_all zero = All.none
blanks_all (suc n) = more holds_blank (blanks_all n)

all_blanks : {l : List ℕ} → All (Holds blanks) l → l ≡ replicate (length l) blank
all_blanks All.none = refl
all_blanks (more h a) = ap₂ ◌∷◌ (blank_only _ h) (all_blanks a)

pub behind_blanks : {t u : List ℕ} → Behind blanks t u → BlanksBehind t u
behind_blanks {u} b = record { number = length b.rest; joined = b.joined ∙ ap (λ (l : List ℕ). u ++ l) (all_blanks b.held) }

pub blanks_behind : {t u : List ℕ} → BlanksBehind t u → Behind blanks t u
blanks_behind b = record { rest = replicate b.number blank; held = blanks_all b.number; joined = b.joined }

pub but_blanks : {t u : List ℕ} → But blanks t u → Padded t u
but_blanks b = behind_padded (⊎_map behind_blanks behind_blanks b)

pub blanks_but : {t u : List ℕ} → Padded t u → But blanks t u
blanks_but e = ⊎_map blanks_behind blanks_behind (padded_behind e)

-- ---- of one text with padding behind

behind_more : {pad c d : ℕ} {t u : List ℕ} → c ≡ d → Behind pad t u → Behind pad (c ∷ t) (d ∷ u)
behind_more e b = record { rest = b.rest; held = b.held; joined = ap₂ ◌∷◌ e b.joined }

pub but_common : {pad : ℕ} (t u : List ℕ) {y z : List ℕ} → All (Holds pad) y → All (Holds pad) z → t ++ y ≡ u ++ z → But pad t u
but_common {pad} [] u {y} {z} a b e = inr (record { rest = u; held = all_left u z (subst (All (Holds pad)) e a); joined = refl })
but_common {pad} (c ∷ t) [] {y} {z} a b e = inl (record { rest = c ∷ t; held = all_left (c ∷ t) y (subst (All (Holds pad)) (sym e) b); joined = refl })
but_common {pad} (c ∷ t) (d ∷ u) {y} {z} a b e =
    let same : c ≡ d = cc in
    let rests : t ++ y ≡ u ++ z = cc in
    ⊎_map (behind_more same) (behind_more (sym same)) (but_common t u a b rests)
