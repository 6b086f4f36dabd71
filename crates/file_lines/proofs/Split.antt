-- Bytes parted at a byte. Assumes nothing.
use mathlib.Core.Path.{◌≡◌, refl, sym, ap, ◌∙◌, subst}
use mathlib.Core.List.{List, [], ◌∷◌, ◌++◌}
use Prim.Native.Nat.{ℕ, suc, ◌+◌}
use native.Mathlib.Numerals.{add-one}
use native.Mathlib.Omega.{arith}
use lib.ListN.{take, drop}
use lib.Seq.{split_at}
use Rattle.plain.specs.All.All.{none, more}
use Rattle.plain.proofs.All.{all_right, all_head}
use Rattle.file_lines.specs.Lines.{Without, First, Says, SaysNone, Opens, OpensNone}

-- the front of a list, and the rest
pub head_one : {A : Type 0} {a b : A} {s t : List A} → ◌≡◌ {A = List A} (a ∷ s) (b ∷ t) → a ≡ b
head_one e = cc

pub tail_one : {A : Type 0} {a b : A} {s t : List A} → ◌≡◌ {A = List A} (a ∷ s) (b ∷ t) → s ≡ t
tail_one e = cc

-- two ways to part bytes at the first b are one
pub parted : (b : ℕ) (x y s t : List ℕ) → Without b x → Without b y → x ++ b ∷ s ≡ y ++ b ∷ t → (x ≡ y) × (s ≡ t)
parted b [] [] s t none none e = (refl, tail_one e)
parted b [] (c ∷ y) s t none (more h g) e = absurd (h (sym (head_one e)))
parted b (c ∷ x) [] s t (more h g) none e = absurd (h (head_one e))
parted b (c ∷ x) (d ∷ y) s t (more h g) (more k l) e =
    let r = parted b x y s t g l (tail_one e) in
    (λ i. head_one e i ∷ r.0 i, r.1)

pub first_split : (b : ℕ) (t : List ℕ) (i : ℕ) → First b t i → t ≡ take i t ++ b ∷ drop (i + 1) t
first_split b t i f =
    split_at t i 0 f.within ∙ ap (λ (c : ℕ). take i t ++ c ∷ drop (suc i) t) f.there ∙ ap (λ (k : ℕ). take i t ++ b ∷ drop k t) (sym (add-one i))

-- the first b is where any parting without b before it parts
pub first_parts : (b : ℕ) (t : List ℕ) (i : ℕ) (x s : List ℕ) → First b t i → Without b x → t ≡ x ++ b ∷ s → (take i t ≡ x) × (drop (i + 1) t ≡ s)
first_parts b t i x s f w e = parted b (take i t) x (drop (i + 1) t) s f.before w (sym (first_split b t i f) ∙ e)

pub none_parts : (b : ℕ) (t x s : List ℕ) → Without b t → t ≡ x ++ b ∷ s → ⊥
none_parts b t x s w e = all_head (all_right x (b ∷ s) (subst (Without b) e w)) refl

-- what the bytes before the first b say, the bytes begin with
module _ {X : Type 0} (b : ℕ) (Right : X → Type 0) (text : X → List ℕ) (t : List ℕ) where
  pub leads_is : (i : ℕ) (x : X) → First b t i → Says Right text (take i t) x → Opens b Right text t x (i + 1)
  leads_is i x f s =
      record { right = s.0; within = let h = f.within in omega arith; split = first_split b t i f ∙ ap (λ (u : List ℕ). u ++ b ∷ drop (i + 1) t) s.1 }

  -- they say nothing right
  pub leads_none : ((x : X) → Right x → Without b (text x)) → (i : ℕ) → First b t i → SaysNone Right text (take i t) → OpensNone b Right text t
  leads_none w i f s x after h e = s x h (first_parts b t i (text x) after f (w x h) e).0

  -- there is no b
  pub leads_missing : Without b t → OpensNone b Right text t
  leads_missing w x after h e = none_parts b t (text x) after w e
