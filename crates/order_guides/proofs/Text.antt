-- The guide of a text, as the code asks for it. Assumes nothing.
use mathlib.Core.Path.{◌≡◌, sym, ap, ◌∙◌, subst}
use mathlib.Core.Bool.{Bool, true, false, not}
use mathlib.Core.List.{List}
use mathlib.Core.Logic.{⊎_elim}
use Prim.Native.Nat.{ℕ, ◌+◌, ◌-◌, ◌^◌, ◌≤◌, ◌<◌}
use native.Mathlib.Omega.{arith}
use lib.ListN.{length, get_or, take, length-take}
use lib.Seq.{get_or-take}
use Rattle.plain.specs.Tells.{Tells}
use Rattle.plain.proofs.Plain.{lt_or_le}
use Rattle.plain.proofs.Tells.{tells_true, tells_false}
use Rattle.sets.specs.Set.{Exactly}
use Rattle.sets.proofs.Exact.{exactly_as, exactly_one, one_exactly, ones_exactly}
use Rattle.extreme_steps.specs.declared.Direction.{Direction}
use Rattle.extreme_steps.specs.declared.Direction.TheVariants.{Least, Greatest}
use Rattle.order_guides.specs.Guide.{beyond_of, past_of, shorter_of, level_of, next_of, apart_of, guide_of, Steady}
use Rattle.order_guides.proofs.Guide.{above_exactly, next_here, next_past, apart_here, apart_past, steady_run}

-- ---- one state

module _ (text : List ℕ) (q : ℕ) where
  pub next_code : (n c : ℕ) → q < length text → c ≡ get_or text q 0 → Exactly n (λ e. e ≡ c) → n ≡ next_of text q
  next_code n c h e x = exactly_one x (one_exactly c) ∙ ap (λ (z : ℕ). 2 ^ z) e ∙ sym (next_here text q h)

  pub next_none : (n : ℕ) → length text ≤ q → n ≡ 0 → n ≡ next_of text q
  next_none n h e = e ∙ sym (next_past text q h)

  module _ (d : Direction) where
    pub apart_code : (n c : ℕ) → q < length text → c ≡ get_or text q 0 → n ≡ beyond_of d c → n ≡ apart_of d text q
    apart_code n c h e x = x ∙ ap (beyond_of d) e ∙ sym (apart_here text q d h)

    pub apart_none : (n : ℕ) → length text ≤ q → n ≡ past_of d → n ≡ apart_of d text q
    apart_none n h e = e ∙ sym (apart_past text q d h)

-- ---- by direction

module _ {d : Direction} (n c : ℕ) where
  pub below_code : d ≡ Least → Exactly n (λ e. e < c) → n ≡ beyond_of d c
  below_code e x = exactly_one x (ones_exactly c) ∙ sym (ap (λ (z : Direction). beyond_of z c) e)

  pub above_code : d ≡ Greatest → Exactly n (λ e. (c + 1 ≤ e) × (e < 256)) → n ≡ beyond_of d c
  above_code e x = exactly_one (exactly_as (λ e h. (h.1, let l = h.0 in omega arith)) (λ e h. (let l = h.1 in omega arith, h.0)) x) (above_exactly c)
      ∙ sym (ap (λ (z : Direction). beyond_of z c) e)

module _ {d : Direction} (n : ℕ) where
  pub past_none : d ≡ Least → n ≡ 0 → n ≡ past_of d
  past_none e x = x ∙ sym (ap past_of e)

  pub past_all : d ≡ Greatest → Exactly n (λ e. e < 256) → n ≡ past_of d
  past_all e x = exactly_one x (ones_exactly 256) ∙ sym (ap past_of e)

-- ---- whether a text may end

pub tells_at : {r : Bool} {a b : ℕ} → a ≡ b → Tells r (0 < b) → Tells r (0 < a)
tells_at {r} e t = subst (λ (z : ℕ). Tells r (0 < z)) (sym e) t

pub tells_level : (strict : Bool) → Tells (not strict) (0 < level_of strict)
tells_level true = tells_false (λ h. omega arith)
tells_level false = tells_true (omega arith)

pub tells_shorter : {d e : Direction} {r : Bool} → d ≡ e → Tells r (0 < shorter_of e) → Tells r (0 < shorter_of d)
tells_shorter {r = r} e t = subst (λ (z : Direction). Tells r (0 < shorter_of z)) (sym e) t

-- ---- from where on the guide says the same

-- before hi - 1 all from lo on is c, and so is it there
pub run_steady : (text : List ℕ) (d : Direction) (strict : Bool) (lo hi c : ℕ) → 0 < hi → hi ≤ length text → c ≡ get_or text (hi - 1) 0
    → ((q : ℕ) → lo ≤ q → q < length (take (hi - 1) text) → get_or (take (hi - 1) text) q 0 ≡ c) → Steady (guide_of d strict text) lo hi
run_steady text d strict lo hi c z w e f = steady_run d strict text lo hi w (λ q h g. ⊎_elim (λ l. at q h l ∙ e) (λ l. ap (λ (i : ℕ). get_or text i 0) (let s : q ≡ hi - 1 = omega arith in s)) (lt_or_le q (hi - 1)))
  where
    long : length (take (hi - 1) text) ≡ hi - 1
    long = simp length-take (omega arith)

    at : (q : ℕ) → lo ≤ q → q < hi - 1 → get_or text q 0 ≡ c
    at q h l = sym (get_or-take (hi - 1) text q 0 l) ∙ f q h (omega (arith, long))

-- ---- one character after another that is the same

pub next_same : (text : List ℕ) (q : ℕ) → 0 < q → q < length text → get_or text q 0 ≡ get_or text (q - 1) 0 → next_of text (q - 1) ≡ next_of text q
next_same text q z h e =
    next_here text (q - 1) (omega arith) ∙ ap (λ (c : ℕ). 2 ^ c) (sym e) ∙ sym (next_here text q h)
