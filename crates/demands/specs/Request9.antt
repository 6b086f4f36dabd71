-- Document 02, order 9, a field for each sentence: equality but for letter case. m is the memory of the call of kind 5,
-- n that of the exact one; w are the shapes s with both cases of each letter.
use Rattle.std.specs.Prelude.{◌≡◌, List, [], ◌∷◌, ◌++◌, map, ◌⊎◌, ◌↔◌, ℕ, ◌+◌, ◌^◌, ◌≤◌, ◌<◌, length, replicate, Result, Ok, Err}
use Rattle.answers.specs.declared.Refusal.{Refusal}
use Rattle.answers.specs.declared.Narrowed.{Narrowed}
use Rattle.answers.specs.declared.Swept.{Swept}
use Rattle.bases.specs.Base.{Meets}
use Rattle.sets.specs.Set.{Exactly}
use Rattle.shapes.specs.Shape.{Block}
use Rattle.shapes.specs.Lent.{shape_of}
use Rattle.texts.specs.Padding.{blank}
use Rattle.texts.specs.Case.{lowered, AnyCase}
use Rattle.texts.specs.Kind.{relation_of, any_case_kind, last_kind}
use Rattle.letters.specs.Case.{SomeCase, MeetsAnyCase}
use Rattle.case_blocks.specs.Case.{Wide, Cuts, CasesStay}
use Rattle.rules.specs.declared.Rule.{Rule}
use Rattle.rules.specs.Rule.{rule_with}
use Rattle.hulls.specs.Book.{Within}
use Rattle.pairs.specs.Pair.{PairAccepted}
use Rattle.books.specs.Rules.{RightRule, Keeps}
use Rattle.demands.specs.Call.{Two, sweep, NarrowMemory, new_shape, HasRoom, narrow_exact, narrow_any_case}
use Rattle.demands.specs.Request5.{Equality, BesideExact}

-- As lent: the capital N alone, and the small one.
abbrev pub capital_unit : List ℕ
capital_unit = 0 ∷ 2 ^ 14 ∷ 0 ∷ 0 ∷ 1 ∷ 1 ∷ []

abbrev pub small_unit : List ℕ
small_unit = 0 ∷ 2 ^ 46 ∷ 0 ∷ 0 ∷ 1 ∷ 1 ∷ []

abbrev pub units : Two
units = record { x = capital_unit; y = small_unit }

-- Both shapes with both cases of each letter.
pub record WideBoth (s w : Two) : Type 0 where
  pub first : Wide (shape_of s.x) (shape_of w.x)
  pub second : Wide (shape_of s.y) (shape_of w.y)

pub record Request9 : Type 0 where
  -- "Kind 5 is equality in which A to Z count as a to z, on both sides"
  pub kind_5 : (t u : List ℕ) → relation_of any_case_kind t u ↔ (map lowered t ≡ map lowered u)
  pub capitals : (c : ℕ) → 65 ≤ c → c ≤ 90 → lowered c ≡ c + 32
  pub others : (c : ℕ) → (c < 65) ⊎ (90 < c) → lowered c ≡ c
  -- it is an equality, in which equal texts are equal
  pub equality : Equality any_case_kind
  -- "trailing blanks count in it, as in kind 4": two such texts
  -- are of one length, and none is one with blanks behind it
  pub same_length : (t u : List ℕ) → relation_of any_case_kind t u → length t ≡ length u
  pub trailing_counts : (t : List ℕ) (n : ℕ) → relation_of any_case_kind (t ++ replicate (n + 1) blank) t → ⊥
  -- "Whether two bases can stand for one character is therefore asked with or without regard
  -- to case": with both cases of each letter added, which every base can have, they meet
  -- exactly if a character of the one and a character of the other are equal but for case
  pub both_cases : (b : ℕ) → (w : ℕ) × Exactly w (SomeCase b)
  pub bases_meet : {a b v w : ℕ} → Exactly v (SomeCase a) → Exactly w (SomeCase b) → Meets v w ↔ MeetsAnyCase a b
  -- "and all that relies on it follows": kind 5 is none exactly if kind 4 is for the shapes with both cases; else it
  -- has its counts, and of its characters those entered
  pub none_follows : {s w : Two} {m m' n n' : NarrowMemory} → WideBoth s w
      → narrow_any_case.Promise s m m' (Ok Narrowed.None) → narrow_exact.Promise w n n' (Ok Narrowed.Narrow) → ⊥
  pub pair_follows : {s w : Two} {m m' n n' : NarrowMemory} → WideBoth s w
      → narrow_any_case.Promise s m m' (Ok Narrowed.Narrow) → narrow_exact.Promise w n n' (Ok Narrowed.None) → ⊥
  pub blocks_follow : {s w : Two} {m m' n n' : NarrowMemory} → WideBoth s w
      → narrow_any_case.Promise s m m' (Ok Narrowed.Narrow) → narrow_exact.Promise w n n' (Ok Narrowed.Narrow)
      → Cuts (shape_of s.x) (new_shape w.x n'.out_x) (new_shape s.x m'.out_x)
      × Cuts (shape_of s.y) (new_shape w.y n'.out_y) (new_shape s.y m'.out_y)
  -- "The narrowed bases keep the letters in the cases the shape entered them with": no base has a letter in another
  -- case, and each has it in all that were entered
  pub no_other_case : {s : Two} {m m' : NarrowMemory} → narrow_any_case.Promise s m m' (Ok Narrowed.Narrow)
      → Within (new_shape s.x m'.out_x) (shape_of s.x) × Within (new_shape s.y m'.out_y) (shape_of s.y)
  pub cases_stay : {s : Two} {m m' : NarrowMemory} → narrow_any_case.Promise s m m' (Ok Narrowed.Narrow)
      → CasesStay (shape_of s.x) (new_shape s.x m'.out_x) × CasesStay (shape_of s.y) (new_shape s.y m'.out_y)
  -- so two shapes that differ in the case of letters alone both stay as
  -- they were entered, whatever memory is lent, as long as there is room
  pub both_stay : (s : Two) (m m' : NarrowMemory) {W : List Block} (r : Result Narrowed Refusal) → Wide (shape_of s.x) W → Wide (shape_of s.y) W
      → PairAccepted s.x s.y → HasRoom s m → narrow_any_case.Promise s m m' r
      → (r ≡ (Ok Narrowed.Narrow)) × (new_shape s.x m'.out_x ≡ shape_of s.x) × (new_shape s.y m'.out_y ≡ shape_of s.y)
  -- "Kind 4 and the sweep answer as before", with regard to case: of N
  -- and n the sweep says cannot and kind 4 none, where kind 5 narrows
  pub as_before : (out out' : List ℕ) (m m' n n' : NarrowMemory) (r : Result Swept Refusal) (u q : Result Narrowed Refusal)
      → sweep.Promise units out out' r → narrow_exact.Promise units n n' u → narrow_any_case.Promise units m m' q
      → 2 ≤ length out → HasRoom units n → HasRoom units m → (r ≡ Ok (Swept.Cannot 1)) × (u ≡ (Ok Narrowed.None)) × (q ≡ (Ok Narrowed.Narrow))
  -- "Demands 2 and 3 include kind 5 with its own pairs" (`any_case`); and what such rules ask of texts
  pub beside_exact : BesideExact narrow_any_case.Promise
  pub asks_any_case : (t : Rule) (text : ℕ → List ℕ) → t.kind ≡ any_case_kind → Keeps t text ↔ AnyCase (text t.a) (text t.b)
  -- "Refusals: none new": what the call of kind 5 is refused for is what that of kind 4 is refused for
  pub none_new : (s : Two) (m m' : NarrowMemory) (q : Refusal)
      → narrow_any_case.Promise s m m' (Err q) ↔ narrow_exact.Promise s m m' (Err q)
  -- "7 lets kind 5 pass": a rule of kind 5 is right exactly if it were with kind 0, and none of a later kind is
  pub five_right : (counts : List ℕ) (a b c : ℕ) → RightRule counts (rule_with 5 a b c) ↔ RightRule counts (rule_with 0 a b c)
  pub six_wrong : (counts : List ℕ) (t : Rule) → last_kind < t.kind → RightRule counts t → ⊥
