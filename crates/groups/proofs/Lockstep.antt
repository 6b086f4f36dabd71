-- Two books that hold the same texts and the same rules of them run in lockstep: the same verdict, the same count, the
-- same shapes of those texts, whatever else they hold. Assumes nothing.
use mathlib.Core.Path.{◌≡◌, refl, sym, ap, ap₂, ◌∙◌, subst}
use mathlib.Core.Bool.{Bool}
use mathlib.Core.List.{List, ◌∷◌}
use mathlib.Core.Logic.{◌⊎◌, inl, inr, ⊎_elim}
use Prim.Native.Nat.{ℕ, ◌<◌}
use native.Mathlib.Omega.{arith}
use lib.ListN.{length}
use Rattle.plain.proofs.Plain.{eq_or_ne}
use Rattle.rules.specs.declared.Rule.{Rule}
use Rattle.rules.specs.Rule.{rule_at, rule_count}
use Rattle.plain.specs.All.{All, more}
use Rattle.shapes.specs.Shape.{Block, Sound}
use Rattle.hulls.specs.Hull.{None, Hull, Outcome, none, shapes}
use Rattle.hulls.proofs.Hull.{one_hull, hull_sound}
use Rattle.hulls.proofs.Places.{Off}
use Rattle.books.specs.Counts.{sum_of}
use Rattle.books.specs.Rules.{RightRule, asks, rule_of}
use Rattle.book_steps.proofs.Parts.{join_all, part_of, parts_of, Sized, no_text, one_text}
use Rattle.book_steps.proofs.Frame.{rule_none, rule_none_back, rule_narrows, rule_narrows_back}
use Rattle.book_runs.specs.Rounds.{Rounds}
use Rattle.book_runs.specs.Rounds.Rounds.{stops, keeps, changes, round, rests}
use Rattle.groups.specs.Alike.{Paired, Alike, RulesAlike, OutcomeAlike}
use Rattle.groups.proofs.Texts.{same_by_texts, told_apart}
use Rattle.groups.proofs.Looks.{parts_sized, hull_off, Match, end, next, BothLook, both_look}

-- sound blocks, as many as the counts say
pub record Whole (counts : List ℕ) (S : List Block) : Type 0 where
  pub size : length S ≡ sum_of counts
  pub sound : All Sound S

pub whole_next : {counts : List ℕ} {P : List (List ℕ) → Type 0} {S H : List Block} → Whole counts S → Hull P S H → Whole counts H
whole_next w h = record { size = h.size ∙ w.size; sound = hull_sound h w.sound }

-- ---- the other way round

abbrev Turned : (ℕ → ℕ → Type 0) → ℕ → ℕ → Type 0
Turned E l k = E k l

turned_match : {E : ℕ → ℕ → Type 0} {ks ls : List ℕ} → Match E ks ls → Match (Turned E) ls ks
turned_match end = end
turned_match (next e m) = next e (turned_match m)

turned_look : {E : ℕ → ℕ → Type 0} {counts others : List ℕ} {t u : Rule} → BothLook E counts others t u → BothLook (Turned E) others counts u t
turned_look b = record { texts = b.other_texts; other_texts = b.texts; asked = b.asked; look = b.other_look; other_look = b.look; match = turned_match b.match }

turned_pair : {E : ℕ → ℕ → Type 0} {counts others : List ℕ} → Paired E counts others → Paired (Turned E) others counts
turned_pair p = record {
  named = λ e. p.named_other e;
  named_other = λ e. p.named e;
  count = λ e. sym (p.count e);
  onward = λ e f q. p.back e f q;
  back = λ e f q. p.onward e f q;
}

turned_alike : {E : ℕ → ℕ → Type 0} {counts others : List ℕ} {S T : List Block} → Alike E counts others S T → Alike (Turned E) others counts T S
turned_alike a = record { each = λ e. sym (a.each e) }

-- ---- texts of both

module _ {E : ℕ → ℕ → Type 0} {counts others : List ℕ} (paired : Paired E counts others) where
  -- a pair of texts is among the matched ones, or neither of the two is
  among_or_off : {A : Type 0} {k l : ℕ} {ks ls : List ℕ} (x y : List A) → E k l → Match E ks ls → parts_of counts ks x ≡ parts_of others ls y
      → (part_of counts k x ≡ part_of others l y) ⊎ (Off ks k × Off ls l)
  unfolding parts_of
  among_or_off x y e end q = inr (All.none, All.none)
  among_or_off {A} {k} {l} x y e (next {k = i} {l = j} f m) q = ⊎_elim
      (λ g. let same : j ≡ l = paired.onward f e g in
      let head : part_of counts i x ≡ part_of others j y = cc in
      inl (ap (λ (n : ℕ). part_of counts n x) (sym g) ∙ head ∙ ap (λ (n : ℕ). part_of others n y) same))
      (λ g. ⊎_elim (λ h. inl h) (λ h. inr (more g h.0, more (λ s. g (paired.back f e s)) h.1)) (among_or_off x y e m (cc)))
      (eq_or_ne i k)

  -- a text of the other book is matched, or it is not looked at
  matched_or_off : {ks ls : List ℕ} → Match E ks ls → (l : ℕ) → ((k : ℕ) × E k l) ⊎ Off ls l
  matched_or_off end l = inr All.none
  matched_or_off (next {k = i} {l = j} f m) l = ⊎_elim
      (λ g. inl (i, subst (E i) g f))
      (λ g. ⊎_elim (λ h. inl h) (λ h. inr (more g h)) (matched_or_off m l))
      (eq_or_ne j l)

  match_parts : {ks ls : List ℕ} {S T : List Block} → Alike E counts others S T → Match E ks ls → parts_of counts ks S ≡ parts_of others ls T
  unfolding parts_of
  match_parts a end = refl
  match_parts a (next e m) = ap₂ ◌∷◌ (a.each e) (match_parts a m)

  match_sized : {A : Type 0} {ks ls : List ℕ} {xs : List (List A)} → Match E ks ls → Sized counts ks xs → Sized others ls xs
  match_sized end no_text = no_text
  match_sized (next e m) (one_text s z) = one_text (s ∙ paired.count e) (match_sized m z)

  -- ---- one application

  module _ {t u : Rule} (b : BothLook E counts others t u) {S T : List Block} (w : Whole counts S) (v : Whole others T) (alike : Alike E counts others S T) where
    seen_same : join_all (parts_of counts b.texts S) ≡ join_all (parts_of others b.other_texts T)
    seen_same = ap join_all (match_parts alike b.match)

    pub none_over : None (asks counts t) S → None (asks others u) T
    none_over n = rule_none b.other_look T v.size (subst (None b.asked) seen_same (rule_none_back b.look S w.size w.sound n))

    parts_of_lem : {H : List Block} → Hull (asks counts t) S H → Sized others b.other_texts (parts_of counts b.texts H)
    parts_of_lem {H} h = match_sized b.match (parts_sized counts b.texts H b.look.named (h.size ∙ w.size))

    seen_hull : {H : List Block} → Hull (asks counts t) S H → Hull b.asked (join_all (parts_of others b.other_texts T)) (join_all (parts_of counts b.texts H))
    seen_hull {H} h = subst (λ (B : List Block). Hull b.asked B (join_all (parts_of counts b.texts H))) seen_same (rule_narrows_back b.look S w.size w.sound h)

    pub hull_over : {H : List Block} → Hull (asks counts t) S H → (J : List Block) × Hull (asks others u) T J
    hull_over h = (_, rule_narrows b.other_look T v.size v.sound (parts_of_lem h) (seen_hull h))

    module _ {H J : List Block} (h : Hull (asks counts t) S H) (j : Hull (asks others u) T J) where
      parts_same : parts_of counts b.texts H ≡ parts_of others b.other_texts J
      parts_same = told_apart (parts_of_lem h) (parts_sized others b.other_texts J b.other_look.named (j.size ∙ v.size))
          (one_hull (seen_hull h) (rule_narrows_back b.other_look T v.size v.sound j))

      -- what the rule makes of both is alike again
      pub alike_next : Alike E counts others H J
      alike_next = record {
        each = λ e. ⊎_elim (λ q. q)
            (λ o. hull_off b.look w.size w.sound h (paired.named e) o.0 ∙ alike.each e ∙ sym (hull_off b.other_look v.size v.sound j (paired.named_other e) o.1))
            (among_or_off H J e b.match parts_same);
      }

      -- where it changes nothing in the one, it changes nothing in the other
      pub same_next : H ≡ S → J ≡ T
      same_next q = same_by_texts others J T (j.size ∙ v.size) v.size
          (λ l n. ⊎_elim
          (λ m. sym (alike_next.each m.1) ∙ ap (part_of counts m.0) q ∙ alike.each m.1)
          (λ o. hull_off b.other_look v.size v.sound j n o)
          (matched_or_off b.match l))

-- ---- the run

-- each rule of a book is right
pub record RightAll (counts rules : List ℕ) : Type 0 where
  pub each : (j : ℕ) → j < rule_count rules → RightRule counts (rule_at rules j)

module _ {E : ℕ → ℕ → Type 0} {counts others rules others-rules : List ℕ} (paired : Paired E counts others) (right : RightAll counts rules) (right' : RightAll others others-rules)
    (alike : RulesAlike E rules others-rules) where
  pub both : (j : ℕ) → j < rule_count rules → BothLook E counts others (rule_at rules j) (rule_at others-rules j)
  both j l = both_look (rule_at rules j) (rule_at others-rules j) paired (right.each j l) (right'.each j (let e = alike.as_many in omega arith)) (alike.each j l)

  other_rule : {k : ℕ} → k < rule_count rules → k < rule_count others-rules
  other_rule l = let e = alike.as_many in omega arith

  pub lockstep : {S T : List Block} {k m : ℕ} {c : Bool} {o : Outcome} → Whole counts S → Whole others T → Alike E counts others S T
      → Rounds (rule_count rules) (rule_of counts rules) S k c o m
      → (u : Outcome) × Rounds (rule_count others-rules) (rule_of others others-rules) T k c u m × OutcomeAlike E counts others o u
  lockstep {k = k} w v a (stops l x) = (none, stops (other_rule l) (none_over paired (both k l) w v a x), tt)
  lockstep {S} {T} {k = k} w v a (keeps l h r) =
      let b = both k l in
      let x = hull_over paired b w v a h in
      let same : x.0 ≡ T = same_next paired b w v a h x.1 refl in
      let rest = lockstep w v a r in
      (rest.0, keeps (other_rule l) (subst (Hull (asks others (rule_at others-rules k)) T) same x.1) rest.1, rest.2)
  lockstep {S} {T} {k = k} w v a (changes {H = H} l h d r) =
      let b = both k l in
      let x = hull_over paired b w v a h in
      let rest = lockstep (whole_next w h) (whole_next v x.1) (alike_next paired b w v a h x.1) r in (
        rest.0,
        changes (other_rule l) x.1 (λ q. d (same_next (turned_pair paired) (turned_look b) v w (turned_alike a) x.1 h q)) rest.1,
        rest.2,
      )
  lockstep w v a (round q r) = let rest = lockstep w v a r in (rest.0, round (q ∙ alike.as_many) rest.1, rest.2)
  lockstep {T = T} w v a (rests q) = (shapes T, rests (q ∙ alike.as_many), a)
