-- Which texts a right rule looks at, those that it names; what it leaves; and that a rule of two books looks at the
-- same texts in both. Assumes nothing.
use mathlib.Core.Path.{◌≡◌, sym, ap, ◌∙◌, subst₂}
use mathlib.Core.List.{List, [], ◌∷◌}
use mathlib.Core.Logic.{◌⊎◌, ⊎_elim}
use Prim.Native.Nat.{ℕ}
use lib.ListN.{length}
use Rattle.plain.proofs.Plain.{eq_or_ne}
use Rattle.rules.specs.declared.Rule.{Rule}
use Rattle.plain.specs.All.{All, more}
use Rattle.shapes.specs.Shape.{Block, Sound}
use Rattle.texts.specs.Kind.{relation_of, join_kind}
use Rattle.hulls.specs.Hull.{Pairs, Hull}
use Rattle.hulls.proofs.Hull.{one_hull}
use Rattle.hulls.proofs.Places.{Off}
use Rattle.joins.specs.Join.{Triples}
use Rattle.books.specs.Counts.{sum_of}
use Rattle.books.specs.Rules.{Names, RightRule, asks}
use Rattle.book_steps.proofs.Parts.{part_of, parts_of, part_size, Sized, no_text, one_text}
use Rattle.book_steps.proofs.Frame.{LooksAt, rule_narrows, rule_narrows_back}
use Rattle.book_steps.proofs.Looks.{two_looks, three_looks}
use Rattle.groups.specs.Linked.{NamedBy, first, second, third}
use Rattle.groups.specs.Alike.{Paired, RuleAlike}
use Rattle.groups.proofs.Texts.{laid_off}

-- the parts of texts have their sizes
pub parts_sized : {A : Type 0} (counts ks : List ℕ) (l : List A) → All (Names counts) ks → length l ≡ sum_of counts → Sized counts ks (parts_of counts ks l)
unfolding parts_of
parts_sized counts [] l a e = no_text
parts_sized counts (k ∷ ks) l (more n a) e = one_text (part_size counts k l n e) (parts_sized counts ks l a e)

-- ---- one book

-- a rule leaves the texts that it does not look at
pub hull_off : {counts : List ℕ} {t : Rule} {ks : List ℕ} {Q : List (List ℕ) → Type 0} {S H : List Block} {k : ℕ} → LooksAt counts t ks Q → length S ≡ sum_of counts → All Sound S
    → Hull (asks counts t) S H → Names counts k → Off ks k → part_of counts k H ≡ part_of counts k S
hull_off {counts} {ks = ks} {S = S} {H = H} {k = k} look size sound h n o =
    let z = parts_sized counts ks H look.named (h.size ∙ size) in
    ap (part_of counts k) (one_hull h (rule_narrows look S size sound z (rule_narrows_back look S size sound h)))
    ∙ laid_off counts k ks (parts_of counts ks H) S n o look.named z size

-- the texts that a right rule looks at are those that it names
pub record Looking (counts : List ℕ) (t : Rule) : Type 1 where
  pub texts : List ℕ
  pub asked : List (List ℕ) → Type 0
  pub look : LooksAt counts t texts asked
  pub off : (k : ℕ) → (NamedBy t k → ⊥) → Off texts k

pub looking : {counts : List ℕ} (t : Rule) → RightRule counts t → Looking counts t
looking {counts} t right = ⊎_elim
    (λ e. record {
      texts = _;
      asked = _;
      look = three_looks counts t right e;
      off = λ k n. more (λ q. n (first q)) (more (λ q. n (second q)) (more (λ q. n (third e q)) All.none));
    })
    (λ e. record {
      texts = _;
      asked = _;
      look = two_looks counts t right e;
      off = λ k n. more (λ q. n (first q)) (more (λ q. n (second q)) All.none);
    })
    (eq_or_ne t.kind join_kind)

-- a rule leaves the texts that it does not name
pub rule_leaves : {counts : List ℕ} {S H : List Block} {k : ℕ} (t : Rule) → RightRule counts t → length S ≡ sum_of counts → All Sound S → Hull (asks counts t) S H
    → Names counts k → (NamedBy t k → ⊥) → part_of counts k H ≡ part_of counts k S
rule_leaves {k = k} t right size sound h n o = let l = looking t right in hull_off l.look size sound h n (l.off k o)

-- ---- two books

module _ (E : ℕ → ℕ → Type 0) where
  -- two lists of texts that are the same
  pub data Match : List ℕ → List ℕ → Type 0 where
    end : Match [] []
    next : {k l : ℕ} {ks ls : List ℕ} → E k l → Match ks ls → Match (k ∷ ks) (l ∷ ls)

-- the rule t of the one book and the rule u of the other look at the same texts and ask the same
pub record BothLook (E : ℕ → ℕ → Type 0) (counts others : List ℕ) (t u : Rule) : Type 1 where
  pub texts : List ℕ
  pub other_texts : List ℕ
  pub asked : List (List ℕ) → Type 0
  pub look : LooksAt counts t texts asked
  pub other_look : LooksAt others u other_texts asked
  pub match : Match E texts other_texts

pub both_look : {E : ℕ → ℕ → Type 0} {counts others : List ℕ} (t u : Rule) → Paired E counts others → RightRule counts t → RightRule others u → RuleAlike E t u
    → BothLook E counts others t u
both_look {E} {counts} {others} t u paired right right' a = ⊎_elim
    (λ e. record {
      texts = _;
      other_texts = _;
      asked = _;
      look = three_looks counts t right e;
      other_look = subst₂ (λ (n m : ℕ). LooksAt others u (u.a ∷ (u.b ∷ (u.c ∷ []))) (Triples n m)) (sym (paired.count a.first)) (sym (paired.count a.second))
          (three_looks others u right' (sym a.kind ∙ e));
      match = next a.first (next a.second (next (a.third e) end));
    })
    (λ e. record {
      texts = _;
      other_texts = _;
      asked = _;
      look = two_looks counts t right e;
      other_look = subst₂ (λ (k n : ℕ). LooksAt others u (u.a ∷ (u.b ∷ [])) (Pairs (relation_of k) n)) (sym a.kind) (sym (paired.count a.first))
          (two_looks others u right' (λ q. e (a.kind ∙ q)));
      match = next a.first (next a.second end);
    })
    (eq_or_ne t.kind join_kind)
