-- Rows to the ends: closed backwards under the ends of runs, a row is what one text leads on from. Assumes nothing.
use mathlib.Core.Path.{◌≡◌, refl, sym, ◌∙◌, subst}
use Prim.Native.Nat.{ℕ}
use Rattle.bases.specs.Base.{Holds}
use Rattle.sets.specs.Set.{Exactly}
use Rattle.shapes.specs.Shape.{Block}
use Rattle.pads.specs.Pad.{first, second, both, PadPath, stay, move}
use Rattle.pads.proofs.Paths.{pad_from}
use Rattle.rows.specs.Steps.{Leads, there, step}
use Rattle.row_paths.specs.Rows.{Zones, LeadsOn, end, ended, taken}

module _ {X Y : ℕ → Block} {U W : ℕ} where
  pub leaves_path : {i j : ℕ} → LeadsOn X Y U W i j → PadPath X Y U W i j
  leaves_path (end e f) = stay e f
  leaves_path (ended l p) = move (first l refl refl) p
  leaves_path (taken m p) = move (both m refl refl) p

  module _ {Z E : ℕ → ℕ} {k : ℕ} (z : Zones Y Z E k) where
    leads_path : {s i j : ℕ} → ((q : ℕ) → Holds s q → LeadsOn X Y U W i q) → Leads Z E k s j → PadPath X Y U W i j
    leads_path f (there h) = leaves_path (f _ h)
    leads_path f (step {q = q} n l from to r) = move (second (z.free n q l from) refl (z.stop n q _ l from to)) (leads_path f r)

    -- what a path begins with, within row i
    path_leads : {s i : ℕ} → ((q : ℕ) → LeadsOn X Y U W i q → Holds s q) → {a j : ℕ} → PadPath X Y U W a j → a ≡ i → Leads Z E k s j
    path_leads f {j = j} (stay e g) h = there (f j (end (sym h ∙ e) g))
    path_leads f {j = j} (move (first l e g) p) h =
        there (f j (subst (λ (x : ℕ). LeadsOn X Y U W x j) h (ended l (pad_from (sym e) (sym g) p))))
    path_leads f {j = j} (move (second l e g) p) h =
        let r = z.find j l in
        step r.0 r.1 r.2 (subst (Holds (E r.0)) (sym g) r.3) (path_leads f p (e ∙ h))
    path_leads f {j = j} (move (both m e g) p) h =
        there (f j (subst (λ (x : ℕ). LeadsOn X Y U W x j) h (taken m (pad_from (sym e) (sym g) p))))

    pub left_row : {s r i : ℕ} → Exactly s (LeadsOn X Y U W i) → Exactly r (Leads Z E k s) → Exactly r (λ j. PadPath X Y U W i j)
    left_row x y = record { so = λ j h. leads_path x.so (y.so j h); has = λ j p. y.has j (path_leads x.has p refl) }
