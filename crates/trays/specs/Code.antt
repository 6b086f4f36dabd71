-- What an inner function of a tray answers: from the lengths of the list and of the row alone.
use Rattle.std.specs.Prelude.{◌≡◌, ℕ, ◌/◌, Result, Ok, Err}
use Rattle.answers.specs.Told.{told}
use Rattle.answers.specs.declared.Refusal.{Refusal}
use Rattle.tray_pairs.specs.Ranges.{pair_size}
use Rattle.trays.specs.Tray.{TrayAccepted, TrayRefused}

-- how many records are written, one to each pair; or the refusal of the whole call
abbrev pub Counted : ℕ → ℕ → Result ℕ Refusal → Type 0
Counted listed room (Ok n) = TrayAccepted listed room × (n ≡ listed / pair_size)
Counted listed room (Err q) = TrayRefused listed room (told q)
