-- The records of a text, one after the other.
use Rattle.std.proofs.Common.{◌≡◌, ◌<◌, ℕ, zero, suc, List, [], ◌∷◌, length, Some, None, refl, arith}
use Rattle.csv.specs.Machine.{Read, next_record}
use Rattle.csv.specs.Reading.{records_from, default_config}
use Rattle.csv.specs.declared.parser.State.{State}

pub records_step : (n : ℕ) (s : State) (left : List ℕ) (p : Read) → next_record default_config s [] [] left ≡ Some p
    → records_from default_config (suc n) s left ≡ p.0 ∷ records_from default_config n p.1 p.2
unfolding records_from
records_step n s left p e = rw e refl

pub records_stop : (n : ℕ) (s : State) (left : List ℕ) → next_record default_config s [] [] left ≡ None → records_from default_config n s left ≡ []
unfolding records_from
records_stop zero s left e = refl
records_stop (suc n) s left e = rw e refl

pub some_fuel : (left : List ℕ) (n : ℕ) → length left < n → (m : ℕ) × (n ≡ suc m)
some_fuel left zero h = absurd (omega arith)
some_fuel left (suc m) h = (m, refl)
