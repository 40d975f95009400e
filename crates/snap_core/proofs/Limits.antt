-- Limits with the same parts are the same.
use Rattle.std.proofs.Common.{◌≡◌, ℕ, ap, ap₂, ◌∙◌, subst}
use Rattle.std.proofs.Math.Bridge.{le_prop}
use Rattle.snap_core.specs.declared.limit.Limit.{Limit}
use Rattle.snap_core.specs.Limits.{IsLimit}

same_fits : (n : ℕ) (a b : IsLimit n) → a ≡ b
same_fits n a b = ap₂ (λ x y. (x, y)) (le_prop a.0 b.0) (le_prop a.1 b.1)

pub same_limit : (a b : Limit) → a.events ≡ b.events → a.writers ≡ b.writers → a ≡ b
same_limit a b e w = go b.events e b.fits
  where
    go : (n : ℕ) → a.events ≡ n → (fits : IsLimit n) → a ≡ record { events = n; writers = b.writers; fits = fits }
    go n e = subst (λ n. (fits : IsLimit n) → a ≡ record { events = n; writers = b.writers; fits = fits }) e
        (λ fits. ap (λ f. record { events = a.events; writers = a.writers; fits = f }) (same_fits a.events a.fits fits) ∙ ap (λ v. record { events = a.events; writers = v; fits = fits }) w)
