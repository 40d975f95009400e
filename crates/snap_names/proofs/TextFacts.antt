-- Whether bytes are UTF-8, by the answer of the reader of std.
use Rattle.std.proofs.Common.{◌≡◌, refl, sym, Bool, true, false, ℕ, List, Result, Ok, Err}
use Rattle.std.specs.Prelude.{MatchResult, is_ok}
use Rattle.std.specs.Str.{IsUtf8, is_utf8}
use Rattle.std.proofs.lemmas.Str.{IsUtf8-from_is_utf8, is_utf8-from_IsUtf8}

not_true : (b : Bool) → (b ≡ true → ⊥) → b ≡ false
not_true true never = absurd (never refl)
not_true false _ = refl

pub text_test : {T E : Type 0} (bytes : List ℕ) (answer : Result T E) (Is : T → Type 0) (Why : E → Type 0) → MatchResult answer (λ text. Is text × IsUtf8 bytes) (λ error. (IsUtf8 bytes → ⊥) × Why error) → is_ok answer ≡ is_utf8 bytes
text_test bytes (Ok text) Is Why found = sym (is_utf8-from_IsUtf8 bytes found.1)
text_test bytes (Err error) Is Why found = sym (not_true (is_utf8 bytes) (λ holds. found.0 (IsUtf8-from_is_utf8 bytes holds)))
