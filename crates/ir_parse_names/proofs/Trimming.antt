-- Zeros in front of decimal digits.
use Rattle.std.proofs.Common.{◌≡◌, refl, sym, ap, true, false, ℕ, ◌≤◌, List, [], ◌∷◌, drop, length, cond, arith}
use Rattle.ir_parse_names.specs.Symbols.{is_padded, trimmed}

pub trimmed_padded : (ds : List ℕ) → is_padded ds ≡ true → trimmed (drop 1 ds) ≡ trimmed ds
trimmed_padded [] h = absurd (cc h)
trimmed_padded (d ∷ []) h = absurd (cc h)
trimmed_padded (d ∷ e ∷ ds) h = sym (ap (λ b. cond b (trimmed (e ∷ ds)) (d ∷ e ∷ ds)) h)

pub trimmed_done : (ds : List ℕ) → is_padded ds ≡ false → trimmed ds ≡ ds
trimmed_done [] h = refl
trimmed_done (d ∷ []) h = refl
trimmed_done (d ∷ e ∷ ds) h = ap (λ b. cond b (trimmed (e ∷ ds)) (d ∷ e ∷ ds)) h

pub padded_some : (ds : List ℕ) → is_padded ds ≡ true → 1 ≤ length ds
padded_some [] h = absurd (cc h)
padded_some (d ∷ ds) h = omega arith
