-- Final names, symbol by symbol.
use Rattle.std.proofs.Common.{◌≡◌, ◌∙◌, ◌<◌, ◌+◌, ℕ, suc, sym, ap, ap₂, Bool, false, List, [], ◌∷◌, ◌++◌, Option, drop, length, slice_index_or, get_or, add-one, append_assoc, drop-cons}
use Rattle.ir_tree.specs.declared.operand.Symbol.{Symbol}
use Rattle.combined_index.specs.Finals.{final_names, name_where}

-- the names so far, with those of the symbols that are left
abbrev pub Named : List (List ℕ) → List Symbol → List Bool → ℕ → List (Option (List ℕ)) → Type 0
Named suffixes symbols live i names = names ++ final_names suffixes (drop i symbols) (drop i live) ≡ final_names suffixes symbols live

-- one more symbol
pub named_more : (suffixes : List (List ℕ)) (symbols : List Symbol) (live : List Bool) (i : ℕ) (names : List (Option (List ℕ))) (s : Symbol) (x : Option (List ℕ))
    → i < length symbols → i < length live → s ≡ get_or symbols i s → x ≡ name_where suffixes s (slice_index_or live i false)
    → Named suffixes symbols live i names → Named suffixes symbols live (i + 1) (names ++ x ∷ [])
named_more suffixes symbols live i names s x here marked s_is x_is so_far =
    append_assoc names (x ∷ []) (rest (i + 1))
    ∙ ap (λ (z : List (Option (List ℕ))). names ++ z)
    (ap₂ (λ (y : Option (List ℕ)) (n : ℕ). y ∷ rest n) x_is (add-one i)
    ∙ ap (λ (y : Symbol). name_where suffixes y (slice_index_or live i false) ∷ rest (suc i)) s_is
    ∙ sym (ap₂ (final_names suffixes) (drop-cons symbols i s here) (drop-cons live i false marked)))
    ∙ so_far
  where
    rest : ℕ → List (Option (List ℕ))
    rest n = final_names suffixes (drop n symbols) (drop n live)
