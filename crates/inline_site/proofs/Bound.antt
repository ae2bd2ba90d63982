-- Parameters with their arguments, one by one.
use Rattle.std.proofs.Common.{◌≡◌, ℕ, ◌+◌, ◌<◌, ◌≤◌, min, ◌⊎◌, inl, inr, List, [], ◌∷◌, ◌++◌, map, drop, length, get_or, refl, sym, ◌∙◌, ap, arith, append_assoc}
use Rattle.std.proofs.lemmas.List.{drop_all, drop_more}
use Rattle.ir_tree.specs.declared.function.Param.{Param}
use Rattle.ir_tree.specs.declared.operand.Argument.{Argument}
use Rattle.ir_tree.specs.declared.operand.Operand.{Operand}
use Rattle.inline_site.specs.Copies.{bound}
use Rattle.inline_site.specs.Copying.{shifted_by}

-- the next parameter with its argument
pub bound_more : (ps : List Param) (as' : List Argument) (i by local : ℕ) (p : Param) (a : Argument) (o : Operand) (rs : List (ℕ × Operand)) → i < length ps → i < length as'
    → local ≡ (get_or ps i p).local + by → o ≡ (get_or as' i a).operand
    → (rs ++ (local, o) ∷ []) ++ map (shifted_by by) (bound (drop (i + 1) ps) (drop (i + 1) as')) ≡ rs ++ map (shifted_by by) (bound (drop i ps) (drop i as'))
bound_more ps as' i by local p a o rs lt lt' local_is o_is =
    append_assoc rs ((local, o) ∷ []) (map (shifted_by by) (bound (drop (i + 1) ps) (drop (i + 1) as')))
    ∙ (λ k. rs ++ (local_is k, o_is k) ∷ map (shifted_by by) (bound (drop (i + 1) ps) (drop (i + 1) as')))
    ∙ sym (λ k. rs ++ map (shifted_by by) (bound (drop_more ps i p lt k) (drop_more as' i a lt' k)))

no_arguments : (ps : List Param) → bound ps [] ≡ []
no_arguments [] = refl
no_arguments (p ∷ ps) = refl

-- and none behind the last
pub bound_end : (ps : List Param) (as' : List Argument) (i : ℕ) → min (length ps) (length as') ≤ i → bound (drop i ps) (drop i as') ≡ []
bound_end ps as' i past = by (sides (length ps) (length as') i past)
  where
    sides : (n m i : ℕ) → min n m ≤ i → (n ≤ i) ⊎ (m ≤ i)
    sides n m i h = grind arith

    by : (length ps ≤ i) ⊎ (length as' ≤ i) → bound (drop i ps) (drop i as') ≡ []
    by (inl h) = ap (λ (l : List Param). bound l (drop i as')) (drop_all i ps h)
    by (inr h) = ap (bound (drop i ps)) (drop_all i as' h) ∙ no_arguments (drop i ps)
