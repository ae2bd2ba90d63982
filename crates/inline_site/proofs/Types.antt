-- Types of arguments and of parameters, one by one.
use Rattle.std.proofs.Common.{◌≡◌, ℕ, zero, suc, ◌+◌, ◌<◌, List, [], ◌∷◌, ◌++◌, take, length, get_or, sym, ◌∙◌, ap, arith}
use Rattle.std.proofs.lemmas.List.{map-append, take_more}
use Rattle.ir_tree.specs.declared.function.Param.{Param}
use Rattle.ir_tree.specs.declared.operand.Argument.{Argument}
use Rattle.ir_tree.specs.Types.{argument_types, param_types}

pub types_more : (as' : List Argument) (ps : List Param) (i : ℕ) (a : Argument) (p : Param) → i < length as' → i < length ps → (get_or as' i a).reg ≡ (get_or ps i p).reg
    → argument_types (take i as') ≡ param_types (take i ps) → argument_types (take (i + 1) as') ≡ param_types (take (i + 1) ps)
types_more as' ps i a p lt lt' same rest =
    ap argument_types (take_more as' i a lt)
    ∙ map-append (λ (x : Argument). x.reg) (take i as') (get_or as' i a ∷ [])
    ∙ (λ k. rest k ++ same k ∷ [])
    ∙ sym (map-append (λ (x : Param). x.reg) (take i ps) (get_or ps i p ∷ []))
    ∙ sym (ap param_types (take_more ps i p lt'))

pub types_at : (as' : List Argument) (ps : List Param) (i : ℕ) (a : Argument) (p : Param) → argument_types as' ≡ param_types ps → i < length as' → i < length ps
    → (get_or as' i a).reg ≡ (get_or ps i p).reg
types_at [] ps i a p e lt lt' = absurd (omega (arith, lt))
types_at (x ∷ xs) [] i a p e lt lt' = absurd (omega (arith, lt'))
types_at (x ∷ xs) (y ∷ ys) zero a p e lt lt' = cc e
types_at (x ∷ xs) (y ∷ ys) (suc i) a p e lt lt' = types_at xs ys i a p (cc e) (omega (arith, lt)) (omega (arith, lt'))
