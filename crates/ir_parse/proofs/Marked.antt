-- What holds of all marks of a text holds of those of its parts.
use Rattle.std.proofs.Common.{List, [], ◌∷◌, ◌++◌}
use Rattle.std.specs.Prelude.{Contains}
use Rattle.std.specs.List.{AllByRecursion as Each}
use Rattle.ir_tree.specs.declared.operand.Symbol.{Symbol}
use Rattle.ir_parse_names.specs.Marks.{Mark, symbol, address, all}
use Rattle.ir_parse_names.specs.Symbols.{symbol_of}

-- a symbol that is used is one of these
abbrev pub MarkKnown : List Symbol → Mark → Type 0
MarkKnown known (symbol name) = Contains known (symbol_of name)
MarkKnown known (address steps) = Contains known (symbol_of steps.name)
MarkKnown known _ = Unit {0}

abbrev pub MarksKnown : List Symbol → List Mark → Type 0
MarksKnown known ms = Each (MarkKnown known) ms

pub front_of : {X : Type 0} (P : X → Type 0) (xs ys : List X) → Each P (xs ++ ys) → Each P xs
front_of P [] ys h = tt
front_of P (x ∷ xs) ys h = (h.0, front_of P xs ys h.1)

pub back_of : {X : Type 0} (P : X → Type 0) (xs ys : List X) → Each P (xs ++ ys) → Each P ys
back_of P [] ys h = h
back_of P (x ∷ xs) ys h = back_of P xs ys h.1

pub each_of : {A : Type 0} (known : List Symbol) (f : A → List Mark) (xs : List A) → MarksKnown known (all f xs) → Each (λ x. MarksKnown known (f x)) xs
each_of known f [] h = tt
each_of known f (x ∷ xs) h = (front_of (MarkKnown known) (f x) (all f xs) h, each_of known f xs (back_of (MarkKnown known) (f x) (all f xs) h))
