-- Whether two bases of pointers are one.
use Rattle.std.specs.Prelude.{Bool, true, false, ◌==◌}
use Rattle.ir_tree.specs.Symbols.{symbol_eq}
use Rattle.ir_meaning.specs.declared.value.Base.{Base}
use Rattle.ir_meaning.specs.declared.value.Base.TheVariants.{Cell, Code, Nowhere}

abbrev pub base_eq : Base → Base → Bool
base_eq Nowhere Nowhere = true
base_eq (Code s) (Code t) = symbol_eq s t
base_eq (Cell l) (Cell m) = l == m
base_eq _ _ = false
