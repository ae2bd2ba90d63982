-- Whether two symbols are one.
use Rattle.std.specs.Prelude.{Bool, ◌&&◌, nat_eq}
use Rattle.std.specs.Option.{option_eq}
use Rattle.std.specs.Str.{bytes_eq}
use Rattle.ir_tree.specs.declared.operand.Symbol.{Symbol}

abbrev pub symbol_eq : Symbol → Symbol → Bool
symbol_eq s t = option_eq nat_eq s.home t.home && bytes_eq s.name t.name
