-- Symbols as keys.
use Rattle.ir_tree.specs.declared.operand.Symbol.{Symbol}
use Rattle.machine_code.specs.declared.key.Key.{Key}

-- a key of a symbol, wherever its name stands
abbrev pub key_of : Symbol → Key
key_of s = record { home = s.home; name = record { ref_ptr = (0, 0); now = s.name } }
