-- The combined index of a link, its symbols by number.
use Rattle.std.specs.Prelude.{◌<◌, ◌^◌, ℕ, Bool, ◌&&◌, is_none, nat_eq, List, All, length, Option, find, flat_map}
use Rattle.std.specs.List.{IsDistinct, position_from}
use Rattle.std.specs.Str.{bytes_eq}
use Rattle.ir_tree.specs.declared.operand.Symbol.{Symbol}
use Rattle.ir_tree.specs.Symbols.{symbol_eq}
use Rattle.combined_index.specs.declared.definition.Definition.{Definition}

-- all symbols, and the definitions of each module
pub record Combined : Type 0 where
  pub symbols : List Symbol
  pub modules : List (List Definition)

-- module by module, each in the order of its text
abbrev pub definitions : Combined → List Definition
definitions c = flat_map (λ m. m) c.modules

-- a definition of the symbol of this number, and the one that counts
abbrev pub prevails_for : ℕ → Definition → Bool
prevails_for n d = d.prevails && nat_eq d.symbol n

abbrev pub prevailing_of : Combined → ℕ → Option Definition
prevailing_of c n = find (prevails_for n) (definitions c)

-- the symbol of this name that has no home
abbrev pub is_plain : List ℕ → Symbol → Bool
is_plain name s = is_none s.home && bytes_eq name s.name

abbrev pub number_of : Combined → List ℕ → Option ℕ
number_of c name = position_from (is_plain name) 0 c.symbols

-- a definition speaks of symbols that there are, by their numbers
pub record IsWithin (size : ℕ) (d : Definition) : Type 0 where
  pub symbol : d.symbol < size
  pub calls : All (λ n. n < size) d.calls
  pub refs : All (λ n. n < size) d.refs

-- and so does each of a module's
abbrev pub AreWithin : ℕ → List Definition → Type 0
AreWithin size ds = All (IsWithin size) ds

-- what is true of every index
pub record IsIndex (c : Combined) : Type 0 where
  pub within : All (AreWithin (length c.symbols)) c.modules
  -- no symbol has two numbers
  pub distinct : IsDistinct symbol_eq c.symbols
  pub small : length c.symbols < 2 ^ 32
