-- What the merging calls keep of a module: its own names, and, where a link asks, which symbols are live and the suffixes of final
-- names.
use Rattle.std.specs.Prelude.{Bool, ◌&&◌, Option, Some, None}
use Rattle.std.specs.HashSet.{HashSet, contains_by}
use Rattle.ir_tree.specs.Symbols.{symbol_eq}
use Rattle.ir_tree.specs.declared.operand.Symbol.{Symbol}
use Rattle.ir_meaning.specs.Refine.{Naming}
use Rattle.merge_meaning.specs.Globals.{named_by}
use Rattle.merge_meaning.specs.Kept.{is_kept}
use Rattle.merge_meaning.specs.Lives.{final_symbol}
use Rattle.merge_meaning.specs.Merged.{symbol_by}
use Rattle.merge_meaning.specs.declared.lives.Key.{Key}
use Rattle.merge_meaning.specs.declared.lives.Link.{Link}
use Rattle.merge_meaning.specs.declared.lives.LiveSymbols.{LiveSymbols}
use Rattle.merge_meaning.specs.declared.scope.Scope.{Scope}

-- ---- live symbols

abbrev pub key_symbol : Key → Symbol
key_symbol key = record { home = key.home; name = key.name.now }

abbrev pub is_in : {S : Type 0} → HashSet Key S → Symbol → Bool
is_in set s = contains_by (λ key. symbol_eq s (key_symbol key)) set

abbrev pub keeps : LiveSymbols → Symbol → Bool
keeps live s = is_in live.set s

-- ---- by a link, if there is one; the merged program has all symbols, as they are

-- what passes this test is given
abbrev pub given_where : Option Link → Bool → Symbol → Bool
given_where None passes s = passes
given_where (Some link) passes s = passes && keeps link.live.now s

abbrev pub named_where : Option Link → Symbol → Symbol
named_where None s = s
named_where (Some link) s = final_symbol link.suffixes.now s

-- ---- in the scope of a module

-- the symbol that a name stands for
abbrev pub symbol_for : Scope → Symbol → Symbol
symbol_for scope s = symbol_by scope.number (is_kept scope.own.keys) s

unfoldable pub names_by : Scope → Naming
names_by scope = named_by (λ s. named_where scope.link (symbol_for scope s))
