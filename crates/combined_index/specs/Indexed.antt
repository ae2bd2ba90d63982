-- What the index of all summaries is.
use Rattle.std.specs.Prelude.{◌≡◌, ℕ, List, [], map, None, slice_index_or}
use Rattle.ir_tree.specs.declared.operand.Symbol.{Symbol}
use Rattle.ir_summary.specs.declared.summary.Summary.{Summary}
use Rattle.symbol_resolve.specs.Resolved.{Symbols}
use Rattle.combined_index.specs.Combined.{Combined, IsIndex}
use Rattle.combined_index.specs.Entries.{Entry, combined, once, stand_in}
use Rattle.combined_index.specs.declared.definition.Definition.{Definition}

-- the symbol of a number; past the end one that nobody reads
abbrev pub symbol_at : List Symbol → ℕ → Symbol
symbol_at symbols n = slice_index_or symbols n (record { home = None; name = [] })

-- a definition with symbols in place of their numbers
abbrev pub named : List Symbol → Definition → Entry
named symbols d = record {
  symbol = symbol_at symbols d.symbol;
  linkage = d.linkage;
  count = d.count;
  noinline = d.noinline;
  optnone = d.optnone;
  prevails = d.prevails;
  calls = map (symbol_at symbols) d.calls;
  refs = map (symbol_at symbols) d.refs;
}

abbrev pub all_named : Combined → List (List Entry)
all_named c = map (λ m. map (named c.symbols) m) c.modules

-- the index of these summaries: it says what they say, and has the symbols that stand there and no others
pub record IsCombined (table : Symbols) (summaries : List (List Summary)) (c : Combined) : Type 0 where
  pub entries : all_named c ≡ combined table summaries
  pub symbols : c.symbols ≡ once (stand_in (combined table summaries))
  pub index : IsIndex c
