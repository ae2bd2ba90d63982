-- The worked function is written as the grammar makes it, and resolves.
use Rattle.std.proofs.Common.{◌≡◌, refl, false, [], Ok, inl, inr, arith}
use Rattle.std.proofs.lemmas.List.Elements.{All-from_recursion, All-nil}
use Rattle.ir_lex.specs.Quotes.{content, unescaped}
use Rattle.ir_tree.specs.Formed.{IsReg, IsStored, IsWidth}
use Rattle.ir_parse_values.specs.Blocks.{block_of, function_in}
use Rattle.ir_parse_names.specs.Keys.{decimal_of, key_of, number_of}
use Rattle.ir_parse_names.specs.Numbering.{locals_of, with_block}
use Rattle.ir_parse_names.specs.Symbols.{symbol_name}
use Rattle.ir_parse_names.specs.Types.{expanded, head_of}
use Rattle.ir_parse.specs.Resolved.{OneResolves}
use Rattle.ir_parse.specs.Worked.{entries, first, second, worked, worked_blocks, worked_head}
use Rattle.ir_parse.specs.Written.{BlockWritten, IsWritten, LineWritten, OperandWritten, TypeWritten}

word : IsWidth 32
word = (omega arith, omega arith)

stored : IsStored 32
stored = inr (inr (inl refl))

is_written : IsWritten worked_head worked_blocks false false
is_written = record {
  result = word;
  params = All-from_recursion (λ p. IsReg p.reg) worked_head.params (word, tt);
  blocks = All-from_recursion BlockWritten worked_blocks (in_first, (in_second, tt));
  declared = λ e. absurd cc;
}
  where
    in_first : BlockWritten first
    in_first = (All-from_recursion LineWritten first.lines (((refl, word, tt, (word, omega arith)), tt), tt), tt)

    in_second : BlockWritten second
    in_second = (
      All-from_recursion LineWritten second.lines (((word, All-from_recursion (λ e. OperandWritten e.value) entries (tt, tt)), tt), (((stored, tt), tt), (((stored, tt, tt, tt), refl), tt))),
      (word, tt),
    )

resolves : function_in [] worked_head worked_blocks false false ≡ Ok worked
unfolding function_in block_of locals_of with_block key_of number_of decimal_of symbol_name content unescaped expanded head_of
resolves = refl

pub one_resolves : OneResolves
one_resolves = (All-nil (λ d. TypeWritten d.1), is_written, resolves)
