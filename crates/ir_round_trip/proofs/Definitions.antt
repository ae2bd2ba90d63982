-- Printed definitions of functions are read (LangRef, "Functions").
use Rattle.std.proofs.Common.{ℕ, List, sym, ap, subst}
use Rattle.ir_parse_bodies.specs.Blocks as read
use Rattle.ir_parse_bodies.specs.Blocks.{FURTHER_BLOCKS, INSTRUCTIONS}
use Rattle.ir_lex.specs.Pieces.{Piece}
use Rattle.ir_print.specs.Functions as printed
use Rattle.ir_print.specs.Tokens.{tight, space, next_line}
use Rattle.ir_parse_heads.specs.declared.attributes.Kept.{Kept}
use Rattle.ir_tree.specs.declared.function.Function.{Function}
use Rattle.ir_round_trip.specs.Printed.{IsDefinition}
use Rattle.ir_round_trip.specs.Readable.{DefinitionReadable}
use Rattle.ir_round_trip.proofs.Blocks.{blocks_read}
use Rattle.ir_round_trip.specs.Reads.{Parses}
use Rattle.ir_round_trip.proofs.Attributes.{attributes_read}
use Rattle.ir_round_trip.proofs.Composed.{then, last, nothing}
use Rattle.ir_round_trip.proofs.Heads.{head_read, definition_pieces}
use Rattle.ir_round_trip.proofs.Words.{open_brace_read, close_brace_read, define_read}

pub definition_read : (room : ℕ) (f : Function) → DefinitionReadable room f → Parses (read.definition room) (IsDefinition f) (printed.definition f)
unfolding read.definition
definition_read room f h =
    subst (λ (qs : List Piece). Parses (read.definition room) (IsDefinition f) qs) (sym (definition_pieces f))
    (then (define_read tight) (λ a u. then (head_read room f h.head) (λ d p. then (attributes_read f) (λ k q. then (open_brace_read space) (λ b v.
    then (blocks_read FURTHER_BLOCKS INSTRUCTIONS f.blocks h.body h.few_blocks h.few_instructions) (λ bs r. last (close_brace_read next_line) (λ c w. nothing (
      record {
        linkage = p.linkage;
        result = p.result;
        name = p.name;
        params = p.params;
        noinline = ap (λ (x : Kept). x.noinline) q;
        optnone = ap (λ (x : Kept). x.optnone) q;
        groups = ap (λ (x : Kept). x.groups) q;
      },
      r,
    ))))))))
