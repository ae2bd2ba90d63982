-- Variables and type definitions that the grammar spells.
use Rattle.std.proofs.Common.{◌≡◌, ℕ, Bool, true, false, Option, Some, None, refl}
use Rattle.ir_parse_globals.specs.Initialisers.{scalar_of}
use Rattle.ir_parse_globals.specs.TypeDefinitions.{defined, type_line}
use Rattle.ir_parse_globals.specs.Variables.{aligned, behind_kind, further, in_comdat, is_declared, marked, tail, value, variable_line, variable_name, with_align}
use Rattle.ir_lex.specs.Tok.{Tok}
use Rattle.ir_parse_names.specs.Types.{shape_if}
use Rattle.ir_parse_heads.specs.FunctionHeads.{with_linkage}
use Rattle.ir_parse_operands.specs.ShapeForms.{memory_shape}
use Rattle.ir_parse_parts.specs.declared.raw.Init.{Init}
use Rattle.ir_tree.specs.Formed.{IsResult}
use Rattle.ir_tree.specs.declared.function.Linkage.{Linkage}
use Rattle.ir_tree.specs.declared.function.Linkage.TheVariants as linkages
use Rattle.ir_tree.specs.declared.operand.Reg.{Reg}
use Rattle.ir_parse.specs.Written.{AlignWritten, InitWritten, TypeWritten}
use Rattle.ir_parse.specs.Items.{InitShaped, ItemWritten}
use Rattle.ir_parse.proofs.Alignments.{alignment_written}
use Rattle.ir_parse.proofs.Initialisers.{initialiser_written, scalar_written}
use Rattle.ir_parse.proofs.Means.{Means, either_means, folded, follow, nothing, skip, star_means}
use Rattle.ir_parse.proofs.Shapes.{shape_written}

-- ---- values

-- one that is left out stands behind `external`
record ValueWritten (is : Bool) (i : Option Init) : Type 0 where
  written : InitWritten i
  shaped : InitShaped i
  none : i ≡ None → is ≡ true

value_written : (is : Bool) (scalar : Option Reg) → IsResult scalar → Means (value memory_shape is scalar) (ValueWritten is)
value_written true scalar h = nothing (record { written = tt; shaped = tt; none = λ e. refl })
value_written false scalar h = follow (initialiser_written scalar h) (λ i g. nothing (record { written = g.0; shaped = g.1; none = λ e. absurd cc }))

external_if : (l : Option Linkage) → is_declared l ≡ true → with_linkage linkages.External l ≡ linkages.External
external_if None e = refl
external_if (Some linkages.External) e = refl
external_if (Some l) e = absurd cc

-- ---- what follows

aligned_written : Means aligned AlignWritten
unfolding aligned
aligned_written = skip _ (λ _. follow alignment_written (λ n h. nothing h))

comdat_written : Means in_comdat AlignWritten
unfolding in_comdat
comdat_written = skip _ (λ _. skip _ (λ _. nothing tt))

marked_written : Means marked AlignWritten
unfolding marked
marked_written = skip _ (λ _. nothing tt)

further_written : Means further AlignWritten
unfolding further
further_written = skip _ (λ _. either_means comdat_written (either_means aligned_written marked_written))

last_written : (n last : Option ℕ) → AlignWritten n → AlignWritten last → AlignWritten (with_align n last)
last_written n None h g = h
last_written n (Some last) h g = g

tail_written : Means tail AlignWritten
unfolding tail
tail_written = follow (star_means further_written) (λ all h. nothing (folded with_align AlignWritten AlignWritten last_written None all tt h))

-- ---- variables

behind_kind_written : (name : Tok) (l : Option Linkage) (constant : Bool) → Means (behind_kind memory_shape name l constant) ItemWritten
unfolding behind_kind
behind_kind_written name l constant =
    follow shape_written (λ typed h.
    follow (value_written (is_declared l) (scalar_of typed.shape) (scalar_written typed.shape h)) (λ init g.
    follow tail_written (λ align k. nothing (record { shape = h; align = k; init = g.written; declared = λ e. external_if l (g.none e) }, g.shaped))))

pub variable_written : Means (variable_line variable_name memory_shape) ItemWritten
unfolding variable_line
variable_written = skip _ (λ name. skip _ (λ _. skip _ (λ l. skip _ (λ constant. behind_kind_written name l constant))))

-- ---- type definitions

defined_written : Means (defined memory_shape) (λ typed. TypeWritten (shape_if typed))
unfolding defined
defined_written = either_means (skip _ (λ _. nothing tt)) (follow shape_written (λ typed h. nothing h))

pub type_written : Means (type_line memory_shape) ItemWritten
unfolding type_line
type_written = skip _ (λ name. skip _ (λ _. skip _ (λ _. follow defined_written (λ typed h. nothing h))))
