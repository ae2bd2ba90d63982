-- What an `alloca` takes.
use Rattle.std.specs.Prelude.{List, [], ◌∷◌}
use Rattle.ir_parse_parts.specs.declared.raw.Instr as raw_instr
use Rattle.ir_parse_parts.specs.declared.raw.Instr.TheVariants as ri
use Rattle.ir_parse_names.specs.Marks.{Mark, many, uses}

-- the marks of an `alloca`; there are none of another instruction
abbrev pub reserved : raw_instr.Instr → List Mark
reserved (ri.Alloca typed count align) = many typed count ∷ uses typed.shape
reserved _ = []
