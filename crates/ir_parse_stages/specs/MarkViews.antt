-- What the marks that are kept stand for.
use Rattle.std.specs.Prelude.{List, [], ◌∷◌, ◌++◌}
use Rattle.ir_parse_names.specs.Marks.{Mark, type_name, type_use, shape, many, global, symbol, address}
use Rattle.ir_parse_stages.specs.declared.mark.Mark as code
use Rattle.ir_parse_stages.specs.declared.mark.Mark.TheVariants as kept

abbrev pub standing : code.Mark → List Mark
standing (kept.TypeName name typed) = type_name name.now typed.now ∷ []
standing (kept.TypeUse name) = type_use name.now ∷ []
standing (kept.Shape typed) = shape typed.now ∷ []
standing (kept.Alloca typed count) = many typed.now count ∷ []
standing (kept.Global name) = global name.now ∷ []
standing (kept.Symbol name) = symbol name.now ∷ []
standing (kept.Address steps) = address steps.now ∷ []

abbrev pub marks : List code.Mark → List Mark
marks [] = []
marks (m ∷ ms) = standing m ++ marks ms
