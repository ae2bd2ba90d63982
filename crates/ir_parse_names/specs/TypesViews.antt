use Rattle.std.specs.Prelude.{List, map, Option, option_map}
use Rattle.std.specs.Borrow.{Bor}
use Rattle.ir_parse_parts.specs.Shapes.{Written}
use Rattle.ir_parse_names.specs.declared.key.Key as code
use Rattle.ir_parse_names.specs.Keys.{Key}
use Rattle.ir_parse_names.specs.KeyViews.{key}

abbrev pub type_def : code.Key × Option (Bor Written) → Key × Option Written
type_def e = (key e.0, option_map (λ (s : Bor Written). s.now) e.1)

abbrev pub types : List (code.Key × Option (Bor Written)) → List (Key × Option Written)
types es = map type_def es
