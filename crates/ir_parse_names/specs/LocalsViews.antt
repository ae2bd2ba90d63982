use Rattle.std.specs.Prelude.{List, map}
use Rattle.ir_parse_names.specs.declared.key.Key as code
use Rattle.ir_parse_names.specs.declared.locals.Sort.{Sort}
use Rattle.ir_parse_names.specs.Keys.{Key}
use Rattle.ir_parse_names.specs.KeyViews.{key}

abbrev pub definition : code.Key × Sort → Key × Sort
definition e = (key e.0, e.1)

abbrev pub definitions : List (code.Key × Sort) → List (Key × Sort)
definitions es = map definition es
