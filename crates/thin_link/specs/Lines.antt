-- The lines of a report.
use Rattle.std.specs.Prelude.{ℕ, Bool, if◌then◌else◌, List, [], ◌∷◌, ◌++◌, flat_map, Option, Some, None, codes, decimal}
use Rattle.ir_tree.specs.Names.{quoted}
use Rattle.lto_sets.specs.Sets.{contains}
use Rattle.combined_index.specs.declared.definition.Definition.{Definition}
use Rattle.thin_link.specs.Listed.{Listed}

-- ---- words

-- a function's count; a variable has none
abbrev pub count_text : Option ℕ → List ℕ
count_text None = codes "-"
count_text (Some count) = decimal count

-- what the link does with a definition: it keeps it, leaves it out, or takes another one in its place
abbrev pub state_text : List Bool → Definition → List ℕ
state_text live d = if d.prevails then (if contains live d.symbol then codes "live" else codes "dead") else codes "replaced"

-- a symbol as it is printed
unfoldable pub symbol_text : List ℕ → List ℕ
symbol_text name = codes "@" ++ quoted name

-- ---- parts of lines

unfoldable pub define_part : List ℕ → List ℕ
define_part name = codes "  define " ++ symbol_text name

unfoldable pub import_part : List ℕ → List ℕ
import_part name = codes "  import " ++ symbol_text name

unfoldable pub from_part : ℕ → List ℕ
from_part home = codes " from " ++ decimal home

unfoldable pub count_part : Option ℕ → List ℕ
count_part count = codes " " ++ count_text count

unfoldable pub state_part : List Bool → Definition → List ℕ
state_part live d = codes " " ++ state_text live d

unfoldable pub number_part : ℕ → List ℕ
number_part k = codes "module " ++ decimal k

unfoldable pub file_part : List ℕ → List ℕ
file_part file = codes " " ++ file

-- ---- lines

-- `module K NAME`
unfoldable pub module_line : ℕ → List ℕ → List ℕ
module_line k file = number_part k ++ file_part file

-- `define @N COUNT STATE`, set in
unfoldable pub definition_line : List Bool → Listed → List ℕ
definition_line live e = define_part e.name ++ (count_part e.definition.count ++ state_part live e.definition)

-- `import @N from K COUNT`, set in
unfoldable pub import_line : Listed → List ℕ
import_line e = import_part e.name ++ (from_part e.home ++ count_part e.definition.count)

-- lines as text, each with its line end
abbrev pub text_of : List (List ℕ) → List ℕ
text_of lines = flat_map (λ line. line ++ 10 ∷ []) lines
