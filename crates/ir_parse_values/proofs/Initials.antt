-- Initialisers know no local.
use Rattle.std.proofs.Common.{◌≡◌, sym, ap}
use Rattle.ir_parse_parts.specs.declared.raw.Init as raw_init
use Rattle.ir_tree.specs.Forms.{Form}
use Rattle.ir_parse_names.specs.Locals.{LocalTable, none_known}
use Rattle.ir_parse_names.specs.Types.{Types}
use Rattle.ir_parse_names.specs.Variables.{init_in}
use Rattle.ir_parse_values.specs.Closing.{initial_in}

pub initial_is : (types : Types) (locals : LocalTable) (f : Form) (i : raw_init.Init) → locals ≡ none_known → init_in types f i ≡ initial_in types locals f i
unfolding init_in
initial_is types locals f i known = ap (λ (k : LocalTable). initial_in types k f i) (sym known)
