use Rattle.std.proofs.Common.{List, ℕ, sym, subst}
use Rattle.ir_tree.specs.declared.module.Module.{Module}
use Rattle.ir_parse.specs.Reading.{Reads}
use Rattle.ir_parse.proofs.reading.read_text.Goals as goal

pub parsed_from-requires : goal.parsed_from-requires
parsed_from-requires c = c.in_ok-tree.ensures.found c.args.bytes.now c.in_ok-lexed.ensures

pub returns-clause-found : goal.returns-clause-found
returns-clause-found c =
    subst (λ (p : Module × List (List ℕ)). Reads c.args.bytes.now p.0 p.1) (sym c.parsed_from.ensures) (c.in_ok-tree.ensures.found c.args.bytes.now c.in_ok-lexed.ensures)
