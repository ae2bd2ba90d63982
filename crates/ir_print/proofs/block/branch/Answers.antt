use Rattle.std.proofs.Common.{◌++◌, List, ℕ, refl, sym, ap}
use Rattle.std.specs.Prelude.{codes}
use Rattle.ir_print.specs.Tokens.{comma, indent, space, width, word}
use Rattle.ir_print.specs.Blocks.{target}
use Rattle.ir_print.proofs.Written.{finish, respelt, respelt_last, one_bit}
use Rattle.ir_print.proofs.block.branch.Goals as goal

pub returns : goal.returns
returns c =
    finish _ _ _ _ _ _ (respelt _ (word indent (codes "br") ++ width space 1) _ _ (ap (λ (ds : List ℕ). codes "\n  br i" ++ ds) (sym one_bit)) c.in_ok-word.ensures)
    (finish _ _ _ _ _ _ c.in_ok-decided.ensures (respelt_last _ _ (comma ++ target c.args.if_false) _ _ refl c.local.ensures))
