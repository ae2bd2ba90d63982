-- Functions whose instructions the rule table may be asked of, as of each formed function.
use Rattle.std.specs.Prelude.{List, [], ◌∷◌}
use Rattle.ir_tree.specs.declared.block.Block.{Block}
use Rattle.ir_tree.specs.declared.instr.Line.{Line}
use Rattle.fold_rules.specs.Widths.{HasWidths}

abbrev pub LinesHaveWidths : List Line → Type 0
LinesHaveWidths [] = Unit {0}
LinesHaveWidths (l ∷ ls) = HasWidths l.instr × LinesHaveWidths ls

abbrev pub BlocksHaveWidths : List Block → Type 0
BlocksHaveWidths [] = Unit {0}
BlocksHaveWidths (b ∷ bs) = LinesHaveWidths b.lines × BlocksHaveWidths bs
