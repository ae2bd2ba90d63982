use Rattle.std.proofs.Common.{◌≡◌, length, map}
use Rattle.ir_lex.specs.TokenKinds.{class_in}
use Rattle.ir_lex.proofs.words.class_in.Given as goal

abbrev pub invariant-loop-rows : goal.invariant-loop-rows
invariant-loop-rows l = class_in (map (λ row. (row.0.now, row.1)) l.rows) l.text ≡ class_in (map (λ row. (row.0.now, row.1)) l.initial.rows) l.text

abbrev pub decreases-loop-rows : goal.decreases-loop-rows
decreases-loop-rows l = length l.rows
