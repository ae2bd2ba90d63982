use Rattle.std.proofs.Common.{◌≡◌, suc, List, [], ◌∷◌, ◌++◌, length, sym, ◌∙◌, ap, arith, append_assoc, append-nil}
use Rattle.ir_tree.specs.declared.instr.Line.{Line}
use Rattle.block_trim.proofs.joining.rows_of.Goals as goal

pub loop-line-smaller : goal.loop-line-smaller
loop-line-smaller c = let one : length c.loop-line.lines ≡ suc (length c.pop_front.new.self) = ap length c.in-Some.ensures.items in omega (arith, one)

pub loop-line-preserved : goal.loop-line-preserved
loop-line-preserved c =
    ap (λ (rows : List Line). rows ++ c.pop_front.new.self) c.in_ok-push.ensures.ok
    ∙ append_assoc c.loop-line.rows (c.in-Some.line ∷ []) c.pop_front.new.self
    ∙ ap (λ (lines : List Line). c.loop-line.rows ++ lines) (sym c.in-Some.ensures.items)
    ∙ c.loop-line.invariant

pub returns : goal.returns
returns c =
    sym (append-nil c.loop-line.rows)
    ∙ ap (λ (lines : List Line). c.loop-line.rows ++ lines) (sym c.in_default.ensures.cases.0)
    ∙ c.loop-line.invariant
