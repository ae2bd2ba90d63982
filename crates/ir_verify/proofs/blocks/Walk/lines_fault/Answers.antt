use Rattle.std.proofs.Common.{ap, sym, subst, ◌∙◌, ◌+◌, ◌<◌, ◌≡◌, ℕ, List, length, get_or}
use Rattle.std.specs.Prelude.{slice_get, Some}
use Rattle.ir_tree.specs.declared.instr.Line.{Line}
use Rattle.ir_verify.proofs.Walked.{line_formed, line_below, went_line}
use Rattle.ir_verify.proofs.blocks.Walk.lines_fault.Goals as goal

pub line_broken-requires-clause-known : goal.line_broken-requires-clause-known
line_broken-requires-clause-known c = c.requires.walk.known

pub line_broken-requires-clause-formed : goal.line_broken-requires-clause-formed
line_broken-requires-clause-formed c = c.requires.walk.formed

pub line_broken-requires-clause-item : goal.line_broken-requires-clause-item
line_broken-requires-clause-item c =
    line_formed c.args.self.now.function.now c.args.self.now.lines.now c.requires.walk.formed c.requires.walk.lined c.args.place c.args.block.now c.args.at c.requires.stands
    c.loop-line.line c.index-items-line.result (subst (λ (ls : List Line). c.loop-line.line < length ls) c.as_slice-items.ensures c.loop-line-test.true) (c.index-items-line.is ∙ ap (λ (ls : List Line). get_or ls c.loop-line.line c.index-items-line.result) c.as_slice-items.ensures)

pub line_of-on-requires : goal.line_of-on-requires
line_of-on-requires c =
    subst (λ (n : ℕ). c.args.at + n + c.loop-line.line < length c.args.self.now.lines.now) (sym c.len.ensures)
    (line_below c.args.self.now.function.now c.args.self.now.lines.now c.requires.walk.formed c.requires.walk.lined c.args.place c.args.block.now c.args.at c.requires.stands
    c.loop-line.line c.index-items-line.result (subst (λ (ls : List Line). c.loop-line.line < length ls) c.as_slice-items.ensures c.loop-line-test.true) (c.index-items-line.is ∙ ap (λ (ls : List Line). get_or ls c.loop-line.line c.index-items-line.result) c.as_slice-items.ensures))

pub loop-line-preserved : goal.loop-line-preserved
loop-line-preserved c =
    went_line c.args.self.now.function.now c.args.self.now.lines.now c.requires.walk.formed c.requires.walk.lined c.args.place c.args.block.now c.args.at c.requires.stands
    c.loop-line.line c.index-items-line.result (subst (λ (ls : List Line). c.loop-line.line < length ls) c.as_slice-items.ensures c.loop-line-test.true) (c.index-items-line.is ∙ ap (λ (ls : List Line). get_or ls c.loop-line.line c.index-items-line.result) c.as_slice-items.ensures)
    c.args.self.now.number (c.args.at + length c.args.block.now.phis) c.line_of-on.result c.in_ok-broken.broken c.args.found c.loop-line.best c.noted-best.result
    (subst (λ (n : ℕ). slice_get c.args.self.now.lines.now (c.args.at + n + c.loop-line.line) ≡ Some c.line_of-on.result) c.len.ensures c.line_of-on.ensures) c.in_ok-broken.ensures c.noted-best.ensures c.loop-line.invariant
