use Rattle.std.proofs.Common.{ap, sym, subst, ◌∙◌, ◌+◌, ◌<◌, ℕ, length}
use Rattle.std.specs.Prelude.{slice_get}
use Rattle.ir_verify.proofs.Going.{went_on}
use Rattle.ir_verify.proofs.Walked.{end_formed, end_below, went_end}
use Rattle.ir_verify.proofs.blocks.Walk.block_fault.Goals as goal

pub end_broken-requires-clause-known : goal.end_broken-requires-clause-known
end_broken-requires-clause-known c = c.requires.walk.known

pub end_broken-requires-clause-formed : goal.end_broken-requires-clause-formed
end_broken-requires-clause-formed c = c.requires.walk.formed

pub end_broken-requires-clause-item : goal.end_broken-requires-clause-item
end_broken-requires-clause-item c = end_formed c.args.self.now.function.now c.args.self.now.lines.now c.requires.walk.formed c.requires.walk.lined c.args.place c.args.block.now c.args.at c.requires.stands

pub line_of-on-requires : goal.line_of-on-requires
line_of-on-requires c =
    subst (λ (n : ℕ). c.args.at + n + c.len-2.result < length c.args.self.now.lines.now) (sym c.len.ensures)
    (subst (λ (n : ℕ). c.args.at + length c.args.block.now.phis + n < length c.args.self.now.lines.now) (sym c.len-2.ensures) (end_below c.args.self.now.function.now c.args.self.now.lines.now c.requires.walk.formed c.requires.walk.lined c.args.place c.args.block.now c.args.at c.requires.stands))

pub returns : goal.returns
returns c =
    went_end c.args.self.now.function.now c.args.self.now.lines.now c.requires.walk.formed c.requires.walk.lined c.args.place c.args.block.now c.args.at c.requires.stands
    c.args.self.now.number c.args.at c.line_of-on.result c.in_ok-broken.broken c.args.found c.in_ok-best.best c.noted.result
    (ap (λ (n : ℕ). slice_get c.args.self.now.lines.now (c.args.at + length c.args.block.now.phis + n)) (sym c.len-2.ensures) ∙ ap (λ (n : ℕ). slice_get c.args.self.now.lines.now (c.args.at + n + c.len-2.result)) (sym c.len.ensures) ∙ c.line_of-on.ensures)
    c.in_ok-broken.ensures c.noted.ensures
    (went_on c.args.self.now.function.now c.args.self.now.lines.now c.args.self.now.number c.args.at (c.args.at + length c.args.block.now.phis) (c.args.at + length c.args.block.now.phis + length c.args.block.now.lines) c.args.found c.in_ok-phis.phis c.in_ok-best.best c.in_ok-phis.ensures c.in_ok-best.ensures)
