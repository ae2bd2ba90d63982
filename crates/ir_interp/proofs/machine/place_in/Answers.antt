use Rattle.std.proofs.Common.{option_copied, sym, ap, ◌∙◌, arith, true≢false, is_some}
use Rattle.ir_interp.proofs.Blocks.{code_block}
use Rattle.ir_interp.proofs.Placing.{placed, short_place}
use Rattle.ir_interp.proofs.machine.place_in.Goals as goal

pub returns-in-Some : goal.returns-in-Some
returns-in-Some c = λ names p d is l e s.
    let here = sym c.block.ensures ∙ ap option_copied c.in-Some.is in
    let short = short_place names p c.args.code.now d c.args.frame.now.function c.args.frame.now.block c.args.frame.now.line c.in-Some.block.now is l e s here in
    placed names p c.args.code.now d c.args.frame.now.function c.args.frame.now.block c.args.frame.now.line c.in-Some.block.now _ is l e s here (omega (arith, short, c.saturating_add.ensures, c.saturating_add-in-Some.ensures))

pub returns-in-None : goal.returns-in-None
returns-in-None c = λ names p d is l e s.
    let none = sym c.block.ensures ∙ ap option_copied c.in-None.is in
    let got = code_block names p c.args.code.now c.args.frame.now.function c.args.frame.now.block d.function s.block is l e s.here in
    absurd (true≢false (sym (ap is_some (sym none ∙ got.1.0))))
