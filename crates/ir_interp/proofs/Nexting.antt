-- The next line of a frame, by the code of its block.
use Rattle.std.proofs.Common.{◌≡◌, suc, List, [], drop, slice_get, Some, None, sym, ◌∙◌, arith}
use Rattle.ir_tree.specs.declared.instr.Line.{Line as MeantLine}
use Rattle.ir_machine.specs.declared.memory.Memory.{Memory}
use Rattle.ir_interp.specs.declared.line.CodeLine.{CodeLine}
use Rattle.ir_interp.specs.Code.{block_of}
use Rattle.ir_interp.specs.Scenes.{IsNext, Plays, Scene}
use Rattle.ir_interp.specs.declared.code.Block.{Block}
use Rattle.ir_interp.specs.declared.code.Code.{Code}
use Rattle.ir_interp.specs.declared.frame.Frame.{Frame}
use Rattle.ir_interp.proofs.Blocks.{code_block}
use Rattle.ir_interp.proofs.Leaving.{own_block}
use Rattle.ir_interp.proofs.Positions.{below_length, dropped_next, dropped_none, past_length, there}

-- a line that is there is the next one
pub next_line : (z : Scene) (code : Code) (m : Memory) (f : Frame) (c : Block) (line : CodeLine) → (s : Plays z code m f) → block_of code f.function f.block ≡ Some c → slice_get c.lines.items f.line ≡ Some line →
    (l : MeantLine) × ((rest : List MeantLine) × IsNext z m line l rest)
next_line z code m f c line s here is =
    let b = own_block z code m f c s here in
    let within = below_length c.lines.items f.line line is in
    let l = there s.frame.stands.block.lines f.line (omega (arith, within, b.long)) in (
      l.0,
      (
        drop (suc f.line) s.frame.stands.block.lines,
        record {
          next = s.frame.stands.rest ∙ dropped_next s.frame.stands.block.lines f.line l.0 l.1;
          is = b.lines f.line l.0 line l.1 is;
          known = (s.knows m z.memory (λ h x. x) f.function f.block c here).lines f.line line is;
        },
      ),
    )

-- where none is there, the block is at its end
pub no_line : (z : Scene) (code : Code) (m : Memory) (f : Frame) (c : Block) → (s : Plays z code m f) → block_of code f.function f.block ≡ Some c → slice_get c.lines.items f.line ≡ None → z.frame.rest ≡ []
no_line z code m f c s here is =
    let b = own_block z code m f c s here in
    s.frame.stands.rest ∙ dropped_none s.frame.stands.block.lines f.line (omega (arith, past_length c.lines.items f.line is, b.long))

-- the frame's block is there
pub block_there : (z : Scene) (code : Code) (m : Memory) (f : Frame) → (s : Plays z code m f) → block_of code f.function f.block ≡ None → ⊥
block_there z code m f s none =
    let got = code_block z.names z.program code f.function f.block z.frame.function s.frame.stands.block s.code s.frame.named s.frame.called s.frame.stands.here in
    cc (sym none ∙ got.1.0)
