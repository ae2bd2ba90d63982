use Rattle.std.proofs.Common.{◌≡◌, ◌<◌, List, length, refl, sym, ◌∙◌, ap, subst, arith}
use Rattle.std.proofs.lemmas.List.{get_or_default, length-take-le}
use Rattle.std.proofs.lemmas.Option.{slice_get_read}
use Rattle.ir_tree.specs.declared.block.Block.{Block}
use Rattle.ir_tree.specs.declared.instr.Line.{Line}
use Rattle.inline_site.proofs.Standing.{split_here}
use Rattle.inline_site.proofs.site.parts.Goals as goal

pub returns : goal.returns
returns c =
    let lines : c.index-blocks-block-2.result.lines ≡ c.as_slice-lines.result.now =
    ap (λ (b : Block). b.lines) (c.index-blocks-block-2.is ∙ get_or_default c.args.blocks.now c.args.block c.index-blocks-block-2.result c.index-blocks-block.result c.requires.block) ∙ sym c.as_slice-lines.ensures in
    let within : c.args.line < length c.index-blocks-block-2.result.lines =
    c.requires.line c.index-blocks-block-2.result (slice_get_read c.args.blocks.now (length c.args.blocks.now) c.args.block c.index-blocks-block-2.result refl c.requires.block c.index-blocks-block-2.is) in
    let less : c.args.line < length c.as_slice-lines.result.now = subst (λ (l : List Line). c.args.line < length l) lines within in
    record {
      blocks = split_here c.args.blocks.now c.args.block c.index-blocks-block-2.result c.requires.block c.index-blocks-block-2.is;
      lines = lines ∙ split_here c.as_slice-lines.result.now c.args.line c.index-lines-line.result less c.index-lines-line.is;
      front = length-take-le c.args.block c.args.blocks.now (omega (arith, c.requires.block));
      before = length-take-le c.args.line c.as_slice-lines.result.now (omega (arith, less));
    }

pub bounds-lines-line : goal.bounds-lines-line
bounds-lines-line c =
    subst (λ (l : List Line). c.args.line < length l) (ap (λ (b : Block). b.lines) c.index-blocks-block.is ∙ sym c.as_slice-lines.ensures)
    (c.requires.line c.index-blocks-block.result (slice_get_read c.args.blocks.now (length c.args.blocks.now) c.args.block c.index-blocks-block.result refl c.requires.block c.index-blocks-block.is))
