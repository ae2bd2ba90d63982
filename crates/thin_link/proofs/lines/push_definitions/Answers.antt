use Rattle.std.proofs.Common.{◌∙◌, ◌++◌, List, ap, arith, map, take_all}
use Rattle.thin_link.specs.Lines.{definition_line, text_of}
use Rattle.thin_link.specs.Rows.{all_shown}
use Rattle.thin_link.specs.declared.entry.Entry.{Entry}
use Rattle.thin_link.proofs.Parts.{one_line}
use Rattle.thin_link.proofs.lines.push_definitions.Goals as goal

pub loop-entry-preserved : goal.loop-entry-preserved
loop-entry-preserved c =
    one_line (definition_line c.args.live.now) c.args.entries.now c.loop-entry.entry-index c.entry-item.result c.args.out.now.items c.loop-entry.out.items c.push_definition.new.out.items c.loop-entry-test.true
    c.entry-item.is c.loop-entry.invariant c.in_ok-push_definition.ensures

pub returns : goal.returns
returns c =
    c.loop-entry.invariant
    ∙ ap (λ (es : List Entry). c.args.out.now.items ++ text_of (map (definition_line c.args.live.now) (all_shown es))) (take_all c.loop-entry.entry-index c.args.entries.now (omega (arith, c.loop-entry-test.false)))
