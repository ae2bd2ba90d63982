use Rattle.std.proofs.Common.{◌∙◌, List, Bool, length, ap, sym}
use Rattle.lto_sets.specs.Sets.{meet_of}
use Rattle.ir_flow.proofs.Narrowed.{length-meet}
use Rattle.ir_flow.proofs.narrow.narrow.Goals as goal

pub equal-requires : goal.equal-requires
equal-requires c =
    ap length (c.meet.ensures ∙ ap (λ (s : List Bool). meet_of s c.args.other.now) c.copy_from.ensures)
    ∙ length-meet c.args.row.now c.args.other.now (sym c.requires.other)

pub copy_from-requires-2 : goal.copy_from-requires-2
copy_from-requires-2 c =
    sym (ap length (c.meet.ensures ∙ ap (λ (s : List Bool). meet_of s c.args.other.now) c.copy_from.ensures)
    ∙ length-meet c.args.row.now c.args.other.now (sym c.requires.other))

pub returns-clause-spare : goal.returns-clause-spare
returns-clause-spare c =
    ap length (c.meet.ensures ∙ ap (λ (s : List Bool). meet_of s c.args.other.now) c.copy_from.ensures)
    ∙ length-meet c.args.row.now c.args.other.now (sym c.requires.other) ∙ sym c.requires.spare
