use Rattle.std.proofs.Common.{rules, ap, subst, ◌∙◌, List}
use Rattle.ir_tree.specs.Forms.{Form}
use Rattle.ir_verify.specs.Parts.{LeadsNowhere}
use Rattle.ir_tree.specs.Views.{form_of}
use Rattle.ir_verify.proofs.Follows.{follow_at, follow_none}
use Rattle.ir_verify.proofs.instructions.+follow.Goals as goal

pub returns-in-Some : goal.returns-in-Some
returns-in-Some t c =
    follow_at c.args.shape.now c.args.indices.now c.in-Struct.field-0 c.in-Struct.parts.items c.index-item.result c.in-Some.part.now c.follow-in-Some.result
    (c.node.ensures ∙ ap form_of c.in-Struct.is) c.in-len1-up.len_at_least c.index-item.is (search rules) c.follow-in-Some.ensures

pub returns-in-None : goal.returns-in-None
returns-in-None t c =
    let nowhere = subst (λ (parts : List Form). LeadsNowhere parts c.index-item.result) c.deref-in-Struct.ensures.value c.in-None.ensures in
    let never = follow_none c.args.shape.now c.args.indices.now c.in-Struct.field-0 c.in-Struct.parts.items c.index-item.result (c.node.ensures ∙ ap form_of c.in-Struct.is) c.in-len1-up.len_at_least c.index-item.is nowhere in
    (λ e. absurd (cc e), λ w. absurd (never w))
