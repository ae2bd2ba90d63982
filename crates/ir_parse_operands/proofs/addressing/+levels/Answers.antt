use Rattle.std.proofs.Common.{Bool, List, ◌∷◌, ◌+◌, drop, sym, ap, ◌∙◌}
use Rattle.std.specs.Prelude.{◌&&◌}
use Rattle.std.proofs.lemmas.List.{at_drop_all, drop_more}
use Rattle.ir_parse_parts.specs.Shapes.{Written, parts_of}
use Rattle.ir_parse_operands.specs.Extents.{all_nest_within}
use Rattle.ir_parse_operands.proofs.addressing.+levels.Goals as goal

pub all_nest_within-each-preserved : goal.all_nest_within-each-preserved
all_nest_within-each-preserved t c =
    sym (ap (λ (ps : List Written). all_nest_within c.args.most (parts_of ps)) (drop_more c.args.parts.now c.each.part-index c.part-item.result c.each-test.true ∙ ap (λ (p : Written). p ∷ drop (c.each.part-index + 1) c.args.parts.now) (sym c.part-item.is))
    ∙ ap (λ (b : Bool). b && all_nest_within c.args.most (parts_of (drop (c.each.part-index + 1) c.args.parts.now))) (sym c.nests_within.ensures ∙ c.if-not-nests_within.false))
    ∙ c.each.invariant

pub all_nest_within-returns-then-not-nests_within : goal.all_nest_within-returns-then-not-nests_within
all_nest_within-returns-then-not-nests_within t c =
    sym (ap (λ (ps : List Written). all_nest_within c.args.most (parts_of ps)) (drop_more c.args.parts.now c.each.part-index c.part-item.result c.each-test.true ∙ ap (λ (p : Written). p ∷ drop (c.each.part-index + 1) c.args.parts.now) (sym c.part-item.is))
    ∙ ap (λ (b : Bool). b && all_nest_within c.args.most (parts_of (drop (c.each.part-index + 1) c.args.parts.now))) (sym c.nests_within.ensures ∙ c.if-not-nests_within.true))
    ∙ c.each.invariant

pub all_nest_within-returns : goal.all_nest_within-returns
all_nest_within-returns t c = sym (at_drop_all (λ (ps : List Written). all_nest_within c.args.most (parts_of ps)) c.args.parts.now c.each.part-index c.each-test.false) ∙ c.each.invariant
