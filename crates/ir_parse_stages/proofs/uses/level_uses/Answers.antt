use Rattle.std.proofs.Common.{◌≡◌, ◌+◌, ◌-◌, ◌++◌, subst, sym, ap, ◌∙◌, drop, arith}
use Rattle.ir_parse_parts.specs.declared.address.Level.{Level}
use Rattle.ir_parse_names.specs.Marks.{uses, level_uses}
use Rattle.ir_parse_stages.proofs.Gathering.{level_more}
use Rattle.ir_parse_stages.proofs.uses.level_uses.Goals as goal

pub each-preserved : goal.each-preserved
each-preserved c =
    let again : c.each.left ≡ c.each.left - 1 + 1 = omega arith in
    let level = c.index-levels-left.result in
    record {
      begun = level_more c.args.levels.now (c.each.left - 1) level c.args.marks.now c.each.marks c.uses.new.marks (omega (arith, c.each.invariant.within)) c.index-levels-left.is
          (subst (λ n. c.each.marks ≡ c.args.marks.now ++ level_uses (drop n c.args.levels.now)) again c.each.invariant.begun)
          (c.in_ok-uses.ensures ∙ ap (λ (l : Level). c.each.marks ++ uses l.typed.shape) (sym c.index-levels-left.is));
      within = omega (arith, c.each.invariant.within);
    }
