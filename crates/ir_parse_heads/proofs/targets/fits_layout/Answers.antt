use Rattle.std.proofs.Common.{sym, ap, ◌∙◌}
use Rattle.ir_parse_heads.specs.Targets.{fits_item, fits_layout}
use Rattle.ir_parse_heads.proofs.Layouts.{fails, fits, fits_more, shorter}
use Rattle.ir_parse_heads.proofs.targets.fits_layout.Goals as goal

pub returns-then-not-fits_item : goal.returns-then-not-fits_item
unfolding fits_layout
returns-then-not-fits_item c = sym (sym c.each.invariant ∙ fails 45 c.each.rest.now (ap fits_item (sym c.until.ensures) ∙ sym c.if-not-fits_item.ensures))

pub returns-in_default : goal.returns-in_default
unfolding fits_layout
returns-in_default c = sym (sym c.each.invariant ∙ fits 45 c.each.rest.now (ap fits_item (sym c.until.ensures) ∙ sym c.if-not-fits_item.ensures) c.in_default.ensures)

pub each-smaller : goal.each-smaller
each-smaller c = shorter 45 c.each.rest.now c.in-Some.more.now c.in-Some.ensures

pub each-preserved : goal.each-preserved
each-preserved c = sym (fits_more 45 c.each.rest.now c.in-Some.more.now (ap fits_item (sym c.until.ensures) ∙ sym c.if-not-fits_item.ensures) c.in-Some.ensures) ∙ c.each.invariant
