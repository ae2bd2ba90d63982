use Rattle.std.proofs.Common.{sym, ◌∙◌, arith}
use Rattle.ir_verify.proofs.Places.{place_some, place_none}
use Rattle.ir_verify.proofs.phis.place_of.Goals as goal

pub returns-in-Some : goal.returns-in-Some
returns-in-Some c =
    let e = place_some c.args.blocks.now 0 c.args.number c.in-Some.place (sym (c.requires c.args.number) ∙ sym c.get.ensures ∙ c.in-Some.is) in
    omega (arith, e)

pub returns-in-None : goal.returns-in-None
returns-in-None c = sym (place_none c.args.blocks.now 0 c.args.number (sym (c.requires c.args.number) ∙ sym c.get.ensures ∙ c.in-None.is))
