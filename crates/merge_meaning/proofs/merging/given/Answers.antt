use Rattle.std.proofs.Common.{◌≡◌, List, suc, take_all, refl, subst, arith, rules}
use Rattle.std.specs.Prelude.{All}
use Rattle.std.proofs.lemmas.List.Elements.{All-more}
use Rattle.ir_tree.specs.Wholes.{IsVerified}
use Rattle.ir_tree.specs.declared.module.Module.{Module}
use Rattle.merge_meaning.proofs.Tabled.{merged_more}
use Rattle.merge_meaning.proofs.merging.given.Goals as goal

pub loop-verified-preserved : goal.loop-verified-preserved
loop-verified-preserved c =
    let next : c.in-Some.next ≡ suc c.loop-verified.number = search rules in
    record {
      rows = merged_more c.args.resolution.now c.args.modules.now c.loop-verified.verified-index c.verified-item.result c.loop-verified-test.true c.verified-item.is c.loop-verified.number
          c.in-Some.next next c.loop-verified.rows c.give.new.rows _ c.verified-item.result.globals refl c.in_ok-give.ensures.given
          c.loop-verified.invariant.rows;
      verified = All-more IsVerified c.args.modules.now c.loop-verified.verified-index c.verified-item.result c.loop-verified-test.true c.loop-verified.invariant.verified
          (subst (λ (m : Module). IsVerified m) c.verified-item.is c.in_ok-give.ensures.verified);
    }

pub returns-clause-verified : goal.returns-clause-verified
returns-clause-verified c =
    subst (λ (ms : List Module). All IsVerified ms) (take_all c.loop-verified.verified-index c.args.modules.now (omega (arith, c.loop-verified-test.false))) c.loop-verified.invariant.verified
