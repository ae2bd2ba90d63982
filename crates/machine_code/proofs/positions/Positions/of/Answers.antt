use Rattle.std.proofs.Common.{◌≡◌, ℕ, ◌+◌, ◌-◌, List, drop, length, nat_eq, refl, ap, sym, subst, arith}
use Rattle.std.specs.HashMap as hash
use Rattle.std.specs.Map.{lookup}
use Rattle.std.specs.Option.{unwrap_or}
use Rattle.ir_tree.specs.declared.block.Block.{Block}
use Rattle.ir_interp.specs.Code.{position}
use Rattle.machine_code.proofs.Placing.{all_placed, none_placed, one_placed}
use Rattle.machine_code.proofs.positions.Positions.of.Goals as goal

pub loop-position-init : goal.loop-position-init
loop-position-init c = record {
  within = omega arith;
  placed = none_placed c.args.blocks.now (λ (n : ℕ). hash.get nat_eq c.new-by_number.result n) (length c.args.blocks.now)
      (λ n. ap (λ (es : List (ℕ × ℕ)). lookup (λ (x : ℕ). nat_eq n x) es) c.new-by_number.ensures.empty) refl;
}

pub loop-position-preserved : goal.loop-position-preserved
loop-position-preserved c =
    let back : c.loop-position.position ≡ (c.loop-position.position - 1) + 1 = omega (arith, c.loop-position-test.true) in
    record {
      within = omega (arith, c.loop-position.invariant.within);
      placed = one_placed c.args.blocks.now (λ (n : ℕ). hash.get nat_eq c.loop-position.by_number n) (λ (n : ℕ). hash.get nat_eq c.insert.new.self n) (c.loop-position.position - 1) c.index-blocks-position.result _
          (omega (arith, c.loop-position.invariant.within, c.loop-position-test.true)) c.index-blocks-position.is (ap (λ (b : Block). b.number) (sym c.index-blocks-position.is)) c.in_ok-insert.ensures.updates.0
          (subst (λ (j : ℕ). (n : ℕ) → unwrap_or (hash.get nat_eq c.loop-position.by_number n) (length c.args.blocks.now) ≡ j + position (drop j c.args.blocks.now) n) back c.loop-position.invariant.placed);
    }

pub returns : goal.returns
returns c =
    all_placed c.args.blocks.now (λ (n : ℕ). hash.get nat_eq c.loop-position.by_number n) c.loop-position.position (length c.args.blocks.now)
    (omega (arith, c.loop-position-test.false)) refl c.loop-position.invariant.placed
