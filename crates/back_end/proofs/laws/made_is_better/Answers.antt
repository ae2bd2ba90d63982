use Rattle.std.proofs.Common.{ℕ, List, Option}
use Rattle.ir_tree.specs.Rules.{Sound}
use Rattle.ir_tree.specs.declared.function.Function.{Function}
use Rattle.back_end.specs.Inlinable.{AreSound}
use Rattle.back_end.specs.Made.{IsMade}
use Rattle.back_end.proofs.Bettering.{OrderLaws, made_in_order, made_keeps}
use Rattle.back_end.proofs.Walks.{Kept}
use Rattle.back_end.proofs.laws.made_is_better.Goals as goal

pub returns : goal.returns
returns c = record {
  better = λ bodies f g sound sounds made. (kept bodies f g sound sounds made).1;
  sound = λ bodies f g sound sounds made. (kept bodies f g sound sounds made).0;
  in_order = made_in_order laws;
}
  where
    laws : OrderLaws
    laws = record {
      walk = c.walk_is_better.ensures;
      promoted = c.promoted_is_better.ensures;
      promoted_sound = c.promoted_is_sound.ensures;
      turn = c.turn_is_better.ensures;
      numbered = c.text_order_is_better.ensures;
      numbered_sound = c.text_order_is_sound.ensures;
    }

    kept : (bodies : List ℕ → Option Function) (f g : Function) → Sound f → AreSound bodies → IsMade bodies f g → Kept bodies f g
    kept = made_keeps laws
