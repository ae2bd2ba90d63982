-- Sound, and better in every program, by passes in a row.
use Rattle.std.proofs.Common.{◌≡◌, ℕ, zero, suc, ◌+◌, ◌-◌, ◌*◌, ◌^◌, ◌≤◌, Bool, true, false, List, length, Option, arith, mul-pos, subst, sym}
use Rattle.std.proofs.lemmas.Nat.{pow_pos}
use Rattle.ir_tree.specs.Rules.{Sound}
use Rattle.ir_tree.specs.declared.function.Function.{Function}
use Rattle.ir_edit.specs.Numbered.{in_text_order}
use Rattle.ir_edit.specs.Sounds.{TextOrderIsSound}
use Rattle.ir_meaning.specs.Near.{BetterThan}
use Rattle.ir_meaning.specs.Program.{Program}
use Rattle.ir_meaning.specs.Formed.{IsFormed}
use Rattle.ir_meaning.proofs.Alike.Itself.{same_better}
use Rattle.ir_meaning.proofs.Between.InARow.{in_a_row}
use Rattle.block_trim.specs.MergeLaws.{MergeIsBetter, MergeIsSound}
use Rattle.block_trim.specs.Laws.{TrimIsBetter, TrimIsSound}
use Rattle.branch_simplify.specs.Laws.{SimplifiedIsBetter, SimplifiedIsSound}
use Rattle.branch_simplify.specs.Simplified.{simplified}
use Rattle.dead_code.specs.Laws.{NeededIsBetter, NeededIsSound, TextOrderIsBetter, longest}
use Rattle.ir_facts.specs.Steps.{RoundsAreBetter}
use Rattle.slot_promote.specs.Laws.{PromotedIsBetter, PromotedIsSound}
use Rattle.slot_promote.specs.Laws as slots
use Rattle.slot_promote.specs.Promoted.{promoted_function}
use Rattle.back_end.specs.Inlinable.{AreSound}
use Rattle.back_end.specs.Laws.{MadeIsInOrder, TurnIsBetter}
use Rattle.back_end.specs.Made.{AreTurns, IsBetterEverywhere, IsMade, MadeWhere}
use Rattle.back_end.specs.Walk.{AreWalks}
use Rattle.back_end.specs.WalkLaws.{WalkIsBetter}
use Rattle.back_end.proofs.Walks as walked

some_times : (a b : ℕ) → 1 ≤ a → 1 ≤ b → 1 ≤ a * b
some_times a b h k = omega (arith, mul-pos {m = a} {n = b} (omega (arith, h)) (omega (arith, k)))

itself : (f : Function) → IsBetterEverywhere f f
itself f = record { bound = 1; some = omega arith; better = λ p formed. same_better p formed f }

-- h is better than g, and g than f
behind : (f g h : Function) → IsBetterEverywhere h g → IsBetterEverywhere g f → IsBetterEverywhere h f
behind f g h one other = record {
  bound = one.bound * other.bound;
  some = some_times one.bound other.bound one.some other.some;
  better = λ p formed. in_a_row p formed one.bound other.bound other.some h g f (one.better p formed) (other.better p formed);
}

within : (f g : Function) (bound : ℕ) → 1 ≤ bound → ((p : Program) → IsFormed p → BetterThan p bound g f) → IsBetterEverywhere g f
within f g bound some better = record { bound = bound; some = some; better = better }

-- sound, and better in every program
abbrev Kept : Function → Function → Type 0
Kept f g = Sound g × IsBetterEverywhere g f

further : (f g h : Function) → Kept f g → Kept g h → Kept f h
further f g h (was, one) (sound, other) = (sound, behind f g h other one)

is_itself : (f g : Function) → Sound f → g ≡ f → Kept f g
is_itself f g sound e = subst (Kept f) (sym e) (sound, itself f)

-- ---- one turn

pub record TurnLaws : Type 0 where
  pub rounds : RoundsAreBetter
  pub branches : SimplifiedIsBetter
  pub branches_sound : SimplifiedIsSound
  pub trim : TrimIsBetter
  pub trim_sound : TrimIsSound
  pub merge : MergeIsBetter
  pub merge_sound : MergeIsSound
  pub needed : NeededIsBetter
  pub needed_sound : NeededIsSound

pub turn_keeps : TurnLaws → TurnIsBetter
turn_keeps laws f g sound turn = further f a g one (further a (simplified a) g two (further (simplified a) b g three (further b c g four five)))
  where
    a : Function
    a = turn.propagated

    b : Function
    b = turn.trimmed

    c : Function
    c = turn.merged

    one : Kept f a
    one = let both = laws.rounds 16 f a sound turn.facts in (both.0, within f a 1 (omega arith) both.1)

    two : Kept a (simplified a)
    two = (laws.branches_sound a one.0, within a (simplified a) 1 (omega arith) (laws.branches a one.0))

    three : Kept (simplified a) b
    three = (laws.trim_sound (simplified a) b turn.trim two.0, within (simplified a) b 1 (omega arith) (laws.trim (simplified a) b turn.trim))

    four : Kept b c
    four = (laws.merge_sound b c three.0 turn.merge, within b c (2 ^ (length b.blocks - length c.blocks)) (omega (arith, pow_pos (length b.blocks - length c.blocks))) (laws.merge b c three.0 turn.merge))

    five : Kept c g
    five = (laws.needed_sound c g turn.needed four.0, within c g (longest c.blocks + 1) (omega arith) (laws.needed c g turn.needed))

-- ---- their order

pub record OrderLaws : Type 0 where
  pub walk : WalkIsBetter
  pub promoted : PromotedIsBetter
  pub promoted_sound : PromotedIsSound
  pub turn : TurnIsBetter
  pub numbered : TextOrderIsBetter
  pub numbered_sound : TextOrderIsSound

module _ (laws : OrderLaws) where
  promotion_keeps : (f : Function) → Sound f → Kept f (promoted_function f)
  promotion_keeps f sound = (laws.promoted_sound f sound, within f (promoted_function f) (slots.longest f.blocks + 1) (omega arith) (laws.promoted f sound))

  turns_keep : (n : ℕ) (f g : Function) → Sound f → AreTurns n f g → Kept f g
  unfolding AreTurns
  turns_keep zero f g sound e = is_itself f g sound e
  turns_keep (suc n) f g sound (h, one, rest) = let kept = laws.turn f h sound one in further f h g kept (turns_keep n h g kept.0 rest)

  numbers_keep : (f : Function) → Sound f → Kept f (in_text_order f)
  numbers_keep f sound = (laws.numbered_sound f sound, within f (in_text_order f) 1 (omega arith) (λ p formed. laws.numbered p formed f))

  module _ (bodies : List ℕ → Option Function) (sounds : AreSound bodies) where
    walks_keep : (n : ℕ) (f g : Function) → Sound f → AreWalks n bodies f g → walked.Kept bodies f g
    unfolding AreWalks
    walks_keep zero f g sound e = walked.is_itself bodies f g sound e
    walks_keep (suc n) f g sound (h, one, rest) = let kept = laws.walk bodies f h sound sounds one in walked.further bodies f h g kept (walks_keep n h g kept.0 rest)

    where_keeps : (b : Bool) (f g : Function) → Sound f → MadeWhere b bodies f g → walked.Kept bodies f g
    where_keeps true f g sound e = walked.is_itself bodies f g sound e
    where_keeps false f g sound optimised = walked.further bodies f optimised.walked g inlined (with_bodies optimised.walked g later)
      where
        inlined : walked.Kept bodies f optimised.walked
        inlined = walks_keep 3 f optimised.walked sound optimised.walks

        later : Kept optimised.walked g
        later =
            let promoted = promotion_keeps optimised.walked inlined.0 in
            let turned = turns_keep 3 (promoted_function optimised.walked) optimised.turned promoted.0 optimised.turns in
            subst (Kept optimised.walked) (sym optimised.order)
            (further optimised.walked (promoted_function optimised.walked) (in_text_order optimised.turned) promoted
            (further (promoted_function optimised.walked) optimised.turned (in_text_order optimised.turned) turned (numbers_keep optimised.turned turned.0)))

        with_bodies : (f g : Function) → Kept f g → walked.Kept bodies f g
        with_bodies f g (sound, better) = (sound, record { bound = better.bound; some = better.some; better = λ p formed own. better.better p formed })

  pub made_keeps : (bodies : List ℕ → Option Function) (f g : Function) → Sound f → AreSound bodies → IsMade bodies f g → walked.Kept bodies f g
  made_keeps bodies f g sound sounds made = where_keeps bodies sounds f.optnone f g sound made

  module _ (bodies : List ℕ → Option Function) (sounds : AreSound bodies) where
    where_in_order : (b : Bool) (f g : Function) → Sound f → b ≡ false → MadeWhere b bodies f g → (h : Function) × Sound h × (g ≡ in_text_order h)
    where_in_order true f g sound other made = absurd (cc other)
    where_in_order false f g sound other optimised =
        let inlined = walks_keep bodies sounds 3 f optimised.walked sound optimised.walks in
        let promoted = promotion_keeps optimised.walked inlined.0 in
        (optimised.turned, (turns_keep 3 (promoted_function optimised.walked) optimised.turned promoted.0 optimised.turns).0, optimised.order)

  pub made_in_order : MadeIsInOrder
  made_in_order bodies f g sound sounds other made = where_in_order bodies sounds f.optnone f g sound other made
