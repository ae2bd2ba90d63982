-- What is made of a function has its interface.
use Rattle.std.proofs.Common.{◌≡◌, ◌∙◌, ◌<◌, ℕ, zero, suc, nat_eq, Bool, true, false, if◌then◌else◌, List, [], ◌∷◌, length, map, Option, Some, refl, ap, sym, subst, arith}
use Rattle.std.specs.Prelude.{◌≢◌, slice_get}
use Rattle.std.proofs.lemmas.Bool.{ne_eqb}
use Rattle.ir_tree.specs.Flow.{edges}
use Rattle.ir_tree.specs.declared.block.Block.{Block}
use Rattle.ir_tree.specs.declared.function.Function.{Function}
use Rattle.ir_tree.specs.declared.function.Param.{Param}
use Rattle.ir_tree.specs.declared.operand.Operand.{Operand}
use Rattle.ir_meaning.specs.Facts.{Facts, blocks_replaced}
use Rattle.ir_meaning.specs.Needed.{needed_blocks}
use Rattle.ir_tree.specs.Edited.{param_edited}
use Rattle.ir_edit.specs.Numbered.{in_text_order, new_number, numbers_of}
use Rattle.block_trim.specs.Merged.{IsMergeOf, Joins, joined_block, joined_blocks}
use Rattle.block_trim.specs.Trimmed.{AreReached, IsTrimOf, block_in, blocks_in}
use Rattle.branch_simplify.specs.Simplified.{simplified}
use Rattle.dead_code.specs.Least.{IsNeededOf}
use Rattle.ir_facts.specs.Settled.{settled, settled_block}
use Rattle.ir_facts.specs.Steps.{AreRounds, IsApplied, IsRound, IsStep, ends_of}
use Rattle.slot_promote.specs.Promoted.{blocks_with, end_at, first_at, next_number, promoted_function}
use Rattle.promotable_slots.specs.Slots.{promoted_slots}
use Rattle.slot_promote.specs.Values.{placed}
use Rattle.inline_site.specs.Inlined.{IsInlined}
use Rattle.inline_site.specs.Laws.{InlinedKeepsInterface, IsSameButBlocks}
use Rattle.back_end.specs.Inlinable.{has_blocks}
use Rattle.back_end.specs.Laws.{HasInterfaceOf, MadeHasInterface}
use Rattle.back_end.specs.Made.{AreTurns, IsTurn, MadeWhere}
use Rattle.back_end.specs.Walk.{AreWalks, Walks, next_place}

pub itself : (f : Function) → HasInterfaceOf f f
itself f = record { symbol = refl; linkage = refl; result = refl; params = refl; noinline = refl; optnone = refl; blocks = refl }

is_itself : (f g : Function) → g ≡ f → HasInterfaceOf f g
is_itself f g e = subst (HasInterfaceOf f) (sym e) (itself f)

-- g has f's, and h has g's
both : (f g h : Function) → HasInterfaceOf f g → HasInterfaceOf g h → HasInterfaceOf f h
both f g h a b = record {
  symbol = b.symbol ∙ a.symbol;
  linkage = b.linkage ∙ a.linkage;
  result = b.result ∙ a.result;
  params = b.params ∙ a.params;
  noinline = b.noinline ∙ a.noinline;
  optnone = b.optnone ∙ a.optnone;
  blocks = b.blocks ∙ a.blocks;
}

-- only the blocks are others, and there are some where there were
in_place : (f : Function) (bs : List Block) → has_blocks bs ≡ has_blocks f.blocks → HasInterfaceOf f (record f { blocks = bs })
in_place f bs e = record { symbol = refl; linkage = refl; result = refl; params = refl; noinline = refl; optnone = refl; blocks = e }

-- ---- the passes

replaced_stay : (candidate : ℕ → Option Operand) (starts ends : ℕ → Facts) (bs : List Block) → has_blocks (blocks_replaced candidate starts ends bs) ≡ has_blocks bs
replaced_stay candidate starts ends [] = refl
replaced_stay candidate starts ends (b ∷ bs) = refl

step_interface : (candidate : ℕ → Option Operand) (f g : Function) → IsStep candidate f g → HasInterfaceOf f g
step_interface candidate f g step =
    subst (HasInterfaceOf f) (sym (step.most step.starts step.solution (λ n x v has. has)))
    (in_place f (blocks_replaced candidate step.starts (ends_of candidate step.starts f) f.blocks) (replaced_stay candidate step.starts (ends_of candidate step.starts f) f.blocks))

settled_stay : (bs : List Block) → has_blocks (map settled_block bs) ≡ has_blocks bs
settled_stay [] = refl
settled_stay (b ∷ bs) = refl

round_interface : (f g : Function) → IsRound f g → HasInterfaceOf f g
round_interface f g round = both f (settled f) g (in_place f (map settled_block f.blocks) (settled_stay f.blocks)) (step_interface _ (settled f) g round)

rounds_interface : (n : ℕ) (f g : Function) → AreRounds n f g → HasInterfaceOf f g
unfolding AreRounds
rounds_interface zero f g e = is_itself f g e
rounds_interface (suc n) f g (h, one, rest) = both f h g (round_interface f h one) (rounds_interface n h g rest)

needed_stay : (keeps : ℕ → Bool) (bs : List Block) → has_blocks (needed_blocks keeps bs) ≡ has_blocks bs
needed_stay keeps [] = refl
needed_stay keeps (b ∷ bs) = refl

needed_interface : (f g : Function) → IsNeededOf f g → HasInterfaceOf f g
needed_interface f g (keeps, least, e) = subst (HasInterfaceOf f) (sym e) (in_place f (needed_blocks keeps f.blocks) (needed_stay keeps f.blocks))

regs_stay : (new : ℕ → ℕ) (ps : List Param) → map (λ p. p.reg) (map (param_edited new) ps) ≡ map (λ p. p.reg) ps
regs_stay new [] = refl
regs_stay new (p ∷ ps) = ap (λ l. p.reg ∷ l) (regs_stay new ps)

mapped_stay : (f : Block → Block) (bs : List Block) → has_blocks (map f bs) ≡ has_blocks bs
mapped_stay f [] = refl
mapped_stay f (b ∷ bs) = refl

numbered_interface : (f : Function) → HasInterfaceOf f (in_text_order f)
numbered_interface f = record {
  symbol = refl;
  linkage = refl;
  result = refl;
  params = regs_stay (new_number (numbers_of f)) f.params;
  noinline = refl;
  optnone = refl;
  blocks = mapped_stay _ f.blocks;
}

applied_interface : (f g : Function) → IsApplied f g → HasInterfaceOf f g
applied_interface f g rounds = rounds_interface 16 f g rounds

simplified_interface : (f : Function) → HasInterfaceOf f (simplified f)
simplified_interface f = in_place f (simplified f).blocks (mapped_stay _ f.blocks)

promoted_interface : (f : Function) → HasInterfaceOf f (promoted_function f)
promoted_interface f = in_place f (promoted_function f).blocks (some_stay f.blocks)
  where
    some_stay : (bs : List Block)
        → has_blocks (blocks_with (placed 0 (promoted_slots f)) (promoted_slots f) (end_at f (promoted_slots f) (next_number f)) (edges f) (first_at f (promoted_slots f) (next_number f)) 0 bs) ≡ has_blocks bs
    some_stay [] = refl
    some_stay (b ∷ bs) = refl

-- the entry is reached
trimmed_stay : (f : Function) (reached : ℕ → Bool) → AreReached f reached → (bs : List Block) → f.blocks ≡ bs → has_blocks (blocks_in reached bs) ≡ has_blocks bs
trimmed_stay f reached are [] e = refl
trimmed_stay f reached are (b ∷ bs) e = ap (λ (t : Bool). has_blocks (if t then block_in reached b ∷ blocks_in reached bs else blocks_in reached bs)) entry
  where
    some : 0 < length f.blocks
    some = subst (λ (cs : List Block). 0 < length cs) (sym e) (omega arith)

    entry : reached b.number ≡ true
    entry = (are b.number).1 (0, b, ap (λ (cs : List Block). slice_get cs 0) e, refl, ([], (refl, some)))

trim_interface : (f g : Function) → IsTrimOf f g → HasInterfaceOf f g
trim_interface f g (reached, are, e) = subst (HasInterfaceOf f) (sym e) (in_place f (blocks_in reached f.blocks) (trimmed_stay f reached are f.blocks refl))

-- a block that takes another one stays
taker_stays : (n : ℕ) (a y : Block) → y.number ≢ a.number → (bs : List Block) (i : ℕ) → slice_get bs i ≡ Some a → has_blocks (joined_blocks n y bs) ≡ has_blocks bs
taker_stays n a y other [] i e = refl
taker_stays n a y other (b ∷ bs) zero e =
    let same : b ≡ a = cc e in
    ap (λ (t : Bool). has_blocks (if t then joined_blocks n y bs else joined_block n y b ∷ joined_blocks n y bs)) (ne_eqb y.number b.number (λ k. other (k ∙ ap (λ (c : Block). c.number) same)))
taker_stays n a y other (b ∷ bs) (suc i) e = by (nat_eq y.number b.number) (taker_stays n a y other bs i e ∙ some bs i e)
  where
    some : (cs : List Block) (j : ℕ) → slice_get cs j ≡ Some a → has_blocks cs ≡ true
    some [] j e = absurd cc
    some (c ∷ cs) j e = refl

    by : (t : Bool) → has_blocks (joined_blocks n y bs) ≡ true → has_blocks (if t then joined_blocks n y bs else joined_block n y b ∷ joined_blocks n y bs) ≡ true
    by true h = h
    by false h = refl

joins_interface : (k : ℕ) (f g : Function) → Joins k f g → HasInterfaceOf f g
joins_interface zero f g e = is_itself f g e
joins_interface (suc k) f g (h, a, y, before, can, first, e) =
    both f h g (joins_interface k f h before)
    (subst (HasInterfaceOf h) (sym e) (in_place h (joined_blocks a.number y h.blocks) (taker_stays a.number a y can.other h.blocks can.first.0 can.first.1)))

merge_interface : (f g : Function) → IsMergeOf f g → HasInterfaceOf f g
merge_interface f g (k, joins, none) = joins_interface k f g joins

-- ---- their order

turn_interface : (f g : Function) → IsTurn f g → HasInterfaceOf f g
turn_interface f g turn =
    both f turn.propagated g (applied_interface f turn.propagated turn.facts)
    (both turn.propagated (simplified turn.propagated) g (simplified_interface turn.propagated)
    (both (simplified turn.propagated) turn.trimmed g (trim_interface (simplified turn.propagated) turn.trimmed turn.trim)
    (both turn.trimmed turn.merged g (merge_interface turn.trimmed turn.merged turn.merge) (needed_interface turn.merged g turn.needed))))

turns_interface : (n : ℕ) (f g : Function) → AreTurns n f g → HasInterfaceOf f g
unfolding AreTurns
turns_interface zero f g e = is_itself f g e
turns_interface (suc n) f g (h, one, rest) = both f h g (turn_interface f h one) (turns_interface n h g rest)

-- ---- walks

some_blocks : (bs : List Block) → bs ≢ [] → has_blocks bs ≡ true
some_blocks [] some = absurd (some refl)
some_blocks (b ∷ bs) some = refl

module _ (inlined : InlinedKeepsInterface) (bodies : List ℕ → Option Function) where
  inlined_interface : (f c g : Function) (place : ℕ) → IsInlined f place c (Some g) → HasInterfaceOf f g
  inlined_interface f c g place is = let same : IsSameButBlocks f g = inlined f c g place is in record {
    symbol = same.symbol;
    linkage = same.linkage;
    result = same.result;
    params = ap (λ (ps : List Param). map (λ p. p.reg) ps) same.params;
    noinline = same.noinline;
    optnone = same.optnone;
    blocks = some_blocks g.blocks same.new ∙ sym (some_blocks f.blocks same.old);
  }

  walk_interface : (k from : ℕ) (f g : Function) → Walks k bodies from f g → HasInterfaceOf f g
  unfolding Walks
  walk_interface zero from f g (none, e) = is_itself f g e
  walk_interface (suc k) from f g (place, c, first, h, is, rest) = both f h g (inlined_interface f c h place is) (walk_interface k (next_place f place h) h g rest)

  walks_interface : (n : ℕ) (f g : Function) → AreWalks n bodies f g → HasInterfaceOf f g
  unfolding AreWalks
  walks_interface zero f g e = is_itself f g e
  walks_interface (suc n) f g (h, (k, walk), rest) = both f h g (walk_interface k 1 f h walk) (walks_interface n h g rest)

  -- ---- all of it

  where_interface : (b : Bool) (f g : Function) → MadeWhere b bodies f g → HasInterfaceOf f g
  where_interface true f g e = is_itself f g e
  where_interface false f g made =
      subst (HasInterfaceOf f) (sym made.order)
      (both f made.walked (in_text_order made.turned) (walks_interface 3 f made.walked made.walks)
      (both made.walked (promoted_function made.walked) (in_text_order made.turned) (promoted_interface made.walked)
      (both (promoted_function made.walked) made.turned (in_text_order made.turned) (turns_interface 3 (promoted_function made.walked) made.turned made.turns) (numbered_interface made.turned))))

pub made_interface : InlinedKeepsInterface → MadeHasInterface
made_interface inlined bodies f g made = where_interface inlined bodies f.optnone f g made
