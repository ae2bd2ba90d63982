use Rattle.std.proofs.Common.{◌≡◌, ℕ, zero, suc, ◌<◌, Bool, false, List, length, get_or, Option, Some, sym, ◌∙◌, ap, arith}
use Rattle.std.specs.Prelude.{slice_get}
use Rattle.std.proofs.Math.ListN.{set}
use Rattle.std.proofs.lemmas.List.{get_or-set_other, get_or-set_same, length-set}
use Rattle.std.proofs.lemmas.Option.{slice_get-get_or}
use Rattle.ir_tree.specs.declared.block.Block.{Block}
use Rattle.ir_tree.specs.declared.function.Function.{Function}
use Rattle.ir_tree.specs.declared.instr.Line.{Line}
use Rattle.ir_tree.specs.declared.operand.Operand.{Operand}
use Rattle.lto_sets.specs.Sets.{contains}
use Rattle.ir_facts.specs.FactFlow.{members_out, opened, opened_at, phi_of, taken_from}
use Rattle.ir_facts.specs.Points.{entry_holds, held_along}
use Rattle.ir_facts.proofs.flow.FactFlowEquations.transfer.Goals as goal

-- the two members of a block's row, as they are made
module _ (f : Function) (x : ℕ) (v : Operand) (p : ℕ) (b : Block) (old one two : List Bool) (start held entered : Bool) (at : slice_get f.blocks p ≡ Some b) (long : length old ≡ 2)
    (start_is : start ≡ opened x v b.phis (contains old 0) (contains old 1)) (held_is : held ≡ held_along x v b.lines start)
    (entered_is : entered ≡ entry_holds x v held (taken_from b.number (phi_of x f.blocks))) (first : one ≡ set old 0 held) (second : two ≡ set one 1 entered) where
  one_long : length one ≡ 2
  one_long = ap length first ∙ length-set old 0 held ∙ long

  two_long : length two ≡ 2
  two_long = ap length second ∙ length-set one 1 entered ∙ one_long

  out : Option Block → ℕ → Bool
  out o y = members_out x v (phi_of x f.blocks) o (opened_at x v o (contains old 0) (contains old 1)) y

  along : held ≡ held_along x v b.lines (opened x v b.phis (contains old 0) (contains old 1))
  along = held_is ∙ ap (held_along x v b.lines) start_is

  members : (y : ℕ)
      → y < 2 → contains two y ≡ members_out x v (phi_of x f.blocks) (slice_get f.blocks p) (opened_at x v (slice_get f.blocks p) (contains old 0) (contains old 1)) y
  unfolding out
  members zero small =
      ap (λ (s : List Bool). contains s 0) second
      ∙ get_or-set_other one 1 0 entered false (λ h. omega (arith, h))
      ∙ ap (λ (s : List Bool). contains s 0) first
      ∙ get_or-set_same old 0 held false (omega (arith, long))
      ∙ along
      ∙ ap (λ (o : Option Block). out o 0) (sym at)
  members (suc zero) small =
      ap (λ (s : List Bool). contains s 1) second
      ∙ get_or-set_same one 1 entered false (let n = one_long in omega (arith, n))
      ∙ entered_is
      ∙ ap (λ (h : Bool). entry_holds x v h (taken_from b.number (phi_of x f.blocks))) along
      ∙ ap (λ (o : Option Block). out o 1) (sym at)
  members (suc (suc y)) small = absurd (omega (arith, small))

pub returns : goal.returns
returns c =
    let self = c.args.self.now in
    let f = self.function.now in
    let x = self.local in
    let v = self.value.now in
    let p = c.args.block in
    let b = c.index-as_slice-block.result in
    let old = c.args.row.now in
    let at = slice_get-get_or f.blocks p b c.requires.block ∙ ap (λ (z : Block). Some z) (sym (c.index-as_slice-block.is ∙ ap (λ (bs : List Block). get_or bs p b) c.as_slice.ensures)) in
    let start = c.opened-start.ensures ∙ (λ i. opened x v (c.as_slice-2.ensures i) (c.has.ensures i) (c.has-2.ensures i)) in
    let held = c.held_along-held.ensures ∙ ap (λ (ls : List Line). held_along x v ls c.opened-start.result) c.as_slice-3.ensures in
    let entered =
    c.entry_holds-entered.ensures
    ∙ ap (entry_holds x v c.held_along-held.result) (c.taken_from-taken.ensures ∙ ap (taken_from b.number) self.homed) in (
      two_long f x v p b old c.put.new.row c.put-2.new.row c.opened-start.result c.held_along-held.result c.entry_holds-entered.result at c.requires.row start held entered c.put.ensures
          c.put-2.ensures,
      members f x v p b old c.put.new.row c.put-2.new.row c.opened-start.result c.held_along-held.result c.entry_holds-entered.result at c.requires.row start held entered c.put.ensures
          c.put-2.ensures,
    )

pub put-requires : goal.put-requires
put-requires c = omega (arith, c.requires.row)

pub put-requires-2 : goal.put-requires-2
put-requires-2 c =
    let long = ap length c.put.ensures ∙ length-set c.args.row.now 0 c.held_along-held.result ∙ c.requires.row in
    omega (arith, long)
