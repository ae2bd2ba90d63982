-- One more item of a block, with its line.
use Rattle.std.proofs.Common.{◌≡◌, ℕ, ◌+◌, ◌<◌, ◌≤◌, List, length, get_or, refl, sym, subst, arith}
use Rattle.std.specs.Prelude.{slice_get, All, Option, Some}
use Rattle.ir_tree.specs.declared.block.Block.{Block}
use Rattle.ir_tree.specs.declared.function.Function.{Function}
use Rattle.ir_tree.specs.declared.instr.Line.{Line}
use Rattle.ir_tree.specs.declared.instr.Phi.{Phi}
use Rattle.ir_tree.specs.declared.rule.Rule.{Rule}
use Rattle.ir_tree.specs.Formed.{Formed, ItemFormed}
use Rattle.ir_tree.specs.Items.{Item, phi_item, line_item, end_item, items}
use Rattle.ir_verify.specs.declared.fault.VerifyFault.{VerifyFault}
use Rattle.ir_verify.specs.Faults.{FirstBroken}
use Rattle.ir_verify.specs.Orders.{IsNoted, IsPast, Went}
use Rattle.ir_verify.specs.Standing.{Stands}
use Rattle.ir_verify.proofs.Going.{went_on, went_one}
use Rattle.ir_verify.proofs.Keys.{got_at, got_is, got_below, got_read}
use Rattle.ir_verify.proofs.Stood.{phi_stands, line_stands, end_stands}

module _ (f : Function) (lines : List ℕ) (lined : length lines ≡ length (items f)) (i : ℕ) (item : Item) (here : slice_get (items f) i ≡ Some item) where
  formed_at : All (ItemFormed f) (items f) → ItemFormed f item
  formed_at all = subst (ItemFormed f) (got_is (items f) i item item here) (all i item (got_below (items f) i item here))

  below_at : (k : ℕ) → k ≡ i → k < length lines
  below_at k e = let b = got_below (items f) i item here in omega (arith, b, lined, e)

  went_item : (g first k next line : ℕ) (broken : Option Rule) (start old new : Option VerifyFault) → k ≡ i → next ≡ i + 1 → slice_get lines k ≡ Some line → FirstBroken f item broken → IsNoted old (Some g) line broken new → Went f lines g first start i old → Went f lines g first start next new
  went_item g first k next line broken start old new e n on b noted w =
      subst (λ (j : ℕ). Went f lines g first start j new) (sym n)
      (went_on f lines g first i (i + 1) start old new w (went_one f lines g i item line broken old new here (subst (λ (j : ℕ). slice_get lines j ≡ Some line) e on) b noted))

module _ (f : Function) (lines : List ℕ) (formed : Formed f) (lined : length lines ≡ length (items f)) (place : ℕ) (block : Block) (at : ℕ) (stands : Stands f place block at) where
  pub place_below : place < length f.blocks
  place_below = got_below f.blocks place block stands.got

  module _ (j : ℕ) (phi : Phi) (l : j < length block.phis) (is : phi ≡ get_or block.phis j phi) where
    phi_here : slice_get (items f) (at + j) ≡ Some (phi_item place phi)
    phi_here = phi_stands f place block at stands j phi (got_read block.phis j phi l is)

    pub phi_formed : ItemFormed f (phi_item place phi)
    phi_formed = formed_at f lines lined (at + j) (phi_item place phi) phi_here formed.items

    pub phi_below : at + j + 0 < length lines
    phi_below = below_at f lines lined (at + j) (phi_item place phi) phi_here (at + j + 0) (omega arith)

    pub went_phi : (g line : ℕ) (broken : Option Rule) (start old new : Option VerifyFault) → slice_get lines (at + j + 0) ≡ Some line → FirstBroken f (phi_item place phi) broken → IsNoted old (Some g) line broken new → Went f lines g at start (at + j) old → Went f lines g at start (at + (j + 1)) new
    went_phi g line broken start old new on b noted w =
        went_item f lines lined (at + j) (phi_item place phi) phi_here g at (at + j + 0) (at + (j + 1)) line broken start old new (omega arith) (omega arith) on b noted w

  module _ (j : ℕ) (line : Line) (l : j < length block.lines) (is : line ≡ get_or block.lines j line) where
    line_here : slice_get (items f) (at + length block.phis + j) ≡ Some (line_item place j line)
    line_here = line_stands f place block at stands j line (got_read block.lines j line l is)

    pub line_formed : ItemFormed f (line_item place j line)
    line_formed = formed_at f lines lined (at + length block.phis + j) (line_item place j line) line_here formed.items

    pub line_below : at + length block.phis + j < length lines
    line_below = below_at f lines lined (at + length block.phis + j) (line_item place j line) line_here (at + length block.phis + j) refl

    pub went_line : (g first on : ℕ) (broken : Option Rule) (start old new : Option VerifyFault) → slice_get lines (at + length block.phis + j) ≡ Some on → FirstBroken f (line_item place j line) broken → IsNoted old (Some g) on broken new → Went f lines g first start (at + length block.phis + j) old → Went f lines g first start (at + length block.phis + (j + 1)) new
    went_line g first on broken start old new h b noted w =
        went_item f lines lined (at + length block.phis + j) (line_item place j line) line_here g first (at + length block.phis + j) (at + length block.phis + (j + 1)) on broken start old new refl (omega arith) h b noted w

  end_here : slice_get (items f) (at + length block.phis + length block.lines) ≡ Some (end_item place block.end)
  end_here = end_stands f place block at stands

  pub end_formed : ItemFormed f (end_item place block.end)
  end_formed = formed_at f lines lined (at + length block.phis + length block.lines) (end_item place block.end) end_here formed.items

  pub end_below : at + length block.phis + length block.lines < length lines
  end_below = below_at f lines lined (at + length block.phis + length block.lines) (end_item place block.end) end_here (at + length block.phis + length block.lines) refl

  pub went_end : (g first on : ℕ) (broken : Option Rule) (start old new : Option VerifyFault) → slice_get lines (at + length block.phis + length block.lines) ≡ Some on → FirstBroken f (end_item place block.end) broken → IsNoted old (Some g) on broken new → Went f lines g first start (at + length block.phis + length block.lines) old → Went f lines g first start (at + length block.phis + length block.lines + 1) new
  went_end g first on broken start old new h b noted w =
      went_item f lines lined (at + length block.phis + length block.lines) (end_item place block.end) end_here g first (at + length block.phis + length block.lines) (at + length block.phis + length block.lines + 1) on broken start old new refl refl h b noted w

-- past the last item
pub went_all : (f : Function) (lines : List ℕ) (g j : ℕ) (start new : Option VerifyFault) → Formed f → length (items f) ≤ j → Went f lines g 0 start j new → IsPast f lines g start new
went_all f lines g j start new formed l w = record {
  sound = λ e. record {
    formed = formed;
    rules = λ rule k d m. w.kept e k (get_or (items f) k d) rule (omega arith) (omega (arith, l, m)) (got_at (items f) k d m);
  };
  covers = λ rule line broken. (let below = got_below (items f) broken.0 broken.1 broken.2 in w.covers broken.0 broken.1 line rule (omega arith) (omega (arith, l, below)) broken.2 broken.3 broken.4);
  before = w.before;
  origin = w.origin;
}
