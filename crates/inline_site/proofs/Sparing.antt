-- A sound callee meets what the law of inlining asks of it.
use Rattle.std.proofs.Common.{◌≡◌, ℕ, suc, ◌+◌, ◌<◌, ◌≤◌, nat_eq, List, [], ◌∷◌, ◌++◌, Option, Some, None, map, refl, sym, ◌∙◌, ap, subst, arith, if◌then◌else◌}
use Rattle.std.specs.Prelude.{All}
use Rattle.std.proofs.lemmas.List.Elements.{All-head, All-tail}
use Rattle.ir_tree.specs.Items.{Item, phi_item, line_item, end_item, block_items, items_from, lines_from}
use Rattle.ir_tree.specs.Rules.{EndTypes, Keeps, LineTypes, Sound, StandsRight}
use Rattle.ir_tree.specs.declared.block.Block.{Block}
use Rattle.ir_tree.specs.declared.block.Terminator.{Terminator}
use Rattle.ir_tree.specs.declared.block.Terminator.TheVariants.{Branch, Jump, Return, Switch, Unreachable}
use Rattle.ir_tree.specs.declared.function.Function.{Function}
use Rattle.ir_tree.specs.declared.instr.Line.{Line}
use Rattle.ir_tree.specs.declared.instr.Phi.{Phi}
use Rattle.ir_tree.specs.declared.rule.Rule.TheVariants.{PhiPlace, TypeMismatch}
use Rattle.ir_edit.specs.Numbered.{block_numbers, blocks_numbers, line_numbers, local_number, numbers_of, param_numbers, phi_numbers}
use Rattle.ir_edit.proofs.Tally.{tally, tally_both, tally_same}
use Rattle.ir_meaning.specs.Inline.{BlockSparing, BlocksSparing, IsNoParameter, LinesSparing, PhisSparing, ReturnsFor, Site}
use Rattle.inline_site.specs.Copies.{first_free}
use Rattle.inline_site.proofs.Fitting.{all_back, all_front}
use Rattle.inline_site.proofs.Moved.{no_argument}
use Rattle.inline_site.proofs.Once.{below_room, once_each}
use Rattle.ir_edit.proofs.Counting.{blocks_tally}

-- ---- items of a block and of a line

pub at_block : (P : Item → Type 0) (k : ℕ) (front back : List Block) (block : Block) → All P (items_from k (front ++ block ∷ back)) → (j : ℕ) × All P (block_items j block)
at_block P k [] back block h = (k, all_front P (block_items k block) (items_from (suc k) back) h)
at_block P k (x ∷ front) back block h = at_block P (suc k) front back block (all_back P (block_items k x) (items_from (suc k) (front ++ block ∷ back)) h)

at_line : (P : Item → Type 0) (b k : ℕ) (before after : List Line) (call : Line) → All P (lines_from b k (before ++ call ∷ after)) → (j : ℕ) × P (line_item b j call)
at_line P b k [] after call h = (k, All-head P (line_item b k call) (lines_from b (suc k) after) h)
at_line P b k (l ∷ before) after call h = at_line P b (suc k) before after call (All-tail P (line_item b k l) (lines_from b (suc k) (before ++ call ∷ after)) h)

lines_of : (P : Item → Type 0) (k : ℕ) (b : Block) → All P (block_items k b) → All P (lines_from k 0 b.lines)
lines_of P k b h =
    all_front P (lines_from k 0 b.lines) (end_item k b.end ∷ [])
    (all_back P (map (phi_item k) b.phis) (lines_from k 0 b.lines ++ end_item k b.end ∷ []) h)

pub end_of : (P : Item → Type 0) (k : ℕ) (b : Block) → All P (block_items k b) → P (end_item k b.end)
end_of P k b h =
    All-head P (end_item k b.end) []
    (all_back P (lines_from k 0 b.lines) (end_item k b.end ∷ [])
    (all_back P (map (phi_item k) b.phis) (lines_from k 0 b.lines ++ end_item k b.end ∷ []) h))

-- the line of a sound function at a site keeps the rule of types
pub line_types : (f : Function) → Sound f → (front back : List Block) (block : Block) (before after : List Line) (call : Line) → f.blocks ≡ front ++ block ∷ back
    → block.lines ≡ before ++ call ∷ after → LineTypes call.local call.instr
line_types f sound front back block before after call blocks lines =
    let all : All (Keeps f TypeMismatch) (items_from 0 (front ++ block ∷ back)) = subst (λ (bs : List Block). All (Keeps f TypeMismatch) (items_from 0 bs)) blocks (sound.rules TypeMismatch) in
    let here = at_block (Keeps f TypeMismatch) 0 front back block all in
    let ls : All (Keeps f TypeMismatch) (lines_from here.0 0 (before ++ call ∷ after)) =
    subst (λ (l : List Line). All (Keeps f TypeMismatch) (lines_from here.0 0 l)) lines (lines_of (Keeps f TypeMismatch) here.0 block here.1) in
    (at_line (Keeps f TypeMismatch) here.0 0 before after call ls).1.1

-- the entry of a sound function has no phis
pub entry_bare : (f : Function) → Sound f → (entry : Block) (others : List Block) → f.blocks ≡ entry ∷ others → entry.phis ≡ []
entry_bare f sound entry others is = at entry.phis (all_front StandsRight (map (phi_item 0) entry.phis) (lines_from 0 0 entry.lines ++ end_item 0 entry.end ∷ []) here)
  where
    here : All StandsRight (block_items 0 entry)
    here = all_front StandsRight (block_items 0 entry) (items_from 1 others) (subst (λ (bs : List Block). All StandsRight (items_from 0 bs)) is (sound.rules PhiPlace))

    at : (ps : List Phi) → All StandsRight (map (phi_item 0) ps) → ps ≡ []
    at [] h = refl
    at (p ∷ ps) h = absurd (All-head StandsRight (phi_item 0 p) (map (phi_item 0) ps) h refl)

-- ---- what is defined in the callee's blocks is no parameter

module _ (callee : Function) (sound : Sound callee) (t : Site) (body : t.body ≡ callee) (join : t.join ≡ first_free callee + t.by) (unnamed : callee.result ≡ None → t.call.local ≡ None) where
  abbrev IsDefined : ℕ → Type 0
  IsDefined x = (x < first_free callee) × (tally x (param_numbers callee.params) ≡ 0)

  abbrev Defines : List ℕ → Type 0
  Defines xs = (x : ℕ) → 1 ≤ tally x xs → IsDefined x

  defines_front : (xs ys : List ℕ) → Defines (xs ++ ys) → Defines xs
  defines_front xs ys h x is = let both : tally x (xs ++ ys) ≡ tally x xs + tally x ys = tally_both x xs ys in h x (omega (arith, is, both))

  defines_back : (xs ys : List ℕ) → Defines (xs ++ ys) → Defines ys
  defines_back xs ys h x is = let both : tally x (xs ++ ys) ≡ tally x xs + tally x ys = tally_both x xs ys in h x (omega (arith, is, both))

  defines_head : (x : ℕ) (xs : List ℕ) → Defines (x ∷ xs) → IsDefined x
  defines_head x xs h = let one : 1 ≤ (if nat_eq x x then 1 else 0) = tally_same x x refl in h x (omega (arith, one))

  all_defined : Defines (blocks_numbers callee.blocks)
  all_defined x is =
      let most = once_each callee sound.formed x in
      let blocks = blocks_tally x callee.blocks in
      let all : tally x (numbers_of callee) ≡ tally x (param_numbers callee.params) + tally x (blocks_numbers callee.blocks) = tally_both x (param_numbers callee.params) (blocks_numbers callee.blocks) in
      (below_room x (numbers_of callee) (omega (arith, all, is)), omega (arith, most, blocks, is))

  no_parameter : (x : ℕ) → IsDefined x → IsNoParameter t (Some x)
  no_parameter x d = no_argument t.body.params t.arguments x (ap (λ (g : Function). tally x (param_numbers g.params)) body ∙ d.1)

  phis_spare : (ps : List Phi) → Defines (phi_numbers ps) → PhisSparing t ps
  phis_spare [] d = tt
  phis_spare (p ∷ ps) d = (no_parameter p.local (defines_head p.local (phi_numbers ps) d), phis_spare ps (defines_back (p.local ∷ []) (phi_numbers ps) d))

  local_spares : (o : Option ℕ) → Defines (local_number o) → IsNoParameter t o
  local_spares None d = tt
  local_spares (Some x) d = no_parameter x (defines_head x [] d)

  lines_spare : (ls : List Line) → Defines (line_numbers ls) → LinesSparing t ls
  lines_spare [] d = tt
  lines_spare (l ∷ ls) d =
      (local_spares l.local (defines_front (local_number l.local) (line_numbers ls) d), lines_spare ls (defines_back (local_number l.local) (line_numbers ls) d))

  end_spares : (e : Terminator) → EndTypes callee e → ReturnsFor t e
  end_spares (Return None) h = unnamed (sym h)
  end_spares (Return (Some a)) h = tt
  end_spares (Jump target) h = tt
  end_spares (Branch condition if_true if_false) h = tt
  end_spares (Switch width value default cases) h = tt
  end_spares Unreachable h = tt

  block_spares : (k : ℕ) (b : Block) → Defines (block_numbers b) → All (Keeps callee TypeMismatch) (block_items k b) → BlockSparing t b
  unfolding block_numbers
  block_spares k b d h =
      let inner : Defines (phi_numbers b.phis ++ line_numbers b.lines) = defines_back (b.number ∷ []) (phi_numbers b.phis ++ line_numbers b.lines) d in
      let number : b.number < first_free callee = (defines_head b.number (phi_numbers b.phis ++ line_numbers b.lines) d).0 in
      record {
        number = omega (arith, number, join);
        phis = phis_spare b.phis (defines_front (phi_numbers b.phis) (line_numbers b.lines) inner);
        lines = lines_spare b.lines (defines_back (phi_numbers b.phis) (line_numbers b.lines) inner);
        end = end_spares b.end (end_of (Keeps callee TypeMismatch) k b h).1;
      }

  blocks_spare : (k : ℕ) (bs : List Block) → Defines (blocks_numbers bs) → All (Keeps callee TypeMismatch) (items_from k bs) → BlocksSparing t bs
  blocks_spare k [] d h = tt
  blocks_spare k (b ∷ bs) d h = (
    block_spares k b (defines_front (block_numbers b) (blocks_numbers bs) d) (all_front (Keeps callee TypeMismatch) (block_items k b) (items_from (suc k) bs) h),
    blocks_spare (suc k) bs (defines_back (block_numbers b) (blocks_numbers bs) d) (all_back (Keeps callee TypeMismatch) (block_items k b) (items_from (suc k) bs) h),
  )

  pub spares : BlocksSparing t callee.blocks
  spares = blocks_spare 0 callee.blocks all_defined (sound.rules TypeMismatch)
