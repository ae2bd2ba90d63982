-- The walk goes on behind the phis of the block behind the call.
use Rattle.std.proofs.Common.{◌≡◌, ◌∙◌, ◌+◌, ℕ, List, [], ◌∷◌, ◌++◌, Option, Some, None, map, length, length-append, append_assoc, refl, ap, sym, subst, arith}
use Rattle.std.proofs.lemmas.List.{map-append}
use Rattle.ir_tree.specs.declared.block.Block.{Block}
use Rattle.ir_tree.specs.declared.function.Function.{Function}
use Rattle.ir_tree.specs.declared.instr.Incoming.{Incoming}
use Rattle.ir_tree.specs.declared.operand.Operand.{Operand}
use Rattle.ir_tree.specs.declared.operand.Operand.TheVariants.{Poison}
use Rattle.ir_tree.specs.declared.operand.Reg.{Reg}
use Rattle.ir_meaning.specs.Program.{counted}
use Rattle.ir_tree.specs.Edited.{block_edited}
use Rattle.ir_edit.specs.Substituted.{operand_replaced, replacement}
use Rattle.inline_site.specs.Copies.{behind_call, copied, first_free}
use Rattle.inline_site.specs.Inlined.{after_call, before_call, leading_to, named, result_given, return_entries, spliced}
use Rattle.inline_site.specs.Sites.{Site, counted_in}
use Rattle.back_end.specs.Inlinable.{count}
use Rattle.back_end.specs.WalkLaws.{NextIsBehind}
use Rattle.back_end.proofs.Finding.{counted_both}

-- ---- counts

many_mapped : {X Y : Type 0} (f : X → Y) (xs : List X) → length (map f xs) ≡ length xs
many_mapped f [] = refl
many_mapped f (x ∷ xs) = let rest : length (map f xs) ≡ length xs = many_mapped f xs in omega (arith, rest)

all_kept : (g : Block → Block) → ((b : Block) → counted (g b) ≡ counted b) → (bs : List Block) → counted_in (map g bs) ≡ counted_in bs
all_kept g kept [] = refl
all_kept g kept (b ∷ bs) = let one : counted (g b) ≡ counted b = kept b in let rest : counted_in (map g bs) ≡ counted_in bs = all_kept g kept bs in omega (arith, one, rest)

named_kept : (block behind : ℕ) (b : Block) → counted (named block behind b) ≡ counted b
named_kept block behind b = let phis : length (named block behind b).phis ≡ length b.phis = many_mapped _ b.phis in omega (arith, phis)

edited_phis : (number : ℕ → ℕ) (op : Operand → Operand) (b : Block) → length (block_edited number op b).phis ≡ length b.phis
edited_phis number op b = many_mapped _ b.phis

edited_kept : (number : ℕ → ℕ) (op : Operand → Operand) (b : Block) → counted (block_edited number op b) ≡ counted b
edited_kept number op b =
    let phis : length (block_edited number op b).phis ≡ length b.phis = edited_phis number op b in
    let lines : length (block_edited number op b).lines ≡ length b.lines = many_mapped _ b.lines in
    omega (arith, phis, lines)

-- ---- the block behind the call

-- a block of this number stands among these, and from behind its phis on so many phis, instructions and terminators
record StandsBehind (bs : List Block) (number rest : ℕ) : Type 0 where
  front : List Block
  block : Block
  back : List Block
  is : bs ≡ front ++ block ∷ back
  numbered : block.number ≡ number
  counts : counted_in bs ≡ counted_in front + (length block.phis + rest)

given_behind : (l : Option ℕ) (r : Option Reg) (es : List Incoming) (f : Function) (number rest : ℕ) → StandsBehind f.blocks number rest → StandsBehind (result_given l r es f).blocks number rest
given_behind None r es f number rest h = h
given_behind (Some x) None es f number rest h = h
given_behind (Some x) (Some reg) (e ∷ es) f number rest h = h
given_behind (Some x) (Some reg) [] f number rest h = record {
  front = map edit h.front;
  block = edit h.block;
  back = map edit h.back;
  is = ap (map edit) h.is ∙ map-append edit h.front (h.block ∷ h.back);
  numbered = h.numbered;
  counts =
      let all : counted_in (map edit f.blocks) ≡ counted_in f.blocks = all_kept edit (edited_kept (λ n. n) op) f.blocks in
      let front : counted_in (map edit h.front) ≡ counted_in h.front = all_kept edit (edited_kept (λ n. n) op) h.front in
      let phis : length (edit h.block).phis ≡ length h.block.phis = edited_phis (λ n. n) op h.block in
      let old : counted_in f.blocks ≡ counted_in h.front + (length h.block.phis + rest) = h.counts in
      omega (arith, all, front, phis, old);
}
  where
    op : Operand → Operand
    op = operand_replaced (replacement ((x, Poison reg) ∷ []))

    edit : Block → Block
    edit = block_edited (λ n. n) op

module _ (s : Site) (result : Option Reg) (behind : ℕ) (copy : List Block) (f : Function) where
  abbrev name : Block → Block
  name = named s.block.number behind

  abbrev front : List Block
  front = map (named s.block.number behind) s.front ++ before_call s behind copy ∷ map (leading_to behind) copy

  spliced_behind : StandsBehind (spliced s result behind copy f).blocks behind (length s.after + 1 + counted_in s.back)
  spliced_behind = record {
    front = front;
    block = after_call s result behind copy;
    back = map name s.back;
    is = is;
    numbered = refl;
    counts =
        let all : counted_in (spliced s result behind copy f).blocks ≡ counted_in (front ++ after_call s result behind copy ∷ map name s.back) = ap counted_in is in
        let both : counted_in (front ++ after_call s result behind copy ∷ map name s.back) ≡ counted_in front + (counted (after_call s result behind copy) + counted_in (map name s.back)) =
        counted_both front (map name s.back) (after_call s result behind copy) in
        let back : counted_in (map name s.back) ≡ counted_in s.back = all_kept name (named_kept s.block.number behind) s.back in
        omega (arith, all, both, back);
  }
    where
      is : (spliced s result behind copy f).blocks ≡ front ++ after_call s result behind copy ∷ map name s.back
      is = sym (append_assoc (map name s.front) (before_call s behind copy ∷ map (leading_to behind) copy) (after_call s result behind copy ∷ map name s.back))

-- ---- the place

pub next_behind : NextIsBehind
next_behind f callee h place (some, s, as', stands, call, is) =
    record {
      front = there.front;
      block = there.block;
      back = there.back;
      is = there.is;
      numbered = there.numbered;
      place =
          let new : count h ≡ counted_in there.front + (length there.block.phis + (length s.after + 1 + counted_in s.back)) = there.counts in
          let all : count f ≡ counted_in (s.front ++ s.block ∷ s.back) = ap counted_in stands.blocks in
          let both : counted_in (s.front ++ s.block ∷ s.back) ≡ counted_in s.front + (counted s.block + counted_in s.back) = counted_both s.front s.back s.block in
          let lines : length s.block.lines ≡ length (s.before ++ s.call ∷ s.after) = ap length stands.lines in
          let parts : length (s.before ++ s.call ∷ s.after) ≡ length s.before + length (s.call ∷ s.after) = length-append s.before (s.call ∷ s.after) in
          let here : place ≡ counted_in s.front + (length s.block.phis + (length s.before + 1)) = stands.counts in
          omega (arith, new, all, both, lines, parts, here);
    }
  where
    there : StandsBehind h.blocks (behind_call (first_free f) callee) (length s.after + 1 + counted_in s.back)
    there =
        subst (λ (g : Function). StandsBehind g.blocks (behind_call (first_free f) callee) (length s.after + 1 + counted_in s.back)) (sym is)
        (given_behind s.call.local callee.result (return_entries (copied (first_free f) callee as')) (spliced s callee.result (behind_call (first_free f) callee) (copied (first_free f) callee as') f)
        (behind_call (first_free f) callee) (length s.after + 1 + counted_in s.back)
        (spliced_behind s callee.result (behind_call (first_free f) callee) (copied (first_free f) callee as') f))
