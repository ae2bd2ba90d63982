-- What the law of inlining gives, under its final numbers, is the definition's function.
use Rattle.std.proofs.Common.{◌≡◌, ℕ, ◌+◌, ◌<◌, ◌≤◌, ◌==◌, ◌&&◌, nat_eq, Bool, true, false, List, [], ◌∷◌, ◌++◌, Option, Some, None, map, refl, sym, ◌∙◌, ap, subst, arith, if◌then◌else◌}
use Rattle.std.proofs.lemmas.Bool.{eq-eqb, ne_eqb}
use Rattle.std.proofs.lemmas.List.{map-append}
use Rattle.ir_tree.specs.Formed.{numbers}
use Rattle.ir_tree.specs.Rules.{LineTypes, Sound}
use Rattle.ir_tree.specs.declared.block.Block.{Block}
use Rattle.ir_tree.specs.declared.function.Function.{Function}
use Rattle.ir_tree.specs.declared.function.Param.{Param}
use Rattle.ir_tree.specs.declared.instr.Incoming.{Incoming}
use Rattle.ir_tree.specs.declared.instr.Instr.TheVariants.{Call}
use Rattle.ir_tree.specs.declared.instr.Phi.{Phi}
use Rattle.ir_tree.specs.declared.block.Terminator.TheVariants.{Jump}
use Rattle.ir_tree.specs.declared.operand.Argument.{Argument}
use Rattle.ir_tree.specs.declared.operand.Operand.{Operand}
use Rattle.ir_tree.specs.declared.operand.Operand.TheVariants.{Local, Null, Number, Poison, Symbol as Named}
use Rattle.ir_tree.specs.declared.operand.Reg.{Reg}
use Rattle.ir_tree.specs.declared.operand.Reg.TheVariants.{Int, Ptr}
use Rattle.ir_meaning.specs.Act.{find_block}
use Rattle.ir_meaning.specs.Execute.{reg_eq, regs_eq, result_eq}
use Rattle.ir_meaning.specs.Frame.{regs_of}
use Rattle.ir_meaning.specs.Near.{BetterThan}
use Rattle.ir_meaning.specs.Program.{Program}
use Rattle.ir_tree.specs.Edited.{block_edited}
use Rattle.ir_edit.specs.Numbered.{blocks_numbers, numbers_of, param_numbers}
use Rattle.ir_edit.specs.Substituted.{or_local}
use Rattle.ir_edit.proofs.Tally.{tally, tally_both, tally_same}
use Rattle.ir_meaning.specs.Formed.{IsFormed}
use Rattle.ir_meaning.specs.Inline as law
use Rattle.ir_meaning.specs.Inline.{CanInline, EdgesBelow, below, block_renamed, blocks_moved, blocks_renamed, edges_renamed, first_part, inlined_blocks, join_phis, moved, phis_renamed, second_part}
use Rattle.ir_meaning.specs.Needed.{AllKept, UsesKept}
use Rattle.ir_meaning.specs.Renumber.{block_renumbered, incoming_renumbered, operand_renumbered, param_renumbered, phi_renumbered, renumbered}
use Rattle.ir_meaning.proofs.Between.InARow.{in_a_row}
use Rattle.ir_meaning.proofs.Inlining.Inlined.{inlined_is_better}
use Rattle.ir_meaning.proofs.Numbers.Renumbered.{renumbered_better}
use Rattle.inline_site.specs.Copies.{behind_call, copied, copied_number, copied_operand, first_free}
use Rattle.inline_site.specs.Inlined.{before_call, entry_named, entry_of, inlined, leading_to, named, phi_named, result_given, result_phis, return_entries}
use Rattle.inline_site.specs.Laws.{IsBetter, IsOwn}
use Rattle.ir_tree.specs.Types.{argument_types, param_types}
use Rattle.inline_site.specs.Sites.{IsCallOf, Site, StandsAt}
use Rattle.inline_site.proofs.Final.{final_apart, final_number, shifts, stays}
use Rattle.inline_site.proofs.Fitting.{BlockFits, BlocksFit, LinesFit, LocalBelow, PhisFit, blocks_below, fit_back, fit_front, fits, lines_back, lines_front}
use Rattle.inline_site.proofs.Fixed.{end_fixed, lines_fixed, operand_fixed}
use Rattle.inline_site.proofs.Moved.{argument_moved, blocks_same, returns_same, same_argument}
use Rattle.inline_site.proofs.Once.{below_room, once_each}
use Rattle.inline_site.proofs.Sparing.{entry_bare, line_types, spares}

-- ---- the law's plan

abbrev reg_or : Option Reg → Reg
reg_or None = Ptr
reg_or (Some reg) = reg

abbrev plan : Function → Function → Site → List Argument → law.Site
plan f callee s as' = record {
  block = s.block.number;
  before = s.before;
  call = s.call;
  after = s.after;
  callee = callee.symbol;
  result = callee.result;
  arguments = as';
  by = first_free f;
  join = first_free callee + first_free f;
  join_reg = reg_or callee.result;
  body = callee;
}

-- ---- types that are the same test as the same

reg_same : (a : Reg) → reg_eq a a ≡ true
reg_same (Int w) = eq-eqb w w refl
reg_same Ptr = refl

regs_same : (as' : List Argument) → regs_eq (argument_types as') (regs_of as') ≡ true
regs_same [] = refl
regs_same (a ∷ more) = λ i. reg_same a.reg i && regs_same more i

result_same : (o : Option Reg) → result_eq o o ≡ true
result_same None = refl
result_same (Some a) = reg_same a

-- ---- the block of the call

-- it is the first of its number
first_of_number : (n : ℕ) (x : Block) (front back : List Block) (block : Block) → block.number ≡ n → tally n (map (λ b. b.number) (x ∷ (front ++ block ∷ back))) ≤ 1 → x.number ≡ n → ⊥
first_of_number n x front back block is once e =
    let one : 1 ≤ (if nat_eq n x.number then 1 else 0) = tally_same n x.number (sym e) in
    let two : 1 ≤ tally n (map (λ b. b.number) (front ++ block ∷ back)) = stands front in
    omega (arith, one, two, once)
  where
    stands : (bs : List Block) → 1 ≤ tally n (map (λ b. b.number) (bs ++ block ∷ back))
    stands [] = let here : 1 ≤ (if nat_eq n block.number then 1 else 0) = tally_same n block.number (sym is) in omega (arith, here)
    stands (b ∷ bs) = let more : 1 ≤ tally n (map (λ b. b.number) (bs ++ block ∷ back)) = stands bs in omega (arith, more)

found_first : (n : ℕ) (front back : List Block) (block : Block) → block.number ≡ n → tally n (map (λ b. b.number) (front ++ block ∷ back)) ≤ 1 → find_block (front ++ block ∷ back) n ≡ Some block
found_first n [] back block is once = ap (λ (b : Bool). if b then Some block else find_block back n) (eq-eqb block.number n is)
found_first n (x ∷ front) back block is once =
    ap (λ (b : Bool). if b then Some x else find_block (front ++ block ∷ back) n) (ne_eqb x.number n (first_of_number n x front back block is once))
    ∙ found_first n front back block is (omega (arith, once))

split : (t : law.Site) (front back : List Block) (block : Block) → block.number ≡ t.block → tally t.block (map (λ b. b.number) (front ++ block ∷ back)) ≤ 1
    → inlined_blocks t (front ++ block ∷ back) ≡ blocks_renamed t front ++ first_part t block ∷ (blocks_moved t t.body.blocks ++ second_part t block ∷ blocks_renamed t back)
split t [] back block is once =
    ap (λ (b : Bool). if b then first_part t block ∷ (blocks_moved t t.body.blocks ++ second_part t block ∷ blocks_renamed t back) else block_renamed t block ∷ inlined_blocks t back) (eq-eqb block.number t.block is)
split t (x ∷ front) back block is once =
    ap (λ (b : Bool). if b then first_part t x ∷ (blocks_moved t t.body.blocks ++ second_part t x ∷ blocks_renamed t (front ++ block ∷ back)) else block_renamed t x ∷ inlined_blocks t (front ++ block ∷ back))
    (ne_eqb x.number t.block (first_of_number t.block x front back block is once))
    ∙ ap (λ (l : List Block). block_renamed t x ∷ l) (split t front back block is (omega (arith, once)))

-- ---- what stays of the caller

module _ (t : law.Site) (n : ℕ) (new : ℕ → ℕ) (behind : ℕ) (fixed : (x : ℕ) → x < n → new x ≡ x) (joins : new t.join ≡ behind) where
  edges_stay : (es : List Incoming) → EdgesBelow n es → map (incoming_renumbered new) (edges_renamed t es) ≡ map (entry_named t.block behind) es
  edges_stay [] h = refl
  edges_stay (e ∷ es) h = λ i. record { from = at (e.from == t.block) i; value = operand_fixed n new fixed e.value h.1 i } ∷ edges_stay es h.2 i
    where
      at : (b : Bool) → new (if b then t.join else e.from) ≡ (if b then behind else e.from)
      at true = joins
      at false = fixed e.from h.0

  phis_stay : (ps : List Phi) → PhisFit n ps → map (phi_renumbered new) (phis_renamed t ps) ≡ map (phi_named t.block behind) ps
  phis_stay [] h = refl
  phis_stay (p ∷ ps) h = λ i. record { local = fixed p.local h.0 i; reg = p.reg; incoming = edges_stay p.incoming h.1 i } ∷ phis_stay ps h.2 i

  blocks_stay : (bs : List Block) → BlocksFit n bs → map (block_renumbered new) (blocks_renamed t bs) ≡ map (named t.block behind) bs
  blocks_stay [] h = refl
  blocks_stay (b ∷ bs) h =
      λ i. record {
        number = fixed b.number h.0.number i;
        phis = phis_stay b.phis h.0.phis i;
        lines = lines_fixed n new fixed b.lines h.0.lines i;
        end = end_fixed n new fixed b.end h.0.end h.0.targets i;
      } ∷ blocks_stay bs h.1 i

params_stay : (n : ℕ) (new : ℕ → ℕ) → ((x : ℕ) → x < n → new x ≡ x) → (ps : List Param) → ((x : ℕ) → 1 ≤ tally x (param_numbers ps) → x < n) → map (param_renumbered new) ps ≡ ps
params_stay n new fixed [] h = refl
params_stay n new fixed (p ∷ ps) h =
    let one : 1 ≤ (if nat_eq p.local p.local then 1 else 0) = tally_same p.local p.local refl in
    λ i. record { local = fixed p.local (h p.local (omega (arith, one))) i; reg = p.reg } ∷ params_stay n new fixed ps (λ x k. h x (omega (arith, k))) i

-- ---- the function

-- the phi of a call's result
abbrev pub phi_of : ℕ → Reg → List Incoming → Phi
phi_of x reg es = record { local = x; reg = reg; incoming = es }

-- the function's blocks with these phis behind the call
abbrev pub with_phis : Site → ℕ → List Block → List Phi → Function → Function
with_phis s behind copy phis f = record f {
  blocks = map (named s.block.number behind) s.front
      ++ before_call s behind copy ∷ (map (leading_to behind) copy ++ record { number = behind; phis = phis; lines = s.after; end = s.block.end } ∷ map (named s.block.number behind) s.back);
}

module _ (f callee : Function) (place : ℕ) (s : Site) (as' : List Argument) (sound : Sound f) (sound' : Sound callee) (at : StandsAt f.blocks place s) (is : IsCallOf callee s.call.instr as')
    (entry : Block) (others : List Block) (body : callee.blocks ≡ entry ∷ others) where
  abbrev free : ℕ
  free = first_free f

  abbrev t : law.Site
  t = plan f callee s as'

  abbrev new : ℕ → ℕ
  new = final_number free callee

  abbrev behind : ℕ
  behind = behind_call free callee

  abbrev copy : List Block
  copy = copied free callee as'

  fixed : (x : ℕ) → x < free → new x ≡ x
  fixed x h = stays free callee x h

  pub all_fit : BlocksFit free (s.front ++ s.block ∷ s.back)
  all_fit = subst (BlocksFit free) at.blocks (fits f sound)

  pub block_fits : BlockFits free s.block
  block_fits = (fit_back free s.front (s.block ∷ s.back) all_fit).0

  pub lines_fit : LinesFit free (s.before ++ s.call ∷ s.after)
  lines_fit = subst (LinesFit free) at.lines block_fits.lines

  pub call_fits : LocalBelow free s.call.local × UsesKept (below free) s.call.instr
  call_fits = let h = lines_back free s.before (s.call ∷ s.after) lines_fit in (h.0, h.1)

  arguments_kept : AllKept (below free) as'
  arguments_kept = (subst (UsesKept (below free)) is.direct call_fits.1).1

  once : tally s.block.number (map (λ b. b.number) (s.front ++ s.block ∷ s.back)) ≤ 1
  once =
      let most = once_each f sound.formed s.block.number in
      let all : tally s.block.number (numbers f) ≤ 1 = omega (arith, most) in
      subst (λ (bs : List Block). tally s.block.number (map (λ b. b.number) bs) ≤ 1) at.blocks all

  pub unnamed : callee.result ≡ None → s.call.local ≡ None
  unnamed none =
      let types : LineTypes s.call.local s.call.instr = line_types f sound s.front s.back s.block s.before s.after s.call at.blocks at.lines in
      subst (λ (r : Option Reg). LineTypes s.call.local (Call r (Named callee.symbol 0) as')) none (subst (LineTypes s.call.local) is.direct types)

  can_inline : (p : Program) → IsOwn p callee → CanInline p f t
  can_inline p own = record {
    code = own.body;
    calls = is.direct;
    params = param_types callee.params;
    returns = callee.result;
    kind = own.kind;
    type_is = λ i. (ap (λ (rs : List Reg). regs_eq rs (regs_of as')) (sym is.typed) ∙ regs_same as') i && result_same callee.result i;
    block = s.block;
    found = ap (λ (bs : List Block). find_block bs s.block.number) at.blocks ∙ found_first s.block.number s.front s.back s.block refl once;
    lines = at.lines;
    caller = blocks_below free f.blocks (fits f sound);
    join = omega arith;
    entry = entry;
    others = others;
    blocks = body;
    no_phis = entry_bare callee sound' entry others body;
    callee = spares callee sound' t refl refl unnamed;
  }

  -- ---- its parts under the final numbers

  operands : (o : Operand) → operand_renumbered new (moved t o) ≡ copied_operand free callee as' o
  operands (Local x) =
      argument_moved free free new (copied_number free callee) (shifts free callee) (operand_fixed free new fixed) callee.params as' x arguments_kept
      ∙ ap (λ (o : Option Operand). or_local o (copied_number free callee x)) (same_argument callee.params as' x (let most = once_each callee sound'.formed x in omega (arith, most)))
  operands (Number width bits) = refl
  operands Null = refl
  operands (Poison reg) = refl
  operands (Named symbol offset) = refl

  joins : new t.join ≡ behind
  joins = shifts free callee (first_free callee)

  copy_is : map (block_renumbered new) (blocks_moved t callee.blocks) ≡ map (leading_to behind) copy
  copy_is = blocks_same t new (copied_number free callee) (copied_operand free callee as') behind (shifts free callee) operands joins (first_free callee) callee.blocks (fits callee sound')

  entry_is : new (law.entry_number callee.blocks + free) ≡ entry_of copy
  entry_is =
      ap (λ (bs : List Block). new (law.entry_number bs + free)) body
      ∙ shifts free callee entry.number
      ∙ sym (ap (λ (bs : List Block). entry_of (map (block_edited (copied_number free callee) (copied_operand free callee as')) bs)) body)

  first_is : block_renumbered new (first_part t s.block) ≡ before_call s behind copy
  first_is = λ i. record {
    number = fixed s.block.number block_fits.number i;
    phis = phis_stay t free new behind fixed joins s.block.phis block_fits.phis i;
    lines = lines_fixed free new fixed s.before (lines_front free s.before (s.call ∷ s.after) lines_fit) i;
    end = Jump (entry_is i);
  }

  second_is : block_renumbered new (second_part t s.block) ≡ record { number = behind; phis = map (phi_renumbered new) (join_phis t s.call.local); lines = s.after; end = s.block.end }
  second_is = λ i. record {
    number = joins i;
    phis = map (phi_renumbered new) (join_phis t s.call.local);
    lines = lines_fixed free new fixed s.after (lines_back free s.before (s.call ∷ s.after) lines_fit).3 i;
    end = end_fixed free new fixed s.block.end block_fits.end block_fits.targets i;
  }

  blocks_are : map (block_renumbered new) (inlined_blocks t f.blocks) ≡ (with_phis s behind copy (map (phi_renumbered new) (join_phis t s.call.local)) f).blocks
  blocks_are =
      ap (λ (bs : List Block). map (block_renumbered new) (inlined_blocks t bs)) at.blocks
      ∙ ap (map (block_renumbered new)) (split t s.front s.back s.block refl once)
      ∙ map-append (block_renumbered new) (blocks_renamed t s.front) (first_part t s.block ∷ (blocks_moved t callee.blocks ++ second_part t s.block ∷ blocks_renamed t s.back))
      ∙ (λ i. blocks_stay t free new behind fixed joins s.front (fit_front free s.front (s.block ∷ s.back) all_fit) i
      ++ first_is i ∷ map-append (block_renumbered new) (blocks_moved t callee.blocks) (second_part t s.block ∷ blocks_renamed t s.back) i)
      ∙ (λ i. map (named s.block.number behind) s.front
      ++ before_call s behind copy ∷ (copy_is i ++ second_is i ∷ blocks_stay t free new behind fixed joins s.back (fit_back free s.front (s.block ∷ s.back) all_fit).1 i))

  all_below : (x : ℕ) → 1 ≤ tally x (param_numbers f.params) → x < free
  all_below x h =
      let both : tally x (numbers_of f) ≡ tally x (param_numbers f.params) + tally x (blocks_numbers f.blocks) = tally_both x (param_numbers f.params) (blocks_numbers f.blocks) in
      below_room x (numbers_of f) (omega (arith, h, both))

  renumbered_is : renumbered new (law.inlined t f) ≡ with_phis s behind copy (map (phi_renumbered new) (join_phis t s.call.local)) f
  renumbered_is = λ i. record f { params = params_stay free new fixed f.params all_below i; blocks = blocks_are i }

  -- with the phi that the law gives, though no entry may be in it, the function is better
  pub with_phi_better : (p : Program) → IsFormed p → IsOwn p callee → BetterThan p 1 (with_phis s behind copy (map (phi_renumbered new) (join_phis t s.call.local)) f) f
  with_phi_better p formed own =
      subst (λ (g : Function). BetterThan p 1 g f) renumbered_is
      (in_a_row p formed 1 1 (omega arith) (renumbered new (law.inlined t f)) (law.inlined t f) f (renumbered_better p formed new (final_apart free callee) (law.inlined t f)) (inlined_is_better p formed f t (can_inline p own)))

  pub phi_is : (x : ℕ) (reg : Reg) → s.call.local ≡ Some x → callee.result ≡ Some reg → map (phi_renumbered new) (join_phis t s.call.local) ≡ phi_of x reg (return_entries copy) ∷ []
  phi_is x reg local result =
      ap (λ (o : Option ℕ). map (phi_renumbered new) (join_phis t o)) local
      ∙ (λ i. phi_of (fixed x below_free i) (ap reg_or result i) (returns_same t new (copied_number free callee) (copied_operand free callee as') behind (shifts free callee) operands joins callee.blocks i) ∷ [])
    where
      below_free : x < free
      below_free = subst (LocalBelow free) local call_fits.0

  -- where the call has no result, or a block of the copy returns a value, this is what inlining gives
  pub better_if : (lost : (x : ℕ) (reg : Reg) → s.call.local ≡ Some x → callee.result ≡ Some reg → return_entries copy ≡ [] → IsBetter (inlined s callee as' f) f callee) → IsBetter (inlined s callee as' f) f callee
  better_if lost p formed own = by s.call.local refl callee.result refl (return_entries copy) refl
    where
      made : (g : Function) → inlined s callee as' f ≡ g → BetterThan p 1 g f → BetterThan p 1 (inlined s callee as' f) f
      made g e h = subst (λ (k : Function). BetterThan p 1 k f) (sym e) h

      by : (o : Option ℕ) → s.call.local ≡ o → (r : Option Reg) → callee.result ≡ r → (es : List Incoming) → return_entries copy ≡ es → BetterThan p 1 (inlined s callee as' f) f
      by None local r result es returned =
          made (with_phis s behind copy [] f)
          (λ i. result_given (local i) callee.result (return_entries copy) (with_phis s behind copy (result_phis (local i) callee.result (return_entries copy)) f))
          (subst (λ (ps : List Phi). BetterThan p 1 (with_phis s behind copy ps f) f) (ap (λ (o : Option ℕ). map (phi_renumbered new) (join_phis t o)) local) (with_phi_better p formed own))
      by (Some x) local None result es returned = let clash : s.call.local ≡ None = unnamed result in absurd (cc (clash, local))
      by (Some x) local (Some reg) result [] returned = lost x reg local result returned p formed own
      by (Some x) local (Some reg) result (e ∷ es) returned =
          made (with_phis s behind copy (phi_of x reg (e ∷ es) ∷ []) f)
          (λ i. result_given (local i) (result i) (returned i) (with_phis s behind copy (result_phis (local i) (result i) (returned i)) f))
          (subst (λ (ps : List Phi). BetterThan p 1 (with_phis s behind copy ps f) f) (phi_is x reg local result ∙ ap (λ (l : List Incoming). phi_of x reg l ∷ []) returned) (with_phi_better p formed own))
