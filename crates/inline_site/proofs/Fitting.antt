-- What a sound function names is its own: each number is below the first free one, and no phi stands among lines.
use Rattle.std.proofs.Common.{◌≡◌, ℕ, suc, ◌+◌, ◌<◌, ◌≤◌, nat_eq, ◌||◌, Bool, true, false, List, [], ◌∷◌, ◌++◌, Option, Some, None, map, length, refl, ap, subst, arith, get_or, length-append, if◌then◌else◌}
use Rattle.std.specs.Prelude.{All, flat_map}
use Rattle.std.proofs.lemmas.Bool.Decides.{nat_tests}
use Rattle.std.proofs.lemmas.List.{get_or_append_left, get_or-append-add}
use Rattle.std.proofs.lemmas.List.Elements.{All-head, All-tail}
use Rattle.ir_tree.specs.Flow.{definitions, holds, locals, parameters, successors}
use Rattle.ir_tree.specs.Formed.{ArgumentFormed, IsBlock, IsLocal, ItemFormed, OperandFormed, numbers}
use Rattle.ir_tree.specs.Items.{Item, phi_item, line_item, end_item, block_items, end_reads, items_from, lines_from, phi_reads, reads, taken_as, typed}
use Rattle.ir_tree.specs.Rules.{IsNoPhi, Sound, StandsRight}
use Rattle.ir_tree.specs.declared.block.Block.{Block}
use Rattle.ir_tree.specs.declared.block.Terminator.{Terminator}
use Rattle.ir_tree.specs.declared.block.Terminator.TheVariants.{Branch, Jump, Return, Switch, Unreachable}
use Rattle.ir_tree.specs.declared.function.Function.{Function}
use Rattle.ir_tree.specs.declared.instr.Incoming.{Incoming}
use Rattle.ir_tree.specs.declared.instr.Instr.{Instr}
use Rattle.ir_tree.specs.declared.instr.Instr.TheVariants.{Address, Alloca, Binary, Call, Cast, Freeze, Icmp, Load, Phi as StrayPhi, Select, Store}
use Rattle.ir_tree.specs.declared.instr.Line.{Line}
use Rattle.ir_tree.specs.declared.instr.Phi.{Phi}
use Rattle.ir_tree.specs.declared.operand.Argument.{Argument}
use Rattle.ir_tree.specs.declared.operand.Operand.{Operand}
use Rattle.ir_tree.specs.declared.operand.Operand.TheVariants.{Local, Null, Number, Poison, Symbol as Named}
use Rattle.ir_tree.specs.declared.operand.Reg.{Reg}
use Rattle.ir_tree.specs.declared.operand.Reg.TheVariants.{Int, Ptr}
use Rattle.ir_tree.specs.declared.rule.Rule.TheVariants.{PhiPlace}
use Rattle.ir_edit.specs.Numbered.{block_numbers, blocks_numbers, line_numbers, local_number, numbers_of, param_numbers, phi_numbers}
use Rattle.ir_edit.proofs.Tally.{tally, tally_both, tally_same}
use Rattle.ir_meaning.specs.Inline.{BlocksBelow, EdgesBelow, LinesBelow, PhisBelow, below}
use Rattle.ir_meaning.specs.Needed.{AllKept, EndReads, IsKept, UsesKept}
use Rattle.inline_site.specs.Copies.{first_free}
use Rattle.inline_site.proofs.Once.{below_room}
use Rattle.ir_edit.proofs.Counting.{blocks_tally, params_are}

-- ---- of each element

pub all_front : {X : Type 0} (P : X → Type 0) (xs ys : List X) → All P (xs ++ ys) → All P xs
all_front P xs ys h = λ k d lt. subst P (get_or_append_left xs ys d k lt) (h k d (omega (arith, lt, length-append xs ys)))

pub all_back : {X : Type 0} (P : X → Type 0) (xs ys : List X) → All P (xs ++ ys) → All P ys
all_back P xs ys h = λ k d lt. subst P (get_or-append-add xs ys k d) (h (length xs + k) d (omega (arith, lt, length-append xs ys)))

-- ---- numbers that a function has

held : (x : ℕ) (xs : List ℕ) → holds xs x ≡ true → 1 ≤ tally x xs
held x [] h = absurd (cc h)
held x (y ∷ ys) h = at (nat_eq x y) h (held x ys)
  where
    at : (b : Bool) → (b || holds ys x) ≡ true → (holds ys x ≡ true → 1 ≤ tally x ys) → 1 ≤ (if b then 1 else 0) + tally x ys
    at true h more = omega arith
    at false h more = let some : 1 ≤ tally x ys = more h in omega (arith, some)

tallied : (f : Function) (x : ℕ) → tally x (numbers_of f) ≡ tally x (parameters f) + (tally x (flat_map definitions f.blocks) + tally x (numbers f))
tallied f x =
    let both : tally x (numbers_of f) ≡ tally x (param_numbers f.params) + tally x (blocks_numbers f.blocks) = tally_both x (param_numbers f.params) (blocks_numbers f.blocks) in
    let params : tally x (param_numbers f.params) ≡ tally x (parameters f) = ap (tally x) (params_are f.params) in
    let blocks : tally x (blocks_numbers f.blocks) ≡ tally x (flat_map definitions f.blocks) + tally x (numbers f) = blocks_tally x f.blocks in
    omega (arith, both, params, blocks)

local_below : (f : Function) (x : ℕ) → IsLocal f x → x < first_free f
local_below f x h =
    let some : 1 ≤ tally x (locals f) = held x (locals f) h in
    let parts : tally x (locals f) ≡ tally x (parameters f) + tally x (flat_map definitions f.blocks) = tally_both x (parameters f) (flat_map definitions f.blocks) in
    let all : tally x (numbers_of f) ≡ tally x (parameters f) + (tally x (flat_map definitions f.blocks) + tally x (numbers f)) = tallied f x in
    below_room x (numbers_of f) (omega (arith, some, parts, all))

block_below : (f : Function) (n : ℕ) → IsBlock f n → n < first_free f
block_below f n h =
    let some : 1 ≤ tally n (numbers f) = held n (numbers f) h in
    let all : tally n (numbers_of f) ≡ tally n (parameters f) + (tally n (flat_map definitions f.blocks) + tally n (numbers f)) = tallied f n in
    below_room n (numbers_of f) (omega (arith, some, all))

is_below : (x n : ℕ) → x < n → below n x ≡ true
is_below x n h = grind (arith, nat_tests)

operand_below : (f : Function) (o : Operand) → OperandFormed f o → IsKept (below (first_free f)) o
operand_below f (Local x) h = is_below x (first_free f) (local_below f x h)
operand_below f (Number width bits) h = tt
operand_below f Null h = tt
operand_below f (Poison reg) h = tt
operand_below f (Named symbol offset) h = tt

-- ---- what a block names

abbrev pub LocalBelow : ℕ → Option ℕ → Type 0
LocalBelow n None = Unit {0}
LocalBelow n (Some x) = x < n

abbrev pub LinesFit : ℕ → List Line → Type 0
LinesFit n [] = Unit {0}
LinesFit n (l ∷ ls) = LocalBelow n l.local × UsesKept (below n) l.instr × IsNoPhi l.instr × LinesFit n ls

abbrev pub PhisFit : ℕ → List Phi → Type 0
PhisFit n [] = Unit {0}
PhisFit n (p ∷ ps) = (p.local < n) × EdgesBelow n p.incoming × PhisFit n ps

abbrev pub AreBelow : ℕ → List ℕ → Type 0
AreBelow n [] = Unit {0}
AreBelow n (x ∷ xs) = (x < n) × AreBelow n xs

pub record BlockFits (n : ℕ) (b : Block) : Type 0 where
  pub number : b.number < n
  pub phis : PhisFit n b.phis
  pub lines : LinesFit n b.lines
  pub end : EndReads (below n) b.end
  pub targets : AreBelow n (successors b.end)

abbrev pub BlocksFit : ℕ → List Block → Type 0
BlocksFit n [] = Unit {0}
BlocksFit n (b ∷ bs) = BlockFits n b × BlocksFit n bs

abbrev AllBelow : ℕ → List Argument → Type 0
AllBelow n as' = All (λ a. IsKept (below n) a.operand) as'

kept_all : (n : ℕ) (as' : List Argument) → AllBelow n as' → AllKept (below n) as'
kept_all n [] h = tt
kept_all n (a ∷ more) h = (All-head (λ x. IsKept (below n) x.operand) a more h, kept_all n more (All-tail (λ x. IsKept (below n) x.operand) a more h))

first_kept : (n : ℕ) (a : Argument) (as' : List Argument) → AllBelow n (a ∷ as') → IsKept (below n) a.operand
first_kept n a as' h = (kept_all n (a ∷ as') h).0

two_kept : (n : ℕ) (a b : Argument) (as' : List Argument) → AllBelow n (a ∷ b ∷ as') → IsKept (below n) a.operand × IsKept (below n) b.operand
two_kept n a b as' h = let k = kept_all n (a ∷ b ∷ as') h in (k.0, k.1.0)

reads_below : (n : ℕ) (i : Instr) → AllBelow n (reads i ++ phi_reads i) → UsesKept (below n) i
reads_below n (Binary op flags width left right) h = two_kept n (typed (Int width) left) (typed (Int width) right) [] h
reads_below n (Icmp predicate reg left right) h = two_kept n (typed reg left) (typed reg right) [] h
reads_below n (Cast op from value to) h = first_kept n (typed from value) [] h
reads_below n (Select condition if_true if_false) h = let k = kept_all n (typed (Int 1) condition ∷ if_true ∷ if_false ∷ []) h in (k.0, k.1.0, k.1.1.0)
reads_below n (Freeze reg value) h = first_kept n (typed reg value) [] h
reads_below n (Alloca shape align) h = tt
reads_below n (Load reg address align) h = first_kept n (typed Ptr address) [] h
reads_below n (Store reg value address align) h = two_kept n (typed reg value) (typed Ptr address) [] h
reads_below n (Address inbounds shape base indices) h =
    let k = kept_all n (typed Ptr base ∷ indices) (all_front (λ x. IsKept (below n) x.operand) (typed Ptr base ∷ indices) [] h) in (k.0, k.1)
reads_below n (Call result callee arguments) h =
    let k = kept_all n (typed Ptr callee ∷ arguments) (all_front (λ x. IsKept (below n) x.operand) (typed Ptr callee ∷ arguments) [] h) in (k.0, k.1)
reads_below n (StrayPhi reg incoming) h = tt

end_below : (n : ℕ) (t : Terminator) → AllBelow n (end_reads t) → EndReads (below n) t
end_below n (Return None) h = tt
end_below n (Return (Some a)) h = first_kept n a [] h
end_below n (Jump target) h = tt
end_below n (Branch condition if_true if_false) h = first_kept n (typed (Int 1) condition) [] h
end_below n (Switch width value default cases) h = first_kept n (typed (Int width) value) [] h
end_below n Unreachable h = tt

-- ---- a sound function's items

module _ (f : Function) (sound : Sound f) where
  abbrev free : ℕ
  free = first_free f

  arguments_below : (as' : List Argument) → All (ArgumentFormed f) as' → AllBelow free as'
  arguments_below as' h = λ k d lt. operand_below f (get_or as' k d).operand (h k d lt).1

  edges_below : (reg : Reg) (es : List Incoming) → All (ArgumentFormed f) (taken_as reg es) → All (λ e. IsBlock f e.from) es → EdgesBelow free es
  edges_below reg [] h g = tt
  edges_below reg (e ∷ es) h g = (
    block_below f e.from (All-head (λ x. IsBlock f x.from) e es g),
    operand_below f e.value (All-head (ArgumentFormed f) (typed reg e.value) (taken_as reg es) h).1,
    edges_below reg es (All-tail (ArgumentFormed f) (typed reg e.value) (taken_as reg es) h) (All-tail (λ x. IsBlock f x.from) e es g),
  )

  -- what is defined is below
  abbrev Defines : List ℕ → Type 0
  Defines xs = (x : ℕ) → 1 ≤ tally x xs → x < free

  defines_front : (xs ys : List ℕ) → Defines (xs ++ ys) → Defines xs
  defines_front xs ys h x is = let both : tally x (xs ++ ys) ≡ tally x xs + tally x ys = tally_both x xs ys in h x (omega (arith, is, both))

  defines_back : (xs ys : List ℕ) → Defines (xs ++ ys) → Defines ys
  defines_back xs ys h x is = let both : tally x (xs ++ ys) ≡ tally x xs + tally x ys = tally_both x xs ys in h x (omega (arith, is, both))

  defines_head : (x : ℕ) (xs : List ℕ) → Defines (x ∷ xs) → x < free
  defines_head x xs h = let one : 1 ≤ (if nat_eq x x then 1 else 0) = tally_same x x refl in h x (omega (arith, one))

  defines_tail : (x : ℕ) (xs : List ℕ) → Defines (x ∷ xs) → Defines xs
  defines_tail x xs h = defines_back (x ∷ []) xs h

  abbrev Are : List Item → Type 0
  Are is = All (ItemFormed f) is × All StandsRight is

  phis_fit : (b : ℕ) (ps : List Phi) → Defines (phi_numbers ps) → All (ItemFormed f) (map (phi_item b) ps) → PhisFit free ps
  phis_fit b [] d h = tt
  phis_fit b (p ∷ ps) d h =
      let here : ItemFormed f (phi_item b p) = All-head (ItemFormed f) (phi_item b p) (map (phi_item b) ps) h in (
        defines_head p.local (phi_numbers ps) d,
        edges_below p.reg p.incoming here.operands here.sources,
        phis_fit b ps (defines_tail p.local (phi_numbers ps) d) (All-tail (ItemFormed f) (phi_item b p) (map (phi_item b) ps) h),
      )

  local_fits : (o : Option ℕ) → Defines (local_number o) → LocalBelow free o
  local_fits None d = tt
  local_fits (Some x) d = defines_head x [] d

  lines_fit : (b k : ℕ) (ls : List Line) → Defines (line_numbers ls) → All (ItemFormed f) (lines_from b k ls) → All StandsRight (lines_from b k ls) → LinesFit free ls
  lines_fit b k [] d h g = tt
  lines_fit b k (l ∷ ls) d h g =
      let here : ItemFormed f (line_item b k l) = All-head (ItemFormed f) (line_item b k l) (lines_from b (suc k) ls) h in (
        local_fits l.local (defines_front (local_number l.local) (line_numbers ls) d),
        reads_below free l.instr (arguments_below (reads l.instr ++ phi_reads l.instr) here.operands),
        All-head StandsRight (line_item b k l) (lines_from b (suc k) ls) g,
        lines_fit b (suc k) ls (defines_back (local_number l.local) (line_numbers ls) d) (All-tail (ItemFormed f) (line_item b k l) (lines_from b (suc k) ls) h)
            (All-tail StandsRight (line_item b k l) (lines_from b (suc k) ls) g),
      )

  targets_fit : (ns : List ℕ) → All (IsBlock f) ns → AreBelow free ns
  targets_fit [] h = tt
  targets_fit (n ∷ ns) h = (block_below f n (All-head (IsBlock f) n ns h), targets_fit ns (All-tail (IsBlock f) n ns h))

  block_fits : (k : ℕ) (b : Block) → Defines (block_numbers b) → All (ItemFormed f) (block_items k b) → All StandsRight (block_items k b) → BlockFits free b
  unfolding block_numbers
  block_fits k b d h g =
      let phis = map (phi_item k) b.phis in
      let lines = lines_from k 0 b.lines in
      let last = end_item k b.end ∷ [] in
      let inner : Defines (phi_numbers b.phis ++ line_numbers b.lines) = defines_tail b.number (phi_numbers b.phis ++ line_numbers b.lines) d in
      let rest : All (ItemFormed f) (lines ++ last) = all_back (ItemFormed f) phis (lines ++ last) h in
      let rest' : All StandsRight (lines ++ last) = all_back StandsRight phis (lines ++ last) g in
      let end : ItemFormed f (end_item k b.end) = All-head (ItemFormed f) (end_item k b.end) [] (all_back (ItemFormed f) lines last rest) in
      record {
        number = defines_head b.number (phi_numbers b.phis ++ line_numbers b.lines) d;
        phis = phis_fit k b.phis (defines_front (phi_numbers b.phis) (line_numbers b.lines) inner) (all_front (ItemFormed f) phis (lines ++ last) h);
        lines = lines_fit k 0 b.lines (defines_back (phi_numbers b.phis) (line_numbers b.lines) inner) (all_front (ItemFormed f) lines last rest) (all_front StandsRight lines last rest');
        end = end_below free b.end (arguments_below (end_reads b.end) end.operands);
        targets = targets_fit (successors b.end) end.kind.1;
      }

  blocks_fit : (k : ℕ) (bs : List Block) → Defines (blocks_numbers bs) → All (ItemFormed f) (items_from k bs) → All StandsRight (items_from k bs) → BlocksFit free bs
  blocks_fit k [] d h g = tt
  blocks_fit k (b ∷ bs) d h g = (
    block_fits k b (defines_front (block_numbers b) (blocks_numbers bs) d) (all_front (ItemFormed f) (block_items k b) (items_from (suc k) bs) h) (all_front StandsRight (block_items k b) (items_from (suc k) bs) g),
    blocks_fit (suc k) bs (defines_back (block_numbers b) (blocks_numbers bs) d) (all_back (ItemFormed f) (block_items k b) (items_from (suc k) bs) h)
        (all_back StandsRight (block_items k b) (items_from (suc k) bs) g),
  )

  all_defined : Defines (numbers_of f)
  all_defined x is = below_room x (numbers_of f) is

  pub fits : BlocksFit free f.blocks
  fits = blocks_fit 0 f.blocks (defines_back (param_numbers f.params) (blocks_numbers f.blocks) all_defined) sound.formed.items (sound.rules PhiPlace)

-- ---- parts of what fits

pub fit_front : (n : ℕ) (xs ys : List Block) → BlocksFit n (xs ++ ys) → BlocksFit n xs
fit_front n [] ys h = tt
fit_front n (x ∷ xs) ys h = (h.0, fit_front n xs ys h.1)

pub fit_back : (n : ℕ) (xs ys : List Block) → BlocksFit n (xs ++ ys) → BlocksFit n ys
fit_back n [] ys h = h
fit_back n (x ∷ xs) ys h = fit_back n xs ys h.1

pub lines_front : (n : ℕ) (xs ys : List Line) → LinesFit n (xs ++ ys) → LinesFit n xs
lines_front n [] ys h = tt
lines_front n (x ∷ xs) ys h = (h.0, h.1, h.2, lines_front n xs ys h.3)

pub lines_back : (n : ℕ) (xs ys : List Line) → LinesFit n (xs ++ ys) → LinesFit n ys
lines_back n [] ys h = h
lines_back n (x ∷ xs) ys h = lines_back n xs ys h.3

phis_below : (n : ℕ) (ps : List Phi) → PhisFit n ps → PhisBelow n ps
phis_below n [] h = tt
phis_below n (p ∷ ps) h = (h.1, phis_below n ps h.2)

lines_below : (n : ℕ) (ls : List Line) → LinesFit n ls → LinesBelow n ls
lines_below n [] h = tt
lines_below n (l ∷ ls) h = (h.1, lines_below n ls h.3)

pub blocks_below : (n : ℕ) (bs : List Block) → BlocksFit n bs → BlocksBelow n bs
blocks_below n [] h = tt
blocks_below n (b ∷ bs) h =
    (record { number = h.0.number; phis = phis_below n b.phis h.0.phis; lines = lines_below n b.lines h.0.lines; end = h.0.end }, blocks_below n bs h.1)
