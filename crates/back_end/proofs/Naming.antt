-- Which symbols a function uses, part by part.
use Rattle.std.proofs.Common.{ℕ, suc, List, [], ◌∷◌, ◌++◌, map}
use Rattle.std.specs.Prelude.{All}
use Rattle.std.proofs.lemmas.List.Elements.{All-append, All-cons, All-head, All-nil, All-tail}
use Rattle.ir_tree.specs.Items.{phi_item, line_item, end_item, block_items, end_reads, items_from, lines_from, phi_reads, reads, taken_as, typed}
use Rattle.ir_tree.specs.Wholes.{IsKnown, ItemKnown}
use Rattle.ir_tree.specs.declared.block.Block.{Block}
use Rattle.ir_tree.specs.declared.block.Terminator.{Terminator}
use Rattle.ir_tree.specs.declared.instr.Incoming.{Incoming}
use Rattle.ir_tree.specs.declared.instr.Instr.{Instr}
use Rattle.ir_tree.specs.declared.instr.Line.{Line}
use Rattle.ir_tree.specs.declared.instr.Phi.{Phi}
use Rattle.ir_tree.specs.declared.operand.Argument.{Argument}
use Rattle.ir_tree.specs.declared.operand.Reg.{Reg}
use Rattle.ir_tree.specs.declared.operand.Symbol.{Symbol}
use Rattle.ir_meaning.proofs.Everywhere.{all_back, all_front}

module _ (known : List Symbol) where
  abbrev pub ArgsKnown : List Argument → Type 0
  ArgsKnown [] = Unit {0}
  ArgsKnown (a ∷ more) = IsKnown known a.operand × ArgsKnown more

  abbrev pub EntriesKnown : List Incoming → Type 0
  EntriesKnown [] = Unit {0}
  EntriesKnown (e ∷ es) = IsKnown known e.value × EntriesKnown es

  abbrev pub PhisKnown : List Phi → Type 0
  PhisKnown [] = Unit {0}
  PhisKnown (p ∷ ps) = EntriesKnown p.incoming × PhisKnown ps

  abbrev pub InstrKnown : Instr → Type 0
  InstrKnown i = ArgsKnown (reads i) × ArgsKnown (phi_reads i)

  abbrev pub LinesKnown : List Line → Type 0
  LinesKnown [] = Unit {0}
  LinesKnown (l ∷ ls) = InstrKnown l.instr × LinesKnown ls

  abbrev pub EndKnown : Terminator → Type 0
  EndKnown t = ArgsKnown (end_reads t)

  pub record BlockKnown (b : Block) : Type 0 where
    pub phis : PhisKnown b.phis
    pub lines : LinesKnown b.lines
    pub end : EndKnown b.end

  abbrev pub BlocksKnown : List Block → Type 0
  BlocksKnown [] = Unit {0}
  BlocksKnown (b ∷ bs) = BlockKnown b × BlocksKnown bs

  -- ---- item by item

  abbrev Knows : Argument → Type 0
  Knows a = IsKnown known a.operand

  args_in : (as' : List Argument) → All Knows as' → ArgsKnown as'
  args_in [] h = tt
  args_in (a ∷ more) h = (All-head Knows a more h, args_in more (All-tail Knows a more h))

  args_out : (as' : List Argument) → ArgsKnown as' → All Knows as'
  args_out [] h = All-nil Knows
  args_out (a ∷ more) h = All-cons Knows a more h.0 (args_out more h.1)

  entries_in : (reg : Reg) (es : List Incoming) → All Knows (taken_as reg es) → EntriesKnown es
  entries_in reg [] h = tt
  entries_in reg (e ∷ es) h = (All-head Knows (typed reg e.value) (taken_as reg es) h, entries_in reg es (All-tail Knows (typed reg e.value) (taken_as reg es) h))

  entries_out : (reg : Reg) (es : List Incoming) → EntriesKnown es → All Knows (taken_as reg es)
  entries_out reg [] h = All-nil Knows
  entries_out reg (e ∷ es) h = All-cons Knows (typed reg e.value) (taken_as reg es) h.0 (entries_out reg es h.1)

  phis_in : (i : ℕ) (ps : List Phi) → All (ItemKnown known) (map (phi_item i) ps) → PhisKnown ps
  phis_in i [] h = tt
  phis_in i (p ∷ ps) h = (
    entries_in p.reg p.incoming (All-head (ItemKnown known) (phi_item i p) (map (phi_item i) ps) h),
    phis_in i ps (All-tail (ItemKnown known) (phi_item i p) (map (phi_item i) ps) h),
  )

  phis_out : (i : ℕ) (ps : List Phi) → PhisKnown ps → All (ItemKnown known) (map (phi_item i) ps)
  phis_out i [] h = All-nil (ItemKnown known)
  phis_out i (p ∷ ps) h = All-cons (ItemKnown known) (phi_item i p) (map (phi_item i) ps) (entries_out p.reg p.incoming h.0) (phis_out i ps h.1)

  lines_in : (i k : ℕ) (ls : List Line) → All (ItemKnown known) (lines_from i k ls) → LinesKnown ls
  lines_in i k [] h = tt
  lines_in i k (l ∷ ls) h =
      let here : All Knows (reads l.instr ++ phi_reads l.instr) = All-head (ItemKnown known) (line_item i k l) (lines_from i (suc k) ls) h in (
        (args_in (reads l.instr) (all_front Knows (reads l.instr) (phi_reads l.instr) here), args_in (phi_reads l.instr) (all_back Knows (reads l.instr) (phi_reads l.instr) here)),
        lines_in i (suc k) ls (All-tail (ItemKnown known) (line_item i k l) (lines_from i (suc k) ls) h),
      )

  lines_out : (i k : ℕ) (ls : List Line) → LinesKnown ls → All (ItemKnown known) (lines_from i k ls)
  lines_out i k [] h = All-nil (ItemKnown known)
  lines_out i k (l ∷ ls) h =
      All-cons (ItemKnown known) (line_item i k l) (lines_from i (suc k) ls)
      (All-append Knows (reads l.instr) (phi_reads l.instr) (args_out (reads l.instr) h.0.0) (args_out (phi_reads l.instr) h.0.1)) (lines_out i (suc k) ls h.1)

  block_in : (i : ℕ) (b : Block) → All (ItemKnown known) (block_items i b) → BlockKnown b
  block_in i b h =
      let rest : All (ItemKnown known) (lines_from i 0 b.lines ++ end_item i b.end ∷ []) = all_back (ItemKnown known) (map (phi_item i) b.phis) (lines_from i 0 b.lines ++ end_item i b.end ∷ []) h in
      record {
        phis = phis_in i b.phis (all_front (ItemKnown known) (map (phi_item i) b.phis) (lines_from i 0 b.lines ++ end_item i b.end ∷ []) h);
        lines = lines_in i 0 b.lines (all_front (ItemKnown known) (lines_from i 0 b.lines) (end_item i b.end ∷ []) rest);
        end = args_in (end_reads b.end) (All-head (ItemKnown known) (end_item i b.end) [] (all_back (ItemKnown known) (lines_from i 0 b.lines) (end_item i b.end ∷ []) rest));
      }

  block_out : (i : ℕ) (b : Block) → BlockKnown b → All (ItemKnown known) (block_items i b)
  block_out i b h =
      All-append (ItemKnown known) (map (phi_item i) b.phis) (lines_from i 0 b.lines ++ end_item i b.end ∷ []) (phis_out i b.phis h.phis)
      (All-append (ItemKnown known) (lines_from i 0 b.lines) (end_item i b.end ∷ []) (lines_out i 0 b.lines h.lines)
      (All-cons (ItemKnown known) (end_item i b.end) [] (args_out (end_reads b.end) h.end) (All-nil (ItemKnown known))))

  pub known_in : (i : ℕ) (bs : List Block) → All (ItemKnown known) (items_from i bs) → BlocksKnown bs
  known_in i [] h = tt
  known_in i (b ∷ bs) h = (block_in i b (all_front (ItemKnown known) (block_items i b) (items_from (suc i) bs) h), known_in (suc i) bs (all_back (ItemKnown known) (block_items i b) (items_from (suc i) bs) h))

  pub known_out : (i : ℕ) (bs : List Block) → BlocksKnown bs → All (ItemKnown known) (items_from i bs)
  known_out i [] h = All-nil (ItemKnown known)
  known_out i (b ∷ bs) h = All-append (ItemKnown known) (block_items i b) (items_from (suc i) bs) (block_out i b h.0) (known_out (suc i) bs h.1)

  -- ---- lists of these parts

  pub lines_both : (ls ks : List Line) → LinesKnown ls → LinesKnown ks → LinesKnown (ls ++ ks)
  lines_both [] ks h g = g
  lines_both (l ∷ ls) ks h g = (h.0, lines_both ls ks h.1 g)

  pub phis_both : (ps qs : List Phi) → PhisKnown ps → PhisKnown qs → PhisKnown (ps ++ qs)
  phis_both [] qs h g = g
  phis_both (p ∷ ps) qs h g = (h.0, phis_both ps qs h.1 g)
