-- A sound function with its decided terminators as jumps is sound.
use Rattle.std.proofs.Common.{◌≡◌, ℕ, suc, ◌+◌, ◌-◌, ◌≤◌, nat_eq, List, [], ◌∷◌, ◌++◌, Option, Some, None, map, option_map, refl, sym, ◌∙◌, ap, subst, arith}
use Rattle.std.specs.Prelude.{All, count_by, slice_get}
use Rattle.std.proofs.lemmas.List.Elements.{All-append, All-cons, All-head, All-nil, All-tail, All-weaker}
use Rattle.ir_tree.specs.Flow.{edges, holds, locals, successors}
use Rattle.ir_tree.specs.Formed.{ArgumentFormed, CasesFormed, Distinct, Formed, IsBlock, ItemFormed, OperandFormed, numbers}
use Rattle.ir_tree.specs.Items.{Item, phi_item, line_item, end_item, block_items, end_reads, entries, items, items_from, lines_from, phi_reads, reads, taken_as, typed}
use Rattle.ir_tree.specs.Rules.{EndDiffers, EndTypes, EntriesThere, HasType, IsNoPhi, IsThere, IsThereAtEnd, Keeps, OnEdges, Sound, StandsRight, place}
use Rattle.ir_tree.specs.declared.block.Block.{Block}
use Rattle.ir_tree.specs.declared.block.Terminator.{Terminator}
use Rattle.ir_tree.specs.declared.block.Terminator.TheVariants.{Branch, Jump, Return, Switch, Unreachable}
use Rattle.ir_tree.specs.declared.function.Function.{Function}
use Rattle.ir_tree.specs.declared.instr.Incoming.{Incoming}
use Rattle.ir_tree.specs.declared.instr.Instr.{Instr}
use Rattle.ir_tree.specs.declared.instr.Instr.TheVariants as kind
use Rattle.ir_tree.specs.declared.instr.Line.{Line}
use Rattle.ir_tree.specs.declared.instr.Phi.{Phi}
use Rattle.ir_tree.specs.declared.operand.Argument.{Argument}
use Rattle.ir_tree.specs.declared.operand.Operand.{Operand}
use Rattle.ir_tree.specs.declared.operand.Operand.TheVariants as operand
use Rattle.ir_tree.specs.declared.rule.Rule.{Rule}
use Rattle.ir_tree.specs.declared.rule.Rule.TheVariants.{TypeMismatch, NotAvailable, PhiEdges, PhiPlace, EntryBranch, Index, Cast, CaseTwice}
use Rattle.ir_meaning.specs.Counted.{times}
use Rattle.ir_meaning.proofs.Counting.{edges_from, numbers_in, out_to, times_is}
use Rattle.ir_meaning.proofs.Entries.{apart, by_number, entries_of}
use Rattle.ir_meaning.proofs.Everywhere.{all_among, all_back, all_front, all_with}
use Rattle.branch_simplify.specs.Decided.{decided, jump_or, straight}
use Rattle.branch_simplify.specs.Laws.{SimplifiedIsSound}
use Rattle.branch_simplify.specs.Simplified.{entries_left, lost_into, phi_left, simplified}
use Rattle.branch_simplify.proofs.Counting.{decided_among, edges_stay, lost_from}
use Rattle.branch_simplify.proofs.Kept.{available_at_end_stays, available_at_stays, block_at, locals_stay, numbers_stay, place_stays, step, type_stays}
use Rattle.branch_simplify.proofs.Left.{all_left, count_left, each_left, fewer, was_there}
use Rattle.ir_meaning.proofs.NoPhis.{no_edges}

-- a terminator stays, or jumps to the block that is decided
either : (P : Terminator → Type 0) (t : Terminator) → P t → ((d : ℕ) → decided t ≡ Some d → P (Jump d)) → P (straight t)
either P t stays jumps = by (decided t) refl
  where
    by : (o : Option ℕ) → decided t ≡ o → P (jump_or o t)
    by None e = stays
    by (Some d) e = jumps d e

straight_targets : (P : ℕ → Type 0) (t : Terminator) → All P (successors t) → All P (successors (straight t))
straight_targets P t h = either (λ u. All P (successors u)) t h (λ d e. All-cons P d [] (all_among P d (successors t) h (decided_among t d e)) (All-nil P))

straight_reads : (P : Argument → Type 0) (t : Terminator) → All P (end_reads t) → All P (end_reads (straight t))
straight_reads P t h = either (λ u. All P (end_reads u)) t h (λ d e. All-nil P)

-- ---- item by item

module _ (f : Function) where
  abbrev lost_by : Block → ℕ → ℕ
  lost_by block n = times n (lost_into block.number f.blocks)

  -- what holds of each item, from what held of what it was
  record Stays (P Q : Item → Type 0) : Type 0 where
    phi : (b : ℕ) (block : Block) → slice_get f.blocks b ≡ Some block → (p : Phi) → P (phi_item b p) → Q (phi_item b (phi_left (lost_by block) p))
    line : (b k : ℕ) (l : Line) → P (line_item b k l) → Q (line_item b k l)
    last : (b : ℕ) (t : Terminator) → P (end_item b t) → Q (end_item b (straight t))

  module _ (P Q : Item → Type 0) (stays : Stays P Q) where
    phis_all : (b : ℕ) (block : Block) → slice_get f.blocks b ≡ Some block → (ps : List Phi) → All P (map (phi_item b) ps) → All Q (map (phi_item b) (map (phi_left (lost_by block)) ps))
    phis_all b block found [] h = All-nil Q
    phis_all b block found (p ∷ ps) h =
        All-cons Q (phi_item b (phi_left (lost_by block) p)) (map (phi_item b) (map (phi_left (lost_by block)) ps))
        (stays.phi b block found p (All-head P (phi_item b p) (map (phi_item b) ps) h))
        (phis_all b block found ps (All-tail P (phi_item b p) (map (phi_item b) ps) h))

    lines_all : (b k : ℕ) (ls : List Line) → All P (lines_from b k ls) → All Q (lines_from b k ls)
    lines_all b k [] h = All-nil Q
    lines_all b k (l ∷ ls) h =
        All-cons Q (line_item b k l) (lines_from b (suc k) ls) (stays.line b k l (All-head P (line_item b k l) (lines_from b (suc k) ls) h))
        (lines_all b (suc k) ls (All-tail P (line_item b k l) (lines_from b (suc k) ls) h))

    block_all : (b : ℕ) (block : Block) → slice_get f.blocks b ≡ Some block → All P (block_items b block) → All Q (block_items b (step f block))
    block_all b block found h =
        let rest : All P (lines_from b 0 block.lines ++ end_item b block.end ∷ []) = all_back P (map (phi_item b) block.phis) (lines_from b 0 block.lines ++ end_item b block.end ∷ []) h in
        let last : All P (end_item b block.end ∷ []) = all_back P (lines_from b 0 block.lines) (end_item b block.end ∷ []) rest in
        All-append Q (map (phi_item b) (map (phi_left (lost_by block)) block.phis)) (lines_from b 0 block.lines ++ end_item b (straight block.end) ∷ [])
        (phis_all b block found block.phis (all_front P (map (phi_item b) block.phis) (lines_from b 0 block.lines ++ end_item b block.end ∷ []) h))
        (All-append Q (lines_from b 0 block.lines) (end_item b (straight block.end) ∷ [])
        (lines_all b 0 block.lines (all_front P (lines_from b 0 block.lines) (end_item b block.end ∷ []) rest))
        (All-cons Q (end_item b (straight block.end)) [] (stays.last b block.end (All-head P (end_item b block.end) [] last)) (All-nil Q)))

    blocks_all : (b : ℕ) (bs : List Block) → ((i : ℕ) → slice_get f.blocks (b + i) ≡ slice_get bs i) → All P (items_from b bs) → All Q (items_from b (map (step f) bs))
    blocks_all b [] found h = All-nil Q
    blocks_all b (block ∷ bs) found h =
        All-append Q (block_items b (step f block)) (items_from (suc b) (map (step f) bs))
        (block_all b block (ap (slice_get f.blocks) (omega arith) ∙ found 0) (all_front P (block_items b block) (items_from (suc b) bs) h))
        (blocks_all (suc b) bs (λ i. ap (slice_get f.blocks) (omega arith) ∙ found (suc i)) (all_back P (block_items b block) (items_from (suc b) bs) h))

    items_all : All P (items f) → All Q (items (simplified f))
    items_all h = blocks_all 0 f.blocks (λ i. ap (slice_get f.blocks) (omega arith)) h

  -- ---- formed

  operand_formed : (o : Operand) → OperandFormed f o → OperandFormed (simplified f) o
  operand_formed (operand.Local x) h = ap (λ (l : List ℕ). holds l x) (locals_stay f) ∙ h
  operand_formed (operand.Number width bits) h = h
  operand_formed operand.Null h = h
  operand_formed (operand.Poison reg) h = h
  operand_formed (operand.Symbol symbol offset) h = h

  arguments_formed : (as' : List Argument) → All (ArgumentFormed f) as' → All (ArgumentFormed (simplified f)) as'
  arguments_formed as' h = All-weaker (ArgumentFormed f) (ArgumentFormed (simplified f)) (λ a g. (g.0, operand_formed a.operand g.1)) as' h

  block_there : (n : ℕ) → IsBlock f n → IsBlock (simplified f) n
  block_there n h = ap (λ (l : List ℕ). holds l n) (numbers_stay f) ∙ h

  sources_there : (es : List Incoming) → All (λ e. IsBlock f e.from) es → All (λ e. IsBlock (simplified f) e.from) es
  sources_there es h = All-weaker (λ e. IsBlock f e.from) (λ e. IsBlock (simplified f) e.from) (λ e. block_there e.from) es h

  formed_stays : Stays (ItemFormed f) (ItemFormed (simplified f))
  formed_stays = record {
    phi = λ b block found p h. record {
      operands = all_left (lost_by block) (ArgumentFormed (simplified f)) (λ e. typed p.reg e.value) p.incoming (arguments_formed (taken_as p.reg p.incoming) h.operands);
      sources = each_left (lost_by block) (λ e. IsBlock (simplified f) e.from) p.incoming (sources_there p.incoming h.sources);
      kind = h.kind;
    };
    line = λ b k l h. record {
      operands = arguments_formed (reads l.instr ++ phi_reads l.instr) h.operands;
      sources = sources_there (entries (line_item b k l)) h.sources;
      kind = h.kind;
    };
    last = λ b t h. record {
      operands = straight_reads (ArgumentFormed (simplified f)) t (arguments_formed (end_reads t) h.operands);
      sources = All-nil (λ e. IsBlock (simplified f) e.from);
      kind = (
        either CasesFormed t h.kind.0 (λ d e. tt),
        straight_targets (IsBlock (simplified f)) t (All-weaker (IsBlock f) (IsBlock (simplified f)) block_there (successors t) h.kind.1),
      );
    };
  }

  no_blocks : (bs : List Block) → map (step f) bs ≡ [] → bs ≡ []
  no_blocks [] e = refl
  no_blocks (b ∷ bs) e = absurd cc

  all_numbers_stay : locals (simplified f) ++ numbers (simplified f) ≡ locals f ++ numbers f
  all_numbers_stay = λ i. locals_stay f i ++ numbers_stay f i

  formed : Formed f → Formed (simplified f)
  formed h = record {
    result = h.result;
    params = h.params;
    once = subst Distinct (sym all_numbers_stay) h.once;
    items = items_all (ItemFormed f) (ItemFormed (simplified f)) formed_stays h.items;
    declared = λ none. h.declared (no_blocks f.blocks none);
  }

  -- ---- phis and edges

  on_edges : Distinct (numbers_in f.blocks) → (b : ℕ) (block : Block) → slice_get f.blocks b ≡ Some block → (es : List Incoming) → OnEdges f b es → OnEdges (simplified f) b (entries_left (lost_by block) es)
  on_edges d b block at_b es h = record {
    each = λ i.
        (λ j. count_by (λ e. nat_eq (place_stays f.blocks f.blocks e.from j) i) (entries_left (lost_by block) es))
        ∙ each i (slice_get f.blocks i) refl
        ∙ sym (edges_from (simplified f) b (step f block) (block_at f b ∙ ap (option_map (step f)) at_b) i ∙ ap (out_to block.number) (block_at f i))
        ∙ times_is i (edges (simplified f) b);
    equal = λ i j e g at_i at_j same. equal e g same (was_there (lost_by block) es i e at_i) (was_there (lost_by block) es j g at_j);
  }
    where
      equal : (e g : Incoming) → e.from ≡ g.from → (i : ℕ) × (slice_get es i ≡ Some e) → (j : ℕ) × (slice_get es j ≡ Some g) → e.value ≡ g.value
      equal e g same (i, at_i) (j, at_j) = h.equal i j e g at_i at_j same

      each : (i : ℕ) (o : Option Block) → slice_get f.blocks i ≡ o → count_by (λ e. nat_eq (place f.blocks e.from) i) (entries_left (lost_by block) es) ≡ out_to block.number (option_map (step f) o)
      each i None at_i =
          let less : count_by (λ e. nat_eq (place f.blocks e.from) i) (entries_left (lost_by block) es) ≤ count_by (λ e. nat_eq (place f.blocks e.from) i) es = fewer (lost_by block) (λ e. nat_eq (place f.blocks e.from) i) es in
          let none : count_by (λ e. nat_eq (place f.blocks e.from) i) es ≡ 0 = h.each i ∙ sym (times_is i (edges f b)) ∙ edges_from f b block at_b i ∙ ap (out_to block.number) at_i in
          let zero' : count_by (λ e. nat_eq (place f.blocks e.from) i) (entries_left (lost_by block) es) ≡ 0 = omega (arith, less, none) in
          zero'
      each i (Some from) at_i =
          by_number f d i from at_i (entries_left (lost_by block) es)
          ∙ count_left (lost_by block) from.number es
          ∙ rest (entries_of f d b block at_b i from at_i es h) (lost_from block.number f.blocks d i from at_i) (edges_stay block.number from.end)
        where
          rest : {x y z u v : ℕ} → x ≡ y → z ≡ u → v + u ≡ y → x - z ≡ v
          rest a b c = omega (arith, a, b, c)

  -- ---- the rules

  have_types : (as' : List Argument) → All (HasType f) as' → All (HasType (simplified f)) as'
  have_types as' h = All-weaker (HasType f) (HasType (simplified f)) (λ a g. type_stays f a.operand ∙ g) as' h

  end_types : (t : Terminator) → EndTypes f t → EndTypes (simplified f) t
  end_types (Return argument) h = h
  end_types (Jump target) h = h
  end_types (Branch condition if_true if_false) h = h
  end_types (Switch width value default cases) h = h
  end_types Unreachable h = h

  there_stays : (b k : ℕ) (o : Operand) → IsThere f b k o → IsThere (simplified f) b k o
  there_stays b k (operand.Local x) h = available_at_stays f b k x h
  there_stays b k (operand.Number width bits) h = tt
  there_stays b k operand.Null h = tt
  there_stays b k (operand.Poison reg) h = tt
  there_stays b k (operand.Symbol symbol offset) h = tt

  at_end_stays : (b : ℕ) (o : Operand) → IsThereAtEnd f b o → IsThereAtEnd (simplified f) b o
  at_end_stays b (operand.Local x) h = available_at_end_stays f b x h
  at_end_stays b (operand.Number width bits) h = tt
  at_end_stays b operand.Null h = tt
  at_end_stays b (operand.Poison reg) h = tt
  at_end_stays b (operand.Symbol symbol offset) h = tt

  abbrev EntryThere : Incoming → Type 0
  EntryThere e = IsThereAtEnd (simplified f) (place (simplified f).blocks e.from) e.value

  entries_there : (es : List Incoming) → All (λ e. IsThereAtEnd f (place f.blocks e.from) e.value) es → All EntryThere es
  entries_there es h =
      All-weaker (λ e. IsThereAtEnd f (place f.blocks e.from) e.value) EntryThere
      (λ e there. subst (λ (b : ℕ). IsThereAtEnd (simplified f) b e.value) (sym (place_stays f.blocks f.blocks e.from)) (at_end_stays (place f.blocks e.from) e.value there)) es h

  no_entries : (b k : ℕ) (l : Line) → IsNoPhi l.instr → EntriesThere (simplified f) (line_item b k l)
  no_entries b k l = by l.instr
    where
      by : (i : Instr) → IsNoPhi i → EntriesThere (simplified f) (line_item b k (record { local = l.local; instr = i }))
      by (kind.Binary op flags width left right) n = All-nil EntryThere
      by (kind.Icmp predicate reg left right) n = All-nil EntryThere
      by (kind.Cast op from value to) n = All-nil EntryThere
      by (kind.Select condition if_true if_false) n = All-nil EntryThere
      by (kind.Freeze reg value) n = All-nil EntryThere
      by (kind.Alloca shape align) n = All-nil EntryThere
      by (kind.Load reg address align) n = All-nil EntryThere
      by (kind.Store reg value address align) n = All-nil EntryThere
      by (kind.Address inbounds shape base indices) n = All-nil EntryThere
      by (kind.Call result callee arguments) n = All-nil EntryThere
      by (kind.Phi reg incoming) n = absurd n

  abbrev WasKept : Rule → Item → Type 0
  WasKept rule item = StandsRight item × Keeps f rule item

  module _ (d : Distinct (numbers_in f.blocks)) where
    phi_keeps : (rule : Rule) (b : ℕ) (block : Block) → slice_get f.blocks b ≡ Some block → (p : Phi) → WasKept rule (phi_item b p) → Keeps (simplified f) rule (phi_item b (phi_left (lost_by block) p))
    phi_keeps TypeMismatch b block found p h = (all_left (lost_by block) (HasType (simplified f)) (λ e. typed p.reg e.value) p.incoming (have_types (taken_as p.reg p.incoming) h.1.0), tt)
    phi_keeps NotAvailable b block found p h = (tt, each_left (lost_by block) EntryThere p.incoming (entries_there p.incoming h.1.1))
    phi_keeps PhiEdges b block found p h = on_edges d b block found p.incoming h.1
    phi_keeps PhiPlace b block found p h = h.1
    phi_keeps EntryBranch b block found p h = tt
    phi_keeps Index b block found p h = tt
    phi_keeps Cast b block found p h = tt
    phi_keeps CaseTwice b block found p h = tt

    line_keeps : (rule : Rule) (b k : ℕ) (l : Line) → WasKept rule (line_item b k l) → Keeps (simplified f) rule (line_item b k l)
    line_keeps TypeMismatch b k l h = (have_types (reads l.instr ++ phi_reads l.instr) h.1.0, h.1.1)
    line_keeps NotAvailable b k l h = (
      All-weaker (λ a. IsThere f b k a.operand) (λ a. IsThere (simplified f) b k a.operand) (λ a. there_stays b k a.operand) (reads l.instr) h.1.0,
      no_entries b k l h.0,
    )
    line_keeps PhiEdges b k l h = no_edges (simplified f) b l.instr h.0
    line_keeps PhiPlace b k l h = h.1
    line_keeps EntryBranch b k l h = tt
    line_keeps Index b k l h = h.1
    line_keeps Cast b k l h = h.1
    line_keeps CaseTwice b k l h = tt

    end_keeps : (rule : Rule) (b : ℕ) (t : Terminator) → WasKept rule (end_item b t) → Keeps (simplified f) rule (end_item b (straight t))
    end_keeps TypeMismatch b t h = (straight_reads (HasType (simplified f)) t (have_types (end_reads t) h.1.0), either (EndTypes (simplified f)) t (end_types t h.1.1) (λ d e. tt))
    end_keeps NotAvailable b t h = (
      straight_reads (λ a. IsThereAtEnd (simplified f) b a.operand) t
          (All-weaker (λ a. IsThereAtEnd f b a.operand) (λ a. IsThereAtEnd (simplified f) b a.operand) (λ a. at_end_stays b a.operand) (end_reads t) h.1.0),
      All-nil EntryThere,
    )
    end_keeps PhiEdges b t h = tt
    end_keeps PhiPlace b t h = tt
    end_keeps EntryBranch b t h =
        straight_targets (λ n. place (simplified f).blocks n ≡ 0 → ⊥) t
        (All-weaker (λ n. place f.blocks n ≡ 0 → ⊥) (λ n. place (simplified f).blocks n ≡ 0 → ⊥) (λ n away there. away (sym (place_stays f.blocks f.blocks n) ∙ there)) (successors t) h.1)
    end_keeps Index b t h = tt
    end_keeps Cast b t h = tt
    end_keeps CaseTwice b t h = either EndDiffers t h.1 (λ d e. tt)

  sound : Sound f → Sound (simplified f)
  sound h = record {
    formed = formed h.formed;
    rules = λ rule.
        items_all (WasKept rule) (Keeps (simplified f) rule)
        (record { phi = phi_keeps (apart f h.formed) rule; line = line_keeps (apart f h.formed) rule; last = end_keeps (apart f h.formed) rule })
        (all_with StandsRight (Keeps f rule) (WasKept rule) (items f) (λ item a b. (a, b)) (h.rules PhiPlace) (h.rules rule));
  }

pub is_sound : SimplifiedIsSound
is_sound f h = sound f h
