-- What is needed of a sound function is sound.
use Rattle.std.proofs.Common.{◌≡◌, ℕ, suc, ◌+◌, nat_eq, Bool, true, false, List, [], ◌∷◌, ◌++◌, Option, Some, None, map, option_map, length, take, get_or, refl, sym, ◌∙◌, ap, subst, arith, if◌then◌else◌, append_assoc, append-nil, length-append}
use Rattle.std.specs.Prelude.{All, count_by, slice_get}
use Rattle.std.proofs.lemmas.List.{get_or_append_left, get_or-append-add}
use Rattle.std.proofs.lemmas.List.Elements.{All-append, All-cons}
use Rattle.ir_tree.specs.Flow.{defined_before, holds, phi_locals, results, successors}
use Rattle.ir_tree.specs.Formed.{ArgumentFormed, Formed, IsBlock, ItemFormed, OperandFormed}
use Rattle.ir_tree.specs.Items.{Item, phi_item, line_item, end_item, block_items, end_reads, entries, items, items_from, lines_from, phi_reads, reads, taken_as, typed}
use Rattle.ir_tree.specs.Rules.{HasType, IsNoPhi, IsThere, IsThereAtEnd, Keeps, OnEdges, Sound, StandsRight, EntriesThere, EndTypes, place}
use Rattle.ir_tree.specs.declared.block.Block.{Block}
use Rattle.ir_tree.specs.declared.block.Terminator.{Terminator}
use Rattle.ir_tree.specs.declared.block.Terminator.TheVariants.{Branch, Jump, Return, Switch, Unreachable}
use Rattle.ir_tree.specs.declared.function.Function.{Function}
use Rattle.ir_tree.specs.declared.instr.Incoming.{Incoming}
use Rattle.ir_tree.specs.declared.instr.Instr.{Instr}
use Rattle.ir_tree.specs.declared.instr.Instr.TheVariants as kind
use Rattle.ir_tree.specs.declared.instr.Line.{Line}
use Rattle.ir_tree.specs.declared.instr.Phi.{Phi}
use Rattle.ir_tree.specs.declared.operand.Argument.{Argument}
use Rattle.ir_tree.specs.declared.operand.Operand.{Operand}
use Rattle.ir_tree.specs.declared.operand.Operand.TheVariants as operand
use Rattle.ir_tree.specs.declared.operand.Reg.{Reg}
use Rattle.ir_tree.specs.declared.operand.Reg.TheVariants.{Int, Ptr}
use Rattle.ir_tree.specs.declared.rule.Rule.{Rule}
use Rattle.ir_tree.specs.declared.rule.Rule.TheVariants.{TypeMismatch, NotAvailable, PhiEdges, PhiPlace, EntryBranch, Index, Cast, CaseTwice}
use Rattle.ir_meaning.specs.Needed.{AllKept, EdgesKept, EndReads, IsKept, LinesClosed, PhisKept, UsesKept, is_needed, needed, needed_block, needed_blocks, needed_lines, needed_phis}
use Rattle.dead_code.specs.Laws.{NeededIsSound}
use Rattle.dead_code.specs.Least.{AreBlocksClosed, IsBlockClosed}
use Rattle.dead_code.proofs.Kept.{block_at, edges_stay, local_stays, more_of_both, numbers_stay, once_stays, phi_locals_stay, place_stays, results_stay, type_stays}
use Rattle.dead_code.proofs.KeptPaths.{IsPlaced, available_at_end_stays, available_at_stays}
use Rattle.ir_meaning.proofs.NoPhis.{no_edges}

-- ---- of each element

all_with : {X : Type 0} (P Q R : X → Type 0) (xs : List X) → ((x : X) → P x → Q x → R x) → All P xs → All Q xs → All R xs
all_with P Q R xs f h g = λ k d lt. f (get_or xs k d) (h k d lt) (g k d lt)

all_then : {X : Type 0} (P R : X → Type 0) (xs : List X) → ((x : X) → P x → R x) → All P xs → All R xs
all_then P R xs f h = λ k d lt. f (get_or xs k d) (h k d lt)

all_none : {X : Type 0} (P : X → Type 0) → All P []
all_none P = λ k d lt. absurd (omega (arith, lt))

all_front : {X : Type 0} (P : X → Type 0) (xs ys : List X) → All P (xs ++ ys) → All P xs
all_front P xs ys h = λ k d lt. subst P (get_or_append_left xs ys d k lt) (h k d (omega (arith, lt, length-append xs ys)))

all_back : {X : Type 0} (P : X → Type 0) (xs ys : List X) → All P (xs ++ ys) → All P ys
all_back P xs ys h = λ k d lt. subst P (get_or-append-add xs ys k d) (h (length xs + k) d (omega (arith, lt, length-append xs ys)))

all_head : {X : Type 0} (P : X → Type 0) (x : X) (xs : List X) → All P (x ∷ xs) → P x
all_head P x xs h = h 0 x (omega arith)

all_tail : {X : Type 0} (P : X → Type 0) (x : X) (xs : List X) → All P (x ∷ xs) → All P xs
all_tail P x xs h = all_back P (x ∷ []) xs h

-- ---- what is read is kept

abbrev AreKept : (ℕ → Bool) → List Argument → Type 0
AreKept keeps as' = All (λ a. IsKept keeps a.operand) as'

kept_arguments : (keeps : ℕ → Bool) (as' : List Argument) → AllKept keeps as' → AreKept keeps as'
kept_arguments keeps [] h = all_none (λ a. IsKept keeps a.operand)
kept_arguments keeps (a ∷ more) h = All-cons (λ a. IsKept keeps a.operand) a more h.0 (kept_arguments keeps more h.1)

one_kept : (keeps : ℕ → Bool) (a : Argument) → IsKept keeps a.operand → AreKept keeps (a ∷ [])
one_kept keeps a h = kept_arguments keeps (a ∷ []) (h, tt)

two_kept : (keeps : ℕ → Bool) (a b : Argument) → IsKept keeps a.operand × IsKept keeps b.operand → AreKept keeps (a ∷ b ∷ [])
two_kept keeps a b h = kept_arguments keeps (a ∷ b ∷ []) (h.0, (h.1, tt))

kept_line : (keeps : ℕ → Bool) (i : Instr) → IsNoPhi i → UsesKept keeps i → AreKept keeps (reads i ++ phi_reads i)
kept_line keeps (kind.Binary op flags width left right) n h = two_kept keeps (typed (Int width) left) (typed (Int width) right) h
kept_line keeps (kind.Icmp predicate reg left right) n h = two_kept keeps (typed reg left) (typed reg right) h
kept_line keeps (kind.Cast op from value to) n h = one_kept keeps (typed from value) h
kept_line keeps (kind.Select condition if_true if_false) n h =
    All-cons (λ a. IsKept keeps a.operand) (typed (Int 1) condition) (if_true ∷ if_false ∷ []) h.0 (two_kept keeps if_true if_false (h.1, h.2))
kept_line keeps (kind.Freeze reg value) n h = one_kept keeps (typed reg value) h
kept_line keeps (kind.Alloca shape align) n h = all_none (λ a. IsKept keeps a.operand)
kept_line keeps (kind.Load reg address align) n h = one_kept keeps (typed Ptr address) h
kept_line keeps (kind.Store reg value address align) n h = two_kept keeps (typed reg value) (typed Ptr address) h
kept_line keeps (kind.Address inbounds shape base indices) n h =
    subst (AreKept keeps) (sym (append-nil (typed Ptr base ∷ indices)))
    (All-cons (λ a. IsKept keeps a.operand) (typed Ptr base) indices h.0 (kept_arguments keeps indices h.1))
kept_line keeps (kind.Call result callee arguments) n h =
    subst (AreKept keeps) (sym (append-nil (typed Ptr callee ∷ arguments)))
    (All-cons (λ a. IsKept keeps a.operand) (typed Ptr callee) arguments h.0 (kept_arguments keeps arguments h.1))
kept_line keeps (kind.Phi reg incoming) n h = absurd n

kept_end : (keeps : ℕ → Bool) (t : Terminator) → EndReads keeps t → AreKept keeps (end_reads t)
kept_end keeps (Return None) h = all_none (λ a. IsKept keeps a.operand)
kept_end keeps (Return (Some a)) h = one_kept keeps a h
kept_end keeps (Jump target) h = all_none (λ a. IsKept keeps a.operand)
kept_end keeps (Branch condition if_true if_false) h = one_kept keeps (typed (Int 1) condition) h
kept_end keeps (Switch width value default cases) h = one_kept keeps (typed (Int width) value) h
kept_end keeps Unreachable h = all_none (λ a. IsKept keeps a.operand)

kept_taken : (keeps : ℕ → Bool) (reg : Reg) (es : List Incoming) → EdgesKept keeps es → AreKept keeps (taken_as reg es)
kept_taken keeps reg [] h = all_none (λ a. IsKept keeps a.operand)
kept_taken keeps reg (e ∷ es) h = All-cons (λ a. IsKept keeps a.operand) (typed reg e.value) (taken_as reg es) h.0 (kept_taken keeps reg es h.1)

kept_edges : (keeps : ℕ → Bool) (es : List Incoming) → EdgesKept keeps es → All (λ e. IsKept keeps e.value) es
kept_edges keeps [] h = all_none (λ e. IsKept keeps e.value)
kept_edges keeps (e ∷ es) h = All-cons (λ e. IsKept keeps e.value) e es h.0 (kept_edges keeps es h.1)

-- ---- item by item

module _ (keeps : ℕ → Bool) (f : Function) where
  -- what holds of each item that stays, from what held of it
  record Stays (P Q : Item → Type 0) : Type 0 where
    phi : (b : ℕ) (p : Phi) → EdgesKept keeps p.incoming → P (phi_item b p) → Q (phi_item b p)
    line : (b k j : ℕ) (l : Line) → IsPlaced keeps f b k j → UsesKept keeps l.instr → P (line_item b k l) → Q (line_item b j l)
    last : (b : ℕ) (t : Terminator) → EndReads keeps t → P (end_item b t) → Q (end_item b t)

  module _ (P Q : Item → Type 0) (stays : Stays P Q) where
    phis_all : (b : ℕ) (ps : List Phi) → PhisKept keeps ps → All P (map (phi_item b) ps) → All Q (map (phi_item b) (needed_phis keeps ps))
    phis_all b [] closed h = all_none Q
    phis_all b (p ∷ ps) closed h = at (keeps p.local) refl (phis_all b ps closed.1 (all_tail P (phi_item b p) (map (phi_item b) ps) h))
      where
        at : (t : Bool) → keeps p.local ≡ t → All Q (map (phi_item b) (needed_phis keeps ps)) → All Q (map (phi_item b) (if t then p ∷ needed_phis keeps ps else needed_phis keeps ps))
        at true k more = All-cons Q (phi_item b p) (map (phi_item b) (needed_phis keeps ps)) (stays.phi b p (closed.0 k) (all_head P (phi_item b p) (map (phi_item b) ps) h)) more
        at false k more = more

    -- lines, behind the first ones of their block
    lines_all : (b : ℕ) (block : Block) → slice_get f.blocks b ≡ Some block → (front ls : List Line) → block.lines ≡ front ++ ls
        → LinesClosed keeps ls → All P (lines_from b (length front) ls) → All Q (lines_from b (length (needed_lines keeps front)) (needed_lines keeps ls))
    lines_all b block found front [] is closed h = all_none Q
    lines_all b block found front (l ∷ ls) is closed h =
        at (is_needed keeps l) refl
        (lines_all b block found (front ++ l ∷ []) ls (is ∙ sym (append_assoc front (l ∷ []) ls)) closed.1
        (subst (λ (n : ℕ). All P (lines_from b n ls)) (sym (omega (arith, length-append front (l ∷ [])))) (all_tail P (line_item b (length front) l) (lines_from b (suc (length front)) ls) h)))
      where
        needed_both : (xs ys : List Line) → needed_lines keeps (xs ++ ys) ≡ needed_lines keeps xs ++ needed_lines keeps ys
        needed_both [] ys = refl
        needed_both (x ∷ xs) ys = by (is_needed keeps x) (needed_both xs ys)
          where
            by : (t : Bool) → needed_lines keeps (xs ++ ys) ≡ needed_lines keeps xs ++ needed_lines keeps ys
                → (if t then x ∷ needed_lines keeps (xs ++ ys) else needed_lines keeps (xs ++ ys)) ≡ (if t then x ∷ needed_lines keeps xs else needed_lines keeps xs) ++ needed_lines keeps ys
            by true e = ap (λ (r : List Line). x ∷ r) e
            by false e = e

        taken : (xs ys : List Line) → take (length xs) (xs ++ ys) ≡ xs
        taken [] ys = refl
        taken (x ∷ xs) ys = ap (λ (r : List Line). x ∷ r) (taken xs ys)

        placed : IsPlaced keeps f b (length front) (length (needed_lines keeps front))
        placed x kept before =
            ap (λ (o : Option Block). defined_before o (length (needed_lines keeps front)) x) (block_at keeps f.blocks b ∙ ap (option_map (needed_block keeps)) found)
            ∙ ap (λ (r : List Line). holds (phi_locals (needed_block keeps block) ++ results r) x)
            (ap (λ (r : List Line). take (length (needed_lines keeps front)) (needed_lines keeps r)) is
            ∙ ap (take (length (needed_lines keeps front))) (needed_both front (l ∷ ls)) ∙ taken (needed_lines keeps front) (needed_lines keeps (l ∷ ls)))
            ∙ more_of_both x (phi_locals block) (results front) (phi_locals (needed_block keeps block)) (results (needed_lines keeps front)) (phi_locals_stay keeps x kept block) (results_stay keeps x kept front)
            (ap (λ (r : List Line). holds (phi_locals block ++ results r) x) (sym (ap (take (length front)) is ∙ taken front (l ∷ ls)))
            ∙ ap (λ (o : Option Block). defined_before o (length front) x) (sym found) ∙ before)

        at : (t : Bool) → is_needed keeps l ≡ t → All Q (lines_from b (length (needed_lines keeps (front ++ l ∷ []))) (needed_lines keeps ls))
            → All Q (lines_from b (length (needed_lines keeps front)) (if t then l ∷ needed_lines keeps ls else needed_lines keeps ls))
        at true n more =
            All-cons Q (line_item b (length (needed_lines keeps front)) l) (lines_from b (suc (length (needed_lines keeps front))) (needed_lines keeps ls))
            (stays.line b (length front) (length (needed_lines keeps front)) l placed (closed.0 n) (all_head P (line_item b (length front) l) (lines_from b (suc (length front)) ls) h))
            (subst (λ (j : ℕ). All Q (lines_from b j (needed_lines keeps ls)))
            (ap length (needed_both front (l ∷ []) ∙ ap (λ (t : Bool). needed_lines keeps front ++ (if t then l ∷ [] else [])) n) ∙ length-append (needed_lines keeps front) (l ∷ []) ∙ omega arith) more)
        at false n more =
            subst (λ (r : List Line). All Q (lines_from b (length r) (needed_lines keeps ls)))
            (needed_both front (l ∷ []) ∙ ap (λ (t : Bool). needed_lines keeps front ++ (if t then l ∷ [] else [])) n ∙ append-nil (needed_lines keeps front)) more

    block_all : (b : ℕ) (block : Block) → slice_get f.blocks b ≡ Some block → IsBlockClosed keeps block → All P (block_items b block) → All Q (block_items b (needed_block keeps block))
    block_all b block found closed h =
        let rest : All P (lines_from b 0 block.lines ++ end_item b block.end ∷ []) = all_back P (map (phi_item b) block.phis) (lines_from b 0 block.lines ++ end_item b block.end ∷ []) h in
        All-append Q (map (phi_item b) (needed_phis keeps block.phis)) (lines_from b 0 (needed_lines keeps block.lines) ++ end_item b block.end ∷ [])
        (phis_all b block.phis closed.0 (all_front P (map (phi_item b) block.phis) (lines_from b 0 block.lines ++ end_item b block.end ∷ []) h))
        (All-append Q (lines_from b 0 (needed_lines keeps block.lines)) (end_item b block.end ∷ [])
        (lines_all b block found [] block.lines refl closed.1.0 (all_front P (lines_from b 0 block.lines) (end_item b block.end ∷ []) rest))
        (All-cons Q (end_item b block.end) [] (stays.last b block.end closed.1.1 (all_head P (end_item b block.end) [] (all_back P (lines_from b 0 block.lines) (end_item b block.end ∷ []) rest))) (all_none Q)))

    blocks_all : (b : ℕ) (bs : List Block) → ((i : ℕ) → slice_get f.blocks (b + i) ≡ slice_get bs i) → AreBlocksClosed keeps bs
        → All P (items_from b bs) → All Q (items_from b (needed_blocks keeps bs))
    blocks_all b [] found closed h = all_none Q
    blocks_all b (block ∷ bs) found closed h =
        All-append Q (block_items b (needed_block keeps block)) (items_from (suc b) (needed_blocks keeps bs))
        (block_all b block (ap (slice_get f.blocks) (omega arith) ∙ found 0) closed.0 (all_front P (block_items b block) (items_from (suc b) bs) h))
        (blocks_all (suc b) bs (λ i. ap (slice_get f.blocks) (omega arith) ∙ found (suc i)) closed.1 (all_back P (block_items b block) (items_from (suc b) bs) h))

    items_all : AreBlocksClosed keeps f.blocks → All P (items f) → All Q (items (needed keeps f))
    items_all closed h = blocks_all 0 f.blocks (λ i. ap (slice_get f.blocks) (omega arith)) closed h

  -- ---- formed

  operand_formed : (o : Operand) → IsKept keeps o → OperandFormed f o → OperandFormed (needed keeps f) o
  operand_formed (operand.Local x) kept h = local_stays keeps f x kept h
  operand_formed (operand.Number width bits) kept h = h
  operand_formed operand.Null kept h = h
  operand_formed (operand.Poison reg) kept h = h
  operand_formed (operand.Symbol symbol offset) kept h = h

  arguments_formed : (as' : List Argument) → AreKept keeps as' → All (ArgumentFormed f) as' → All (ArgumentFormed (needed keeps f)) as'
  arguments_formed as' kept h = all_with (λ a. IsKept keeps a.operand) (ArgumentFormed f) (ArgumentFormed (needed keeps f)) as' (λ a k g. (g.0, operand_formed a.operand k g.1)) kept h

  block_there : (n : ℕ) → IsBlock f n → IsBlock (needed keeps f) n
  block_there n h = ap (λ (l : List ℕ). holds l n) (numbers_stay keeps f) ∙ h

  sources_there : (es : List Incoming) → All (λ e. IsBlock f e.from) es → All (λ e. IsBlock (needed keeps f) e.from) es
  sources_there es h = all_then (λ e. IsBlock f e.from) (λ e. IsBlock (needed keeps f) e.from) es (λ e. block_there e.from) h

  abbrev WasFormed : Item → Type 0
  WasFormed item = ItemFormed f item × StandsRight item

  formed_stays : Stays WasFormed (ItemFormed (needed keeps f))
  formed_stays = record {
    phi = λ b p kept h. record { operands = arguments_formed (taken_as p.reg p.incoming) (kept_taken keeps p.reg p.incoming kept) h.0.operands; sources = sources_there p.incoming h.0.sources; kind = h.0.kind };
    line = λ b k j l placed kept h. record {
      operands = arguments_formed (reads l.instr ++ phi_reads l.instr) (kept_line keeps l.instr h.1 kept) h.0.operands;
      sources = sources_there (entries (line_item b k l)) h.0.sources;
      kind = h.0.kind;
    };
    last = λ b t kept h. record {
      operands = arguments_formed (end_reads t) (kept_end keeps t kept) h.0.operands;
      sources = sources_there (entries (end_item b t)) h.0.sources;
      kind = (h.0.kind.0, all_then (IsBlock f) (IsBlock (needed keeps f)) (successors t) block_there h.0.kind.1);
    };
  }

  no_blocks : (bs : List Block) → needed_blocks keeps bs ≡ [] → bs ≡ []
  no_blocks [] e = refl
  no_blocks (b ∷ bs) e = absurd cc

  formed_needed : AreBlocksClosed keeps f.blocks → Formed f → All StandsRight (items f) → Formed (needed keeps f)
  formed_needed closed h stand = record {
    result = h.result;
    params = h.params;
    once = once_stays keeps f h.once;
    items =
        items_all WasFormed (ItemFormed (needed keeps f)) formed_stays closed
        (all_with (ItemFormed f) StandsRight WasFormed (items f) (λ item a b. (a, b)) h.items stand);
    declared = λ none. h.declared (no_blocks f.blocks none);
  }

  -- ---- the rules

  have_types : (as' : List Argument) → AreKept keeps as' → All (HasType f) as' → All (HasType (needed keeps f)) as'
  have_types as' kept h = all_with (λ a. IsKept keeps a.operand) (HasType f) (HasType (needed keeps f)) as' (λ a k g. type_stays keeps f a.operand k ∙ g) kept h

  end_types : (t : Terminator) → EndTypes f t → EndTypes (needed keeps f) t
  end_types (Return argument) h = h
  end_types (Jump target) h = h
  end_types (Branch condition if_true if_false) h = h
  end_types (Switch width value default cases) h = h
  end_types Unreachable h = h

  there_stays : (b k j : ℕ) → IsPlaced keeps f b k j → (o : Operand) → IsKept keeps o → OperandFormed f o → IsThere f b k o → IsThere (needed keeps f) b j o
  there_stays b k j placed (operand.Local x) kept formed h = available_at_stays keeps f b k j placed x kept formed h
  there_stays b k j placed (operand.Number width bits) kept formed h = tt
  there_stays b k j placed operand.Null kept formed h = tt
  there_stays b k j placed (operand.Poison reg) kept formed h = tt
  there_stays b k j placed (operand.Symbol symbol offset) kept formed h = tt

  at_end_stays : (b : ℕ) (o : Operand) → IsKept keeps o → OperandFormed f o → IsThereAtEnd f b o → IsThereAtEnd (needed keeps f) b o
  at_end_stays b (operand.Local x) kept formed h = available_at_end_stays keeps f b x kept formed h
  at_end_stays b (operand.Number width bits) kept formed h = tt
  at_end_stays b operand.Null kept formed h = tt
  at_end_stays b (operand.Poison reg) kept formed h = tt
  at_end_stays b (operand.Symbol symbol offset) kept formed h = tt

  abbrev KeptFormed : Argument → Type 0
  KeptFormed a = IsKept keeps a.operand × ArgumentFormed f a

  with_formed : (as' : List Argument) → AreKept keeps as' → All (ArgumentFormed f) as' → All KeptFormed as'
  with_formed as' kept h = all_with (λ a. IsKept keeps a.operand) (ArgumentFormed f) KeptFormed as' (λ a k g. (k, g)) kept h

  reads_there : (b k j : ℕ) → IsPlaced keeps f b k j → (as' : List Argument) → All KeptFormed as' → All (λ a. IsThere f b k a.operand) as' → All (λ a. IsThere (needed keeps f) b j a.operand) as'
  reads_there b k j placed as' ok h =
      all_with KeptFormed (λ a. IsThere f b k a.operand) (λ a. IsThere (needed keeps f) b j a.operand) as' (λ a g there. there_stays b k j placed a.operand g.0 g.1.1 there) ok h

  end_there : (b : ℕ) (as' : List Argument) → All KeptFormed as' → All (λ a. IsThereAtEnd f b a.operand) as' → All (λ a. IsThereAtEnd (needed keeps f) b a.operand) as'
  end_there b as' ok h =
      all_with KeptFormed (λ a. IsThereAtEnd f b a.operand) (λ a. IsThereAtEnd (needed keeps f) b a.operand) as' (λ a g there. at_end_stays b a.operand g.0 g.1.1 there) ok h

  abbrev EntryOk : Incoming → Type 0
  EntryOk e = IsKept keeps e.value × OperandFormed f e.value

  taken_ok : (reg : Reg) (es : List Incoming) → EdgesKept keeps es → All (ArgumentFormed f) (taken_as reg es) → All EntryOk es
  taken_ok reg [] kept h = all_none EntryOk
  taken_ok reg (e ∷ es) kept h =
      All-cons EntryOk e es (kept.0, (all_head (ArgumentFormed f) (typed reg e.value) (taken_as reg es) h).1)
      (taken_ok reg es kept.1 (all_tail (ArgumentFormed f) (typed reg e.value) (taken_as reg es) h))

  entries_there : (es : List Incoming) → All EntryOk es → All (λ e. IsThereAtEnd f (place f.blocks e.from) e.value) es → All (λ e. IsThereAtEnd (needed keeps f) (place (needed keeps f).blocks e.from) e.value) es
  entries_there es ok h =
      all_with EntryOk (λ e. IsThereAtEnd f (place f.blocks e.from) e.value) (λ e. IsThereAtEnd (needed keeps f) (place (needed keeps f).blocks e.from) e.value) es
      (λ e g there. subst (λ (b : ℕ). IsThereAtEnd (needed keeps f) b e.value) (sym (place_stays keeps f.blocks e.from)) (at_end_stays (place f.blocks e.from) e.value g.0 g.1 there)) ok h

  no_entries : (b k j : ℕ) (l : Line) → IsNoPhi l.instr → EntriesThere (needed keeps f) (line_item b j l)
  no_entries b k j l = by l.instr
    where
      by : (i : Instr) → IsNoPhi i → EntriesThere (needed keeps f) (line_item b j (record { local = l.local; instr = i }))
      by (kind.Binary op flags width left right) n = all_none (λ e. IsThereAtEnd (needed keeps f) (place (needed keeps f).blocks e.from) e.value)
      by (kind.Icmp predicate reg left right) n = all_none (λ e. IsThereAtEnd (needed keeps f) (place (needed keeps f).blocks e.from) e.value)
      by (kind.Cast op from value to) n = all_none (λ e. IsThereAtEnd (needed keeps f) (place (needed keeps f).blocks e.from) e.value)
      by (kind.Select condition if_true if_false) n = all_none (λ e. IsThereAtEnd (needed keeps f) (place (needed keeps f).blocks e.from) e.value)
      by (kind.Freeze reg value) n = all_none (λ e. IsThereAtEnd (needed keeps f) (place (needed keeps f).blocks e.from) e.value)
      by (kind.Alloca shape align) n = all_none (λ e. IsThereAtEnd (needed keeps f) (place (needed keeps f).blocks e.from) e.value)
      by (kind.Load reg address align) n = all_none (λ e. IsThereAtEnd (needed keeps f) (place (needed keeps f).blocks e.from) e.value)
      by (kind.Store reg value address align) n = all_none (λ e. IsThereAtEnd (needed keeps f) (place (needed keeps f).blocks e.from) e.value)
      by (kind.Address inbounds shape base indices) n = all_none (λ e. IsThereAtEnd (needed keeps f) (place (needed keeps f).blocks e.from) e.value)
      by (kind.Call result callee arguments) n = all_none (λ e. IsThereAtEnd (needed keeps f) (place (needed keeps f).blocks e.from) e.value)
      by (kind.Phi reg incoming) n = absurd n

  on_edges : (b : ℕ) (es : List Incoming) → OnEdges f b es → OnEdges (needed keeps f) b es
  on_edges b es h = record {
    each = λ p.
        (λ i. count_by (λ e. nat_eq (place_stays keeps f.blocks e.from i) p) es)
        ∙ h.each p
        ∙ ap (count_by (λ q. nat_eq q p)) (sym (edges_stay keeps f b));
    equal = h.equal;
  }

  abbrev WasKept : Rule → Item → Type 0
  WasKept rule item = WasFormed item × Keeps f rule item

  phi_keeps : (rule : Rule) (b : ℕ) (p : Phi) → EdgesKept keeps p.incoming → WasKept rule (phi_item b p) → Keeps (needed keeps f) rule (phi_item b p)
  phi_keeps TypeMismatch b p kept h = (have_types (taken_as p.reg p.incoming) (kept_taken keeps p.reg p.incoming kept) h.1.0, tt)
  phi_keeps NotAvailable b p kept h = (tt, entries_there p.incoming (taken_ok p.reg p.incoming kept h.0.0.operands) h.1.1)
  phi_keeps PhiEdges b p kept h = on_edges b p.incoming h.1
  phi_keeps PhiPlace b p kept h = h.1
  phi_keeps EntryBranch b p kept h = tt
  phi_keeps Index b p kept h = tt
  phi_keeps Cast b p kept h = tt
  phi_keeps CaseTwice b p kept h = tt

  line_keeps : (rule : Rule) (b k j : ℕ) (l : Line) → IsPlaced keeps f b k j → UsesKept keeps l.instr → WasKept rule (line_item b k l) → Keeps (needed keeps f) rule (line_item b j l)
  line_keeps TypeMismatch b k j l placed kept h = (have_types (reads l.instr ++ phi_reads l.instr) (kept_line keeps l.instr h.0.1 kept) h.1.0, h.1.1)
  line_keeps NotAvailable b k j l placed kept h = (
    reads_there b k j placed (reads l.instr)
        (all_front KeptFormed (reads l.instr) (phi_reads l.instr) (with_formed (reads l.instr ++ phi_reads l.instr) (kept_line keeps l.instr h.0.1 kept) h.0.0.operands)) h.1.0,
    no_entries b k j l h.0.1,
  )
  line_keeps PhiEdges b k j l placed kept h = no_edges (needed keeps f) b l.instr h.0.1
  line_keeps PhiPlace b k j l placed kept h = h.1
  line_keeps EntryBranch b k j l placed kept h = tt
  line_keeps Index b k j l placed kept h = h.1
  line_keeps Cast b k j l placed kept h = h.1
  line_keeps CaseTwice b k j l placed kept h = tt

  end_keeps : (rule : Rule) (b : ℕ) (t : Terminator) → EndReads keeps t → WasKept rule (end_item b t) → Keeps (needed keeps f) rule (end_item b t)
  end_keeps TypeMismatch b t kept h = (have_types (end_reads t) (kept_end keeps t kept) h.1.0, end_types t h.1.1)
  end_keeps NotAvailable b t kept h = (
    end_there b (end_reads t) (with_formed (end_reads t) (kept_end keeps t kept) h.0.0.operands) h.1.0,
    all_none (λ e. IsThereAtEnd (needed keeps f) (place (needed keeps f).blocks e.from) e.value),
  )
  end_keeps PhiEdges b t kept h = tt
  end_keeps PhiPlace b t kept h = tt
  end_keeps EntryBranch b t kept h =
      all_then (λ n. place f.blocks n ≡ 0 → ⊥) (λ n. place (needed keeps f).blocks n ≡ 0 → ⊥) (successors t) (λ n away here. away (sym (place_stays keeps f.blocks n) ∙ here)) h.1
  end_keeps Index b t kept h = tt
  end_keeps Cast b t kept h = tt
  end_keeps CaseTwice b t kept h = h.1

  sound_needed : AreBlocksClosed keeps f.blocks → Sound f → Sound (needed keeps f)
  sound_needed closed h = record {
    formed = formed_needed closed h.formed (h.rules PhiPlace);
    rules = λ rule.
        items_all (WasKept rule) (Keeps (needed keeps f) rule)
        (record { phi = phi_keeps rule; line = line_keeps rule; last = end_keeps rule }) closed
        (all_with WasFormed (Keeps f rule) (WasKept rule) (items f) (λ item a b. (a, b))
        (all_with (ItemFormed f) StandsRight WasFormed (items f) (λ item a b. (a, b)) h.formed.items (h.rules PhiPlace)) (h.rules rule));
  }

pub is_sound : NeededIsSound
is_sound f g (keeps, least, is) h = subst Sound (sym is) (sound_needed keeps f least.closed h)
